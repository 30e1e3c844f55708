-- Gates that no network extends, told by their level and their fan-outs.
use Rattle.std.proofs.Common.{◌≡◌, ℕ, ◌+◌, ◌-◌, ◌*◌, ◌/◌, ◌<◌, ◌≤◌, false, eqb, ◌⊎◌, List, length, get_or, replicate, sym, ap, ◌∙◌, subst, inl, inr, arith, length-append}
use lib.ListN.{length-replicate}
use Rattle.std.proofs.lemmas.Bool.{cases_eq, cases_lt, ne_eqb}
use Rattle.mig.specs.declared.network.Gate.{Gate}
use Rattle.mig.specs.declared.question.Question.{Question}
use Rattle.mig.specs.Networks.{Net, Ordered, Formed, size, node, walk, levels, uses}
use Rattle.mig.specs.Questions.{Valid, Within, level}
use Rattle.mig_laws.proofs.Levels.{level_bound}
use Rattle.mig_laws.proofs.Nodes.{level_at}
use Rattle.mig_laws.proofs.Tables.{one_small}
use Rattle.mig_laws.proofs.Walks.{walk_earlier, ordered_left}
use Rattle.canonical_laws.proofs.Pruning.{level_before_output, uses_prefix}
use Rattle.canonical_laws.proofs.Uses.{unused_behind}
use Rattle.enumeration_laws.specs.Limits.{one_lower}
use Rattle.enumeration_laws.specs.Prefixes.{Extends, NoneExtends, with_last_node}

module _ (q : Question) (before : List Gate) (left : ℕ) (net : Net) (valid : Valid q) (e : Extends q before left net) where
  -- the gates are those before, and some behind
  longer : length before < size net
  longer = let p = e.some in omega (arith, ap length e.gates ∙ length-append before e.behind)

  ordered : Ordered (q.inputs + 1) before
  ordered = ordered_left (q.inputs + 1) before e.behind (subst (Ordered (q.inputs + 1)) e.gates e.meets.formed.gates)

  formed : Formed q.inputs (with_last_node q.inputs before)
  formed = record { gates = ordered; output = omega arith }

  -- the level of the last node
  level_of_last : level q.inputs (with_last_node q.inputs before) ≡ get_or (walk levels (replicate (q.inputs + 1) 0) net.gates) (q.inputs + length before) 0
  level_of_last =
      let n = q.inputs in
      let zeros : List ℕ = replicate (n + 1) 0 in
      let i : 2 * (n + length before) / 2 ≡ n + length before = omega arith in
      level_at (walk levels zeros before) (2 * (n + length before))
      ∙ ap (λ j. get_or (walk levels zeros before) j 0) i
      ∙ sym (walk_earlier levels zeros before e.behind 0 (n + length before) (omega (arith, length-replicate {A = ℕ} (n + 1) 0)))
      ∙ ap (λ gs. get_or (walk levels zeros gs) (n + length before) 0) (sym e.gates)

  lower : level q.inputs (with_last_node q.inputs before) ≤ q.limits.depth - 1
  lower = at (cases_lt 0 (length before))
    where
      at : (0 < length before) ⊎ (length before ≤ 0) → level q.inputs (with_last_node q.inputs before) ≤ q.limits.depth - 1
      at (inl some) =
          let below = level_before_output q.inputs net e.meets.formed e.canonical (q.inputs + length before) (omega arith) (omega (arith, longer)) in
          omega (arith, level_of_last, below, e.meets.within.level)
      at (inr none) = omega (arith, level_bound q.inputs (with_last_node q.inputs before))

  few_uses : (j : ℕ) → q.inputs < j → j < q.inputs + 1 + length before → uses j (with_last_node q.inputs before) ≤ q.limits.fan_out
  few_uses j above below = at (cases_eq j (q.inputs + length before))
    where
      at : (j ≡ q.inputs + length before) ⊎ (j ≡ q.inputs + length before → ⊥) → uses j (with_last_node q.inputs before) ≤ q.limits.fan_out
      at (inl same) = omega (arith, unused_behind (q.inputs + 1) j before ordered (omega arith), one_small (eqb (node (2 * (q.inputs + length before))) j), valid.some_fan_out)
      at (inr other) =
          let z : eqb (node (2 * (q.inputs + length before))) j ≡ false = ne_eqb (node (2 * (q.inputs + length before))) j (λ i. other (omega arith)) in
          rw z (omega (arith, uses_prefix j net before e.behind e.gates, e.meets.within.fan_outs j above (omega (arith, longer))))

-- where a network extends the gates, their last node is below the depth limit, and their fan-outs are within theirs
pub none_extends_beyond : (q : Question) (before : List Gate) (left : ℕ) → Valid q
    → (Formed q.inputs (with_last_node q.inputs before) → Within q.inputs (one_lower q.limits) (with_last_node q.inputs before) → ⊥)
    → NoneExtends q before left
none_extends_beyond q before left valid beyond net e =
    beyond (formed q before left net valid e) (record { level = lower q before left net valid e; fan_outs = few_uses q before left net valid e })

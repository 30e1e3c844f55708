use Rattle.std.proofs.Common.{◌≡◌, ℕ, ◌+◌, ◌-◌, Some, IfSome, sym, subst, arith, rules}
use Rattle.std.proofs.lemmas.Bool.Decides.{not_from_Decides}
use Rattle.mig.specs.declared.network.Gate.{Gate}
use Rattle.mig.specs.Networks.{Formed, GateBelow}
use Rattle.mig.specs.Questions.{Within}
use Rattle.gate_order.specs.declared.Candidate.{Candidate}
use Rattle.gate_order.specs.Candidates.{gate_of, IsCandidate, following}
use Rattle.gate_order.proofs.Coverage.{candidate_below}
use Rattle.gate_order.proofs.Order.{follows}
use Rattle.enumeration_laws.specs.Limits.{InLimits, one_lower}
use Rattle.enumeration_laws.specs.Placed.{placed}
use Rattle.enumeration_laws.specs.Prefixes.{NoneExtends, NoneGoesOn, NoneEndsWith, NoneBefore}
use Rattle.enumeration_laws.proofs.Extended.{placed_count, prefix_net}
use Rattle.enumeration_laws.proofs.Prefixes.{none_goes_on, none_before_first, none_before_next, none_before_all}
use Rattle.enumeration_laws.proofs.Pruned.{none_extends_beyond}
use Rattle.find.specs.declared.candidates.Candidates.{Candidates}
use Rattle.find.specs.Candidates.{IsAtCandidate, GivesCandidate}
use Rattle.find.proofs.prefix.Prefix.+extend.Goals as goal
use Rattle.find.proofs.prefix.Prefix.+extend.Goals.{then-left-eq0-via-then-left-eq0, then-left-eq0-via-else-left-eq0+then-not-is_below_limits, else-left-gt1-via-else-left-gt1, else-left-gt1-via-then-left-gt1+in-None-1}

-- a step of the iterator, over the nodes of n inputs and some gates
record Stepped (n k : ℕ) (s t : Candidates) (g : Gate) : Type 0 where
  candidate : Candidate
  is : IsCandidate n k candidate
  at : s.next ≡ Some candidate
  gate : g ≡ gate_of candidate
  then : t.next ≡ following n k candidate

stepped : (n count : ℕ) (s t : Candidates) (g : Gate) → s.nodes.inputs ≡ n → s.nodes.gates ≡ count → IsAtCandidate s
    → GivesCandidate s (Some g) t → Stepped n (n + 1 + count) s t g
stepped n count s t g p q is gives =
    record {
      candidate = gives.1.0;
      is = rw (← p, ← q) (subst (λ o. IfSome o (IsCandidate s.nodes.inputs (s.nodes.inputs + 1 + s.nodes.gates)))
          gives.1.1 is);
      at = gives.1.1;
      gate = gives.1.2;
      then = rw (← p, ← q) gives.1.3;
    }

pub returns-then-left-eq0 : goal.returns-then-left-eq0
returns-then-left-eq0 t c =
    let prefix = c.args.self.now in
    let q = prefix.asked.question in
    let net = prefix_net prefix.is_prefix in
    elim c.then-left-eq0.branch [
      | then-left-eq0-via-then-left-eq0 w ↦ λ other e. omega arith
      | then-left-eq0-via-else-left-eq0+then-not-is_below_limits w ↦
          none_extends_beyond q (placed prefix.network) c.args.left prefix.asked.valid
          (λ formed within. not_from_Decides {P = InLimits q.inputs (one_lower q.limits) prefix.network}
          w.is_below_limits.result w.is_below_limits.ensures w.if-not-is_below_limits.true (
            prefix.asked.valid.inputs,
            omega arith,
            subst (Formed q.inputs) (sym net) formed,
            subst
                (Within q.inputs (one_lower q.limits)) (sym net) within,
          ))
    ]

pub loop-gate-init : goal.loop-gate-init
loop-gate-init t c =
    let prefix = c.args.self.now in
    let q = prefix.asked.question in
    let first = c.behind-gate-items.ensures in
    let e = c.into_iter-gate-iterator.ensures.into_iter_gives in
    record {
      inputs = cc;
      gates = cc;
      none =
          subst (λ (s : Candidates). NoneBefore q (placed prefix.network) c.args.left
          (q.inputs + 1 + prefix.network.count) s.next) (sym e)
          (none_before_first q (placed prefix.network) c.args.left prefix.network.count
          c.behind-gate-items.result.next (placed_count prefix.is_prefix)
          (rw (← c.nodes.ensures.0, ← c.nodes.ensures.1) first.skips_older));
    }

pub next_gate-next-requires-clause-below : goal.next_gate-next-requires-clause-below
next_gate-next-requires-clause-below t c =
    let prefix = c.args.self.now in
    let inv = c.loop-gate.invariant in
    let step = stepped prefix.asked.question.inputs prefix.network.count c.loop-gate.gate-iterator c.next.new.self
    c.in-Some.gate inv.inputs inv.gates c.loop-gate.iterator.0 c.in-Some.ensures.steps in
    subst (GateBelow (prefix.asked.question.inputs + 1 + prefix.network.count)) (sym step.gate)
    (candidate_below _ _ step.candidate step.is)

pub loop-gate-preserved : goal.loop-gate-preserved
loop-gate-preserved t c =
    let prefix = c.args.self.now in
    let q = prefix.asked.question in
    let k = q.inputs + 1 + prefix.network.count in
    let left = c.args.left in
    let inv = c.loop-gate.invariant in
    let g = c.in-Some.gate in
    let step = stepped q.inputs prefix.network.count c.loop-gate.gate-iterator c.next.new.self g inv.inputs inv.gates
    c.loop-gate.iterator.0 c.in-Some.ensures.steps in
    let at = c.next_gate-next.ensures in
    let ended : NoneEndsWith q (placed prefix.network) g = rw (← at.0, ← at.1) c.in_default.ensures in
    let none : NoneGoesOn q (placed prefix.network) left g =
    elim c.else-left-gt1.branch [
      | else-left-gt1-via-else-left-gt1 w ↦ none_goes_on q (placed prefix.network) left g ended
          (λ several. absurd (omega arith))
      | else-left-gt1-via-then-left-gt1+in-None-1 w ↦
          let longer = w.placed.result in
          let extended : NoneExtends longer.asked.question (placed longer.network) (left - 1) = search rules in
          none_goes_on q (placed prefix.network) left g ended
          (λ _. rw (← at.0, ← at.1, ← w.placed.ensures.question, ← w.placed.ensures.gates) extended)
    ] in
    record {
      inputs = cc;
      gates = cc;
      none =
          subst (NoneBefore q (placed prefix.network) left k) (sym step.then)
          (none_before_next q (placed prefix.network) left k step.candidate (following q.inputs k step.candidate)
          (omega arith) step.is (follows q.inputs k (omega arith) step.candidate step.is).between
          (subst (NoneBefore q (placed prefix.network) left k) step.at inv.none)
          (subst (NoneGoesOn q (placed prefix.network) left) step.gate none));
    }

pub returns : goal.returns
returns t c =
    let prefix = c.args.self.now in
    let q = prefix.asked.question in
    none_before_all q (placed prefix.network) c.args.left prefix.network.count (placed_count prefix.is_prefix)
    (subst (NoneBefore q (placed prefix.network) c.args.left (q.inputs + 1 + prefix.network.count))
    c.in-None.ensures.steps.1.0 c.loop-gate.invariant.none)

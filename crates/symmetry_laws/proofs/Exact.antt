-- The clauses of a question and exactly r gates: an assignment that satisfies them tells a network of r gates that meets the
-- question, and of what a network meets they have such an assignment for some r that is no larger.
use Rattle.std.proofs.Common.{◌≡◌, ℕ, suc, ◌≤◌, ◌⊎◌, refl, inl, inr, arith}
use Rattle.mig.specs.declared.question.Question.{Question}
use Rattle.mig.specs.Networks.{Net, size}
use Rattle.mig.specs.Questions.{Meets}
use Rattle.canonical_laws.specs.Canonical.{Canonical}
use Rattle.canonical_laws.specs.Neighbours.{OrderedNeighbours}
use Rattle.canonical_laws.proofs.Neighbours.{Lower, neighbours_or_lower, good_exists}
use Rattle.cnf.specs.Clauses.{clauses_of}
use Rattle.cnf.specs.Meaning.{Assignment, Satisfies, read_net, meaning}
use Rattle.cnf_laws.proofs.Satisfied.{satisfies_both, satisfies_left}
use Rattle.cnf_laws.proofs.ReadBack.{length-read_gates}
use Rattle.cnf_laws.proofs.ReadBackFanOuts.{read_net_meets}
use Rattle.cnf_laws.proofs.Meanings.{meaning_satisfies}
use Rattle.symmetry_laws.specs.Symmetry.{symmetry_clauses, exact_clauses}
use Rattle.symmetry_laws.proofs.Inputs.{nodes_key, InputsInOrder, inputs_or_lower}
use Rattle.symmetry_laws.proofs.Satisfy.{canonical_satisfies}

-- an assignment that satisfies the clauses tells a network of r gates that meets the question
pub satisfied_tells : (q : Question) (r : ℕ) (s : Assignment) → 1 ≤ q.limits.fan_out → Satisfies s (exact_clauses q r)
    → (size (read_net q.inputs r s) ≡ r) × Meets q (read_net q.inputs r s)
satisfied_tells q r s some h = (length-read_gates s (suc q.inputs) r, read_net_meets q r s some (satisfies_left s _ (symmetry_clauses q.inputs q.table r) h))

-- the neighbours of a network and its inputs are in order
abbrev InOrder : Question → Net → Type 0
InOrder q net = OrderedNeighbours nodes_key q.inputs net × InputsInOrder q.inputs q.table net

in_order_or_lower : (q : Question) (net : Net) → Meets q net → Canonical q.inputs net → InOrder q net ⊎ Lower nodes_key q net
in_order_or_lower q net h c =
    elim (neighbours_or_lower nodes_key q net h c) [
      | inr lower ↦ inr lower
      | inl o ↦ elim (inputs_or_lower q net h c) [ inl i ↦ inl (o, i) | inr lower ↦ inr lower ]
    ]

-- if a network of at most m gates meets the question, an assignment satisfies the clauses for some r of at most m
pub network_satisfies : (q : Question) (m : ℕ) (net : Net) → 1 ≤ q.limits.fan_out → size net ≤ m → Meets q net
    → (r : ℕ) × (r ≤ m) × ((s : Assignment) × Satisfies s (exact_clauses q r))
network_satisfies q m net some l h =
    let (other, c, o) = good_exists nodes_key q (InOrder q) (in_order_or_lower q) net h in
    let n = q.inputs in
    let r = size other in
    let s = meaning n r other in (
      r,
      omega (arith, c.no_larger),
      (
        s,
        satisfies_both s (clauses_of n q.table q.limits.depth q.limits.fan_out r) (symmetry_clauses n q.table r)
            (meaning_satisfies q r other some refl c.meets) (canonical_satisfies n q.table r other refl c.meets.formed c.canonical o.0 o.1),
      ),
    )

-- A padded network is well-formed and meets what the network meets.
use Rattle.std.proofs.Common.{◌≡◌, ℕ, zero, suc, ◌+◌, ◌-◌, ◌<◌, ◌≤◌, List, [], ◌∷◌, length, replicate, refl, ap, ◌∙◌, inl, inr, arith}
use Rattle.std.proofs.lemmas.Bool.{cases_lt}
use Rattle.std.proofs.lemmas.List.{length-append, length-replicate}
use Rattle.mig.specs.declared.network.Gate.{Gate}
use Rattle.mig.specs.declared.question.Question.{Question}
use Rattle.mig.specs.Networks.{Net, size, Kind, value_at, walk, output_value, bits, levels, empty_gate, Ordered, Formed, uses_in, uses}
use Rattle.mig.specs.Questions.{row_start, Meets}
use Rattle.mig_laws.proofs.Walks.{walk-append, length-walk, uses_in-append, ordered_both}
use Rattle.cnf.specs.Meaning.{padded}
use Rattle.cnf_laws.proofs.Equations.{length-row_start, value_kept}
use Rattle.cnf_laws.proofs.Uses.{names_none}

pub size_padded : (r : ℕ) (net : Net) → size net ≤ r → size (padded r net) ≡ r
size_padded r net h = omega (arith, length-append net.gates (replicate (r - size net) empty_gate), length-replicate (r - size net) empty_gate)

-- empty gates name no node but 0
empty_gates_ordered : (m k : ℕ) → 0 < m → Ordered m (replicate k empty_gate)
unfolding Ordered
empty_gates_ordered m zero h = tt
empty_gates_ordered m (suc k) h = ((h, h, h), empty_gates_ordered (m + 1) k (omega arith))

empty_gates_use_none : (j k : ℕ) → 0 < j → uses_in j (replicate k empty_gate) ≡ 0
unfolding uses_in
empty_gates_use_none j zero h = refl
empty_gates_use_none j (suc k) h = omega (arith, names_none j 0 h, empty_gates_use_none j k h)

-- no gate names a node behind all
unused : (m j : ℕ) (gs : List Gate) → Ordered m gs → m + length gs ≤ j → uses_in j gs ≡ 0
unfolding uses_in Ordered
unused m j [] o h = refl
unused m j (g ∷ gs) o h =
    omega (
      arith,
      names_none j g.first (omega (arith, o.0.0)),
      names_none j g.second (omega (arith, o.0.1)),
      names_none j g.third (omega (arith, o.0.2)),
      unused (m + 1) j gs o.1 (omega arith),
    )

pub formed_padded : (n r : ℕ) (net : Net) → Formed n net → Formed n (padded r net)
formed_padded n r net f =
    let padding = replicate (r - size net) empty_gate in
    record {
      gates = ordered_both (n + 1) (n + 1 + size net) net.gates padding refl f.gates (empty_gates_ordered (n + 1 + size net) (r - size net) (omega arith));
      output = omega (arith, length-append net.gates padding, f.output);
    }

-- the padding leaves the value of the output
output_padded : {V : Type 0} (k : Kind V) (vs : List V) (n r : ℕ) (net : Net) → length vs ≡ n + 1 → Formed n net
    → output_value k vs (padded r net) ≡ output_value k vs net
output_padded k vs n r net e f =
    let padding = replicate (r - size net) empty_gate in
    ap (λ us. value_at k us net.output) (walk-append k vs net.gates padding)
    ∙ value_kept k (walk k vs net.gates) padding net.output (omega (arith, length-walk k vs net.gates, f.output))

uses_padded : (j r : ℕ) (net : Net) → 0 < j → uses j (padded r net) ≡ uses j net
uses_padded j r net h =
    omega (arith, uses_in-append j net.gates (replicate (r - size net) empty_gate), empty_gates_use_none j (r - size net) h)

pub meets_padded : (q : Question) (r : ℕ) (net : Net) → Meets q net → Meets q (padded r net)
meets_padded q r net m =
    let n = q.inputs in
    record {
      formed = formed_padded n r net m.formed;
      computes = λ t l. output_padded bits (row_start n t) n r net (length-row_start n t) m.formed ∙ m.computes t l;
      within = record {
        level = omega (arith, output_padded levels (replicate (n + 1) 0) n r net (length-replicate {A = ℕ} (n + 1) 0) m.formed, m.within.level);
        fan_outs = λ j a b.
            elim (cases_lt j (n + 1 + size net)) [
              | inl l ↦ omega (arith, uses_padded j r net (omega arith), m.within.fan_outs j a l)
              | inr l ↦
                  omega (
                    arith,
                    uses_padded j r net (omega arith),
                    unused (n + 1) j net.gates m.formed.gates l,
                    names_none j net.output (omega (arith, m.formed.output)),
                  )
            ];
      };
    }

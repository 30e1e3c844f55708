-- The seven groups of clauses, apart and together.
use Rattle.std.proofs.Common.{ℕ}
use Rattle.cnf.specs.Clauses.{fan_ins_chosen, fan_in_values, gate_values, output_chosen, output_values, levels_limited, fan_outs_limited, clauses_of}
use Rattle.cnf.specs.Meaning.{Assignment, Satisfies}
use Rattle.cnf_laws.proofs.Satisfied.{satisfies_both, satisfies_left, satisfies_right}

-- the assignment satisfies each group
pub record SatisfiesGroups (n table d f r : ℕ) (s : Assignment) : Type 0 where
  pub fan_ins : Satisfies s (fan_ins_chosen n r)
  pub fan_in_bits : Satisfies s (fan_in_values n r)
  pub gate_bits : Satisfies s (gate_values n r)
  pub output : Satisfies s (output_chosen n r)
  pub table_bits : Satisfies s (output_values n table r)
  pub levels : Satisfies s (levels_limited n d r)
  pub fan_outs : Satisfies s (fan_outs_limited n f r)

pub groups_from_clauses : (n table d f r : ℕ) (s : Assignment) → Satisfies s (clauses_of n table d f r) → SatisfiesGroups n table d f r s
unfolding clauses_of
groups_from_clauses n table d f r s h =
    let h2 = satisfies_right s (fan_ins_chosen n r) _ h in
    let h3 = satisfies_right s (fan_in_values n r) _ h2 in
    let h4 = satisfies_right s (gate_values n r) _ h3 in
    let h5 = satisfies_right s (output_chosen n r) _ h4 in
    let h6 = satisfies_right s (output_values n table r) _ h5 in
    let h7 = satisfies_right s (levels_limited n d r) _ h6 in
    record {
      fan_ins = satisfies_left s (fan_ins_chosen n r) _ h;
      fan_in_bits = satisfies_left s (fan_in_values n r) _ h2;
      gate_bits = satisfies_left s (gate_values n r) _ h3;
      output = satisfies_left s (output_chosen n r) _ h4;
      table_bits = satisfies_left s (output_values n table r) _ h5;
      levels = satisfies_left s (levels_limited n d r) _ h6;
      fan_outs = h7;
    }

pub clauses_from_groups : (n table d f r : ℕ) (s : Assignment) → SatisfiesGroups n table d f r s → Satisfies s (clauses_of n table d f r)
unfolding clauses_of
clauses_from_groups n table d f r s g =
    satisfies_both s (fan_ins_chosen n r) _ g.fan_ins
    (satisfies_both s (fan_in_values n r) _ g.fan_in_bits
    (satisfies_both s (gate_values n r) _ g.gate_bits
    (satisfies_both s (output_chosen n r) _ g.output
    (satisfies_both s (output_values n table r) _ g.table_bits
    (satisfies_both s (levels_limited n d r) _ g.levels g.fan_outs)))))

-- The answer for a gate as the last one, where a code fits.
use Rattle.std.proofs.Common.{◌≡◌, ℕ, ◌+◌, ◌<◌, Bool, true, false, List, length, Some, MatchOption, Decides, refl, subst, arith}
use Rattle.std.specs.Bool.{then_some}
use Rattle.std.proofs.lemmas.List.{length_push}
use Rattle.std.proofs.lemmas.Bool.Decides.{not_from_Decides}
use Rattle.mig.specs.declared.network.Gate.{Gate}
use Rattle.mig.specs.declared.network.Network.{Network}
use Rattle.mig.specs.declared.question.Question.{Question}
use Rattle.mig.specs.Networks.{network_of, Formed}
use Rattle.mig.specs.Questions.{Valid, Meets, Within}
use Rattle.value_kinds.specs.declared.kinds.Column.{Column}
use Rattle.enumeration_laws.specs.Columns.{gate_column, fitting_code}
use Rattle.enumeration_laws.specs.Limits.{InLimits}
use Rattle.enumeration_laws.specs.Prefixes.{NoneEndsWith, with_gate}
use Rattle.enumeration_laws.proofs.Fits.{fit_computes, fit_fails}
use Rattle.enumeration_laws.proofs.Found.{net_written, meets_in_limits}

-- a gate behind others, the node k, with its column: where a code fits, the network with it meets the question if it is
-- within the limits, and else none that ends with the gate does
pub fit_answers : (q : Question) (before : List Gate) (g : Gate) (k : ℕ) (x : Column) → Valid q
    → q.inputs + 1 + length before ≡ k → x ≡ gate_column q.inputs before g
    → (network : Network) (o : ℕ) → fitting_code q k x ≡ Some o → length before < 7
    → network ≡ network_of (with_gate before g o)
    → (within : Bool) → Decides within (InLimits q.inputs q.limits network)
    → MatchOption (then_some within o) (NoneEndsWith q before g) (λ o. Meets q (with_gate before g o))
fit_answers q before g k x valid nodes is network o fits few written true within =
    let limits = within.0 refl in
    let same = net_written network (with_gate before g o) written in
    record {
      formed = subst (Formed q.inputs) same limits.2;
      computes = (fit_computes q before g k x valid nodes is o fits).0;
      within = subst (Within q.inputs q.limits) same limits.3;
    }
fit_answers q before g k x valid nodes is network o fits few written false within =
    let p = length_push before g in
    fit_fails q before g k x valid nodes is o fits
    (λ meets. not_from_Decides {P = InLimits q.inputs q.limits network} false within refl
    (meets_in_limits q network (with_gate before g o) written valid (omega arith) meets))

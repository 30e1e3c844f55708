-- From the answer of `examine` to the subject's words, and the exits of its code.
use Rattle.std.proofs.Common.{◌≡◌, ℕ, ◌%◌, ◌^◌, ◌<◌, ◌≤◌, Bool, true, false, not, eqb, ltb, is_ok, IfOk, Some, None, Ok, Err, Decides, Option, Result, sym, refl, ap, ◌∙◌, subst, arith, pow_mono}
use Rattle.std.proofs.lemmas.Bool.{eq-eqb, ne_eqb, lt-ltb, le-ltb}
use Rattle.mig.specs.declared.network.Network.{Network}
use Rattle.mig.specs.declared.question.Question.{Question}
use Rattle.mig.specs.declared.refusal.Refusal.{Refusal}
use Rattle.mig.specs.declared.refusal.Refusal.TheVariants.{WrongTable, LevelAboveLimit, FanOutAboveLimit}
use Rattle.mig.specs.Networks.{net_of, greatest_fan_out}
use Rattle.mig.specs.Tables.{table_from}
use Rattle.mig.specs.Questions.{Valid, Meets, IsGreatestFanOut, row_bit, level}
use Rattle.mig.specs.Rules.{or_else, refuse_if, unless_refused, inputs_refusal, question_refusal, form_refusal, examine_refusal, examined, is_computed}
use Rattle.value_kinds.specs.declared.kinds.Column.{Column}
use Rattle.mig_laws.proofs.Decisions.{column_decides}
use Rattle.mig_laws.proofs.Refusals.{passes, question-passes, accepted, examine_passes, examined_network, greatest_fan_out_lem, none_from_ok, value_from_ok}

-- accepted exactly when the network meets the question
pub accepted_when_met : (q : Question) (network : Network) (r : Result (ℕ × ℕ) Refusal) → r ≡ examined q network
    → Decides (is_ok r) (Valid q × (network.count ≤ 7) × Meets q (net_of network))
accepted_when_met q network r e = accepted r (examine_refusal q network) _ e (examine_passes q network)

-- the pair is the level and the greatest fan-out
pub pair_told : (q : Question) (network : Network) (r : Result (ℕ × ℕ) Refusal) → r ≡ examined q network
    → IfOk r (λ p. (p.0 ≡ level q.inputs (net_of network)) × IsGreatestFanOut q.inputs (net_of network) p.1)
pair_told q network r e = subst (λ s. IfOk s (λ p. (p.0 ≡ level q.inputs (net_of network)) × IsGreatestFanOut q.inputs (net_of network) p.1)) (sym e) (at (examine_refusal q network))
  where
    at : (o : Option Refusal) → IfOk (unless_refused {X = ℕ × ℕ} o (level q.inputs (net_of network), greatest_fan_out q.inputs (net_of network))) (λ p. (p.0 ≡ level q.inputs (net_of network)) × IsGreatestFanOut q.inputs (net_of network) p.1)
    at (Some e) = tt
    at None = (refl, greatest_fan_out_lem q.inputs (net_of network))

-- the answer where question and form have passed, by the three tests that are left
compared : (q : Question) (network : Network) (computed deep wide : Bool) → question_refusal q ≡ None → form_refusal q.inputs network ≡ None
    → is_computed q.inputs q.table (net_of network) ≡ computed
    → ltb q.limits.depth (level q.inputs (net_of network)) ≡ deep
    → ltb q.limits.fan_out (greatest_fan_out q.inputs (net_of network)) ≡ wide
    → examined q network ≡ unless_refused (or_else (refuse_if (not computed) WrongTable) (or_else (refuse_if deep LevelAboveLimit) (refuse_if wide FanOutAboveLimit))) (level q.inputs (net_of network), greatest_fan_out q.inputs (net_of network))
compared q network computed deep wide a b c d w = examined_network q network a ∙ rw (b, c, d, w)

-- what `examine` has learnt once the table is compared
pub record Learnt (q : Question) (network : Network) (computed : Bool) : Type 0 where
  pub question : question_refusal q ≡ None
  pub form : form_refusal q.inputs network ≡ None
  pub table : is_computed q.inputs q.table (net_of network) ≡ computed

-- the column's first rows tell whether the table is computed
pub learnt : (q : Question) (network : Network) (column : Column) (tables : ℕ)
    → ◌≡◌ {A = Result (Unit {0}) Refusal} (Ok tt) (unless_refused (question_refusal q) tt)
    → Ok column ≡ unless_refused (form_refusal q.inputs network) (record { rows = table_from 16 0 (row_bit q.inputs (net_of network)) })
    → Ok tables ≡ unless_refused (inputs_refusal q.inputs) (2 ^ (2 ^ q.inputs))
    → Learnt q network (eqb (column.rows % tables) q.table)
learnt q network column tables a b t =
    let question = none_from_ok (question_refusal q) tt tt a in
    let v = (question-passes q).0 (ap passes question) in
    let e = ap (λ (c : Column). c.rows) (value_from_ok (form_refusal q.inputs network) (record { rows = table_from 16 0 (row_bit q.inputs (net_of network)) }) column b) in
    let f = value_from_ok (inputs_refusal q.inputs) (2 ^ (2 ^ q.inputs)) tables t in
    record {
      question = question;
      form = none_from_ok (form_refusal q.inputs network) (record { rows = table_from 16 0 (row_bit q.inputs (net_of network)) }) column b;
      table = sym (rw (e, f) (column_decides 16 q.inputs q.table (net_of network) (pow_mono {j = 4} v.inputs) v.table));
    }

pub wrong_table : (q : Question) (network : Network) (x : ℕ) → Learnt q network (eqb x q.table) → (x ≡ q.table → ⊥) → Err WrongTable ≡ examined q network
wrong_table q network x l n = sym (compared q network false _ _ l.question l.form (l.table ∙ ne_eqb x q.table n) refl refl)

pub too_deep : (q : Question) (network : Network) (x d : ℕ) → Learnt q network (eqb x q.table) → x ≡ q.table
    → Ok d ≡ unless_refused (form_refusal q.inputs network) (level q.inputs (net_of network)) → q.limits.depth < d → Err LevelAboveLimit ≡ examined q network
too_deep q network x d l e h a =
    let v = value_from_ok (form_refusal q.inputs network) (level q.inputs (net_of network)) d h in
    sym (compared q network true true _ l.question l.form (l.table ∙ eq-eqb x q.table e) (lt-ltb q.limits.depth (level q.inputs (net_of network)) (omega arith)) refl)

-- within the depth limit, the fan-out decides
pub shallow : (q : Question) (network : Network) (x d f : ℕ) → Learnt q network (eqb x q.table) → x ≡ q.table
    → Ok d ≡ unless_refused (form_refusal q.inputs network) (level q.inputs (net_of network)) → d ≤ q.limits.depth
    → Ok f ≡ unless_refused (form_refusal q.inputs network) (greatest_fan_out q.inputs (net_of network))
    → (wide : Bool) → ltb q.limits.fan_out f ≡ wide
    → unless_refused (refuse_if wide FanOutAboveLimit) (d, f) ≡ examined q network
shallow q network x d f l e h a g wide w =
    let v = value_from_ok (form_refusal q.inputs network) (level q.inputs (net_of network)) d h in
    let u = value_from_ok (form_refusal q.inputs network) (greatest_fan_out q.inputs (net_of network)) f g in
    sym (compared q network true false wide l.question l.form (l.table ∙ eq-eqb x q.table e) (le-ltb q.limits.depth (level q.inputs (net_of network)) (omega arith)) (ap (ltb q.limits.fan_out) (sym u) ∙ w)
    ∙ rw (← v, ← u))

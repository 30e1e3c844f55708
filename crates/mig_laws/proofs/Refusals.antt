-- A call is accepted exactly when none of its refusals applies, in the subject's words.
use Rattle.std.proofs.Common.{◌≡◌, ℕ, ◌+◌, ◌-◌, ◌^◌, ◌<◌, ◌≤◌, Bool, true, false, not, ◌&&◌, ◌||◌, eqb, ltb, leb, is_some, is_ok, Some, None, Ok, Err, Decides, Option, Result, refl, ap, ◌∙◌, subst, arith}
use mathlib.Core.Bool.{not-not}
use Rattle.std.proofs.lemmas.Bool.{true≢false, ltb-false, le-ltb, leb-false, lt-leb, leb-true, le-leb, false≢true, not-true, not_from_false, eqb-false, ne_eqb, or_parts, or_from}
use Rattle.std.proofs.lemmas.Bool.Decides.{Decides-and, Decides-like, Decides-at}
use Rattle.mig.specs.declared.network.Network.{Network}
use Rattle.mig.specs.declared.question.Question.{Question}
use Rattle.mig.specs.declared.refusal.Refusal.{Refusal}
use Rattle.mig.specs.declared.refusal.Refusal.TheVariants.{InputsAboveFour}
use Rattle.mig.specs.Networks.{Net, net_of, size, uses, greatest, greatest_fan_out, Formed}
use Rattle.mig.specs.Questions.{Valid, Within, Meets, IsGreatestFanOut, Computes, level}
use Rattle.mig.specs.Rules.{refuse_if, or_else, unless_refused, inputs_refusal, table_refusal, question_refusal, network_refusal, form_refusal, unmet_refusal, examine_refusal, examined, is_formed, is_computed}
use Rattle.mig_laws.proofs.Decisions.{decides_formed, decides_computes, decides_leb, decides_greatest, greatest_above, greatest_attained}

-- there is no refusal
abbrev pub passes : Option Refusal → Bool
passes o = not (is_some o)

ok_unless : {X : Type 0} (o : Option Refusal) (x : X) → is_ok (unless_refused o x) ≡ passes o
ok_unless (Some e) x = refl
ok_unless None x = refl

-- an answer is given exactly if no refusal applies
pub accepted : {X P : Type 0} (r : Result X Refusal) (o : Option Refusal) (x : X) → r ≡ unless_refused o x → Decides (passes o) P → Decides (is_ok r) P
accepted r o x e d = Decides-at (is_ok r) (passes o) (ap is_ok e ∙ ok_unless o x) d

-- where an answer is given, no refusal applies
pub none_from_ok : {X : Type 0} (o : Option Refusal) (x y : X) → Ok y ≡ unless_refused o x → o ≡ None
none_from_ok (Some e) x y h = absurd (true≢false (ap is_ok h))
none_from_ok None x y h = refl

pub value_from_ok : {X : Type 0} (o : Option Refusal) (x y : X) → Ok y ≡ unless_refused o x → y ≡ x
value_from_ok (Some e) x y h = absurd (true≢false (ap is_ok h))
value_from_ok None x y h = cc

pub some_from_err : {X : Type 0} (o : Option Refusal) (x : X) (e : Refusal) → Err e ≡ unless_refused o x → o ≡ Some e
some_from_err (Some d) x e h = cc
some_from_err None x e h = absurd (false≢true (ap is_ok h))

-- two answers that are equal where none is refused
unless_same : {X : Type 0} (o : Option Refusal) (x y : X) → (o ≡ None → x ≡ y) → unless_refused o x ≡ unless_refused o y
unless_same (Some e) x y h = refl
unless_same None x y h = ap Ok (h refl)

pub passes_if : {P : Type 0} (t : Bool) (e : Refusal) → Decides (not t) P → Decides (passes (refuse_if t e)) P
passes_if true e d = d
passes_if false e d = d

pub passes_both : {P Q : Type 0} (a b : Option Refusal) → Decides (passes a) P → Decides (passes b) Q → Decides (passes (or_else a b)) (P × Q)
passes_both (Some e) b d f = (λ h. absurd (false≢true h), λ h. d.1 h.0)
passes_both None b d f = (λ h. (d.0 refl, f.0 h), λ h. f.1 h.1)

decides_lt : (a b : ℕ) → Decides (not (leb b a)) (a < b)
decides_lt a b = (λ e. leb-false b a (not-true (leb b a) e), λ h. not_from_false (leb b a) (lt-leb b a h))

decides_between : (f : ℕ) → Decides (not (eqb f 0 || ltb 19 f)) ((1 ≤ f) × (f ≤ 19))
decides_between f = (
  λ e. let (z, l) = or_parts (eqb f 0) (ltb 19 f) (not-true (eqb f 0 || ltb 19 f) e) in (positive (eqb-false f 0 z), ltb-false 19 f l),
  λ h. not_from_false (eqb f 0 || ltb 19 f) (or_from (eqb f 0) (ltb 19 f) (ne_eqb f 0 (λ e. omega (arith, h.0))) (le-ltb 19 f h.1)),
)
  where
    positive : (f ≡ 0 → ⊥) → 1 ≤ f
    positive n = omega arith

-- a table passes exactly if it is one of up to four inputs
pub inputs_pass : (n : ℕ) → Decides (passes (inputs_refusal n)) (n ≤ 4)
inputs_pass n = passes_if _ _ (decides_leb n 4)

pub table-passes : (n table : ℕ) → Decides (passes (table_refusal n table)) ((n ≤ 4) × (table < 2 ^ (2 ^ n)))
table-passes n table = passes_both _ _ (inputs_pass n) (passes_if _ _ (decides_lt table (2 ^ (2 ^ n))))

-- a question passes exactly if it is within bounds
pub question-passes : (q : Question) → Decides (passes (question_refusal q)) (Valid q)
question-passes q =
    let f = q.limits.fan_out in
    Decides-like (passes (question_refusal q))
    (λ h. record { inputs = h.0; table = h.1.0; depth = h.1.1.0; some_fan_out = h.1.1.1.0; fan_out = h.1.1.1.1 })
    (λ v. (v.inputs, (v.table, (v.depth, (v.some_fan_out, v.fan_out)))))
    (passes_both _ _ (passes_if _ _ (decides_leb q.inputs 4))
    (passes_both _ _ (passes_if _ _ (decides_lt q.table (2 ^ (2 ^ q.inputs))))
    (passes_both _ _ (passes_if _ _ (decides_leb q.limits.depth 7)) (passes_if _ _ (decides_between f)))))

-- a network passes exactly if it has at most seven gates and is well-formed
network_passes : (n : ℕ) (network : Network) → Decides (passes (network_refusal n network)) ((network.count ≤ 7) × Formed n (net_of network))
network_passes n network =
    let t = leb network.count 7 && is_formed n (net_of network) in
    passes_if (not t) _ (Decides-at (not (not t)) t (not-not t) (Decides-and _ _ (decides_le network.count 7) (decides_formed n (net_of network))))
  where
    decides_le : (a b : ℕ) → Decides (leb a b) (a ≤ b)
    decides_le a b = (leb-true a b, le-leb a b)

pub form_passes : (n : ℕ) (network : Network) → Decides (passes (form_refusal n network)) ((n ≤ 4) × (network.count ≤ 7) × Formed n (net_of network))
form_passes n network =
    Decides-like (passes (form_refusal n network)) (λ h. (h.0, h.1.0, h.1.1)) (λ h. (h.0, (h.1, h.2)))
    (passes_both _ _ (passes_if _ _ (decides_leb n 4)) (network_passes n network))

none_if_passing : (o : Option Refusal) → passes o ≡ true → o ≡ None
none_if_passing (Some e) h = absurd (false≢true h)
none_if_passing None h = refl

pub formed_not_refused : (n : ℕ) (network : Network) → n ≤ 4 → network.count ≤ 7 → Formed n (net_of network) → form_refusal n network ≡ None
formed_not_refused n network few gates f = none_if_passing (form_refusal n network) ((form_passes n network).1 (few, gates, f))

pub inputs_not_refused : (n : ℕ) → n ≤ 4 → inputs_refusal n ≡ None
inputs_not_refused n few = none_if_passing (inputs_refusal n) ((inputs_pass n).1 few)

-- a network that is not refused
pub none_means_formed : (n : ℕ) (network : Network) → network_refusal n network ≡ None → (network.count ≤ 7) × Formed n (net_of network)
none_means_formed n network e = (network_passes n network).0 (ap passes e)

-- the answer of a call on a network, where its value is y for up to four inputs
pub answer_of_form : {X : Type 0} (n : ℕ) (network : Network) (r : Result X Refusal) (x y : X) → r ≡ unless_refused (form_refusal n network) x → (n ≤ 4 → network.count ≤ 7 → x ≡ y)
    → r ≡ unless_refused (form_refusal n network) y
answer_of_form n network r x y h e =
    h ∙ unless_same (form_refusal n network) x y (λ o. let f = (form_passes n network).0 (ap passes o) in e f.0 f.1)

-- a gate by its node, and by its place
by_node : (n k : ℕ) (P : ℕ → Type 0) → ((i : ℕ) → i < k → P (n + 1 + i)) → (j : ℕ) → n < j → j < n + 1 + k → P j
by_node n k P h j a b =
    let e : n + 1 + (j - (n + 1)) ≡ j = omega arith in
    subst P e (h (j - (n + 1)) (omega arith))

-- a well-formed network passes exactly if it computes the table within the limits
unmet_passes : (q : Question) (net : Net) → Decides (passes (unmet_refusal q net)) (Computes q.inputs q.table net × Within q.inputs q.limits net)
unmet_passes q net =
    let n = q.inputs in
    let f : ℕ → ℕ = λ i. uses (n + 1 + i) net in
    let limit = q.limits.fan_out in
    let c = is_computed n q.table net in
    Decides-like (passes (unmet_refusal q net))
    (λ h. (h.0, record { level = h.1.0; fan_outs = by_node n (size net) (λ j. uses j net ≤ limit) h.1.1 }))
    (λ h. (h.0, (h.1.level, λ i l. h.1.fan_outs (n + 1 + i) (omega arith) (omega arith))))
    (passes_both _ _ (passes_if (not c) _ (Decides-at (not (not c)) c (not-not c) (decides_computes n q.table net)))
    (passes_both _ _ (passes_if _ _ (decides_leb (level n net) q.limits.depth)) (passes_if _ _ (decides_greatest (size net) f limit))))

-- a network is accepted exactly when it meets the question
pub examine_passes : (q : Question) (network : Network) → Decides (passes (examine_refusal q network)) (Valid q × (network.count ≤ 7) × Meets q (net_of network))
examine_passes q network =
    Decides-like (passes (examine_refusal q network))
    (λ h. (h.0, h.1.0.0, record { formed = h.1.0.1; computes = h.1.1.0; within = h.1.1.1 }))
    (λ h. (h.0, ((h.1, h.2.formed), (h.2.computes, h.2.within))))
    (passes_both _ _ (question-passes q) (passes_both _ _ (network_passes q.inputs network) (unmet_passes q (net_of network))))

-- the answer of `examine` to a question within bounds: the form of the network first, then what it computes
pub examined_network : (q : Question) (network : Network) → question_refusal q ≡ None
    → examined q network ≡ unless_refused (or_else (form_refusal q.inputs network) (unmet_refusal q (net_of network))) (level q.inputs (net_of network), greatest_fan_out q.inputs (net_of network))
examined_network q network a =
    let i : inputs_refusal q.inputs ≡ None = ap (λ (t : Bool). refuse_if t InputsAboveFour) (le-ltb 4 q.inputs ((question-passes q).0 (ap passes a)).inputs) in
    rw (a, i)

-- the greatest fan-out, by its gates
pub greatest_fan_out_lem : (n : ℕ) (net : Net) → IsGreatestFanOut n net (greatest_fan_out n net)
unfolding greatest
greatest_fan_out_lem n net =
    record {
      above = by_node n (size net) (λ j. uses j net ≤ greatest_fan_out n net) (greatest_above (size net) (λ i. uses (n + 1 + i) net));
      attained = λ h. let (i, l, e) = greatest_attained (size net) (λ i. uses (n + 1 + i) net) h in (n + 1 + i, omega arith, omega arith, e);
      none = λ e. ap (λ (k : ℕ). greatest k (λ i. uses (n + 1 + i) net)) e;
    }

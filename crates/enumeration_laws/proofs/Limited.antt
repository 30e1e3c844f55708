-- Levels and fan-outs, as the calls answer them, decide whether the limits are kept.
use Rattle.std.proofs.Common.{◌≡◌, ℕ, ◌+◌, ◌<◌, ◌≤◌, Bool, true, false, leb, Ok, Err, Result, MatchResult, Decides, sym, ap, ◌∙◌, subst, arith}
use Rattle.std.proofs.lemmas.Bool.{false≢true, leb-true, leb-false, le-leb, ltb-false, not-true}
use Rattle.mig.specs.declared.network.Network.{Network}
use Rattle.mig.specs.declared.question.Limits.{Limits}
use Rattle.mig.specs.declared.refusal.Refusal.{Refusal}
use Rattle.mig.specs.Networks.{Net, net_of, size, uses, greatest_fan_out}
use Rattle.mig.specs.Questions.{level}
use Rattle.mig.specs.Rules.{unless_refused, form_refusal}
use Rattle.enumeration_laws.specs.Limits.{InLimits}
use Rattle.mig_laws.proofs.Decisions.{decides_greatest}
use Rattle.mig_laws.proofs.Refusals.{passes, form_passes, none_from_ok, value_from_ok, some_from_err, greatest_fan_out_lem}

greatest_within : (n limit : ℕ) (net : Net) → ((j : ℕ) → n < j → j < n + 1 + size net → uses j net ≤ limit) → greatest_fan_out n net ≤ limit
greatest_within n limit net each =
    ltb-false limit (greatest_fan_out n net)
    (not-true _ ((decides_greatest (size net) (λ i. uses (n + 1 + i) net) limit).1 (λ i l. each (n + 1 + i) (omega arith) (omega arith))))

-- where a call refuses the form, the network is not in the limits
refused_decides : {X : Type 0} (n : ℕ) (limits : Limits) (network : Network) (x : X) (e : Refusal)
    → Err e ≡ unless_refused (form_refusal n network) x → Decides false (InLimits n limits network)
refused_decides n limits network x e h = (
  λ t. absurd (false≢true t),
  λ within. sym (ap passes (some_from_err (form_refusal n network) x e h)) ∙ (form_passes n network).1 (within.0, within.1, within.2),
)

-- the answers of the two calls, and whether they are within the limits
module _ (n : ℕ) (limits : Limits) (network : Network) (low few : Bool) where
  -- where the level is refused or too high, the network is not in the limits
  pub high_decides : (l : Result ℕ Refusal) → l ≡ unless_refused (form_refusal n network) (level n (net_of network))
      → MatchResult l (λ x. low ≡ leb x limits.depth) (λ _. low ≡ false) → low ≡ false
      → Decides false (InLimits n limits network)
  high_decides (Err e) l low_is high = refused_decides n limits network (level n (net_of network)) e l
  high_decides (Ok x) l low_is high =
      let a = value_from_ok (form_refusal n network) (level n (net_of network)) x l in
      let b : limits.depth < x = leb-false x limits.depth (sym low_is ∙ high) in (
        λ t. absurd (false≢true t),
        λ within. absurd (omega (arith, within.3.level)),
      )

  -- where the level is within the depth limit, the greatest fan-out decides
  pub fan_out_decides : (l m : Result ℕ Refusal)
      → l ≡ unless_refused (form_refusal n network) (level n (net_of network))
      → m ≡ unless_refused (form_refusal n network) (greatest_fan_out n (net_of network))
      → MatchResult l (λ x. low ≡ leb x limits.depth) (λ _. low ≡ false) → low ≡ true
      → MatchResult m (λ x. few ≡ leb x limits.fan_out) (λ _. few ≡ false) → Decides few (InLimits n limits network)
  fan_out_decides (Err e) m l f low_is deep few_is = absurd (false≢true (sym low_is ∙ deep))
  fan_out_decides (Ok x) (Err e) l f low_is deep few_is =
      subst (λ b. Decides b (InLimits n limits network)) (sym few_is)
      (refused_decides n limits network (greatest_fan_out n (net_of network)) e f)
  fan_out_decides (Ok x) (Ok y) l f low_is deep few_is =
      let net = net_of network in
      let a = value_from_ok (form_refusal n network) (level n net) x l in
      let b = value_from_ok (form_refusal n network) (greatest_fan_out n net) y f in
      let g = (form_passes n network).0 (ap passes (none_from_ok (form_refusal n network) (level n net) x l)) in
      let reached : x ≤ limits.depth = leb-true x limits.depth (sym low_is ∙ deep) in (
        λ t. (
          g.0,
          g.1,
          g.2,
          record {
            level = omega arith;
            fan_outs = λ j p q.
                omega (arith, (greatest_fan_out_lem n net).above j p q, leb-true y limits.fan_out (sym few_is ∙ t));
          },
        ),
        λ within. few_is
            ∙ le-leb y limits.fan_out (omega (arith, greatest_within n limits.fan_out net within.3.fan_outs)),
      )

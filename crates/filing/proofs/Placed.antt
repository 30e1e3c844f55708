-- The calls of carrying one after another: none is refused, and what stands in the places.
use Rattle.std.proofs.Common.{◌≡◌, ℕ, ◌≤◌, None, Ok, Result, sym, ap, ◌∙◌, subst, arith, length-take}
use Rattle.mig.specs.declared.network.Network.{Network}
use Rattle.mig.specs.declared.refusal.Refusal.{Refusal}
use Rattle.mig.specs.Networks.{Net, net_of, network_of, size, Formed}
use Rattle.mig.specs.Normal.{normalised}
use Rattle.mig.specs.Rules.{or_else, inputs_refusal, form_refusal, network_refusal, normalised_answer}
use Rattle.mig_laws.proofs.Places.{net_of-network_of}
use Rattle.mig_laws.proofs.Refusals.{value_from_ok, formed_not_refused}
use Rattle.class_laws.specs.Renaming.{SameGates}
use Rattle.class_laws.specs.Lifting.{raise_net, cut_net}
use Rattle.class_laws.specs.Ways.{Way, IsWay, carry_net}
use Rattle.class_laws.proofs.Lifted.{raised_same_gates, cut_same_gates}
use Rattle.class_laws.proofs.Carried.{carried_same_gates}
use Rattle.carrying.specs.Answers.{raised_answer, cut_answer, carried_answer}

-- a place that holds a well-formed network over n inputs, of at most seven gates
pub record Holding (n : ℕ) (net : Net) (place : Network) : Type 0 where
  pub held : net_of place ≡ net
  pub formed : Formed n net
  pub few : place.count ≤ 7

few_gates : (network : Network) → network.count ≤ 7 → size (net_of network) ≤ 7
few_gates network h = omega (arith, length-take network.count network.gates)

-- the call on such a network is not refused
pub not_refused : (n : ℕ) (net : Net) (place : Network) → n ≤ 4 → Holding n net place → form_refusal n place ≡ None
not_refused n net place few h = formed_not_refused n place few h.few (subst (Formed n) (sym h.held) h.formed)

moved : (n m : ℕ) (net other : Net) (place place' : Network) → Holding n net place → SameGates n m net other → place' ≡ network_of other → Holding m other place'
moved n m net other place place' h same e =
    let count : place'.count ≡ size other = ap (λ (x : Network). x.count) e in
    record {
      held = ap net_of e ∙ net_of-network_of other;
      formed = same.formed;
      few = omega (arith, same.gates, few_gates place h.few, ap size h.held);
    }

pub raised_place : (n : ℕ) (net : Net) (network place : Network) → n ≤ 4 → Holding n net network → Ok place ≡ raised_answer n network → Holding 4 (raise_net 4 n net) place
raised_place n net network place few h e =
    moved n 4 net (raise_net 4 n net) network place h (raised_same_gates 4 n net few h.formed)
    (value_from_ok (form_refusal n network) (network_of (raise_net 4 n (net_of network))) place e ∙ ap (λ (x : Net). network_of (raise_net 4 n x)) h.held)

pub carried_place : (w : Way) (net : Net) (network place : Network) → IsWay w → Holding 4 net network → Ok place ≡ carried_answer w network → Holding 4 (carry_net w net) place
carried_place w net network place way h e =
    moved 4 4 net (carry_net w net) network place h (carried_same_gates w net way h.formed)
    (value_from_ok (network_refusal 4 network) (network_of (carry_net w (net_of network))) place e ∙ ap (λ (x : Net). network_of (carry_net w x)) h.held)

pub cut_place : (n : ℕ) (net : Net) (network place : Network) → n ≤ 4 → Holding 4 net network → Ok place ≡ cut_answer n network → Holding n (cut_net 4 n net) place
cut_place n net network place few h e =
    moved 4 n net (cut_net 4 n net) network place h (cut_same_gates 4 n net few h.formed)
    (value_from_ok (or_else (inputs_refusal n) (network_refusal 4 network)) (network_of (cut_net 4 n (net_of network))) place e
    ∙ ap (λ (x : Net). network_of (cut_net 4 n x)) h.held)

-- the answer of normalising such a network
pub normalised_place : (n : ℕ) (net : Net) (network : Network) (r : Result Network Refusal) → n ≤ 4 → Holding n net network → r ≡ normalised_answer n network → r ≡ Ok (network_of (normalised n net))
normalised_place n net network r few h e =
    e ∙ rw (not_refused n net network few h) (ap (λ (x : Net). Ok (network_of (normalised n x))) h.held)

-- a value that stands for a network has its places behind the gates 0
pub cleared_value : (place : Network) (net : Net) → place ≡ network_of net → place ≡ network_of (net_of place)
cleared_value place net e = e ∙ ap network_of (sym (ap net_of e ∙ net_of-network_of net))

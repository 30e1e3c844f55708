-- The number 0 is answered exactly when the bytes are those of a network that meets the question.
use Rattle.std.proofs.Common.{◌≡◌, ℕ, ◌↔◌, true, List, Some, None, Ok, Err, is_ok, Option, Result, refl, sym, ap, ◌∙◌, subst, arith, length-take}
use Rattle.std.proofs.lemmas.Bool.{false≢true}
use Rattle.mig.specs.declared.network.Network.{Network}
use Rattle.mig.specs.declared.question.Question.{Question}
use Rattle.mig.specs.declared.refusal.Refusal.{Refusal}
use Rattle.mig.specs.declared.refusal.Refusal.TheVariants.{InputsAboveFour}
use Rattle.mig.specs.Networks.{Net, net_of, network_of}
use Rattle.mig.specs.Questions.{Valid, Meets}
use Rattle.mig.specs.Refusals.{number_of}
use Rattle.mig.specs.Rules.{examine_refusal, examined}
use Rattle.mig_laws.proofs.Places.{net_of-network_of}
use Rattle.mig_laws.proofs.Refusals.{accepted, examine_passes}
use Rattle.records.specs.Reading.{network_spelled}
use Rattle.records.proofs.Spelled.{spelled_again, bytes_again}
use Rattle.rewriter_calls.specs.Calls.{answer_number, spelled_examined, bytes_examined, BytesMeet}

-- no refusal has the number 0
numbered_from_one : (e : Refusal) → number_of e ≡ 0 → ⊥
numbered_from_one InputsAboveFour h = omega arith
numbered_from_one _ h = omega arith

-- what bytes spell is accepted: they are the bytes of a network that meets the question
accepted_meets : (q : Question) (bytes : List ℕ) (o : Option Network) → network_spelled bytes ≡ o
    → is_ok (spelled_examined q o) ≡ true → Valid q × BytesMeet q bytes
accepted_meets q bytes None s ok = absurd (false≢true ok)
accepted_meets q bytes (Some network) s ok =
    let (valid, few, meets) = (accepted (examined q network) (examine_refusal q network) _ refl (examine_passes q network)).0 ok in (
      valid,
      record {
        network = net_of network;
        bytes_are = bytes_again bytes network s few;
        few = omega (arith, length-take network.count network.gates);
        meets = meets;
      },
    )

-- the bytes of a network that meets the question are accepted
meeting_accepted : (q : Question) (bytes : List ℕ) → Valid q → BytesMeet q bytes → is_ok (bytes_examined q bytes) ≡ true
meeting_accepted q bytes valid m =
    let spelled : network_spelled bytes ≡ Some (network_of m.network) = ap network_spelled m.bytes_are ∙ spelled_again m.network m.few in
    let meets : Meets q (net_of (network_of m.network)) = let P : Net → Type 0 = λ n. Meets q n in subst P (sym (net_of-network_of m.network)) m.meets in
    let network = network_of m.network in
    let ok : is_ok (examined q network) ≡ true =
    (accepted (examined q network) (examine_refusal q network) _ refl (examine_passes q network)).1 (valid, m.few, meets) in
    ap (λ (o : Option Network). is_ok (spelled_examined q o)) spelled ∙ ok

zero_when_accepted : (r : Result (ℕ × ℕ) Refusal) → (answer_number r ≡ 0) ↔ (is_ok r ≡ true)
zero_when_accepted (Ok x) = (λ _. refl, λ _. refl)
zero_when_accepted (Err e) = (λ h. absurd (numbered_from_one e h), λ h. absurd (false≢true h))

pub zero_exactly_when_met : (q : Question) (bytes : List ℕ) (n : ℕ) → n ≡ answer_number (bytes_examined q bytes)
    → (n ≡ 0) ↔ (Valid q × BytesMeet q bytes)
zero_exactly_when_met q bytes n e =
    let z = zero_when_accepted (bytes_examined q bytes) in
    (λ h. accepted_meets q bytes (network_spelled bytes) refl (z.0 (sym e ∙ h)), λ m. e ∙ z.1 (meeting_accepted q bytes m.0 m.1))

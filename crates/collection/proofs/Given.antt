-- Kept networks given out: nothing refuses it, and it is what the rules say.
use Rattle.std.proofs.Common.{◌≡◌, ℕ, ◌≤◌, true, Some, None, is_some, Option, IfSome, refl, sym, ◌∙◌, subst, arith}
use Rattle.std.proofs.lemmas.Bool.{true≢false}
use Rattle.mig.specs.declared.refusal.Refusal.{Refusal}
use Rattle.mig.specs.declared.network.Network.{Network}
use Rattle.mig.specs.declared.question.Question.{Question}
use Rattle.mig.specs.Questions.{Valid}
use Rattle.mig.specs.Rules.{or_else, question_refusal, network_refusal}
use Rattle.mig_laws.proofs.Refusals.{passes, question-passes, formed_not_refused}
use Rattle.filing.specs.declared.key.Key.{Key}
use Rattle.filing.specs.Filing.{key_of, Keepable}
use Rattle.entry.specs.Held.{held, gates_of, Sound}
use Rattle.entry.specs.declared.entry.Entry.{Entry}
use Rattle.settling.proofs.Bounds.{entry_sound}
use Rattle.collection_laws.specs.declared.answer.Answer.TheVariants.{Known}
use Rattle.collection_laws.specs.Calls.{AnswersOrder, AnswersLookUp}
use Rattle.collection_laws.proofs.Questions.{given_out}
use Rattle.collection.specs.State.{order_answer, with_place, GivenOut}

none_if_passing : (o : Option Refusal) → passes o ≡ true → o ≡ None
none_if_passing (Some e) h = absurd (true≢false (sym h))
none_if_passing None h = refl

-- a network that is kept under a key is given out to a question within bounds without a refusal
pub given_without_refusal : (k : Key) (q : Question) (o : Option Network) (network : Network) → Valid q → IfSome o (Keepable k) → o ≡ Some network
    → or_else (question_refusal q) (network_refusal 4 network) ≡ None
given_without_refusal k q o network valid keepable e =
    let kept : Keepable k network = subst (λ (x : Option Network). IfSome x (Keepable k)) e keepable in
    rw (none_if_passing (question_refusal q) ((question-passes q).1 valid)) (formed_not_refused 4 network (omega arith) kept.few kept.meets.formed)

-- the answer to an order, where a network is given or none
pub answers_order : (q : Question) (lower asked : ℕ) (before after : Network) (o : Option Network) → GivenOut q o before after
    → AnswersOrder q o lower asked (order_answer (record { given = is_some o; lower = lower; asked = asked }) after)
answers_order q lower asked before after None same = refl
answers_order q lower asked before after (Some network) carried = (after, carried, refl)

-- the answer to a look-up, where a network is kept or none
pub answers_look_up : (q : Question) (lower : ℕ) (before after : Network) (o : Option Network) → GivenOut q o before after
    → AnswersLookUp q lower o (Known lower (with_place (gates_of o) after))
answers_look_up q lower before after None same = refl
answers_look_up q lower before after (Some network) carried = (after, carried, refl)

-- the gates of a kept network are those of the network given out
pub upper_given : (q : Question) (before after : Network) (o : Option Network) → q.inputs ≤ 4 → IfSome o (Keepable (key_of q)) → GivenOut q o before after
    → IfSome (gates_of o) (λ gates. gates ≡ after.count)
upper_given q before after None few keepable same = tt
upper_given q before after (Some network) few keepable carried =
    let (met, gates, counted) = given_out q network after few keepable carried in
    sym gates ∙ counted

-- what an entry keeps is right
pub sound_entry : (e : Entry) (k : Key) → e.key ≡ k → Sound k (held e)
sound_entry e k same = subst (λ x. Sound x (held e)) same (entry_sound e)

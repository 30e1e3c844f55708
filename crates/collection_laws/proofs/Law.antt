-- The law of runs: where what is kept is right, every reply of a run is right, and what is then kept.
use Rattle.std.proofs.Common.{◌≡◌, ℕ, ◌+◌, ◌≤◌, Bool, true, false, List, [], ◌∷◌, ◌++◌, Some, None, Option, IfSome, Ok, Err, Result, refl, ap, ◌∙◌, sym, subst, arith, length-take}
use Rattle.mig.specs.declared.network.Network.{Network}
use Rattle.mig.specs.declared.question.Question.{Question}
use Rattle.mig.specs.declared.refusal.Refusal.{Refusal}
use Rattle.mig.specs.Networks.{net_of, size}
use Rattle.mig.specs.Rules.{or_else, question_refusal, examine_refusal}
use Rattle.mig_laws.proofs.Refusals.{passes, question-passes, examine_passes}
use Rattle.search.specs.Meaning.{NoneWithin}
use Rattle.filing.specs.Filing.{key_of, key_question, Keepable}
use Rattle.filing.proofs.Carried.{kept_keepable}
use Rattle.entry.specs.Bounds.{LowerBound}
use Rattle.entry.specs.Held.{Held, Sound}
use Rattle.settling.proofs.Bounds.{settles_sound}
use Rattle.entries.specs.Table.{Table, kept_or_new}
use Rattle.records.specs.declared.reading.Record.{Record}
use Rattle.records.specs.declared.reader.Part.{Part}
use Rattle.records.specs.Parts.{parts_of}
use Rattle.collection_laws.specs.declared.answer.Answer.{Answer}
use Rattle.collection_laws.specs.declared.answer.Loaded.{Loaded}
use Rattle.collection_laws.specs.declared.call.Call.{Call}
use Rattle.collection_laws.specs.declared.call.Call.TheVariants as calls
use Rattle.collection_laws.specs.Calls.{Setting, State, network_given, AnswersOrder, Orders, deposits_refusal, Deposits, AnswersLookUp}
use Rattle.collection_laws.specs.Loads.{is_passed_over, LoadsRefused, LoadsRecord, LoadsPart, LoadsFrom}
use Rattle.collection_laws.specs.Runs.{Reply, Step, Chain, Run, lent, StepLent, History}
use Rattle.collection_laws.specs.Law.{RightOrder, RightLookUp, Right, AllRight, SoundTable}
use Rattle.collection_laws.proofs.Tables.{sound_put, sound_struck, sound_kept}
use Rattle.collection_laws.proofs.Questions.{bound_of_question, none_of_question, given_out}
use Rattle.collection_laws.proofs.Orders.{order_given, order_none}

-- neither of two refusals applies
pub neither : (a b : Option Refusal) → or_else a b ≡ None → (a ≡ None) × (b ≡ None)
neither (Some e) b h = absurd cc
neither None b h = (refl, h)

few_inputs : (q : Question) → question_refusal q ≡ None → q.inputs ≤ 4
few_inputs q e = ((question-passes q).0 (ap passes e)).inputs

-- an order's answer, by the network that is given
pub answer_right : (q : Question) (g : ℕ) (h h' : Held) (asked : ℕ) (answer : Answer) (o : Option Network) → q.inputs ≤ 4 → Sound (key_of q) h → Sound (key_of q) h'
    → (o ≡ None → NoneWithin (key_question (key_of q)) g)
    → ((network : Network) → o ≡ Some network → Keepable (key_of q) network × (network.count ≡ h'.lower) × (h'.lower ≤ g))
    → AnswersOrder q o h'.lower asked answer → RightOrder q g answer
answer_right q g h h' asked answer None few sound sound' none given e =
    subst (RightOrder q g) (sym e) (none_of_question q g few (none refl), bound_of_question q h'.lower few sound'.lower_bound)
answer_right q g h h' asked answer (Some network) few sound sound' none given (out, carried, e) =
    let (keepable, same, within) = given network refl in
    let (met, gates, counted) = given_out q network out few keepable carried in
    subst (RightOrder q g) (sym e) (
      record { meets = met; gates = gates ∙ same; least = bound_of_question q h'.lower few sound'.lower_bound },
      within,
      λ nothing. nothing (net_of out) met (omega (arith, gates, same, within)),
    )

-- an order
pub order_right : (q : Question) (g : ℕ) (before : State) (answer : Answer) (after : State) → q.inputs ≤ 4 → SoundTable before.table → Orders q g before answer after
    → RightOrder q g answer × SoundTable after.table
order_right q g before answer after few all o =
    let k = key_of q in
    let h = kept_or_new before.table k in
    let sound = sound_kept before.table k all in
    let sound' = settles_sound k g h o.held o.asked sound o.settles in (
      answer_right q g h o.held o.asked answer (network_given g h o.held) few sound sound'
          (order_none k g h o.held o.asked sound o.settles)
          (λ network e. order_given k g h o.held o.asked network sound o.settles e) o.answers,
      subst (λ (x : State). SoundTable x.table) (sym o.leaves) (sound_put before.table k o.held all sound'),
    )

-- a deposit
pub deposit_sound : (q : Question) (network : Network) (before after : Table) → examine_refusal q network ≡ None → SoundTable before → Deposits q network before after → SoundTable after
deposit_sound q network before after e all d =
    let (valid, few, met) = (examine_passes q network).0 (ap passes e) in
    let k = key_of q in
    let sound = sound_kept before k all in
    let (w, leads, carried) = d.by_a_way in
    let small : size (net_of network) ≤ 7 = omega (arith, few, length-take network.count network.gates) in
    subst SoundTable (sym d.leaves) (sound_put before k (record { lower = (kept_or_new before k).lower; network = Some d.carried }) all (record {
      lower_bound = sound.lower_bound;
      keepable = kept_keepable q w (net_of network) d.carried valid.inputs small leads met carried;
    }))

-- a look-up
pub look_up_right : (q : Question) (h : Held) (answer : Answer) (o : Option Network) → q.inputs ≤ 4 → LowerBound (key_question (key_of q)) h.lower → IfSome o (Keepable (key_of q))
    → AnswersLookUp q h.lower o answer → RightLookUp q answer
look_up_right q h answer None few bound keepable e = subst (RightLookUp q) (sym e) (bound_of_question q h.lower few bound, tt)
look_up_right q h answer (Some network) few bound keepable (out, carried, e) =
    let (met, gates, counted) = given_out q network out few keepable carried in
    subst (RightLookUp q) (sym e) (bound_of_question q h.lower few bound, (met, gates))

-- a load
load_sound : (ps : List Part) (taken passed : ℕ) (t : Table) (l : Loaded) (t' : Table) → SoundTable t → LoadsFrom ps taken passed t l t' → SoundTable t'
unfolding LoadsFrom
load_sound [] taken passed t l t' all (e, same) = subst SoundTable (sym same) all
load_sound (p ∷ ps) taken passed t l t' all loads = part p.«record» (λ m n u. load_sound ps m n u l t') loads
  where
    Rest : Type 0
    Rest = (m n : ℕ) (u : Table) → SoundTable u → LoadsFrom ps m n u l t' → SoundTable t'

    refused : (b : Bool) (e : Refusal) → Rest → LoadsRefused b e p.place (LoadsFrom ps) taken passed t l t' → SoundTable t'
    refused true e rest more = rest taken (passed + 1) t all more
    refused false e rest (ended, same) = subst SoundTable (sym same) all

    taken_or_refused : (r : Record) (o : Option Refusal) → deposits_refusal r.question r.network t ≡ o → Rest → LoadsRecord o r p.place (LoadsFrom ps) taken passed t l t' → SoundTable t'
    taken_or_refused r (Some e) is rest more = refused (is_passed_over e) e rest more
    taken_or_refused r None is rest (m, deposits, more) =
        rest (taken + 1) passed m (deposit_sound r.question r.network t m (neither (examine_refusal r.question r.network) _ is).0 all deposits) more

    part : (r : Result Record Refusal) → Rest → LoadsPart r p.place (LoadsFrom ps) taken passed t l t' → SoundTable t'
    part (Ok r) rest more = taken_or_refused r (deposits_refusal r.question r.network t) refl rest more
    part (Err e) rest (ended, same) = subst SoundTable (sym same) all

-- one call
pub step_right : (s : Setting) (b : State) (c : Call) (r : Reply) (a : State) → SoundTable b.table → Step s b c r a → Right c r × SoundTable a.table
step_right s b (calls.Order q g) (Ok answer) a all (none, orders) =
    order_right q g b answer a (few_inputs q (neither (question_refusal q) _ (neither _ _ none).0).0) all orders
step_right s b (calls.Order q g) (Err e) a all (some, same) = (tt, subst (λ (x : State). SoundTable x.table) (sym same) all)
step_right s b (calls.Deposit q network) (Ok answer) a all (none, (is, t, deposits, leaves)) =
    (tt, subst (λ (x : State). SoundTable x.table) (sym leaves) (deposit_sound q network b.table t (neither (examine_refusal q network) _ none).0 all deposits))
step_right s b (calls.Deposit q network) (Err e) a all (some, same) = (tt, subst (λ (x : State). SoundTable x.table) (sym same) all)
step_right s b (calls.LookUp q) (Ok answer) a all (none, (looked, same)) =
    let sound = sound_kept b.table (key_of q) all in (
      look_up_right q (kept_or_new b.table (key_of q)) answer (kept_or_new b.table (key_of q)).network (few_inputs q (neither (question_refusal q) _ none).0)
          sound.lower_bound sound.keepable looked,
      subst (λ (x : State). SoundTable x.table) (sym same) all,
    )
step_right s b (calls.LookUp q) (Err e) a all (some, same) = (tt, subst (λ (x : State). SoundTable x.table) (sym same) all)
step_right s b (calls.Strike q) (Ok answer) a all (none, (is, leaves)) = (tt, subst (λ (x : State). SoundTable x.table) (sym leaves) (sound_struck b.table (key_of q) all))
step_right s b (calls.Strike q) (Err e) a all (some, same) = (tt, subst (λ (x : State). SoundTable x.table) (sym same) all)
step_right s b (calls.Load bytes) (Ok answer) a all (l, t, loads, is, leaves) =
    (tt, subst (λ (x : State). SoundTable x.table) (sym leaves) (load_sound (parts_of bytes.now) 0 0 b.table l t all loads))
step_right s b (calls.Load bytes) (Err e) a all (l, t, loads, is, leaves) =
    (tt, subst (λ (x : State). SoundTable x.table) (sym leaves) (load_sound (parts_of bytes.now) 0 0 b.table l t all loads))
step_right s b calls.Export (Ok answer) a all (none, (is, leaves)) = (tt, subst (λ (x : State). SoundTable x.table) (sym leaves) all)
step_right s b calls.Export (Err e) a all (some, same) = (tt, subst (λ (x : State). SoundTable x.table) (sym same) all)

-- a chain and another one behind it are a chain
pub chains_compose : (One : State → Call → Reply → State → Type 0) (b m a : State) (cs ds : List Call) (rs us : List Reply) → Chain One b cs rs m → Chain One m ds us a
    → Chain One b (cs ++ ds) (rs ++ us) a
unfolding Chain
chains_compose One b m a [] ds [] us same later = subst (λ x. Chain One x ds us a) same later
chains_compose One b m a [] ds (r ∷ rs) us first later = absurd first
chains_compose One b m a (c ∷ cs) ds [] us first later = absurd first
chains_compose One b m a (c ∷ cs) ds (r ∷ rs) us (n, one, first) later = (n, one, chains_compose One n m a cs ds rs us first later)

-- a chain of calls by one rule is a chain by a weaker rule
chain_weakens : (One Weaker : State → Call → Reply → State → Type 0) → ((b : State) (c : Call) (r : Reply) (a : State) → One b c r a → Weaker b c r a)
    → (b : State) (cs : List Call) (rs : List Reply) (a : State) → Chain One b cs rs a → Chain Weaker b cs rs a
unfolding Chain
chain_weakens One Weaker weaken b [] [] a same = same
chain_weakens One Weaker weaken b [] (r ∷ rs) a chain = absurd chain
chain_weakens One Weaker weaken b (c ∷ cs) [] a chain = absurd chain
chain_weakens One Weaker weaken b (c ∷ cs) (r ∷ rs) a (m, one, chain) = (m, weaken b c r m one, chain_weakens One Weaker weaken m cs rs a chain)

-- a run is a history, with the same number of work words at each call
pub run_is_history : (reach need words : ℕ) (b : State) (cs : List Call) (rs : List Reply) (a : State) → Run (lent reach need words) b cs rs a → History reach need b cs rs a
run_is_history reach need words = chain_weakens (Step (lent reach need words)) (StepLent reach need) (λ b c r a step. (words, step))

-- every reply of a chain is right, and what is then kept, where one call's are
chain_right : (One : State → Call → Reply → State → Type 0)
    → ((b : State) (c : Call) (r : Reply) (a : State) → SoundTable b.table → One b c r a → Right c r × SoundTable a.table)
    → (b : State) (cs : List Call) (rs : List Reply) (a : State) → SoundTable b.table → Chain One b cs rs a → AllRight cs rs × SoundTable a.table
unfolding Chain AllRight
chain_right One one_right b [] [] a all same = (tt, subst (λ (x : State). SoundTable x.table) (sym same) all)
chain_right One one_right b [] (r ∷ rs) a all chain = absurd chain
chain_right One one_right b (c ∷ cs) [] a all chain = absurd chain
chain_right One one_right b (c ∷ cs) (r ∷ rs) a all (m, one, chain) =
    let (right, there) = one_right b c r m all one in
    let (rest, end) = chain_right One one_right m cs rs a there chain in
    ((right, rest), end)

-- every call of a history
pub history_right : (reach need : ℕ) (b : State) (cs : List Call) (rs : List Reply) (a : State) → SoundTable b.table → History reach need b cs rs a → AllRight cs rs × SoundTable a.table
history_right reach need = chain_right (StepLent reach need) (λ b c r a all step. step_right (lent reach need step.0) b c r a all step.1)

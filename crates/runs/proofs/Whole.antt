-- Runs from an opening, and a call behind a run.
use Rattle.std.proofs.Common.{◌≡◌, ℕ, ◌+◌, ◌<◌, ◌≤◌, length, get_or, Ok, Err, Result, MatchResult, List, [], ◌∷◌, ◌++◌, drop, Some, None, Option, refl, ap, ◌∙◌, subst, sym}
use Rattle.std.proofs.lemmas.List.{drop-drop, drop_more, drop_all}
use Rattle.mig.specs.declared.network.Network.{Network}
use Rattle.mig.specs.declared.question.Question.{Question}
use Rattle.mig.specs.declared.refusal.Refusal.{Refusal}
use Rattle.mig.specs.Rules.{refused_by, examine_refusal}
use Rattle.entry.specs.declared.entry.Entry.{Entry}
use Rattle.settling.proofs.Bounds.{entry_sound}
use Rattle.entries.specs.Table.{Table, table_of}
use Rattle.collection_laws.specs.declared.call.Call.{Call}
use Rattle.collection_laws.specs.declared.call.Opening.{Opening}
use Rattle.collection_laws.specs.declared.call.Opening.TheVariants.{Empty, WithStarters}
use Rattle.collection_laws.specs.Calls.{Setting, State, deposits_refusal, Deposits}
use Rattle.collection_laws.specs.Runs.{Reply, Step, lent, Chain, Run, StepLent, History}
use Rattle.collection_laws.specs.Law.{SoundTable, AllRight}
use Rattle.collection_laws.specs.Opening.{starters, starter_question, DepositsUnless, DepositsOne, DepositsAll, Opens}
use Rattle.collection_laws.proofs.Law.{neither, deposit_sound, chains_compose, run_is_history, history_right}

-- where two lists agree from a place on, they agree from the next
pub drop-next : {X : Type 0} (xs ys : List X) (i : ℕ) → drop i xs ≡ drop i ys → drop (i + 1) xs ≡ drop (i + 1) ys
drop-next xs ys i e = sym (drop-drop 1 i xs) ∙ ap (drop 1) e ∙ drop-drop 1 i ys

-- what entries keep is right
pub sound_rows : (es : List Entry) → SoundTable (table_of es)
sound_rows [] = tt
sound_rows (e ∷ es) = (entry_sound e, sound_rows es)

-- a call behind a run
pub run_then : (s : Setting) (b m a : State) (cs : List Call) (rs : List Reply) (c : Call) (r : Reply) → Run s b cs rs m → Step s m c r a → Run s b (cs ++ c ∷ []) (rs ++ r ∷ []) a
unfolding Chain
run_then s b m a cs rs c r run step = chains_compose (Step s) b m a cs (c ∷ []) rs (r ∷ []) run (a, step, refl)

-- no call
pub run_none : (s : Setting) (b : State) → Run s b [] [] b
unfolding Chain
run_none s b = refl

-- a deposit of the starter set keeps what is right
one_sound_if : (o : Option Refusal) (q : Question) (network : Network) (t t' : Table) → deposits_refusal q network t ≡ o → SoundTable t → DepositsUnless o q network t t' → SoundTable t'
one_sound_if None q network t t' e all deposits = deposit_sound q network t t' (neither (examine_refusal q network) _ e).0 all deposits
one_sound_if (Some r) q network t t' e all same = subst SoundTable (sym same) all

one_sound : (x : ℕ × Network) (t t' : Table) → SoundTable t → DepositsOne x t t' → SoundTable t'
one_sound x t t' all one = one_sound_if (deposits_refusal (starter_question x.0) x.1 t) (starter_question x.0) x.1 t t' refl all one

deposits_sound : (xs : List (ℕ × Network)) (t t' : Table) → SoundTable t → DepositsAll xs t t' → SoundTable t'
unfolding DepositsAll
deposits_sound [] t t' all same = subst SoundTable (sym same) all
deposits_sound (x ∷ xs) t t' all (m, one, rest) = deposits_sound xs m t' (one_sound x t m all one) rest

-- what a collection opens with is right
opened_sound : (o : Opening) (t : Table) → Opens o t → SoundTable t
opened_sound Empty t same = subst SoundTable (sym same) tt
opened_sound WithStarters t deposits = deposits_sound starters [] t tt deposits

-- every reply of a run is right, where what is kept is right
pub replies_right : (reach need words : ℕ) (b : State) (cs : List Call) (rs : List Reply) (a : State) → SoundTable b.table → Run (lent reach need words) b cs rs a → AllRight cs rs
replies_right reach need words b cs rs a all run = (history_right reach need b cs rs a all (run_is_history reach need words b cs rs a run)).0

-- a run behind a history
pub history_then : (reach need words : ℕ) (b m a : State) (cs ds : List Call) (rs us : List Reply) → History reach need b cs rs m → Run (lent reach need words) m ds us a
    → History reach need b (cs ++ ds) (rs ++ us) a
history_then reach need words b m a cs ds rs us earlier run = chains_compose (StepLent reach need) b m a cs ds rs us earlier (run_is_history reach need words m ds us a run)

-- every reply of a history from an opening, and of a run behind it, is right
pub whole_right : (reach need words : ℕ) (o : Opening) (b m a : State) (cs ds : List Call) (rs us : List Reply) → Opens o b.table → History reach need b cs rs m → Run (lent reach need words) m ds us a
    → AllRight (cs ++ ds) (rs ++ us)
whole_right reach need words o b m a cs ds rs us opens earlier run =
    (history_right reach need b (cs ++ ds) (rs ++ us) a (opened_sound o b.table opens) (history_then reach need words b m a cs ds rs us earlier run)).0

-- what a deposit leaves, by whether it is refused
pub one_deposited : {X C : Type 0} (table_in : C → Table) (before after : C) (r : Result X Refusal) (o : Option Refusal) (q : Question) (network : Network) → refused_by r ≡ o
    → MatchResult r (λ _. Deposits q network (table_in before) (table_in after)) (λ _. after ≡ before) → DepositsUnless o q network (table_in before) (table_in after)
one_deposited table_in before after (Ok x) o q network e deposits = subst (λ (p : Option Refusal). DepositsUnless p q network (table_in before) (table_in after)) e deposits
one_deposited table_in before after (Err r) o q network e same =
    subst (λ (p : Option Refusal). DepositsUnless p q network (table_in before) (table_in after)) e (ap table_in same)

deposits_behind : (x : ℕ × Network) (xs : List (ℕ × Network)) (t m t' : Table) → DepositsOne x t m → DepositsAll xs m t' → DepositsAll (x ∷ xs) t t'
unfolding DepositsAll
deposits_behind x xs t m t' one rest = (m, one, rest)

deposits_empty : (t : Table) → DepositsAll [] t t
unfolding DepositsAll
deposits_empty t = refl

-- the next network of the starter set, and those behind it
pub deposits_next : (xs : List (ℕ × Network)) (i : ℕ) (x : ℕ × Network) (t m t' : Table) → i < length xs → DepositsOne (get_or xs i x) t m → DepositsAll (drop (i + 1) xs) m t'
    → DepositsAll (drop i xs) t t'
deposits_next xs i x t m t' below one rest = rw (drop_more xs i x below) (deposits_behind (get_or xs i x) (drop (i + 1) xs) t m t' one rest)

-- none is left
pub deposits_none : (xs : List (ℕ × Network)) (i : ℕ) (t : Table) → length xs ≤ i → DepositsAll (drop i xs) t t
deposits_none xs i t all = rw (drop_all i xs all) (deposits_empty t)

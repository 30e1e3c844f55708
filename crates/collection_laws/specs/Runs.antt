-- Runs: calls one after another, each by its rule.
use Rattle.std.specs.Prelude.{◌≡◌, ℕ, Bool, true, false, List, [], ◌∷◌, length, Option, None, Some, Result, Ok, Err}
use Rattle.mig.specs.declared.refusal.Refusal.{Refusal}
use Rattle.mig.specs.Networks.{net_of, size}
use Rattle.filing.specs.Filing.{key_of}
use Rattle.entries.specs.Table.{Table, kept_or_new, struck}
use Rattle.records.specs.Parts.{parts_of}
use Rattle.collection_laws.specs.declared.answer.Answer.{Answer}
use Rattle.collection_laws.specs.declared.answer.Answer.TheVariants as answers
use Rattle.collection_laws.specs.declared.answer.Loaded.{Loaded}
use Rattle.collection_laws.specs.declared.call.Call.{Call}
use Rattle.collection_laws.specs.declared.call.Call.TheVariants as calls
use Rattle.collection_laws.specs.Calls.{Setting, State, with_table, order_refusal, Orders, deposits_refusal, Deposits, look_up_refusal, AnswersLookUp, export_refusal, export_bytes, written}
use Rattle.collection_laws.specs.Loads.{LoadsFrom}

-- what a call is answered: its answer, or its refusal
abbrev pub Reply : Type 0
Reply = Result Answer Refusal

-- a refused call alters nothing; another one answers and leaves what its rule says
abbrev pub By : Option Refusal → (Answer → State → Type 0) → State → Reply → State → Type 0
By refusal Rule before (Ok answer) after = (refusal ≡ None) × Rule answer after
By refusal Rule before (Err e) after = (refusal ≡ Some e) × (after ≡ before)

-- whether a call is an order, which alone asks the search
abbrev pub is_order : Call → Bool
is_order (calls.Order q g) = true
is_order _ = false

-- one call: the state before it, its reply, and the state after it
abbrev pub Step : Setting → State → Call → Reply → State → Type 0
Step s b (calls.Order q g) reply a = By (order_refusal s q g b.table) (Orders q g b) b reply a
Step s b (calls.Deposit q network) reply a =
    By (deposits_refusal q network b.table) (λ answer after. (answer ≡ answers.Deposited (size (net_of network))) × (t : Table) × Deposits q network b.table t × (after ≡ with_table b t)) b reply a
Step s b (calls.LookUp q) reply a =
    By (look_up_refusal q b.table)
    (λ answer after. AnswersLookUp q (kept_or_new b.table (key_of q)).lower (kept_or_new b.table (key_of q)).network answer × (after ≡ b)) b reply a
Step s b (calls.Strike q) reply a =
    By (look_up_refusal q b.table) (λ answer after. (answer ≡ answers.Struck) × (after ≡ with_table b (struck b.table (key_of q)))) b reply a
Step s b (calls.Load bytes) reply a =
    (l : Loaded) × (t : Table) × LoadsFrom (parts_of bytes.now) 0 0 b.table l t × (reply ≡ Ok (answers.Loaded l)) × (a ≡ with_table b t)
Step s b calls.Export reply a =
    By (export_refusal b)
    (λ answer after. (answer ≡ answers.Exported (length (export_bytes b.table)))
    × (after ≡ record { count = b.count; table = b.table; buffer = written (export_bytes b.table) b.buffer })) b reply a

-- one call after another, each with its reply, from the state b to the state a; One says what a call does
unfoldable pub Chain : (State → Call → Reply → State → Type 0) → State → List Call → List Reply → State → Type 0
Chain One b [] [] a = a ≡ b
Chain One b [] (r ∷ rs) a = ⊥
Chain One b (c ∷ cs) [] a = ⊥
Chain One b (c ∷ cs) (r ∷ rs) a = (m : State) × One b c r m × Chain One m cs rs a

-- a run: calls one after another, each by its rule
abbrev pub Run : Setting → State → List Call → List Reply → State → Type 0
Run s = Chain (Step s)

-- a search with a reach and a need, where so many work words are lent
abbrev pub lent : ℕ → ℕ → ℕ → Setting
lent reach need words = record { reach = reach; need = need; words = words }

-- one call of a collection over a search with a reach and a need, where some number of work words is lent
abbrev pub StepLent : ℕ → ℕ → State → Call → Reply → State → Type 0
StepLent reach need b c r a = (words : ℕ) × Step (lent reach need words) b c r a

-- a history: calls one after another, where each may have been lent another number of work words
abbrev pub History : ℕ → ℕ → State → List Call → List Reply → State → Type 0
History reach need = Chain (StepLent reach need)

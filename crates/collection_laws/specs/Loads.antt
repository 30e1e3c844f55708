-- The rules of a load: records are taken as deposits, up to the first fault.
use Rattle.std.specs.Prelude.{◌≡◌, ℕ, ◌+◌, Bool, true, false, List, [], ◌∷◌, Option, Some, None, Ok, Err, Result}
use Rattle.mig.specs.declared.refusal.Refusal.{Refusal}
use Rattle.mig.specs.declared.refusal.Refusal.TheVariants.{NoImprovement}
use Rattle.records.specs.declared.reading.Record.{Record}
use Rattle.records.specs.declared.reader.Part.{Part}
use Rattle.entries.specs.Table.{Table}
use Rattle.collection_laws.specs.declared.answer.Loaded.{Loaded}
use Rattle.collection_laws.specs.Calls.{deposits_refusal, Deposits}

-- the answer to a load that ends at a place by a refusal
abbrev pub ended : ℕ → ℕ → ℕ → Refusal → Loaded
ended taken passed place e =
    record { taken = taken; passed = passed; fault = Some (record { refusal = e; place = place }) }

-- a refusal that is passed over: a network with no more gates is kept
abbrev pub is_passed_over : Refusal → Bool
is_passed_over NoImprovement = true
is_passed_over _ = false

-- a refused record is passed over, and C says what the parts behind it do, or it ends the load; what was taken stays
abbrev pub LoadsRefused : Bool → Refusal → ℕ → (ℕ → ℕ → Table → Loaded → Table → Type 0) → ℕ → ℕ → Table → Loaded → Table → Type 0
LoadsRefused true e place C taken passed t l t' = C taken (passed + 1) t l t'
LoadsRefused false e place C taken passed t l t' = (l ≡ ended taken passed place e) × (t' ≡ t)

-- a record is taken as a deposit, or refused
abbrev pub LoadsRecord : Option Refusal → Record → ℕ → (ℕ → ℕ → Table → Loaded → Table → Type 0) → ℕ → ℕ → Table → Loaded → Table → Type 0
LoadsRecord None r place C taken passed t l t' = (m : Table) × Deposits r.question r.network t m × C (taken + 1) passed m l t'
LoadsRecord (Some e) r place C taken passed t l t' = LoadsRefused (is_passed_over e) e place C taken passed t l t'

-- what was read at a place is a record, or ends the load
abbrev pub LoadsPart : Result Record Refusal → ℕ → (ℕ → ℕ → Table → Loaded → Table → Type 0) → ℕ → ℕ → Table → Loaded → Table → Type 0
LoadsPart (Ok r) place C taken passed t l t' = LoadsRecord (deposits_refusal r.question r.network t) r place C taken passed t l t'
LoadsPart (Err e) place C taken passed t l t' = (l ≡ ended taken passed place e) × (t' ≡ t)

-- a load of the parts, where some records were taken and some passed over before
unfoldable pub LoadsFrom : List Part → ℕ → ℕ → Table → Loaded → Table → Type 0
LoadsFrom [] taken passed t l t' = (l ≡ record { taken = taken; passed = passed; fault = None }) × (t' ≡ t)
LoadsFrom (p ∷ ps) taken passed t l t' = LoadsPart p.«record» p.place (LoadsFrom ps) taken passed t l t'

-- One part of a load.
use Rattle.std.proofs.Common.{◌≡◌, ℕ, ◌+◌, Bool, false, List, [], ◌∷◌, Some, None, Ok, Err, Option, Result, refl, sym, subst, ap}
use Rattle.mig.specs.declared.refusal.Refusal.{Refusal}
use Rattle.mig.specs.declared.refusal.Refusal.TheVariants.{NoImprovement}
use Rattle.records.specs.declared.reading.Record.{Record}
use Rattle.records.specs.declared.reader.Part.{Part}
use Rattle.entries.specs.Table.{Table}
use Rattle.collection_laws.specs.declared.answer.Fault.{Fault}
use Rattle.collection_laws.specs.declared.answer.Loaded.{Loaded}
use Rattle.collection_laws.specs.Calls.{deposits_refusal, Deposits}
use Rattle.collection_laws.specs.Loads.{ended, is_passed_over, LoadsRefused, LoadsRecord, LoadsPart, LoadsFrom}

-- an answer with a fault, or with none
abbrev answer_with : ℕ → ℕ → Option Fault → Loaded
answer_with taken passed fault = record { taken = taken; passed = passed; fault = fault }

-- what the first part does
first : (all : List Part) (p : Part) (ps : List Part) (taken passed : ℕ) (t : Table) (l : Loaded) (t' : Table) → all ≡ p ∷ ps
    → LoadsPart p.«record» p.place (LoadsFrom ps) taken passed t l t' → LoadsFrom all taken passed t l t'
unfolding LoadsFrom
first all p ps taken passed t l t' parts h = subst (λ (qs : List Part). LoadsFrom qs taken passed t l t') (sym parts) h

-- what a record does that is first
first_record : (all : List Part) (p : Part) (ps : List Part) (r : Record) (taken passed : ℕ) (t : Table) (o : Option Refusal) (l : Loaded) (t' : Table)
    → all ≡ p ∷ ps → p.«record» ≡ Ok r → deposits_refusal r.question r.network t ≡ o
    → LoadsRecord o r p.place (LoadsFrom ps) taken passed t l t' → LoadsFrom all taken passed t l t'
first_record all p ps r taken passed t o l t' parts read is h =
    first all p ps taken passed t l t' parts
    (subst (λ (x : Result Record Refusal). LoadsPart x p.place (LoadsFrom ps) taken passed t l t') (sym read)
    (subst (λ (x : Option Refusal). LoadsRecord x r p.place (LoadsFrom ps) taken passed t l t') (sym is) h))

-- no part is left
pub none_left : (all : List Part) (t : Table) (l : Loaded) → all ≡ [] → l.fault ≡ None → LoadsFrom all l.taken l.passed t l t
unfolding LoadsFrom
none_left all t l parts none =
    let no_fault : l ≡ record { taken = l.taken; passed = l.passed; fault = None } = ap (answer_with l.taken l.passed) none in
    subst (λ (qs : List Part). LoadsFrom qs l.taken l.passed t l t) (sym parts) (no_fault, refl)

-- a fault that is read ends the load
pub fault_ends : (all : List Part) (p : Part) (ps : List Part) (e : Refusal) (taken passed : ℕ) (t : Table) → all ≡ p ∷ ps
    → p.«record» ≡ Err e → LoadsFrom all taken passed t (ended taken passed p.place e) t
fault_ends all p ps e taken passed t parts read =
    first all p ps taken passed t _ t parts
    (subst (λ (x : Result Record Refusal). LoadsPart x p.place (LoadsFrom ps) taken passed t (ended taken passed p.place e) t) (sym read) (refl, refl))

-- a record that is deposited is taken
pub taken_on : (all : List Part) (p : Part) (ps : List Part) (r : Record) (taken passed : ℕ) (t m : Table) (l : Loaded) (t' : Table)
    → all ≡ p ∷ ps → p.«record» ≡ Ok r → deposits_refusal r.question r.network t ≡ None → Deposits r.question r.network t m
    → LoadsFrom ps (taken + 1) passed m l t' → LoadsFrom all taken passed t l t'
taken_on all p ps r taken passed t m l t' parts read is deposited later =
    first_record all p ps r taken passed t None l t' parts read is (m, deposited, later)

-- a record of no fewer gates is passed over
pub passed_on : (all : List Part) (p : Part) (ps : List Part) (r : Record) (taken passed : ℕ) (t : Table) (l : Loaded) (t' : Table)
    → all ≡ p ∷ ps → p.«record» ≡ Ok r → deposits_refusal r.question r.network t ≡ Some NoImprovement
    → LoadsFrom ps taken (passed + 1) t l t' → LoadsFrom all taken passed t l t'
passed_on all p ps r taken passed t l t' parts read is later =
    first_record all p ps r taken passed t (Some NoImprovement) l t' parts read is later

-- any other refusal ends the load
pub refused_ends : (all : List Part) (p : Part) (ps : List Part) (r : Record) (e : Refusal) (taken passed : ℕ) (t : Table)
    → all ≡ p ∷ ps → p.«record» ≡ Ok r → deposits_refusal r.question r.network t ≡ Some e → is_passed_over e ≡ false
    → LoadsFrom all taken passed t (ended taken passed p.place e) t
refused_ends all p ps r e taken passed t parts read is other =
    first_record all p ps r taken passed t (Some e) _ t parts read is
    (subst (λ (b : Bool). LoadsRefused b e p.place (LoadsFrom ps) taken passed t (ended taken passed p.place e) t) (sym other) (refl, refl))

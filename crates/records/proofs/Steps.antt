-- Bytes as parts, one part after another.
use Rattle.std.proofs.Common.{◌≡◌, ℕ, zero, suc, ◌+◌, ◌-◌, ◌<◌, ◌≤◌, Bool, true, false, cond, ltb, List, [], ◌∷◌, length, take, drop, Option, Ok, Err, is_ok, refl, sym, ap, ◌∙◌, arith, length-drop, length-take}
use Rattle.std.proofs.lemmas.Bool.{ltb-false}
use Rattle.std.proofs.lemmas.List.{drop-drop, take-append-drop}
use Rattle.mig.specs.declared.refusal.Refusal.{Refusal}
use Rattle.mig.specs.declared.refusal.Refusal.TheVariants.{BytesEndInRecord}
use Rattle.records.specs.declared.reading.Record.{Record}
use Rattle.records.specs.declared.reader.Part.{Part}
use Rattle.mig.specs.Rules.{refuse_if, or_else, unless_refused}
use Rattle.records.specs.Records.{word, word_at, record_in, record_at, record_length}
use Rattle.records.specs.Reading.{content_at}
use Rattle.records.specs.Parts.{part, parts, parts_from}
use Rattle.records.proofs.Places.{content_placed}

-- no more parts come than there are bytes
enough : (m k place : ℕ) (bytes : List ℕ) → length bytes ≤ m → length bytes ≤ k → parts m place bytes ≡ parts k place bytes
unfolding parts
enough zero zero place [] f g = refl
enough zero (suc k) place [] f g = refl
enough (suc m) zero place [] f g = refl
enough (suc m) (suc k) place [] f g = refl
enough zero k place (b ∷ bytes) f g = absurd (omega arith)
enough (suc m) zero place (b ∷ bytes) f g = absurd (omega arith)
enough (suc m) (suc k) place (b ∷ bytes) f g =
    let first = record_length (b ∷ bytes) in
    let fewer = length-drop first (b ∷ bytes) in
    ap (λ (ps : List Part). part place (record_at (b ∷ bytes)) ∷ cond (is_ok (record_at (b ∷ bytes))) ps [])
    (enough m k (place + first) (drop first (b ∷ bytes)) (omega arith) (omega arith))

few : (m place : ℕ) (bytes : List ℕ) → length (parts m place bytes) ≤ m
unfolding parts
few zero place [] = omega arith
few zero place (b ∷ bytes) = omega arith
few (suc m) place [] = omega arith
few (suc m) place (b ∷ bytes) =
    let first = record_length (b ∷ bytes) in
    chosen (is_ok (record_at (b ∷ bytes))) (parts m (place + first) (drop first (b ∷ bytes))) (few m (place + first) (drop first (b ∷ bytes)))
  where
    chosen : (t : Bool) (ps : List Part) → length ps ≤ m → suc (length (cond t ps [])) ≤ suc m
    chosen true ps h = omega arith
    chosen false ps h = omega arith

pub few_parts : (place : ℕ) (bytes : List ℕ) → length (parts_from place bytes) ≤ length bytes
few_parts place bytes = few (length bytes) place bytes

-- no part is left where no byte is
pub none_left : (place : ℕ) (bytes : List ℕ) → length bytes ≡ 0 → parts_from place bytes ≡ []
unfolding parts
none_left place [] e = refl
none_left place (b ∷ bytes) e = absurd (omega arith)

-- a record at the head, then the parts behind it
pub record_first : (place : ℕ) (bytes : List ℕ) (r : Record) → 0 < length bytes → record_at bytes ≡ Ok r
    → parts_from place bytes ≡ part place (Ok r) ∷ parts_from (place + record_length bytes) (drop (record_length bytes) bytes)
unfolding parts
record_first place [] r some e = absurd (omega arith)
record_first place (b ∷ bytes) r some e =
    let first = record_length (b ∷ bytes) in
    let fewer = length-drop first (b ∷ bytes) in
    rw e (ap (λ (ps : List Part). part place (Ok r) ∷ ps)
    (enough (length bytes) (length (drop first (b ∷ bytes))) (place + first) (drop first (b ∷ bytes)) (omega arith) (omega arith)))

-- a fault at the head is the last part
fault_first : (place : ℕ) (bytes : List ℕ) (e : Refusal) → 0 < length bytes → record_at bytes ≡ Err e
    → parts_from place bytes ≡ part place (Err e) ∷ []
unfolding parts
fault_first place [] e some h = absurd (omega arith)
fault_first place (b ∷ bytes) e some h = rw h refl

-- a record lies within the bytes
within : (b : Bool) (e : Refusal) (later : Option Refusal) (x r : Record)
    → unless_refused (or_else (refuse_if b e) later) x ≡ Ok r → b ≡ false
within true e later x r h = absurd cc
within false e later x r h = refl

record_within : (bytes : List ℕ) (r : Record) → record_at bytes ≡ Ok r → record_length bytes ≤ length bytes
record_within bytes r e =
    ltb-false _ _ (within (ltb (length bytes) (record_length bytes)) BytesEndInRecord _ (record_in bytes) r e)

-- a reader at a place that has read a record goes on behind it
pub goes_on : (bytes : List ℕ) (place behind : ℕ) (r : Record) → place ≤ length bytes → 0 < length (drop place bytes)
    → record_at (drop place bytes) ≡ Ok r → behind ≡ length (drop (record_length (drop place bytes)) (drop place bytes))
    → parts_from place (drop place bytes)
    ≡ part place (Ok r) ∷ parts_from (length bytes - behind) (drop (length bytes - behind) bytes)
goes_on bytes place behind r within some e is =
    let left = drop place bytes in
    let first = record_length left in
    let next : length bytes - behind ≡ place + first =
    omega (arith, length-drop place bytes, length-drop first left, record_within left r e) in
    record_first place left r some e
    ∙ rw (next, drop-drop first place bytes) refl

-- a reader at a place that has met a fault has no part left
pub ends : (bytes : List ℕ) (place : ℕ) (e : Refusal) → 0 < length (drop place bytes) → record_at (drop place bytes) ≡ Err e
    → parts_from place (drop place bytes)
    ≡ part place (Err e) ∷ parts_from (length bytes - 0) (drop (length bytes - 0) bytes)
ends bytes place e some h =
    fault_first place (drop place bytes) e some h
    ∙ ap (λ (ps : List Part). part place (Err e) ∷ ps)
    (sym (none_left (length bytes - 0) (drop (length bytes - 0) bytes) (omega (arith, length-drop (length bytes - 0) bytes))))

-- at least two bytes: the number of the first two says how long the content behind them is
pub head : (bytes : List ℕ) (w : ℕ) → 2 ≤ length bytes → w ≡ word_at bytes 0 → w ≤ length (drop 2 bytes)
    → record_at bytes ≡ content_at (take w (drop 2 bytes))
head [] w some is long = absurd (omega arith)
head (b ∷ []) w some is long = absurd (omega arith)
head (low ∷ high ∷ after) w some is long =
    let number : word low high ≡ length (take w after) = omega (arith, length-take w after) in
    let placed = content_placed low high (take w after) (drop w after) number in
    sym (placed ∙ ap (λ (bs : List ℕ). record_at (low ∷ (high ∷ bs))) (take-append-drop w after))

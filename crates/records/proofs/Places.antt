-- What is read from the left is what stands at the places of a record.
use Rattle.std.proofs.Common.{◌≡◌, ℕ, suc, ◌+◌, ◌*◌, true, false, not, ◌||◌, eqb, ltb, get_or, List, [], ◌∷◌, ◌++◌, length, take, Result, refl, ◌∙◌, arith, length-append, inl, inr}
use Rattle.std.proofs.lemmas.Bool.{le-ltb, eq-eqb, ne_eqb}
use Rattle.std.proofs.lemmas.Bool.Decides.{eqb_tells}
use mathlib.Core.Bool.{or-true}
use Rattle.std.proofs.lemmas.List.{take-append-le, get_or_append_left}
use Rattle.mig.specs.declared.refusal.Refusal.{Refusal}
use Rattle.mig.specs.declared.refusal.Refusal.TheVariants.{WrongRecordLength, UnknownRecordKind}
use Rattle.mig.specs.Rules.{refuse_if, or_else, unless_refused}
use Rattle.records.specs.declared.reading.Record.{Record}
use Rattle.records.specs.Records.{word, word_at, byte, network_at, record_in, record_at}
use Rattle.records.specs.Reading.{body_at, content_at}

-- the faults behind the length, where the length is l
abbrev later_fault : ℕ → List ℕ → Result Record Refusal
later_fault l bytes =
    unless_refused (or_else (refuse_if (ltb l 2) WrongRecordLength)
    (or_else (refuse_if (not (eqb (word_at bytes 2) 1)) UnknownRecordKind)
    (refuse_if (ltb l 10 || not (eqb l (10 + 3 * byte bytes 10))) WrongRecordLength))) (record_in bytes)

-- codes are read up to the output's, whatever follows
network_within : (k : ℕ) (codes behind : List ℕ) → length codes ≡ 3 * k + 1 → network_at k (codes ++ behind) ≡ network_at k codes
network_within k codes behind e =
    let front : take (3 * k) (codes ++ behind) ≡ take (3 * k) codes = take-append-le (3 * k) codes behind (omega arith) in
    let last : get_or (codes ++ behind) (3 * k) 0 ≡ get_or codes (3 * k) 0 = get_or_append_left codes behind 0 (3 * k) (omega arith) in
    rw (front, last) refl

body_placed : (l low high a b : ℕ) (body behind : List ℕ) → l ≡ 2 + length body → word a b ≡ 1
    → body_at body ≡ later_fault l (low ∷ (high ∷ (a ∷ (b ∷ (body ++ behind)))))
body_placed l low high a b (n ∷ t ∷ t' ∷ d ∷ f ∷ lower ∷ k ∷ codes) behind e one =
    let some : ltb l 2 ≡ false = le-ltb l 2 (omega arith) in
    elim (eqb_tells (length codes) (3 * k + 1)) [
      | inl same ↦
          let long : ltb l 10 ≡ false = le-ltb l 10 (omega (arith, same.1)) in
          let right : eqb l (10 + 3 * k) ≡ true = eq-eqb l (10 + 3 * k) (omega (arith, same.1)) in
          rw (same.0, some, one, long, right, network_within k codes behind same.1) refl
      | inr other ↦
          let wrong : eqb l (10 + 3 * k) ≡ false = ne_eqb l (10 + 3 * k) (λ e'. other.1 (omega arith)) in
          rw (other.0, some, one, wrong, or-true) refl
    ]
body_placed l low high a b _ behind e one = rw (e, one) refl

content_later : (l low high : ℕ) (content behind : List ℕ) → l ≡ length content
    → content_at content ≡ later_fault l (low ∷ (high ∷ (content ++ behind)))
content_later l low high [] behind e = rw e refl
content_later l low high (a ∷ []) behind e = rw e refl
content_later l low high (a ∷ b ∷ body) behind e =
    elim (eqb_tells (word a b) 1) [
      | inl one ↦ let placed = rw one.0 at (body_placed l low high a b body behind (omega arith) one.1) in rw one.0 placed
      | inr other ↦
          let some : ltb l 2 ≡ false = le-ltb l 2 (omega arith) in
          rw (other.0, some) refl
    ]

-- the record of a content that stands behind its length
pub content_placed : (low high : ℕ) (content behind : List ℕ) → word low high ≡ length content
    → content_at content ≡ record_at (low ∷ (high ∷ (content ++ behind)))
content_placed low high content behind e =
    let whole : ltb (suc (suc (length (content ++ behind)))) (2 + word low high) ≡ false =
    le-ltb _ _ (omega (arith, length-append content behind)) in
    content_later (word low high) low high content behind e ∙ rw whole refl

-- The laws of what is written and what is counted: nothing, and more behind it.
use Rattle.std.specs.Prelude.{◌≡◌, ℕ, ◌+◌, ◌^◌, ◌<◌, ◌≤◌, List, [], ◌++◌, length}
use Rattle.std.proofs.Common.{sym, ◌∙◌, ap, subst, refl, arith, add-zero, length-append}
use Rattle.std.proofs.Math.Seq.{paste}
use Rattle.std.proofs.lemmas.List.{take-append-drop}
use Rattle.std.proofs.lemmas.List.Concat.{flat_map-append}
use Rattle.std.proofs.lemmas.List.Edits.{paste_all, paste-paste, length-paste}
use Rattle.cnf.specs.Numbers.{Clause}
use Rattle.cnf.specs.Text.{clause_text, clauses_text}
use Rattle.clause_text.specs.Writing.{written_at, Writes}
use Rattle.clause_text.specs.Counting.{CountsOn}

-- nothing written changes nothing
pub writes_nothing : (before : List ℕ) (place : ℕ) → Writes [] before place before place
writes_nothing before place = record {
  written = λ _. sym (rw add-zero (take-append-drop place before));
  moved = λ _. sym (add-zero place);
}

-- bytes from a place on, in the words of the library
written_is_paste : (place : ℕ) (bytes before : List ℕ) →
    written_at place bytes before ≡ paste before place bytes (length bytes)
written_is_paste place bytes before = sym (paste_all before place bytes (length bytes) refl)

-- what is written keeps the length of the buffer
pub length_written : (place : ℕ) (bytes before : List ℕ) → place + length bytes ≤ length before →
    length (written_at place bytes before) ≡ length before
length_written place bytes before h =
    ap (λ (s : List ℕ). length s) (written_is_paste place bytes before)
    ∙ length-paste before place bytes (length bytes) h (omega arith)

-- bytes written behind bytes are both written
pub written_behind : (place : ℕ) (xs ys before : List ℕ) → place ≤ length before →
    written_at (place + length xs) ys (written_at place xs before) ≡ written_at place (xs ++ ys) before
written_behind place xs ys before h =
    ap (written_at (place + length xs) ys) (written_is_paste place xs before)
    ∙ written_is_paste (place + length xs) ys (paste before place xs (length xs))
    ∙ paste-paste before place xs ys (length xs) (length ys) refl refl h
    ∙ ap (paste before place (xs ++ ys)) (sym (length-append xs ys))
    ∙ sym (written_is_paste place (xs ++ ys) before)

-- bytes, and then more behind them
pub writes_more : (xs ys : List ℕ) (before middle after : List ℕ) (place between behind : ℕ) →
    Writes xs before place middle between → Writes ys middle between after behind → Writes (xs ++ ys) before place after behind
writes_more xs ys before middle after place between behind first second =
    let both = length-append xs ys in
    let fits : place + length (xs ++ ys) ≤ length before → place + length xs ≤ length before = λ h. omega (arith, both) in
    let room : place + length (xs ++ ys) ≤ length before → between + length ys ≤ length middle = λ h.
    let e = ap (λ (s : List ℕ). length s) (first.written (fits h)) in
    omega (arith, both, e, length_written place xs before (fits h), first.moved (fits h)) in
    record {
      written = λ h. second.written (room h)
          ∙ ap (λ (p : ℕ). written_at p ys middle) (first.moved (fits h))
          ∙ ap (written_at (place + length xs) ys) (first.written (fits h))
          ∙ written_behind place xs ys before (omega (arith, fits h));
      moved = λ h. omega (arith, both, second.moved (room h), first.moved (fits h));
    }

-- clauses, and then more behind them
pub writes_more_clauses : (xs ys : List Clause) (before middle after : List ℕ) (place between behind : ℕ) →
    Writes (clauses_text xs) before place middle between → Writes (clauses_text ys) middle between after behind →
    Writes (clauses_text (xs ++ ys)) before place after behind
writes_more_clauses xs ys before middle after place between behind first second =
    subst (λ (bytes : List ℕ). Writes bytes before place after behind) (sym (flat_map-append clause_text xs ys))
    (writes_more (clauses_text xs) (clauses_text ys) before middle after place between behind first second)

-- a count that goes on by nothing
pub counts_nothing : (n : ℕ) → CountsOn 0 n n
counts_nothing n h = omega arith

-- a count that goes on by one list, and then by another
pub counts_more : {X : Type 0} (xs ys : List X) (x y z : ℕ) →
    CountsOn (length xs) x y → CountsOn (length ys) y z → CountsOn (length (xs ++ ys)) x z
counts_more xs ys x y z first second h =
    let e = first h in
    let below : y < 2 ^ 64 = omega arith in
    let f = second below in
    omega (arith, length-append xs ys)

-- the bytes of clauses, and then of more
pub counts_more_clauses : (xs ys : List Clause) (x y z : ℕ) →
    CountsOn (length (clauses_text xs)) x y → CountsOn (length (clauses_text ys)) y z → CountsOn (length (clauses_text (xs ++ ys))) x z
counts_more_clauses xs ys x y z first second =
    subst (λ (bytes : List ℕ). CountsOn (length bytes) x z) (sym (flat_map-append clause_text xs ys))
    (counts_more (clauses_text xs) (clauses_text ys) x y z first second)

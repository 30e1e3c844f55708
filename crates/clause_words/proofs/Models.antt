-- Assignments that make the clauses in the words true are those that satisfy the clauses.
use Rattle.std.proofs.Common.{◌≡◌, ℕ, suc, ◌+◌, ◌-◌, ◌*◌, ◌/◌, ◌%◌, ◌<◌, Bool, true, false, cond, not, List, [], ◌∷◌, ◌++◌, length, map, take, drop, get_or, Decides, refl, sym, ap, ◌∙◌, subst, arith}
use Rattle.std.proofs.lemmas.Bool.{false≢true}
use Rattle.std.proofs.lemmas.List.{get_or-map, get_or_default, length-append, length-map, get_or-append_right, get_or_append_left}
use Rattle.std.proofs.lemmas.List.Concat.{flat_map-append}
use Rattle.std.proofs.lemmas.List.Elements.{All-from_get_or}
use Rattle.std.proofs.lemmas.List.Sums.{AllPass-from_list_all, list_all-from_AllPass}
use Rattle.std.proofs.Math.Seq.{split_at, take-suc}
use Rattle.std.proofs.lemmas.List.Folds.{Any-from_list_any, list_any_at}
use Rattle.cnf.specs.declared.literal.Literal.{Literal}
use Rattle.cnf.specs.Numbers.{Clause, bit_of, literal_holds, clause_holds, all_hold}
use Rattle.sat_laws.specs.Formulas.{literal_at, bit, Holds, SomeHolds, ClausesHold}
use Rattle.clause_words.specs.Codes.{code_of, codes_of}
use Rattle.clause_words.specs.Stored.{Stores}
use Rattle.clause_words.proofs.Stored.{codes_push}

-- the assignment of bits
abbrev pub of_bits : List Bool → ℕ → Bool
of_bits bits v = get_or bits v false

-- a sign and a truth value
sign_true : (n b : Bool) → Decides (cond n (not b) b) (bit b ≡ cond n 0 1)
sign_true true true = (λ g. absurd (false≢true g), λ g. absurd (omega (arith, g)))
sign_true true false = (λ g. refl, λ g. refl)
sign_true false true = (λ g. refl, λ g. refl)
sign_true false false = (λ g. absurd (false≢true g), λ g. absurd (omega (arith, g)))

half_of_code : (v : ℕ) (n : Bool) → (2 * v + cond n 0 1) / 2 ≡ v
half_of_code v true = omega arith
half_of_code v false = omega arith

rest_of_code : (v : ℕ) (n : Bool) → (2 * v + cond n 0 1) % 2 ≡ cond n 0 1
rest_of_code v true = omega arith
rest_of_code v false = omega arith

-- a literal holds exactly if its code is true
literal_true : (bits : List Bool) (l : Literal) → Decides (literal_holds bits l) (Holds (of_bits bits) (code_of l))
literal_true bits l =
    subst (λ x. Decides (literal_holds bits l) (bit (of_bits bits x) ≡ code_of l % 2)) (sym (half_of_code (l.variable - 1) l.negated))
    (subst (λ y. Decides (literal_holds bits l) (bit (of_bits bits (l.variable - 1)) ≡ y)) (sym (rest_of_code (l.variable - 1) l.negated))
    (sign_true l.negated (bit_of bits l.variable)))

-- a clause at the places from a on holds exactly if some literal there is true
clause_true : (bits : List Bool) (ws : List ℕ) (a : ℕ) (c : Clause) → ((j : ℕ) → j < length c → literal_at ws (a + j) ≡ get_or (map code_of c) j 0)
    → Decides (clause_holds bits c) (SomeHolds (of_bits bits) ws a (a + length c))
clause_true bits ws a c h = (to, from)
  where
    none : Literal
    none = record { variable = 0; negated = false }

    same : (k : ℕ) → k < length c → literal_at ws (a + k) ≡ code_of (get_or c k none)
    same k l = h k l ∙ get_or-map code_of c k none 0 l

    to : clause_holds bits c ≡ true → SomeHolds (of_bits bits) ws a (a + length c)
    to g =
        let w = Any-from_list_any (literal_holds bits) c g in
        let l : get_or c w.0 none ≡ w.1 = get_or_default c w.0 none w.1 w.2 ∙ w.3 in (
          a + w.0,
          omega arith,
          omega (arith, w.2),
          subst (Holds (of_bits bits)) (sym (same w.0 w.2 ∙ ap code_of l)) ((literal_true bits w.1).0 w.4),
        )

    from : SomeHolds (of_bits bits) ws a (a + length c) → clause_holds bits c ≡ true
    from w =
        let k = w.0 - a in
        let l : k < length c = omega (arith, w.1, w.2) in
        let e : a + k ≡ w.0 = omega (arith, w.1) in
        list_any_at (literal_holds bits) c k none l
        ((literal_true bits (get_or c k none)).1 (subst (Holds (of_bits bits)) (sym (ap (literal_at ws) e) ∙ same k l) w.3))

module _ (ws ends : List ℕ) (k : ℕ) (cs : List Clause) (h : Stores ws ends k cs) (c : ℕ) (l : c < length cs) where
  -- the clause c
  abbrev clause : Clause
  clause = get_or cs c []

  -- the literals before it
  abbrev before : ℕ
  before = length (codes_of (take c cs))

  parts : codes_of cs ≡ codes_of (take c cs) ++ (map code_of clause ++ codes_of (drop (suc c) cs))
  parts = ap codes_of (split_at cs c [] l) ∙ flat_map-append (λ x. map code_of x) (take c cs) (clause ∷ drop (suc c) cs)

  clause_begins : get_or ends c 0 ≡ before
  clause_begins = h.bounds c (omega arith)

  clause_ends : get_or ends (c + 1) 0 ≡ before + length clause
  clause_ends =
      let e : c + 1 ≡ suc c = omega arith in
      h.bounds (c + 1) (omega arith) ∙ ap (λ n. length (codes_of (take n cs))) e
      ∙ ap (λ xs. length (codes_of xs)) (take-suc cs c [] l) ∙ ap (λ ys. length ys) (codes_push (take c cs) clause)
      ∙ length-append (codes_of (take c cs)) (map code_of clause) ∙ ap (λ n. before + n) (length-map clause code_of)

  clause_literals : (j : ℕ) → j < length clause → literal_at ws (before + j) ≡ get_or (map code_of clause) j 0
  clause_literals j g =
      let m : j < length (map code_of clause) = omega (arith, length-map clause code_of) in
      let total : length (codes_of cs) ≡ before + (length clause + length (codes_of (drop (suc c) cs))) =
      ap (λ ys. length ys) parts ∙ length-append (codes_of (take c cs)) _
      ∙ ap (λ n. before + n) (length-append (map code_of clause) (codes_of (drop (suc c) cs)) ∙ ap (λ n. n + length (codes_of (drop (suc c) cs))) (length-map clause code_of)) in
      let back : before + j - before ≡ j = omega arith in
      h.literals (before + j) (omega arith)
      ∙ ap (λ ys. get_or ys (before + j) 0) parts
      ∙ get_or-append_right (codes_of (take c cs)) (map code_of clause ++ codes_of (drop (suc c) cs)) before (before + j) 0 refl (omega arith)
      ∙ ap (λ n. get_or (map code_of clause ++ codes_of (drop (suc c) cs)) n 0) back
      ∙ get_or_append_left (map code_of clause) (codes_of (drop (suc c) cs)) 0 j m

  -- it is true exactly if it holds
  pub clause_decided : (bits : List Bool) → Decides (clause_holds bits clause) (SomeHolds (of_bits bits) ws (get_or ends c 0) (get_or ends (c + 1) 0))
  clause_decided bits =
      subst (λ a. Decides (clause_holds bits clause) (SomeHolds (of_bits bits) ws a (get_or ends (c + 1) 0))) (sym clause_begins)
      (subst (λ b. Decides (clause_holds bits clause) (SomeHolds (of_bits bits) ws before b)) (sym clause_ends)
      (clause_true bits ws before clause clause_literals))

-- the clauses in the words are all true exactly if the clauses all hold
pub clauses_true : (bits : List Bool) (ws ends : List ℕ) (k : ℕ) (cs : List Clause) → Stores ws ends k cs
    → Decides (all_hold bits cs) (ClausesHold (of_bits bits) ws ends k)
clauses_true bits ws ends k cs h = (
  λ g c l. (clause_decided ws ends k cs h c (omega (arith, h.count)) bits).0
      (AllPass-from_list_all (clause_holds bits) cs g c [] (omega (arith, h.count))),
  λ g. list_all-from_AllPass (clause_holds bits) cs
      (All-from_get_or (λ x. clause_holds bits x ≡ true) cs [] (λ c l. (clause_decided ws ends k cs h c l bits).1 (g c (omega (arith, h.count))))),
)

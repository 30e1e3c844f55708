-- A way after a way is a way, and every permutation is listed.
use Rattle.std.proofs.Common.{◌≡◌, ℕ, zero, suc, ◌+◌, ◌-◌, ◌*◌, ◌<◌, Bool, true, false, cond, ◌&&◌, T, eqb, ltb, List, [], ◌∷◌, get_or, sym, refl, ap, ◌∙◌, ap₂, zero-add, arith, eqb→eq, ltb→lt}
use Rattle.std.proofs.lemmas.Bool.{ne_eqb, both_ways}
use Rattle.mig.specs.Tables.{bit_at, table_from}
use Rattle.mig_laws.proofs.Tables.{one, bit_at_table, table_below, table_same, bits_same}
use Rattle.class_laws.specs.Renaming.{differ}
use Rattle.class_laws.specs.Ways.{orders, Way, IsWay, Apart, AllPermutations, source, old_row, carry_table}
use Rattle.class_laws.proofs.Carried.{source_below, old_row_bit, old_row_below, carry_bit}
use Rattle.class_laws.proofs.Small.{parts, below}
use Rattle.mig.specs.Rules.{all_below}

-- the place of a permutation in `orders`, by how many of the smaller numbers are still left at each of its steps
place_of : ℕ → ℕ → ℕ → ℕ
place_of x y z = 6 * x + 2 * (y - one (ltb x y)) + (z - one (ltb x z) - one (ltb y z))

equal : List ℕ → List ℕ → Bool
equal [] [] = true
equal [] (y ∷ ys) = false
equal (x ∷ xs) [] = false
equal (x ∷ xs) (y ∷ ys) = eqb x y && equal xs ys

equal_eq : (xs ys : List ℕ) → T (equal xs ys) → xs ≡ ys
unfolding equal
equal_eq [] [] t = refl
equal_eq [] (y ∷ ys) t = absurd t
equal_eq (x ∷ xs) [] t = absurd t
equal_eq (x ∷ xs) (y ∷ ys) t =
    ap₂ (λ (a : ℕ) (l : List ℕ). a ∷ l) (eqb→eq x y (parts (eqb x y) (equal xs ys) t).0)
    (equal_eq xs ys (parts (eqb x y) (equal xs ys) t).1)

unless : Bool → Bool → Bool
unless b c = cond b true c

unless_not : (b c : Bool) → b ≡ false → T (unless b c) → T c
unfolding unless
unless_not true c e t = absurd (both_ways true e refl)
unless_not false c e t = t

found : ℕ → ℕ → ℕ → ℕ → Bool
found x y z u = ltb (place_of x y z) 24 && equal (get_or orders (place_of x y z) []) (x ∷ y ∷ z ∷ u ∷ [])

place_test : ℕ → ℕ → ℕ → ℕ → Bool
place_test x y z u =
    unless (eqb x y) (unless (eqb x z) (unless (eqb x u) (unless (eqb y z) (unless (eqb y u) (unless (eqb z u) (found x y z u))))))

place_tested : (x y z u : ℕ) → x < 4 → y < 4 → z < 4 → u < 4 → T (place_test x y z u)
unfolding place_test found unless equal place_of all_below
place_tested x y z u a b c d =
    below 4 (place_test x y z)
    (below 4 (λ k. all_below 4 (place_test x y k))
    (below 4 (λ j. all_below 4 (λ k. all_below 4 (place_test x j k)))
    (below 4 (λ i. all_below 4 (λ j. all_below 4 (λ k. all_below 4 (place_test i j k)))) tt x a) y b) z c) u d

place_found : (x y z u : ℕ) → Apart x y z u → T (found x y z u)
unfolding place_test
place_found x y z u h =
    unless_not (eqb z u) _ (ne_eqb z u h.9)
    (unless_not (eqb y u) _ (ne_eqb y u h.8)
    (unless_not (eqb y z) _ (ne_eqb y z h.7)
    (unless_not (eqb x u) _ (ne_eqb x u h.6)
    (unless_not (eqb x z) _ (ne_eqb x z h.5)
    (unless_not (eqb x y) _ (ne_eqb x y h.4) (place_tested x y z u h.0 h.1 h.2 h.3))))))

pub all_permutations : AllPermutations
unfolding found
all_permutations x y z u h =
    let t = place_found x y z u h in
    let l = ltb (place_of x y z) 24 in
    let e = equal (get_or orders (place_of x y z) []) (x ∷ y ∷ z ∷ u ∷ []) in (
      place_of x y z,
      ltb→lt (place_of x y z) 24 (parts l e t).0,
      equal_eq (get_or orders (place_of x y z) []) (x ∷ y ∷ z ∷ u ∷ []) (parts l e t).1,
    )

-- a permutation after a permutation
after : ℕ → ℕ → ℕ → ℕ
after i j a = source j (source i a)

after_test : ℕ → ℕ → Bool
after_test i j = found (after i j 0) (after i j 1) (after i j 2) (after i j 3)

after_tested : (i j : ℕ) → i < 24 → j < 24 → T (after_test i j)
unfolding after_test after found equal place_of all_below
after_tested i j a b = below 24 (after_test i) (below 24 (λ k. all_below 24 (after_test k)) tt i a) j b

after_found : (i j : ℕ) → i < 24 → j < 24 → (k : ℕ) × (k < 24) × ((a : ℕ) → a < 4 → source k a ≡ source j (source i a))
unfolding after_test after found
after_found i j h h' =
    (place_of x y z, ltb→lt (place_of x y z) 24 (parts l e t).0, at)
  where
    x : ℕ
    x = after i j 0

    y : ℕ
    y = after i j 1

    z : ℕ
    z = after i j 2

    u : ℕ
    u = after i j 3

    l : Bool
    l = ltb (place_of x y z) 24

    e : Bool
    e = equal (get_or orders (place_of x y z) []) (x ∷ y ∷ z ∷ u ∷ [])

    t : T (l && e)
    t = after_tested i j h h'

    list : get_or orders (place_of x y z) [] ≡ x ∷ y ∷ z ∷ u ∷ []
    list = equal_eq (get_or orders (place_of x y z) []) (x ∷ y ∷ z ∷ u ∷ []) (parts l e t).1

    at : (a : ℕ) → a < 4 → source (place_of x y z) a ≡ source j (source i a)
    at zero b = ap (λ (xs : List ℕ). get_or xs 0 0) list
    at (suc zero) b = ap (λ (xs : List ℕ). get_or xs 1 0) list
    at (suc (suc zero)) b = ap (λ (xs : List ℕ). get_or xs 2 0) list
    at (suc (suc (suc zero))) b = ap (λ (xs : List ℕ). get_or xs 3 0) list
    at (suc (suc (suc (suc a)))) b = absurd (omega arith)

differ_assoc : (a b c : Bool) → differ a (differ b c) ≡ differ (differ a b) c
differ_assoc true true true = refl
differ_assoc true true false = refl
differ_assoc true false true = refl
differ_assoc true false false = refl
differ_assoc false true true = refl
differ_assoc false true false = refl
differ_assoc false false true = refl
differ_assoc false false false = refl

-- a way after a way
pub composing : (w v : Way) → IsWay w → IsWay v → (u : Way) × IsWay u × ((f : ℕ) → carry_table v (carry_table w f) ≡ carry_table u f)
composing w v h h' = (
  record { order = k; mask = m; flipped = differ v.flipped w.flipped },
  (q.1, table_below 4 0 masked),
  λ f.
      table_same 16 0 (λ t. differ v.flipped (bit_at (carry_table w f) (old_row v.order v.mask t)))
      (λ t. differ (differ v.flipped w.flipped) (bit_at f (old_row k m t)))
      (λ i l.
      let t = 0 + i in
      let r = old_row v.order v.mask t in
      ap (differ v.flipped)
      (carry_bit w f r (old_row_below v.order v.mask t)
      ∙ ap (λ (x : ℕ). differ w.flipped (bit_at f x)) (rows t)
      )
      ∙ differ_assoc v.flipped w.flipped (bit_at f (old_row k m t))),
)
  where
    q : (k : ℕ) × (k < 24) × ((a : ℕ) → a < 4 → source k a ≡ source v.order (source w.order a))
    q = after_found w.order v.order h.0 h'.0

    k : ℕ
    k = q.0

    masked : ℕ → Bool
    masked a = differ (bit_at w.mask a) (bit_at v.mask (source w.order a))

    m : ℕ
    m = table_from 4 0 masked

    rows : (t : ℕ) → old_row w.order w.mask (old_row v.order v.mask t) ≡ old_row k m t
    rows t =
        bits_same 4 (old_row w.order w.mask (old_row v.order v.mask t)) (old_row k m t)
        (old_row_below w.order w.mask (old_row v.order v.mask t))
        (old_row_below k m t)
        (λ a b.
        old_row_bit w.order w.mask (old_row v.order v.mask t) a b
        ∙ ap (differ (bit_at w.mask a))
        (old_row_bit v.order v.mask t (source w.order a) (source_below w.order a h.0 b)
        ∙ ap (λ (x : ℕ). differ (bit_at v.mask (source w.order a)) (bit_at t x)) (sym (q.2 a b))
        )
        ∙ differ_assoc (bit_at w.mask a) (bit_at v.mask (source w.order a)) (bit_at t (source k a))
        ∙ ap (λ (x : Bool). differ x (bit_at t (source k a))) (sym (bit_at_table 4 0 masked a b ∙ ap masked (zero-add a)))
        ∙ sym (old_row_bit k m t a b))

-- Carrying a table and a network by a way.
use Rattle.std.proofs.Common.{◌≡◌, ℕ, zero, suc, ◌+◌, ◌-◌, ◌*◌, ◌/◌, ◌%◌, ◌^◌, ◌<◌, ◌≤◌, Bool, true, false, ◌&&◌, T, eqb, ltb, leb, ◌↔◌, [], length, get_or, sym, refl, ap, ◌∙◌, subst, ap₂, inl, inr, zero-add, arith, eqb→eq, ltb→lt}
use Rattle.std.proofs.lemmas.List.{get_or_past}
use Rattle.std.proofs.lemmas.Bool.{le-leb, lt-leb, eq-eqb, ne_eqb, cases_lt, cond-true, cond-false}
use Rattle.mig.specs.declared.question.Limits.{Limits}
use Rattle.mig.specs.Networks.{Net, Formed, node, complemented, value_at, bits}
use Rattle.mig.specs.Tables.{bit_at}
use Rattle.mig.specs.Questions.{question_of, row_start, Meets}
use Rattle.mig_laws.proofs.RowBits.{get_or-input_bits}
use Rattle.mig_laws.proofs.Tables.{one, one_small, one_back, bit_at_table, table_below, bits_same}
use Rattle.class_laws.specs.Renaming.{differ, complement_by, rename, SameGates}
use Rattle.class_laws.specs.Ways.{orders, inverses, Way, IsWay, source, old_row, carry_table, carried_code, carry_net, inverse}
use Rattle.class_laws.proofs.Renamed.{Renumbering, Correspondence, transfer, renamed_same_gates, rename_net_back}
use Rattle.class_laws.proofs.Small.{parts, below}
use Rattle.mig.specs.Rules.{all_below}

differ_two : (a b : Bool) → differ a (differ a b) ≡ b
differ_two true true = refl
differ_two true false = refl
differ_two false true = refl
differ_two false false = refl

-- what the two tables of permutations say, tested at each
order_test : ℕ → ℕ → Bool
order_test k a = (ltb (source k a) 4) && (eqb (source (get_or inverses k 0) (source k a)) a)

order_tested : (k a : ℕ) → k < 24 → a < 4 → T (order_test k a)
unfolding order_test all_below
order_tested k a h l = below 4 (order_test k) (below 24 (λ i. all_below 4 (order_test i)) tt k h) a l

pub source_below : (k a : ℕ) → k < 24 → a < 4 → source k a < 4
unfolding order_test
source_below k a h l =
    ltb→lt (source k a) 4 (parts (ltb (source k a) 4) (eqb (source (get_or inverses k 0) (source k a)) a) (order_tested k a h l)).0

source_back : (k a : ℕ) → k < 24 → a < 4 → source (get_or inverses k 0) (source k a) ≡ a
unfolding order_test
source_back k a h l =
    eqb→eq (source (get_or inverses k 0) (source k a)) a
    (parts (ltb (source k a) 4) (eqb (source (get_or inverses k 0) (source k a)) a) (order_tested k a h l)).1

-- a permutation has four places
pub source_past : (k a : ℕ) → k < 24 → 4 ≤ a → source k a ≡ 0
unfolding all_below
source_past k a h l =
    let four = eqb→eq (length (get_or orders k [])) 4 (below 24 (λ i. eqb (length (get_or orders i [])) 4) tt k h) in
    get_or_past (get_or orders k []) a 0 (omega arith)

pub inverses_below : (k : ℕ) → k < 24 → get_or inverses k 0 < 24
unfolding all_below
inverses_below k h = ltb→lt (get_or inverses k 0) 24 (below 24 (λ i. ltb (get_or inverses i 0) 24) tt k h)

-- the bits of the old row
pub old_row_bit : (k m t a : ℕ) → a < 4 → bit_at (old_row k m t) a ≡ differ (bit_at m a) (bit_at t (source k a))
unfolding old_row
old_row_bit k m t a h =
    bit_at_table 4 0 (λ b. differ (bit_at m b) (bit_at t (source k b))) a h
    ∙ ap (λ (b : ℕ). differ (bit_at m b) (bit_at t (source k b))) (zero-add a)

pub old_row_below : (k m t : ℕ) → old_row k m t < 16
unfolding old_row
old_row_below k m t = table_below 4 0 (λ b. differ (bit_at m b) (bit_at t (source k b)))

-- a row of the carried table
pub carry_bit
    : (w : Way) (f t : ℕ)
    → t < 16
    → bit_at (carry_table w f) t ≡ differ w.flipped (bit_at f (old_row w.order w.mask t))
carry_bit w f t h =
    bit_at_table 16 0 (λ u. differ w.flipped (bit_at f (old_row w.order w.mask u))) t h
    ∙ ap (λ (u : ℕ). differ w.flipped (bit_at f (old_row w.order w.mask u))) (zero-add t)

carry_below : (w : Way) (f : ℕ) → carry_table w f < 2 ^ 16
carry_below w f = table_below 16 0 (λ u. differ w.flipped (bit_at f (old_row w.order w.mask u)))

-- the code of an input
pub carried_low
    : (k m a : ℕ) → a < 4 → carried_code k m (suc a) ≡ 2 * (source k a + 1) + one (bit_at m a)
unfolding carried_code
carried_low k m a h = cond-false (leb 4 a) (2 * (a + 1)) (2 * (source k a + 1) + one (bit_at m a)) (lt-leb 4 a h)

pub carried_high : (k m a : ℕ) → 4 ≤ a → carried_code k m (suc a) ≡ 2 * (a + 1)
unfolding carried_code
carried_high k m a h = cond-true (leb 4 a) (2 * (a + 1)) (2 * (source k a + 1) + one (bit_at m a)) (le-leb 4 a h)

carried_renumbering : (k m : ℕ) → k < 24 → Renumbering 5 5 (carried_code k m)
unfolding carried_code
carried_renumbering k m h = record { low = low; high = high }
  where
    low : (j : ℕ) → j < 5 → node (carried_code k m j) < 5
    low zero l = omega arith
    low (suc a) l =
        omega (arith, carried_low k m a (omega arith), source_below k a h (omega arith), one_small (bit_at m a))

    high : (j : ℕ) → 5 ≤ j → carried_code k m j ≡ 2 * ((j - 5) + 5)
    high zero l = absurd (omega arith)
    high (suc a) l = omega (arith, carried_high k m a (omega arith))

input_code : (t s : ℕ) (b : Bool) → s < 4 → value_at bits (row_start 4 t) (2 * (s + 1) + one b) ≡ differ b (bit_at t s)
input_code t s b h =
    ap₂ (λ (d : Bool) (j : ℕ). differ d (get_or (row_start 4 t) j false)) (odd b) half
    ∙ ap (differ b) (get_or-input_bits 4 t s h)
  where
    odd : (c : Bool) → complemented (2 * (s + 1) + one c) ≡ c
    odd true = eq-eqb ((2 * (s + 1) + 1) % 2) 1 (omega arith)
    odd false = ne_eqb ((2 * (s + 1) + 0) % 2) 1 (omega arith)

    half : (2 * (s + 1) + one b) / 2 ≡ suc s
    half = omega (arith, one_small b)

pub carry_correspondence
    : (w : Way) (f : ℕ)
    → IsWay w
    → Correspondence 4 4 f (carry_table w f) (one w.flipped) (carried_code w.order w.mask) (old_row w.order w.mask)
unfolding carried_code
carry_correspondence w f h =
    record {
      renumbering = carried_renumbering k m h.0;
      within = λ t l. old_row_below k m t;
      inputs = λ t j l b. inputs t j b;
      values =
          λ t l. ap (λ (b : Bool). differ b (bit_at f (old_row k m t))) (one_back w.flipped) ∙ sym (carry_bit w f t l);
    }
  where
    k : ℕ
    k = w.order

    m : ℕ
    m = w.mask

    inputs
        : (t j : ℕ) → j < 5 → value_at bits (row_start 4 t) (carried_code k m j) ≡ get_or (row_start 4 (old_row k m t)) j false
    inputs t zero b = refl
    inputs t (suc a) b =
        let l : a < 4 = omega arith in
        ap (value_at bits (row_start 4 t)) (carried_low k m a l)
        ∙ input_code t (source k a) (bit_at m a) (source_below k a h.0 l)
        ∙ sym (old_row_bit k m t a l)
        ∙ sym (get_or-input_bits 4 (old_row k m t) a l)

-- a carried network meets the carried question
pub carrying : (w : Way) (f : ℕ) (limits : Limits) (net : Net) → IsWay w → Meets (question_of 4 f limits) net
    → Meets (question_of 4 (carry_table w f) limits) (carry_net w net)
carrying w f limits net h q = transfer limits net (carry_correspondence w f h) q

-- the inverse complements an input's replacement exactly if the way complements the input
mask_back : (w : Way) → IsWay w → (a : ℕ) → a < 4 → bit_at (inverse w).mask (source w.order a) ≡ bit_at w.mask a
mask_back w h a b =
    let k = w.order in
    let k' = (inverse w).order in
    bit_at_table 4 0 (λ i. bit_at w.mask (source k' i)) (source k a) (source_below k a h.0 b)
    ∙ ap (λ (i : ℕ). bit_at w.mask (source k' i)) (zero-add (source k a))
    ∙ ap (bit_at w.mask) (source_back k a h.0 b)

-- the old row of the inverse's old row is the row itself
pub row_back
    : (w : Way) (t : ℕ)
    → IsWay w
    → t < 16
    → old_row w.order w.mask (old_row (inverse w).order (inverse w).mask t) ≡ t
row_back w t h l =
    bits_same 4 (old_row k m (old_row k' m' t)) t (old_row_below k m (old_row k' m' t)) l
    (λ a b.
    old_row_bit k m (old_row k' m' t) a b
    ∙ ap (differ (bit_at m a))
    (old_row_bit k' m' t (source k a) (source_below k a h.0 b)
    ∙ ap₂ differ (mask_back w h a b) (ap (bit_at t) (source_back k a h.0 b))
    )
    ∙ differ_two (bit_at m a) (bit_at t a))
  where
    k : ℕ
    k = w.order

    m : ℕ
    m = w.mask

    k' : ℕ
    k' = (inverse w).order

    m' : ℕ
    m' = (inverse w).mask

-- the inverse is a way, and carries each table back
pub returning : (w : Way) (f : ℕ) → IsWay w → f < 2 ^ 16 → IsWay (inverse w) × (carry_table (inverse w) (carry_table w f) ≡ f)
returning w f h l = (
  (inverses_below w.order h.0, table_below 4 0 (λ a. bit_at w.mask (source (get_or inverses w.order 0) a))),
  bits_same 16 (carry_table (inverse w) (carry_table w f)) f (carry_below (inverse w) (carry_table w f)) l
      (λ t b.
      let u = old_row (inverse w).order (inverse w).mask t in
      carry_bit (inverse w) (carry_table w f) t b
      ∙ ap (differ w.flipped)
      (carry_bit w f u (old_row_below (inverse w).order (inverse w).mask t)
      ∙ ap (λ (x : ℕ). differ w.flipped (bit_at f x)) (row_back w t h b)
      )
      ∙ differ_two w.flipped (bit_at f t)),
)

-- a network carried by a way and by its inverse is the network
pub carried_back : (w : Way) → IsWay w → (net : Net) → carry_net (inverse w) (carry_net w net) ≡ net
unfolding carried_code
carried_back w h net = rename_net_back (carried_code k m) (carried_code k' m') (one w.flipped) back net
  where
    k : ℕ
    k = w.order

    m : ℕ
    m = w.mask

    k' : ℕ
    k' = (inverse w).order

    m' : ℕ
    m' = (inverse w).mask

    input : (a : ℕ) → a < 4 → rename (carried_code k' m') (carried_code k m (suc a)) ≡ 2 * suc a
    input a l =
        let s = carried_code k m (suc a) in
        let b = source k a in
        let small = one_small (bit_at m a) in
        let here : s ≡ 2 * (b + 1) + one (bit_at m a) = carried_low k m a l in
        let at : node s ≡ suc b = omega arith in
        let there : carried_code k' m' (node s) ≡ 2 * (a + 1) + one (bit_at m a) =
        ap (carried_code k' m') at ∙ carried_low k' m' b (source_below k a h.0 l)
        ∙ ap₂ (λ (x : ℕ) (y : Bool). 2 * (x + 1) + one y) (source_back k a h.0 l) (mask_back w h a l) in
        ap (complement_by s) there ∙ omega arith

    back : (j : ℕ) → rename (carried_code k' m') (carried_code k m j) ≡ 2 * j
    back zero = refl
    back (suc a) = elim (cases_lt a 4) [
      | inl l ↦ input a l
      | inr g ↦
          let s = carried_code k m (suc a) in
          let here : s ≡ 2 * (a + 1) = carried_high k m a g in
          let at : node s ≡ suc a = omega arith in
          ap (λ (j : ℕ). complement_by s (carried_code k' m' j)) at ∙ omega (arith, carried_high k' m' a g)
    ]

-- a network meets a question exactly when the carried network meets the carried question
pub carried_meets_exactly : (w : Way) (f : ℕ) (limits : Limits) (net : Net) → IsWay w → f < 2 ^ 16
    → Meets (question_of 4 f limits) net ↔ Meets (question_of 4 (carry_table w f) limits) (carry_net w net)
carried_meets_exactly w f limits net h l = (
  carrying w f limits net h,
  λ m.
      let r = returning w f h l in
      let b = carrying (inverse w) (carry_table w f) limits (carry_net w net) r.0 m in
      subst (Meets (question_of 4 f limits)) (carried_back w h net)
      (subst (λ (g : ℕ). Meets (question_of 4 g limits) (carry_net (inverse w) (carry_net w net))) r.1 b),
)

pub carried_same_gates : (w : Way) (net : Net) → IsWay w → Formed 4 net → SameGates 4 4 net (carry_net w net)
carried_same_gates w net h = renamed_same_gates 4 4 (carried_renumbering w.order w.mask h.0) (one w.flipped) net

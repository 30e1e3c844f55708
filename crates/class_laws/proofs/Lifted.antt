-- Raising a network to N inputs, and cutting it to fewer.
use Rattle.std.proofs.Common.{◌≡◌, ℕ, zero, suc, ◌+◌, ◌-◌, ◌*◌, ◌/◌, ◌%◌, ◌^◌, ◌<◌, ◌≤◌, false, cond, eqb, leb, ◌⊎◌, ◌↔◌, get_or, sym, refl, ap, ◌∙◌, subst, inl, inr, mod-lt, mod-eq_of_lt, zero-add, arith, pow_pos, pow_mono}
use native.Mathlib.Nat.{div-eq_of_lt}
use Rattle.std.proofs.lemmas.Nat.{field_of, mod-pow-add}
use Rattle.std.proofs.lemmas.Bool.{le-leb, lt-leb, cases_lt, cond-true, cond-false}
use Rattle.mig.specs.declared.question.Limits.{Limits}
use Rattle.mig.specs.Networks.{Net, Formed, value_at, bits}
use Rattle.mig.specs.Tables.{bit_at}
use Rattle.mig.specs.Questions.{question_of, row_start, Meets}
use Rattle.mig_laws.proofs.RowBits.{bits_lawful, get_or-input_bits}
use Rattle.mig_laws.proofs.Tables.{bit_at_table}
use Rattle.class_laws.specs.Renaming.{rename, SameGates}
use Rattle.class_laws.specs.Lifting.{lift_table, raised_code, raise_net, cut_code, cut_net}
use Rattle.class_laws.proofs.Renamed.{Correspondence, transfer, renamed_same_gates, rename_net_back, value_even}

raised_low : (N n j : ℕ) → j ≤ n → raised_code N n j ≡ 2 * j
raised_low N n j h = cond-true (leb j n) (2 * j) (2 * (j + (N - n))) (le-leb j n h)

raised_high : (N n j : ℕ) → n < j → raised_code N n j ≡ 2 * (j + (N - n))
raised_high N n j h = cond-false (leb j n) (2 * j) (2 * (j + (N - n))) (lt-leb j n h)

cut_low : (N n j : ℕ) → j ≤ n → cut_code N n j ≡ 2 * j
cut_low N n j h = cond-true (leb j n) (2 * j) (cond (leb j N) 0 (2 * (j - (N - n)))) (le-leb j n h)

cut_mid : (N n j : ℕ) → n < j → j ≤ N → cut_code N n j ≡ 0
cut_mid N n j h l =
    cond-false (leb j n) (2 * j) (cond (leb j N) 0 (2 * (j - (N - n)))) (lt-leb j n h)
    ∙ cond-true (leb j N) 0 (2 * (j - (N - n))) (le-leb j N l)

cut_high : (N n j : ℕ) → n < j → N < j → cut_code N n j ≡ 2 * (j - (N - n))
cut_high N n j h l =
    cond-false (leb j n) (2 * j) (cond (leb j N) 0 (2 * (j - (N - n)))) (lt-leb j n h)
    ∙ cond-false (leb j N) 0 (2 * (j - (N - n))) (lt-leb j N l)

half : (j : ℕ) → (2 * j) / 2 ≡ j
half j = omega arith

-- a row cut to n inputs keeps the bits below n
bit_at_mod : (n t i : ℕ) → i < n → bit_at (t % (2 ^ n)) i ≡ bit_at t i
bit_at_mod n t i h = ap (λ (x : ℕ). eqb x 1) low
  where
    below : n ≡ (n - i) + i
    below = omega arith

    rest : n - i ≡ (n - i - 1) + 1
    rest = omega arith

    shifted : t % (2 ^ n) / (2 ^ i) ≡ t / 2 ^ i % 2 ^ ((n - i - 1) + 1)
    shifted = ap (λ (m : ℕ). t % (2 ^ m) / (2 ^ i)) below ∙ field_of t (n - i) i ∙ ap (λ (m : ℕ). t / 2 ^ i % 2 ^ m) rest

    last : (a b : ℕ) → (a * 2 ^ 1 + b % 2 ^ 1) % 2 ≡ b % 2
    last a b = omega arith

    low : (t % (2 ^ n) / (2 ^ i)) % 2 ≡ (t / (2 ^ i)) % 2
    low = ap (λ (x : ℕ). x % 2) (shifted ∙ mod-pow-add (t / 2 ^ i) (n - i - 1) 1) ∙ last (t / 2 ^ i / 2 ^ 1 % 2 ^ (n - i - 1)) (t / 2 ^ i)

raise_inputs : (N n t j : ℕ) → n ≤ N → j ≤ n → get_or (row_start N t) j false ≡ get_or (row_start n (t % (2 ^ n))) j false
raise_inputs N n t zero a c = refl
raise_inputs N n t (suc i) a c =
    get_or-input_bits N t i (omega arith) ∙ sym (bit_at_mod n t i (omega arith)) ∙ sym (get_or-input_bits n (t % (2 ^ n)) i (omega arith))

-- a question over n inputs, and the lifted one over N
raise_correspondence : (N n f : ℕ) → n ≤ N → Correspondence n N f (lift_table N n f) 0 (raised_code N n) (λ t. t % (2 ^ n))
raise_correspondence N n f a =
    record {
      renumbering =
          record {
            low = λ j h. let l : j ≤ n = omega arith in omega (arith, raised_low N n j l);
            high = λ j h. let l : n < j = omega arith in raised_high N n j l ∙ omega arith;
          };
      within = λ t h. mod-lt t (pow_pos n);
      inputs =
          λ t j h l.
          let b : j ≤ n = omega arith in
          ap (value_at bits (row_start N t)) (raised_low N n j b)
          ∙ value_even bits bits_lawful.twice (row_start N t) j
          ∙ raise_inputs N n t j a b;
      values =
          λ t h.
          sym
          (bit_at_table (2 ^ N) 0 (λ u. bit_at f (u % (2 ^ n))) t h
          ∙ ap (λ (u : ℕ). bit_at f (u % (2 ^ n))) (zero-add t)
          );
    }

widen : (n i t : ℕ) → n ≤ i → t < 2 ^ n → t < 2 ^ i
widen n i t l h = omega (arith, pow_mono l)

-- a row below 2^n has no bit from n on
high_bit : (n t i : ℕ) → t < 2 ^ n → n ≤ i → bit_at t i ≡ false
high_bit n t i h l = ap (λ (x : ℕ). eqb (x % 2) 1) (div-eq_of_lt (widen n i t l h))

cut_inputs : (N n t j : ℕ) → n ≤ N → t < 2 ^ n → j ≤ N → value_at bits (row_start n t) (cut_code N n j) ≡ get_or (row_start N t) j false
cut_inputs N n t zero a b c =
    ap (value_at bits (row_start n t)) (cut_low N n zero (omega arith))
cut_inputs N n t (suc i) a b c =
    elim (cases_lt i n) [
      | inl l ↦
          ap (value_at bits (row_start n t)) (cut_low N n (suc i) (omega arith))
          ∙ value_even bits bits_lawful.twice (row_start n t) (suc i)
          ∙ get_or-input_bits n t i l
          ∙ sym (get_or-input_bits N t i (omega arith))
      | inr g ↦
          ap (value_at bits (row_start n t)) (cut_mid N n (suc i) (omega arith) c)
          ∙ sym (high_bit n t i b g)
          ∙ sym (get_or-input_bits N t i (omega arith))
    ]

-- a lifted question over N inputs, and the one over n
cut_correspondence : (N n f : ℕ) → n ≤ N → Correspondence N n (lift_table N n f) f 0 (cut_code N n) (λ t. t)
cut_correspondence N n f a =
    record {
      renumbering =
          record {
            low =
                λ j h.
                elim (cases_lt n j)
                [ inl g ↦ omega (arith, cut_mid N n j g (omega arith)) | inr l ↦ omega (arith, cut_low N n j l) ];
            high = λ j h. let l : n < j = omega arith in cut_high N n j l (omega arith) ∙ omega arith;
          };
      within = λ t h. widen n N t a h;
      inputs = λ t j h l. cut_inputs N n t j a h (omega arith);
      values =
          λ t h.
          bit_at_table (2 ^ N) 0 (λ u. bit_at f (u % (2 ^ n))) t (widen n N t a h)
          ∙ ap (λ (u : ℕ). bit_at f (u % (2 ^ n))) (zero-add t)
          ∙ ap (bit_at f) (mod-eq_of_lt h);
    }

-- a network raised to N inputs meets the lifted question
pub raising : (N n f : ℕ) (limits : Limits) (net : Net) → n ≤ N → Meets (question_of n f limits) net
    → Meets (question_of N (lift_table N n f) limits) (raise_net N n net)
raising N n f limits net a h = transfer limits net (raise_correspondence N n f a) h

-- a network of the lifted question, cut to n inputs, meets the question
pub cutting : (N n f : ℕ) (limits : Limits) (net : Net) → n ≤ N → Meets (question_of N (lift_table N n f) limits) net
    → Meets (question_of n f limits) (cut_net N n net)
cutting N n f limits net a h = transfer limits net (cut_correspondence N n f a) h

-- a network raised and cut back is the network
pub raise_cut : (N n : ℕ) → n ≤ N → (net : Net) → cut_net N n (raise_net N n net) ≡ net
raise_cut N n a net = rename_net_back (raised_code N n) (cut_code N n) 0 (λ j. back j (cases_lt n j)) net
  where
    back : (j : ℕ) → (n < j) ⊎ (j ≤ n) → rename (cut_code N n) (raised_code N n j) ≡ 2 * j
    back j (inl g) =
        ap (rename (cut_code N n)) (raised_high N n j g)
        ∙ omega (arith, ap (cut_code N n) (half (j + (N - n))), cut_high N n (j + (N - n)) (omega arith) (omega arith))
    back j (inr l) = ap (rename (cut_code N n)) (raised_low N n j l) ∙ omega (arith, ap (cut_code N n) (half j), cut_low N n j l)

-- a network meets a question exactly when the raised network meets the lifted question
pub raised_meets_exactly : (N n f : ℕ) (limits : Limits) (net : Net) → n ≤ N
    → Meets (question_of n f limits) net ↔ Meets (question_of N (lift_table N n f) limits) (raise_net N n net)
raised_meets_exactly N n f limits net a = (
  raising N n f limits net a,
  λ h. subst (Meets (question_of n f limits)) (raise_cut N n a net) (cutting N n f limits (raise_net N n net) a h),
)

pub raised_same_gates : (N n : ℕ) (net : Net) → n ≤ N → Formed n net → SameGates n N net (raise_net N n net)
raised_same_gates N n net a = renamed_same_gates n N (raise_correspondence N n 0 a).renumbering 0 net

pub cut_same_gates : (N n : ℕ) (net : Net) → n ≤ N → Formed N net → SameGates N n net (cut_net N n net)
cut_same_gates N n net a = renamed_same_gates N n (cut_correspondence N n 0 a).renumbering 0 net

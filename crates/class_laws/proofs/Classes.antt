-- A class shares its representative, and whether a network of k gates exists.
use Rattle.std.proofs.Common.{◌≡◌, ℕ, zero, suc, ◌%◌, ◌^◌, ◌<◌, ◌≤◌, min, Bool, true, false, cond, ◌⊎◌, sym, refl, ap, ◌∙◌, subst, inl, inr, arith}
use Rattle.std.proofs.lemmas.Bool.{cases_lt, cases_eq}
use Rattle.mig.specs.declared.question.Limits.{Limits}
use Rattle.mig.specs.Tables.{bit_at}
use Rattle.mig.specs.Questions.{question_of}
use Rattle.mig_laws.proofs.Tables.{table_below}
use Rattle.class_laws.specs.Lifting.{lift_table, raised_code, cut_code, raise_net, cut_net}
use Rattle.class_laws.specs.Ways.{Way, IsWay, inverse, carry_table, carried_code, carry_net, Carries, Representative, least_of, representative_of}
use Rattle.class_laws.specs.Classes.{Solvable, SameMinimum, SharedExactlyInClass}
use Rattle.class_laws.proofs.Renamed.{size-rename}
use Rattle.class_laws.proofs.Lifted.{raising, cutting}
use Rattle.class_laws.proofs.Carried.{carrying, returning}
use Rattle.class_laws.proofs.Composed.{composing}

-- a lifted table has sixteen rows
lifted_below : (n f : ℕ) → lift_table 4 n f < 2 ^ 16
lifted_below n f = table_below 16 0 (λ t. bit_at f (t % (2 ^ n)))

carried_solvable : (w : Way) (f : ℕ) → IsWay w → (limits : Limits) (k : ℕ) → Solvable (question_of 4 f limits) k → Solvable (question_of 4 (carry_table w f) limits) k
carried_solvable w f h limits k (net, s, m) = (carry_net w net, size-rename (carried_code w.order w.mask) (cond w.flipped 1 0) net ∙ s, carrying w f limits net h m)

-- tables of one class over four inputs
same_in_class : (w : Way) (f : ℕ) → IsWay w → f < 2 ^ 16 → SameMinimum 4 f 4 (carry_table w f)
same_in_class w f h l limits k =
    let r = returning w f h l in (
      carried_solvable w f h limits k,
      λ s. subst (λ (g : ℕ). Solvable (question_of 4 g limits) k) r.1 (carried_solvable (inverse w) (carry_table w f) r.0 limits k s),
    )

-- a table over n inputs and its lifted table
same_lifted : (n f : ℕ) → n ≤ 4 → SameMinimum n f 4 (lift_table 4 n f)
same_lifted n f a limits k = (
  λ (net, s, m). (raise_net 4 n net, size-rename (raised_code 4 n) 0 net ∙ s, raising 4 n f limits net a m),
  λ (net, s, m). (cut_net 4 n net, size-rename (cut_code 4 n) 0 net ∙ s, cutting 4 n f limits net a m),
)

-- a table over n inputs and its representative over four
pub same_minimum : (n f g : ℕ) → n ≤ 4 → Representative (lift_table 4 n f) g → SameMinimum n f 4 g
same_minimum n f g a r limits k =
    let (w, h, e) = r.reached in
    let l = same_lifted n f a limits k in
    let c = same_in_class w (lift_table 4 n f) h (lifted_below n f) limits k in (
      λ s. subst (λ (x : ℕ). Solvable (question_of 4 x limits) k) e (c.0 (l.0 s)),
      λ s. l.1 (c.1 (subst (λ (x : ℕ). Solvable (question_of 4 x limits) k) (sym e) s)),
    )

-- a table has one representative
pub one_representative : (f g h : ℕ) → Representative f g → Representative f h → g ≡ h
one_representative f g h p q =
    let (a, wa, ea) = p.reached in
    let (b, wb, eb) = q.reached in
    let x : g ≤ carry_table b f = p.least b wb in
    let y : h ≤ carry_table a f = q.least a wa in
    omega (arith, ea, eb)

-- a class has one representative
class_representative : (w : Way) (f g : ℕ) → IsWay w → f < 2 ^ 16 → Representative f g → Representative (carry_table w f) g
class_representative w f g h l r =
    record {
      reached =
          let back = returning w f h l in
          let (v, wv, e) = r.reached in
          let u = composing (inverse w) v back.0 wv in
          (u.0, u.1, sym (u.2 (carry_table w f)) ∙ ap (carry_table v) back.1 ∙ e);
      least =
          λ v b.
          let u = composing w v h b in
          subst (λ (x : ℕ). g ≤ x) (sym (u.2 f)) (r.least u.0 u.1);
    }

-- two tables have the same representative exactly when a way carries the one to the other
pub shared_in_class : (n f g : ℕ) → Representative (lift_table 4 n f) g → SharedExactlyInClass n f g
shared_in_class n f g r m h a = (
  λ s.
      let (w, hw, e) = r.reached in
      let (v, hv, d) = s.reached in
      let back = returning v (lift_table 4 m h) hv (lifted_below m h) in
      let u = composing w (inverse v) hw back.0 in
      (u.0, u.1, sym (u.2 (lift_table 4 n f)) ∙ ap (carry_table (inverse v)) (e ∙ sym d) ∙ back.1),
  λ (w, hw, e). subst (λ (x : ℕ). Representative x g) e (class_representative w (lift_table 4 n f) g hw (lifted_below n f) r),
)

least_below : (k : ℕ) (f : ℕ → ℕ) (i : ℕ) → i ≤ k → least_of k f ≤ f i
unfolding least_of
least_below zero f i h = let e : 0 ≡ i = omega arith in let q = ap f e in omega arith
least_below (suc k) f i h = at (least_below k f i) (cases_eq i (suc k))
  where
    at : (i ≤ k → least_of k f ≤ f i) → (i ≡ suc k) ⊎ (i ≡ suc k → ⊥) → min (least_of k f) (f (suc k)) ≤ f i
    at rest (inl e) = let q = ap f e in omega arith
    at rest (inr e) = let q = rest (omega arith) in omega arith

least_attained : (k : ℕ) (f : ℕ → ℕ) → (i : ℕ) × (i ≤ k) × (f i ≡ least_of k f)
unfolding least_of
least_attained zero f = (0, omega arith, refl)
least_attained (suc k) f = at (least_attained k f) (cases_lt (f (suc k)) (least_of k f))
  where
    at : ((i : ℕ) × (i ≤ k) × (f i ≡ least_of k f)) → (f (suc k) < least_of k f) ⊎ (least_of k f ≤ f (suc k)) → (i : ℕ) × (i ≤ suc k) × (f i ≡ min (least_of k f) (f (suc k)))
    at rest (inl l) = (suc k, omega arith, omega arith)
    at (i, b, e) (inr l) = (i, omega arith, omega arith)

-- the least table over all ways is the representative
pub least_represents : (f : ℕ) → Representative f (representative_of f)
unfolding representative_of
least_represents f =
    record {
      reached =
          let (k, a, e) = least_attained 23 (λ k. least_of 15 (λ m. both k m)) in
          let (m, b, d) = least_attained 15 (λ m. both k m) in
          pick k m (omega arith) (omega arith) (d ∙ e) (cases_lt (at k m true) (at k m false));
      least = λ w h. under w.order w.mask w.flipped h.0 h.1;
    }
  where
    at : ℕ → ℕ → Bool → ℕ
    at k m b = carry_table (record { order = k; mask = m; flipped = b }) f

    both : ℕ → ℕ → ℕ
    both k m = min (at k m false) (at k m true)

    pick : (k m : ℕ) → k < 24 → m < 16 → {g : ℕ} → both k m ≡ g → (at k m true < at k m false) ⊎ (at k m false ≤ at k m true) → Carries f g
    pick k m a b e (inl l) = (record { order = k; mask = m; flipped = true }, (a, b), omega arith)
    pick k m a b e (inr l) = (record { order = k; mask = m; flipped = false }, (a, b), omega arith)

    under : (k m : ℕ) (b : Bool) → k < 24 → m < 16 → least_of 23 (λ i. least_of 15 (λ j. both i j)) ≤ at k m b
    under k m true a b =
        omega (arith, least_below 23 (λ i. least_of 15 (λ j. both i j)) k (omega arith), least_below 15 (λ j. both k j) m (omega arith))
    under k m false a b =
        omega (arith, least_below 23 (λ i. least_of 15 (λ j. both i j)) k (omega arith), least_below 15 (λ j. both k j) m (omega arith))

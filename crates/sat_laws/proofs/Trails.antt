-- Values and the trail: putting a literal on, taking one off, what a false clause tells.
use Rattle.std.proofs.Common.{◌≡◌, ◌≢◌, ℕ, zero, suc, ◌+◌, ◌-◌, ◌*◌, ◌/◌, ◌%◌, ◌≤◌, ◌<◌, Bool, true, false, ◌⊎◌, inl, inr, ⊎_elim, List, [], ◌∷◌, length, get_or, set, sym, refl, ap, ◌∙◌, subst, arith, length-set, get_or-set_same, get_or-set_other}
use Rattle.std.proofs.lemmas.Bool.{cases_eq}
use Rattle.sat_laws.specs.Formulas.{literal_at, bit, Assignment, Formula, Holds, SomeHolds, IsModel}
use Rattle.sat_laws.specs.Trails.{values_given, IsFalseLiteral, AreFalse, Agrees, Forced, Refuted, Consistent, Justified}

-- how many values are given
pub given_push : (xs : List ℕ) (i y : ℕ) → i < length xs → get_or xs i 0 ≡ 0 → 0 < y → values_given (set xs i y) ≡ values_given xs + 1
given_push [] i y h e p = omega arith
given_push (x ∷ xs) zero y h e p = omega arith
given_push (x ∷ xs) (suc i) y h e p = omega (arith, given_push xs i y (omega arith) e p)

pub given_pop : (xs : List ℕ) (i y : ℕ) → values_given xs ≤ values_given (set xs i y) + 1
given_pop [] i y = omega arith
given_pop (x ∷ xs) zero y = omega arith
given_pop (x ∷ xs) (suc i) y = omega (arith, given_pop xs i y)

pub given_le : (xs : List ℕ) → values_given xs ≤ length xs
given_le [] = omega arith
given_le (x ∷ xs) = omega (arith, given_le xs)

pub given_lt : (xs : List ℕ) (i : ℕ) → i < length xs → get_or xs i 0 ≡ 0 → values_given xs < length xs
given_lt [] i h e = omega arith
given_lt (x ∷ xs) zero h e = omega (arith, given_le xs)
given_lt (x ∷ xs) (suc i) h e = omega (arith, given_lt xs i (omega arith) e)

-- literals
pub bit_le : (b : Bool) → bit b ≤ 1
bit_le true = omega arith
bit_le false = omega arith

-- a literal that does not hold has a complement that does
pub complement_holds : (m : Assignment) (l k : ℕ) → k ≡ l + 1 - 2 * (l % 2) → (Holds m l → ⊥) → Holds m k
complement_holds m l k e not =
    let v : k / 2 ≡ l / 2 = omega arith in
    let b : bit (m (l / 2)) ≤ 1 = bit_le (m (l / 2)) in
    let r : bit (m (l / 2)) ≡ k % 2 = omega arith in
    rw v r

-- decisions
pub agrees_same : (m : Assignment) (trail kinds trail′ kinds′ : List ℕ) (n : ℕ) → ((j : ℕ) → j < n → get_or trail′ j 0 ≡ get_or trail j 0)
    → ((j : ℕ) → j < n → get_or kinds′ j 0 ≡ get_or kinds j 0) → Agrees m trail′ kinds′ n → Agrees m trail kinds n
agrees_same m trail kinds trail′ kinds′ n st sk a j h d = subst (Holds m) (st j h) (a j h (sk j h ∙ d))

module _ (F : Formula) (trail kinds : List ℕ) (top l k n : ℕ) (le : n ≤ top) where
  pub agrees_set : (m : Assignment) → Agrees m (set trail top l) (set kinds top k) n → Agrees m trail kinds n
  agrees_set m = agrees_same m trail kinds (set trail top l) (set kinds top k) n
      (λ j h. get_or-set_other trail top j l 0 (omega arith)) (λ j h. get_or-set_other kinds top j k 0 (omega arith))

  pub forced_set : (x : ℕ) → Forced F trail kinds n x → Forced F (set trail top l) (set kinds top k) n x
  forced_set x f m mm a = f m mm (agrees_set m a)

-- the state
module _ (F : Formula) (values trail kinds : List ℕ) (top : ℕ) (s : Consistent values trail kinds top) (u : Justified F trail kinds top) where
  pub all_hold : (m : Assignment) → IsModel F m → Agrees m trail kinds top → (i : ℕ) → i < top → Holds m (get_or trail i 0)
  all_hold m mm a i h = ⊎_elim (λ d. a i h d) (λ f. f m mm (λ j g d. a j (omega arith) d)) (u i h)

  pub values_hold : (m : Assignment) → IsModel F m → Agrees m trail kinds top → (v : ℕ) → 0 < get_or values v 0 → get_or values v 0 ≡ 1 + bit (m v)
  values_hold m mm a v h =
      let k = s.known v h in
      let e : bit (m (get_or trail (k.0) 0 / 2)) ≡ get_or trail (k.0) 0 % 2 = all_hold m mm a (k.0) (k.1) in
      let e2 : bit (m v) ≡ get_or trail (k.0) 0 % 2 = subst (λ x. bit (m x) ≡ get_or trail (k.0) 0 % 2) (k.2) e in
      omega (arith, k.3)

  pub false_fails : (m : Assignment) → IsModel F m → Agrees m trail kinds top → (l : ℕ) → IsFalseLiteral values l → Holds m l → ⊥
  false_fails m mm a l f h = omega (arith, values_hold m mm a (l / 2) (omega arith))

  -- a clause that each model of F meets, and whose literals are all false
  pub conflict : (ws : List ℕ) (p q : ℕ) → ((m : Assignment) → IsModel F m → SomeHolds m ws p q) → AreFalse values ws p q → Refuted F trail kinds top
  conflict ws p q c f m mm a = let k = c m mm in false_fails m mm a _ (f (k.0) (k.1) (k.2)) (k.3)

  -- the same, but for one literal
  pub unit_forced : (ws : List ℕ) (p q i : ℕ) → ((m : Assignment) → IsModel F m → SomeHolds m ws p q)
      → ((j : ℕ) → p ≤ j → j < q → j ≢ i → IsFalseLiteral values (literal_at ws j)) → Forced F trail kinds top (literal_at ws i)
  unit_forced ws p q i c f m mm a =
      let k = c m mm in
      ⊎_elim (λ e. subst (λ x. Holds m (literal_at ws x)) e (k.3)) (λ ne. absurd (false_fails m mm a _ (f (k.0) (k.1) (k.2) ne) (k.3))) (cases_eq (k.0) i)

pub push_justified : (F : Formula) (trail kinds : List ℕ) (top l k : ℕ) → Justified F trail kinds top → top < length trail → top < length kinds
    → (k ≡ 1) ⊎ Forced F trail kinds top l → Justified F (set trail top l) (set kinds top k) (top + 1)
push_justified F trail kinds top l k u lt lk why = λ i h. ⊎_elim
    (λ (e : i ≡ top). subst (λ x. (get_or (set kinds top k) x 0 ≡ 1) ⊎ Forced F (set trail top l) (set kinds top k) x (get_or (set trail top l) x 0)) (sym e)
    (⊎_elim (λ d. inl (get_or-set_same kinds top k 0 lk ∙ d))
    (λ f. inr (subst (Forced F (set trail top l) (set kinds top k) top) (sym (get_or-set_same trail top l 0 lt)) (forced_set F trail kinds top l k top (omega arith) l f))) why))
    (λ (ne : i ≡ top → ⊥).
    let lo : i < top = omega arith in
    ⊎_elim (λ d. inl (get_or-set_other kinds top i k 0 ne ∙ d))
    (λ f. inr (subst (Forced F (set trail top l) (set kinds top k) i) (sym (get_or-set_other trail top i l 0 ne)) (forced_set F trail kinds top l k i (omega arith) _ f)))
    (u i lo))
    (cases_eq i top)

pub push_consistent : (values trail kinds : List ℕ) (top : ℕ) → Consistent values trail kinds top → (l k : ℕ) → l / 2 < length values → get_or values (l / 2) 0 ≡ 0
    → top < length trail → Consistent (set values (l / 2) (1 + l % 2)) (set trail top l) (set kinds top k) (top + 1)
push_consistent values trail kinds top s l k lv un lt = record {
  count = omega (arith, s.count, given_push values (l / 2) (1 + l % 2) lv un (omega arith));
  fits = simp length-set (omega (arith, s.count, given_lt values (l / 2) lv un));
  long = simp length-set (s.long);
  wide = simp length-set (s.wide);
  inside = λ i h. rw length-set (⊎_elim
      (λ (e : i ≡ top). let w : get_or (set trail top l) i 0 ≡ l = ap (λ x. get_or (set trail top l) x 0) e ∙ get_or-set_same trail top l 0 lt in omega arith)
      (λ (ne : i ≡ top → ⊥). let w : get_or (set trail top l) i 0 ≡ get_or trail i 0 = get_or-set_other trail top i l 0 ne in omega (arith, s.inside i (omega arith)))
      (cases_eq i top));
  known = λ v h. ⊎_elim
      (λ (e : v ≡ l / 2). (
        top,
        omega arith,
        ap (λ x. x / 2) (get_or-set_same trail top l 0 lt) ∙ sym e,
        ap (λ x. get_or (set values (l / 2) (1 + l % 2)) x 0) e ∙ get_or-set_same values (l / 2) (1 + l % 2) 0 lv ∙ ap (λ x. 1 + x % 2) (sym (get_or-set_same trail top l 0 lt)),
      ))
      (λ (ne : v ≡ l / 2 → ⊥).
      let w : get_or (set values (l / 2) (1 + l % 2)) v 0 ≡ get_or values v 0 = get_or-set_other values (l / 2) v (1 + l % 2) 0 ne in
      let g = s.known v (omega arith) in
      let t : get_or (set trail top l) (g.0) 0 ≡ get_or trail (g.0) 0 = get_or-set_other trail top (g.0) l 0 (omega (arith, g.1)) in
      (g.0, omega (arith, g.1), ap (λ x. x / 2) t ∙ g.2, w ∙ g.3 ∙ ap (λ x. 1 + x % 2) (sym t)))
      (cases_eq v (l / 2));
}

pub zeroed : (xs : List ℕ) (i : ℕ) → get_or (set xs i 0) i 0 ≡ 0
zeroed [] i = refl
zeroed (x ∷ xs) zero = refl
zeroed (x ∷ xs) (suc i) = zeroed xs i

-- the last literal is taken off
pub pop_consistent : (values trail kinds : List ℕ) (t top : ℕ) → Consistent values trail kinds top → top ≡ t + 1 → Consistent (set values (get_or trail t 0 / 2) 0) trail kinds t
pop_consistent values trail kinds t top s e = record {
  count = omega (arith, s.count, given_pop values (get_or trail t 0 / 2) 0);
  fits = simp length-set (omega (arith, s.fits));
  long = simp length-set (s.long);
  wide = simp length-set (s.wide);
  inside = λ i h. rw length-set (s.inside i (omega arith));
  known = λ v h. ⊎_elim
      (λ (q : v ≡ get_or trail t 0 / 2). let z : get_or (set values (get_or trail t 0 / 2) 0) v 0 ≡ 0 = ap (λ x. get_or (set values (get_or trail t 0 / 2) 0) x 0) q ∙ zeroed values (get_or trail t 0 / 2) in absurd (omega arith))
      (λ (ne : v ≡ get_or trail t 0 / 2 → ⊥).
      let w : get_or (set values (get_or trail t 0 / 2) 0) v 0 ≡ get_or values v 0 = get_or-set_other values (get_or trail t 0 / 2) v 0 0 ne in
      let g = s.known v (omega arith) in
      let far : g.0 ≢ t = λ (q : g.0 ≡ t). ne (sym (g.2) ∙ ap (λ x. get_or trail x 0 / 2) q) in
      (g.0, omega (arith, g.1), g.2, w ∙ g.3))
      (cases_eq v (get_or trail t 0 / 2));
}

-- going back
module _ (F : Formula) (trail kinds : List ℕ) (t : ℕ) where
  pub back_past : Refuted F trail kinds (t + 1) → get_or kinds t 0 ≢ 1 → Refuted F trail kinds t
  back_past r ne m mm a = r m mm (λ j h d.
      ⊎_elim (λ (e : j ≡ t). absurd (ne (ap (λ x. get_or kinds x 0) (sym e) ∙ d))) (λ (e : j ≡ t → ⊥). a j (omega arith) d) (cases_eq j t))

  pub back_flip : (k : ℕ) → Refuted F trail kinds (t + 1) → k ≡ get_or trail t 0 + 1 - 2 * (get_or trail t 0 % 2) → Forced F trail kinds t k
  back_flip k r e m mm a = complement_holds m (get_or trail t 0) k e (λ h. r m mm (λ j g d.
      ⊎_elim (λ (q : j ≡ t). subst (λ x. Holds m (get_or trail x 0)) (sym q) h) (λ (q : j ≡ t → ⊥). a j (omega arith) d) (cases_eq j t)))

pub refuted_none : (F : Formula) (trail kinds : List ℕ) → Refuted F trail kinds 0 → (m : Assignment) → IsModel F m → ⊥
refuted_none F trail kinds r m mm = r m mm (λ j h d. absurd (omega arith))

pub start_consistent : (values trail kinds : List ℕ) → ((v : ℕ) → get_or values v 0 ≡ 0) → length values ≤ length trail → length values ≤ length kinds → Consistent values trail kinds 0
start_consistent values trail kinds z lt lk = record {
  count = omega arith;
  fits = omega arith;
  long = lt;
  wide = lk;
  inside = λ i h. absurd (omega arith);
  known = λ v h. absurd (omega (arith, z v));
}

pub complement_variable : (l k : ℕ) → k ≡ l + 1 - 2 * (l % 2) → k / 2 ≡ l / 2
complement_variable l k e = omega arith

pub has_room : (values trail kinds : List ℕ) (top v : ℕ) → Consistent values trail kinds top → v < length values → get_or values v 0 ≡ 0 → top < length values
has_room values trail kinds top v s h e = omega (arith, s.count, given_lt values v h e)

pub has_top : (values trail kinds : List ℕ) (top : ℕ) → Consistent values trail kinds top → top ≤ length values
has_top values trail kinds top s = omega (arith, s.count, given_le values)

pub values_small : (values trail kinds : List ℕ) (top : ℕ) → Consistent values trail kinds top → (v : ℕ) → get_or values v 0 ≤ 2
values_small values trail kinds top s v = ⊎_elim
    (λ (e : get_or values v 0 ≡ 0). omega arith)
    (λ (ne : get_or values v 0 ≡ 0 → ⊥). let k = s.known v (omega arith) in omega (arith, k.3))
    (cases_eq (get_or values v 0) 0)

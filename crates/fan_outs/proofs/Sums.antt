-- The uses of a node as a sum over the gates, and the greatest fan-out as a maximum over the nodes.
use Rattle.std.proofs.Common.{◌≡◌, ℕ, zero, suc, ◌+◌, ◌*◌, ◌≤◌, max, List, [], ◌∷◌, length, map, refl, sym, ap, ◌∙◌, add-one, arith}
use Rattle.std.specs.List.{sum_by, fold, range_with_len}
use Rattle.std.proofs.lemmas.List.Folds.{fold-map}
use Rattle.std.proofs.lemmas.List.FromFn.{map-range_with_len_more}
use Rattle.std.proofs.lemmas.List.Sums.{fold-append}
use Rattle.std.proofs.lemmas.List.Recursion.{is_sum_by}
use Rattle.mig.specs.declared.network.Gate.{Gate}
use Rattle.mig.specs.Networks.{names, uses_in, greatest}

-- how many fan-ins of the gate name the node j
abbrev pub gate_names : ℕ → Gate → ℕ
gate_names j g = names j g.first + names j g.second + names j g.third

-- the uses by all gates are the sum of the uses by each
pub uses_as_sum : (j : ℕ) (gs : List Gate) → uses_in j gs ≡ sum_by (gate_names j) gs
unfolding uses_in
uses_as_sum j gs = is_sum_by (uses_in j) (gate_names j) refl (λ _ _. refl) gs

-- a code names the node at most once
names_bound : (j c : ℕ) → names j c ≤ 1
names_bound j c = search (arith)

-- each gate uses a node at most three times
pub uses_bound : (j : ℕ) (gs : List Gate) → uses_in j gs ≤ 3 * length gs
unfolding uses_in
uses_bound j [] = omega arith
uses_bound j (g ∷ gs) = omega (arith, uses_bound j gs, names_bound j g.first, names_bound j g.second, names_bound j g.third)

greatest_of_map : (f : ℕ → ℕ) (a k : ℕ) → fold max 0 (map f (range_with_len a k)) ≡ greatest k (λ i. f (a + i))
unfolding greatest
greatest_of_map f a zero = refl
greatest_of_map f a (suc k) =
    ap (λ (m : ℕ). fold max 0 (map f (range_with_len a m))) (sym (add-one k))
    ∙ ap (λ xs. fold max 0 xs) (map-range_with_len_more f a k (a + k) refl)
    ∙ fold-append max 0 (map f (range_with_len a k)) (f (a + k) ∷ [])
    ∙ ap (λ (m : ℕ). max m (f (a + k))) (greatest_of_map f a k)

-- the greatest of f at k numbers from a on, taken one after another
pub greatest_by_fold : (f : ℕ → ℕ) (a k : ℕ) → fold (λ m j. max m (f j)) 0 (range_with_len a k) ≡ greatest k (λ i. f (a + i))
greatest_by_fold f a k = sym (fold-map max f 0 (range_with_len a k)) ∙ greatest_of_map f a k

-- The weight of the symmetry clauses of at most seven gates, group by group, where a clause weighs by its length.
use Rattle.std.proofs.Common.{ℕ, suc, ◌+◌, ◌-◌, ◌*◌, ◌≤◌, Bool, true, false, cond, eqb, [], ◌∷◌, length, arith}
use Rattle.std.specs.List.{sum_by}
use Rattle.cnf.specs.Variables.{O, N, S, pos, neg, each}
use Rattle.cnf.specs.Numbers.{total}
use Rattle.symmetry_laws.specs.Inputs.{symmetric_in}
use Rattle.symmetry_laws.specs.Symmetry.{no_fall, naming, complements_once, fan_ins_rise, buffers_copy_gates, output_last, gates_named, first_row_zero, neighbours_ordered, named_up_to, in_order, inputs_ordered, symmetry_clauses}
use Rattle.clause_bounds.proofs.Weights.{both_within, each_within, each_within_back, same_within, length_within}
use Rattle.clause_bounds.proofs.Groups.{weighs}

module _ (w : ℕ → ℕ) where
  -- group a
  abbrev complement_weight : ℕ
  complement_weight = 7 * (3 * w 2)

  -- not the node j before a node that is not behind it
  abbrev fall_weight : ℕ → ℕ
  fall_weight j = cond (eqb j 0) (w 3) (w 2) + w 2

  -- group b
  abbrev rise_weight : ℕ
  rise_weight = total 0 7 (λ k. total 0 (5 + k) (λ j. suc j * fall_weight (0 + j)))

  -- group c
  abbrev buffer_weight : ℕ
  buffer_weight = 7 * (5 * w 3)

  -- group e
  abbrev named_weight : ℕ
  named_weight = total 0 6 (λ k. w ((1 + k) * 3))

  -- group f
  abbrev first_row_weight : ℕ
  first_row_weight = 7 * w 1

  -- group g
  abbrev neighbour_weight : ℕ
  neighbour_weight = total 0 6 (λ k. total 0 (5 + k) (λ j. j * w 2))

  -- two inputs in order
  abbrev pair_weight : ℕ
  pair_weight = total 0 7 (λ k. 3 * w (1 + (1 + k) * 3))

  -- group h
  abbrev inputs_weight : ℕ
  inputs_weight = total 0 4 (λ a. (4 - suc a) * pair_weight)

  -- the eight groups
  abbrev pub symmetry_weight : ℕ
  symmetry_weight =
      complement_weight + (rise_weight + (buffer_weight + (w 1 + (named_weight + (first_row_weight + (neighbour_weight + inputs_weight))))))

module _ (w : ℕ → ℕ) (up : (x y : ℕ) → x ≤ y → w x ≤ w y) (n r : ℕ) (few_inputs : n ≤ 4) (few_gates : r ≤ 7) where
  complements_within : sum_by (weighs w) (complements_once n r) ≤ complement_weight w
  complements_within = same_within (weighs w) (suc n) r 7 (3 * w 2) _ few_gates (λ k l. omega arith)

  no_fall_within : (i j k : ℕ) → sum_by (weighs w) (no_fall i j k) ≤ fall_weight w j
  no_fall_within i j k = at (eqb j 0)
    where
      at : (b : Bool) → sum_by (weighs w) ((neg (S i 1 j) ∷ neg (S i 2 k) ∷ cond b (pos (N i 2) ∷ []) []) ∷ (neg (S i 2 j) ∷ neg (S i 3 k) ∷ []) ∷ [])
          ≤ cond b (w 3) (w 2) + w 2
      at true = omega arith
      at false = omega arith

  rise_within : sum_by (weighs w) (fan_ins_rise n r) ≤ rise_weight w
  rise_within =
      each_within (weighs w) (suc n) r 7 _ _ few_gates
      (λ k l. each_within (weighs w) 0 (suc n + k) (5 + k) _ _ (omega arith)
      (λ j u. same_within (weighs w) 0 (suc (0 + j)) (suc j) (fall_weight w (0 + j)) _ (omega arith)
      (λ m v. no_fall_within (suc n + k) (0 + j) (0 + m))))

  buffers_within : sum_by (weighs w) (buffers_copy_gates n r) ≤ buffer_weight w
  buffers_within =
      same_within (weighs w) (suc n) r 7 (5 * w 3) _ few_gates
      (λ k l. same_within (weighs w) 0 (suc n) 5 (w 3) _ (omega arith) (λ j u. omega arith))

  output_within : sum_by (weighs w) (output_last n r) ≤ w 1
  output_within = at (eqb r 0)
    where
      at : (b : Bool) → sum_by (weighs w) (cond b [] ((pos (O (n + r)) ∷ []) ∷ [])) ≤ w 1
      at true = omega arith
      at false = omega arith

  named_within : sum_by (weighs w) (gates_named n r) ≤ named_weight w
  named_within =
      each_within_back (weighs w) (suc n) (r - 1) 6 _ _ (omega arith)
      (λ k l.
      let j = suc n + (r - 1) - suc k in
      let names = each (suc j) (n + r - j) (naming j) in
      let few : length names ≤ (1 + k) * 3 = length_within (suc j) (n + r - j) (1 + k) 3 _ (omega arith) (λ i u. omega arith) in
      omega (arith, up (length names) ((1 + k) * 3) few))

  first_row_within : sum_by (weighs w) (first_row_zero n r) ≤ first_row_weight w
  first_row_within = same_within (weighs w) (suc n) r 7 (w 1) _ few_gates (λ k l. omega arith)

  neighbours_within : sum_by (weighs w) (neighbours_ordered n r) ≤ neighbour_weight w
  neighbours_within =
      each_within (weighs w) (suc n) (r - 1) 6 _ _ (omega arith)
      (λ k l. each_within (weighs w) 0 (suc n + k) (5 + k) _ _ (omega arith)
      (λ j u. same_within (weighs w) 0 (0 + j) j (w 2) _ (omega arith) (λ m v. omega arith)))

  named_up_to_within : (a b k c : ℕ) → weighs w (named_up_to n a b (suc n + k) c) ≤ w (1 + (1 + k) * 3)
  named_up_to_within a b k c =
      let names = each (suc n) (suc n + k - n) (naming (suc a)) in
      let few : length names ≤ (1 + k) * 3 = length_within (suc n) (suc n + k - n) (1 + k) 3 _ (omega arith) (λ i u. omega arith) in
      up (length (named_up_to n a b (suc n + k) c)) (1 + (1 + k) * 3) (omega (arith, few))

  in_order_within : (a b : ℕ) (s : Bool) → sum_by (weighs w) (cond s (in_order n a b r) []) ≤ pair_weight w
  in_order_within a b false = omega arith
  in_order_within a b true =
      each_within (weighs w) (suc n) r 7 _ _ few_gates
      (λ k l. omega (arith, named_up_to_within a b k 1, named_up_to_within a b k 2, named_up_to_within a b k 3))

  inputs_within : (f : ℕ) → sum_by (weighs w) (inputs_ordered n f r) ≤ inputs_weight w
  inputs_within f =
      each_within (weighs w) 0 n 4 _ _ few_inputs
      (λ a l. same_within (weighs w) (suc (0 + a)) (n - suc (0 + a)) (4 - suc a) (pair_weight w) _ (omega arith)
      (λ b u. in_order_within (0 + a) (suc (0 + a) + b) (symmetric_in n f (0 + a) (suc (0 + a) + b))))

  -- the symmetry clauses weigh no more than this
  pub symmetry_within : (f : ℕ) → sum_by (weighs w) (symmetry_clauses n f r) ≤ symmetry_weight w
  unfolding symmetry_clauses
  symmetry_within f =
      both_within (weighs w) (complements_once n r) _ complements_within
      (both_within (weighs w) (fan_ins_rise n r) _ rise_within
      (both_within (weighs w) (buffers_copy_gates n r) _ buffers_within
      (both_within (weighs w) (output_last n r) _ output_within
      (both_within (weighs w) (gates_named n r) _ named_within
      (both_within (weighs w) (first_row_zero n r) _ first_row_within
      (both_within (weighs w) (neighbours_ordered n r) _ neighbours_within (inputs_within f)))))))

-- Each variable of the symmetry clauses stands in the list of variables.
use Rattle.std.proofs.Common.{ℕ, suc, ◌+◌, ◌-◌, ◌<◌, ◌≤◌, Bool, true, false, cond, eqb, [], ◌∷◌, All, arith}
use Rattle.std.specs.List.{AllByRecursion, Contains}
use Rattle.std.proofs.lemmas.Nat.{pow_pos}
use Rattle.std.proofs.lemmas.List.Elements.{All-from_recursion, All-weaker, All-append}
use Rattle.mig.specs.declared.question.Question.{Question}
use Rattle.cnf.specs.Variables.{N, O, NamedLiteral, pos, NamedClause, variables}
use Rattle.cnf.specs.Clauses.{clauses_of}
use Rattle.cnf.specs.Numbers.{question_variables}
use Rattle.cnf_laws.proofs.Each.{all_both, all_each}
use Rattle.cnf_laws.proofs.Contained.{IsListed, has_S, has_N, has_B, has_O}
use Rattle.cnf_laws.proofs.Listed.{variable_of, IsListedClause, variables_listed}
use Rattle.symmetry_laws.specs.Inputs.{symmetric_in}
use Rattle.symmetry_laws.specs.Symmetry.{no_fall, complements_once, fan_ins_rise, buffers_copy_gates, output_last, gates_named, first_row_zero, neighbours_ordered, named_up_to, in_order, inputs_ordered, symmetry_clauses, exact_clauses}

module _ (n t d f r : ℕ) where
  abbrev ListedClause : NamedClause → Type 0
  ListedClause c = IsListedClause (variables n d f r) c

  abbrev ListedLiteral : NamedLiteral → Type 0
  ListedLiteral l = IsListed n d f r (variable_of l)

  complements_listed : AllByRecursion ListedClause (complements_once n r)
  complements_listed =
      all_each ListedClause (suc n) r _ (λ i a b.
      let at = λ (c : ℕ) (l : 1 ≤ c) (u : c < 4). has_N n d f r i c a b l u in
      let x = at 1 (omega arith) (omega arith) in
      let y = at 2 (omega arith) (omega arith) in
      let z = at 3 (omega arith) (omega arith) in
      ((x, (y, tt)), ((x, (z, tt)), ((y, (z, tt)), tt))))

  no_fall_listed : (i j k : ℕ) → n < i → i < suc n + r → j < i → k ≤ j → AllByRecursion ListedClause (no_fall i j k)
  no_fall_listed i j k a b l m = (
    (has_S n d f r i 1 j a b (omega arith) (omega arith) l, (has_S n d f r i 2 k a b (omega arith) (omega arith) (omega arith), at (eqb j 0))),
    ((has_S n d f r i 2 j a b (omega arith) (omega arith) l, (has_S n d f r i 3 k a b (omega arith) (omega arith) (omega arith), tt)), tt),
  )
    where
      at : (b' : Bool) → AllByRecursion ListedLiteral (cond b' (pos (N i 2) ∷ []) [])
      at true = (has_N n d f r i 2 a b (omega arith) (omega arith), tt)
      at false = tt

  rise_listed : AllByRecursion ListedClause (fan_ins_rise n r)
  rise_listed =
      all_each ListedClause (suc n) r _ (λ i a b. all_each ListedClause 0 i _ (λ j v w. all_each ListedClause 0 (suc j) _ (λ k y z.
      no_fall_listed i j k a b (omega arith) (omega arith))))

  buffers_listed : AllByRecursion ListedClause (buffers_copy_gates n r)
  buffers_listed =
      all_each ListedClause (suc n) r _ (λ i a b. all_each ListedClause 0 (suc n) _ (λ j v w.
      let at = λ (c k : ℕ) (l : 1 ≤ c) (u : c < 4) (m : k < i). has_S n d f r i c k a b l u m in
      ((at 1 0 (omega arith) (omega arith) (omega arith), (at 2 0 (omega arith) (omega arith) (omega arith), (at 3 j (omega arith) (omega arith) (omega arith), tt))), tt)))

  output_listed : AllByRecursion ListedClause (output_last n r)
  output_listed = at (eqb r 0)
    where
      at : (b : Bool) → AllByRecursion ListedClause (cond b [] ((pos (O (n + r)) ∷ []) ∷ []))
      at true = tt
      at false = ((has_O n d f r (n + r) (omega arith), tt), tt)

  named_listed : AllByRecursion ListedClause (gates_named n r)
  named_listed =
      all_each ListedClause (suc n) (r - 1) _ (λ j a b. (
        all_each ListedLiteral (suc j) (n + r - j) _ (λ i v w.
            let at = λ (c : ℕ) (l : 1 ≤ c) (u : c < 4). has_S n d f r i c j (omega arith) (omega arith) l u v in
            (at 1 (omega arith) (omega arith), (at 2 (omega arith) (omega arith), (at 3 (omega arith) (omega arith), tt)))),
        tt,
      ))

  first_row_listed : AllByRecursion ListedClause (first_row_zero n r)
  first_row_listed = all_each ListedClause (suc n) r _ (λ i a b. ((has_B n d f r i 0 a b (pow_pos n), tt), tt))

  neighbours_listed : AllByRecursion ListedClause (neighbours_ordered n r)
  neighbours_listed =
      all_each ListedClause (suc n) (r - 1) _ (λ i a b. all_each ListedClause 0 i _ (λ j v w. all_each ListedClause 0 j _ (λ k y z. (
        (
          has_S n d f r i 3 j a (omega arith) (omega arith) (omega arith) (omega arith),
          (has_S n d f r (suc i) 3 k (omega arith) (omega arith) (omega arith) (omega arith) (omega arith), tt),
        ),
        tt,
      ))))

  named_up_to_listed : (a b i c : ℕ) → a < n → b < n → n < i → i < suc n + r → 1 ≤ c → c < 4 → AllByRecursion ListedLiteral (named_up_to n a b i c)
  named_up_to_listed a b i c l m v w p q = (
    has_S n d f r i c (suc b) v w p q (omega arith),
    all_each ListedLiteral (suc n) (i - n) _ (λ j x y.
        let at = λ (e : ℕ) (p : 1 ≤ e) (q : e < 4). has_S n d f r j e (suc a) x (omega arith) p q (omega arith) in
        (at 1 (omega arith) (omega arith), (at 2 (omega arith) (omega arith), (at 3 (omega arith) (omega arith), tt)))),
  )

  in_order_listed : (a b : ℕ) (s : Bool) → a < n → b < n → AllByRecursion ListedClause (cond s (in_order n a b r) [])
  in_order_listed a b false l m = tt
  in_order_listed a b true l m =
      all_each ListedClause (suc n) r _ (λ i v w.
      let at = λ (c : ℕ) (p : 1 ≤ c) (q : c < 4). named_up_to_listed a b i c l m v w p q in
      (at 1 (omega arith) (omega arith), (at 2 (omega arith) (omega arith), (at 3 (omega arith) (omega arith), tt))))

  inputs_listed : AllByRecursion ListedClause (inputs_ordered n t r)
  inputs_listed =
      all_each ListedClause 0 n _ (λ a v w. all_each ListedClause (suc a) (n - suc a) _ (λ b x y.
      in_order_listed a b (symmetric_in n t a b) (omega arith) (omega arith)))

  symmetry_listed : AllByRecursion ListedClause (symmetry_clauses n t r)
  unfolding symmetry_clauses
  symmetry_listed =
      all_both ListedClause (complements_once n r) _ complements_listed
      (all_both ListedClause (fan_ins_rise n r) _ rise_listed
      (all_both ListedClause (buffers_copy_gates n r) _ buffers_listed
      (all_both ListedClause (output_last n r) _ output_listed
      (all_both ListedClause (gates_named n r) _ named_listed
      (all_both ListedClause (first_row_zero n r) _ first_row_listed
      (all_both ListedClause (neighbours_ordered n r) _ neighbours_listed inputs_listed))))))

-- each variable of the symmetry clauses is one of the variables
pub symmetry_variables_listed : (n t d f r : ℕ) → All (All (λ (l : NamedLiteral). Contains (variables n d f r) (variable_of l))) (symmetry_clauses n t r)
symmetry_variables_listed n t d f r =
    let P = λ (l : NamedLiteral). Contains (variables n d f r) (variable_of l) in
    All-weaker (IsListedClause (variables n d f r)) (All P) (λ c. All-from_recursion P c) (symmetry_clauses n t r)
    (All-from_recursion (IsListedClause (variables n d f r)) (symmetry_clauses n t r) (symmetry_listed n t d f r))

-- and so is each variable of the clauses of a question and exactly r gates
pub exact_variables_listed : (q : Question) (r : ℕ) → 1 ≤ q.limits.fan_out
    → All (All (λ (l : NamedLiteral). Contains (question_variables q r) (variable_of l))) (exact_clauses q r)
exact_variables_listed q r some =
    let n = q.inputs in
    let d = q.limits.depth in
    let f = q.limits.fan_out in
    All-append (All (λ (l : NamedLiteral). Contains (question_variables q r) (variable_of l)))
    (clauses_of n q.table d f r) (symmetry_clauses n q.table r) (variables_listed q r some) (symmetry_variables_listed n q.table d f r)

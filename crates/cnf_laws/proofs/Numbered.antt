-- The clauses by number: what satisfies them, and the network that it tells.
use Rattle.std.proofs.Common.{◌≡◌, ℕ, suc, ◌+◌, ◌-◌, ◌≤◌, Bool, true, false, not, ◌||◌, List, [], ◌∷◌, length, map, get_or, All, refl, sym, ap, ◌∙◌, Decides, arith}
use Rattle.std.specs.List.{Contains}
use Rattle.std.proofs.lemmas.Bool.Decides.{Decides-and}
use Rattle.std.proofs.lemmas.List.{get_or_default, get_or-map, length-map}
use Rattle.std.proofs.lemmas.List.Elements.{All-nil, All-cons, All-head, All-tail, All-map, All-weaker}
use Rattle.mig.specs.declared.question.Question.{Question}
use Rattle.mig.specs.Networks.{Net, size}
use Rattle.mig.specs.Questions.{Meets}
use Rattle.cnf.specs.declared.literal.Literal.{Literal}
use Rattle.cnf.specs.Variables.{Var, Q, NamedLiteral, pos, neg, NamedClause}
use Rattle.cnf.specs.Clauses.{clauses_of}
use Rattle.cnf.specs.Meaning.{Assignment, some_holds, Satisfies, padded, meaning}
use Rattle.cnf.specs.Numbers.{numbered_literal, numbered, question_variables, question_number, question_clauses, bit_of, clause_holds, all_hold, told, read_bits, SatisfiableExactlyWhenMet, LiteralsNameVariables}
use Rattle.cnf_laws.proofs.Numbering.{number_at}
use Rattle.cnf_laws.proofs.Listed.{variable_of, variables_listed}
use Rattle.cnf_laws.proofs.ReadBack.{length-read_gates}
use Rattle.cnf_laws.proofs.ReadBackFanOuts.{read_net_meets}
use Rattle.cnf_laws.proofs.Meanings.{meaning_satisfies}
use Rattle.cnf_laws.proofs.Padded.{size_padded, meets_padded}

-- bits tell of the variable of a literal what the assignment says
abbrev pub Tells : (Var → ℕ) → List Bool → Assignment → NamedLiteral → Type 0
Tells g bits s l = bit_of bits (g (variable_of l)) ≡ s (variable_of l)

module _ (g : Var → ℕ) (bits : List Bool) (s : Assignment) where
  same_clause : (c : NamedClause) → All (Tells g bits s) c → clause_holds bits (map (numbered_literal g) c) ≡ some_holds s c
  same_clause [] h = refl
  same_clause (pos v ∷ c) h =
      ap (λ x. x || clause_holds bits (map (numbered_literal g) c)) (All-head (Tells g bits s) (pos v) c h)
      ∙ ap (λ y. s v || y) (same_clause c (All-tail (Tells g bits s) (pos v) c h))
  same_clause (neg v ∷ c) h =
      ap (λ x. not x || clause_holds bits (map (numbered_literal g) c)) (All-head (Tells g bits s) (neg v) c h)
      ∙ ap (λ y. not (s v) || y) (same_clause c (All-tail (Tells g bits s) (neg v) c h))

  -- where bits tell what the assignment says, they satisfy the clauses by number exactly if it satisfies the clauses
  pub decides_clauses : (cs : List NamedClause) → All (All (Tells g bits s)) cs → Decides (all_hold bits (numbered g cs)) (Satisfies s cs)
  unfolding Satisfies numbered
  decides_clauses [] h = (λ _. tt, λ _. refl)
  decides_clauses (c ∷ cs) h =
      let e = same_clause c (All-head (All (Tells g bits s)) c cs h) in
      Decides-and (clause_holds bits (map (numbered_literal g) c)) (all_hold bits (numbered g cs)) (λ x. sym e ∙ x, λ x. e ∙ x)
      (decides_clauses cs (All-tail (All (Tells g bits s)) c cs h))

-- a listed variable's number is its place, from 1 on
pub number_of_listed : (q : Question) (r : ℕ) (v : Var) → (h : Contains (question_variables q r) v) → question_number q r v ≡ 1 + h.0
number_of_listed q r v h =
    let vs = question_variables q r in
    ap (question_number q r) (sym (get_or_default vs h.0 Q v h.1 ∙ h.2)) ∙ number_at q r h.0 h.1

-- bits that list what an assignment says tell it of each listed variable
pub told_again : (q : Question) (r : ℕ) (s : Assignment) (v : Var) → Contains (question_variables q r) v → told q r (map s (question_variables q r)) v ≡ s v
told_again q r s v h =
    let vs = question_variables q r in
    let e = number_of_listed q r v h in
    let k : question_number q r v - 1 ≡ h.0 = omega arith in
    ap (λ p. get_or (map s vs) p false) k ∙ get_or-map s vs h.0 v false h.1 ∙ ap s h.2

-- bits that satisfy the clauses read back as a network of r gates that meets the question
pub reads_bits : (q : Question) (r : ℕ) (bits : List Bool) → 1 ≤ q.limits.fan_out → all_hold bits (question_clauses q r) ≡ true
    → (size (read_bits q r bits) ≡ r) × Meets q (read_bits q r bits)
reads_bits q r bits some h = (
  length-read_gates (told q r bits) (suc q.inputs) r,
  read_net_meets q r (told q r bits) some
      ((decides_clauses (question_number q r) bits (told q r bits) (clauses_of q.inputs q.table q.limits.depth q.limits.fan_out r) (λ i c l k x u. refl)).0 h),
)

-- the bits of a network that meets the question, padded to r gates, satisfy the clauses
pub writes_bits : (q : Question) (r : ℕ) (net : Net) → 1 ≤ q.limits.fan_out → size net ≤ r → Meets q net
    → all_hold (map (meaning q.inputs r (padded r net)) (question_variables q r)) (question_clauses q r) ≡ true
writes_bits q r net some l m =
    let g = question_number q r in
    let s = meaning q.inputs r (padded r net) in
    let bits = map s (question_variables q r) in
    let cs = clauses_of q.inputs q.table q.limits.depth q.limits.fan_out r in
    let listed = λ (x : NamedLiteral). Contains (question_variables q r) (variable_of x) in
    (decides_clauses g bits s cs
    (All-weaker (All listed) (All (Tells g bits s)) (All-weaker listed (Tells g bits s) (λ x. told_again q r s (variable_of x))) cs (variables_listed q r some))).1
    (meaning_satisfies q r (padded r net) some (size_padded r net l) (meets_padded q r net m))

pub satisfiable_exactly_when_met : (q : Question) (r : ℕ) → 1 ≤ q.limits.fan_out → SatisfiableExactlyWhenMet q r
satisfiable_exactly_when_met q r some = (
  λ x. let w = reads_bits q r x.0 some x.1.satisfied in (read_bits q r x.0, omega (arith, w.0), w.1),
  λ x. (
    map (meaning q.inputs r (padded r x.0)) (question_variables q r),
    record {
      complete = length-map (question_variables q r) (meaning q.inputs r (padded r x.0));
      satisfied = writes_bits q r x.0 some x.1 x.2;
    },
  ),
)

-- the number of a literal's variable is that of a variable of the question
abbrev pub NamesVariable : Question → ℕ → Literal → Type 0
NamesVariable q r l = (1 ≤ l.variable) × (l.variable ≤ length (question_variables q r))

names_by_number : (q : Question) (r : ℕ) (x : NamedLiteral) → Contains (question_variables q r) (variable_of x) → NamesVariable q r (numbered_literal (question_number q r) x)
names_by_number q r (pos v) h = let e = number_of_listed q r v h in (omega arith, omega (arith, h.1))
names_by_number q r (neg v) h = let e = number_of_listed q r v h in (omega arith, omega (arith, h.1))

-- if the variables of the literals stand in the list, the numbers are those of variables of the question
pub name_by_number : (q : Question) (r : ℕ) (cs : List NamedClause) → All (All (λ (x : NamedLiteral). Contains (question_variables q r) (variable_of x))) cs
    → All (All (NamesVariable q r)) (numbered (question_number q r) cs)
unfolding numbered
name_by_number q r [] h = All-nil (All (NamesVariable q r))
name_by_number q r (c ∷ cs) h =
    let g = question_number q r in
    let listed = λ (x : NamedLiteral). Contains (question_variables q r) (variable_of x) in
    All-cons (All (NamesVariable q r)) (map (numbered_literal g) c) (numbered g cs)
    (All-map (NamesVariable q r) (numbered_literal g) c (All-weaker listed (λ x. NamesVariable q r (numbered_literal g x)) (names_by_number q r) c (All-head (All listed) c cs h)))
    (name_by_number q r cs (All-tail (All listed) c cs h))

-- each variable of the clauses by number is one of those that are numbered
pub literals_name_variables : (q : Question) (r : ℕ) → 1 ≤ q.limits.fan_out → LiteralsNameVariables q r
literals_name_variables q r some =
    name_by_number q r (clauses_of q.inputs q.table q.limits.depth q.limits.fan_out r) (variables_listed q r some)

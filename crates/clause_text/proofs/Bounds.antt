-- How long the text can be: a bound on the bytes of each group of clauses.
use Rattle.std.proofs.Common.{◌≡◌, ℕ, zero, suc, ◌+◌, ◌-◌, ◌*◌, ◌/◌, ◌%◌, ◌^◌, ◌<◌, ◌≤◌, Bool, true, false, cond, eqb, leb, ltb, ◌&&◌, List, [], ◌∷◌, ◌++◌, length, map, flat_map, None, refl, ap, ◌∙◌, arith, length-append, suc-mul, get_or, lit<}
use Rattle.std.specs.Fmt.{digits, digits_onto, digit_glyph, decimal}
use Rattle.std.proofs.Math.Nat.{mul-le-mul_right, pow-le-pow_right}
use Rattle.std.proofs.lemmas.List.Concat.{flat_map-append}
use Rattle.std.proofs.lemmas.Bool.{and_parts, leb-true}
use Rattle.mig.specs.Tables.{bit_at}
use Rattle.mig.specs.Questions.{Valid}
use Rattle.mig.specs.Rules.{refuse_if, question_refusal}
use Rattle.mig.specs.declared.refusal.Refusal.TheVariants.{GatesAboveReach}
use Rattle.mig_laws.proofs.Decisions.{decides_leb}
use Rattle.mig_laws.proofs.Refusals.{passes, passes_if, passes_both, question-passes}
use Rattle.mig.specs.declared.question.Question.{Question}
use Rattle.cnf.specs.declared.literal.Literal.{Literal}
use Rattle.cnf.specs.Variables.{Var, S, O, Q, H, K, pos, neg, NamedLiteral, NamedClause, each, uses_of, outnumber}
use Rattle.cnf.specs.Clauses.{exactly_one, given, fan_in_given, fan_in_gate, gate_majority, output_given, output_gate, counter_step, counter, fan_ins_chosen, fan_in_values, gate_values, output_chosen, output_values, levels_limited, fan_outs_limited, clauses_of}
use Rattle.cnf.specs.Numbers.{Clause, numbered_literal, numbered, question_number, question_variables, question_clauses}
use Rattle.cnf.specs.Text.{literal_text, clause_text, clauses_text, head_text, question_text}
use Rattle.cnf.specs.Rules.{clauses_refusal}
use Rattle.cnf_laws.proofs.Each.{numbered_append, length_uses}

-- at most so many digits are put before others
length_digits : (k n : ℕ) (others : List ℕ) → length (digits_onto k 10 false n others) ≤ k + length others
length_digits zero n others = omega arith
length_digits (suc k) n others =
    let glyph = digit_glyph false (n % 10) in
    let more = length_digits k (n / 10) (glyph ∷ others) in
    elim (eqb (n / 10) 0) as (λ t. length (cond t (glyph ∷ others) (digits_onto k 10 false (n / 10) (glyph ∷ others))) ≤ suc k + length others)
    [ true ↦ omega arith | false ↦ omega arith ]

-- no number has more than 64 digits
decimal_short : (n : ℕ) → length (decimal n) ≤ 64
unfolding digits
decimal_short n = length_digits 64 n []

-- a minus is one byte, a literal at most 66, and the literals of a clause so many times as many
sign_short : (t : Bool) → length {A = ℕ} (cond t (45 ∷ []) []) ≤ 1
sign_short true = omega arith
sign_short false = omega arith

literal_short : (l : Literal) → length (literal_text l) ≤ 66
literal_short l =
    let e = length-append (cond l.negated (45 ∷ []) []) (decimal l.variable ++ (32 ∷ [])) in
    let f = length-append (decimal l.variable) (32 ∷ []) in
    omega (arith, sign_short l.negated, decimal_short l.variable)

literals_short : (c : Clause) → length (flat_map literal_text c) ≤ 66 * length c
literals_short [] = omega arith
literals_short (l ∷ c) = omega (arith, length-append (literal_text l) (flat_map literal_text c), literal_short l, literals_short c)

-- for any numbers of the variables
module _ (g : Var → ℕ) where
  -- how many bytes the text of the clauses has
  abbrev bytes : List NamedClause → ℕ
  bytes cs = length (clauses_text (numbered g cs))

  bytes_append : (xs ys : List NamedClause) → bytes (xs ++ ys) ≡ bytes xs + bytes ys
  bytes_append xs ys =
      ap (λ cs. length (clauses_text cs)) (numbered_append g xs ys)
      ∙ ap (λ (s : List ℕ). length s) (flat_map-append clause_text (numbered g xs) (numbered g ys))
      ∙ length-append (clauses_text (numbered g xs)) (clauses_text (numbered g ys))

  length_numbered : (c : NamedClause) → length (map (numbered_literal g) c) ≡ length c
  length_numbered [] = refl
  length_numbered (l ∷ c) = ap suc (length_numbered c)

  -- one clause more
  bytes_cons : (c : NamedClause) (cs : List NamedClause) → bytes (c ∷ cs) ≤ 66 * length c + 2 + bytes cs
  unfolding numbered
  bytes_cons c cs =
      let ls = map (numbered_literal g) c in
      omega (
        arith,
        length-append (clause_text ls) (clauses_text (numbered g cs)),
        length-append (flat_map literal_text ls) (48 ∷ 10 ∷ []),
        literals_short ls,
        length_numbered c,
      )

  bytes_none : bytes [] ≤ 0
  unfolding numbered
  bytes_none = omega arith

  -- parts of at most so many bytes each
  bytes_each : (m b a : ℕ) (f : ℕ → List NamedClause) → ((x : ℕ) → a ≤ x → x < a + m → bytes (f x) ≤ b) → bytes (each a m f) ≤ m * b
  unfolding each
  bytes_each zero b a f h = omega (arith, bytes_none)
  bytes_each (suc m) b a f h =
      omega (
        arith,
        bytes_append (f a) (each (suc a) m f),
        suc-mul m b,
        h a (omega arith) (omega arith),
        bytes_each m b (suc a) f (λ x l u. h x (omega arith) (omega arith)),
      )

  -- no more than so many parts of at most so many bytes each
  bytes_at_most : (k b m a : ℕ) (f : ℕ → List NamedClause) → m ≤ k → ((x : ℕ) → a ≤ x → x < a + m → bytes (f x) ≤ b) → bytes (each a m f) ≤ k * b
  bytes_at_most k b m a f few h = omega (arith, bytes_each m b a f h, mul-le-mul_right b few)

  -- each clause has at most four literals
  abbrev all_short : List NamedClause → Bool
  all_short [] = true
  all_short (c ∷ cs) = leb (length c) 4 && all_short cs

  bytes_short : (cs : List NamedClause) → all_short cs ≡ true → bytes cs ≤ 266 * length cs
  bytes_short [] h = bytes_none
  bytes_short (c ∷ cs) h =
      let (few, more) = and_parts (leb (length c) 4) (all_short cs) h in
      omega (arith, bytes_cons c cs, leb-true (length c) 4 few, bytes_short cs more)

  length_singles : (m a : ℕ) (f : ℕ → NamedLiteral) → length (each a m (λ j. f j ∷ [])) ≡ m
  unfolding each
  length_singles zero a f = refl
  length_singles (suc m) a f = ap suc (length_singles m (suc a) f)

  exactly_one_bytes : (m : ℕ) (v : ℕ → Var) → m ≤ 12 → bytes (exactly_one m v) ≤ 39098
  exactly_one_bytes m v few =
      let pair : ℕ → ℕ → List NamedClause = λ x y. (neg (v x) ∷ neg (v y) ∷ []) ∷ [] in
      let pairs : ℕ → List NamedClause = λ x. each (suc x) (m - suc x) (pair x) in
      let some = each 0 m (λ j. pos (v j) ∷ []) in
      omega (
        arith,
        bytes_cons some (each 0 m pairs),
        length_singles m 0 (λ j. pos (v j)),
        bytes_at_most 12 (12 * 266) m 0 pairs few (λ x _ _. bytes_at_most 12 266 (m - suc x) (suc x) (pair x) (omega arith)
            (λ y _ _. bytes_short (pair x y) refl)),
      )

  -- the clauses of each kind, for one place
  given_bytes : (v : Bool) (i c j t : ℕ) → bytes (fan_in_given v i c j t) ≤ 532
  given_bytes true i c j t = bytes_short (fan_in_given true i c j t) refl
  given_bytes false i c j t = bytes_short (fan_in_given false i c j t) refl

  fan_in_bytes : (b v : Bool) (i c j t : ℕ) → bytes (cond b (fan_in_given v i c j t) (fan_in_gate i c j t)) ≤ 1064
  fan_in_bytes true v i c j t = omega (arith, given_bytes v i c j t)
  fan_in_bytes false v i c j t = bytes_short (fan_in_gate i c j t) refl

  output_bytes : (b v f : Bool) (j t : ℕ) → bytes (cond b (output_given v f j) (output_gate f j t)) ≤ 532
  output_bytes true true true j t = omega (arith, bytes_short (output_given true true j) refl)
  output_bytes true true false j t = omega (arith, bytes_short (output_given true false j) refl)
  output_bytes true false true j t = omega (arith, bytes_short (output_given false true j) refl)
  output_bytes true false false j t = omega (arith, bytes_short (output_given false false j) refl)
  output_bytes false v true j t = bytes_short (output_gate true j t) refl
  output_bytes false v false j t = bytes_short (output_gate false j t) refl

  step_bytes : (f j : ℕ) (u : Var) (k : ℕ) → f ≤ 19 → bytes (counter_step f j u k) ≤ 10374
  step_bytes f j u k low =
      let first : ℕ → List NamedClause = λ q. (neg (K j (k - 1) q) ∷ pos (K j k q) ∷ []) ∷ [] in
      let second : ℕ → List NamedClause = λ q. (neg u ∷ neg (K j (k - 1) q) ∷ pos (K j k (q + 1)) ∷ []) ∷ [] in
      let last : List NamedClause = (neg u ∷ neg (K j (k - 1) f) ∷ []) ∷ [] in
      omega (
        arith,
        bytes_append (each 1 f first) (each 1 (f - 1) second ++ last),
        bytes_append (each 1 (f - 1) second) last,
        bytes_at_most 19 266 f 1 first low (λ q _ _. bytes_short (first q) refl),
        bytes_at_most 19 266 (f - 1) 1 second (omega arith) (λ q _ _. bytes_short (second q) refl),
        bytes_short last refl,
      )

  counter_bytes : (t : Bool) (f j : ℕ) (u : Var) (k : ℕ) → f ≤ 19 → bytes ((neg u ∷ pos (K j k 1) ∷ []) ∷ cond t (counter_step f j u k) []) ≤ 10642
  counter_bytes true f j u k low = omega (arith, bytes_cons (neg u ∷ pos (K j k 1) ∷ []) (counter_step f j u k), step_bytes f j u k low)
  counter_bytes false f j u k low = omega (arith, bytes_short ((neg u ∷ pos (K j k 1) ∷ []) ∷ []) refl)

  -- over at most four inputs and seven gates
  module _ (n r : ℕ) (inputs : n ≤ 4) (gates : r ≤ 7) where
    -- the groups of clauses
    rows : 2 ^ n ≤ 16
    rows = pow-le-pow_right (lit< tt) inputs

    chosen_bytes : bytes (fan_ins_chosen n r) ≤ 7 * (3 * 39098)
    chosen_bytes = bytes_at_most 7 (3 * 39098) r (suc n) _ gates (λ i l u. bytes_each 3 39098 1 (λ c. exactly_one i (S i c))
        (λ c _ _. exactly_one_bytes i (S i c) (omega arith)))

    fan_in_values_bytes : bytes (fan_in_values n r) ≤ 7 * (3 * (12 * (16 * 1064)))
    fan_in_values_bytes = bytes_at_most 7 (3 * (12 * (16 * 1064))) r (suc n) _ gates (λ i l u. bytes_each 3 (12 * (16 * 1064)) 1 _
        (λ c _ _. bytes_at_most 12 (16 * 1064) i 0 _ (omega arith) (λ j _ _. bytes_at_most 16 1064 (2 ^ n) 0 _ rows
        (λ t _ _. fan_in_bytes (leb j n) (given n t j) i c j t))))

    gate_values_bytes : bytes (gate_values n r) ≤ 7 * (16 * 1596)
    gate_values_bytes = bytes_at_most 7 (16 * 1596) r (suc n) _ gates (λ i _ _. bytes_at_most 16 1596 (2 ^ n) 0 _ rows
        (λ t _ _. bytes_short (gate_majority i t) refl))

    output_values_bytes : (table : ℕ) → bytes (output_values n table r) ≤ 12 * (16 * 532)
    output_values_bytes table = bytes_at_most 12 (16 * 532) (suc n + r) 0 _ (omega arith) (λ j _ _. bytes_at_most 16 532 (2 ^ n) 0 _ rows
        (λ t _ _. output_bytes (leb j n) (given n t j) (bit_at table t) j t))

    levels_bytes : (d : ℕ) → d ≤ 7 → bytes (levels_limited n d r) ≤ 500000
    levels_bytes d deep =
        let tops : ℕ → List NamedClause = λ j. (neg (O j) ∷ neg (H j d) ∷ []) ∷ [] in
        let above : ℕ → ℕ → ℕ → ℕ → List NamedClause = λ i c j e. (neg (S i c j) ∷ neg (H j e) ∷ pos (H i (e + 1)) ∷ []) ∷ [] in
        let steps : ℕ → List NamedClause = λ i. each 1 3 (λ c. each (suc n) (i - suc n) (λ j. each 0 d (above i c j))) in
        let all : ℕ → List NamedClause = λ i. (pos (H i 0) ∷ []) ∷ steps i in
        let step : (i : ℕ) → i < suc n + r → bytes (all i) ≤ 68000 = λ i u.
        omega (
          arith,
          bytes_cons (pos (H i 0) ∷ []) (steps i),
          bytes_each 3 (12 * (7 * 266)) 1 (λ c. each (suc n) (i - suc n) (λ j. each 0 d (above i c j)))
              (λ c _ _. bytes_at_most 12 (7 * 266) (i - suc n) (suc n) (λ j. each 0 d (above i c j)) (omega arith)
              (λ j _ _. bytes_at_most 7 266 d 0 (above i c j) deep (λ e _ _. bytes_short (above i c j e) refl))),
        ) in
        omega (
          arith,
          bytes_append (each (suc n) r all) (each (suc n) r tops),
          bytes_at_most 7 68000 r (suc n) all gates (λ i l u. step i u),
          bytes_at_most 7 266 r (suc n) tops gates (λ j _ _. bytes_short (tops j) refl),
        )

    fan_outs_bytes : (f : ℕ) → f ≤ 19 → bytes (fan_outs_limited n f r) ≤ 7 * (34 * 10642)
    fan_outs_bytes f low = bytes_at_most 7 (34 * 10642) r (suc n) _ gates (λ j l u. at j (outnumber n f r j))
      where
        at : (j : ℕ) (t : Bool) → bytes (cond t (each 1 (length (uses_of n r j)) (λ k. counter f j (get_or (uses_of n r j) (k - 1) Q) k)) []) ≤ 34 * 10642
        at j true = bytes_at_most 34 10642 (length (uses_of n r j)) 1 _ (omega (arith, length_uses n r j))
            (λ k _ _. counter_bytes (ltb 1 k) f j (get_or (uses_of n r j) (k - 1) Q) k low)
        at j false = omega (arith, bytes_none)

    clauses_bytes : (table d f : ℕ) → d ≤ 7 → f ≤ 19 → bytes (clauses_of n table d f r) ≤ 10000000
    unfolding clauses_of
    clauses_bytes table d f deep low =
        let six = levels_limited n d r ++ fan_outs_limited n f r in
        let five = output_values n table r ++ six in
        let four = output_chosen n r ++ five in
        let three = gate_values n r ++ four in
        let two = fan_in_values n r ++ three in
        omega (
          arith,
          bytes_append (fan_ins_chosen n r) two,
          bytes_append (fan_in_values n r) three,
          bytes_append (gate_values n r) four,
          bytes_append (output_chosen n r) five,
          bytes_append (output_values n table r) six,
          bytes_append (levels_limited n d r) (fan_outs_limited n f r),
          chosen_bytes,
          fan_in_values_bytes,
          gate_values_bytes,
          exactly_one_bytes (suc n + r) O (omega arith),
          output_values_bytes table,
          levels_bytes d deep,
          fan_outs_bytes f low,
        )

-- the first line
head_bytes : (v m : ℕ) → length (head_text v m) ≤ 136
head_bytes v m =
    let ends = length-append (decimal m) (10 ∷ []) in
    omega (arith, length-append (decimal v) (32 ∷ (decimal m ++ (10 ∷ []))), decimal_short v, decimal_short m)

-- where the question is not refused, it is within bounds
pub within_bounds : (q : Question) (r : ℕ) → clauses_refusal q r ≡ None → Valid q × (r ≤ 7)
within_bounds q r none =
    let seven = passes_if (ltb 7 r) GatesAboveReach (decides_leb r 7) in
    (passes_both (question_refusal q) (refuse_if (ltb 7 r) GatesAboveReach) (question-passes q) seven).0 (ap passes none)

-- the text of a question that is not refused has at most so many bytes
pub text_short : (q : Question) (r : ℕ) → clauses_refusal q r ≡ None → length (question_text q r) ≤ 11000000
text_short q r none =
    let v = length (question_variables q r) in
    let m = length (question_clauses q r) in
    let (valid, gates) = within_bounds q r none in
    omega (
      arith,
      length-append (head_text v m) (clauses_text (question_clauses q r)),
      head_bytes v m,
      clauses_bytes (question_number q r) q.inputs r valid.inputs gates q.table q.limits.depth q.limits.fan_out valid.depth valid.fan_out,
    )

-- Clauses kept in words are well formed for the solver.
use Rattle.std.proofs.Common.{◌≡◌, ℕ, ◌+◌, ◌-◌, ◌*◌, ◌/◌, ◌<◌, ◌≤◌, Bool, true, false, cond, List, [], ◌∷◌, ◌++◌, All, length, map, take, drop, get_or, sym, ap, ◌∙◌, subst, arith}
use Rattle.std.proofs.lemmas.List.{length-append, take-append-drop, take_all, take-take}
use Rattle.std.proofs.lemmas.List.Concat.{flat_map-append}
use Rattle.std.proofs.lemmas.List.Elements.{All-nil, All-append, All-head, All-tail, All-map, All-weaker, All-get_or}
use Rattle.cnf.specs.declared.literal.Literal.{Literal}
use Rattle.cnf.specs.Numbers.{Clause}
use Rattle.sat_laws.specs.Formulas.{WellFormed}
use Rattle.clause_words.specs.Codes.{code_of, codes_of}
use Rattle.clause_words.specs.Stored.{Stores}

-- the variable of a literal is one of the first n
abbrev pub Names : ℕ → Literal → Type 0
Names n l = (1 ≤ l.variable) × (l.variable ≤ n)

code_below : (n : ℕ) (l : Literal) → Names n l → code_of l / 2 < n
code_below n l h = at l.negated
  where
    at : (b : Bool) → (2 * (l.variable - 1) + cond b 0 1) / 2 < n
    at true = omega (arith, h.0, h.1)
    at false = omega (arith, h.0, h.1)

codes_below : (n : ℕ) (cs : List Clause) → All (All (Names n)) cs → All (λ (x : ℕ). x / 2 < n) (codes_of cs)
codes_below n [] h = All-nil (λ (x : ℕ). x / 2 < n)
codes_below n (c ∷ cs) h =
    All-append (λ (x : ℕ). x / 2 < n) (map code_of c) (codes_of cs)
    (All-map (λ (x : ℕ). x / 2 < n) code_of c (All-weaker (Names n) (λ l. code_of l / 2 < n) (code_below n) c (All-head (All (Names n)) c cs h)))
    (codes_below n cs (All-tail (All (Names n)) c cs h))

-- the first clauses have no more literals than more of them
fewer_codes : (cs : List Clause) (c d : ℕ) → c ≤ d → length (codes_of (take c cs)) ≤ length (codes_of (take d cs))
fewer_codes cs c d l =
    let front : take c (take d cs) ≡ take c cs = take-take c d cs l in
    let whole : codes_of (take d cs) ≡ codes_of (take c cs) ++ codes_of (drop c (take d cs)) =
    ap codes_of (sym (take-append-drop c (take d cs))) ∙ flat_map-append (λ x. map code_of x) (take c (take d cs)) (drop c (take d cs))
    ∙ ap (λ xs. codes_of xs ++ codes_of (drop c (take d cs))) front in
    omega (arith, ap (λ xs. length xs) whole, length-append (codes_of (take c cs)) (codes_of (drop c (take d cs))))

pub well_formed : (ws ends : List ℕ) (k n : ℕ) (cs : List Clause) → Stores ws ends k cs → k < length ends → length (codes_of cs) ≤ 2 * length ws
    → All (All (Names n)) cs → WellFormed ws ends k n
well_formed ws ends k n cs h room words names =
    let all : take k cs ≡ cs = take_all k cs (omega (arith, h.count)) in
    let last : get_or ends k 0 ≡ length (codes_of cs) = h.bounds k (omega (arith, h.count)) ∙ ap (λ xs. length (codes_of xs)) all in
    record {
      table = room;
      within = λ c l. omega (arith, h.bounds c (omega (arith, h.count)), fewer_codes cs c k l, ap (λ xs. length (codes_of xs)) all);
      small = λ j l. let i : j < length (codes_of cs) = omega (arith, last) in
          subst (λ x. x / 2 < n) (sym (h.literals j i)) (All-get_or (λ (x : ℕ). x / 2 < n) (codes_of cs) j 0 i (codes_below n cs names));
      rising = λ c d l u. omega (arith, h.bounds c (omega (arith, h.count)), h.bounds d (omega (arith, h.count)), fewer_codes cs c d l);
    }

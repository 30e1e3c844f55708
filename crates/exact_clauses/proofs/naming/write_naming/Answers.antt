use Rattle.std.proofs.Common.{◌≡◌, ℕ, suc, ◌+◌, ◌-◌, ◌<◌, false, List, [], ◌∷◌, ◌++◌, map, take, set, length, sym, refl, ap, ◌∙◌, append_assoc, arith, length-set}
use Rattle.std.proofs.Math.Seq.{take-suc-set}
use Rattle.std.proofs.lemmas.List.{map-append, append-nil}
use Rattle.cnf.specs.declared.literal.Literal.{Literal}
use Rattle.cnf.specs.Variables.{Var, S, pos, NamedLiteral, each}
use Rattle.cnf.specs.Numbers.{numbered_literal}
use Rattle.cnf_laws.proofs.Each.{each_push}
use Rattle.clauses.specs.Numbering.{numbered_by}
use Rattle.symmetry_laws.specs.Symmetry.{naming}
use Rattle.exact_clauses.proofs.naming.write_naming.Goals as goal

-- one element more
one_more : {X : Type 0} (xs : List X) (k j : ℕ) (x : X) → k < length xs → j ≡ suc k → take j (set xs k x) ≡ take k xs ++ (x ∷ [])
one_more xs k j x l e = ap (λ (m : ℕ). take m (set xs k x)) e ∙ take-suc-set xs k x l

-- three elements more
three_more : {X : Type 0} (xs : List X) (k : ℕ) (a b d : X) → k + 2 < length xs
    → take (k + 3) (set (set (set xs k a) (k + 1) b) (k + 2) d) ≡ take k xs ++ (a ∷ b ∷ d ∷ [])
three_more xs k a b d l =
    one_more (set (set xs k a) (k + 1) b) (k + 2) (k + 3) d (omega (arith, length-set (set xs k a) (k + 1) b, length-set xs k a)) (omega arith)
    ∙ ap (λ ys. ys ++ (d ∷ [])) (one_more (set xs k a) (k + 1) (k + 2) b (omega (arith, length-set xs k a)) (omega arith))
    ∙ ap (λ ys. (ys ++ (b ∷ [])) ++ (d ∷ [])) (one_more xs k (k + 1) a (omega arith) (omega arith))
    ∙ append_assoc (take k xs ++ (a ∷ [])) (b ∷ []) (d ∷ [])
    ∙ append_assoc (take k xs) (a ∷ []) (b ∷ d ∷ [])

-- the literals of one part more, behind others
part_more : (g : Var → ℕ) (f : ℕ → List NamedLiteral) (a m m′ x : ℕ) (ls front : List Literal) → a + m ≡ x → m′ ≡ suc m
    → ls ≡ front ++ map (numbered_literal g) (each a m f)
    → ls ++ map (numbered_literal g) (f x) ≡ front ++ map (numbered_literal g) (each a m′ f)
part_more g f a m m′ x ls front e e′ h =
    ap (λ ys. ys ++ map (numbered_literal g) (f x)) h
    ∙ append_assoc front (map (numbered_literal g) (each a m f)) (map (numbered_literal g) (f x))
    ∙ ap (λ z. front ++ (map (numbered_literal g) (each a m f) ++ map (numbered_literal g) (f z))) (sym e)
    ∙ ap (λ ys. front ++ ys) (sym (map-append (numbered_literal g) (each a m f) (f (a + m))))
    ∙ ap (λ ys. front ++ map (numbered_literal g) ys) (sym (each_push a m f))
    ∙ ap (λ z. front ++ map (numbered_literal g) (each a z f)) (sym e′)

-- three literals
same_three : (a b d a′ b′ d′ : Literal) → a ≡ a′ → b ≡ b′ → d ≡ d′ → ◌≡◌ {A = List Literal} (a ∷ b ∷ d ∷ []) (a′ ∷ b′ ∷ d′ ∷ [])
same_three a b d a′ b′ d′ p q r = λ i. p i ∷ q i ∷ r i ∷ []

pub loop-gate-init : goal.loop-gate-init
unfolding each
loop-gate-init c =
    let none : c.args.from - c.args.from ≡ 0 = omega arith in (
      refl,
      omega arith,
      sym (append-nil (take c.args.start c.args.literals.now))
          ∙ sym (ap (λ m. take c.args.start c.args.literals.now ++ map (numbered_literal (numbered_by c.args.numbering.now)) (each c.args.from m (naming c.args.node))) none),
    )

pub loop-gate-preserved : goal.loop-gate-preserved
loop-gate-preserved c =
    let e = c.args.numbering.now in
    let num = numbered_by e in
    let j = c.args.node in
    let i = c.loop-gate.gate in
    let k = c.loop-gate.count in
    let xs = c.loop-gate.literals in
    let a = c.pos.result in
    let b = c.pos-in-loop-gate.result in
    let d = c.pos-in-loop-gate-2.result in
    let wide : k + 2 < length xs = omega (arith, c.loop-gate.auto.gate, c.loop-gate-test.true, c.loop-gate.invariant.1, c.loop-gate.invariant.0, c.requires.room) in
    let first : a ≡ numbered_literal num (pos (S i 1 j)) = c.pos.ensures ∙ ap (λ (v : ℕ). record { variable = v; negated = false }) c.fan_in_is.ensures in
    let second : b ≡ numbered_literal num (pos (S i 2 j)) = c.pos-in-loop-gate.ensures ∙ ap (λ (v : ℕ). record { variable = v; negated = false }) c.fan_in_is-in-loop-gate.ensures in
    let third : d ≡ numbered_literal num (pos (S i 3 j)) = c.pos-in-loop-gate-2.ensures ∙ ap (λ (v : ℕ). record { variable = v; negated = false }) c.fan_in_is-in-loop-gate-2.ensures in (
      omega (arith, length-set (set (set xs k a) (k + 1) b) (k + 2) d, length-set (set xs k a) (k + 1) b, length-set xs k a, c.loop-gate.invariant.0),
      omega (arith, c.loop-gate.invariant.1, c.loop-gate.auto.gate),
      three_more xs k a b d wide
          ∙ ap (λ ls. take k xs ++ ls) (same_three a b d _ _ _ first second third)
          ∙ part_more num (naming j) c.args.from (i - c.args.from) (i + 1 - c.args.from) i (take k xs) (take c.args.start c.args.literals.now) (omega (arith, c.loop-gate.auto.gate)) (omega (arith, c.loop-gate.auto.gate)) c.loop-gate.invariant.2,
    )

use Rattle.std.proofs.Common.{rules, ◌≡◌, ℕ, suc, ◌+◌, ◌<◌, List, [], ◌∷◌, ◌++◌, map, take, set, length, sym, refl, ap, ◌∙◌, arith, false, length-set}
use Rattle.std.proofs.Math.Seq.{take-suc-set}
use Rattle.std.proofs.lemmas.List.{map-append}
use Rattle.cnf.specs.declared.literal.Literal.{Literal}
use Rattle.cnf.specs.Variables.{Var, NamedLiteral, pos, each}
use Rattle.cnf.specs.Numbers.{numbered_literal}
use Rattle.cnf_laws.proofs.Each.{each_push}
use Rattle.clauses.specs.Numbering.{numbered_by}
use Rattle.clauses.specs.Choices.{variable_of}
use Rattle.clauses.proofs.choices.some_node.Goals as goal

-- one literal more
one_more : (g : Var → ℕ) (f : ℕ → NamedLiteral) (xs : List Literal) (k : ℕ) (x : Literal) → k < length xs
    → take k xs ≡ map (numbered_literal g) (each 0 k (λ j. f j ∷ [])) → x ≡ numbered_literal g (f k)
    → take (k + 1) (set xs k x) ≡ map (numbered_literal g) (each 0 (k + 1) (λ j. f j ∷ []))
one_more g f xs k x l h e =
    let s : k + 1 ≡ suc k = omega arith in
    let z : 0 + k ≡ k = omega arith in
    ap (λ (m : ℕ). take m (set xs k x)) s
    ∙ take-suc-set xs k x l
    ∙ ap (λ ys. ys ++ (x ∷ [])) h
    ∙ ap (λ y. map (numbered_literal g) (each 0 k (λ j. f j ∷ [])) ++ (y ∷ [])) e
    ∙ sym (map-append (numbered_literal g) (each 0 k (λ j. f j ∷ [])) (f k ∷ []))
    ∙ ap (λ (m : ℕ). map (numbered_literal g) (each 0 k (λ j. f j ∷ []) ++ (f m ∷ []))) (sym z)
    ∙ ap (map (numbered_literal g)) (sym (each_push 0 k (λ j. f j ∷ [])))
    ∙ ap (λ (m : ℕ). map (numbered_literal g) (each 0 m (λ j. f j ∷ []))) (sym s)

pub loop-node-init : goal.loop-node-init
unfolding each
loop-node-init g c = (search rules, refl)

pub loop-node-preserved : goal.loop-node-preserved
loop-node-preserved g c = (
  omega (arith, length-set c.loop-node.literals c.loop-node.node c.pos.result, c.loop-node.invariant.0),
  one_more (numbered_by c.args.numbering.now) (λ j. pos (variable_of c.args.choice j)) c.loop-node.literals c.loop-node.node c.pos.result
      (omega (arith, c.loop-node.invariant.0, c.loop-node-test.true, c.requires)) c.loop-node.invariant.1
      (c.pos.ensures ∙ ap (λ (v : ℕ). record { variable = v; negated = false }) c.variable.ensures),
)

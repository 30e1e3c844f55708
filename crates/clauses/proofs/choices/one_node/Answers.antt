use Rattle.std.proofs.Common.{◌≡◌, ℕ, subst, suc, ◌-◌, [], ◌∷◌, arith}
use Rattle.cnf.specs.Variables.{pos, neg, each}
use Rattle.cnf.specs.Numbers.{numbered}
use Rattle.clauses.specs.Numbering.{numbered_by}
use Rattle.clauses.specs.Choices.{variable_of}
use Rattle.clauses.proofs.Takings.{took_none, took_part, took_both}
use Rattle.clauses.proofs.choices.one_node.Goals as goal

pub loop-node-init : goal.loop-node-init
loop-node-init g c = took_none g.S.ClauseSink.took (numbered_by c.args.numbering.now) g.met.S.ClauseSink.took_nothing _ _ _ _ (omega arith)

pub loop-node-preserved : goal.loop-node-preserved
loop-node-preserved g c =
    took_part g.S.ClauseSink.took (numbered_by c.args.numbering.now) g.met.S.ClauseSink.took_more _ _ _ _ (λ x. each (suc x) (c.args.count - suc x) (λ y. (neg (variable_of c.args.choice x) ∷ neg (variable_of c.args.choice y) ∷ []) ∷ [])) _ _ _ (omega arith) (omega arith) c.loop-node.invariant c.not_both.ensures

pub returns : goal.returns
unfolding numbered
returns g c =
    let num = numbered_by c.args.numbering.now in
    let v = variable_of c.args.choice in
    let e : c.loop-node.node ≡ c.args.count = omega (arith, c.loop-node-test.false, c.loop-node.auto.node-end) in
    took_both g.S.ClauseSink.took num g.met.S.ClauseSink.took_more (each 0 c.args.count (λ j. pos (v j) ∷ []) ∷ []) _ _ _ _ c.some_node.ensures
    (subst (λ (m : ℕ). g.S.ClauseSink.took c.some_node.new.sink (numbered num (each 0 m (λ x. each (suc x) (c.args.count - suc x) (λ y. (neg (v x) ∷ neg (v y) ∷ []) ∷ [])))) c.loop-node.sink) e c.loop-node.invariant)

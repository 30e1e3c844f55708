use Rattle.std.proofs.Common.{suc, ◌+◌, ◌-◌, [], ◌∷◌, arith}
use Rattle.cnf.specs.Variables.{each}
use Rattle.cnf.specs.Numbers.{numbered}
use Rattle.clauses.specs.Numbering.{numbered_by}
use Rattle.symmetry_laws.specs.Symmetry.{naming}
use Rattle.clauses.proofs.Takings.{took_none, took_part}
use Rattle.exact_clauses.proofs.gates.gates_named.Goals as goal

pub loop-gate-init : goal.loop-gate-init
loop-gate-init g c = took_none g.S.ClauseSink.took (numbered_by c.args.numbering.now) g.met.S.ClauseSink.took_nothing _ _ _ _ (omega arith)

pub loop-gate-preserved : goal.loop-gate-preserved
unfolding numbered
loop-gate-preserved g c =
    took_part g.S.ClauseSink.took (numbered_by c.args.numbering.now) g.met.S.ClauseSink.took_more _ _ _ _ (λ j. each (suc j) (c.args.numbering.now.inputs + c.args.numbering.now.gates - j) (naming j) ∷ []) _ _ _ (omega arith) (omega arith) c.loop-gate.invariant c.gate_named.ensures

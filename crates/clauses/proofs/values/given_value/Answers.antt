use Rattle.std.proofs.Common.{◌≡◌, ℕ, zero, suc, ◌-◌, ◌<◌, ◌≤◌, sym, ap, ◌∙◌, arith}
use Rattle.mig.specs.Tables.{bit_at}
use Rattle.mig_laws.proofs.RowBits.{get_or-input_bits}
use Rattle.cnf.specs.Clauses.{given}
use Rattle.clauses.proofs.values.given_value.Goals as goal

-- an input has its bit of the row
of_input : (n t j : ℕ) → 0 < j → j ≤ n → given n t j ≡ bit_at t (j - 1)
of_input n t zero l h = absurd (omega arith)
of_input n t (suc i) l h = let e : suc i - 1 ≡ i = omega arith in get_or-input_bits n t i (omega arith) ∙ ap (bit_at t) (sym e)

pub returns-then-node-gt0 : goal.returns-then-node-gt0
returns-then-node-gt0 c =
    sym (of_input c.args.inputs c.args.row c.args.node (omega (arith, c.if-node-gt0.true)) c.requires.0)

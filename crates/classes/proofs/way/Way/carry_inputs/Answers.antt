use Rattle.std.proofs.Common.{rules, ◌≡◌, false, arith}
use Rattle.mig.specs.Tables.{bit_at}
use Rattle.mig_laws.proofs.Tables.{table-not}
use Rattle.class_laws.specs.Ways.{old_row, carry_table}
use Rattle.classes.specs.Reach.{by}
use Rattle.classes.proofs.way.Way.carry_inputs.Goals as goal

pub returns : goal.returns
returns c =
    let k = c.args.self.order in
    let m = c.args.self.mask in
    let e : c.number_of.result ≡ carry_table (by k m false) c.args.table = search rules in
    record { plain = e; complemented = omega (arith, e, table-not 16 0 (λ t. bit_at c.args.table (old_row k m t))) }

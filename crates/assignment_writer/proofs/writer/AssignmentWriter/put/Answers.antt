use Rattle.std.proofs.Common.{◌≡◌, cond, rules, refl}
use Rattle.std.proofs.lemmas.Bool.{lt-ltb, le-ltb}
use Rattle.assignment_writer.specs.Writing.{with_bits}
use Rattle.assignment_writer.proofs.writer.AssignmentWriter.put.Goals as goal

pub returns-then-self : goal.returns-then-self
unfolding with_bits
returns-then-self c =
    let byte : c.from.result ≡ cond c.args.bit 1 0 = search rules in
    record { same_buffer = refl; written = rw (lt-ltb _ _ c.if-self.true, byte) refl }

pub returns-else-self : goal.returns-else-self
unfolding with_bits
returns-else-self c = record { same_buffer = refl; written = rw (le-ltb _ _ c.if-self.false) refl }

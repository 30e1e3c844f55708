use Rattle.std.proofs.Common.{ℕ, ◌/◌, ◌^◌, arith, zero-add, add-one, sym, ap, ◌∙◌}
use Rattle.std.proofs.Math.Nat.{div-div-eq-div-mul, pow-suc}
use Rattle.assignment_writer.proofs.Writing.{wrote_none, wrote_next}
use Rattle.assignment_writer.proofs.writer.AssignmentWriter.put_bits.Goals as goal

pub loop-t-init : goal.loop-t-init
loop-t-init c = record { written = wrote_none c.args.self.now 0 _; left = omega arith }

pub loop-t-preserved : goal.loop-t-preserved
loop-t-preserved c =
    let t = c.loop-t._t in
    record {
      written = wrote_next 0 t t _ (zero-add t) c.loop-t.invariant.written (rw (← c.loop-t.invariant.left) c.put.ensures);
      left =
          ap (λ (m : ℕ). m / 2) c.loop-t.invariant.left ∙ div-div-eq-div-mul c.args.number (2 ^ t) 2
          ∙ ap (λ (m : ℕ). c.args.number / m) (sym (pow-suc 2 t) ∙ ap (λ (m : ℕ). 2 ^ m) (sym (add-one t)));
    }

use Rattle.std.proofs.Common.{ap, subst, arith}
use Rattle.std.proofs.lemmas.List.{take_all}
use Rattle.mig.specs.Networks.{names}
use Rattle.assignment_writer.specs.Uses.{names_in}
use Rattle.assignment_writer.proofs.Uses.{Counted, counted_none, use_more, gate_more}
use Rattle.assignment_writer.proofs.writer.AssignmentWriter.put_counts_of.Goals as goal

pub loop-gate-init : goal.loop-gate-init
loop-gate-init c = record { few = omega arith; so_far = counted_none c.args.self.now c.args.fan_out c.args.node }

pub loop-gate-preserved : goal.loop-gate-preserved
loop-gate-preserved c =
    let first = c.put_count-count.ensures in
    let second = c.put_count-count-in-loop-gate.ensures in
    let third = c.put_count-count-in-loop-gate-2.ensures in
    record {
      few = omega arith;
      so_far =
          gate_more c.args.node c.loop-gate.gate-index c.args.later.now c.loop-gate-test.true c.loop-gate.invariant.so_far
          first.count first.written second.count second.written third.count third.written;
    }

pub returns : goal.returns
returns c =
    let node = c.args.node in
    let later = c.args.later.now in
    let all = ap (names_in node) (take_all c.loop-gate.gate-index later (omega arith)) in
    let so_far = subst (λ us. Counted c.args.fan_out us c.args.self.now c.loop-gate.count c.loop-gate.self) all c.loop-gate.invariant.so_far in
    (use_more (names node c.args.output) so_far c.put_count.ensures.count c.put_count.ensures.written).written

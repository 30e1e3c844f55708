use Rattle.std.proofs.Common.{arith, length-set}
use Rattle.mig.specs.declared.network.Gate.{Gate}
use Rattle.records.proofs.Gates.{place_written, places_written}
use Rattle.records.proofs.reading.gates_from.Goals as goal

pub loop-place-preserved : goal.loop-place-preserved
loop-place-preserved c =
    let inv = c.loop-place.invariant in
    let written = place_written c.loop-place.place-items c.loop-place.place-index c.loop-place.rest.now _ (omega arith)
    inv.seven inv.so_far in
    record { so_far = rw (c.first_gate.ensures.gate, c.first_gate.ensures.behind) written; seven = omega (arith, length-set {A = Gate}) }

pub returns : goal.returns
returns c =
    let inv = c.loop-place.invariant in
    places_written c.loop-place.place-items c.loop-place.place-index c.loop-place.rest.now _ (omega arith) inv.seven inv.so_far

use Rattle.std.proofs.Common.{◌≡◌, ◌-◌, ◌≤◌, List, ◌++◌, length, take, drop, replicate, refl, ap, ◌∙◌, ap₂, arith}
use Rattle.std.proofs.lemmas.List.{drop-replicate}
use Rattle.mig.specs.declared.network.Gate.{Gate}
use Rattle.mig.specs.Networks.{empty_gate}
use Rattle.mig_laws.proofs.Places.{default_gate}
use Rattle.assignment_writer.proofs.Whole.{gates_padded}
use Rattle.assignment_writer.proofs.assignment.padded.Goals as goal

pub returns-clause-behind_its_own : goal.returns-clause-behind_its_own
returns-clause-behind_its_own c =
    let gs = c.gates-own.result.now in
    let r = c.args.gates in
    let behind : drop (length gs) (replicate 7 c.default-places.result) ≡ replicate (7 - length gs) empty_gate =
    ap (λ (g : Gate). drop (length gs) (replicate 7 g)) (default_gate c.default-places.result c.default-places.ensures)
    ∙ drop-replicate (length gs) 7 empty_gate in
    let few : length gs ≤ r = omega (arith, c.gates-own.ensures.counted_up_to_seven) in
    let padded_gates : take r (c.copy_from_slice.new.self ++ drop (length gs) (replicate 7 c.default-places.result)) ≡ gs ++ replicate (r - length gs) empty_gate =
    ap (λ (hs : List Gate). take r hs) (ap₂ (λ (hs is : List Gate). hs ++ is) c.copy_from_slice.ensures.after behind)
    ∙ gates_padded gs r few c.requires.few in
    rw (padded_gates, c.gates-own.ensures.gates) refl

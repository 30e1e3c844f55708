use Rattle.std.proofs.Common.{rules, arith, ◌≡◌, ◌≤◌, length, ap, length-take}
use Rattle.mig.specs.Networks.{net_of, size}
use Rattle.records.specs.Records.{record_head, record_bytes}
use Rattle.records.proofs.Gates.{standing}
use Rattle.records.proofs.Whole.{read_back, length_again, goes_on_behind, written_whole}
use Rattle.records.proofs.writing.encode.Goals as goal
use Rattle.records.proofs.writing.encode.Goals.{After-append}

-- the head stands first
head_stands : (c : After-append) → c.append.new.written.items ≡ record_head c.args.question.now c.args.lower c.args.network.now.count
head_stands c = rw (c.new-written.ensures, c.head.ensures) at c.append.ensures

pub append-requires-in-loop-gate : goal.append-requires-in-loop-gate
append-requires-in-loop-gate c =
    let n = standing _ _ c.loop-gate.gate-index c.gates-gate-items.result.now (omega arith) c.loop-gate.invariant in
    let head = head_stands (goal.at.append-requires-in-loop-gate c).After-append in
    omega (arith, n, ap length head)

pub push-requires : goal.push-requires
push-requires c =
    let n = standing _ _ c.loop-gate.gate-index c.gates-gate-items.result.now (omega arith) c.loop-gate.invariant in
    let head = head_stands (goal.at.push-requires c).After-append in
    (omega arith, omega (arith, n, ap length head))

pub returns : goal.returns
returns c =
    let q = c.args.question.now in
    let network = c.args.network.now in
    let net = net_of network in
    let counted : length c.gates-gate-items.result.now ≡ network.count = omega arith in
    let few : size net ≤ 7 = omega (arith, length-take network.count network.gates) in
    let whole : c.push.new.self.items ≡ record_bytes q c.args.lower net =
    written_whole q c.args.lower network _ _ _ c.gates-gate-items.result.now c.loop-gate.gate-index
    c.gates-gate-items.ensures.gates counted c.loop-gate-test.false (head_stands (goal.at.returns c).After-append)
    c.loop-gate.invariant c.push.ensures.items in
    record {
      refused_by_the_rule = search rules;
      is_the_record = whole;
      is_read_back = λ more below. rw whole (read_back q c.args.lower net more below few);
      has_the_record_length = λ more. rw whole (length_again q c.args.lower net more few);
      is_the_first_part = λ place more below. rw whole (goes_on_behind q c.args.lower net place more below few);
    }

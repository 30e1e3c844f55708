use Rattle.std.proofs.Common.{◌≡◌, ◌+◌}
use Rattle.enumeration_laws.specs.Placed.{placed}
use Rattle.enumeration_laws.specs.Prefixes.{NoneBefore}
use Rattle.find.proofs.prefix.Prefix.+extend.Given as goal

-- fewer gates are left in each call
abbrev pub decreases-extend : goal.decreases-extend
decreases-extend l = l.left

-- the nodes are those of the prefix, and nothing goes on with a candidate before the next one
abbrev pub invariant-loop-gate : goal.invariant-loop-gate
invariant-loop-gate l = record {
  inputs : l.gate-iterator.nodes.inputs ≡ l.self.asked.question.inputs;
  gates : l.gate-iterator.nodes.gates ≡ l.self.network.count;
  none : NoneBefore l.self.asked.question (placed l.self.network) l.left
      (l.self.asked.question.inputs + 1 + l.self.network.count) l.gate-iterator.next;
}

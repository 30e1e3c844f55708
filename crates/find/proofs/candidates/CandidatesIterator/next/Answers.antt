use Rattle.std.proofs.Common.{◌+◌, ◌<◌, Option, Some, None, IfSome, subst, arith}
use Rattle.gate_order.specs.declared.Candidate.{Candidate}
use Rattle.gate_order.specs.Candidates.{IsCandidate, rank}
use Rattle.gate_order.proofs.Order.{follows, rank_small}
use Rattle.find.specs.Candidates.{ranks_left}
use Rattle.find.proofs.candidates.CandidatesIterator.next.Goals as goal

-- a candidate of a higher rank has fewer behind it
fewer : (c : Candidate) (next : Option Candidate) → rank c < 32768 → IfSome next (λ d. rank c < rank d)
    → ranks_left next < ranks_left (Some c)
fewer c None small rises = omega arith
fewer c (Some d) small rises = omega arith

pub returns-clause-goes : goal.returns-clause-goes
returns-clause-goes c =
    let nodes = c.args.self.now.nodes in
    let k = nodes.inputs + 1 + nodes.gates in
    let is : IsCandidate nodes.inputs k c.in_ok-candidate.candidate =
    subst (λ o. IfSome o (IsCandidate nodes.inputs k)) c.in_ok-candidate.was c.requires in
    let f = follows nodes.inputs k (omega arith) c.in_ok-candidate.candidate is in
    record {
      on = λ _. rw (c.following-self.ensures, c.in_ok-candidate.was) (
        f.is,
        tt,
        fewer c.in_ok-candidate.candidate _ (rank_small nodes.inputs k
            (omega arith) c.in_ok-candidate.candidate is) f.rises,
      );
      keeps = rw c.following-self.ensures f.is;
      rests = λ _. tt;
    }

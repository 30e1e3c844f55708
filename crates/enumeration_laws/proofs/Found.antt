-- Found networks, and their limits, where a network is written into places.
use Rattle.std.proofs.Common.{◌≡◌, ℕ, ◌≤◌, sym, ap, ◌∙◌, subst}
use Rattle.mig.specs.declared.network.Network.{Network}
use Rattle.mig.specs.declared.question.Question.{Question}
use Rattle.mig.specs.Networks.{Net, net_of, network_of, size}
use Rattle.mig.specs.Questions.{Valid, Meets}
use Rattle.search.specs.Meaning.{Holds}
use Rattle.enumeration_laws.specs.Limits.{InLimits}
use Rattle.mig_laws.proofs.Places.{net_of-network_of}

-- the network that places stand for, into which one was written
pub net_written : (network : Network) (net : Net) → network ≡ network_of net → net_of network ≡ net
net_written network net e = ap net_of e ∙ net_of-network_of net

-- places into which a network was written that meets the question hold a found network
pub holds_written : (q : Question) (r : ℕ) (place : Network) (net : Net) → place ≡ network_of net → size net ≤ r → Meets q net → Holds q r place
holds_written q r place net e few meets =
    let same = net_written place net e in
    record {
      meets = subst (Meets q) (sym same) meets;
      few = subst (λ x. size x ≤ r) (sym same) few;
      cleared = e ∙ ap network_of (sym same);
    }

-- a network that meets the question is in the limits
pub meets_in_limits : (q : Question) (network : Network) (net : Net) → network ≡ network_of net → Valid q → size net ≤ 7 → Meets q net → InLimits q.inputs q.limits network
meets_in_limits q network net e valid few meets =
    let n : Meets q (net_of network) = subst (Meets q) (sym (net_written network net e)) meets in
    (valid.inputs, subst (λ (x : Network). x.count ≤ 7) (sym e) few, n.formed, n.within)

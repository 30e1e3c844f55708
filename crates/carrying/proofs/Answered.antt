-- What holds of the network that a call answers.
use Rattle.std.proofs.Common.{◌≡◌, Some, None, Option, Result, IfOk, sym, refl, subst}
use Rattle.mig.specs.declared.network.Network.{Network}
use Rattle.mig.specs.declared.refusal.Refusal.{Refusal}
use Rattle.mig.specs.Networks.{Net, net_of, network_of}
use Rattle.mig.specs.Rules.{unless_refused}
use Rattle.mig_laws.proofs.Places.{net_of-network_of}

-- what holds of a network where no refusal applies holds of the network that is answered
pub answered : (r : Result Network Refusal) (o : Option Refusal) (net : Net) (P : Net → Type 0) → r ≡ unless_refused o (network_of net) → (o ≡ None → P net) → IfOk r (λ m. P (net_of m))
answered r (Some e) net P h k = rw h tt
answered r None net P h k = rw h (subst P (sym (net_of-network_of net)) (k refl))

-- What variables say of a network, as bits.
use Rattle.std.specs.Prelude.{◌≡◌, ℕ, ◌≤◌, Bool, List, [], ◌∷◌, map, ◌==◌, nat_lt}
use Rattle.mig.specs.Tables.{bit_at}
use Rattle.mig.specs.declared.network.Network.{Network}
use Rattle.mig.specs.Networks.{Net, net_of, size, Formed}
use Rattle.cnf.specs.Variables.{Var, each}
use Rattle.cnf.specs.Meaning.{meaning}

-- for each of m numbers from 0 on, whether it is x
abbrev pub one_of : ℕ → ℕ → List Bool
one_of m x = each 0 m (λ j. (x == j) ∷ [])

-- for each of m numbers from 0 on, whether it is below x
abbrev pub below : ℕ → ℕ → List Bool
below m x = each 0 m (λ j. nat_lt j x ∷ [])

-- the first m bits of x
abbrev pub first_bits : ℕ → ℕ → List Bool
first_bits m x = each 0 m (λ t. bit_at x t ∷ [])

-- what variables say of a network over n inputs
abbrev pub said : ℕ → Net → List Var → List Bool
said n net vs = map (meaning n (size net) net) vs

-- a value of at most seven gates that stands for a well-formed network over n inputs, at most four
pub record IsFormed (n : ℕ) (network : Network) : Type 0 where
  pub inputs : n ≤ 4
  pub gates : network.count ≤ 7
  pub counted : size (net_of network) ≡ network.count
  pub formed : Formed n (net_of network)

-- Nodes that no gate names.
use Rattle.std.proofs.Common.{◌≡◌, ℕ, ◌+◌, ◌≤◌, List, [], ◌∷◌, length, refl, arith}
use Rattle.std.proofs.lemmas.Bool.{ne_eqb}
use Rattle.mig.specs.declared.network.Gate.{Gate}
use Rattle.mig.specs.Networks.{node, uses_in, Ordered}

-- no gate names itself or a node behind it
pub unused_behind : (m j : ℕ) (gs : List Gate) → Ordered m gs → m + length gs ≤ j + 1 → uses_in j gs ≡ 0
unfolding uses_in Ordered
unused_behind m j [] h l = refl
unused_behind m j (g ∷ gs) h l =
    rw (ne_eqb (node g.first) j (omega arith), ne_eqb (node g.second) j (omega arith), ne_eqb (node g.third) j (omega arith))
    (omega (arith, unused_behind (m + 1) j gs h.1 (omega arith)))

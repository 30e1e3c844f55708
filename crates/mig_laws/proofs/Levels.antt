-- No node's level exceeds the number of gates.
use Rattle.std.proofs.Common.{◌≡◌, ℕ, zero, suc, ◌+◌, ◌≤◌, Bool, true, false, cond, eqb, List, [], ◌∷◌, ◌++◌, length, get_or, replicate, refl, arith}
use Rattle.mig.specs.declared.network.Gate.{Gate}
use Rattle.mig.specs.Networks.{Net, size, node, gate_value, walk, levels}
use Rattle.mig.specs.Questions.{level}
use Rattle.mig_laws.proofs.Walks.{get_or-snoc}
use Rattle.mig_laws.proofs.Nodes.{level_at}

get_or-zeros : (n j : ℕ) → ◌≡◌ {A = ℕ} (get_or (replicate n 0) j 0) 0
get_or-zeros zero j = refl
get_or-zeros (suc n) zero = refl
get_or-zeros (suc n) (suc j) = get_or-zeros n j

walk_bound : (b : ℕ) (ls : List ℕ) (gs : List Gate) → ((j : ℕ) → get_or ls j 0 ≤ b) → (j : ℕ) → get_or (walk levels ls gs) j 0 ≤ b + length gs
unfolding walk
walk_bound b ls [] h j = omega (arith, h j)
walk_bound b ls (g ∷ gs) h j = omega (arith, walk_bound (b + 1) (ls ++ gate_value levels ls g ∷ []) gs push j)
  where
    top : gate_value levels ls g ≤ b + 1
    top =
        rw (level_at ls g.first, level_at ls g.second, level_at ls g.third)
        (omega (arith, h (node g.first), h (node g.second), h (node g.third)))

    push : (i : ℕ) → get_or (ls ++ gate_value levels ls g ∷ []) i 0 ≤ b + 1
    push i = rw (get_or-snoc ls (gate_value levels ls g) 0 i) (at (eqb i (length ls)))
      where
        at : (t : Bool) → cond t (gate_value levels ls g) (get_or ls i 0) ≤ b + 1
        at true = top
        at false = omega (arith, h i)

-- the level of a network is at most its number of gates
pub level_bound : (n : ℕ) (net : Net) → level n net ≤ size net
level_bound n net =
    rw (level_at (walk levels (replicate (n + 1) 0) net.gates) net.output)
    (omega (arith, walk_bound 0 (replicate (n + 1) 0) net.gates (λ j. rw (get_or-zeros (n + 1) j) (omega arith)) (node net.output)))

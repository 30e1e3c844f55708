-- What variables say of a network, part by part.
use Rattle.std.proofs.Common.{◌≡◌, ℕ, suc, ◌+◌, ◌-◌, Bool, List, [], ◌∷◌, ◌++◌, get_or, refl, ap, ◌∙◌, arith}
use Rattle.std.proofs.lemmas.List.{map-append}
use Rattle.mig.specs.declared.network.Gate.{Gate}
use Rattle.mig.specs.Networks.{Net, size, node, complemented, empty_gate}
use Rattle.cnf.specs.Variables.{Var, S, N, O, Q, each, each_gate, each_fan_in}
use Rattle.cnf.specs.Meaning.{said_without_counts, meaning, gate_of_node, fan_in}
use Rattle.cnf_laws.proofs.Each.{each_push}
use Rattle.assignment_writer.specs.declared.writer.AssignmentWriter.{AssignmentWriter}
use Rattle.assignment_writer.specs.Writing.{Wrote}
use Rattle.assignment_writer.specs.Said.{one_of, said}
use Rattle.assignment_writer.proofs.Parts.{map_each}
use Rattle.assignment_writer.proofs.Writing.{wrote_nothing, wrote_more}

-- nothing is said of no gate
pub no_gate : (s : AssignmentWriter) (n : ℕ) (net : Net) (v : ℕ → List Var) → Wrote s (said n net (each_gate n 0 v)) s
unfolding each
no_gate s n net v = wrote_nothing s

-- what is said of the next gate, which is the node i
pub next_gate : {s t u : AssignmentWriter} (n k i : ℕ) (net : Net) (v : ℕ → List Var) → n + 1 + k ≡ i
    → Wrote s (said n net (each_gate n k v)) t → Wrote t (said n net (v i)) u → Wrote s (said n net (each_gate n (k + 1) v)) u
next_gate n k i net v is h w =
    let m : k + 1 ≡ suc k = omega arith in
    let j : suc n + k ≡ i = omega arith in
    rw (m, each_push (suc n) k v, j, map-append (meaning n (size net) net) (each_gate n k v) (v i)) (wrote_more h w)

-- what is said of all gates
pub all_gates : {s t : AssignmentWriter} (n k r : ℕ) (net : Net) (v : ℕ → List Var) → k ≡ r
    → Wrote s (said n net (each_gate n k v)) t → Wrote s (said n net (each_gate n r v)) t
all_gates n k r net v is h = rw (← is) h

-- what is said of each of three fan-ins
pub three_fan_ins : {s t u v : AssignmentWriter} {xs ys zs : List Bool} (n : ℕ) (net : Net) (f : ℕ → List Var)
    → said n net (f 1) ≡ xs → said n net (f 2) ≡ ys → said n net (f 3) ≡ zs
    → Wrote s xs t → Wrote t ys u → Wrote u zs v → Wrote s (said n net (each_fan_in f)) v
unfolding each
three_fan_ins {s} {t} {u} {v} n net f d e h a b c =
    let m = meaning n (size net) net in
    rw (map-append m (f 1) (f 2 ++ (f 3 ++ [])), map-append m (f 2) (f 3 ++ []), map-append m (f 3) [], d, e, h)
    (wrote_more a (wrote_more b (wrote_more c (wrote_nothing v))))

-- bits of one variable each
pub said_each : (n : ℕ) (net : Net) (a m : ℕ) (v : ℕ → Var) → said n net (each a m (λ j. v j ∷ [])) ≡ each a m (λ j. meaning n (size net) net (v j) ∷ [])
said_each n net a m v = map_each (meaning n (size net) net) a m (λ j. v j ∷ [])

node_said : (n i c : ℕ) (net : Net) (g : Gate) → gate_of_node n net i ≡ g
    → said n net (each 0 i (λ j. S i c j ∷ [])) ≡ one_of i (node (fan_in c g))
unfolding meaning said_without_counts
node_said n i c net g is = said_each n net 0 i (λ j. S i c j) ∙ ap (λ (h : Gate). one_of i (node (fan_in c h))) is

-- which nodes the fan-ins of a gate are
pub nodes_of_gate : {s t u v : AssignmentWriter} (n i : ℕ) (net : Net) (g : Gate) → gate_of_node n net i ≡ g → Wrote s (one_of i (node g.first)) t
    → Wrote t (one_of i (node g.second)) u → Wrote u (one_of i (node g.third)) v
    → Wrote s (said n net (each_fan_in (λ c. each 0 i (λ j. S i c j ∷ [])))) v
nodes_of_gate n i net g is a b c =
    three_fan_ins n net (λ c. each 0 i (λ j. S i c j ∷ []))
    (node_said n i 1 net g is) (node_said n i 2 net g is) (node_said n i 3 net g is) a b c

complement_said : (n i c : ℕ) (net : Net) (g : Gate) → gate_of_node n net i ≡ g
    → said n net (N i c ∷ []) ≡ complemented (fan_in c g) ∷ []
unfolding meaning said_without_counts
complement_said n i c net g is = ap (λ (h : Gate). complemented (fan_in c h) ∷ []) is

-- which fan-ins of a gate are complemented
pub complements_of_gate : {s t u v : AssignmentWriter} (n i : ℕ) (net : Net) (g : Gate) → gate_of_node n net i ≡ g
    → Wrote s (complemented g.first ∷ []) t → Wrote t (complemented g.second ∷ []) u → Wrote u (complemented g.third ∷ []) v
    → Wrote s (said n net (each_fan_in (λ c. N i c ∷ []))) v
complements_of_gate n i net g is a b c =
    three_fan_ins n net (λ c. N i c ∷ [])
    (complement_said n i 1 net g is) (complement_said n i 2 net g is) (complement_said n i 3 net g is) a b c

output_said : (n m : ℕ) (net : Net) → said n net (each 0 m (λ j. O j ∷ []) ++ (Q ∷ [])) ≡ one_of m (node net.output) ++ (complemented net.output ∷ [])
unfolding meaning said_without_counts
output_said n m net =
    map-append (meaning n (size net) net) (each 0 m (λ j. O j ∷ [])) (Q ∷ [])
    ∙ ap (λ (xs : List Bool). xs ++ (complemented net.output ∷ [])) (said_each n net 0 m (λ j. O j))

-- which node the output is, and whether it is complemented
pub output_of : {s t u : AssignmentWriter} (n m : ℕ) (net : Net) → Wrote s (one_of m (node net.output)) t → Wrote t (complemented net.output ∷ []) u
    → Wrote s (said n net (each 0 m (λ j. O j ∷ []) ++ (Q ∷ []))) u
output_of n m net a b = rw (output_said n m net) (wrote_more a b)

-- the gate at a place, by its node
pub gate_at_node : (n k i : ℕ) (net : Net) (gs : List Gate) → gs ≡ net.gates → n + 1 + k ≡ i → gate_of_node n net i ≡ get_or gs k empty_gate
gate_at_node n k i net gs is at =
    let j : i - suc n ≡ k = omega arith in
    rw (j, is) refl

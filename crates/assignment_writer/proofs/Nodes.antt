-- The values and levels of the nodes of a well-formed network.
use Rattle.std.proofs.Common.{◌≡◌, ℕ, ◌+◌, ◌*◌, ◌/◌, ◌%◌, ◌^◌, ◌<◌, ◌≤◌, Bool, false, List, [], ◌∷◌, length, get_or, replicate, None, refl, sym, ap, ◌∙◌, arith, zero-add, pow_mono}
use Rattle.std.proofs.lemmas.Bool.{ne_eqb}
use Rattle.std.proofs.lemmas.Nat.{one_shl}
use Rattle.mig.specs.declared.network.Gate.{Gate}
use Rattle.mig.specs.declared.network.Network.{Network}
use Rattle.mig.specs.Networks.{Net, Kind, Formed, GateBelow, size, net_of, node, complemented, empty_gate, bits, levels, value_at, walk}
use Rattle.mig.specs.Tables.{bit_at, table_from}
use Rattle.mig.specs.Questions.{row_start}
use Rattle.mig.specs.Rules.{form_refusal}
use Rattle.mig_laws.proofs.Refusals.{formed_not_refused}
use Rattle.mig_laws.proofs.Tables.{bit_at_table}
use Rattle.mig_laws.proofs.Steps.{ordered_at}
use Rattle.cnf.specs.Variables.{A, B, H, each, each_fan_in, each_row}
use Rattle.cnf.specs.Meaning.{said_without_counts, meaning, gate_of_node, fan_in}
use Rattle.assignment_writer.specs.declared.writer.AssignmentWriter.{AssignmentWriter}
use Rattle.assignment_writer.specs.Writing.{Wrote}
use Rattle.assignment_writer.specs.Said.{below, first_bits, said, IsFormed}
use Rattle.assignment_writer.proofs.Parts.{each_same}
use Rattle.assignment_writer.proofs.Said.{three_fan_ins, said_each}

-- a well-formed network with another output is not refused
pub not_refused : (n code : ℕ) (network other : Network) → IsFormed n network → node code < n + 1 + size (net_of network)
    → other ≡ record network { output = code } → form_refusal n other ≡ None
not_refused n code network other h below is =
    let formed : Formed n (net_of (record network { output = code })) = record { gates = h.formed.gates; output = below } in
    rw is (formed_not_refused n (record network { output = code }) h.inputs h.gates formed)

-- the rows of a column are its first bits
pub rows_of_column : (n : ℕ) (f : ℕ → Bool) → n ≤ 4 → first_bits (2 ^ n) (table_from 16 0 f) ≡ each_row n (λ t. f t ∷ [])
rows_of_column n f few =
    let m : 2 ^ n ≤ 16 = pow_mono {j = 4} few in
    each_same 0 (2 ^ n) (λ t. bit_at (table_from 16 0 f) t ∷ []) (λ t. f t ∷ [])
    (λ t l. ap (λ (b : Bool). b ∷ []) (bit_at_table 16 0 f t (omega arith) ∙ ap f (zero-add t)))

-- how many rows there are
pub shifted : (n : ℕ) → n ≤ 4 → (1 * 2 ^ n) % 18446744073709551616 ≡ 2 ^ n
shifted n few = one_shl n 64 (omega arith)

-- the fan-ins of a gate are nodes
pub fan_ins_are_nodes : (n k : ℕ) (net : Net) (gs : List Gate) → Formed n net → gs ≡ net.gates → k < length gs
    → GateBelow (n + 1 + size net) (get_or gs k empty_gate)
fan_ins_are_nodes n k net gs h is l =
    let within : k < size net = rw (← is) l in
    let below = ordered_at (n + 1) k net.gates h.gates within in
    rw is (omega (arith, below.0), omega (arith, below.1), omega (arith, below.2))

-- a plain code has the value of its node
plain_code : {V : Type 0} (kind : Kind V) (vs : List V) (j : ℕ) → value_at kind vs (2 * j) ≡ get_or vs j kind.constant
plain_code kind vs j =
    let place : (2 * j) / 2 ≡ j = omega arith in
    let plain : complemented (2 * j) ≡ false = ne_eqb ((2 * j) % 2) 1 (λ e. omega arith) in
    rw (plain, place) refl

-- the values of a code in the rows
abbrev values_of_code : ℕ → Net → ℕ → List Bool
values_of_code n net code = each_row n (λ t. value_at bits (walk bits (row_start n t) net.gates) code ∷ [])

value_said : (n i c : ℕ) (net : Net) (g : Gate) → gate_of_node n net i ≡ g → said n net (each_row n (λ t. A i c t ∷ [])) ≡ values_of_code n net (fan_in c g)
unfolding meaning said_without_counts
value_said n i c net g is = said_each n net 0 (2 ^ n) (λ t. A i c t) ∙ ap (λ (h : Gate). values_of_code n net (fan_in c h)) is

-- the values of the fan-ins of a gate
pub values_of_gate : {s t u v : AssignmentWriter} {xs ys zs : List Bool} (n i : ℕ) (net : Net) (g : Gate) → gate_of_node n net i ≡ g
    → xs ≡ values_of_code n net g.first → ys ≡ values_of_code n net g.second → zs ≡ values_of_code n net g.third
    → Wrote s xs t → Wrote t ys u → Wrote u zs v
    → Wrote s (said n net (each_fan_in (λ c. each_row n (λ t. A i c t ∷ [])))) v
values_of_gate n i net g is d e h a b c =
    three_fan_ins n net (λ c. each_row n (λ t. A i c t ∷ []))
    (value_said n i 1 net g is ∙ sym d) (value_said n i 2 net g is ∙ sym e) (value_said n i 3 net g is ∙ sym h) a b c

-- the values of a gate
pub gate_values_said : (n i : ℕ) (net : Net) → said n net (each_row n (λ t. B i t ∷ [])) ≡ values_of_code n net (2 * i)
unfolding meaning said_without_counts
gate_values_said n i net =
    said_each n net 0 (2 ^ n) (λ t. B i t)
    ∙ each_same 0 (2 ^ n) _ _ (λ t l. ap (λ (b : Bool). b ∷ []) (sym (plain_code bits (walk bits (row_start n t) net.gates) i)))

-- which levels the level of a gate exceeds
pub levels_said : (n i m : ℕ) (net : Net)
    → said n net (each 0 m (λ e. H i e ∷ [])) ≡ below m (value_at levels (walk levels (replicate (n + 1) 0) net.gates) (2 * i))
unfolding meaning said_without_counts
levels_said n i m net =
    said_each n net 0 m (λ e. H i e)
    ∙ ap (λ (x : ℕ). below m x) (sym (plain_code levels (walk levels (replicate (n + 1) 0) net.gates) i))

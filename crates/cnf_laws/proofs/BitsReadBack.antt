-- The bits of a network read back as the network itself.
use Rattle.std.proofs.Common.{◌≡◌, ℕ, suc, ◌+◌, ◌-◌, ◌<◌, ◌≤◌, Bool, eqb, List, map, get_or, refl, sym, ap, ◌∙◌, arith}
use Rattle.std.proofs.lemmas.Bool.{eq-eqb, eqb-true}
use Rattle.std.proofs.lemmas.List.{ext_get_or}
use Rattle.mig.specs.declared.network.Gate.{Gate}
use Rattle.mig.specs.declared.question.Question.{Question}
use Rattle.mig.specs.Networks.{Net, size, node, complemented, empty_gate, Formed}
use Rattle.cnf.specs.Variables.{S, N, O, Q}
use Rattle.cnf.specs.Meaning.{Assignment, pick, code, read_gate, read_gates, read_net, gate_of_node, fan_in, said_without_counts, meaning}
use Rattle.cnf.specs.Numbers.{question_variables, told, read_bits}
use Rattle.cnf_laws.proofs.ExactlyOne.{pick_passes}
use Rattle.cnf_laws.proofs.Codes.{code_again}
use Rattle.cnf_laws.proofs.Equations.{gate_below}
use Rattle.cnf_laws.proofs.ReadBack.{length-read_gates, read_gates_at}
use Rattle.cnf_laws.proofs.Contained.{has_S, has_N, has_O, has_Q}
use Rattle.cnf_laws.proofs.Numbered.{told_again}

-- a code of a node below m, told by its node and its complement
code_told : (m c : ℕ) (p : ℕ → Bool) (b : Bool) → node c < m → ((j : ℕ) → j < m → p j ≡ eqb (node c) j) → b ≡ complemented c
    → code (pick m p) b ≡ c
code_told m c p b l h e =
    let w = pick_passes m p (node c) l (h (node c) l ∙ eq-eqb (node c) (node c) refl) in
    let k : pick m p ≡ node c = sym (eqb-true (node c) (pick m p) (sym (h (pick m p) w.0) ∙ w.1)) in
    rw (k, e) (code_again c)

same_gate : {a b c x y z : ℕ} → a ≡ x → b ≡ y → c ≡ z
    → ◌≡◌ {A = Gate} (record { first = a; second = b; third = c }) (record { first = x; second = y; third = z })
same_gate p q s = rw (p, q, s)

same_net : {gs hs : List Gate} {o p : ℕ} → gs ≡ hs → o ≡ p → ◌≡◌ {A = Net} (record { gates = gs; output = o }) (record { gates = hs; output = p })
same_net e f = rw (e, f)

-- the assignment says the fan-ins and the output of a network of r gates
record SaysNodes (n r : ℕ) (net : Net) (s : Assignment) : Type 0 where
  fan_ins : (i c j : ℕ) → n < i → i < suc n + r → 1 ≤ c → c < 4 → j < i → s (S i c j) ≡ eqb (node (fan_in c (gate_of_node n net i))) j
  complements : (i c : ℕ) → n < i → i < suc n + r → 1 ≤ c → c < 4 → s (N i c) ≡ complemented (fan_in c (gate_of_node n net i))
  output : (j : ℕ) → j < suc n + r → s (O j) ≡ eqb (node net.output) j
  complement : s Q ≡ complemented net.output

-- an assignment that says the nodes of a network reads back as the network
read_again : (n r : ℕ) (net : Net) (s : Assignment) → size net ≡ r → Formed n net → SaysNodes n r net s → read_net n r s ≡ net
read_again n r net s e f h = same_net gates (code_told (suc n + r) net.output _ _ (omega (arith, f.output)) h.output h.complement)
  where
    gate : (i : ℕ) → n < i → i < suc n + r → read_gate s i ≡ gate_of_node n net i
    gate i a b =
        let w = gate_below n net i f a (omega arith) in
        let at = λ (c : ℕ) (u : 1 ≤ c) (v : c < 4) (l : node (fan_in c (gate_of_node n net i)) < i).
        code_told i (fan_in c (gate_of_node n net i)) (λ j. s (S i c j)) (s (N i c)) l (λ j z. h.fan_ins i c j a b u v z) (h.complements i c a b u v) in
        same_gate (at 1 (omega arith) (omega arith) w.0) (at 2 (omega arith) (omega arith) w.1) (at 3 (omega arith) (omega arith) w.2)

    gates : read_gates s (suc n) r ≡ net.gates
    gates =
        ext_get_or empty_gate _ _ (length-read_gates s (suc n) r ∙ sym e) (λ p l.
        let b : p < r = omega (arith, length-read_gates s (suc n) r) in
        let q : suc n + p - suc n ≡ p = omega arith in
        read_gates_at s (suc n) r p (suc n + p) b refl ∙ gate (suc n + p) (omega arith) (omega arith)
        ∙ ap (λ x. get_or net.gates x empty_gate) q)

-- the bits of a well-formed network of r gates read back as the network
pub bits_read_back : (q : Question) (r : ℕ) (net : Net) → 1 ≤ q.limits.fan_out → size net ≡ r → Formed q.inputs net
    → read_bits q r (map (meaning q.inputs r net) (question_variables q r)) ≡ net
unfolding meaning said_without_counts
bits_read_back q r net some e f =
    let n = q.inputs in
    let d = q.limits.depth in
    let u = q.limits.fan_out in
    let s = meaning n r net in
    read_again n r net (told q r (map s (question_variables q r))) e f (record {
      fan_ins = λ i c j a b l v w. told_again q r s (S i c j) (has_S n d u r i c j a b l v w);
      complements = λ i c a b l v. told_again q r s (N i c) (has_N n d u r i c a b l v);
      output = λ j w. told_again q r s (O j) (has_O n d u r j w);
      complement = told_again q r s Q (has_Q n d u r);
    })

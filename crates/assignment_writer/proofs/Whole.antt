-- The variables of all kinds, one kind behind another, written from the beginning of a buffer.
use Rattle.std.proofs.Common.{◌≡◌, ℕ, ◌+◌, ◌-◌, ◌<◌, ◌≤◌, Bool, cond, List, [], ◌∷◌, ◌++◌, map, length, take, drop, replicate, None, Ok, refl, sym, ap, ◌∙◌, ap₂, subst, append_assoc, zero-add, arith}
use Rattle.std.proofs.lemmas.Bool.{lt-ltb, le-ltb}
use Rattle.std.proofs.lemmas.List.{map-append, length-append, length-map, length-take, length-replicate, set_at, take_at, replicate-append-replicate}
use Rattle.mig.specs.declared.network.Gate.{Gate}
use Rattle.mig.specs.declared.network.Network.{Network}
use Rattle.mig.specs.declared.question.Question.{Question}
use Rattle.mig.specs.Networks.{Net, Formed, net_of, size, empty_gate}
use Rattle.mig.specs.Rules.{examine_refusal}
use Rattle.cnf.specs.Variables.{Var, Q, all_S, all_N, all_A, all_B, all_O, all_H, all_K, variables}
use Rattle.cnf.specs.Meaning.{padded, meaning}
use Rattle.cnf.specs.Numbers.{question_variables}
use Rattle.cnf.specs.Rules.{network_bits, bytes_of_bits, written_over, buffer_after, writing_refusal, writing_answer}
use Rattle.cnf_laws.proofs.Padded.{size_padded, formed_padded}
use Rattle.assignment_writer.specs.declared.writer.AssignmentWriter.{AssignmentWriter}
use Rattle.assignment_writer.specs.Writing.{Writing, with_bits, writing, Wrote}
use Rattle.assignment_writer.specs.Said.{said, IsFormed}
use Rattle.assignment_writer.proofs.Writing.{wrote_more}

-- variables behind variables
variables_more : {s t u : AssignmentWriter} (n : ℕ) (net : Net) (xs ys : List Var) → Wrote s (said n net xs) t → Wrote t (said n net ys) u
    → Wrote s (said n net (xs ++ ys)) u
variables_more n net xs ys h k = rw (map-append (meaning n (size net) net) xs ys) (wrote_more h k)

-- all kinds of variables
pub all_kinds : {a b c d e g h k : AssignmentWriter} (n depth f : ℕ) (net : Net)
    → Wrote a (said n net (all_S n (size net))) b
    → Wrote b (said n net (all_N n (size net))) c
    → Wrote c (said n net (all_A n (size net))) d
    → Wrote d (said n net (all_B n (size net))) e
    → Wrote e (said n net (all_O n (size net) ++ (Q ∷ []))) g
    → Wrote g (said n net (all_H n depth (size net))) h
    → Wrote h (said n net (all_K n f (size net))) k
    → Wrote a (said n net (variables n depth f (size net))) k
unfolding variables
all_kinds {e = e} {k = k} n depth f net nodes complements fan_ins gates output levels counts =
    let r = size net in
    let later = all_H n depth r ++ all_K n f r in
    let from_output : Wrote e (said n net (all_O n r ++ (Q ∷ later))) k =
    subst (λ vs. Wrote e (said n net vs) k) (append_assoc (all_O n r) (Q ∷ []) later)
    (variables_more n net (all_O n r ++ (Q ∷ [])) later output
    (variables_more n net (all_H n depth r) (all_K n f r) levels counts)) in
    variables_more n net (all_S n r) _ nodes
    (variables_more n net (all_N n r) _ complements
    (variables_more n net (all_A n r) _ fan_ins
    (variables_more n net (all_B n r) _ gates from_output)))

same_writing : {xs ys : List ℕ} {p q : ℕ} → xs ≡ ys → p ≡ q → ◌≡◌ {A = Writing} (record { bytes = xs; place = p }) (record { bytes = ys; place = q })
same_writing e h = rw (e, h)

-- bits written behind bytes that stand
with_bits_behind : (bits : List Bool) (xs ys : List ℕ) (place : ℕ) → length xs ≡ place → length bits ≤ length ys
    → with_bits (record { bytes = xs ++ ys; place = place }) bits
    ≡ record { bytes = xs ++ (bytes_of_bits bits ++ drop (length bits) ys); place = place + length bits }
unfolding with_bits
with_bits_behind [] xs ys place at room = same_writing refl (omega arith)
with_bits_behind (bit ∷ bits) xs [] place at room = absurd (omega arith)
with_bits_behind (bit ∷ bits) xs (y ∷ ys) place at room =
    let b : ℕ = cond bit 1 0 in
    let inside : place < length (xs ++ (y ∷ ys)) = omega (arith, length-append xs (y ∷ ys)) in
    let next : xs ++ (b ∷ ys) ≡ (xs ++ (b ∷ [])) ++ ys = sym (append_assoc xs (b ∷ []) ys) in
    let long : length (xs ++ (b ∷ [])) ≡ place + 1 = omega (arith, length-append xs (b ∷ [])) in
    let later = with_bits_behind bits (xs ++ (b ∷ [])) ys (place + 1) long (omega arith) in
    rw (lt-ltb place (length (xs ++ (y ∷ ys))) inside, set_at xs y ys b place at, next)
    (later ∙ same_writing (append_assoc xs (b ∷ []) (bytes_of_bits bits ++ drop (length bits) ys)) (omega arith))

-- bits written from the beginning of a buffer
from_beginning : (bits : List Bool) (before after : AssignmentWriter) → before.place ≡ 0 → length bits ≤ length before.buffer.now
    → Wrote before bits after
    → (after.buffer.now ≡ written_over (bytes_of_bits bits) before.buffer.now) × (after.place ≡ length bits)
from_beginning bits before after start room h =
    let begins : writing before ≡ record { bytes = [] ++ before.buffer.now; place = 0 } = same_writing refl start in
    let e = h.written ∙ ap (λ (w : Writing). with_bits w bits) begins ∙ with_bits_behind bits [] before.buffer.now 0 refl room in
    let bytes : length (bytes_of_bits bits) ≡ length bits = length-map bits (λ b. cond b 1 0) in
    (rw bytes (ap (λ (w : Writing). w.bytes) e), ap (λ (w : Writing). w.place) e ∙ zero-add (length bits))

-- places that hold a network's gates, and 0 behind them, hold the padded gates
pub gates_padded : (gs : List Gate) (r : ℕ) → length gs ≤ r → r ≤ 7
    → take r (gs ++ replicate (7 - length gs) empty_gate) ≡ gs ++ replicate (r - length gs) empty_gate
gates_padded gs r few within =
    let split : 7 - length gs ≡ (r - length gs) + (7 - r) = omega arith in
    let idle = replicate (r - length gs) empty_gate in
    let long : length (gs ++ idle) ≡ r = omega (arith, length-append gs idle, length-replicate (r - length gs) empty_gate) in
    rw (split, ← replicate-append-replicate (r - length gs) (7 - r) empty_gate, ← append_assoc gs idle (replicate (7 - r) empty_gate))
    (take_at (gs ++ idle) (replicate (7 - r) empty_gate) r long)

-- a padded network that stands in places is well-formed
pub padded_formed : (q : Question) (r : ℕ) (network placed : Network) → r ≤ 7 → network.count ≤ r → placed.count ≡ r
    → net_of placed ≡ padded r (net_of network) → q.inputs ≤ 4 → Formed q.inputs (net_of network) → IsFormed q.inputs placed
padded_formed q r network placed few fewer number behind inputs formed =
    let net = net_of network in
    let own : size net ≤ r = omega (arith, length-take network.count network.gates) in
    record {
      inputs = inputs;
      gates = omega arith;
      counted = ap size behind ∙ size_padded r net own ∙ sym number;
      formed = subst (Formed q.inputs) (sym behind) (formed_padded q.inputs r net formed);
    }

-- nothing is refused
pub writing_not_refused : (q : Question) (r : ℕ) (network : Network) (room : ℕ) → examine_refusal q network ≡ None → r ≤ 7 → network.count ≤ r
    → length (question_variables q r) ≤ room → writing_refusal q r network room ≡ None
writing_not_refused q r network room none few fewer long =
    rw (none, le-ltb 7 r few, le-ltb r network.count fewer, le-ltb room (length (question_variables q r)) long) refl

bits_of_padded : (q : Question) (r : ℕ) (network placed : Network) → size (net_of placed) ≡ r → net_of placed ≡ padded r (net_of network)
    → said q.inputs (net_of placed) (question_variables q (size (net_of placed))) ≡ network_bits q r network
bits_of_padded q r network placed counted behind =
    ap₂ (λ (k : ℕ) (net : Net). map (meaning q.inputs k net) (question_variables q k)) counted behind

-- the answer and the bytes once what the variables say of the padded network is written from the beginning of a buffer
pub written_by_the_rule : (q : Question) (r : ℕ) (network placed : Network) (before after : AssignmentWriter) → placed.count ≡ r
    → net_of placed ≡ padded r (net_of network) → IsFormed q.inputs placed → before.place ≡ 0
    → writing_refusal q r network (length before.buffer.now) ≡ None → length (question_variables q r) ≤ length before.buffer.now
    → Wrote before (said q.inputs (net_of placed) (question_variables q (size (net_of placed)))) after
    → (Ok after.place ≡ writing_answer q r network (length before.buffer.now))
    × (after.buffer.now ≡ buffer_after (writing_refusal q r network (length before.buffer.now)) (bytes_of_bits (network_bits q r network)) before.buffer.now)
written_by_the_rule q r network placed before after number behind formed start none long h =
    let bits = network_bits q r network in
    let said_is = bits_of_padded q r network placed (formed.counted ∙ number) behind in
    let count : length bits ≡ length (question_variables q r) = length-map (question_variables q r) (meaning q.inputs r (padded r (net_of network))) in
    let w = from_beginning bits before after start (omega arith) (subst (λ (bs : List Bool). Wrote before bs after) said_is h) in
    (rw none (ap Ok (w.1 ∙ count)), rw none w.0)

-- from one to another through a third
pub through : {A : Type 0} {x z : A} (y : A) → x ≡ y → y ≡ z → x ≡ z
through y e h = e ∙ h

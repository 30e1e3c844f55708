-- The uses of a node, counted one after another.
use Rattle.std.proofs.Common.{◌≡◌, ℕ, zero, suc, ◌+◌, ◌-◌, ◌*◌, ◌<◌, ◌≤◌, Bool, cond, leb, sum, List, [], ◌∷◌, ◌++◌, map, length, get_or, take, drop, refl, sym, ap, ◌∙◌, subst, append_assoc, append-nil, zero-add, arith}
use Rattle.std.proofs.lemmas.List.{map-append, length-append, take_more, take_at, take_all, length-drop, drop_all}
use Rattle.std.proofs.lemmas.Bool.{lt-ltb, le-ltb}
use Rattle.std.proofs.lemmas.List.Sums.{sum_by-cons, sum_by_push}
use Rattle.std.proofs.Math.Seq.{drop-cons}
use Rattle.mig.specs.declared.network.Gate.{Gate}
use Rattle.mig.specs.Networks.{Net, size, names, empty_gate}
use Rattle.cnf.specs.Variables.{Var, S, O, K, each, uses_of, outnumber}
use Rattle.cnf.specs.Meaning.{Assignment, count, said_without_counts, meaning}
use Rattle.cnf_laws.proofs.Each.{length_uses}
use Rattle.cnf_laws.proofs.Uses.{count-append}
use Rattle.assignment_writer.specs.declared.writer.AssignmentWriter.{AssignmentWriter}
use Rattle.assignment_writer.specs.Writing.{Wrote}
use Rattle.assignment_writer.specs.Said.{below, said}
use Rattle.assignment_writer.specs.Uses.{names_in, counted}
use Rattle.assignment_writer.proofs.Writing.{wrote_nothing, wrote_more}
use Rattle.assignment_writer.proofs.Parts.{map_each, each_same, each_later}
use Rattle.assignment_writer.proofs.Said.{said_each, gate_at_node}

-- uses behind uses
names_in-append : (j : ℕ) (xs ys : List Gate) → names_in j (xs ++ ys) ≡ names_in j xs ++ names_in j ys
unfolding names_in
names_in-append j [] ys = refl
names_in-append j (g ∷ xs) ys =
    ap (λ us. names j g.first ∷ (names j g.second ∷ (names j g.third ∷ us))) (names_in-append j xs ys)

-- the uses by one gate more
pub names_in_more : (j i : ℕ) (gs : List Gate) → i < length gs
    → names_in j (take (i + 1) gs)
    ≡ names_in j (take i gs)
    ++ (names j (get_or gs i empty_gate).first ∷ (names j (get_or gs i empty_gate).second ∷ (names j (get_or gs i empty_gate).third ∷ [])))
unfolding names_in
names_in_more j i gs l =
    ap (names_in j) (take_more gs i empty_gate l) ∙ names_in-append j (take i gs) (get_or gs i empty_gate ∷ [])

counted-append : (f c : ℕ) (xs ys : List ℕ) → counted f c (xs ++ ys) ≡ counted f c xs ++ counted f (c + sum xs) ys
unfolding counted
counted-append f c [] ys = let e : c ≡ c + 0 = omega arith in ap (λ (k : ℕ). counted f k ys) e
counted-append f c (x ∷ xs) ys =
    let e : c + x + sum xs ≡ c + sum (x ∷ xs) = omega (arith, sum_by-cons (λ k. k) x xs) in
    ap (λ bits. below f (c + x) ++ bits) (counted-append f (c + x) xs ys ∙ ap (λ (k : ℕ). counted f (c + x) xs ++ counted f k ys) e)
    ∙ sym (append_assoc (below f (c + x)) (counted f (c + x) xs) (counted f (c + sum (x ∷ xs)) ys))

-- what is written so far, and how many of the uses have been
pub record Counted (f : ℕ) (uses : List ℕ) (before : AssignmentWriter) (count : ℕ) (after : AssignmentWriter) : Type 0 where
  pub count_is : count ≡ sum uses
  pub written : Wrote before (counted f 0 uses) after

-- nothing is counted
pub counted_none : (s : AssignmentWriter) (f j : ℕ) → Counted f (names_in j []) s 0 s
unfolding counted names_in
counted_none s f j = record { count_is = refl; written = wrote_nothing s }

-- a use more
pub use_more : {s t u : AssignmentWriter} {f c d : ℕ} {us : List ℕ} (x : ℕ) → Counted f us s c t → d ≡ c + x → Wrote t (below f (c + x)) u
    → Counted f (us ++ (x ∷ [])) s d u
unfolding counted
use_more {s} {t} {u} {f} {c} {d} {us} x h is w =
    record {
      count_is = omega (arith, h.count_is, sum_by_push (λ k. k) us x);
      written = rw (counted-append f 0 us (x ∷ []), append-nil (below f (0 + sum us + x)), zero-add (sum us), ← h.count_is) (wrote_more h.written w);
    }

-- the uses by a gate more
pub gate_more : {s t u v w : AssignmentWriter} {f c d e h : ℕ} (j i : ℕ) (gs : List Gate) → i < length gs
    → Counted f (names_in j (take i gs)) s c t
    → d ≡ c + names j (get_or gs i empty_gate).first → Wrote t (below f (c + names j (get_or gs i empty_gate).first)) u
    → e ≡ d + names j (get_or gs i empty_gate).second → Wrote u (below f (d + names j (get_or gs i empty_gate).second)) v
    → h ≡ e + names j (get_or gs i empty_gate).third → Wrote v (below f (e + names j (get_or gs i empty_gate).third)) w
    → Counted f (names_in j (take (i + 1) gs)) s h w
gate_more {s} {t} {u} {v} {w} {f} {c} {d} {e} {h} j i gs l so_far d_is a e_is b h_is k =
    let x = names j (get_or gs i empty_gate).first in
    let y = names j (get_or gs i empty_gate).second in
    let z = names j (get_or gs i empty_gate).third in
    let us = names_in j (take i gs) in
    let three : ((us ++ (x ∷ [])) ++ (y ∷ [])) ++ (z ∷ []) ≡ names_in j (take (i + 1) gs) = simp append_assoc (sym (names_in_more j i gs l)) in
    subst (λ xs. Counted f xs s h w) three (use_more z (use_more y (use_more x so_far d_is a) e_is b) h_is k)

-- 1 where a variable holds, else 0
abbrev one : Assignment → Var → ℕ
one s v = cond (s v) 1 0

count-push : (s : Assignment) (xs : List Var) (v : Var) → count s (xs ++ (v ∷ [])) ≡ count s xs + one s v
unfolding count
count-push s xs v = omega (arith, count-append s xs (v ∷ []))

-- which of the numbers from 1 up to f the count of the first k uses has reached
abbrev reached : ℕ → Assignment → List Var → ℕ → List Bool
reached f s us k = each 1 f (λ q. leb q (count s (take k us)) ∷ [])

reached_next : (f : ℕ) (s : Assignment) (xs ys : List Var) (v : Var) → reached f s (xs ++ (v ∷ ys)) (suc (length xs)) ≡ below f (count s xs + one s v)
reached_next f s xs ys v =
    let split : xs ++ (v ∷ ys) ≡ (xs ++ (v ∷ [])) ++ ys = sym (append_assoc xs (v ∷ []) ys) in
    let long : length (xs ++ (v ∷ [])) ≡ suc (length xs) = omega (arith, length-append xs (v ∷ [])) in
    rw (split, take_at (xs ++ (v ∷ [])) ys (suc (length xs)) long, count-push s xs v)
    (each_later 0 f (λ q. leb q (count s xs + one s v) ∷ []))

reached_by_uses : (f : ℕ) (s : Assignment) (xs ys : List Var)
    → each (suc (length xs)) (length ys) (reached f s (xs ++ ys)) ≡ counted f (count s xs) (map (one s) ys)
unfolding each counted
reached_by_uses f s xs [] = refl
reached_by_uses f s xs (v ∷ ys) =
    let split : xs ++ (v ∷ ys) ≡ (xs ++ (v ∷ [])) ++ ys = sym (append_assoc xs (v ∷ []) ys) in
    let long : length (xs ++ (v ∷ [])) ≡ suc (length xs) = omega (arith, length-append xs (v ∷ [])) in
    let later = rw (count-push s xs v, long, ← split) at (reached_by_uses f s (xs ++ (v ∷ [])) ys) in
    rw (reached_next f s xs ys v, later) refl

-- the uses by the gates from a place on
uses_said : (n j k m i : ℕ) (net : Net) → k + m ≡ size net → n + 1 + k ≡ i
    → map (one (said_without_counts n net)) (each i m (λ i. S i 1 j ∷ S i 2 j ∷ S i 3 j ∷ [])) ≡ names_in j (drop k net.gates)
unfolding each names_in said_without_counts
uses_said n j k zero i net all at =
    let none : drop k net.gates ≡ [] = drop_all k net.gates (omega arith) in
    rw none refl
uses_said n j k (suc m) i net all at =
    let first : drop k net.gates ≡ get_or net.gates k empty_gate ∷ drop (suc k) net.gates = drop-cons net.gates k empty_gate (omega arith) in
    rw (first, gate_at_node n k i net net.gates refl at, uses_said n j (suc k) m (suc i) net (omega arith) (omega arith)) refl

-- the variables K of a gate whose uses outnumber the limit
abbrev counter_variables : ℕ → ℕ → ℕ → ℕ → List Var
counter_variables n f r j = each 1 (length (uses_of n r j)) (λ k. each 1 f (λ q. K j k q ∷ []))

counter_variables_said : (n f j k : ℕ) (net : Net) → n + 1 + k ≡ j → k < size net
    → said n net (counter_variables n f (size net) j) ≡ counted f 0 (names_in j (drop (k + 1) net.gates) ++ (names j net.output ∷ []))
unfolding count meaning said_without_counts
counter_variables_said n f j k net at within =
    let us = uses_of n (size net) j in
    let s = said_without_counts n net in
    let fan_ins = each (suc j) (n + size net - j) (λ i. S i 1 j ∷ S i 2 j ∷ S i 3 j ∷ []) in
    map_each (meaning n (size net) net) 1 (length us) (λ k. each 1 f (λ q. K j k q ∷ []))
    ∙ each_same 1 (length us) _ (reached f s us) (λ k l. said_each n net 1 f (λ q. K j k q))
    ∙ reached_by_uses f s [] us
    ∙ ap (counted f 0)
    (map-append (one s) fan_ins (O j ∷ [])
    ∙ ap (λ (xs : List ℕ). xs ++ (names j net.output ∷ []))
    (uses_said n j (k + 1) (n + size net - j) (suc j) net (omega arith) (omega arith)))

-- the variables K of a gate, if it has some
abbrev variables_if_counted : ℕ → ℕ → ℕ → ℕ → List Var
variables_if_counted n f r j = cond (outnumber n f r j) (counter_variables n f r j) []

-- the uses of a gate that outnumber the limit
pub counters_written : {s t : AssignmentWriter} (n f j k : ℕ) (net : Net) (later : List Gate) → n + 1 + k ≡ j → k < size net
    → drop (k + 1) net.gates ≡ later → f < 3 * length later + 1
    → Wrote s (counted f 0 (names_in j later ++ (names j net.output ∷ []))) t → Wrote s (said n net (variables_if_counted n f (size net) j)) t
counters_written n f j k net later at within is many w =
    let number = ap (λ (gs : List Gate). length gs) is in
    let long : f < length (uses_of n (size net) j) = omega (arith, length_uses n (size net) j, length-drop (k + 1) net.gates) in
    rw (lt-ltb f (length (uses_of n (size net) j)) long, counter_variables_said n f j k net at within, is) w

-- a gate whose uses do not outnumber the limit
pub counters_left_out : (s : AssignmentWriter) (n f j k : ℕ) (net : Net) (later : List Gate) → n + 1 + k ≡ j → k < size net
    → drop (k + 1) net.gates ≡ later → 3 * length later + 1 ≤ f → Wrote s (said n net (variables_if_counted n f (size net) j)) s
counters_left_out s n f j k net later at within is few =
    let number = ap (λ (gs : List Gate). length gs) is in
    let short : length (uses_of n (size net) j) ≤ f = omega (arith, length_uses n (size net) j, length-drop (k + 1) net.gates) in
    rw (le-ltb f (length (uses_of n (size net) j)) short) (wrote_nothing s)

-- the gates behind a place
pub gates_behind : (gs hs : List Gate) (k i : ℕ) → gs ≡ hs → i ≡ k → drop (k + 1) hs ≡ take (length gs - (i + 1)) (drop (i + 1) gs)
gates_behind gs hs k i is at = rw (← is, at) (sym (take_all (length gs - (k + 1)) (drop (k + 1) gs) (omega (arith, length-drop (k + 1) gs))))

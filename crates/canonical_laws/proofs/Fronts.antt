-- A network meets what it met, if its first gates are exchanged for others and the gates behind them are renumbered.
use Rattle.std.proofs.Common.{◌≡◌, ℕ, ◌+◌, ◌<◌, ◌≤◌, false, List, ◌++◌, map, length, get_or, replicate, refl, ◌∙◌, arith, length-append}
use lib.ListN.{length-map, length-replicate, get_or-replicate}
use Rattle.std.specs.List.{AllByRecursion as All}
use Rattle.mig.specs.declared.network.Gate.{Gate}
use Rattle.mig.specs.declared.question.Question.{Question}
use Rattle.mig.specs.Networks.{Net, Kind, node, walk, uses_in, output_value, Ordered, bits, levels}
use Rattle.mig.specs.Questions.{row_start, Meets}
use Rattle.mig_laws.proofs.RowBits.{length-input_bits}
use Rattle.mig_laws.proofs.Walks.{walk-append, length-walk, walk_keeps, uses_in-append, ordered_right, ordered_both}
use Rattle.canonical_laws.proofs.Renumbered.{renumber, renumber_gate, node-renumber, Shifts, shifts_below, renumbered_ordered, renumbered_names, renumbered_uses, Monotone, bits_monotone, levels_monotone, Related, NamesOnly, related_value, related_walk}

-- where the gate j comes from: it was the gate i, no other node becomes j, and the first gates use it no more often than i
pub record Origin (n : ℕ) (σ : ℕ → ℕ) (fs fs' : List Gate) (j i : ℕ) : Type 0 where
  pub gate : n < i
  pub within : (r : ℕ) → j < n + 1 + length fs' + r → i < n + 1 + length fs + r
  pub only : (x : ℕ) → σ x ≡ j → x ≡ i
  pub uses : uses_in j fs' ≤ uses_in i fs

-- the first gates fs of a network over n inputs may be exchanged for fs', where the node j becomes σ j: each node that P
-- holds of keeps its bit in every row, and its level does not rise
pub record Exchanges (n : ℕ) (P : ℕ → Type 0) (σ : ℕ → ℕ) (fs fs' : List Gate) : Type 0 where
  pub ordered : Ordered (n + 1) fs'
  pub shifts : Shifts σ (n + 1 + length fs) (n + 1 + length fs')
  pub bits : (t j : ℕ) → P j → get_or (walk bits (row_start n t) fs') (σ j) false ≡ get_or (walk bits (row_start n t) fs) j false
  pub levels : (j : ℕ) → P j → get_or (walk levels (replicate (n + 1) 0) fs') (σ j) 0 ≤ get_or (walk levels (replicate (n + 1) 0) fs) j 0
  pub origin : (j : ℕ) → n < j → (i : ℕ) × Origin n σ fs fs' j i

-- a network whose gates are in two parts
abbrev pub joined : List Gate → List Gate → ℕ → Net
joined fs gs o = record { gates = fs ++ gs; output = o }

-- the network with its first gates exchanged, and the gates behind renumbered
abbrev pub exchanged : (ℕ → ℕ) → List Gate → List Gate → ℕ → Net
exchanged σ fs' gs o = joined fs' (map (renumber_gate σ) gs) (renumber σ o)

-- the value of the output may be replaced, if the values of the first nodes may
exchanged_output : {V : Type 0} (k : Kind V) (R : V → V → Type 0) → Monotone k R → (P : ℕ → Type 0) (σ : ℕ → ℕ) (m : ℕ) (vs : List V) (fs fs' gs : List Gate) (o : ℕ)
    → length vs ≡ m → 0 < m → get_or vs 0 k.constant ≡ k.constant → Shifts σ (m + length fs) (m + length fs')
    → ((j : ℕ) → P j → R (get_or (walk k vs fs) j k.constant) (get_or (walk k vs fs') (σ j) k.constant))
    → All (NamesOnly P) gs → P (node o)
    → R (output_value k vs (joined fs gs o)) (output_value k vs (exchanged σ fs' gs o))
exchanged_output k R c P σ m vs fs fs' gs o e some constant shifts each named p =
    let us = walk k vs fs in
    let ws = walk k vs fs' in
    let l : length us ≡ m + length fs = rw (length-walk k vs fs, e) in
    let l' : length ws ≡ m + length fs' = rw (length-walk k vs fs', e) in
    let front : Related k R P σ us ws =
    record {
      some = omega arith;
      constant = walk_keeps k vs fs' k.constant 0 (omega arith) ∙ constant;
      shifts = rw (l, l') shifts;
      each = each;
    } in
    rw (walk-append k vs fs gs, walk-append k vs fs' (map (renumber_gate σ) gs))
    (related_value k R c P σ (walk k us gs) (walk k ws (map (renumber_gate σ) gs)) (related_walk k R c P σ us ws front gs named) o p)

-- the exchanged network meets the questions that the network meets
pub exchanged_meets : (q : Question) (P : ℕ → Type 0) (σ : ℕ → ℕ) (fs fs' gs : List Gate) (o : ℕ) → Exchanges q.inputs P σ fs fs' → All (NamesOnly P) gs → P (node o)
    → Meets q (joined fs gs o) → Meets q (exchanged σ fs' gs o)
exchanged_meets q P σ fs fs' gs o x named p h =
    let n = q.inputs in
    let m = n + 1 + length fs in
    let m' = n + 1 + length fs' in
    let gs' = map (renumber_gate σ) gs in
    let a = length-append fs gs in
    let b = length-append fs' gs' in
    let c = length-map gs (renumber_gate σ) in
    record {
      formed = record {
        gates =
            ordered_both (n + 1) m' fs' gs' refl x.ordered
            (renumbered_ordered σ m m' (omega arith) x.shifts gs (ordered_right (n + 1) m fs gs refl h.formed.gates));
        output = rw (node-renumber σ o, b, c) (omega (arith, shifts_below x.shifts (length gs) (node o) (omega (arith, h.formed.output))));
      };
      computes = λ t l.
          exchanged_output bits _ bits_monotone P σ (n + 1) (row_start n t) fs fs' gs o (let e = length-input_bits n t in omega arith) (omega arith) refl x.shifts (x.bits t) named p
          ∙ h.computes t l;
      within = record {
        level =
            let l = h.within.level in
            let e = exchanged_output levels _ levels_monotone P σ (n + 1) (replicate (n + 1) 0) fs fs' gs o (length-replicate (n + 1) 0) (omega arith) (get_or-replicate (n + 1) 0 0 0 (omega arith)) x.shifts x.levels named p in
            omega arith;
        fan_outs = λ j l r.
            let (i, from) = x.origin j l in
            let u = h.within.fan_outs i from.gate (omega (arith, from.within (length gs) (omega arith))) in
            omega (arith, uses_in-append j fs' gs', uses_in-append i fs gs, from.uses, renumbered_uses σ i j (omega arith) from.only gs, renumbered_names σ i j from.only o);
      };
    }

use Rattle.std.proofs.Common.{◌≡◌, ℕ, ◌<◌, Bool, eqb, [], get_or, sym, inl, inr, arith, eqb→eq}
use Rattle.std.proofs.lemmas.Bool.{cases_lt}
use Rattle.std.proofs.lemmas.List.{get_or-map}
use lib.Bits.{bit_xor}
use Rattle.mig.specs.Rules.{all_below}
use Rattle.mig.specs.Tables.{table_from}
use Rattle.class_laws.specs.Ways.{orders, inverses, source, old_row}
use Rattle.class_laws.proofs.Small.{below}
use Rattle.class_laws.proofs.Carried.{source_below, source_past, old_row_below, inverses_below}
use Rattle.classes.specs.declared.permutation.Permutation.{Permutation}
use Rattle.classes.specs.declared.permutation.TheConstants.{PERMUTATIONS}
use Rattle.classes.specs.Permutations.{IsPermutation}
use Rattle.classes.proofs.permutation.Permutation.numbered.Goals as goal

-- the rows that are listed, tested against the rule
row_test : Permutation → ℕ → ℕ → ℕ → Bool
row_test d k m t = eqb (bit_xor (get_or (get_or PERMUTATIONS k d).rows t 0) m) (old_row k m t)

rows_are : (d : Permutation) (k m t : ℕ) → k < 24 → m < 16 → t < 16 → bit_xor (get_or (get_or PERMUTATIONS k d).rows t 0) m ≡ old_row k m t
unfolding row_test old_row table_from all_below
rows_are d k m t a b c =
    eqb→eq (bit_xor (get_or (get_or PERMUTATIONS k d).rows t 0) m) (old_row k m t)
    (below 16 (row_test d k m)
    (below 16 (λ j. all_below 16 (row_test d k j)) (below 24 (λ i. all_below 16 (λ j. all_below 16 (row_test d i j))) tt k a) m b)
    t
    c)

source_fits : (k a : ℕ) → k < 24 → source k a < 4
source_fits k a h = elim (cases_lt a 4) [ inl l ↦ source_below k a h l | inr g ↦ omega (arith, source_past k a h g) ]

listed : (d : Permutation) (k : ℕ) → k < 24 → IsPermutation k (get_or PERMUTATIONS k d)
listed d k h =
    let p = get_or PERMUTATIONS k d in
    let s : p.sources ≡ get_or orders k [] = sym (get_or-map (λ (q : Permutation). q.sources) PERMUTATIONS k d [] h) in
    let i : p.inverse ≡ get_or inverses k 0 = sym (get_or-map (λ (q : Permutation). q.inverse) PERMUTATIONS k d 0 h) in
    record {
      sources = s;
      inputs = λ a. rw s (source_fits k a h);
      rows = λ m t a b. rows_are d k m t h a b;
      rows_listed = λ m t a b. omega (arith, rows_are d k m t h a b, old_row_below k m t);
      inverse = i;
      listed = omega (arith, i, inverses_below k h);
    }

pub returns : goal.returns
returns c = rw c.from.ensures (listed (record { sources = []; rows = []; inverse = 0 }) c.args.order c.requires)

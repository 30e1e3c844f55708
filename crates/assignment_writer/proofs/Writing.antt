-- Bits written one behind another.
use Rattle.std.proofs.Common.{◌≡◌, ℕ, suc, ◌+◌, Bool, List, [], ◌∷◌, ◌++◌, refl, sym, ap, ◌∙◌, arith}
use Rattle.cnf.specs.Variables.{each}
use Rattle.cnf_laws.proofs.Each.{each_push}
use Rattle.assignment_writer.specs.declared.writer.AssignmentWriter.{AssignmentWriter}
use Rattle.assignment_writer.specs.Writing.{Writing, with_bit, with_bits, writing, Wrote}

with_more : (w : Writing) (xs ys : List Bool) → with_bits w (xs ++ ys) ≡ with_bits (with_bits w xs) ys
unfolding with_bits
with_more w [] ys = refl
with_more w (x ∷ xs) ys = with_more (with_bit w x) xs ys

-- nothing is written
pub wrote_nothing : (s : AssignmentWriter) → Wrote s [] s
unfolding with_bits
wrote_nothing s = record { same_buffer = refl; written = refl }

-- bits behind bits
pub wrote_more : {s t u : AssignmentWriter} {xs ys : List Bool} → Wrote s xs t → Wrote t ys u → Wrote s (xs ++ ys) u
wrote_more {s} {t} {u} {xs} {ys} h k =
    record {
      same_buffer = k.same_buffer ∙ h.same_buffer;
      written = k.written ∙ ap (λ (w : Writing). with_bits w ys) h.written ∙ sym (with_more (writing s) xs ys);
    }

-- no part of many is written
pub wrote_none : (s : AssignmentWriter) (a : ℕ) (f : ℕ → List Bool) → Wrote s (each a 0 f) s
unfolding each
wrote_none s a f = wrote_nothing s

-- the next part of many, the part i
pub wrote_next : {s t u : AssignmentWriter} (a m i : ℕ) (f : ℕ → List Bool) → a + m ≡ i → Wrote s (each a m f) t → Wrote t (f i) u
    → Wrote s (each a (m + 1) f) u
wrote_next a m i f is h k =
    let n : m + 1 ≡ suc m = omega arith in
    rw (n, each_push a m f, is) (wrote_more h k)

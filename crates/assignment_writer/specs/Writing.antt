-- Bits written as bytes, one behind another.
use Rattle.std.specs.Prelude.{◌≡◌, ℕ, ◌+◌, Bool, cond, List, [], ◌∷◌, length, nat_lt, slice_set}
use Rattle.assignment_writer.specs.declared.writer.AssignmentWriter.{AssignmentWriter}

-- a buffer, and the place that is written next
pub record Writing : Type 0 where
  pub bytes : List ℕ
  pub place : ℕ

-- one bit more, as a byte of 0 or 1; behind the buffer's end nothing is written
abbrev pub with_bit : Writing → Bool → Writing
with_bit w bit =
    cond (nat_lt w.place (length w.bytes))
    (record { bytes = slice_set w.bytes w.place (cond bit 1 0); place = w.place + 1 }) w

-- more bits, one behind another
unfoldable pub with_bits : Writing → List Bool → Writing
with_bits w [] = w
with_bits w (bit ∷ later) = with_bits (with_bit w bit) later

-- what a writer has written
abbrev pub writing : AssignmentWriter → Writing
writing writer = record { bytes = writer.buffer.now; place = writer.place }

-- the writer before has written bits, in the same buffer
pub record Wrote (before : AssignmentWriter) (bits : List Bool) (after : AssignmentWriter) : Type 0 where
  pub same_buffer : after.buffer.ghost_name ≡ before.buffer.ghost_name
  pub written : writing after ≡ with_bits (writing before) bits

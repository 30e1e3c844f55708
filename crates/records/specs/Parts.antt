-- Bytes as parts: record after record, up to the end of the bytes or to the first fault.
use Rattle.std.specs.Prelude.{ℕ, zero, suc, ◌+◌, List, [], ◌∷◌, length, drop, Result, is_ok, if◌then◌else◌}
use Rattle.records.specs.declared.reading.Record.{Record}
use Rattle.records.specs.declared.reader.Part.{Part}
use Rattle.records.specs.declared.reader.Reader.{Reader}
use Rattle.mig.specs.declared.refusal.Refusal.{Refusal}
use Rattle.records.specs.Records.{record_at, record_length}

-- a part: its place, and what was read there
abbrev pub part : ℕ → Result Record Refusal → Part
part place read = record { place = place; «record» = read }

-- the parts of bytes whose first one has this place; each part takes a byte at least, so no more come than there are bytes
unfoldable pub parts : ℕ → ℕ → List ℕ → List Part
parts most place [] = []
parts zero place (b ∷ bytes) = []
parts (suc most) place (b ∷ bytes) =
    part place (record_at (b ∷ bytes))
    ∷ (if is_ok (record_at (b ∷ bytes))
    then parts most (place + record_length (b ∷ bytes)) (drop (record_length (b ∷ bytes)) (b ∷ bytes))
    else [])

-- the parts of bytes whose first one has this place
abbrev pub parts_from : ℕ → List ℕ → List Part
parts_from place bytes = parts (length bytes) place bytes

-- the parts of all bytes
abbrev pub parts_of : List ℕ → List Part
parts_of bytes = parts_from 0 bytes

-- the parts that a reader has left
abbrev pub rest : Reader → List Part
rest reader = parts_from reader.place (drop reader.place reader.bytes.now)

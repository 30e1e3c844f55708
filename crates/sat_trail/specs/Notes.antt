-- The notes: words in parts, each of which begins at a place of its own.
use Rattle.std.specs.Prelude.{ℕ, ◌+◌, List, get_or, set}

-- the word i of the part, and 0 past the end
unfoldable pub note_at : List ℕ → ℕ → ℕ → ℕ
note_at notes part i = get_or notes (part + i) 0

-- the notes with x as the word i of the part, and as they were where that is past the end
unfoldable pub with_note : List ℕ → ℕ → ℕ → ℕ → List ℕ
with_note notes part i x = set notes (part + i) x

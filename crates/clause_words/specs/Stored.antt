-- What words hold of clauses.
use Rattle.std.specs.Prelude.{◌≡◌, ℕ, ◌*◌, ◌<◌, ◌≤◌, List, ◌++◌, All, length, take, slice_index_or}
use Rattle.sat_laws.specs.Formulas.{literal_at}
use Rattle.cnf.specs.Numbers.{Clause}
use Rattle.clause_words.specs.Codes.{IsSmall, codes_of}
use Rattle.clause_words.specs.declared.words.ClauseWords.{ClauseWords}

-- the words and the table of ends hold the clauses: so many, each literal in its place, and behind each clause where it ends
pub record Stores (words ends : List ℕ) (k : ℕ) (cs : List Clause) : Type 0 where
  pub count : k ≡ length cs
  pub bounds : (c : ℕ) → c ≤ length cs → slice_index_or ends c 0 ≡ length (codes_of (take c cs))
  pub literals : (j : ℕ) → j < length (codes_of cs) → literal_at words j ≡ slice_index_or (codes_of cs) j 0

-- there is room for the clauses in tables of so many words and ends, and their variables are small
pub record Fits (words ends : ℕ) (cs : List Clause) : Type 0 where
  pub clauses : length cs < ends
  pub literals : length (codes_of cs) ≤ 2 * words
  pub few : length (codes_of cs) < 4294967296
  pub small : All (All IsSmall) cs

-- t holds the clauses behind those that s holds, if there is room for them, in the same two slices
abbrev pub StoresMore : ClauseWords → List Clause → ClauseWords → Type 0
StoresMore s cs t =
    (t.words.ghost_name ≡ s.words.ghost_name)
    × (t.ends.ghost_name ≡ s.ends.ghost_name)
    × (length t.words.now ≡ length s.words.now)
    × (length t.ends.now ≡ length s.ends.now)
    × ((xs : List Clause) → Stores s.words.now s.ends.now s.clauses xs → Fits (length s.words.now) (length s.ends.now) (xs ++ cs)
    → Stores t.words.now t.ends.now t.clauses (xs ++ cs))

-- How a count of clauses goes on.
use Rattle.std.specs.Prelude.{◌≡◌, ℕ, ◌+◌, ◌<◌, List, [], ◌++◌, length}
use Rattle.std.proofs.Common.{arith}
use Rattle.std.proofs.lemmas.List.{length-append}
use Rattle.cnf.specs.Numbers.{Clause}

-- as long as the counts go into 32 bits, as many more as there are clauses
abbrev pub CountsMore : ℕ → List Clause → ℕ → Type 0
CountsMore x cs y = x + length cs < 4294967296 → y ≡ x + length cs

pub counts_nothing : (x : ℕ) → CountsMore x [] x
counts_nothing x h = omega arith

pub counts_more : (x y z : ℕ) (xs ys : List Clause) → CountsMore x xs y → CountsMore y ys z → CountsMore x (xs ++ ys) z
counts_more x y z xs ys h k l =
    let e = length-append xs ys in
    let a : y ≡ x + length xs = h (omega arith) in
    let b : z ≡ y + length ys = k (omega arith) in
    omega arith

-- The bounds that the support of a table sets.
use Rattle.std.specs.Prelude.{ℕ, ◌+◌, ◌*◌, ◌^◌, Bool, ◌||◌, nat_lt}
use Rattle.mig.specs.declared.question.Question.{Question}
use Rattle.support_laws.specs.Support.{support_size}

-- the table depends on more inputs than a network of r gates, or one within the depth limit, can have in its support
abbrev pub beyond_bounds : Question → ℕ → Bool
beyond_bounds q r =
    nat_lt (2 * r + 1) (support_size q.inputs q.table) || nat_lt (3 ^ q.limits.depth) (support_size q.inputs q.table)

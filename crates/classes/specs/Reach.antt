-- Ways as the code has them.
use Rattle.std.specs.Prelude.{ℕ, Bool}
use Rattle.class_laws.specs.Ways as ways
use Rattle.classes.specs.declared.way.Way.{Way}

-- the way of a permutation, a mask, and whether the output is complemented
abbrev pub by : ℕ → ℕ → Bool → ways.Way
by k m b = record { order = k; mask = m; flipped = b }

-- the way that a value of the code stands for
abbrev pub way_of : Way → ways.Way
way_of w = by w.order w.mask w.flipped

use Rattle.std.proofs.Common.{take}
use Rattle.std.specs.List.{flat_map}
use Rattle.cnf.specs.Text.{literal_text}
use Rattle.clause_text.specs.Writing.{Writes}
use Rattle.clause_text.proofs.writer.write_clause.Given as goal

-- the literals so far are written, if there is room
abbrev pub invariant-loop-literal : goal.invariant-loop-literal
invariant-loop-literal l = Writes (flat_map literal_text (take l.literal-index l.clause)) l.initial.buffer l.place l.buffer l.behind

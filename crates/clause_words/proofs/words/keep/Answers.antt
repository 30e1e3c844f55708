use Rattle.std.proofs.Common.{true, refl, length}
use Rattle.clause_words.proofs.Stored.{stored_more}
use Rattle.clause_words.proofs.words.keep.Goals as goal

pub returns-clause-stored : goal.returns-clause-stored
returns-clause-stored c = λ xs h f.
    stored_more c.args.words.now c.write_literals.new.words c.args.ends.now c.args.clauses xs c.args.clause.now
    (c.if-not-has_room.ensures.0 (refl {a = true})).0 c.write_literals.ensures.before_stay c.write_literals.ensures.written (length c.args.words.now) (length c.args.ends.now) f h

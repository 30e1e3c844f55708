use Rattle.std.proofs.Common.{rules, [], length, set, sym, subst, arith, length-set}
use Rattle.symmetry_laws.specs.Symmetry.{numbered_exact_clauses}
use Rattle.clause_words.specs.Stored.{Stores, Fits}
use Rattle.clause_search.proofs.Room.{stores_none}
use Rattle.clause_search.proofs.exact.fill.Goals as goal

pub returns-clause-stored : goal.returns-clause-stored
returns-clause-stored c =
    let cs = numbered_exact_clauses c.args.question.now c.args.gates in
    let took = c.in_ok-generate_exact.ensures.takes_the_clauses_in_order in
    let same_words = took.0 in
    let same_ends = took.1 in
    let fits : Fits (length c.args.literals.now) (length (set c.args.ends.now 0 0)) cs =
    subst (λ n. Fits (length c.args.literals.now) n cs) (sym (length-set c.args.ends.now 0 0)) c.requires.fits in
    let stored : Stores c.generate_exact.new.sink.words.now c.generate_exact.new.sink.ends.now c.generate_exact.new.sink.clauses cs =
    took.4 [] (stores_none c.args.literals.now c.args.ends.now (omega (arith, c.requires.fits.clauses))) fits in
    search rules

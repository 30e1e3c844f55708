use Rattle.std.proofs.Common.{rules}
use Rattle.std.proofs.lemmas.List.Sorted.{answers_always}
use Rattle.entries.proofs.Searched.{searched}
use Rattle.entries.proofs.entries.Entries.place_of.Goals as goal

-- the closure gives a row's key, and the slice is the rows
pub returns-clause-place : goal.returns-clause-place
returns-clause-place c =
    let facts = c.binary_search_by_key.ensures in
    let by_key = facts.position (λ row. row.key) (answers_always _ _ _ (λ f a r g called. search rules)) in
    let es = c.args.self.now.rows.items in
    searched es c.args.self.now.rising c.args.key _ (rw c.deref.ensures.0 at facts.bound) (rw c.deref.ensures.0 at by_key)

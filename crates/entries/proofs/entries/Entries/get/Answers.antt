use Rattle.entries.proofs.Places.{fits_not_kept}
use Rattle.entries.proofs.Changes.{read_key, read_kept}
use Rattle.entries.proofs.entries.Entries.get.Goals as goal

-- the row at the key's place
pub returns-in-Ok-clause-what_is_kept : goal.returns-in-Ok-clause-what_is_kept
returns-in-Ok-clause-what_is_kept c = read_kept _ _ _ _ _ c.in-Ok.ensures.place c.deref.ensures.0 c.index-deref-place.is

pub returns-in-Ok-clause-of_the_key : goal.returns-in-Ok-clause-of_the_key
returns-in-Ok-clause-of_the_key c = read_key _ _ _ _ _ c.in-Ok.ensures.place c.deref.ensures.0 c.index-deref-place.is

-- a key that has a place between others is not kept
pub returns-in-Err-clause-what_is_kept : goal.returns-in-Err-clause-what_is_kept
returns-in-Err-clause-what_is_kept c = fits_not_kept _ _ _ c.in-Err.ensures.place c.args.self.now.rising

use Rattle.std.proofs.Common.{rules, ◌∙◌}
use Rattle.filing.specs.Filing.{key_of}
use Rattle.collection.proofs.Given.{given_without_refusal}
use Rattle.collection.proofs.giving.give_out.Goals as goal
use Rattle.collection.proofs.giving.give_out.Goals.{In_err-place}

-- carrying out is not refused
not_refused : In_err-place → ⊥
not_refused c =
    let q = c.args.question.now in
    let none = given_without_refusal (key_of q) q c.args.kept c.in-Some.network c.requires.within_bounds c.requires.keepable (search rules) in
    let s = c.in_err-place.ensures.refused_by_the_rule ∙ none in
    cc

pub returns-in_err-place-clause-not_refused : goal.returns-in_err-place-clause-not_refused
returns-in_err-place-clause-not_refused c = absurd (not_refused (goal.at.returns-in_err-place-clause-not_refused c).In_err-place)

pub returns-in_err-place-clause-given_out : goal.returns-in_err-place-clause-given_out
returns-in_err-place-clause-given_out c = absurd (not_refused (goal.at.returns-in_err-place-clause-given_out c).In_err-place)

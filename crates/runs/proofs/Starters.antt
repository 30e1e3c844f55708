-- Each network of the starter set meets the question of its table.
use Rattle.std.proofs.Common.{◌≡◌, None, refl}
use Rattle.std.specs.List.{AllByRecursion}
use Rattle.mig.specs.Networks.{walk, uses_in, greatest}
use Rattle.mig.specs.Questions.{input_bits}
use Rattle.mig.specs.Rules.{examine_refusal, is_ordered, all_below}
use Rattle.collection_laws.specs.Opening.{starters, starter_question}

pub starters_meet : AllByRecursion (λ x. examine_refusal (starter_question x.0) x.1 ≡ None) starters
unfolding walk uses_in greatest input_bits is_ordered all_below
starters_meet = (refl, (refl, (refl, (refl, (refl, (refl, (refl, (refl, (refl, (refl, tt))))))))))

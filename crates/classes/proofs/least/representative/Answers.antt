use Rattle.std.proofs.Common.{rules, ◌≡◌, None, Ok, ap}
use Rattle.mig.specs.Rules.{table_refusal}
use Rattle.mig_laws.proofs.Refusals.{passes, table-passes}
use Rattle.class_laws.specs.Lifting.{lift_table}
use Rattle.class_laws.specs.Ways.{Representative, representative_of}
use Rattle.class_laws.proofs.Classes.{same_minimum, shared_in_class, one_representative, least_represents}
use Rattle.class_laws.proofs.Composed.{all_permutations}
use Rattle.classes.proofs.least.representative.Goals as goal

pub returns-in_err-lifted-clause-ways_have_every_permutation : goal.returns-in_err-lifted-clause-ways_have_every_permutation
returns-in_err-lifted-clause-ways_have_every_permutation c = all_permutations

pub returns : goal.returns
returns c =
    let n = c.args.inputs in
    let f = lift_table 4 n c.args.table in
    let best = c.smallest.result in
    let o : table_refusal n c.args.table ≡ None = search rules in
    let v : c.in_ok-lifted.lifted ≡ f = search rules in
    let s : Representative f best.table = search rules in
    record {
      answer = rw o (ap Ok (one_representative f best.table (representative_of f) s (least_represents f)));
      smallest_reached_by_a_way = s;
      shared_exactly_in_the_class = shared_in_class n c.args.table best.table s;
      class_shares_its_minimum = same_minimum n c.args.table best.table ((table-passes n c.args.table).0 (ap passes o)).0 s;
      ways_have_every_permutation = all_permutations;
    }

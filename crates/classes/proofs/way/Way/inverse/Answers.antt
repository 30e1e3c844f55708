use Rattle.std.proofs.Common.{rules, ◌≡◌, ap, ◌∙◌}
use Rattle.class_laws.specs.Ways.{Way, inverse, carry_table, carry_net}
use Rattle.class_laws.proofs.Carried.{returning, carried_back}
use Rattle.classes.specs.Reach.{by, way_of}
use Rattle.classes.proofs.way.Way.inverse.Goals as goal

pub returns : goal.returns
returns c =
    let w : Way = way_of c.args.self in
    let e : by c.numbered.result.now.inverse c.number_of-mask.result w.flipped ≡ inverse w = search rules in
    record {
      answer = search rules;
      carries_tables_back = λ table l. ap (λ (v : Way). carry_table v (carry_table w table)) e ∙ (returning w table (c.args.self.listed, c.args.self.inputs) l).1;
      carries_networks_back = λ net. ap (λ (v : Way). carry_net v (carry_net w net)) e ∙ carried_back w (c.args.self.listed, c.args.self.inputs) net;
    }

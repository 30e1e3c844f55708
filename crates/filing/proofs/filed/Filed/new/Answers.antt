use Rattle.std.proofs.Common.{rules}
use Rattle.mig.specs.Networks.{net_of}
use Rattle.mig.specs.Normal.{normalised}
use Rattle.filing.proofs.Placed.{cleared_value}
use Rattle.filing.proofs.filed.Filed.new.Goals as goal

pub invariant_of-result : goal.invariant_of-result
invariant_of-result c =
    record {
      keepable = record {
        meets = search rules;
        normal = search rules;
        few = search rules;
        cleared = cleared_value c.in_ok-normalise.field-0 (normalised 4 (net_of c.args.network.now)) (search rules);
      };
    }

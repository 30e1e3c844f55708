use Rattle.sat_laws.proofs.Trails.{push_consistent, push_justified}
use Rattle.sat_laws.proofs.Weights.{weight_less}
use Rattle.sat_trail.proofs.trail.push.Goals as goal

pub returns : goal.returns
returns c = record {
  pushed = record {
    consistent = λ s free. push_consistent _ _ _ _ s c.args.literal c.args.kind c.requires.variable free c.requires.room;
    justified = λ F u why. push_justified F _ _ _ c.args.literal c.args.kind u c.requires.room c.requires.room_for_kind why;
    less = λ t n h why. weight_less c.args.kinds.now t n c.args.top c.args.kind h c.requires.room_for_kind why;
  };
}

use Rattle.std.proofs.Common.{inl, refl, arith}
use Rattle.sat_laws.proofs.Trails.{has_room}
use Rattle.sat_trail.proofs.trail.decide.Goals as goal

pub push-requires-clause-room : goal.push-requires-clause-room
push-requires-clause-room c =
    let h = has_room _ _ _ _ _ c.requires.consistent c.requires.variable c.requires.free in omega (arith, c.requires.consistent.long)

pub push-requires-clause-room_for_kind : goal.push-requires-clause-room_for_kind
push-requires-clause-room_for_kind c =
    let h = has_room _ _ _ _ _ c.requires.consistent c.requires.variable c.requires.free in omega (arith, c.requires.consistent.wide)

pub returns : goal.returns
returns c =
    let h = has_room _ _ _ _ _ c.requires.consistent c.requires.variable c.requires.free in
    record {
      decided = record {
        consistent = c.push.ensures.pushed.consistent c.requires.consistent c.requires.free;
        justified = λ F u. c.push.ensures.pushed.justified F u (inl refl);
        less = λ n l. c.push.ensures.pushed.less _ n (omega arith) (inl refl);
      };
    }

use Rattle.std.proofs.Common.{◌/◌, ◌≡◌, get_or, inl, inr, refl, ap, ◌∙◌, sym, subst, arith}
use Rattle.sat_laws.specs.Formulas.{literal_at}
use Rattle.sat_laws.specs.Trails.{Forced}
use Rattle.sat_laws.proofs.Growth.{open_room}
use Rattle.sat_laws.proofs.Trails.{unit_forced}
use Rattle.sat_propagation.proofs.unit.infer.Goals as goal

pub push-requires-clause-room : goal.push-requires-clause-room
push-requires-clause-room c =
    let f = c.in-Forcing.ensures.looked in
    let r = open_room _ _ _ _ _ _ _ c.requires.well_formed c.requires.consistent c.args.clause c.requires.held c.in-Forcing.place f.1 f.2 in
    omega (arith, r.1, c.requires.consistent.long)

pub push-requires-clause-room_for_kind : goal.push-requires-clause-room_for_kind
push-requires-clause-room_for_kind c =
    let f = c.in-Forcing.ensures.looked in
    let r = open_room _ _ _ _ _ _ _ c.requires.well_formed c.requires.consistent c.args.clause c.requires.held c.in-Forcing.place f.1 f.2 in
    omega (arith, r.1, c.requires.consistent.wide)

pub returns-after-clause-lt4294967295-clause-grown : goal.returns-after-clause-lt4294967295-clause-grown
returns-after-clause-lt4294967295-clause-grown c =
    let f = c.in-Forcing.ensures.looked in
    let r = open_room _ _ _ _ _ _ _ c.requires.well_formed c.requires.consistent c.args.clause c.requires.held c.in-Forcing.place f.1 f.2 in
    let e : literal_at c.args.words.now c.in-Forcing.place ≡ c.literal-l.result = sym c.literal-l.ensures.value in
    record {
      consistent = c.push.ensures.pushed.consistent c.requires.consistent (ap (λ y. get_or c.args.values.now (y / 2) 0) c.literal-l.ensures.value ∙ f.2);
      justified = λ F snd u. c.push.ensures.pushed.justified F u (inr (subst (Forced F _ _ _) e
          (unit_forced F _ _ _ _ c.requires.consistent u c.args.words.now _ _ _ (λ m mm. snd m mm c.args.clause c.requires.held) f.3)));
      less = λ n h. omega (arith, c.push.ensures.pushed.less c.args.top n (omega (arith, r.1)) (inl refl));
    }

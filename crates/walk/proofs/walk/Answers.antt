use Rattle.std.proofs.Common.{◌≡◌, ℕ, ◌+◌, ◌≤◌, true, List, ◌++◌, length, take, drop, set, sym, refl, ap, ◌∙◌, ap₂, arith}
use Rattle.mig.specs.declared.network.Gate.{Gate}
use Rattle.mig.specs.Networks.{Lawful, net_of, walk, output_value}
use Rattle.mig_laws.proofs.Turning.{normalised_keeps_value}
use Rattle.walk.specs.Places.{start_of}
use Rattle.walk.proofs.Places.{length_start, walked_places, output_read}
use Rattle.walk.proofs.walk.Goals as goal

pub returns-clause-kept_by_normalising : goal.returns-clause-kept_by_normalising
returns-clause-kept_by_normalising g c =
    let m = ap (λ (gs : List Gate). length gs) c.gates.ensures.gates ∙ c.in_ok-check_network.ensures.count_is_size in
    let k = g.V.ValueKind.kind in
    let law : Lawful k = record { twice = g.met.V.ValueKind.complement_twice; all = g.met.V.ValueKind.complement_all } in
    let f = c.in_ok-check_network.ensures.accepted_exactly_when_formed.0 (refl {a = true}) in
    let n = c.args.inputs in
    let net = net_of c.args.network.now in
    let places = c.args.values.now in
    let long : n + 1 ≤ length places = omega (arith, c.if-values-before.false) in
    let w : c.write_gates.new.values ≡ walk k (start_of k n places) net.gates ++ drop (n + 1 + c.args.network.now.count) places =
    walked_places k n c.args.network.now.count net places c.write_gates.new.values c.constant.result c.constant.ensures long
    (c.write_gates.ensures
    ∙ ap₂ (λ gs (m : ℕ). walk k (take (n + 1) (set places 0 c.constant.result)) gs ++ drop (n + 1 + m) (set places 0 c.constant.result)) c.gates.ensures.gates m) in
    let v : c.code_value.result ≡ output_value k (start_of k n places) net =
    c.code_value.ensures ∙ output_read k n c.args.network.now.count net places c.write_gates.new.values long f.2.output w in
    v ∙ sym (normalised_keeps_value k law n net f.2 (start_of k n places) (length_start k n places long))

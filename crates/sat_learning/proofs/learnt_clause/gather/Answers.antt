use Rattle.std.proofs.Common.{◌≡◌, ◌≢◌, ℕ, ◌+◌, ◌-◌, ◌*◌, ◌/◌, ◌≤◌, ◌<◌, ⊎_elim, length, get_or, ap, ◌∙◌, arith}
use Rattle.std.proofs.lemmas.Bool.{cases_eq}
use Rattle.sat_laws.specs.Formulas.{literal_at, with_literal}
use Rattle.sat_laws.proofs.Literals.{literal_same, literal_other}
use Rattle.sat_learning.proofs.learnt_clause.gather.Goals as goal

pub loop-v-preserved : goal.loop-v-preserved
loop-v-preserved c =
    let xs = c.loop-v.words in
    let ys = c.write_literal.new.words in
    let p = c.loop-v.end in
    let v = c.loop-v.v in
    let two : get_or c.args.values.now v 0 ≤ 2 = c.requires.small v in
    let x : ℕ = 2 * v + (2 - get_or c.args.values.now v 0) in
    let small : x < 65536 = omega arith in
    let lt : p / 2 < length xs = omega arith in
    let w : ys ≡ with_literal xs p x = c.write_literal.ensures.written in
    let new : literal_at ys p ≡ x = ap (λ y. literal_at y p) w ∙ literal_same xs p x small lt in
    let other : (i : ℕ) → i ≢ p → literal_at ys i ≡ literal_at xs i = λ i ne. ap (λ y. literal_at y i) w ∙ literal_other xs i p x small lt ne in
    let inv = c.loop-v.invariant in
    record {
      below = omega arith;
      within = omega arith;
      same = λ j h. other j (omega arith) ∙ inv.same j h;
      each = λ u h k g. ⊎_elim
          (λ (q : u ≡ v). (p, omega arith, omega arith, omega (arith, ap (λ y. get_or c.args.values.now y 0) q)))
          (λ (q : u ≡ v → ⊥).
          let f = inv.each u (omega arith) k g in
          (f.0, f.1, omega (arith, f.2), ap (λ y. y + get_or c.args.values.now u 0) (other f.0 (omega (arith, f.2))) ∙ f.3))
          (cases_eq u v);
      small = λ j h g. ⊎_elim
          (λ (q : j ≡ p). let z : literal_at ys j ≡ x = ap (λ y. literal_at ys y) q ∙ new in omega arith)
          (λ (q : j ≡ p → ⊥). let z : literal_at ys j ≡ literal_at xs j = other j q in omega (arith, inv.small j h (omega arith)))
          (cases_eq j p);
    }

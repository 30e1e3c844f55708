use Rattle.std.proofs.Common.{◌≡◌, ◌≢◌, ℕ, ◌+◌, ◌-◌, ◌/◌, ◌<◌, ⊎_elim, length, sym, ap, ◌∙◌, arith}
use Rattle.std.proofs.lemmas.Bool.{cases_eq}
use Rattle.sat_laws.specs.Formulas.{literal_at, with_literal}
use Rattle.sat_laws.proofs.Literals.{literal_same, literal_other}
use Rattle.sat_clauses.proofs.reduction.move_down.Goals as goal

pub loop-place-preserved : goal.loop-place-preserved
loop-place-preserved c =
    let xs = c.loop-place.words in
    let j = c.loop-place.place in
    let p : ℕ = c.args.target + (j - c.args.start) in
    let x : ℕ = c.literal-l.result in
    let small : x < 65536 = c.literal-l.ensures.half_a_word in
    let lt : p / 2 < length xs = omega arith in
    let e : c.write_literal.new.words ≡ with_literal xs p x = c.write_literal.ensures.written in
    let same : literal_at c.write_literal.new.words p ≡ x = ap (λ y. literal_at y p) e ∙ literal_same xs p x small lt in
    let other : (i : ℕ) → i ≢ p → literal_at c.write_literal.new.words i ≡ literal_at xs i = λ i ne. ap (λ y. literal_at y i) e ∙ literal_other xs i p x small lt ne in
    record {
      moved = λ i h. ⊎_elim
          (λ (q : c.args.start + i ≡ j).
          let r : c.args.target + i ≡ p = omega arith in
          ap (λ y. literal_at c.write_literal.new.words y) r ∙ same ∙ c.literal-l.ensures.value ∙ c.loop-place.invariant.high j (omega arith) ∙ ap (λ y. literal_at c.args.words.now y) (sym q))
          (λ (q : c.args.start + i ≡ j → ⊥). other (c.args.target + i) (omega arith) ∙ c.loop-place.invariant.moved i (omega arith))
          (cases_eq (c.args.start + i) j);
      low = λ i h. other i (omega arith) ∙ c.loop-place.invariant.low i (omega arith);
      high = λ i h. other i (omega arith) ∙ c.loop-place.invariant.high i (omega arith);
    }

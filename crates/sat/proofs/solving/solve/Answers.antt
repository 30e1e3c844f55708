use Rattle.std.proofs.Common.{◌≡◌, eqb, ◌++◌, length, take, refl, sym, ap, ◌∙◌, subst₂, arith}
use Rattle.sat_laws.specs.Formulas.{ClausesHold, WellFormed}
use Rattle.sat_laws.specs.Runs.{assignment_of}
use Rattle.sat.specs.Shapes.{literals_in, ends_in, literals_place, values_place, assignment_in}
use Rattle.sat.specs.Steps.{IsToldModel}
use Rattle.sat.proofs.Parts.{cut_six, hold_agreeing, value_in, one_or_two}
use Rattle.sat.proofs.solving.solve.Goals as goal

pub returns-else-search : goal.returns-else-search
returns-else-search c =
    let s = c.args.shape.now in
    let w = c.args.words.now in
    let es : c.split_at_mut-ends.result.0.now ≡ ends_in s w = c.split_at_mut-ends.ensures.front ∙ ap (λ t. take t w) c.table_length.ensures.length in
    let ls : c.split_at_mut-notes.result.1.now ≡ literals_in s w =
    cut_six w c.table_length.result s.variables c.notes_length.result (literals_place s) c.split_at_mut-ends.ensures.back c.split_at_mut-values.ensures.back c.split_at_mut-trail.ensures.back
    c.split_at_mut-kinds.ensures.back c.split_at_mut-marks.ensures.back c.split_at_mut-notes.ensures.back
    (omega (arith, c.table_length.ensures.length, c.notes_length.ensures.length)) in
    record {
      answered = (
        record {
          few_variables = c.if-shape-gt32768.false;
          few_clauses = omega (arith, c.if-shape-gt32767.false, c.if-shape.false);
          room = omega (arith, c.literals_place.ensures.place, c.if-literals_place-words.false);
          well_formed = subst₂ (λ x y. WellFormed x y s.clauses s.variables) ls es (c.if-not-well_formed.ensures.decided.0 refl);
        },
        λ m h. c.if-search.ensures.unsatisfiable refl m (subst₂ (λ x y. ClausesHold m x y s.clauses) (sym ls) (sym es) h),
      );
    }

pub returns-then-search : goal.returns-then-search
returns-then-search c =
    let s = c.args.shape.now in
    let w = c.args.words.now in
    let es : c.split_at_mut-ends.result.0.now ≡ ends_in s w = c.split_at_mut-ends.ensures.front ∙ ap (λ t. take t w) c.table_length.ensures.length in
    let ls : c.split_at_mut-notes.result.1.now ≡ literals_in s w =
    cut_six w c.table_length.result s.variables c.notes_length.result (literals_place s) c.split_at_mut-ends.ensures.back c.split_at_mut-values.ensures.back c.split_at_mut-trail.ensures.back
    c.split_at_mut-kinds.ensures.back c.split_at_mut-marks.ensures.back c.split_at_mut-notes.ensures.back
    (omega (arith, c.table_length.ensures.length, c.notes_length.ensures.length)) in
    let wf : WellFormed (literals_in s w) (ends_in s w) s.clauses s.variables =
    subst₂ (λ x y. WellFormed x y s.clauses s.variables) ls es (c.if-not-well_formed.ensures.decided.0 refl) in
    let told : IsToldModel (literals_in s w) (ends_in s w) s.clauses c.search.new.values =
    subst₂ (λ x y. IsToldModel x y s.clauses c.search.new.values) ls es (c.if-search.ensures.satisfiable refl) in
    let vs = c.search.new.values in
    let long : length c.search.new.ends ≡ values_place s = omega (arith, c.search.auto.ends, c.split_at_mut-ends.ensures.front_len, c.table_length.ensures.length) in
    let many : length vs ≡ s.variables = omega (arith, c.search.auto.values, c.clear.auto.words, c.split_at_mut-values.ensures.front_len) in
    let rest = c.search.new.trail ++ (c.search.new.kinds ++ (c.search.new.marks ++ (c.search.new.notes ++ c.search.new.words))) in
    let after = c.search.new.ends ++ (vs ++ rest) in
    record {
      answered = (
        record {
          few_variables = c.if-shape-gt32768.false;
          few_clauses = omega (arith, c.if-shape-gt32767.false, c.if-shape.false);
          room = omega (arith, c.literals_place.ensures.place, c.if-literals_place-words.false);
          well_formed = wf;
        },
        hold_agreeing (assignment_of vs) (assignment_in s after) (literals_in s w) (ends_in s w) s.clauses s.variables wf
            (λ v h. ap (λ x. eqb x 2) (sym (value_in c.search.new.ends vs rest (values_place s) v long (omega arith)))) told.holds,
        λ v h. one_or_two _ _ (value_in c.search.new.ends vs rest (values_place s) v long (omega arith)) (told.given v (omega arith)) (told.small v),
      );
    }

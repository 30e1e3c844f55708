use Rattle.std.proofs.Common.{◌≡◌, ℕ, ◌+◌, List, ◌++◌, length, take, drop, sym, ap, ◌∙◌, subst, append_assoc, arith}
use Rattle.std.proofs.lemmas.List.{take_at, drop_at, length-append}
use Rattle.cnf.specs.Numbers.{Clause}
use Rattle.symmetry_laws.specs.Symmetry.{numbered_exact_clauses}
use Rattle.clause_words.specs.Stored.{Stores, Fits}
use Rattle.sat.specs.Shapes.{table_length, literals_place}
use Rattle.clause_search.proofs.Room.{room_for_table, clauses_fit}
use Rattle.clause_search.proofs.exact.write_clauses.Goals as goal

pub split_at_mut-table-requires : goal.split_at_mut-table-requires
split_at_mut-table-requires c =
    omega (arith, c.literals_place.ensures.place, room_for_table c.args.question.now c.args.gates (length c.args.words.now) c.requires.can_be_asked c.args.shape.now c.requires.shape)

pub fill-requires-clause-fits : goal.fill-requires-clause-fits
fill-requires-clause-fits c =
    let table = c.split_at_mut-table.ensures in
    let ends = c.split_at_mut-ends.ensures in
    let s = c.args.shape.now in
    let literals = c.split_at_mut-table.result.1.now in
    subst (λ n. Fits (length literals) n (numbered_exact_clauses c.args.question.now c.args.gates)) (sym (ends.front_len ∙ c.values_place.ensures.place))
    (clauses_fit c.args.question.now c.args.gates (length c.args.words.now) c.requires.can_be_asked s c.requires.shape (length literals)
    (omega (
      arith,
      ap (λ xs. length xs) table.value,
      length-append c.split_at_mut-table.result.0.now literals,
      table.front_len,
      c.literals_place.ensures.place,
    )))

-- clauses at the end of the words and their table at the beginning
posed : (e b l : List ℕ) (t p k k′ : ℕ) (cs : List Clause) → length e ≡ t → length e + length b ≡ p → k ≡ k′ → Stores l e k cs
    → Stores (drop p ((e ++ b) ++ l)) (take t ((e ++ b) ++ l)) k′ cs
posed e b l t p k k′ cs front all same h =
    subst (λ ws. Stores ws (take t ((e ++ b) ++ l)) k′ cs) (sym (drop_at (e ++ b) l p (length-append e b ∙ all)))
    (subst (λ es. Stores l es k′ cs) (sym (ap (take t) (append_assoc e b l) ∙ take_at e (b ++ l) t front))
    (subst (λ n. Stores l e n cs) same h))

pub returns-clause-posed : goal.returns-clause-posed
returns-clause-posed c =
    let s = c.args.shape.now in
    let stored = c.in_ok-fill.ensures.stored in
    posed c.fill.new.ends c.split_at_mut-ends.result.1.now c.fill.new.literals (table_length s) (literals_place s) c.in_ok-fill.field-0 s.clauses
    (numbered_exact_clauses c.args.question.now c.args.gates)
    (c.in_ok-fill.ensures.as_many_ends ∙ c.split_at_mut-ends.ensures.front_len ∙ c.values_place.ensures.place)
    (omega (
      arith,
      c.in_ok-fill.ensures.as_many_ends,
      ap (λ xs. length xs) c.split_at_mut-ends.ensures.value,
      length-append c.split_at_mut-ends.result.0.now c.split_at_mut-ends.result.1.now,
      c.split_at_mut-table.ensures.front_len,
      c.literals_place.ensures.place,
    ))
    (stored.count ∙ sym c.requires.shape.clauses) stored

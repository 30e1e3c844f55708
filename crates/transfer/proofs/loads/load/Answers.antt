use Rattle.std.proofs.Common.{rules, arith, ◌≡◌, ◌+◌, length, List, ap, Some, false, ◌∙◌, sym, subst}
use Rattle.records.specs.declared.reader.Part.{Part}
use Rattle.records.specs.Parts.{parts_of, rest}
use Rattle.entries.specs.Table.{Table}
use Rattle.entries.specs.Rows.{table}
use Rattle.collection_laws.specs.declared.answer.Loaded.{Loaded}
use Rattle.collection_laws.specs.Loads.{is_passed_over, LoadsFrom}
use Rattle.transfer.proofs.Parts.{none_left, fault_ends, taken_on, passed_on, refused_ends}
use Rattle.transfer.proofs.loads.load.Goals as goal

-- a fault that is read
pub returns-in-Err-clause-loaded_by_the_rule : goal.returns-in-Err-clause-loaded_by_the_rule
returns-in-Err-clause-loaded_by_the_rule g c =
    let now = table c.loop-part.collection.entries in
    subst (λ (l : Loaded). LoadsFrom (parts_of c.args.bytes.now) 0 0 (table c.args.collection.now.entries) l now) (sym c.ended.ensures)
    (c.loop-part.invariant.goes_on _ _ (fault_ends _ c.in-Some.part _ c.in-Err.fault _ _ now c.in-Some.ensures.steps c.in-Err.is))

-- a record that is taken
pub loop-part-preserved-in-Ok-deposit : goal.loop-part-preserved-in-Ok-deposit
loop-part-preserved-in-Ok-deposit g c =
    let fewer = ap (λ (ps : List Part). length ps) c.in-Some.ensures.steps in
    record {
      can = tt;
      finite = tt;
      search_stays = c.deposit.ensures.search_stays ∙ c.loop-part.invariant.search_stays;
      goes_on = λ answer t later. c.loop-part.invariant.goes_on answer t
          (taken_on _ c.in-Some.part _ c.in-Ok.record _ _ (table c.loop-part.collection.entries) (table c.deposit.new.self.entries) answer t
          c.in-Some.ensures.steps c.in-Ok.is (sym c.in-Ok-deposit.ensures.refused_by_the_rule) c.in-Ok-deposit.ensures.deposited_by_the_rule later);
      fits = omega (arith, fewer);
      no_fault = c.loop-part.invariant.no_fault;
    }

-- a record that is passed over
pub loop-part-preserved : goal.loop-part-preserved
loop-part-preserved g c =
    let fewer = ap (λ (ps : List Part). length ps) c.in-Some.ensures.steps in
    let is = c.in-Err-NoImprovement.ensures.refused_by_the_rule in
    let stays = c.in-Err-NoImprovement.ensures.deposited_by_the_rule in
    record {
      can = tt;
      finite = tt;
      search_stays = c.deposit.ensures.search_stays ∙ c.loop-part.invariant.search_stays;
      goes_on = λ answer t later. c.loop-part.invariant.goes_on answer t
          (passed_on _ c.in-Some.part _ c.in-Ok.record _ _ (table c.loop-part.collection.entries) answer t
          c.in-Some.ensures.steps c.in-Ok.is (sym is ∙ ap Some c.in-Err-NoImprovement.field-0-is)
          (subst (λ (d : Table). LoadsFrom (rest c.next.new.self) c.loop-part.loaded.taken (c.loop-part.loaded.passed + 1) d answer t) (ap (λ (k : _). table k.entries) stays) later));
      fits = omega (arith, fewer);
      no_fault = c.loop-part.invariant.no_fault;
    }

-- any other refusal
pub returns-in-Err-deposit : goal.returns-in-Err-deposit
returns-in-Err-deposit g c =
    let now = table c.loop-part.collection.entries in
    let is = c.in-Err-deposit.ensures.refused_by_the_rule in
    let stays = c.in-Err-deposit.ensures.deposited_by_the_rule in
    let other : is_passed_over c.in-Err-deposit.refusal ≡ false = search rules in
    let loads = c.loop-part.invariant.goes_on _ _
    (refused_ends _ c.in-Some.part _ c.in-Ok.record c.in-Err-deposit.refusal _ _ now c.in-Some.ensures.steps c.in-Ok.is (sym is) other) in
    record {
      search_stays = c.deposit.ensures.search_stays ∙ c.loop-part.invariant.search_stays;
      loaded_by_the_rule = rw (c.ended-in-Err-deposit.ensures, stays) loads;
    }

-- no part is left
pub returns-clause-loaded_by_the_rule : goal.returns-clause-loaded_by_the_rule
returns-clause-loaded_by_the_rule g c =
    c.loop-part.invariant.goes_on _ _ (none_left _ (table c.loop-part.collection.entries) c.loop-part.loaded c.in-None.ensures.steps.0 c.loop-part.invariant.no_fault)

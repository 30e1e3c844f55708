use Rattle.std.proofs.Common.{rules, ◌≡◌, ℕ, suc, ◌+◌, ◌<◌, ◌++◌, ◌∷◌, [], length, take, get_or, slice_set, refl, ◌∙◌, subst, arith}
use Rattle.std.proofs.Math.Seq.{take-suc-set, take-suc}
use Rattle.std.proofs.lemmas.List.{drop-set-lt}
use Rattle.collection_laws.specs.declared.call.Call.TheVariants.{Order}
use Rattle.runs.proofs.Whole.{drop-next, sound_rows, run_then, run_none, history_then, replies_right, whole_right}
use Rattle.runs.proofs.running.run.Goals as goal

pub loop-i-init : goal.loop-i-init
loop-i-init g c = record { places = refl; behind = refl; words = refl; reach_stays = refl; need_stays = refl; run = run_none _ _ }

pub loop-i-preserved : goal.loop-i-preserved
loop-i-preserved g c =
    let i = c.loop-i.i in
    let inv = c.loop-i.invariant in
    let none = Order (record { inputs = 0; table = 0; limits = record { depth = 0; fan_out = 0 } }) 0 in
    let below : i < length c.args.calls.now = search rules in
    let room : i < length c.loop-i.replies = search rules in
    let calls : take (i + 1) c.args.calls.now ≡ take i c.args.calls.now ++ (get_or c.args.calls.now i none ∷ []) =
    subst (λ (n : ℕ). take n c.args.calls.now ≡ take i c.args.calls.now ++ (get_or c.args.calls.now i none ∷ [])) {x = suc i} (omega arith) (take-suc c.args.calls.now i none below) in
    let replies : take (i + 1) (slice_set c.loop-i.replies i c.perform.result) ≡ take i c.loop-i.replies ++ (c.perform.result ∷ []) =
    subst (λ (n : ℕ). take n (slice_set c.loop-i.replies i c.perform.result) ≡ take i c.loop-i.replies ++ (c.perform.result ∷ [])) {x = suc i} (omega arith)
    (take-suc-set c.loop-i.replies i c.perform.result room) in
    let step = c.perform.ensures.performed_by_its_rule in
    record {
      places = search rules;
      behind = drop-set-lt (i + 1) c.loop-i.replies i c.perform.result (omega arith) ∙ drop-next c.loop-i.replies c.args.replies.now i inv.behind;
      words = search rules;
      reach_stays = search rules;
      need_stays = search rules;
      run = rw (calls, replies)
          (run_then _ _ _ _ (take i c.args.calls.now) (take i c.loop-i.replies) (get_or c.args.calls.now i none) c.perform.result inv.run
          (rw (inv.words, inv.reach_stays, inv.need_stays) at step));
    }

pub returns-clause-every_reply_is_right : goal.returns-clause-every_reply_is_right
returns-clause-every_reply_is_right g c =
    let all : c.loop-i.i ≡ c.min-count.result = search rules in
    rw (← all) (replies_right _ _ _ _ _ _ _ (sound_rows c.args.collection.now.entries.rows.items) c.loop-i.invariant.run)

pub returns-clause-continues_an_earlier_history : goal.returns-clause-continues_an_earlier_history
returns-clause-continues_an_earlier_history g c b cs rs earlier =
    let all : c.loop-i.i ≡ c.min-count.result = search rules in
    rw (← all) (history_then _ _ _ b _ _ cs _ rs _ earlier c.loop-i.invariant.run)

pub returns-clause-whole_history_from_an_opening_is_right : goal.returns-clause-whole_history_from_an_opening_is_right
returns-clause-whole_history_from_an_opening_is_right g c o b cs rs opens earlier =
    let all : c.loop-i.i ≡ c.min-count.result = search rules in
    rw (← all) (whole_right _ _ _ o b _ _ cs _ rs _ opens earlier c.loop-i.invariant.run)

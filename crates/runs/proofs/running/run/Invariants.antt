use Rattle.std.proofs.Common.{◌≡◌, length, take, drop}
use Rattle.collection_laws.specs.Runs.{lent, Run}
use Rattle.collection.specs.State.{state}
use Rattle.runs.proofs.running.run.Given as goal

-- the calls so far are a run from the start, and the places behind are as they were
abbrev pub invariant-loop-i : goal.invariant-loop-i
invariant-loop-i g l =
    let reach = g.S.Search.reach in
    let need = g.S.Search.need in
    let count = g.S.Search.count in
    record {
      places : length l.replies ≡ length l.fn.replies;
      behind : drop l.i l.replies ≡ drop l.i l.fn.replies;
      words : length l.words ≡ length l.fn.words;
      reach_stays : reach l.collection.search ≡ reach l.fn.collection.search;
      need_stays : need l.collection.search ≡ need l.fn.collection.search;
      run : Run (lent (reach l.fn.collection.search) (need l.fn.collection.search) (length l.fn.words))
          (state (count l.fn.collection.search) l.fn.collection.entries l.fn.buffer) (take l.i l.calls) (take l.i l.replies)
          (state (count l.collection.search) l.collection.entries l.buffer);
    }

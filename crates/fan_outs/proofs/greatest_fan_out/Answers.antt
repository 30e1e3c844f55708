use Rattle.std.proofs.Common.{◌≡◌, ℕ, ◌+◌, max, None, Ok, rules, sym, ap, ◌∙◌, arith}
use Rattle.std.specs.List.{fold, range_with_len}
use Rattle.std.proofs.lemmas.Iterator.{YieldsList-from_range}
use Rattle.std.proofs.lemmas.Iterator.Consumers.{fold_from_yields_List}
use Rattle.mig.specs.Networks.{net_of, uses, greatest}
use Rattle.mig.specs.Rules.{form_refusal}
use Rattle.mig_laws.proofs.Refusals.{none_from_ok}
use Rattle.fan_outs.proofs.Sums.{greatest_by_fold}
use Rattle.fan_outs.proofs.greatest_fan_out.Goals as goal

pub returns : goal.returns
returns c =
    let n = c.args.inputs in
    let network = c.args.network.now in
    let k = network.count in
    let f = λ (j : ℕ). uses j (net_of network) in
    let o : form_refusal n network ≡ None = none_from_ok (form_refusal n network) tt tt c.in_ok-check_network.ensures.answer in
    let m : c.fold-most.result ≡ fold (λ m j. max m (f j)) 0 (range_with_len (n + 1) k) =
    fold_from_yields_List _ (λ m j. max m (f j)) 0 c.fold-most.result c.fold-most.ensures.ran
    (YieldsList-from_range (n + 1) (n + 1 + k) k (cc) (omega arith)) (λ a x b q d. search rules) in
    rw o
    (ap Ok (m ∙ greatest_by_fold f (n + 1) k
    ∙ ap (λ (j : ℕ). greatest j (λ i. f (n + 1 + i))) (sym c.in_ok-check_network.ensures.count_is_size)))

-- What is known of a class holds for each of its questions.
use Rattle.std.proofs.Common.{◌≡◌, ℕ, ◌≤◌, refl, ap, ◌∙◌, sym, subst, arith}
use Rattle.mig.specs.declared.network.Network.{Network}
use Rattle.mig.specs.declared.question.Question.{Question}
use Rattle.mig.specs.Networks.{Net, net_of, size}
use Rattle.mig.specs.Questions.{Meets}
use Rattle.mig_laws.proofs.Places.{net_of-network_of}
use Rattle.class_laws.specs.Classes.{Solvable}
use Rattle.class_laws.proofs.Classes.{same_minimum, least_represents}
use Rattle.search.specs.Meaning.{NoneWithin}
use Rattle.filing.specs.Filing.{lifted_table, class_of, key_of, class_question, CarriedOut, Keepable}
use Rattle.filing.proofs.Carried.{given_meets, given_size}
use Rattle.entry.specs.Bounds.{LowerBound}

-- a network of the question has one of the class beside it, with as many gates
beside : (q : Question) (net : Net) → q.inputs ≤ 4 → Meets q net → Solvable (class_question q) (size net)
beside q net few h = (same_minimum q.inputs q.table (class_of q) few (least_represents (lifted_table q)) q.limits (size net)).0 (net, refl, h)

-- a lower bound of the class is one of the question
pub bound_of_question : (q : Question) (l : ℕ) → q.inputs ≤ 4 → LowerBound (class_question q) l → LowerBound q l
bound_of_question q l few bound net h =
    let (other, same, met) = beside q net few h in
    omega (arith, bound other met, same)

-- if no network of the class has at most g gates, none of the question has
pub none_of_question : (q : Question) (g : ℕ) → q.inputs ≤ 4 → NoneWithin (class_question q) g → NoneWithin q g
none_of_question q g few none net h small =
    let (other, same, met) = beside q net few h in
    none other met (omega (arith, same, small))

-- a kept network, given out, meets the question, with as many gates
pub given_out : (q : Question) (network out : Network) → q.inputs ≤ 4 → Keepable (key_of q) network → CarriedOut q (net_of network) out
    → Meets q (net_of out) × (size (net_of out) ≡ network.count) × (size (net_of out) ≡ out.count)
given_out q network out few keepable (w, leads, e) =
    let back : net_of out ≡ _ = ap net_of e ∙ net_of-network_of _ in
    let same = given_size q w (net_of network) few leads keepable.meets.formed in
    let count : network.count ≡ size (net_of network) = ap (λ (x : Network). x.count) keepable.cleared in
    let counted = ap (λ (x : Network). x.count) e in
    (subst (Meets q) (sym back) (given_meets q w (net_of network) few leads keepable.meets), ap size back ∙ same ∙ sym count, ap size back ∙ sym counted)

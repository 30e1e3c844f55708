-- Networks of a question and of its class: what is met, and how many gates.
use Rattle.std.proofs.Common.{◌≡◌, ℕ, ◌%◌, ◌^◌, ◌<◌, ◌≤◌, cond, sym, ap, ◌∙◌, subst, arith}
use Rattle.mig.specs.declared.question.Question.{Question}
use Rattle.mig.specs.declared.network.Network.{Network}
use Rattle.mig.specs.Networks.{Net, network_of, size, Formed}
use Rattle.mig.specs.Normal.{Normal, normalised}
use Rattle.mig.specs.Tables.{bit_at}
use Rattle.mig.specs.Questions.{question_of, Meets}
use Rattle.mig_laws.proofs.Tables.{table_below}
use Rattle.mig_laws.proofs.Turning.{normalised_meets, normalised_normal, normalised_shape}
use Rattle.mig_laws.proofs.Places.{net_of-network_of}
use Rattle.class_laws.specs.Lifting.{raised_code, raise_net, cut_net}
use Rattle.class_laws.specs.Ways.{Way, IsWay, inverse, carry_table, carried_code, carry_net, Representative}
use Rattle.class_laws.proofs.Lifted.{raising, cutting, cut_same_gates}
use Rattle.class_laws.proofs.Renamed.{size-rename}
use Rattle.class_laws.proofs.Carried.{carrying, returning, carried_same_gates}
use Rattle.class_laws.proofs.Classes.{one_representative, least_represents}
use Rattle.filing.specs.declared.key.Key.{Key}
use Rattle.filing.specs.Filing.{key_question, lifted_table, class_of, key_of, class_question, Keepable, LeadsToClass, kept_by, given_by}

lifted_below : (q : Question) → lifted_table q < 2 ^ 16
lifted_below q = table_below 16 0 (λ t. bit_at q.table (t % (2 ^ q.inputs)))

-- the inverse leads from the class back
pub way_back : (q : Question) (w : Way) → LeadsToClass q w → carry_table (inverse w) (class_of q) ≡ lifted_table q
way_back q w l = ap (carry_table (inverse w)) (sym l.reaches) ∙ (returning w (lifted_table q) l.is_way (lifted_below q)).1

-- the way that is found leads to the class
pub leads : (q : Question) (w : Way) → IsWay w → Representative (lifted_table q) (carry_table w (lifted_table q)) → LeadsToClass q w
leads q w h r =
    record {
      is_way = h;
      reaches = one_representative (lifted_table q) (carry_table w (lifted_table q)) (class_of q) r (least_represents (lifted_table q));
    }

-- a network that meets the key's question may be kept under the key, normalised
pub keepable_normalised : (k : Key) (net : Net) → Meets (key_question k) net → size net ≤ 7 → Keepable k (network_of (normalised 4 net))
keepable_normalised k net m few =
    let back = net_of-network_of (normalised 4 net) in
    record {
      meets = subst (Meets (key_question k)) (sym back) (normalised_meets (key_question k) net m);
      normal = subst Normal (sym back) (normalised_normal 4 net m.formed);
      few = omega (arith, (normalised_shape 4 net m.formed).gates);
      cleared = ap network_of (sym back);
    }

-- what meets the question meets that of the class, carried
carried_meets : (q : Question) (w : Way) (net : Net) → q.inputs ≤ 4 → LeadsToClass q w → Meets q net → Meets (class_question q) (carry_net w (raise_net 4 q.inputs net))
carried_meets q w net few l h =
    let raised = raising 4 q.inputs q.table q.limits net few h in
    subst (λ (g : ℕ). Meets (question_of 4 g q.limits) (carry_net w (raise_net 4 q.inputs net))) l.reaches
    (carrying w (lifted_table q) q.limits (raise_net 4 q.inputs net) l.is_way raised)

-- what meets the question of the class meets the question, as it is given out
pub given_meets : (q : Question) (w : Way) (net : Net) → q.inputs ≤ 4 → LeadsToClass q w → Meets (class_question q) net → Meets q (given_by w q net)
given_meets q w net few l h =
    let back = returning w (lifted_table q) l.is_way (lifted_below q) in
    let carried = carrying (inverse w) (class_of q) q.limits net back.0 h in
    let lifted = subst (λ (g : ℕ). Meets (question_of 4 g q.limits) (carry_net (inverse w) net)) (way_back q w l) carried in
    normalised_meets q (cut_net 4 q.inputs (carry_net (inverse w) net))
    (cutting 4 q.inputs q.table q.limits (carry_net (inverse w) net) few lifted)

-- a kept network may stand under the key of the question
pub kept_keepable : (q : Question) (w : Way) (net : Net) (place : Network) → q.inputs ≤ 4 → size net ≤ 7 → LeadsToClass q w → Meets q net
    → place ≡ network_of (kept_by w q net) → Keepable (key_of q) place
kept_keepable q w net place few small l h e =
    let same = size-rename (carried_code w.order w.mask) (cond w.flipped 1 0) (raise_net 4 q.inputs net) in
    let raised = size-rename (raised_code 4 q.inputs) 0 net in
    subst (Keepable (key_of q)) (sym e)
    (keepable_normalised (key_of q) (carry_net w (raise_net 4 q.inputs net)) (carried_meets q w net few l h) (omega (arith, same, raised, small)))

-- a network keeps its number of gates where it is given out
pub given_size : (q : Question) (w : Way) (net : Net) → q.inputs ≤ 4 → LeadsToClass q w → Formed 4 net → size (given_by w q net) ≡ size net
given_size q w net few l h =
    let back = returning w (lifted_table q) l.is_way (lifted_below q) in
    let carried = carried_same_gates (inverse w) net back.0 h in
    let cut = cut_same_gates 4 q.inputs (carry_net (inverse w) net) few carried.formed in
    (normalised_shape q.inputs (cut_net 4 q.inputs (carry_net (inverse w) net)) cut.formed).gates ∙ cut.gates ∙ carried.gates

-- The stages of normalising, and what is known of its result.
use Rattle.std.proofs.Common.{◌≡◌, ℕ, ◌+◌, ◌-◌, ◌<◌, ◌≤◌, leb, ◌↔◌, get_or, drop, replicate, sym, refl, ap, ◌∙◌, subst, add-one}
use Rattle.std.proofs.lemmas.List.{drop_at}
use Rattle.std.proofs.lemmas.Bool.{cond-true, cond-false, le-leb, lt-leb}
use Rattle.mig.specs.declared.network.Network.{Network}
use Rattle.mig.specs.declared.question.Question.{Question}
use Rattle.mig.specs.Networks.{Net, net_of, network_of, size, empty_gate, Formed}
use Rattle.mig.specs.Questions.{Meets}
use Rattle.mig.specs.Normal.{complements, gate_at, turned, gate_normalised, first_normalised, normalised, Normal, SameShape}
use Rattle.mig_laws.proofs.Nodes.{same_size}
use Rattle.mig_laws.proofs.Turning.{first_normalised_lem, normalised_normal, normalised_shape, normalised_meets, met_when_normalised, normal_stays}
use Rattle.mig_laws.proofs.Places.{net_of-network_of}
use Rattle.normalise.proofs.Places.{gate_read}

-- one gate more
more : (n i : ℕ) (net : Net) → gate_normalised n i (first_normalised n i net) ≡ first_normalised n (i + 1) net
unfolding first_normalised
more n i net = ap (λ (k : ℕ). first_normalised n k net) (sym (add-one i))

pub stage_size : (n i : ℕ) (net : Net) → Formed n net → i ≤ size net → size (first_normalised n i net) ≡ size net
stage_size n i net h l = same_size net (first_normalised n i net) (first_normalised_lem n i net h l).nodes

-- the gate that a stage comes to
pub stage_gate : (net : Net) (normal : Network) (i : ℕ) → normal ≡ network_of net → i < size net → complements (get_or normal.gates i empty_gate) ≡ complements (gate_at net i)
stage_gate net normal i e h = ap (λ (m : Network). complements (get_or m.gates i empty_gate)) e ∙ ap complements (gate_read net i h)

pub stage_turned : (n i : ℕ) (net : Net) (normal after : Network) → normal ≡ network_of (first_normalised n i net) → after ≡ network_of (turned n i (net_of normal))
    → 2 ≤ complements (gate_at (first_normalised n i net) i) → after ≡ network_of (first_normalised n (i + 1) net)
stage_turned n i net normal after e a h =
    let stage = first_normalised n i net in
    a ∙ ap (λ (m : Net). network_of (turned n i m)) (ap net_of e ∙ net_of-network_of stage)
    ∙ ap network_of (sym (cond-true (leb 2 (complements (gate_at stage i))) (turned n i stage) stage (le-leb 2 (complements (gate_at stage i)) h)) ∙ more n i net)

pub stage_kept : (n i : ℕ) (net : Net) (normal : Network) → normal ≡ network_of (first_normalised n i net)
    → complements (gate_at (first_normalised n i net) i) < 2 → normal ≡ network_of (first_normalised n (i + 1) net)
stage_kept n i net normal e h =
    let stage = first_normalised n i net in
    e ∙ ap network_of (sym (cond-false (leb 2 (complements (gate_at stage i))) (turned n i stage) stage (lt-leb 2 (complements (gate_at stage i)) h)) ∙ more n i net)

-- what is known of the result
pub record Result (n : ℕ) (network m : Network) : Type 0 where
  pub normal : Normal (net_of m)
  pub shape : SameShape n (net_of network) (net_of m)
  pub count : m.count ≡ network.count
  pub behind : drop m.count m.gates ≡ replicate (7 - m.count) empty_gate
  pub stays : Normal (net_of network) → net_of m ≡ net_of network
  pub meets : (q : Question) → q.inputs ≡ n → Meets q (net_of network) ↔ Meets q (net_of m)

pub result : (n : ℕ) (network m : Network) → Formed n (net_of network) → size (net_of network) ≡ network.count → m ≡ network_of (normalised n (net_of network)) → Result n network m
result n network m f c e =
    let net = net_of network in
    let there : net_of m ≡ normalised n net = ap net_of e ∙ net_of-network_of (normalised n net) in
    let s = normalised_shape n net f in
    record {
      normal = subst Normal (sym there) (normalised_normal n net f);
      shape = subst (SameShape n net) (sym there) s;
      count = ap (λ (x : Network). x.count) e ∙ s.gates ∙ c;
      behind = ap (λ (x : Network). drop x.count x.gates) e ∙ drop_at (normalised n net).gates (replicate (7 - size (normalised n net)) empty_gate) (size (normalised n net)) refl
          ∙ ap (λ (x : Network). replicate (7 - x.count) empty_gate) (sym e);
      stays = λ h. there ∙ normal_stays n net h;
      meets = λ q i. (
        λ h. subst (Meets q) (ap (λ (k : ℕ). normalised k net) i ∙ sym there) (normalised_meets q net h),
        λ h. met_when_normalised q net (subst (λ (k : ℕ). Formed k net) (sym i) f) (subst (Meets q) (there ∙ ap (λ (k : ℕ). normalised k net) (sym i)) h),
      );
    }

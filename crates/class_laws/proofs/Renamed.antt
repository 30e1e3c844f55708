-- A network with its codes replaced: its values, its uses, its levels.
use Rattle.std.proofs.Common.{◌≡◌, ℕ, ◌+◌, ◌-◌, ◌*◌, ◌/◌, ◌%◌, ◌^◌, ◌<◌, ◌≤◌, Bool, true, false, cond, eqb, ◌⊎◌, List, [], ◌∷◌, ◌++◌, map, length, get_or, replicate, sym, refl, ap, ◌∙◌, subst, ap₂, inl, inr, arith}
use lib.ListN.{length-map, length-replicate, get_or-replicate}
use Rattle.std.proofs.lemmas.List.{get_or_append_left, get_or_push, length_push}
use Rattle.std.proofs.lemmas.Bool.{eq-eqb, ne_eqb, cases_lt, cases_eq}
use Rattle.mig.specs.declared.network.Gate.{Gate}
use Rattle.mig.specs.declared.question.Limits.{Limits}
use Rattle.mig.specs.Networks.{Net, Kind, size, node, complemented, value_at, gate_value, walk, output_value, GateBelow, Ordered, Formed, names, uses_in, uses, bits, levels}
use Rattle.mig.specs.Tables.{bit_at}
use Rattle.mig.specs.Questions.{question_of, row_start, level, Meets}
use Rattle.mig_laws.proofs.RowBits.{bits_lawful, length-input_bits}
use Rattle.mig_laws.proofs.Walks.{length-walk}
use Rattle.class_laws.specs.Renaming.{differ, complement_by, rename, rename_gate, rename_net, SameGates}

complement_by-node : (b s : ℕ) → complement_by b s / 2 ≡ s / 2
complement_by-node b s = omega arith

-- how nodes are renumbered: the nodes from m on are the gates, and begin at m' on the other side
pub record Renumbering (m m' : ℕ) (σ : ℕ → ℕ) : Type 0 where
  pub low : (j : ℕ) → j < m → node (σ j) < m'
  pub high : (j : ℕ) → m ≤ j → σ j ≡ 2 * ((j - m) + m')

complemented_by : (b s : ℕ) → complemented (complement_by b s) ≡ differ (complemented b) (complemented s)
complemented_by b s =
    elim (cases_eq (b % 2) 1) [
      | inl p ↦
          elim (cases_eq (s % 2) 1) [
            | inl q ↦
                ne_eqb (complement_by b s % 2) 1 (omega arith) ∙ sym (ap₂ differ (eq-eqb (b % 2) 1 p) (eq-eqb (s % 2) 1 q))
            | inr q ↦
                eq-eqb (complement_by b s % 2) 1 (omega arith) ∙ sym (ap₂ differ (eq-eqb (b % 2) 1 p) (ne_eqb (s % 2) 1 q))
          ]
      | inr p ↦
          elim (cases_eq (s % 2) 1) [
            | inl q ↦
                eq-eqb (complement_by b s % 2) 1 (omega arith) ∙ sym (ap₂ differ (ne_eqb (b % 2) 1 p) (eq-eqb (s % 2) 1 q))
            | inr q ↦
                ne_eqb (complement_by b s % 2) 1 (omega arith) ∙ sym (ap₂ differ (ne_eqb (b % 2) 1 p) (ne_eqb (s % 2) 1 q))
          ]
    ]

-- where the first p nodes reach, when the first p' stand on the other side
pub reach : {m m' : ℕ} {σ : ℕ → ℕ} → Renumbering m m' σ → (p p' j : ℕ) → m ≤ p → p' + m ≡ p + m' → j < p → node (σ j) < p'
reach {m} {m'} {σ} w p p' j a e h =
    elim (cases_lt j m) [ inl l ↦ omega (arith, w.low j l) | inr g ↦ omega (arith, w.high j g) ]

pub ordered_rename
    : {m m' : ℕ} {σ : ℕ → ℕ}
    → Renumbering m m' σ
    → (gs : List Gate) (p p' : ℕ)
    → m ≤ p
    → p' + m ≡ p + m'
    → Ordered p gs
    → Ordered p' (map (rename_gate σ) gs)
unfolding Ordered
ordered_rename w [] p p' a e h = tt
ordered_rename {σ = σ} w (g ∷ gs) p p' a e h = (
  (
    omega (arith, reach w p p' (node g.first) a e h.0.0, complement_by-node g.first (σ (node g.first))),
    omega (arith, reach w p p' (node g.second) a e h.0.1, complement_by-node g.second (σ (node g.second))),
    omega (arith, reach w p p' (node g.third) a e h.0.2, complement_by-node g.third (σ (node g.third))),
  ),
  ordered_rename w gs (p + 1) (p' + 1) (omega arith) (omega arith) h.1,
)

pub names-rename
    : {m m' : ℕ} {σ : ℕ → ℕ} → Renumbering m m' σ → (j c : ℕ) → m ≤ j → names ((j - m) + m') (rename σ c) ≡ names j c
names-rename {m} {m'} {σ} w j c a =
    elim (cases_eq (node c) j) [
      | inl e ↦
          let u : m ≤ node c = omega arith in
          ap (λ (b : Bool). cond b 1 0)
          (eq-eqb (node (rename σ c)) ((j - m) + m') (omega (arith, complement_by-node c (σ (node c)), w.high (node c) u))
          ∙ sym (eq-eqb (node c) j e)
          )
      | inr ne ↦
          ap (λ (b : Bool). cond b 1 0)
          (ne_eqb (node (rename σ c)) ((j - m) + m') (λ q. other (cases_lt (node c) m) ne q)
          ∙ sym (ne_eqb (node c) j ne)
          )
    ]
  where
    other : (node c < m) ⊎ (m ≤ node c) → (node c ≡ j → ⊥) → node (rename σ c) ≡ (j - m) + m' → ⊥
    other (inl l) ne q = omega (arith, complement_by-node c (σ (node c)), w.low (node c) l)
    other (inr g) ne q = ne (omega (arith, complement_by-node c (σ (node c)), w.high (node c) g))

pub uses-rename
    : {m m' : ℕ} {σ : ℕ → ℕ}
    → Renumbering m m' σ
    → (gs : List Gate) (j : ℕ)
    → m ≤ j
    → uses_in ((j - m) + m') (map (rename_gate σ) gs) ≡ uses_in j gs
unfolding uses_in
uses-rename w [] j a = refl
uses-rename {m} {m'} {σ} w (g ∷ gs) j a =
    omega (
      arith,
      names-rename w j g.first a,
      names-rename w j g.second a,
      names-rename w j g.third a,
      uses-rename w gs j a,
    )

-- values in which complementing twice gives the value back
module _ {V : Type 0} (k : Kind V) (back : (x : V) → k.complement (k.complement x) ≡ x) where
  -- the value x, complemented if b
  abbrev pub flip_if : Bool → V → V
  flip_if b x = cond b (k.complement x) x

  pub flip_two : (b c : Bool) (x : V) → flip_if (differ b c) x ≡ flip_if b (flip_if c x)
  flip_two true true x = sym (back x)
  flip_two true false x = refl
  flip_two false true x = refl
  flip_two false false x = refl

  pub value_by : (vs : List V) (b s : ℕ) → value_at k vs (complement_by b s) ≡ flip_if (complemented b) (value_at k vs s)
  value_by vs b s =
      ap₂ (λ (d : Bool) (j : ℕ). flip_if d (get_or vs j k.constant)) (complemented_by b s) (complement_by-node b s)
      ∙ flip_two (complemented b) (complemented s) (get_or vs (node s) k.constant)

  pub value_even : (vs : List V) (p : ℕ) → value_at k vs (2 * p) ≡ get_or vs p k.constant
  value_even vs p =
      ap₂ (λ (d : Bool) (j : ℕ). flip_if d (get_or vs j k.constant)) (ne_eqb ((2 * p) % 2) 1 (omega arith)) (half p)
    where
      half : (q : ℕ) → (2 * q) / 2 ≡ q
      half q = omega arith

  -- each node's value stands at its code on the other side
  abbrev pub Agree : (ℕ → ℕ) → List V → List V → Type 0
  Agree σ vs vs' = (j : ℕ) → j < length vs → value_at k vs' (σ j) ≡ get_or vs j k.constant

  pub value_rename
      : (σ : ℕ → ℕ) (vs vs' : List V) (c : ℕ)
      → Agree σ vs vs'
      → node c < length vs
      → value_at k vs' (rename σ c) ≡ value_at k vs c
  value_rename σ vs vs' c a h = value_by vs' c (σ (node c)) ∙ ap (flip_if (complemented c)) (a (node c) h)

  pub gate-rename
      : (σ : ℕ → ℕ) (vs vs' : List V) (g : Gate)
      → Agree σ vs vs'
      → GateBelow (length vs) g
      → gate_value k vs' (rename_gate σ g) ≡ gate_value k vs g
  gate-rename σ vs vs' g a h =
      let p = value_rename σ vs vs' g.first a h.0 in
      let q = value_rename σ vs vs' g.second a h.1 in
      let r = value_rename σ vs vs' g.third a h.2 in
      λ i. k.majority (p i) (q i) (r i)

  module _ {m m' : ℕ} {σ : ℕ → ℕ} (w : Renumbering m m' σ) where
    pub agree_more
        : (vs vs' : List V) (v v' : V)
        → m ≤ length vs
        → length vs' + m ≡ length vs + m'
        → v' ≡ v
        → Agree σ vs vs'
        → Agree σ (vs ++ (v ∷ [])) (vs' ++ (v' ∷ []))
    agree_more vs vs' v v' l e same a j h =
        elim (cases_lt j (length vs)) [
          | inl b ↦
              ap (flip_if (complemented (σ j))) (get_or_append_left vs' (v' ∷ []) k.constant (node (σ j)) (reach w (length vs) (length vs') j l e b))
              ∙ a j b
              ∙ sym (get_or_append_left vs (v ∷ []) k.constant j b)
          | inr b ↦
              let here : length vs ≡ j = omega (arith, length_push vs v) in
              let there : σ j ≡ 2 * length vs' = omega (arith, w.high j (omega arith)) in
              ap (value_at k (vs' ++ (v' ∷ []))) there
              ∙ value_even (vs' ++ (v' ∷ [])) (length vs')
              ∙ get_or_push vs' v' k.constant (length vs') refl
              ∙ same
              ∙ sym (get_or_push vs v k.constant j here)
        ]

    pub walk-rename
        : (gs : List Gate) (vs vs' : List V)
        → m ≤ length vs
        → length vs' + m ≡ length vs + m'
        → Ordered (length vs) gs
        → Agree σ vs vs'
        → Agree σ (walk k vs gs) (walk k vs' (map (rename_gate σ) gs))
    unfolding walk Ordered
    walk-rename [] vs vs' l e o a = a
    walk-rename (g ∷ gs) vs vs' l e o a =
        let v = gate_value k vs g in
        let v' = gate_value k vs' (rename_gate σ g) in
        walk-rename gs (vs ++ (v ∷ [])) (vs' ++ (v' ∷ []))
        (omega (arith, length_push vs v))
        (omega (arith, length_push vs v, length_push vs' v'))
        (subst (λ (p : ℕ). Ordered p gs) (sym (length_push vs v)) o.1)
        (agree_more vs vs' v v' l e (gate-rename σ vs vs' g a o.0) a)

    pub output_rename
        : (net : Net) (o : ℕ) (vs vs' : List V)
        → length vs ≡ m
        → length vs' ≡ m'
        → Ordered m net.gates
        → node net.output < m + size net
        → Agree σ vs vs'
        → output_value k vs' (rename_net σ o net) ≡ flip_if (complemented o) (output_value k vs net)
    output_rename net o vs vs' l l' ord out a =
        value_by (walk k vs' (map (rename_gate σ) net.gates)) o (rename σ net.output)
        ∙ ap (flip_if (complemented o))
        (value_rename σ (walk k vs net.gates) (walk k vs' (map (rename_gate σ) net.gates)) net.output
        (walk-rename net.gates vs vs' (omega arith) (omega arith) (subst (λ (p : ℕ). Ordered p net.gates) (sym l) ord) a)
        (omega (arith, length-walk k vs net.gates)))

-- how a question over n inputs corresponds to one over n': where the nodes go, and which row is read
pub record Correspondence (n n' f f' o : ℕ) (σ row : ℕ → ℕ) : Type 0 where
  pub renumbering : Renumbering (n + 1) (n' + 1) σ
  pub within : (t : ℕ) → t < 2 ^ n' → row t < 2 ^ n
  pub inputs : (t j : ℕ) → t < 2 ^ n' → j < n + 1 → value_at bits (row_start n' t) (σ j) ≡ get_or (row_start n (row t)) j false
  pub values : (t : ℕ) → t < 2 ^ n' → differ (complemented o) (bit_at f (row t)) ≡ bit_at f' t

stay : (b : Bool) (x : ℕ) → cond b x x ≡ x
stay true x = refl
stay false x = refl

pub size-rename : (σ : ℕ → ℕ) (o : ℕ) (net : Net) → size (rename_net σ o net) ≡ size net
size-rename σ o net = length-map net.gates (rename_gate σ)

pub uses-rename_net
    : {m m' : ℕ} {σ : ℕ → ℕ}
    → Renumbering m m' σ
    → (o : ℕ) (net : Net) (j : ℕ)
    → m ≤ j
    → uses ((j - m) + m') (rename_net σ o net) ≡ uses j net
uses-rename_net {m} {m'} {σ} w o net j a =
    ap₂ (λ (x y : ℕ). x + y) (uses-rename w net.gates j a)
    (ap (λ (x : ℕ). cond (eqb x ((j - m) + m')) 1 0) (complement_by-node o (rename σ net.output))
    ∙ names-rename w j net.output a
    )

level_start : (m m' j c : ℕ) → j < m → node c < m' → value_at levels (replicate m' 0) c ≡ get_or (replicate m 0) j 0
level_start m m' j c h h' =
    stay (complemented c) (get_or (replicate m' 0) (node c) 0)
    ∙ get_or-replicate m' (node c) 0 0 h'
    ∙ sym (get_or-replicate m j 0 0 h)

levels_agree : (n n' : ℕ) {σ : ℕ → ℕ} → Renumbering (n + 1) (n' + 1) σ → Agree levels (λ x. refl) σ (replicate (n + 1) 0) (replicate (n' + 1) 0)
levels_agree n n' {σ} w j q =
    let b : j < n + 1 = subst (λ (x : ℕ). j < x) (length-replicate (n + 1) 0) q in
    level_start (n + 1) (n' + 1) j (σ j) b (w.low j b)

-- the level is that of the network
renamed_level : (n n' : ℕ) {σ : ℕ → ℕ} → Renumbering (n + 1) (n' + 1) σ → (o : ℕ) (net : Net) → Formed n net → level n' (rename_net σ o net) ≡ level n net
renamed_level n n' {σ} w o net h =
    output_rename levels (λ x. refl) w net o (replicate (n + 1) 0) (replicate (n' + 1) 0)
    (length-replicate (n + 1) 0)
    (length-replicate (n' + 1) 0)
    h.gates
    h.output
    (levels_agree n n' w)
    ∙ stay (complemented o) (level n net)

-- each gate has the level that it had
renamed_gate_level : (n n' : ℕ) {σ : ℕ → ℕ} → Renumbering (n + 1) (n' + 1) σ → (o : ℕ) (net : Net) → Formed n net → (i : ℕ) → i < size net
    → get_or (walk levels (replicate (n' + 1) 0) (rename_net σ o net).gates) (n' + 1 + i) 0 ≡ get_or (walk levels (replicate (n + 1) 0) net.gates) (n + 1 + i) 0
renamed_gate_level n n' {σ} w o net h i l =
    let start : List ℕ = replicate (n + 1) 0 in
    let start' : List ℕ = replicate (n' + 1) 0 in
    let long : length start ≡ n + 1 = length-replicate (n + 1) 0 in
    let long' : length start' ≡ n' + 1 = length-replicate (n' + 1) 0 in
    let there : σ (n + 1 + i) ≡ 2 * (n' + 1 + i) = w.high (n + 1 + i) (omega arith) ∙ omega arith in
    sym (value_even levels (λ x. refl) (walk levels start' (rename_net σ o net).gates) (n' + 1 + i))
    ∙ ap (value_at levels (walk levels start' (rename_net σ o net).gates)) (sym there)
    ∙ walk-rename levels (λ x. refl) w net.gates start start' (omega arith) (omega arith)
    (subst (λ (p : ℕ). Ordered p net.gates) (sym long) h.gates)
    (levels_agree n n' w)
    (n + 1 + i)
    (omega (arith, length-walk levels start net.gates))

renamed_formed : (n n' : ℕ) {σ : ℕ → ℕ} → Renumbering (n + 1) (n' + 1) σ → (o : ℕ) (net : Net) → Formed n net → Formed n' (rename_net σ o net)
renamed_formed n n' {σ} w o net h =
    let out = net.output in
    record {
      gates = ordered_rename w net.gates (n + 1) (n' + 1) (omega arith) (omega arith) h.gates;
      output =
          omega (
            arith,
            size-rename σ o net,
            complement_by-node o (rename σ out),
            complement_by-node out (σ (node out)),
            reach w (n + 1 + size net) (n' + 1 + size net) (node out) (omega arith) (omega arith) h.output,
          );
    }

-- a renamed network has as many gates, and each has the level and the fan-out that it had
pub renamed_same_gates : (n n' : ℕ) {σ : ℕ → ℕ} → Renumbering (n + 1) (n' + 1) σ → (o : ℕ) (net : Net) → Formed n net → SameGates n n' net (rename_net σ o net)
renamed_same_gates n n' {σ} w o net h =
    record {
      formed = renamed_formed n n' w o net h;
      gates = size-rename σ o net;
      level = renamed_level n n' w o net h;
      gate_levels = renamed_gate_level n n' w o net h;
      fan_outs =
          λ i.
          let there : (n + 1 + i - (n + 1)) + (n' + 1) ≡ n' + 1 + i = omega arith in
          ap (λ (j : ℕ). uses j (rename_net σ o net)) (sym there) ∙ uses-rename_net w o net (n + 1 + i) (omega arith);
    }

rename_by : (τ : ℕ → ℕ) (o c : ℕ) → rename τ (complement_by o c) ≡ complement_by o (rename τ c)
rename_by τ o c =
    ap (λ (j : ℕ). complement_by (complement_by o c) (τ j)) (complement_by-node o c) ∙ moved (τ (node c))
  where
    moved : (x : ℕ) → complement_by (complement_by o c) x ≡ complement_by o (complement_by c x)
    moved x = omega arith

-- a code renamed there and back
rename_back : (σ τ : ℕ → ℕ) → ((j : ℕ) → rename τ (σ j) ≡ 2 * j) → (c : ℕ) → rename τ (rename σ c) ≡ c
rename_back σ τ back c = rename_by τ c (σ (node c)) ∙ ap (complement_by c) (back (node c)) ∙ whole
  where
    whole : complement_by c (2 * node c) ≡ c
    whole = omega arith

rename_gates_back : (σ τ : ℕ → ℕ) → ((j : ℕ) → rename τ (σ j) ≡ 2 * j) → (gs : List Gate) → map (rename_gate τ) (map (rename_gate σ) gs) ≡ gs
rename_gates_back σ τ back [] = refl
rename_gates_back σ τ back (g ∷ gs) =
    let first = rename_back σ τ back g.first in
    let second = rename_back σ τ back g.second in
    let third = rename_back σ τ back g.third in
    let rest = rename_gates_back σ τ back gs in
    λ i. record { first = first i; second = second i; third = third i } ∷ rest i

-- a network renamed there and back, its output complemented both times or neither time
pub rename_net_back : (σ τ : ℕ → ℕ) (o : ℕ) → ((j : ℕ) → rename τ (σ j) ≡ 2 * j) → (net : Net) → rename_net τ o (rename_net σ o net) ≡ net
rename_net_back σ τ o back net =
    let gates = rename_gates_back σ τ back net.gates in
    let output : complement_by o (rename τ (complement_by o (rename σ net.output))) ≡ net.output =
    ap (complement_by o) (rename_by τ o (rename σ net.output) ∙ ap (complement_by o) (rename_back σ τ back net.output))
    ∙ twice net.output in
    λ i. record { gates = gates i; output = output i }
  where
    twice : (c : ℕ) → complement_by o (complement_by o c) ≡ c
    twice c = elim (cases_eq (o % 2) 1) [ inl e ↦ omega (arith, complement_by-node o c) | inr e ↦ omega (arith, complement_by-node o c) ]

-- a network that meets a question, renamed, meets the corresponding one, within the same limits
pub transfer
    : {n n' f f' o : ℕ} {σ row : ℕ → ℕ} (limits : Limits) (net : Net)
    → Correspondence n n' f f' o σ row
    → Meets (question_of n f limits) net
    → Meets (question_of n' f' limits) (rename_net σ o net)
transfer {n} {n'} {f} {f'} {o} {σ} {row} limits net p h =
    let w = p.renumbering in
    record {
      formed = renamed_formed n n' w o net h.formed;
      computes =
          λ t l.
          output_rename bits bits_lawful.twice w net o (row_start n (row t)) (row_start n' t)
          (omega (arith, length-input_bits n (row t)))
          (omega (arith, length-input_bits n' t))
          h.formed.gates
          h.formed.output
          (λ j q. p.inputs t j l (omega (arith, length-input_bits n (row t))))
          ∙ ap (differ (complemented o)) (h.computes (row t) (p.within t l))
          ∙ p.values t l;
      within = record {
        level = subst (λ (x : ℕ). x ≤ limits.depth) (sym (renamed_level n n' w o net h.formed)) h.within.level;
        fan_outs =
            λ j a b.
            let i = (j - (n' + 1)) + (n + 1) in
            let back : (i - (n + 1)) + (n' + 1) ≡ j = omega arith in
            let e : uses j (rename_net σ o net) ≡ uses i net =
            ap (λ (x : ℕ). uses x (rename_net σ o net)) (sym back) ∙ uses-rename_net w o net i (omega arith) in
            subst (λ (x : ℕ). x ≤ limits.fan_out) (sym e) (h.within.fan_outs i (omega arith) (omega (arith, size-rename σ o net)));
      };
    }

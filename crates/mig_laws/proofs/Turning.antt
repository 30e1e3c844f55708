-- Turning one gate of a well-formed network, and normalising all of them.
use Rattle.std.proofs.Common.{◌≡◌, ℕ, zero, suc, ◌+◌, ◌<◌, ◌≤◌, Bool, true, false, cond, eqb, leb, ◌⊎◌, List, [], ◌∷◌, ◌++◌, map, length, get_or, take, drop, set, replicate, sym, refl, ap, ◌∙◌, subst, ap₂, inl, inr, arith}
use Rattle.std.proofs.lemmas.List.{map-append, map-set, set-get_or, set_at, get_or-map, get_or_at, get_or_append_left, take-append-drop, drop_more, length-take-le, get_or-take}
use Rattle.std.proofs.lemmas.Bool.{ne_eqb, cond-false, cases_Bool, cases_lt, leb-true, leb-false, lt-leb}
use Rattle.mig.specs.declared.network.Gate.{Gate}
use Rattle.mig.specs.declared.question.Question.{Question}
use Rattle.mig.specs.Networks.{Net, size, Kind, Lawful, node, empty_gate, value_at, gate_value, walk, output_value, Ordered, Formed, bits, levels}
use Rattle.mig.specs.Questions.{row_start, row_bit, Meets}
use Rattle.mig.specs.Normal.{flip, flip_naming, map_gate, complements, gate_at, Normal, turned, gate_normalised, first_normalised, normalised, SameNodes, SameShape}
use Rattle.mig_laws.proofs.Walks.{walk-append, length-walk, ordered_left}
use Rattle.mig_laws.proofs.RowBits.{bits_lawful, length-input_bits}
use Rattle.mig_laws.proofs.Flips.{node-flip, node-flip_naming, gate-flip, value_turned, turned_start, walk-turned, complements-flip}
use Rattle.mig_laws.proofs.Nodes.{same_size, same_formed, same_levels, same_uses, same_refl, same_trans, level_at}

-- gates that stand before the node m do not name it
unnamed : (m k : ℕ) (gs : List Gate) → Ordered k gs → k + length gs ≤ m → map (map_gate (flip_naming m)) gs ≡ gs
unfolding Ordered
unnamed m k [] h l = refl
unnamed m k (g ∷ gs) h l =
    ap₂ (λ (x : Gate) (xs : List Gate). x ∷ xs) (gate (other g.first (omega (arith, h.0.0))) (other g.second (omega (arith, h.0.1))) (other g.third (omega (arith, h.0.2))))
    (unnamed m (k + 1) gs h.1 (omega arith))
  where
    other : (c : ℕ) → node c < m → flip_naming m c ≡ c
    other c h = cond-false (eqb (node c) m) (flip c) c (ne_eqb (node c) m (omega arith))

    gate : {x y z : ℕ} → x ≡ g.first → y ≡ g.second → z ≡ g.third → ◌≡◌ {A = Gate} (record { first = x; second = y; third = z }) g
    gate e f h = rw (e, f, h)

-- a list in three parts: before a place, at it, behind it
parts : (gs : List Gate) (i : ℕ) → i < length gs → gs ≡ take i gs ++ get_or gs i empty_gate ∷ drop (i + 1) gs
parts gs i h = sym (take-append-drop i gs) ∙ ap (λ xs. take i gs ++ xs) (drop_more gs i empty_gate h)

-- the gates of a network of which one gate is turned
turned_gates : (n i : ℕ) (net : Net) → Formed n net → i < size net
    → (turned n i net).gates ≡ take i net.gates ++ map_gate flip (gate_at net i) ∷ map (map_gate (flip_naming (n + 1 + i))) (drop (i + 1) net.gates)
turned_gates n i net h l =
    let f = map_gate (flip_naming (n + 1 + i)) in
    let g = gate_at net i in
    let gs = net.gates in
    let long : length (take i gs) ≡ i = length-take-le i gs (omega arith) in
    let whole : gs ≡ take i gs ++ g ∷ drop (i + 1) gs = parts gs i l in
    let before : map f (take i gs) ≡ take i gs = unnamed (n + 1 + i) (n + 1) (take i gs) (ordered_left (n + 1) (take i gs) (drop i gs) (subst (Ordered (n + 1)) (sym (take-append-drop i gs)) h.gates)) (omega arith) in
    ap (λ xs. set xs i (map_gate flip g)) (ap (map f) whole ∙ map-append f (take i gs) (g ∷ drop (i + 1) gs) ∙ ap (λ xs. xs ++ f g ∷ map f (drop (i + 1) gs)) before)
    ∙ set_at (take i gs) (f g) (map f (drop (i + 1) gs)) (map_gate flip g) i long

-- turning a gate keeps the value of the output, in every lawful kind
turned_keeps_value : {V : Type 0} (k : Kind V) → Lawful k → (n i : ℕ) (net : Net) → Formed n net → i < size net
    → (vs : List V) → length vs ≡ n + 1 → output_value k vs (turned n i net) ≡ output_value k vs net
unfolding walk
turned_keeps_value k law n i net h l vs long =
    let f = map_gate (flip_naming (n + 1 + i)) in
    let g = gate_at net i in
    let xs = take i net.gates in
    let ys = drop (i + 1) net.gates in
    let us = walk k vs xs in
    let m : length us ≡ n + 1 + i = length-walk k vs xs ∙ omega (arith, length-take-le i net.gates (omega arith)) in
    let before : walk k vs net.gates ≡ walk k (us ++ gate_value k us g ∷ []) ys =
    ap (walk k vs) (parts net.gates i l) ∙ walk-append k vs xs (g ∷ ys) in
    let after : walk k vs (turned n i net).gates ≡ walk k (us ++ k.complement (gate_value k us g) ∷ []) (map f ys) =
    ap (walk k vs) (turned_gates n i net h l) ∙ walk-append k vs xs (map_gate flip g ∷ map f ys) ∙ ap (λ v. walk k (us ++ v ∷ []) (map f ys)) (gate-flip k law us g) in
    let t = walk-turned k law (n + 1 + i) (us ++ gate_value k us g ∷ []) (us ++ k.complement (gate_value k us g) ∷ []) (turned_start k (n + 1 + i) us (gate_value k us g) m) ys in
    ap (λ ws. value_at k ws (flip_naming (n + 1 + i) net.output)) after
    ∙ value_turned k law (n + 1 + i) (walk k (us ++ gate_value k us g ∷ []) ys) (walk k (us ++ k.complement (gate_value k us g) ∷ []) (map f ys)) t net.output
    ∙ ap (λ ws. value_at k ws net.output) (sym before)

-- turning a gate leaves the nodes that the codes name
turned_nodes : (n i : ℕ) (net : Net) → i < size net → SameNodes net (turned n i net)
turned_nodes n i net l =
    let f = map_gate (flip_naming (n + 1 + i)) in
    record {
      gates =
          map-set (map_gate node) (map f net.gates) i (map_gate flip (gate_at net i))
          ∙ ap₂ (λ (xs : List Gate) (x : Gate). set xs i x) (flipped net.gates) (turn (gate_at net i) ∙ sym (get_or-map (map_gate node) net.gates i empty_gate empty_gate l))
          ∙ set-get_or (map (map_gate node) net.gates) i empty_gate;
      output = node-flip_naming (n + 1 + i) net.output;
    }
  where
    turn : (g : Gate) → map_gate node (map_gate flip g) ≡ map_gate node g
    turn g = rw (node-flip g.first, node-flip g.second, node-flip g.third)

    flipped : (gs : List Gate) → map (map_gate node) (map (map_gate (flip_naming (n + 1 + i))) gs) ≡ map (map_gate node) gs
    flipped [] = refl
    flipped (g ∷ gs) = rw (node-flip_naming (n + 1 + i) g.first, node-flip_naming (n + 1 + i) g.second, node-flip_naming (n + 1 + i) g.third, flipped gs)

-- where normalising stands after the first i gates
pub record Normalising (n i : ℕ) (net other : Net) : Type 0 where
  pub formed : Formed n other
  pub nodes : SameNodes net other
  pub normal : (j : ℕ) → j < i → complements (gate_at other j) ≤ 1

-- the gates before a turned one stay as they are
turned_before : (n i j : ℕ) (net : Net) → Formed n net → i < size net → j < i → gate_at (turned n i net) j ≡ gate_at net j
turned_before n i j net h l b =
    let long = length-take-le i net.gates (omega arith) in
    ap (λ gs. get_or gs j empty_gate) (turned_gates n i net h l)
    ∙ get_or_append_left (take i net.gates) _ empty_gate j (omega arith)
    ∙ get_or-take i net.gates j empty_gate b

turned_at : (n i : ℕ) (net : Net) → Formed n net → i < size net → gate_at (turned n i net) i ≡ map_gate flip (gate_at net i)
turned_at n i net h l =
    ap (λ gs. get_or gs i empty_gate) (turned_gates n i net h l)
    ∙ get_or_at (take i net.gates) (map_gate flip (gate_at net i)) _ empty_gate i (length-take-le i net.gates (omega arith))

-- one gate more
step : (n i : ℕ) (net other : Net) → i < size other → Normalising n i net other → Normalising n (i + 1) net (gate_normalised n i other)
step n i net other l s = at (cases_Bool (leb 2 (complements (gate_at other i))))
  where
    turn : 2 ≤ complements (gate_at other i) → Normalising n (i + 1) net (turned n i other)
    turn h =
        record {
          formed = same_formed n other (turned n i other) (turned_nodes n i other l) s.formed;
          nodes = same_trans net other (turned n i other) s.nodes (turned_nodes n i other l);
          normal = λ j b. place j b (cases_lt j i);
        }
      where
        place : (j : ℕ) → j < i + 1 → (j < i) ⊎ (i ≤ j) → complements (gate_at (turned n i other) j) ≤ 1
        place j b (inl a) = rw (turned_before n i j other s.formed l a) (s.normal j a)
        place j b (inr a) =
            let e : i ≡ j = omega arith in
            subst (λ (p : ℕ). complements (gate_at (turned n i other) p) ≤ 1) e (rw (turned_at n i other s.formed l) (complements-flip (gate_at other i) h))

    keep : complements (gate_at other i) ≤ 1 → Normalising n (i + 1) net other
    keep h =
        record {
          formed = s.formed;
          nodes = s.nodes;
          normal = λ j b. place j b (cases_lt j i);
        }
      where
        place : (j : ℕ) → j < i + 1 → (j < i) ⊎ (i ≤ j) → complements (gate_at other j) ≤ 1
        place j b (inl a) = s.normal j a
        place j b (inr a) = let e : i ≡ j = omega arith in subst (λ (p : ℕ). complements (gate_at other p) ≤ 1) e h

    at : (leb 2 (complements (gate_at other i)) ≡ true) ⊎ (leb 2 (complements (gate_at other i)) ≡ false) → Normalising n (i + 1) net (gate_normalised n i other)
    at (inl e) = rw e (turn (leb-true 2 (complements (gate_at other i)) e))
    at (inr e) = rw e (keep (omega (arith, leb-false 2 (complements (gate_at other i)) e)))

pub first_normalised_lem : (n i : ℕ) (net : Net) → Formed n net → i ≤ size net → Normalising n i net (first_normalised n i net)
unfolding first_normalised
first_normalised_lem n zero net h l = record { formed = h; nodes = same_refl net; normal = λ j b. absurd (omega arith) }
first_normalised_lem n (suc i) net h l =
    let s = first_normalised_lem n i net h (omega arith) in
    let e : i + 1 ≡ suc i = omega arith in
    subst (λ (p : ℕ). Normalising n p net (gate_normalised n i (first_normalised n i net))) e
    (step n i net (first_normalised n i net) (omega (arith, same_size net (first_normalised n i net) s.nodes)) s)

-- the normalised network is well-formed, names the same nodes, and is normal
normalised_formed : (n : ℕ) (net : Net) → Formed n net → Formed n (normalised n net)
normalised_formed n net h = (first_normalised_lem n (size net) net h (omega arith)).formed

normalised_nodes : (n : ℕ) (net : Net) → Formed n net → SameNodes net (normalised n net)
normalised_nodes n net h = (first_normalised_lem n (size net) net h (omega arith)).nodes

pub normalised_normal : (n : ℕ) (net : Net) → Formed n net → Normal (normalised n net)
normalised_normal n net h i l =
    (first_normalised_lem n (size net) net h (omega arith)).normal i (omega (arith, same_size net (normalised n net) (normalised_nodes n net h)))

first_keeps_value : {V : Type 0} (k : Kind V) → Lawful k → (n i : ℕ) (net : Net) → Formed n net → i ≤ size net
    → (vs : List V) → length vs ≡ n + 1 → output_value k vs (first_normalised n i net) ≡ output_value k vs net
unfolding first_normalised
first_keeps_value k law n zero net h l vs long = refl
first_keeps_value k law n (suc i) net h l vs long =
    let other = first_normalised n i net in
    let s = first_normalised_lem n i net h (omega arith) in
    at (leb 2 (complements (gate_at other i))) (turned_keeps_value k law n i other s.formed (omega (arith, same_size net other s.nodes)) vs long)
    ∙ first_keeps_value k law n i net h (omega arith) vs long
  where
    at : (b : Bool) → output_value k vs (turned n i (first_normalised n i net)) ≡ output_value k vs (first_normalised n i net) → output_value k vs (cond b (turned n i (first_normalised n i net)) (first_normalised n i net)) ≡ output_value k vs (first_normalised n i net)
    at true e = e
    at false e = refl

-- normalising keeps the value of the output, in every lawful kind
pub normalised_keeps_value : {V : Type 0} (k : Kind V) → Lawful k → (n : ℕ) (net : Net) → Formed n net
    → (vs : List V) → length vs ≡ n + 1 → output_value k vs (normalised n net) ≡ output_value k vs net
normalised_keeps_value k law n net h vs long = first_keeps_value k law n (size net) net h (omega arith) vs long

-- a normal network stays as it is
first_normal : (n i : ℕ) (net : Net) → Normal net → i ≤ size net → first_normalised n i net ≡ net
unfolding first_normalised
first_normal n zero net h l = refl
first_normal n (suc i) net h l =
    rw (first_normal n i net h (omega arith))
    (cond-false (leb 2 (complements (gate_at net i))) (turned n i net) net (lt-leb 2 (complements (gate_at net i)) (omega (arith, h i (omega arith)))))

pub normal_stays : (n : ℕ) (net : Net) → Normal net → normalised n net ≡ net
normal_stays n net h = first_normal n (size net) net h (omega arith)

-- the normalised network has the same shape
pub normalised_shape : (n : ℕ) (net : Net) → Formed n net → SameShape n net (normalised n net)
normalised_shape n net h =
    let s = normalised_nodes n net h in
    let l = same_levels net (normalised n net) s (replicate (n + 1) 0) in
    record {
      nodes = s;
      gates = same_size net (normalised n net) s;
      levels = l;
      level =
          level_at (walk levels (replicate (n + 1) 0) (normalised n net).gates) (normalised n net).output
          ∙ rw (l, s.output) (sym (level_at (walk levels (replicate (n + 1) 0) net.gates) net.output));
      fan_outs = same_uses net (normalised n net) s;
    }

-- the normalised network computes the same in every row
normalised_row : (n : ℕ) (net : Net) → Formed n net → (t : ℕ) → row_bit n (normalised n net) t ≡ row_bit n net t
normalised_row n net h t = normalised_keeps_value bits bits_lawful n net h (row_start n t) (let l = length-input_bits n t in omega arith)

-- the normalised network meets the questions that the network meets
pub normalised_meets : (q : Question) (net : Net) → Meets q net → Meets q (normalised q.inputs net)
normalised_meets q net h =
    let n = q.inputs in
    let s = normalised_shape n net h.formed in
    record {
      formed = normalised_formed n net h.formed;
      computes = λ t l. normalised_row n net h.formed t ∙ h.computes t l;
      within = record {
        level = rw s.level h.within.level;
        fan_outs = λ j a b. rw (s.fan_outs j) (h.within.fan_outs j a (omega (arith, s.gates)));
      };
    }

-- and no others
pub met_when_normalised : (q : Question) (net : Net) → Formed q.inputs net → Meets q (normalised q.inputs net) → Meets q net
met_when_normalised q net f h =
    let n = q.inputs in
    let s = normalised_shape n net f in
    record {
      formed = f;
      computes = λ t l. sym (normalised_row n net f t) ∙ h.computes t l;
      within = record {
        level = rw (← s.level) h.within.level;
        fan_outs = λ j a b. rw (← s.fan_outs j) (h.within.fan_outs j a (omega (arith, s.gates)));
      };
    }

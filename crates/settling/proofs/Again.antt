-- An order that comes again asks nothing.
use Rattle.std.proofs.Common.{◌≡◌, ℕ, ◌+◌, min, Bool, true, false, ◌||◌, ltb, Option, Some, None, inl, inr, refl, ap, ◌∙◌, arith}
use Rattle.std.proofs.lemmas.Bool.{cases_lt, or_left, or_right, lt-ltb, eq-eqb}
use Rattle.mig.specs.declared.network.Network.{Network}
use Rattle.mig.specs.Networks.{net_of, size}
use Rattle.mig.specs.Normal.{normalised}
use Rattle.mig_laws.proofs.Turning.{normalised_shape}
use Rattle.filing.specs.declared.key.Key.{Key}
use Rattle.filing.specs.Filing.{key_question}
use Rattle.entry.specs.Held.{Held, Sound, gates_of, at_most, is_number, is_settled}
use Rattle.settling.specs.Settles.{Settles, SettlesIf, Found, asks_nothing}
use Rattle.settling.proofs.Bounds.{raised_bound, least_exactly}

-- where a network is found, what is kept is settled
pub found_is_settled : (k : Key) (g : ℕ) (h h' : Held) (asked : ℕ) → Sound k h → Found k g h h' asked → is_settled h' ≡ true
found_is_settled k g h h' asked s f =
    let net = net_of f.found in
    let bound = raised_bound (key_question k) h.lower f.least s.lower_bound f.none_before in
    let gates : size (normalised 4 net) ≡ f.least = (normalised_shape 4 net f.holds.meets.formed).gates ∙ least_exactly (key_question k) f.least f.found bound f.holds in
    ap is_settled f.kept ∙ eq-eqb _ _ gates

-- where none is found, the lower number is above the limit, or is that of the kept network
none_asks_nothing : (g : ℕ) (o : Option Network) → (ltb g (at_most (g + 1) (gates_of o)) || is_number (at_most (g + 1) (gates_of o)) (gates_of o)) ≡ true
none_asks_nothing g None = or_left _ _ (lt-ltb g (g + 1) (omega arith))
none_asks_nothing g (Some network) =
    let u = network.count in
    elim (cases_lt g u) [ inl l ↦ or_left _ _ (lt-ltb g (min (g + 1) u) (omega arith)) | inr m ↦ or_right _ _ (eq-eqb u (min (g + 1) u) (omega arith)) ]

again_if : (b : Bool) (k : Key) (g : ℕ) (h h' : Held) (asked : ℕ) → asks_nothing g h ≡ b → Sound k h → SettlesIf b k g h h' asked → asks_nothing g h' ≡ true
again_if true k g h h' asked e s f = ap (asks_nothing g) f.0 ∙ e
again_if false k g h h' asked e s (inl f) = or_right _ _ (found_is_settled k g h h' asked s f)
again_if false k g h h' asked e s (inr f) = ap (asks_nothing g) f.kept ∙ none_asks_nothing g h.network

-- after an order, one with the same limit asks nothing
pub again_asks_nothing : (k : Key) (g : ℕ) (h h' : Held) (asked : ℕ) → Sound k h → Settles k g h h' asked → asks_nothing g h' ≡ true
again_asks_nothing k g h h' asked s f = again_if (asks_nothing g h) k g h h' asked refl s f

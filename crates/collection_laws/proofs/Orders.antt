-- What an order gives, or that there is none, where what was kept before is right.
use Rattle.std.proofs.Common.{◌≡◌, ℕ, ◌+◌, ◌<◌, ◌≤◌, Bool, true, false, cond, ◌||◌, leb, Some, None, Option, IfSome, refl, ap, sym, subst, inl, inr, ◌⊎◌, arith}
use Rattle.std.proofs.lemmas.Bool.{cases_lt, true≢false, le-ltb, lt-ltb, leb-true, leb-false, eqb-true}
use Rattle.mig.specs.declared.network.Network.{Network}
use Rattle.mig.specs.Networks.{net_of, network_of, size}
use Rattle.mig.specs.Normal.{normalised}
use Rattle.mig_laws.proofs.Turning.{normalised_shape}
use Rattle.search.specs.Meaning.{NoneWithin}
use Rattle.filing.specs.declared.key.Key.{Key}
use Rattle.filing.specs.Filing.{key_question, Keepable}
use Rattle.entry.specs.Held.{Held, Sound, gates_of, at_most, is_number, is_settled}
use Rattle.settling.specs.Settles.{asks_nothing, Settles, SettlesIf, Found}
use Rattle.settling.proofs.Bounds.{settles_sound}
use Rattle.collection_laws.specs.Calls.{within, network_given}

-- where the lower number was not above the limit: a kept network with no more gates than the limit settles its key, and without one the
-- lower number is above the limit
abbrev Decided : ℕ → ℕ → Option Network → Type 0
Decided g lower None = g < lower
Decided g lower (Some network) = (network.count ≡ lower) ⊎ ((g < network.count) × (g < lower))

-- the kept network may be kept under the key, and has at least as many gates as the lower number says
counted : (k : Key) (h : Held) (network : Network) → Sound k h → h.network ≡ Some network → Keepable k network × (h.lower ≤ network.count)
counted k h network sound e =
    let keepable : Keepable k network = subst (λ o. IfSome o (Keepable k)) e sound.keepable in
    let count : network.count ≡ size (net_of network) = ap (λ (x : Network). x.count) keepable.cleared in
    (keepable, omega (arith, sound.lower_bound (net_of network) keepable.meets, count))

found_decided : (k : Key) (g : ℕ) (h h' : Held) (asked : ℕ) → Sound k h' → Found k g h h' asked → Decided g h'.lower h'.network
found_decided k g h h' asked sound f =
    let network = network_of (normalised 4 (net_of f.found)) in
    let same = (normalised_shape 4 (net_of f.found) f.holds.meets.formed).gates in
    let least = counted k (record { lower = f.least; network = Some network }) network (subst (Sound k) f.kept sound) refl in
    let gates : network.count ≡ f.least = omega (arith, least.1, same, f.holds.few) in
    subst (λ (x : Held). Decided g x.lower x.network) (sym f.kept) (inl gates)

-- the lower number is the stop
at_stop : (g : ℕ) (o : Option Network) → Decided g (at_most (g + 1) (gates_of o)) o
at_stop g None = omega arith
at_stop g (Some network) =
    elim (cases_lt g network.count) [
      | inl above ↦ inr (above, omega arith)
      | inr within ↦ inl (omega arith)
    ]

-- the lower number is the number of gates
settled : (g lower : ℕ) (o : Option Network) → is_number lower (gates_of o) ≡ true → Decided g lower o
settled g lower None e = absurd (true≢false (sym e))
settled g lower (Some network) e = inl (eqb-true network.count lower e)

decided_if : (b : Bool) (k : Key) (g : ℕ) (h h' : Held) (asked : ℕ) → is_settled h ≡ b → Sound k h' → SettlesIf b k g h h' asked → Decided g h'.lower h'.network
decided_if true k g h h' asked e sound (same, none) = subst (λ (x : Held). Decided g x.lower x.network) (sym same) (settled g h.lower h.network e)
decided_if false k g h h' asked e sound (inl f) = found_decided k g h h' asked sound f
decided_if false k g h h' asked e sound (inr f) = subst (λ (x : Held). Decided g x.lower x.network) (sym f.kept) (at_stop g h.network)

-- after an order whose limit was not below the lower number
decided : (k : Key) (g : ℕ) (h h' : Held) (asked : ℕ) → Sound k h → h.lower ≤ g → Settles k g h h' asked → Decided g h'.lower h'.network
decided k g h h' asked sound low s =
    let asks : asks_nothing g h ≡ is_settled h = ap (λ (b : Bool). b || is_settled h) (le-ltb g h.lower low) in
    decided_if (is_settled h) k g h h' asked refl (settles_sound k g h h' asked sound s) (subst (λ (b : Bool). SettlesIf b k g h h' asked) asks s)

within_some : (g : ℕ) (o : Option Network) (network : Network) → within g o ≡ Some network → (o ≡ Some network) × (network.count ≤ g)
within_some g None network e = absurd cc
within_some g (Some other) network e = at (leb other.count g) refl e
  where
    at : (b : Bool) → leb other.count g ≡ b → cond b (Some other) None ≡ Some network → (Some other ≡ Some network) × (network.count ≤ g)
    at true p same = (same, subst (λ (x : Option Network). IfSome x (λ n. n.count ≤ g)) same (leb-true other.count g p))
    at false p same = absurd cc

none_within : (g lower : ℕ) (o : Option Network) → within g o ≡ None → Decided g lower o → g < lower
none_within g lower None e below = below
none_within g lower (Some network) e d = at (leb network.count g) refl e d
  where
    at : (b : Bool) → leb network.count g ≡ b → ◌≡◌ {A = Option Network} (cond b (Some network) None) None → Decided g lower (Some network) → g < lower
    at true p none d = absurd cc
    at false p none (inl same) = omega (arith, leb-false network.count g p, same)
    at false p none (inr d) = d.1

-- a network that an order gives may be kept under the key, has as many gates as the lower number says, and no more than the limit
pub order_given : (k : Key) (g : ℕ) (h h' : Held) (asked : ℕ) (network : Network) → Sound k h → Settles k g h h' asked → network_given g h h' ≡ Some network
    → Keepable k network × (network.count ≡ h'.lower) × (h'.lower ≤ g)
order_given k g h h' asked network sound s e = at (cases_lt g h.lower)
  where
    at : (g < h.lower) ⊎ (h.lower ≤ g) → Keepable k network × (network.count ≡ h'.lower) × (h'.lower ≤ g)
    at (inl below) = let none = rw (lt-ltb g h.lower below) at e in absurd cc
    at (inr low) =
        let (there, few) = within_some g h'.network network (rw (le-ltb g h.lower low) at e) in
        let keepable = (counted k h' network (settles_sound k g h h' asked sound s) there).0 in
        let same : network.count ≡ h'.lower =
        elim (subst (λ (o : Option Network). Decided g h'.lower o) there (decided k g h h' asked sound low s)) [
          | inl same ↦ same
          | inr above ↦ absurd (omega (arith, above.0, few))
        ] in
        (keepable, same, omega (arith, same, few))

-- where an order gives no network, there is none within its limit
pub order_none : (k : Key) (g : ℕ) (h h' : Held) (asked : ℕ) → Sound k h → Settles k g h h' asked → network_given g h h' ≡ None → NoneWithin (key_question k) g
order_none k g h h' asked sound s e net met few = at (cases_lt g h.lower)
  where
    at : (g < h.lower) ⊎ (h.lower ≤ g) → ⊥
    at (inl below) = omega (arith, sound.lower_bound net met, below, few)
    at (inr low) =
        let above = none_within g h'.lower h'.network (rw (le-ltb g h.lower low) at e) (decided k g h h' asked sound low s) in
        omega (arith, (settles_sound k g h h' asked sound s).lower_bound net met, above, few)

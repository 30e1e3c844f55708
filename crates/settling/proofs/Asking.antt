-- What asking has shown is what an order leaves kept.
use Rattle.std.proofs.Common.{◌≡◌, ℕ, ◌+◌, ◌<◌, ◌≤◌, false, Option, Some, None, IfSome, ◌⊎◌, inl, inr, ap, arith}
use Rattle.std.proofs.lemmas.Bool.{eqb-false, le-ltb}
use Rattle.mig.specs.declared.network.Network.{Network}
use Rattle.mig.specs.Networks.{net_of, network_of}
use Rattle.mig.specs.Normal.{normalised}
use Rattle.search.specs.Meaning.{Holds}
use Rattle.least_gates.specs.Asked.{FoundAt, NoneFound as NoneAsked}
use Rattle.filing.specs.declared.key.Key.{Key}
use Rattle.filing.specs.Filing.{key_question}
use Rattle.entry.specs.Held.{Held, Sound, upper, at_most, is_number, stop, is_settled}
use Rattle.settling.specs.Settles.{Settles, Found, NoneFound}
use Rattle.settling.proofs.Bounds.{upper_not_below}

-- a place that holds a network of at most r gates counts no more
few_counted : (k : Key) (r : ℕ) (network : Network) → Holds (key_question k) r network → network.count ≤ r
few_counted k r network h = omega (arith, ap (λ (n : Network). n.count) h.cleared, h.few)

-- an order that asks has its first number below the one where it stops
pub asks_below_stop : (k : Key) (g : ℕ) (h : Held) → Sound k h → h.lower ≤ g → is_settled h ≡ false → h.lower < stop g h
asks_below_stop k g h s few unsettled = below (upper h) (upper_not_below k h s) unsettled
  where
    below : (u : Option ℕ) → IfSome u (λ n. h.lower ≤ n) → is_number h.lower u ≡ false → h.lower < at_most (g + 1) u
    below None b e = omega arith
    below (Some u) b e = let n = eqb-false u h.lower e in omega arith

-- an order stops no later than one above its gate limit
stop_within : (g : ℕ) (u : Option ℕ) → at_most (g + 1) u ≤ g + 1
stop_within g None = omega arith
stop_within g (Some u) = omega arith

-- an order that asks
asking : (k : Key) (g : ℕ) (h h' : Held) (asked : ℕ) → h.lower ≤ g → is_settled h ≡ false → Found k g h h' asked ⊎ NoneFound k g h h' asked → Settles k g h h' asked
asking k g h h' asked few unsettled f = rw (le-ltb g h.lower few, unsettled) f

pub found_settles : (k : Key) (g : ℕ) (h h' : Held) (least asked : ℕ) (found : Network) → h.lower ≤ g → is_settled h ≡ false → g ≤ 7
    → FoundAt (key_question k) h.lower (stop g h) least asked found
    → h' ≡ record { lower = least; network = Some (network_of (normalised 4 (net_of found))) }
    → Settles k g h h' asked
found_settles k g h h' least asked found few unsettled small f e =
    asking k g h h' asked few unsettled (inl (record {
      found = found;
      least = least;
      in_places = omega (arith, few_counted k least found f.holds, stop_within g (upper h));
      holds = f.holds;
      not_below = f.not_below;
      before_stop = f.below;
      none_before = f.none_before;
      kept = e;
      all_counted = f.all_counted;
    }))

pub none_settles : (k : Key) (g : ℕ) (h h' : Held) (lower asked : ℕ) (place place' : Network) → Sound k h → h.lower ≤ g → is_settled h ≡ false
    → NoneAsked (key_question k) h.lower (stop g h) lower asked place place'
    → h' ≡ record { lower = lower; network = h.network }
    → Settles k g h h' asked
none_settles k g h h' lower asked place place' s few unsettled f e =
    let below = asks_below_stop k g h s few unsettled in
    let known : lower ≡ stop g h = omega (arith, f.known) in
    asking k g h h' asked few unsettled (inr (record {
      some_asked = below;
      none = f.none;
      kept = rw (← known) e;
      all_counted = f.all_counted;
    }))

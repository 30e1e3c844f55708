-- Lower numbers and what asking shows; what is kept stays right.
use Rattle.std.proofs.Common.{◌≡◌, ℕ, ◌≤◌, Bool, true, false, Option, Some, None, IfSome, inl, inr, sym, subst, arith, length-take}
use Rattle.std.proofs.lemmas.Bool.{cases_lt}
use Rattle.mig.specs.declared.network.Network.{Network}
use Rattle.mig.specs.declared.question.Question.{Question}
use Rattle.mig.specs.Networks.{net_of, size}
use Rattle.search.specs.Meaning.{Holds}
use Rattle.least_gates.specs.Asked.{NoneFrom}
use Rattle.filing.specs.declared.key.Key.{Key}
use Rattle.filing.specs.Filing.{key_question, Keepable}
use Rattle.filing.proofs.Carried.{keepable_normalised}
use Rattle.entry.specs.declared.entry.Entry.{Entry}
use Rattle.entry.specs.Bounds.{LowerBound}
use Rattle.entry.specs.Held.{Held, held, Sound, upper, gates_of, stop}
use Rattle.settling.specs.Settles.{Settles, SettlesIf, Found, NoneFound, asks_nothing}

-- a place has at least the gates of its network
size_counted : (network : Network) → size (net_of network) ≤ network.count
size_counted network = omega (arith, length-take network.count network.gates)

-- "none" at each number from a lower bound on raises the bound
pub raised_bound : (q : Question) (l s : ℕ) → LowerBound q l → NoneFrom q l s → LowerBound q s
raised_bound q l s b none net m =
    elim (cases_lt (size net) s) [ inl few ↦ absurd (none (size net) (b net m) few net m (omega arith)) | inr e ↦ e ]

-- a found network of no more gates than a lower bound has exactly so many
pub least_exactly : (q : Question) (r : ℕ) (network : Network) → LowerBound q r → Holds q r network → size (net_of network) ≡ r
least_exactly q r network b h = omega (arith, b (net_of network) h.meets, h.few)

-- the lower number is no more than the gates of the kept network
pub upper_not_below : (k : Key) (h : Held) → Sound k h → IfSome (upper h) (λ u. h.lower ≤ u)
upper_not_below k h s = of_kept h.network s.keepable
  where
    of_kept : (o : Option Network) → IfSome o (Keepable k) → IfSome (gates_of o) (λ u. h.lower ≤ u)
    of_kept None kept = tt
    of_kept (Some network) kept = omega (arith, s.lower_bound (net_of network) kept.meets, size_counted network)

-- what an entry keeps is right
pub entry_sound : (e : Entry) → Sound e.key (held e)
entry_sound e = record { lower_bound = e.lower_bound; keepable = e.keepable }

found_sound : (k : Key) (g : ℕ) (h h' : Held) (asked : ℕ) → Sound k h → Found k g h h' asked → Sound k h'
found_sound k g h h' asked s f =
    subst (Sound k) (sym f.kept) (record {
      lower_bound = raised_bound (key_question k) h.lower f.least s.lower_bound f.none_before;
      keepable = keepable_normalised k (net_of f.found) f.holds.meets (omega (arith, size_counted f.found, f.in_places));
    })

none_found_sound : (k : Key) (g : ℕ) (h h' : Held) (asked : ℕ) → Sound k h → NoneFound k g h h' asked → Sound k h'
none_found_sound k g h h' asked s f =
    subst (Sound k) (sym f.kept) (record {
      lower_bound = raised_bound (key_question k) h.lower (stop g h) s.lower_bound f.none;
      keepable = s.keepable;
    })

settles_if_sound : (b : Bool) (k : Key) (g : ℕ) (h h' : Held) (asked : ℕ) → Sound k h → SettlesIf b k g h h' asked → Sound k h'
settles_if_sound true k g h h' asked s f = subst (Sound k) (sym f.0) s
settles_if_sound false k g h h' asked s (inl f) = found_sound k g h h' asked s f
settles_if_sound false k g h h' asked s (inr f) = none_found_sound k g h h' asked s f

-- what an order leaves kept is right where what was kept is
pub settles_sound : (k : Key) (g : ℕ) (h h' : Held) (asked : ℕ) → Sound k h → Settles k g h h' asked → Sound k h'
settles_sound k g h h' asked s f = settles_if_sound (asks_nothing g h) k g h h' asked s f

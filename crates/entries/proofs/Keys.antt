-- The order of keys: total, and it tells all keys apart.
use Rattle.std.proofs.Common.{◌≡◌, ℕ, ap, ◌∙◌}
use Rattle.std.specs.declared.cmp.Ordering.TheVariants.{Less, Equal, Greater}
use Rattle.std.specs.Ordering.{nat_cmp, ordering_reverse}
use Rattle.std.specs.Cmp.{IsTotalOrder}
use Rattle.std.proofs.lemmas.Cmp.{then_total, on_total, nat_cmp_total, tied_itself}
use Rattle.std.proofs.lemmas.Map.Lookups.{CmpEqualImpliesEq, exact_pairs, exact_unsigned}
use Rattle.mig.specs.declared.question.Limits.{Limits}
use Rattle.filing.specs.declared.key.Key.{Key}
use Rattle.filing.specs.Filing.{limits_cmp, key_cmp}

limits_total : IsTotalOrder limits_cmp
limits_total = then_total (on_total (λ l. l.depth) nat_cmp_total) (on_total (λ l. l.fan_out) nat_cmp_total)

pub keys_total : IsTotalOrder key_cmp
keys_total = then_total (on_total (λ k. k.table) nat_cmp_total) (on_total (λ k. k.limits) limits_total)

exact_limits : CmpEqualImpliesEq limits_cmp
exact_limits a b h = ap (λ (p : ℕ × ℕ). record { depth = p.0; fan_out = p.1 }) (exact_pairs nat_cmp nat_cmp exact_unsigned exact_unsigned (a.depth, a.fan_out) (b.depth, b.fan_out) h)

-- keys that compare alike are one
pub exact_keys : CmpEqualImpliesEq key_cmp
exact_keys a b h = ap (λ (p : ℕ × Limits). record { table = p.0; limits = p.1 }) (exact_pairs nat_cmp limits_cmp exact_unsigned exact_limits (a.table, a.limits) (b.table, b.limits) h)

-- a key compares alike with itself
pub alike : (k q : Key) → q ≡ k → key_cmp k q ≡ Equal
alike k q h = ap (key_cmp k) h ∙ tied_itself keys_total k

-- the order the other way round
pub greater_back : (a b : Key) → key_cmp a b ≡ Less → key_cmp b a ≡ Greater
greater_back a b h = keys_total.antisymm b a ∙ ap ordering_reverse h

pub less_back : (a b : Key) → key_cmp a b ≡ Greater → key_cmp b a ≡ Less
less_back a b h = keys_total.antisymm b a ∙ ap ordering_reverse h

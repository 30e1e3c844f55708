-- The trail grown by what follows from clauses.
use Rattle.std.proofs.Common.{◌≡◌, ℕ, ◌+◌, ◌/◌, ◌<◌, List, length, get_or, arith}
use Rattle.sat_laws.specs.Formulas.{literal_at, WellFormed}
use Rattle.sat_laws.specs.Trails.{Consistent}
use Rattle.sat_laws.specs.Steps.{Grown}
use Rattle.sat_laws.proofs.Trails.{has_room}

pub grown_trans : {ws ends : List ℕ} {k : ℕ} {v1 t1 k1 : List ℕ} {top1 : ℕ} {v2 t2 k2 : List ℕ} {top2 : ℕ} {v3 t3 k3 : List ℕ} {top3 : ℕ}
    → length v2 ≡ length v1
    → Grown ws ends k v1 t1 k1 top1 v2 t2 k2 top2 → Grown ws ends k v2 t2 k2 top2 v3 t3 k3 top3 → Grown ws ends k v1 t1 k1 top1 v3 t3 k3 top3
grown_trans e g h = record {
  consistent = h.consistent;
  justified = λ F snd u. h.justified F snd (g.justified F snd u);
  less = λ n l. omega (arith, g.less n l, h.less n (omega arith));
}

pub open_room : (ws ends : List ℕ) (k : ℕ) (values trail kinds : List ℕ) (top : ℕ) → WellFormed ws ends k (length values) → Consistent values trail kinds top → (c : ℕ) → c < k
    → (r : ℕ) → r < get_or ends (c + 1) 0 → get_or values (literal_at ws r / 2) 0 ≡ 0 → (literal_at ws r / 2 < length values) × (top < length values)
open_room ws ends k values trail kinds top sh b c h r lt free =
    let lv : literal_at ws r / 2 < length values = sh.small r (omega (arith, sh.rising (c + 1) k (omega arith) (omega arith))) in
    (lv, has_room values trail kinds top _ b lv free)

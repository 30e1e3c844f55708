-- Lists of one part after another.
use Rattle.std.proofs.Common.{◌≡◌, ℕ, zero, suc, ◌+◌, ◌<◌, List, ◌++◌, map, refl, ap, ◌∙◌, arith}
use Rattle.std.proofs.lemmas.List.{map-append}
use Rattle.cnf.specs.Variables.{each}

-- a function of each of many parts
pub map_each : {X Y : Type 0} (f : X → Y) (a m : ℕ) (g : ℕ → List X) → map f (each a m g) ≡ each a m (λ x. map f (g x))
unfolding each
map_each f a zero g = refl
map_each f a (suc m) g = map-append f (g a) (each (suc a) m g) ∙ ap (λ ys. map f (g a) ++ ys) (map_each f (suc a) m g)

-- parts that are the same
pub each_same : {X : Type 0} (a m : ℕ) (f g : ℕ → List X) → ((x : ℕ) → x < a + m → f x ≡ g x) → each a m f ≡ each a m g
unfolding each
each_same a zero f g h = refl
each_same a (suc m) f g h =
    rw (h a (omega arith), each_same (suc a) m f g (λ x l. h x (omega arith)))

-- the parts of the numbers that follow
pub each_later : {X : Type 0} (a m : ℕ) (g : ℕ → List X) → each (suc a) m g ≡ each a m (λ x. g (suc x))
unfolding each
each_later a zero g = refl
each_later a (suc m) g = ap (λ xs. g (suc a) ++ xs) (each_later (suc a) m g)

-- What small clauses say of the values of their literals.
use Rattle.std.proofs.Common.{◌≡◌, Bool, true, false, not, ◌||◌, arith}

-- the one literal holds
pub one_says : (x : Bool) → (x || false) ≡ true → x ≡ true
one_says x h = grind arith

pub one_met : (x : Bool) → x ≡ true → (x || false) ≡ true
one_met x h = grind arith

-- if the first holds, so does the second
pub two_says : (x y : Bool) → (not x || (y || false)) ≡ true → x ≡ true → y ≡ true
two_says x y h e = grind arith

pub two_met : (x y : Bool) → (x ≡ true → y ≡ true) → (not x || (y || false)) ≡ true
two_met x y h = grind arith

-- if the first two hold, so does the third
pub three_says : (x y z : Bool) → (not x || (not y || (z || false))) ≡ true → x ≡ true → y ≡ true → z ≡ true
three_says x y z h e f = grind arith

pub three_met : (x y z : Bool) → (x ≡ true → y ≡ true → z ≡ true) → (not x || (not y || (z || false))) ≡ true
three_met x y z h = grind arith

-- not both hold
pub not_both_says : (x y : Bool) → (not x || (not y || false)) ≡ true → x ≡ true → y ≡ true → ⊥
not_both_says x y h e f = grind arith

pub not_both_met : (x y : Bool) → (x ≡ true → y ≡ true → ⊥) → (not x || (not y || false)) ≡ true
not_both_met x y h = grind arith

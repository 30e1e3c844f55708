-- A truth value as a number.
use Rattle.std.proofs.Common.{◌≡◌, Bool, true, false, refl}
use mir.Val.{bool_byte}
use Rattle.mig_laws.proofs.Tables.{one}

-- the number that the language makes of a truth value
pub bit_number : (b : Bool) → bool_byte b ≡ one b
bit_number true = refl
bit_number false = refl

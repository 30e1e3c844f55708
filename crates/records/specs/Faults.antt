-- In which layer a fault of a collection's bytes lies.
use Rattle.std.specs.Prelude.{ℕ}
use Rattle.mig.specs.declared.refusal.Refusal.{Refusal}
use Rattle.mig.specs.declared.refusal.Refusal.TheVariants.{BytesEndInRecord, WrongRecordLength, UnknownRecordKind}

-- 1, the bytes; 2, a record; 3, what is then refused of a record's network
abbrev pub layer_of : Refusal → ℕ
layer_of BytesEndInRecord = 1
layer_of WrongRecordLength = 2
layer_of UnknownRecordKind = 2
layer_of _ = 3

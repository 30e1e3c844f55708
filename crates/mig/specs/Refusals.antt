-- The numbers of the refusals.
use Rattle.std.specs.Prelude.{ℕ}
use Rattle.mig.specs.declared.refusal.Refusal.{Refusal}
use Rattle.mig.specs.declared.refusal.Refusal.TheVariants.{InputsAboveFour, TableBitBeyondRows, DepthLimitAboveSeven, FanOutLimitOutOfRange, GatesAboveReach, TooFewWorkWords, CollectionFull, KeyNotKept, MalformedNetwork, WrongTable, LevelAboveLimit, FanOutAboveLimit, NoImprovement, BufferTooShort, BytesEndInRecord, WrongRecordLength, UnknownRecordKind, NoAssignment, ClauseFails}

-- the number of a refusal
abbrev pub number_of : Refusal → ℕ
number_of InputsAboveFour = 1
number_of TableBitBeyondRows = 2
number_of DepthLimitAboveSeven = 3
number_of FanOutLimitOutOfRange = 4
number_of GatesAboveReach = 5
number_of TooFewWorkWords = 6
number_of CollectionFull = 7
number_of KeyNotKept = 8
number_of MalformedNetwork = 9
number_of WrongTable = 10
number_of LevelAboveLimit = 11
number_of FanOutAboveLimit = 12
number_of NoImprovement = 13
number_of BufferTooShort = 14
number_of BytesEndInRecord = 15
number_of WrongRecordLength = 16
number_of UnknownRecordKind = 17
number_of NoAssignment = 18
number_of ClauseFails = 19

-- How gates, networks and refusals are written.
use Rattle.std.specs.Prelude.{ℕ, List, [], ◌∷◌, ◌++◌, codes}
use Rattle.std.specs.Fmt.{decimal}
use Rattle.std.specs.List.{flat_map}
use Rattle.mig.specs.declared.network.Gate.{Gate}
use Rattle.mig.specs.declared.network.Network.{Network}
use Rattle.mig.specs.declared.refusal.Refusal.{Refusal}
use Rattle.mig.specs.declared.refusal.Refusal.TheVariants.{InputsAboveFour, TableBitBeyondRows, DepthLimitAboveSeven, FanOutLimitOutOfRange, GatesAboveReach, TooFewWorkWords, CollectionFull, KeyNotKept, MalformedNetwork, WrongTable, LevelAboveLimit, FanOutAboveLimit, NoImprovement, BufferTooShort, BytesEndInRecord, WrongRecordLength, UnknownRecordKind, NoAssignment, ClauseFails}
use Rattle.mig.specs.Networks.{net_of}

-- a gate: its codes in decimal digits, with dots between them
abbrev pub gate_text : Gate → List ℕ
gate_text g = decimal g.first ++ (46 ∷ (decimal g.second ++ (46 ∷ decimal g.third)))

-- gates, with a comma before each
abbrev pub later_gates_text : List Gate → List ℕ
later_gates_text gs = flat_map (λ g. 44 ∷ gate_text g) gs

-- gates, with commas between them
abbrev pub gates_text : List Gate → List ℕ
gates_text [] = []
gates_text (g ∷ gs) = gate_text g ++ later_gates_text gs

-- a network: its gates, a colon, and the code of its output
abbrev pub network_text : Network → List ℕ
network_text network = gates_text (net_of network).gates ++ (58 ∷ decimal network.output)

-- what a refusal says
abbrev pub refusal_text : Refusal → List ℕ
refusal_text InputsAboveFour = codes "more than four inputs"
refusal_text TableBitBeyondRows = codes "a table bit behind the last row"
refusal_text DepthLimitAboveSeven = codes "depth limit above 7"
refusal_text FanOutLimitOutOfRange = codes "fan-out limit 0 or above 19"
refusal_text GatesAboveReach = codes "more gates than the search reaches"
refusal_text TooFewWorkWords = codes "too few work words"
refusal_text CollectionFull = codes "collection full"
refusal_text KeyNotKept = codes "key not kept"
refusal_text MalformedNetwork = codes "malformed network"
refusal_text WrongTable = codes "does not compute the table"
refusal_text LevelAboveLimit = codes "level above the depth limit"
refusal_text FanOutAboveLimit = codes "a gate's fan-out above the fan-out limit"
refusal_text NoImprovement = codes "no fewer gates than the kept network"
refusal_text BufferTooShort = codes "buffer too short"
refusal_text BytesEndInRecord = codes "the bytes end inside a record"
refusal_text WrongRecordLength = codes "a record length that its kind does not have"
refusal_text UnknownRecordKind = codes "unknown kind of record"
refusal_text NoAssignment = codes "not one byte of 0 or 1 for each variable"
refusal_text ClauseFails = codes "a clause fails"

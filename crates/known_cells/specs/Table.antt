-- The known cells and the answers on them.
use Rattle.std.specs.Prelude.{ℕ, List, [], ◌∷◌, ◌++◌, codes, Some, Ok, Err}
use Rattle.mig.specs.declared.network.Gate.{Gate}
use Rattle.mig.specs.declared.network.Network.{Network}
use Rattle.mig.specs.declared.question.Question.{Question}
use Rattle.mig.specs.declared.refusal.Refusal.TheVariants.{LevelAboveLimit}
use Rattle.mig.specs.Networks.{network_of}
use Rattle.records.specs.declared.reader.Part.{Part}
use Rattle.known_cells.specs.declared.KnownCells.{KnownCells}

-- the question of a number of inputs, a table and the two limits
abbrev pub question : ℕ → ℕ → ℕ → ℕ → Question
question n t d f = record { inputs = n; table = t; limits = record { depth = d; fan_out = f } }

-- the gate of three codes
abbrev pub gate : ℕ → ℕ → ℕ → Gate
gate a b c = record { first = a; second = b; third = c }

-- a network of one gate
abbrev pub one_gate : ℕ → ℕ → ℕ → ℕ → Network
one_gate a b c o = network_of (record { gates = gate a b c ∷ []; output = o })

-- the parity of three inputs: a majority, one with the third input complemented, and both of them with the third input
abbrev pub three_gates : Network
three_gates = network_of (record { gates = gate 2 4 6 ∷ gate 2 4 7 ∷ gate 9 10 6 ∷ []; output = 12 })

-- a record at the first byte: the majority of three inputs is one gate, within one level and fan-out 1
abbrev pub deposit_of_majority : Part
deposit_of_majority = record { place = 0; «record» = Ok (record { question = question 3 0xe8 1 1; network = one_gate 2 4 6 8 }) }

-- the clauses of the constant 1 over no input, with no gate: the output is the node 0, and if so it is complemented
abbrev pub smallest_clause_text : List ℕ
smallest_clause_text = codes "p cnf 2 2" ++ (10 ∷ (codes "1 0" ++ (10 ∷ (codes "-1 2 0" ++ (10 ∷ [])))))

-- the answers: level and greatest fan-out, a refusal, a normal form, representatives, a record, a text
abbrev pub table : KnownCells
table =
    record {
      majority = Ok (1, 1);
      conjunction = Ok (1, 1);
      parity = Ok (2, 1);
      parity_in_one_level = Err LevelAboveLimit;
      normal_form = Ok (one_gate 2 4 7 9);
      class_of_constant_0 = Ok 0x0000;
      class_of_constant_1 = Ok 0x0000;
      class_of_an_input = Ok 0x00ff;
      class_of_majority = Ok 0x033f;
      deposit_of_majority = Some deposit_of_majority;
      smallest_clause_text = smallest_clause_text;
    }

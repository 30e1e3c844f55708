-- Tables and networks over n inputs, and over N.
use Rattle.std.specs.Prelude.{ℕ, ◌+◌, ◌-◌, ◌*◌, ◌%◌, ◌^◌, cond, nat_le}
use Rattle.mig.specs.Networks.{Net}
use Rattle.mig.specs.Tables.{bit_at, table_from}
use Rattle.class_laws.specs.Renaming.{rename_net}

-- the table over n inputs in the 2^N rows of N inputs: row t has the value of row t mod 2^n
abbrev pub lift_table : ℕ → ℕ → ℕ → ℕ
lift_table N n f = table_from (2 ^ N) 0 (λ t. bit_at f (t % (2 ^ n)))

-- from n inputs to N: the constant and the inputs stay, the gates move up by N - n
abbrev pub raised_code : ℕ → ℕ → ℕ → ℕ
raised_code N n j = cond (nat_le j n) (2 * j) (2 * (j + (N - n)))

-- the network over n inputs as one over N
abbrev pub raise_net : ℕ → ℕ → Net → Net
raise_net N n net = rename_net (raised_code N n) 0 net

-- from N inputs to n: inputs above n become the constant 0, the gates move down by N - n
abbrev pub cut_code : ℕ → ℕ → ℕ → ℕ
cut_code N n j = cond (nat_le j n) (2 * j) (cond (nat_le j N) 0 (2 * (j - (N - n))))

-- the network over N inputs as one over n
abbrev pub cut_net : ℕ → ℕ → Net → Net
cut_net N n net = rename_net (cut_code N n) 0 net

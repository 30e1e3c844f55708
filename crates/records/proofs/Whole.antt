-- A record that is written is read back, whatever follows it.
use Rattle.std.proofs.Common.{◌≡◌, ℕ, ◌+◌, ◌*◌, ◌/◌, ◌%◌, ◌^◌, ◌<◌, ◌≤◌, List, [], ◌∷◌, ◌++◌, length, take, drop, Ok, refl, sym, ap, ◌∙◌, arith}
use Rattle.std.specs.List.{flat_map}
use Rattle.std.proofs.lemmas.List.{take_all, drop_at}
use Rattle.mig.specs.declared.network.Gate.{Gate}
use Rattle.mig.specs.declared.network.Network.{Network}
use Rattle.mig.specs.declared.question.Question.{Question}
use Rattle.mig.specs.Networks.{Net, size, net_of}
use Rattle.records.specs.Reading.{body_at}
use Rattle.records.specs.Records.{word, record_at, record_length, record_of, record_head, record_bytes, network_bytes, gate_codes}
use Rattle.records.specs.Parts.{part, parts_from}
use Rattle.records.proofs.Steps.{record_first}
use Rattle.records.proofs.Places.{content_placed}
use Rattle.records.proofs.Spelled.{codes_number, spelled_again}

-- a number of two bytes is that of its bytes
word_again : (n : ℕ) → n < 2 ^ 16 → word (n % 256) (n / 256 % 256) ≡ n
word_again n below = omega arith

-- the body of a record, and its kind before it
abbrev body_of : Question → ℕ → Net → List ℕ
body_of q lower net =
    q.inputs ∷ (q.table % 256 ∷ (q.table / 256 % 256 ∷ (q.limits.depth ∷ (q.limits.fan_out ∷ (lower ∷ network_bytes net)))))

abbrev content_of : Question → ℕ → Net → List ℕ
content_of q lower net = 1 ∷ (0 ∷ body_of q lower net)

body_again : (q : Question) (lower : ℕ) (net : Net) → q.table < 2 ^ 16 → size net ≤ 7 → body_at (body_of q lower net) ≡ Ok (record_of q net)
body_again q lower net below few =
    rw (word_again q.table below, spelled_again net few) refl

content_length : (q : Question) (lower : ℕ) (net : Net) → length (content_of q lower net) ≡ 10 + 3 * size net
content_length q lower net = omega (arith, codes_number net)

word_of_length : (net : Net) → size net ≤ 7 → word ((10 + 3 * size net) % 256) ((10 + 3 * size net) / 256 % 256) ≡ 10 + 3 * size net
word_of_length net few = word_again (10 + 3 * size net) (omega arith)

pub read_back : (q : Question) (lower : ℕ) (net : Net) (more : List ℕ) → q.table < 2 ^ 16 → size net ≤ 7
    → record_at (record_bytes q lower net ++ more) ≡ Ok (record_of q net)
read_back q lower net more below few =
    let l = 10 + 3 * size net in
    let number : word (l % 256) (l / 256 % 256) ≡ length (content_of q lower net) = word_of_length net few ∙ sym (content_length q lower net) in
    sym (content_placed (l % 256) (l / 256 % 256) (content_of q lower net) more number) ∙ body_again q lower net below few

pub length_again : (q : Question) (lower : ℕ) (net : Net) (more : List ℕ) → size net ≤ 7
    → record_length (record_bytes q lower net ++ more) ≡ length (record_bytes q lower net)
length_again q lower net more few = omega (arith, word_of_length net few, content_length q lower net)

-- reading goes on behind the record
pub goes_on_behind : (q : Question) (lower : ℕ) (net : Net) (place : ℕ) (more : List ℕ) → q.table < 2 ^ 16 → size net ≤ 7
    → parts_from place (record_bytes q lower net ++ more)
    ≡ part place (Ok (record_of q net)) ∷ parts_from (place + length (record_bytes q lower net)) more
goes_on_behind q lower net place more below few =
    let bytes = record_bytes q lower net in
    let long = length_again q lower net more few in
    let behind : drop (length bytes) (bytes ++ more) ≡ more = drop_at bytes more (length bytes) refl in
    record_first place (bytes ++ more) (record_of q net) (omega arith) (read_back q lower net more below few)
    ∙ rw (long, behind) refl

-- what writing leaves: the head, the codes of all gates, and the output's code
pub written_whole : (q : Question) (lower : ℕ) (network : Network) (start written items : List ℕ) (gates : List Gate) (i : ℕ)
    → gates ≡ (net_of network).gates → length gates ≡ network.count → length gates ≤ i → start ≡ record_head q lower network.count
    → written ≡ start ++ flat_map gate_codes (take i gates) → items ≡ written ++ (network.output ∷ [])
    → items ≡ record_bytes q lower (net_of network)
written_whole q lower network start written items gates i same counted all head codes whole =
    let net = net_of network in
    let number : network.count ≡ size net = sym counted ∙ ap (λ (gs : List Gate). length gs) same in
    let front : start ≡ record_head q lower (size net) = head ∙ ap (λ (k : ℕ). record_head q lower k) number in
    let back : take i gates ≡ net.gates = take_all i gates all ∙ same in
    whole
    ∙ ap (λ (bs : List ℕ). bs ++ (network.output ∷ []))
    (codes ∙ ap (λ (bs : List ℕ). bs ++ flat_map gate_codes (take i gates)) front
    ∙ ap (λ (gs : List Gate). record_head q lower (size net) ++ flat_map gate_codes gs) back)

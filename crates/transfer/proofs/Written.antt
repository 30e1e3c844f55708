-- Records written one behind another.
use Rattle.std.proofs.Common.{◌≡◌, ℕ, zero, suc, ◌+◌, ◌*◌, ◌<◌, ◌≤◌, get_or, List, [], ◌∷◌, ◌++◌, length, take, drop, Option, Some, None, IfSome, refl, sym, ap, ◌∙◌, append_assoc, append-nil, arith, length-append}
use Rattle.std.specs.List.{flat_map, sum_by}
use Rattle.std.proofs.lemmas.List.{take_at, drop_at, drop-drop}
use Rattle.std.proofs.lemmas.List.Sums.{sum_by-cons}
use borrow.Rule.Slice.PartMut.{put_mid}
use Rattle.mig.specs.declared.network.Gate.{Gate}
use Rattle.mig.specs.declared.network.Network.{Network}
use Rattle.mig.specs.declared.question.Question.{Question}
use Rattle.mig.specs.Networks.{Net, size, net_of}
use Rattle.filing.specs.declared.key.Key.{Key}
use Rattle.filing.specs.Filing.{key_question, Keepable}
use Rattle.entry.specs.declared.entry.Entry.{Entry}
use Rattle.entries.specs.Table.{table_of}
use Rattle.records.specs.Records.{record_bytes, gate_codes}
use Rattle.collection_laws.specs.Calls.{bytes_of, export_bytes, written}

-- three codes for each gate
codes_length : (gs : List Gate) → length (flat_map gate_codes gs) ≡ 3 * length gs
codes_length [] = refl
codes_length (g ∷ gs) = let h = codes_length gs in omega arith

record_length : (q : Question) (lower : ℕ) (net : Net) → length (record_bytes q lower net) ≡ 12 + 3 * size net
record_length q lower net = omega (arith, codes_length net.gates, length-append (flat_map gate_codes net.gates) (net.output ∷ []))

-- the record of a kept network
pub kept_length : (k : Key) (lower : ℕ) (kept : Option Network) (network : Network) → kept ≡ Some network → IfSome kept (Keepable k)
    → (length (bytes_of k lower kept) ≡ 12 + 3 * network.count) × (network.count ≤ 7)
kept_length k lower None network is h = absurd cc
kept_length k lower (Some m) network is h =
    let same : m ≡ network = cc in
    let counted : m.count ≡ size (net_of m) = ap (λ (n : Network). n.count) h.cleared in
    let count : m.count ≡ network.count = ap (λ (n : Network). n.count) same in
    let few : m.count ≤ 7 = h.few in
    (omega (arith, record_length (key_question k) lower (net_of m)), omega arith)

-- the records of one row more
pub row_more : (rows : List Entry) (i : ℕ) (row : Entry) → i < length rows → row ≡ get_or rows i row
    → export_bytes (table_of (take (i + 1) rows)) ≡ export_bytes (table_of (take i rows)) ++ bytes_of row.key row.lower row.network
row_more [] i row within is = absurd (omega arith)
row_more (x ∷ rows) zero row within is = rw is (append-nil _)
row_more (x ∷ rows) (suc i) row within is =
    let next : suc i + 1 ≡ suc (i + 1) = omega arith in
    rw next (ap (λ (bs : List ℕ). bytes_of x.key x.lower x.network ++ bs) (row_more rows i row (omega arith) is)
    ∙ sym (append_assoc (bytes_of x.key x.lower x.network) (export_bytes (table_of (take i rows))) (bytes_of row.key row.lower row.network)))

-- the record of a row that keeps a network is the next one
pub record_more : (rows : List Entry) (i : ℕ) (row : Entry) (network : Network) (q : Question) (bytes : List ℕ) → i < length rows
    → row ≡ get_or rows i row → row.network ≡ Some network → q ≡ key_question row.key → bytes ≡ record_bytes q row.lower (net_of network)
    → export_bytes (table_of (take (i + 1) rows)) ≡ export_bytes (table_of (take i rows)) ++ bytes
record_more rows i row network q bytes within is kept asked record_is =
    let same : bytes_of row.key row.lower row.network ≡ bytes =
    ap (bytes_of row.key row.lower) kept ∙ ap (λ (x : Question). record_bytes x row.lower (net_of network)) (sym asked) ∙ sym record_is in
    row_more rows i row within is ∙ ap (λ (bs : List ℕ). export_bytes (table_of (take i rows)) ++ bs) same

-- a row without a network has no record
pub none_more : (rows : List Entry) (i : ℕ) (row : Entry) → i < length rows → row ≡ get_or rows i row → row.network ≡ None
    → export_bytes (table_of (take (i + 1) rows)) ≡ export_bytes (table_of (take i rows))
none_more rows i row within is none =
    row_more rows i row within is
    ∙ ap (λ (o : Option Network). export_bytes (table_of (take i rows)) ++ bytes_of row.key row.lower o) none
    ∙ append-nil (export_bytes (table_of (take i rows)))

-- the records of the first rows are no more bytes than those of all
pub rows_within : (rows : List Entry) (i : ℕ) → length (export_bytes (table_of (take i rows))) ≤ length (export_bytes (table_of rows))
rows_within rows zero = omega arith
rows_within [] (suc i) = omega arith
rows_within (x ∷ rows) (suc i) =
    let h = rows_within rows i in
    let b = bytes_of x.key x.lower x.network in
    omega (arith, length-append b (export_bytes (table_of (take i rows))), length-append b (export_bytes (table_of rows)))

-- bytes written behind those that stand
pub written_more : (bytes more buffer now : List ℕ) (start count : ℕ) → start ≡ length bytes → count ≡ length more
    → now ≡ written bytes buffer → put_mid start count now more ≡ written (bytes ++ more) buffer
written_more bytes more buffer now start count from long is =
    let n = length bytes in
    let all : n + length more ≡ length (bytes ++ more) = sym (length-append bytes more) in
    let front : take n (written bytes buffer) ≡ bytes = take_at bytes (drop n buffer) n refl in
    let behind : drop (length more) (drop n (written bytes buffer)) ≡ drop (length (bytes ++ more)) buffer =
    ap (λ (bs : List ℕ). drop (length more) bs) (drop_at bytes (drop n buffer) n refl)
    ∙ drop-drop (length more) n buffer ∙ ap (λ (k : ℕ). drop k buffer) all in
    rw (from, long, is, front, behind) (sym (append_assoc bytes more (drop (length (bytes ++ more)) buffer)))

-- how many bytes the record of an entry takes
abbrev pub entry_bytes : Entry → ℕ
entry_bytes e = length (bytes_of e.key e.lower e.network)

-- the records of all rows are as many bytes as they are together
pub lengths : (rows : List Entry) → sum_by entry_bytes rows ≡ length (export_bytes (table_of rows))
lengths [] = refl
lengths (x ∷ rows) =
    let h = lengths rows in
    omega (arith, sum_by-cons entry_bytes x rows, length-append (bytes_of x.key x.lower x.network) (export_bytes (table_of rows)))

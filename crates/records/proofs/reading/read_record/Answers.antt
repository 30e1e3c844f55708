use Rattle.std.proofs.Common.{arith, ◌≡◌, ◌+◌, ◌-◌, ◌≤◌, ℕ, List, length, take, drop, Err, sym, ap, ◌∙◌, length-drop}
use Rattle.std.proofs.lemmas.List.{take_all, drop-drop}
use Rattle.std.proofs.lemmas.Result.{err_from_is_err_and}
use Rattle.records.specs.Records.{record_at, record_length}
use Rattle.records.specs.Reading.{content_at}
use Rattle.records.proofs.Steps.{head}
use Rattle.records.proofs.reading.read_record.Goals as goal
use Rattle.records.proofs.reading.read_record.Goals.{After-read_content}

-- what stands behind the length
after : (c : After-read_content) → take (length c.args.bytes.now - 2) (drop 2 c.args.bytes.now) ≡ drop 2 c.args.bytes.now
after c = take_all (length c.args.bytes.now - 2) (drop 2 c.args.bytes.now) (omega (arith, length-drop 2 c.args.bytes.now))

-- the record of the content is that of the bytes
placed : (c : After-read_content) → record_at c.args.bytes.now ≡ c.read_content.result
placed c =
    let bytes = c.args.bytes.now in
    let w = c.from-length.result in
    let long : w ≤ length (drop 2 bytes) = omega (arith, ap length (after c)) in
    let content : c.split_at.result.0.now ≡ take w (drop 2 bytes) = c.split_at.ensures.front ∙ ap (λ (bs : List ℕ). take w bs) (after c) in
    head bytes w c.in-len2-up.len_at_least (omega (arith, c.from_le_bytes.ensures, c.from-length.ensures)) long
    ∙ sym (ap content_at content) ∙ sym c.read_content.ensures

pub returns-in_err-read_content : goal.returns-in_err-read_content
returns-in_err-read_content c =
    let fault = err_from_is_err_and c.from_residual.result c.from_residual.ensures.1 in
    rw fault.1 (placed (goal.at.returns-in_err-read_content c).After-read_content ∙ c.in_err-read_content.was ∙ ap Err (sym fault.2))

pub returns : goal.returns
returns c =
    let bytes = c.args.bytes.now in
    let at = (goal.at.returns c).After-read_content in
    let w = c.from-length.result in
    let behind : c.split_at.result.1.now ≡ drop w (drop 2 bytes) = c.split_at.ensures.back ∙ ap (λ (bs : List ℕ). drop w bs) (after at) in
    let number : 2 + w ≡ record_length bytes = omega (arith, c.from_le_bytes.ensures, c.from-length.ensures) in
    (placed at ∙ c.in_ok-read_content.was, behind ∙ drop-drop w 2 bytes ∙ ap (λ (n : ℕ). drop n bytes) number)

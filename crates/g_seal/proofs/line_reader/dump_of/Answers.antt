use Rattle.std.proofs.Common.{ℕ, List, [], ◌++◌, Some, refl, sym, ◌∙◌, ap, append-nil}
use Rattle.std.specs.Prelude.{codes}
use Rattle.hex.specs.Hex.{encode_lower}
use Rattle.g_seal.specs.SealText.{sum_text}
use Rattle.g_seal.proofs.EntryLemmas.{after_number, after_place, after_serial, dump_right}
use Rattle.g_seal.proofs.line_reader.dump_of.Goals as goal

pub returns-in_err-sum-clause-read : goal.returns-in_err-sum-clause-read
returns-in_err-sum-clause-read c = λ dump entry is.
    let number = c.in_ok-number.ensures.read dump.number (after_number dump) entry.number refl (is ∙ dump_right dump) in
    let serial = c.in_ok-serial.ensures.read dump.serial (after_serial dump) entry.serial refl number.1 in
    let place = c.in_ok-place.ensures.read dump.place (after_place dump) entry.place refl serial.1 in
    let blocks = c.in_ok-blocks.ensures.read dump.blocks (sum_text dump.sum) entry.blocks refl place.1 in
    let last = blocks.1 ∙ ap (λ (digits : List ℕ). codes "SHA256 " ++ digits) (sym (append-nil (encode_lower dump.sum))) in
    absurd (c.in_err-sum.ensures.read dump.sum [] entry.sum tt last)

pub returns-clause-read : goal.returns-clause-read
returns-clause-read c = λ dump entry is.
    let number = c.in_ok-number.ensures.read dump.number (after_number dump) entry.number refl (is ∙ dump_right dump) in
    let serial = c.in_ok-serial.ensures.read dump.serial (after_serial dump) entry.serial refl number.1 in
    let place = c.in_ok-place.ensures.read dump.place (after_place dump) entry.place refl serial.1 in
    let blocks = c.in_ok-blocks.ensures.read dump.blocks (sum_text dump.sum) entry.blocks refl place.1 in
    let last = blocks.1 ∙ ap (λ (digits : List ℕ). codes "SHA256 " ++ digits) (sym (append-nil (encode_lower dump.sum))) in
    let sum = c.in_ok-sum.ensures.read dump.sum [] entry.sum tt last in
    λ i. Some (record { number = number.0 i; serial = serial.0 i; place = place.0 i; blocks = blocks.0 i; sum = sum.0 i })

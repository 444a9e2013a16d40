use Rattle.std.proofs.Common.{◌≡◌, [], drop, Option, Some, None, refl, sym, ◌∙◌, append-nil}
use Rattle.std.specs.Prelude.{codes, IfSome}
use Rattle.g_entry.specs.declared.file_rec.TapeCopy.{TapeCopy}
use Rattle.g_look.specs.FileLines.{taped_text}
use Rattle.g_look.specs.Text.{told}
use Rattle.g_seal.specs.Entries.{IsPlaced}
use Rattle.g_seal.proofs.FieldLemmas.{no_words}
use Rattle.g_seal.proofs.line_reader.copy_in.Goals as goal

pub returns-in_err-first-clause-read : goal.returns-in_err-first-clause-read
returns-in_err-first-clause-read c = λ tape placed is. by_tape tape placed is
  where
    by_tape : (tape : Option TapeCopy) → IfSome tape IsPlaced → c.args.text.now ≡ drop 1 (taped_text tape) → c.from_residual-in_err-first.result ≡ tape
    by_tape None placed is = c.from_residual-in_err-first.ensures
    by_tape (Some t) placed is =
        let serial = c.in_ok-serial.ensures.read t.serial (told (codes " AT ") t.first) placed.serial refl is in
        absurd (c.in_err-first.ensures.read t.first [] placed.first tt (serial.1 ∙ sym (append-nil _)))

pub returns-clause-read : goal.returns-clause-read
returns-clause-read c = λ tape placed is. by_tape tape placed is
  where
    by_tape : (tape : Option TapeCopy) → IfSome tape IsPlaced → c.args.text.now ≡ drop 1 (taped_text tape) → ◌≡◌ {A = Option TapeCopy} (Some (record { serial = c.in_ok-serial.serial; first = c.in_ok-first.first })) tape
    by_tape None placed is = absurd (no_words 84 (codes "APE ") c.in_ok-serial.ensures.begins.0 (sym is ∙ c.in_ok-serial.ensures.begins.1))
    by_tape (Some t) placed is =
        let serial = c.in_ok-serial.ensures.read t.serial (told (codes " AT ") t.first) placed.serial refl is in
        let first = c.in_ok-first.ensures.read t.first [] placed.first tt (serial.1 ∙ sym (append-nil _)) in
        λ i. Some (record { serial = serial.0 i; first = first.0 i })

-- The files printed as restorable are those that the completed dumps give.
-- serves: given_by (text)
use Rattle.std.proofs.Common.{◌≡◌, Bool, true, false, List, ◌++◌, Option, Result, Ok, Err, IfOk, sym, ◌∙◌, ap, subst, ℕ}
use Rattle.g_entry.specs.declared.file_rec.FileRec.{FileRec}
use Rattle.g_entry.specs.declared.user_rec.UserRec.{UserRec}
use Rattle.g_plain.specs.declared.faults.StoreFault.{StoreFault}
use Rattle.g_incr.specs.Layout.{Dump}
use Rattle.g_lines.specs.Lines.{text_of}
use Rattle.g_store_meaning.specs.Meaning.{files_in}
use Rattle.g_restore.specs.declared.directory.Dumped.{Dumped}
use Rattle.g_restore.specs.declared.dumps.Found.{Found}
use Rattle.g_restore.specs.KnownDumps.{AreKnown}
use Rattle.g_restore.specs.Losses.{AreApart}
use Rattle.g_restore.specs.Steps.{IsFolded}
use Rattle.g_look.specs.declared.fault.LookFault.{LookFault}
use Rattle.g_look.specs.declared.restoring.Given.{Given}
use Rattle.g_look.specs.Gaps.{NamesMissing}
use Rattle.g_look.specs.Lists.{IsRefusal, IsRestorable, dumped_lines, missing_text, refused_text}

-- THE FILES OF THE DUMPED DIRECTORY
pub given_ok : (found : List Found) (made : Dumped) → ((dumps : List Dump) → AreKnown found dumps → IsFolded dumps made) → (missing : Option ℕ)
    → ((dumps : List Dump) → AreKnown found dumps → NamesMissing dumps missing) → (result : Result Given LookFault)
    → IfOk result (λ g. g.text ≡ text_of (dumped_lines made.users.items made.files.items made.number) ++ missing_text missing) → IfOk result (λ g. g.given ≡ true)
    → IfOk result (λ g. g.missing ≡ missing)
    → IfOk result (λ g. (dumps : List Dump) → AreKnown found dumps → IsRestorable dumps g.given g.missing g.text)
given_ok found made folds missing names (Err e) text given same = tt
given_ok found made folds missing names (Ok g) text given same = λ dumps are.
    let f = folds dumps are in
    subst (λ (b : Bool). IsRestorable dumps b g.missing g.text) (sym given) (subst (λ (m : Option ℕ). IsRestorable dumps true m g.text) (sym same) (
      f.directory,
      f.places,
      names dumps are,
      text
          ∙ ap (λ (us : List UserRec). text_of (dumped_lines us made.files.items made.number) ++ missing_text missing) f.users_are
          ∙ ap (λ (fs : List FileRec). text_of (dumped_lines f.directory.last.users fs made.number) ++ missing_text missing) f.files_are
          ∙ ap (λ (n : ℕ). text_of (dumped_lines f.directory.last.users (files_in f.directory) n) ++ missing_text missing) f.number_is,
    ))

-- OR ITS REFUSAL
pub refused_ok : (found : List Found) (fault : StoreFault) → ((dumps : List Dump) → AreKnown found dumps → AreApart dumps → IsRefusal dumps fault) → (result : Result Given LookFault)
    → IfOk result (λ g. g.text ≡ refused_text fault) → IfOk result (λ g. g.given ≡ false)
    → IfOk result (λ g. (dumps : List Dump) → AreKnown found dumps → IsRestorable dumps g.given g.missing g.text)
refused_ok found fault why (Err e) text given = tt
refused_ok found fault why (Ok g) text given = λ dumps are.
    subst (λ (b : Bool). IsRestorable dumps b g.missing g.text) (sym given) (fault, why dumps are, text)

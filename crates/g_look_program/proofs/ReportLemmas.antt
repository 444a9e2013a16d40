-- The end of a check against a seal.
-- serves: look_against (devices, own, report)
use Rattle.std.proofs.Common.{◌≡◌, ◌⊎◌, ◌↔◌, inl, inr, ℕ, List, [], ◌∷◌, ◌++◌, Bool, Option, Result, Ok, Err, IsTrue, refl, ap, subst, ◌∙◌}
use Rattle.std.specs.Option.{ForSome}
use Rattle.g_dirs.specs.Directory.{Directory}
use Rattle.g_dirs.specs.Image.{StandsFor}
use Rattle.g_base.specs.Counts.{Rose}
use Rattle.g_disc.specs.Disc.{DiscState, ReadsByCause}
use Rattle.g_tape.specs.Rack.{AreReels, Rack}
use Rattle.g_tape.specs.Reads.{OnlyReads}
use Rattle.g_tape.specs.Reel.{Reel}
use Rattle.g_store_meaning.specs.Meaning.{told_reels}
use Rattle.g_store_meaning.specs.Reading.{AllTold}
use Rattle.g_look.specs.declared.checking.Checked.{Checked}
use Rattle.g_look.specs.declared.fault.LookFault.{LookFault}
use Rattle.g_look.specs.declared.fault.LookFault.TheVariants as fault
use Rattle.g_look.specs.Text.{IsChecked}
use Rattle.g_seal.specs.declared.entries.SealedDump.{SealedDump}
use Rattle.g_seal.specs.declared.entries.SealedFile.{SealedFile}
use Rattle.g_seal.specs.declared.twins.Twins.{Twins}
use Rattle.g_seal.specs.Entries.{AreEntries}
use Rattle.g_seal.specs.Rotten.{IsReport}
use Rattle.g_seal.specs.SealText.{sealed_text}
use Rattle.g_seal.specs.Sealing.{IsOfReport, IsSealed}
use Rattle.g_seal.proofs.OwnTextLemmas.{own_is_quiet}
use Rattle.g_look_program.specs.declared.status.Status.{Status}
use Rattle.g_look_program.specs.declared.status.Status.TheVariants as status
use Rattle.g_look_program.specs.Telling.{EndsCheck, EndsReport, IsFailed, LeavesDisc, Looked, TellsCheck, TellsFault, TellsReport, Written}
use Rattle.g_look_program.proofs.LookLemmas.{CheckFaults, ends_check, ends_fault, put_ends, quiet_ends}

-- FAULTS
failed_of : (why : LookFault) (ended : Status) (w : Written) → CheckFaults why → TellsFault why ended w → IsFailed ended
failed_of why ended w (inl is) tells = put_ends IsFailed status.Unread ended _ w (λ _. tt) (λ _. tt) (subst (λ (f : LookFault). TellsFault f ended w) is tells)
failed_of why ended w (inr (inl is)) tells = put_ends IsFailed status.Unread ended _ w (λ _. tt) (λ _. tt) (subst (λ (f : LookFault). TellsFault f ended w) is tells)
failed_of why ended w (inr (inr is)) tells = quiet_ends IsFailed status.NoMemory ended w (λ _. tt) (subst (λ (f : LookFault). TellsFault f ended w) is tells)

pub check_faults : (why : LookFault) → IsOfReport why → CheckFaults why
check_faults fault.DiscUnread is = inl refl
check_faults fault.TapeUnread is = inr (inl refl)
check_faults fault.NoMemory is = inr (inr refl)
check_faults fault.NoFilestore is = absurd is
check_faults fault.NoUser is = absurd is
check_faults fault.NoFile is = absurd is
check_faults fault.NoCopy is = absurd is

module _ (size : ℕ) (held : Option (List (List ℕ))) (reels : List Reel) (twins : Twins) (dumps : List SealedDump) (files : List SealedFile) (ended : Status) (w : Written) where
  pub report_failed : (why : LookFault) → CheckFaults why → TellsCheck (Err why) ended w → EndsReport ended size held reels twins dumps files w
  report_failed why faults tells = inl (ends_fault size held reels why ended w faults tells, inl (failed_of why ended w faults tells))

  -- A REPORT
  pub report_found : (c : Checked) (report : List ℕ) → IsChecked size held reels c.verdict.broken c.verdict.missing c.text → ForSome held (λ blocks. IsTrue c.filestore ↔ ((d : Directory) × StandsFor blocks d))
      → IsReport held reels twins dumps files report → TellsReport c report ended w → EndsReport ended size held reels twins dumps files w
  report_found c [] right store reported tells = inl (ends_check size held reels (Ok c) ended w right store tt tells, inr reported)
  report_found c (byte ∷ report) right store reported (inl puts) =
      inr (
        c.text ++ byte ∷ report,
        record {
          broken = c.verdict.broken;
          missing = c.verdict.missing;
          front = c.text;
          checked = right;
          report = byte ∷ report;
          reported = reported;
          some = λ none. (let no : ⊥ = cc in no);
          text_is = refl;
        },
        puts,
      )
  report_found c (byte ∷ report) right store reported (inr quiet) =
      inl (quiet_ends (λ s. EndsCheck s size held reels w) status.NoMemory ended w (λ q. q) quiet, inl (quiet_ends IsFailed status.NoMemory ended w (λ _. tt) quiet))

-- the check of devices that were read before
module _ (held now : Option (List (List ℕ))) (same : now ≡ held) where
  pub checked_mid : (size after_size : ℕ) (reels after : List Reel) (c : Checked) → after_size ≡ size → after ≡ reels → AllTold held reels → (AllTold now after → IsChecked after_size now after c.verdict.broken c.verdict.missing c.text)
      → IsChecked size held reels c.verdict.broken c.verdict.missing c.text
  checked_mid size after_size reels after c size_is left told is =
      subst (λ (n : ℕ). IsChecked n held reels c.verdict.broken c.verdict.missing c.text) size_is
      (subst (λ (h : Option (List (List ℕ))). AllTold h reels → IsChecked after_size h reels c.verdict.broken c.verdict.missing c.text) same
      (subst (λ (rs : List Reel). AllTold now rs → IsChecked after_size now rs c.verdict.broken c.verdict.missing c.text) left is) told)

  pub store_mid : (filestore : Bool) → ForSome now (λ blocks. IsTrue filestore ↔ ((d : Directory) × StandsFor blocks d)) → ForSome held (λ blocks. IsTrue filestore ↔ ((d : Directory) × StandsFor blocks d))
  store_mid filestore = subst (λ (h : Option (List (List ℕ))). ForSome h (λ blocks. IsTrue filestore ↔ ((d : Directory) × StandsFor blocks d))) same

-- a check against the text of the own seal
pub report_own : (size : ℕ) (held : Option (List (List ℕ))) (rack : Rack) (twins : Twins) (dumps : List SealedDump) (files : List SealedFile) (ended : Status) (w : Written) → AreReels rack.reels → AllTold held (told_reels rack) → AreEntries dumps files
    → IsSealed held (told_reels rack) (sealed_text dumps files) → EndsReport ended size held (told_reels rack) twins dumps files w → EndsCheck ended size held (told_reels rack) w
report_own size held rack twins dumps files ended w are told entries sealed (inl check) = check.0
report_own size held rack twins dumps files ended w are told entries sealed (inr (text, compared, puts)) =
    absurd (compared.some (own_is_quiet held rack twins dumps files compared.report are told entries sealed compared.reported))

-- WHAT A LOOK DID that ended with this fault, from the reads of disc and rack
module _ (d0 d2 : DiscState) (r0 r2 : Rack) (disc : LeavesDisc d0 d2) (rack : OnlyReads r0 r2) where
  looked_unread : Rose d0.read_faults d2.read_faults ⊎ Rose r0.read_faults r2.read_faults → Looked status.Unread d0 d2 r0 r2
  looked_unread rose = record { disc_left = disc; rack_left = rack; cause = λ is. rose; quiet = λ other out. absurd (other refl) }

  looked_unprinted : Looked status.OutputFault d0 d2 r0 r2
  looked_unprinted = record { disc_left = disc; rack_left = rack; cause = λ is. absurd (let no : ⊥ = cc in no); quiet = λ other out. absurd (out refl) }

  looked_starved : d2.read_faults ≡ d0.read_faults → r2.read_faults ≡ r0.read_faults → Looked status.NoMemory d0 d2 r0 r2
  looked_starved same_disc same_rack =
      record { disc_left = disc; rack_left = rack; cause = λ is. absurd (let no : ⊥ = cc in no); quiet = λ other out. (same_disc, same_rack) }

  pub looked_fault : (why : LookFault) (ended : Status) (w : Written) → CheckFaults why → (why ≡ fault.DiscUnread → Rose d0.read_faults d2.read_faults) → (why ≡ fault.TapeUnread → Rose r0.read_faults r2.read_faults)
      → ((why ≡ fault.DiscUnread → ⊥) → d2.read_faults ≡ d0.read_faults) → ((why ≡ fault.TapeUnread → ⊥) → r2.read_faults ≡ r0.read_faults) → TellsFault why ended w → Looked ended d0 d2 r0 r2
  looked_fault why ended w (inl is) disc_rose rack_rose disc_kept rack_kept tells =
      put_ends (λ s. Looked s d0 d2 r0 r2) status.Unread ended _ w (λ _. looked_unread (inl (disc_rose is))) (λ _. looked_unprinted) (subst (λ (f : LookFault). TellsFault f ended w) is tells)
  looked_fault why ended w (inr (inl is)) disc_rose rack_rose disc_kept rack_kept tells =
      put_ends (λ s. Looked s d0 d2 r0 r2) status.Unread ended _ w (λ _. looked_unread (inr (rack_rose is))) (λ _. looked_unprinted) (subst (λ (f : LookFault). TellsFault f ended w) is tells)
  looked_fault why ended w (inr (inr is)) disc_rose rack_rose disc_kept rack_kept tells =
      quiet_ends (λ s. Looked s d0 d2 r0 r2) status.NoMemory ended w
      (λ _. looked_starved (disc_kept (λ e. let no : ⊥ = cc in no)) (rack_kept (λ e. let no : ⊥ = cc in no))) (subst (λ (f : LookFault). TellsFault f ended w) is tells)

-- reads of the disc that didn't fail, and then others
pub disc_left_then : (P Q : Type 0) (d0 d1 d2 : DiscState) → ReadsByCause P d0 d1 → ReadsByCause Q d1 d2 → LeavesDisc d0 d2
disc_left_then P Q d0 d1 d2 one two = record {
  held = two.held ∙ one.held;
  size = two.size ∙ one.size;
  write_faults = two.write_faults ∙ one.write_faults;
  writes = two.writes ∙ one.writes;
  fuse = two.fuse ∙ one.fuse;
  arms = two.arms ∙ one.arms;
}

-- a fault and the error that it is
pub as_err : {A : Type 0} (e f : LookFault) → e ≡ f → (let r : Result A LookFault = Err e in r ≡ Err f)
as_err {A} e f is = ap (λ (x : LookFault). let r : Result A LookFault = Err x in r) is

pub err_same : {A : Type 0} (e f : LookFault) → (let r : Result A LookFault = Err e in r ≡ Err f) → e ≡ f
err_same {A} e f is = cc

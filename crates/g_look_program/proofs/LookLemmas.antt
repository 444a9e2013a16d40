-- The promises of a check, from what its result says.
-- serves: look (check, dumps, list, restorable, seal, show), ReportLemmas
use Rattle.std.proofs.Common.{◌≡◌, ◌⊎◌, ◌↔◌, ℕ, List, Bool, true, false, Option, Some, None, Result, Ok, Err, IfOk, IfErr, IsTrue, refl, subst, sym, ◌∙◌, inl, inr}
use Rattle.std.specs.Prelude.{codes}
use Rattle.std.specs.Option.{ForSome}
use Rattle.g_dirs.specs.Directory.{Directory}
use Rattle.g_dirs.specs.Image.{StandsFor}
use Rattle.g_incr.specs.Layout.{Dump}
use Rattle.g_lines.specs.Lines.{text_of}
use Rattle.g_name.specs.declared.path.Path.{Path}
use Rattle.g_tape.specs.Rack.{Rack}
use Rattle.g_tape.specs.Reel.{Reel}
use Rattle.g_look.specs.declared.broken.Broken.{Broken}
use Rattle.g_look.specs.declared.checking.Checked.{Checked}
use Rattle.g_look.specs.declared.fault.LookFault.{LookFault}
use Rattle.g_look.specs.declared.fault.LookFault.TheVariants as fault
use Rattle.g_look.specs.declared.restoring.Given.{Given}
use Rattle.g_look.specs.Lists.{IsListed, IsNobody, IsRestorable}
use Rattle.g_look.specs.Looks.{IsOfList, OfDumps}
use Rattle.g_look.specs.ShownBytes.{IsLost, IsNoFile, IsShown}
use Rattle.g_look.specs.Text.{IsChecked, rack_lines}
use Rattle.g_seal.specs.declared.sealing.Sealed.{Sealed}
use Rattle.g_seal.specs.Sealing.{HasLost, IsOfSeal, IsSealed}
use Rattle.g_look_program.specs.declared.status.Status.{Status}
use Rattle.g_look_program.specs.declared.status.Status.TheVariants as status
use Rattle.g_look_program.specs.declared.words.Asked.{Asked}
use Rattle.g_look_program.specs.declared.words.Asked.TheVariants as asked
use Rattle.g_look_program.specs.Telling.{Written, IsCut, IsFaultLine, IsQuiet, IsReadLine, IsWhole, Puts, EndsQuietly, TellsFault, Tells, TellsBytes, TellsCheck, TellsGiven, TellsSeal, verdict, outcome, seal_status, HoldsOne, EndsCheck, EndsDumps, EndsGiven, EndsList, EndsSeal, EndsShow}

-- A TEXT WAS PRINTED, or the sink failed
ends_put : (size : ℕ) (held : Option (List (List ℕ))) (reels : List Reel) (broken : Option Broken) (missing : Option ℕ) (filestore : Bool) (text : List ℕ) (w : Written)
    → IsChecked size held reels broken missing text → IsTrue filestore ↔ HoldsOne held → IsWhole text w → EndsCheck (verdict broken missing filestore) size held reels w
ends_put size held reels (Some b) missing filestore text w checked one whole = inl (b, missing, (text, checked, whole))
ends_put size held reels None (Some n) filestore text w checked one whole = inr (n, (text, checked, whole))
ends_put size held reels None None true text w checked one whole = ((text, checked, whole), one.0 refl)
ends_put size held reels None None false text w checked one whole = ((text, checked, whole), λ holds. let not : false ≡ true = one.1 holds in cc)

ends_as : (size : ℕ) (held : Option (List (List ℕ))) (reels : List Reel) (due ended : Status) (text : List ℕ) (w : Written)
    → (IsWhole text w → EndsCheck due size held reels w) → ((broken : Option Broken) × (missing : Option ℕ) × IsChecked size held reels broken missing text) ⊎ IsReadLine text → Puts due text ended w → EndsCheck ended size held reels w
ends_as size held reels due ended text w good due_text (inl (is, whole)) = subst (λ (s : Status). EndsCheck s size held reels w) (sym is) (good whole)
ends_as size held reels due ended text w good due_text (inr (is, cut)) = subst (λ (s : Status). EndsCheck s size held reels w) (sym is) (text, due_text, cut)

-- the faults of a check
abbrev pub CheckFaults : LookFault → Type 0
CheckFaults why = (why ≡ fault.DiscUnread) ⊎ ((why ≡ fault.TapeUnread) ⊎ (why ≡ fault.NoMemory))

pub ends_fault : (size : ℕ) (held : Option (List (List ℕ))) (reels : List Reel) (why : LookFault) (ended : Status) (w : Written)
    → CheckFaults why → TellsFault why ended w → EndsCheck ended size held reels w
ends_fault size held reels why ended w (inl is) tells =
    ends_as size held reels status.Unread ended (codes "DISC READ\n") w (λ whole. inl whole) (inr (inl refl)) (subst (λ (f : LookFault). TellsFault f ended w) is tells)
ends_fault size held reels why ended w (inr (inl is)) tells =
    ends_as size held reels status.Unread ended (codes "TAPE READ\n") w (λ whole. inr whole) (inr (inr refl)) (subst (λ (f : LookFault). TellsFault f ended w) is tells)
ends_fault size held reels why ended w (inr (inr is)) tells =
    let quiet : EndsQuietly status.NoMemory ended w = subst (λ (f : LookFault). TellsFault f ended w) is tells in
    subst (λ (s : Status). EndsCheck s size held reels w) (sym quiet.0) quiet.1

-- the blocks of the disc, if it exposes them
same_blocks : (held : Option (List (List ℕ))) (a b : List (List ℕ)) → held ≡ Some a → held ≡ Some b → a ≡ b
same_blocks held a b is other = let same : a ≡ b = cc in same

holds_one : (held : Option (List (List ℕ))) (blocks : List (List ℕ)) (filestore : Bool) → held ≡ Some blocks
    → ForSome held (λ b. IsTrue filestore ↔ ((d : Directory) × StandsFor b d)) → IsTrue filestore ↔ HoldsOne held
holds_one held blocks filestore is both =
    let here : IsTrue filestore ↔ ((d : Directory) × StandsFor blocks d) = both blocks is in (
      (λ true_is. let (d, stands) = here.0 true_is in (blocks, is, d, stands)),
      (λ one. let (others, other_is, d, stands) = one in here.1 (d, subst (λ (b : List (List ℕ)). StandsFor b d) (same_blocks held others blocks other_is is) stands)),
    )

-- A CHECK ENDS AS REQUIRED
pub ends_check : (size : ℕ) (held : Option (List (List ℕ))) (reels : List Reel) (found : Result Checked LookFault) (ended : Status) (w : Written)
    → IfOk found (λ c. IsChecked size held reels c.verdict.broken c.verdict.missing c.text)
    → ForSome held (λ blocks. IfOk found (λ c. IsTrue c.filestore ↔ ((d : Directory) × StandsFor blocks d)))
    → IfErr found CheckFaults → TellsCheck found ended w → EndsCheck ended size held reels w
ends_check size held reels (Ok c) ended w right filestore faults tells =
    let one : IsTrue c.filestore ↔ HoldsOne held = holds_one held right.blocks c.filestore right.is_told filestore in
    ends_as size held reels (verdict c.verdict.broken c.verdict.missing c.filestore) ended c.text w (ends_put size held reels c.verdict.broken c.verdict.missing c.filestore c.text w right one)
    (inl (c.verdict.broken, c.verdict.missing, right)) tells
ends_check size held reels (Err why) ended w right filestore faults tells = ends_fault size held reels why ended w faults tells

-- A LOOK AT THE DUMPS ENDS AS REQUIRED
abbrev pub RackFaults : LookFault → Type 0
RackFaults why = (why ≡ fault.TapeUnread) ⊎ (why ≡ fault.NoMemory)

dumps_as : (shelf : ℕ → List Dump) (reels : List Reel) (due ended : Status) (text : List ℕ) (w : Written)
    → (IsWhole text w → EndsDumps due shelf reels w) → (text ≡ text_of (rack_lines shelf reels)) ⊎ IsFaultLine text → Puts due text ended w → EndsDumps ended shelf reels w
dumps_as shelf reels due ended text w good due_text (inl (is, whole)) = subst (λ (s : Status). EndsDumps s shelf reels w) (sym is) (good whole)
dumps_as shelf reels due ended text w good due_text (inr (is, cut)) = subst (λ (s : Status). EndsDumps s shelf reels w) (sym is) (text, due_text, cut)

dumps_fault : (shelf : ℕ → List Dump) (reels : List Reel) (why : LookFault) (ended : Status) (w : Written)
    → RackFaults why → TellsFault why ended w → EndsDumps ended shelf reels w
dumps_fault shelf reels why ended w (inl is) tells =
    dumps_as shelf reels status.Unread ended (codes "TAPE READ\n") w (λ whole. whole) (inr (inr (inl refl))) (subst (λ (f : LookFault). TellsFault f ended w) is tells)
dumps_fault shelf reels why ended w (inr is) tells =
    let quiet : EndsQuietly status.NoMemory ended w = subst (λ (f : LookFault). TellsFault f ended w) is tells in
    subst (λ (s : Status). EndsDumps s shelf reels w) (sym quiet.0) quiet.1

pub ends_dumps : (shelf : ℕ → List Dump) (reels : List Reel) (found : Result (List ℕ) LookFault) (ended : Status) (w : Written)
    → IfOk found (λ text. text ≡ text_of (rack_lines shelf reels)) → IfErr found RackFaults → Tells found ended w → EndsDumps ended shelf reels w
ends_dumps shelf reels (Ok text) ended w right faults tells =
    dumps_as shelf reels status.Done ended text w (λ whole. subst (λ (t : List ℕ). IsWhole t w) right whole) (inl right) tells
ends_dumps shelf reels (Err why) ended w right faults tells = dumps_fault shelf reels why ended w faults tells

-- A LIST, A FILE AND WHAT CAN BE RESTORED
pub put_ends : (P : Status → Type 0) (due ended : Status) (text : List ℕ) (w : Written) → (IsWhole text w → P due) → (IsCut text w → P status.OutputFault) → Puts due text ended w → P ended
put_ends P due ended text w good bad (inl (is, whole)) = subst P (sym is) (good whole)
put_ends P due ended text w good bad (inr (is, cut)) = subst P (sym is) (bad cut)

pub quiet_ends : (P : Status → Type 0) (due ended : Status) (w : Written) → (IsQuiet w → P due) → EndsQuietly due ended w → P ended
quiet_ends P due ended w good (is, quiet) = subst P (sym is) (good quiet)

module _ (blocks : List (List ℕ)) (only : Option (List ℕ)) (ended : Status) (w : Written) where
  abbrev Listing : Status → Type 0
  Listing s = EndsList s blocks only w

  pub ends_list : (found : Result (List ℕ) LookFault) → IfOk found (IsListed blocks only) → (found ≡ Err fault.NoFilestore → (d : Directory) → StandsFor blocks d → ⊥) → (found ≡ Err fault.NoUser → IsNobody blocks only)
      → IfErr found IsOfList → Tells found ended w → EndsList ended blocks only w
  ends_list (Ok text) is none nobody faults tells = put_ends Listing status.Done ended text w (λ whole. (text, is, whole)) (λ cut. (text, inl is, cut)) tells
  ends_list (Err fault.NoFilestore) is none nobody faults tells = put_ends Listing status.No ended (codes "NO FILESTORE\n") w (λ whole. inl (none refl, whole)) (λ cut. (codes "NO FILESTORE\n", inr (inr (inr (inl refl))), cut)) tells
  ends_list (Err fault.NoUser) is none nobody faults tells = put_ends Listing status.No ended (codes "NO USER\n") w (λ whole. inr (nobody refl, whole)) (λ cut. (codes "NO USER\n", inr (inr (inr (inr (inl refl)))), cut)) tells
  ends_list (Err fault.DiscUnread) is none nobody faults tells = put_ends Listing status.Unread ended (codes "DISC READ\n") w (λ whole. whole) (λ cut. (codes "DISC READ\n", inr (inl refl), cut)) tells
  ends_list (Err fault.NoMemory) is none nobody faults tells = quiet_ends Listing status.NoMemory ended w (λ quiet. quiet) tells
  ends_list (Err fault.TapeUnread) is none nobody faults tells = absurd faults
  ends_list (Err fault.NoFile) is none nobody faults tells = absurd faults
  ends_list (Err fault.NoCopy) is none nobody faults tells = absurd faults

module _ (blocks : List (List ℕ)) (dumps : List Dump) (path : Path) (ended : Status) (w : Written) where
  abbrev Showing : Status → Type 0
  Showing s = EndsShow s blocks dumps path w

  pub ends_show : (found : Result (List ℕ) LookFault) → IfOk found (IsShown blocks dumps path) → (found ≡ Err fault.NoFilestore → (d : Directory) → StandsFor blocks d → ⊥)
      → (found ≡ Err fault.NoFile → IsNoFile blocks path) → (found ≡ Err fault.NoCopy → IsLost blocks dumps path) → (found ≡ Err fault.NoUser → ⊥)
      → TellsBytes found ended w → EndsShow ended blocks dumps path w
  ends_show (Ok text) is none no_file lost only tells = put_ends Showing status.Done ended text w (λ whole. (text, is, whole)) (λ cut. (text, is, cut)) tells
  ends_show (Err fault.NoFilestore) is none no_file lost only tells = quiet_ends Showing status.No ended w (λ quiet. (inl (none refl), quiet)) tells
  ends_show (Err fault.NoFile) is none no_file lost only tells = quiet_ends Showing status.No ended w (λ quiet. (inr (inl (no_file refl)), quiet)) tells
  ends_show (Err fault.NoCopy) is none no_file lost only tells = quiet_ends Showing status.No ended w (λ quiet. (inr (inr (lost refl)), quiet)) tells
  ends_show (Err fault.DiscUnread) is none no_file lost only tells = quiet_ends Showing status.Unread ended w (λ quiet. quiet) tells
  ends_show (Err fault.TapeUnread) is none no_file lost only tells = quiet_ends Showing status.Unread ended w (λ quiet. quiet) tells
  ends_show (Err fault.NoMemory) is none no_file lost only tells = quiet_ends Showing status.NoMemory ended w (λ quiet. quiet) tells
  ends_show (Err fault.NoUser) is none no_file lost only tells = absurd (only refl)

module _ (dumps : List Dump) (ended : Status) (w : Written) where
  abbrev Giving : Status → Type 0
  Giving s = EndsGiven s dumps w

  by_given : (given : Bool) (missing : Option ℕ) (text : List ℕ) → IsRestorable dumps given missing text → Puts (outcome given missing) text ended w → EndsGiven ended dumps w
  by_given true None text is puts = put_ends Giving status.Done ended text w (λ whole. (text, is, whole)) (λ cut. (text, inl (true, None, is), cut)) puts
  by_given true (Some n) text is puts = put_ends Giving status.No ended text w (λ whole. (text, inl (n, is), whole)) (λ cut. (text, inl (true, Some n, is), cut)) puts
  by_given false missing text is puts = put_ends Giving status.No ended text w (λ whole. (text, inr is, whole)) (λ cut. (text, inl (false, missing, is), cut)) puts

  pub ends_given : (found : Result Given LookFault) → IfOk found (λ g. IsRestorable dumps g.given g.missing g.text) → IfErr found RackFaults → TellsGiven found ended w → EndsGiven ended dumps w
  ends_given (Ok g) is faults tells = by_given g.given g.missing g.text is tells
  ends_given (Err why) is (inl unread) tells =
      put_ends Giving status.Unread ended (codes "TAPE READ\n") w (λ whole. whole) (λ cut. (codes "TAPE READ\n", inr (inr (inl refl)), cut)) (subst (λ (f : LookFault). TellsFault f ended w) unread tells)
  ends_given (Err why) is (inr memory) tells = quiet_ends Giving status.NoMemory ended w (λ quiet. quiet) (subst (λ (f : LookFault). TellsFault f ended w) memory tells)

-- THE REQUEST
same_user : (x y : Option (List ℕ)) → asked.List x ≡ asked.List y → x ≡ y
same_user x y is = cc

same_path : (x y : Path) → asked.Show x ≡ asked.Show y → x ≡ y
same_path x y is = cc

pub list_ends : (a : Asked) (user there only : Option (List ℕ)) → a ≡ asked.List there → a ≡ asked.List user → only ≡ there → (blocks : List (List ℕ)) (ended : Status) (w : Written) (found : Result (List ℕ) LookFault)
    → IfOk found (IsListed blocks only) → (found ≡ Err fault.NoFilestore → (d : Directory) → StandsFor blocks d → ⊥) → (found ≡ Err fault.NoUser → IsNobody blocks only)
    → IfErr found IsOfList → Tells found ended w → EndsList ended blocks user w
list_ends a user there only here is same blocks ended w found listed none nobody faults tells =
    subst (λ (o : Option (List ℕ)). EndsList ended blocks o w) (same ∙ same_user there user (sym here ∙ is)) (ends_list blocks only ended w found listed none nobody faults tells)

pub show_ends : (a : Asked) (path there : Path) → a ≡ asked.Show there → a ≡ asked.Show path → (blocks : List (List ℕ)) (dumps : List Dump) (ended : Status) (w : Written) (found : Result (List ℕ) LookFault)
    → IfOk found (IsShown blocks dumps there) → (found ≡ Err fault.NoFilestore → (d : Directory) → StandsFor blocks d → ⊥) → (found ≡ Err fault.NoFile → IsNoFile blocks there)
    → (found ≡ Err fault.NoCopy → IsLost blocks dumps there) → (found ≡ Err fault.NoUser → ⊥) → TellsBytes found ended w → EndsShow ended blocks dumps path w
show_ends a path there here is blocks dumps ended w found shown none no_file lost only tells =
    subst (λ (p : Path). EndsShow ended blocks dumps p w) (same_path there path (sym here ∙ is)) (ends_show blocks dumps there ended w found shown none no_file lost only tells)

-- a property of a result, if the reels expose their blocks
pub of_dumps : {X E : Type 0} (rack : Rack) (P : List Dump → X → Type 0) (found : Result X E) → IfOk found (λ x. OfDumps rack (λ dumps. P dumps x)) → OfDumps rack (λ dumps. IfOk found (P dumps))
of_dumps rack P (Ok x) is told shelf shelved = is told shelf shelved
of_dumps rack P (Err e) is told shelf shelved = tt

pub of_blocks : {X E : Type 0} (held : Option (List (List ℕ))) (P : List (List ℕ) → X → Type 0) (found : Result X E) (blocks : List (List ℕ)) → held ≡ Some blocks → IfOk found (λ x. ForSome held (λ bs. P bs x)) → IfOk found (P blocks)
of_blocks held P (Ok x) blocks told is = is blocks told
of_blocks held P (Err e) blocks told is = tt

-- A SEAL
module _ (held : Option (List (List ℕ))) (reels : List Reel) (ended : Status) (w : Written) where
  abbrev Sealing : Status → Type 0
  Sealing s = EndsSeal s held reels w

  by_store : (filestore : Bool) (text : List ℕ) → IsSealed held reels text → IsTrue filestore ↔ HoldsOne held → Puts (seal_status filestore) text ended w → EndsSeal ended held reels w
  by_store true text is one puts = put_ends Sealing status.Done ended text w (λ whole. ((text, is, whole), one.0 refl)) (λ cut. (text, inl is, cut)) puts
  by_store false text is one puts =
      put_ends Sealing status.Nothing ended text w (λ whole. ((text, is, whole), λ holds. (let not : false ≡ true = one.1 holds in cc))) (λ cut. (text, inl is, cut)) puts

  pub ends_seal : (found : Result Sealed LookFault) → IfOk found (λ s. IsSealed held reels s.text) → ForSome held (λ blocks. IfOk found (λ s. IsTrue s.filestore ↔ ((d : Directory) × StandsFor blocks d)))
      → (found ≡ Err fault.NoCopy → ForSome held (λ blocks. HasLost blocks reels)) → IfErr found IsOfSeal → TellsSeal found ended w → EndsSeal ended held reels w
  ends_seal (Ok s) is store lost faults tells = by_store s.filestore s.text is (holds_one held is.blocks s.filestore is.is_told store) tells
  ends_seal (Err fault.DiscUnread) is store lost faults tells = put_ends Sealing status.Unread ended (codes "DISC READ\n") w (λ whole. inl whole) (λ cut. (codes "DISC READ\n", inr (inl refl), cut)) tells
  ends_seal (Err fault.TapeUnread) is store lost faults tells = put_ends Sealing status.Unread ended (codes "TAPE READ\n") w (λ whole. inr whole) (λ cut. (codes "TAPE READ\n", inr (inr (inl refl)), cut)) tells
  ends_seal (Err fault.NoCopy) is store lost faults tells =
      put_ends Sealing status.No ended (codes "NO COPY\n") w (λ whole. (lost refl, whole)) (λ cut. (codes "NO COPY\n", inr (inr (inr (inr (inr refl)))), cut)) tells
  ends_seal (Err fault.NoMemory) is store lost faults tells = quiet_ends Sealing status.NoMemory ended w (λ quiet. quiet) tells
  ends_seal (Err fault.NoFilestore) is store lost faults tells = absurd faults
  ends_seal (Err fault.NoUser) is store lost faults tells = absurd faults
  ends_seal (Err fault.NoFile) is store lost faults tells = absurd faults

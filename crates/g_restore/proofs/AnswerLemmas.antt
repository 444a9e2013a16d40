-- The answers of a restore, from the answers about the directory that was built.
-- serves: rebuild (belongs, belongs_refused, found, kept, lost, none, ok, only, rose, stopped, unmounted, unread)
use Rattle.std.proofs.Common.{◌≡◌, ◌≢◌, ◌⊎◌, ◌↔◌, ℕ, List, Option, Some, Result, Ok, Err, refl, sym, subst, inr}
use Rattle.std.specs.Prelude.{IfErr, IfOk, is_some}
use Rattle.g_base.specs.ToldContent.{Changes}
use Rattle.g_disc.specs.Disc.{DiscState}
use Rattle.g_disc.specs.Durable.{PowerLossLeaves}
use Rattle.g_dirs.specs.Durable.{IsDiscSafe}
use Rattle.g_tape.specs.Rack.{Rack}
use Rattle.g_tape.specs.Reads.{OnlyReads}
use Rattle.g_tape.specs.Reel.{Reel}
use Rattle.g_plain.specs.declared.faults.StoreFault.{StoreFault}
use Rattle.g_plain.specs.declared.faults.StoreFault.TheVariants.{DiscReadFault, LostCopy, LostDirectory, NoMemory, RackNotMounted, Stopped, TapeReadFault}
use Rattle.g_disc_contents.specs.Contents.{Contents}
use Rattle.g_disc_contents.specs.Facts.{IsTied, OnlineFacts}
use Rattle.g_incr.specs.Layout.{Dump}
use Rattle.g_shelf.specs.CompletedDumps.{all_dumps}
use Rattle.g_store_meaning.specs.Meaning.{told_reels}
use Rattle.g_online.specs.Beginning.{AsBeforeOr, HasMade, first_contents}
use Rattle.g_restore.specs.declared.directory.Dumped.{Dumped}
use Rattle.g_restore.specs.Losses.{LostIsNamed, NamesLost}
use Rattle.g_restore.specs.Restoration.{IsOfDisc, IsOfReels, IsRestored, KeepsBelonging, NothingIsLost, answer_of}
use Rattle.g_restore.specs.Steps.{IsGiven, head_of}
use Rattle.g_restore.proofs.BelongLemmas.{belongs_made, belongs_same, belongs_stopped}
use Rattle.g_restore.proofs.DirectoryLemmas.{err_of, not_err}
use Rattle.g_restore.proofs.RebuildLemmas.{is_restored, of_disc}

abbrev pub first_of : Option (List (List ℕ)) → Dumped → Contents
first_of held d = first_contents (is_some held) (head_of d) d.users.items d.files.items

given : (reels : List Reel) (held : Option (List (List ℕ))) (d : Dumped) → IsGiven reels d → IsRestored reels held d.number (first_of held d)
given reels held d is = is_restored reels held is.dumps d is.are is.folded

disc_finds : (A : Type 0) (fault : StoreFault) → IsOfDisc fault → NothingIsLost {A = A} (Err fault)
disc_finds A DiscReadFault of = tt
disc_finds A Stopped of = tt
disc_finds A NoMemory of = tt
disc_finds A fault of = absurd of

module _ {B : Type 0} (state : B → DiscState) (disc : DiscState) (old new : Rack) (only : OnlyReads old new) (d : Dumped) (is : IsGiven (told_reels old) d) where
  pub ok_of : (result : Result (OnlineFacts × ℕ) (StoreFault × B)) → IfOk result (λ made. HasMade (first_of disc.held d) disc made.0) → IfOk result (λ made. made.1 ≡ d.number)
      → IfOk result (λ made. (contents : Contents) × IsRestored (told_reels old) disc.held made.1 contents × HasMade contents disc made.0)
  ok_of (Ok made) has number =
      (first_of disc.held d, subst (λ (n : ℕ). IsRestored (told_reels old) disc.held n (first_of disc.held d)) (sym number) (given (told_reels old) disc.held d is), has)
  ok_of (Err e) has number = tt

  pub stopped_of : (result : Result (OnlineFacts × ℕ) (StoreFault × B)) → IfErr result (λ e. e.0 ≡ Stopped → Changes (AsBeforeOr (first_of disc.held d)) disc.held (state e.1).held)
      → IfErr result (λ e. e.0 ≡ Stopped → IsDiscSafe disc → PowerLossLeaves (AsBeforeOr (first_of disc.held d)) disc (state e.1))
      → IfErr result (λ e. e.0 ≡ Stopped → (number : ℕ) × (contents : Contents) × IsRestored (told_reels old) disc.held number contents
      × Changes (AsBeforeOr contents) disc.held (state e.1).held × (IsDiscSafe disc → PowerLossLeaves (AsBeforeOr contents) disc (state e.1)))
  stopped_of (Ok made) stops survives = tt
  stopped_of (Err e) stops survives = λ wrong. (d.number, first_of disc.held d, given (told_reels old) disc.held d is, stops wrong, survives wrong)

  pub unread_of : (result : Result (OnlineFacts × ℕ) (StoreFault × B))
      → IfErr result (λ e. e.0 ≡ DiscReadFault → (number : ℕ) × (contents : Contents) × IsRestored (told_reels old) disc.held number contents)
  unread_of (Ok made) = tt
  unread_of (Err e) = λ wrong. (d.number, first_of disc.held d, given (told_reels old) disc.held d is)

  pub belongs_of : (result : Result (OnlineFacts × ℕ) (StoreFault × B)) → IfOk result (λ made. HasMade (first_of disc.held d) disc made.0) → IfOk result (λ made. IsTied made.0)
      → IfOk result (λ made. KeepsBelonging disc.held old made.0.disc.held new)
  belongs_of (Ok made) has tied = belongs_made disc old new made.0 d.number (first_of disc.held d) only tied has (given (told_reels old) disc.held d is)
  belongs_of (Err e) has tied = tt

  by_fault : (fault : StoreFault) (after : DiscState) → IsOfDisc fault → (fault ≡ Stopped → Changes (AsBeforeOr (first_of disc.held d)) disc.held after.held)
      → (fault ≢ Stopped → (after.held ≡ disc.held) × (after.writes ≡ disc.writes)) → KeepsBelonging disc.held old after.held new
  by_fault DiscReadFault after of stops same = belongs_same disc.held after.held old new only (same (λ e. absurd (let no : ⊥ = cc in no))).0
  by_fault Stopped after of stops same = belongs_stopped disc.held after.held old new d.number (first_of disc.held d) only (given (told_reels old) disc.held d is) (stops refl)
  by_fault NoMemory after of stops same = belongs_same disc.held after.held old new only (same (λ e. absurd (let no : ⊥ = cc in no))).0
  by_fault fault after of stops same = absurd of

  pub refused_of : (result : Result (OnlineFacts × ℕ) (StoreFault × B)) → IfErr result (λ e. IsOfDisc e.0)
      → IfErr result (λ e. e.0 ≡ Stopped → Changes (AsBeforeOr (first_of disc.held d)) disc.held (state e.1).held)
      → IfErr result (λ e. e.0 ≢ Stopped → ((state e.1).held ≡ disc.held) × ((state e.1).writes ≡ disc.writes))
      → IfErr result (λ e. KeepsBelonging disc.held old (state e.1).held new)
  refused_of (Ok made) of stops same = tt
  refused_of (Err e) of stops same = by_fault e.0 (state e.1) of stops same

  pub found_of : (result : Result (OnlineFacts × ℕ) (StoreFault × B)) → IfErr result (λ e. IsOfDisc e.0) → NothingIsLost (answer_of result)
  found_of (Ok made) of = tt
  found_of (Err e) of = disc_finds (OnlineFacts × ℕ) e.0 of

-- If a directory is built, all reels are mounted, and no refusal concerns the reels.
pub unmounted_of : {A B C : Type 0} (dumped : C) (result : Result A (StoreFault × B)) (first : Option ℕ) → IfErr result (λ e. IsOfDisc e.0)
    → ((serial : ℕ) → (◌≡◌ {A = Result C StoreFault} (Ok dumped) (Err (RackNotMounted serial))) ↔ (first ≡ Some serial))
    → (serial : ℕ) → (answer_of result ≡ Err (RackNotMounted serial)) ↔ (first ≡ Some serial)
unmounted_of dumped result first of up serial = (
  λ is. absurd (of_disc result (RackNotMounted serial) of is),
  λ is. absurd (not_err dumped (RackNotMounted serial) ((up serial).1 is)),
)

pub kept_of : {C : Type 0} (dumped : C) (old new : ℕ) → ((◌≡◌ {A = Result C StoreFault} (Ok dumped) (Err TapeReadFault) → ⊥) → new ≡ old) → new ≡ old
kept_of dumped old new kept = kept (λ is. not_err dumped TapeReadFault is)

pub one_of : {A B : Type 0} (result : Result A (StoreFault × B)) → IfErr result (λ e. IsOfDisc e.0) → IfErr result (λ e. IsOfReels e.0 ⊎ IsOfDisc e.0)
one_of (Ok made) of = tt
one_of (Err e) of = inr of

-- If no directory was built, the refusal concerns the reels, for any other answer.
pub not_of_reels : {P : Type 0} (fault y : StoreFault) → IsOfReels fault → (IsOfReels y → ⊥) → fault ≡ y → P
not_of_reels fault y of never is = absurd (never (subst IsOfReels is of))

pub unmounted_over : {A C : Type 0} (fault : StoreFault) (first : Option ℕ)
    → ((serial : ℕ) → (◌≡◌ {A = Result A StoreFault} (Err fault) (Err (RackNotMounted serial))) ↔ (first ≡ Some serial))
    → (serial : ℕ) → (◌≡◌ {A = Result C StoreFault} (Err fault) (Err (RackNotMounted serial))) ↔ (first ≡ Some serial)
unmounted_over fault first up serial = (λ is. (up serial).0 (err_of fault (RackNotMounted serial) is), λ is. err_of fault (RackNotMounted serial) ((up serial).1 is))

-- what follows from one refusal, or from another
pub one_over : {A C P : Type 0} (fault y : StoreFault) → (◌≡◌ {A = Result A StoreFault} (Err fault) (Err y) → P) → ◌≡◌ {A = Result C StoreFault} (Err fault) (Err y) → P
one_over fault y to is = to (err_of fault y is)

pub other_over : {A C P : Type 0} (fault y : StoreFault) → ((◌≡◌ {A = Result A StoreFault} (Err fault) (Err y) → ⊥) → P) → (◌≡◌ {A = Result C StoreFault} (Err fault) (Err y) → ⊥) → P
other_over fault y to isnt = to (λ is. isnt (err_of fault y is))

names_over : (A C : Type 0) (dumps : List Dump) (fault : StoreFault) → NamesLost {A = A} dumps (Err fault) → NamesLost {A = C} dumps (Err fault)
names_over A C dumps (LostDirectory user) is = is
names_over A C dumps (LostCopy full serial) is = is
names_over A C dumps fault is = tt

pub lost_over : (A C : Type 0) (reels : List Reel) (fault : StoreFault) → LostIsNamed {A = A} reels (Err fault) → LostIsNamed {A = C} reels (Err fault)
lost_over A C reels fault names told shelf shelved apart = names_over A C (all_dumps shelf reels) fault (names told shelf shelved apart)

-- The directory that the dumps of a rack give, and why there is none.
-- serves: dumped_directory (kept, lost, none, ok, only, rose, unmounted), AnswerLemmas, RebuildLemmas
use Rattle.std.proofs.Common.{◌≡◌, ◌⊎◌, ◌↔◌, ℕ, List, [], Option, Some, None, Result, Ok, Err, refl, sym, ◌∙◌, ap, subst, inl, inr, map, All}
use Rattle.std.specs.Prelude.{IfErr, IfOk}
use Rattle.g_base.specs.Counts.{Rose}
use Rattle.g_tape.specs.Reads.{unread}
use Rattle.g_tape.specs.Reel.{Reel}
use Rattle.g_plain.specs.declared.faults.StoreFault.{StoreFault}
use Rattle.g_plain.specs.declared.faults.StoreFault.TheVariants.{LostCopy, LostDirectory, NoDump, NoMemory, RackNotMounted, TapeReadFault}
use Rattle.g_incr.specs.declared.fault.ShelfFault.{ShelfFault}
use Rattle.g_incr.specs.Faults.{store_fault}
use Rattle.g_incr.specs.declared.fault.ShelfFault.TheVariants as shelf
use Rattle.g_incr.specs.Layout.{Dump}
use Rattle.g_shelf.specs.CompletedDumps.{all_dumps}
use Rattle.g_restore.specs.declared.dumps.Found.{Found}
use Rattle.g_restore.specs.declared.directory.Dumped.{Dumped}
use Rattle.g_restore.specs.Gathering.{HasFew}
use Rattle.g_restore.specs.KnownDumps.{AreKnown, known, known_of}
use Rattle.g_restore.specs.Losses.{AreApart, LostIsNamed, NamesLost}
use Rattle.g_restore.specs.Reels.{AreOnReels}
use Rattle.g_restore.specs.Restoration.{IsOfReels}
use Rattle.g_restore.specs.Steps.{IsFolded, IsGiven, IsOfDumps}
use Rattle.g_restore.proofs.FoldLemmas.{can_be_made}
use Rattle.g_restore.proofs.KnownLemmas.{have_few, no_dumps}
use Rattle.g_restore.proofs.ReelLemmas.{all_of_reels, all_rules, on_unread}

-- no refusal is another one
pub err_of : {A B : Type 0} (x y : StoreFault) → ◌≡◌ {A = Result A StoreFault} (Err x) (Err y) → ◌≡◌ {A = Result B StoreFault} (Err x) (Err y)
err_of x y is = let same : x ≡ y = cc in ap Err same

pub same_err : {A : Type 0} (x y : StoreFault) → ◌≡◌ {A = Result A StoreFault} (Err x) (Err y) → x ≡ y
same_err x y is = cc

pub not_err : {A : Type 0} (d : A) (y : StoreFault) → ◌≡◌ {A = Result A StoreFault} (Ok d) (Err y) → ⊥
not_err d y is = cc

-- WHAT IS LOST, by the dumps that were read
pub named : {A : Type 0} (rs : List Reel) (found : List Found) (dumps : List Dump) (answer : Result A StoreFault) → AreOnReels rs dumps → map known found ≡ map known_of dumps
    → ((ds : List Dump) → AreKnown found ds → AreApart ds → NamesLost ds answer) → LostIsNamed (map unread rs) answer
named rs found dumps answer on same names told shelf shelved apart =
    let all : dumps ≡ all_dumps shelf (map unread rs) = all_of_reels (map unread rs) dumps shelf told shelved (on_unread rs dumps on) in
    subst (λ (ds : List Dump). NamesLost ds answer) all
    (names dumps (record { same = same; rules = all_rules rs dumps on }) (subst (λ (ds : List Dump). AreApart ds) (sym all) apart))

pub are_known : (rs : List Reel) (found : List Found) (dumps : List Dump) → AreOnReels rs dumps → map known found ≡ map known_of dumps → AreKnown found dumps
are_known rs found dumps on same = record { same = same; rules = all_rules rs dumps on }

-- what was folded is given by the reels
pub is_given : (rs : List Reel) (found : List Found) (dumps : List Dump) (d : Dumped) → AreOnReels rs dumps → map known found ≡ map known_of dumps
    → ((ds : List Dump) → AreKnown found ds → IsFolded ds d) → IsGiven (map unread rs) d
is_given rs found dumps d on same folds =
    let is = folds dumps (are_known rs found dumps on same) in
    record { dumps = dumps; are = on_unread rs dumps on; folded = is; can = can_be_made dumps (all_rules rs dumps on) d is }

-- a refusal of a reader of tape names nothing
shelf_names : (A : Type 0) (dumps : List Dump) (fault : ShelfFault) → NamesLost {A = A} dumps (Err (store_fault fault))
shelf_names A dumps shelf.NoTape = tt
shelf_names A dumps shelf.NotMounted = tt
shelf_names A dumps shelf.ReadFault = tt
shelf_names A dumps shelf.NoMemory = tt

pub shelf_named : (A : Type 0) (reels : List Reel) (fault : ShelfFault) → LostIsNamed {A = A} reels (Err (store_fault fault))
shelf_named A reels fault told shelf shelved apart = shelf_names A (all_dumps shelf reels) fault

-- WHAT WAS FOLDED of the dumps that were read
abbrev pub AreReadOf : List Reel → List Found → Type 0
AreReadOf rs found = (dumps : List Dump) × AreOnReels rs dumps × (map known found ≡ map known_of dumps)

pub few_read : (rs : List Reel) (found : List Found) → AreReadOf rs found → All HasFew found
few_read rs found (dumps, on, same) = have_few found dumps same (all_rules rs dumps on)

pub given_of : (rs : List Reel) (found : List Found) → AreReadOf rs found → (result : Result Dumped StoreFault)
    → IfOk result (λ d. (ds : List Dump) → AreKnown found ds → IsFolded ds d) → IfOk result (IsGiven (map unread rs))
given_of rs found (dumps, on, same) (Ok d) folds = is_given rs found dumps d on same folds
given_of rs found (dumps, on, same) (Err e) folds = tt

pub named_of : (rs : List Reel) (found : List Found) → AreReadOf rs found → (result : Result Dumped StoreFault)
    → ((ds : List Dump) → AreKnown found ds → AreApart ds → NamesLost ds result) → LostIsNamed (map unread rs) result
named_of rs found (dumps, on, same) result names = named rs found dumps result on same names

pub none_of : (rs : List Reel) (found : List Found) → AreReadOf rs found → found ≡ [] → AreOnReels (map unread rs) []
none_of rs found (dumps, on, same) none = on_unread rs [] (subst (AreOnReels rs) (no_dumps found dumps same none) on)

pub of_dumps : {A : Type 0} (result : Result A StoreFault) (fault : StoreFault) → IfErr result IsOfDumps → result ≡ Err fault → IsOfDumps fault
of_dumps (Ok d) fault only is = absurd (not_err d fault is)
of_dumps (Err e) fault only is = subst IsOfDumps (same_err e fault is) only

dumps_reels : (fault : StoreFault) → IsOfDumps fault → IsOfReels fault
dumps_reels NoDump is = tt
dumps_reels (LostDirectory user) is = tt
dumps_reels (LostCopy full serial) is = tt
dumps_reels NoMemory is = tt
dumps_reels fault is = absurd is

pub of_reels : {A : Type 0} (result : Result A StoreFault) → IfErr result IsOfDumps → IfErr result IsOfReels
of_reels (Ok d) only = tt
of_reels (Err e) only = dumps_reels e only

-- All reels are mounted, so the refusal isn't that one isn't.
pub up_of : {A : Type 0} (result : Result A StoreFault) (first : Option ℕ) → None ≡ first → IfErr result IsOfDumps
    → (serial : ℕ) → (result ≡ Err (RackNotMounted serial)) ↔ (first ≡ Some serial)
up_of result first up only serial = (λ is. absurd (of_dumps result (RackNotMounted serial) only is), λ is. let no : ⊥ = cc in absurd no)

-- A REEL THAT ISN'T MOUNTED is named
pub down_of : {A : Type 0} (serial : ℕ) (first : Option ℕ) → Some serial ≡ first
    → (s : ℕ) → (◌≡◌ {A = Result A StoreFault} (Err (RackNotMounted serial)) (Err (RackNotMounted s))) ↔ (first ≡ Some s)
down_of serial first down s = (λ is. let same : serial ≡ s = cc in sym down ∙ ap Some same, λ is. let same : serial ≡ s = cc in ap (λ (n : ℕ). Err (RackNotMounted n)) same)

-- A REFUSAL OF A READER OF TAPE, which is one of two
abbrev pub IsOne : ShelfFault → Type 0
IsOne fault = (fault ≡ shelf.ReadFault) ⊎ (fault ≡ shelf.NoMemory)

pub is_one : {A : Type 0} (fault : ShelfFault) → (◌≡◌ {A = Result A ShelfFault} (Err fault) (Err shelf.ReadFault)) ⊎ (◌≡◌ {A = Result A ShelfFault} (Err fault) (Err shelf.NoMemory)) → IsOne fault
is_one fault (inl is) = inl (let same : fault ≡ shelf.ReadFault = cc in same)
is_one fault (inr is) = inr (let same : fault ≡ shelf.NoMemory = cc in same)

pub shelf_of_reels : (fault : ShelfFault) → IsOne fault → IsOfReels (store_fault fault)
shelf_of_reels fault (inl is) = subst (λ (f : ShelfFault). IsOfReels (store_fault f)) (sym is) tt
shelf_of_reels fault (inr is) = subst (λ (f : ShelfFault). IsOfReels (store_fault f)) (sym is) tt

-- The refusal is neither that there is no dump nor that a reel isn't mounted.
not_these : (fault : ShelfFault) → IsOne fault → (y : StoreFault) → (y ≡ TapeReadFault → ⊥) → (y ≡ NoMemory → ⊥) → store_fault fault ≡ y → ⊥
not_these fault (inl is) y not_read not_memory same = not_read (sym same ∙ ap store_fault is)
not_these fault (inr is) y not_read not_memory same = not_memory (sym same ∙ ap store_fault is)

pub shelf_up : {A : Type 0} (fault : ShelfFault) (first : Option ℕ) → None ≡ first → IsOne fault
    → (serial : ℕ) → (◌≡◌ {A = Result A StoreFault} (Err (store_fault fault)) (Err (RackNotMounted serial))) ↔ (first ≡ Some serial)
shelf_up fault first up one serial = (
  λ is. absurd (not_these fault one (RackNotMounted serial) (λ e. let no : ⊥ = cc in no) (λ e. let no : ⊥ = cc in no) (same_err (store_fault fault) (RackNotMounted serial) is)),
  λ is. let no : ⊥ = cc in absurd no,
)

pub shelf_some : {A : Type 0} (fault : ShelfFault) → IsOne fault → ◌≡◌ {A = Result A StoreFault} (Err (store_fault fault)) (Err NoDump) → ⊥
shelf_some fault one is = not_these fault one NoDump (λ e. let no : ⊥ = cc in no) (λ e. let no : ⊥ = cc in no) (same_err (store_fault fault) NoDump is)

pub shelf_kept : {A B : Type 0} (fault : ShelfFault) (old new : ℕ) → ((◌≡◌ {A = Result A ShelfFault} (Err fault) (Err shelf.ReadFault) → ⊥) → new ≡ old)
    → (◌≡◌ {A = Result B StoreFault} (Err (store_fault fault)) (Err TapeReadFault) → ⊥) → new ≡ old
shelf_kept fault old new kept other = kept (λ is. let same : fault ≡ shelf.ReadFault = cc in other (ap (λ (f : ShelfFault). Err (store_fault f)) same))

read_of : (fault : ShelfFault) → store_fault fault ≡ TapeReadFault → fault ≡ shelf.ReadFault
read_of shelf.ReadFault is = refl
read_of shelf.NoTape is = cc
read_of shelf.NotMounted is = cc
read_of shelf.NoMemory is = cc

pub shelf_rose : {A B : Type 0} (fault : ShelfFault) (old new : ℕ) → (◌≡◌ {A = Result A ShelfFault} (Err fault) (Err shelf.ReadFault) → Rose old new)
    → ◌≡◌ {A = Result B StoreFault} (Err (store_fault fault)) (Err TapeReadFault) → Rose old new
shelf_rose fault old new rose is = rose (ap Err (read_of fault (same_err (store_fault fault) TapeReadFault is)))

-- What each call on a file of blocks does to what a power loss may leave of it.
-- serves: bring_if (secured), cut (begun, disorderly, kept, secured, stored), end_with (begun, kept), finish (no_more), is_synced, and 5 more
use Rattle.std.proofs.Common.{◌≡◌, ◌⊎◌, ℕ, ◌+◌, ◌*◌, ◌<◌, ◌≤◌, ◌∷◌, Bool, List, min, Result, Ok, Err, OnErr, OnOk, is_err, true, sym, subst, ◌∙◌, inl, inr, arith}
use Rattle.std.specs.Option.{ForSome}
use Rattle.std.proofs.lemmas.Bool.{cases_lt}
use Rattle.g_tape.specs.Risk.{IsSynced}
use Rattle.g_base.specs.ToldContent.{Changes}
use Rattle.g_tape.specs.Risk.{Remnant}
use Rattle.g_files.specs.BlockFile.{content_of, len_of}
use Rattle.g_files.specs.Front.{KeepsFront}
use Rattle.g_files.specs.Growth.{Grows, IsOrderly}
use Rattle.g_files.specs.Risks.{IsStored, Keeps, KeepsTo, LeavesBegun, LeavesNoMoreBlocks, MayLeaveBlocks, Secures, StayKept, durability_of, durable_of, reach_of}
use Rattle.g_files.specs.Sectors.{LeavesResized, LeavesSectors}
use Rattle.g_files.specs.declared.block_file.BlockFile.{BlockFile}
use Rattle.g_files.specs.declared.raw.RawFile.{Ghosts}
use Rattle.g_files.proofs.BlockFileLemmas.{front_none}
use Rattle.g_files.proofs.RiskLemmas.{begun_cut, begun_grown, begun_less, begun_more, begun_then, fronts_grows, fronts_set, kept_by, kept_less, kept_stored}

module _ {F : Type 0} {g : Ghosts F} (f f' : BlockFile F g) where
  abbrev pub old : List Remnant
  old = (durability_of f).remnants

  abbrev pub new : List Remnant
  new = (durability_of f').remnants

  pub front_same : content_of f' ≡ content_of f → Changes (KeepsFront (512 * len_of f)) (content_of f) (content_of f')
  front_same same = front_none (512 * len_of f) (content_of f) (content_of f') f.long same

  -- no more is left, so the first blocks that were durable are durable
  pub kept_more : (n m : ℕ) → n ≤ m → n ≤ len_of f → len_of f' ≡ len_of f → Changes (KeepsFront (512 * m)) (content_of f) (content_of f') → LeavesNoMoreBlocks f f' → Keeps n f → Keeps n f'
  kept_more n m less few len front more kept =
      kept_by n m (len_of f) (len_of f') (content_of f) (content_of f') old new few (omega (arith, few, len)) less front
      (fronts_set n (len_of f) old new few (λ left there. more left (inl there))) kept

  -- the same, after a cut
  pub kept_cut : (n k : ℕ) → n ≤ k → k ≤ len_of f → n ≤ len_of f' → Changes (KeepsFront (512 * k)) (content_of f) (content_of f')
      → ((left : List (List ℕ)) → LeavesSectors new left → LeavesSectors old left ⊎ LeavesResized (512 * k) old left) → Keeps n f → Keeps n f'
  kept_cut n k few within within' front cuts kept =
      kept_by n k (len_of f) (len_of f') (content_of f) (content_of f') old new (omega (arith, few, within)) within' few front (fronts_set n k old new few cuts) kept

  -- and after a block was written at the end
  pub kept_grown : (n : ℕ) → n ≤ len_of f → len_of f ≤ len_of f' → Changes (KeepsFront (512 * len_of f)) (content_of f) (content_of f') → Grows (len_of f) old new → Keeps n f → Keeps n f'
  kept_grown n few least front grows kept =
      kept_by n (len_of f) (len_of f) (len_of f') (content_of f) (content_of f') old new few (omega (arith, few, least)) few front (fronts_grows n (len_of f) old new few grows) kept

  -- a call that secures: what it knows to be durable is durable then
  pub secured_by : {T E : Type 0} (r : Result T E) → len_of f' ≡ len_of f → Changes (KeepsFront (512 * len_of f)) (content_of f) (content_of f') → Secures f f' r
      → Keeps (durable_of f) f → Keeps (durable_of f') f'
  secured_by {T = T} {E = E} (Ok u) len front s kept =
      let all : Secures {T = T} {E = E} f f' (Ok u) = s in
      kept_stored (durable_of f') (len_of f') (content_of f') new (all.stored kept)
  secured_by {T = T} {E = E} (Err e) len front s kept =
      let all : Secures {T = T} {E = E} f f' (Err e) = s in
      let counted = f.counted in
      subst (λ (n : ℕ). Keeps n f') (sym all.same) (kept_more (durable_of f) (len_of f) (omega (arith, counted)) (omega (arith, counted)) len front all.no_more kept)

  -- the same, as far as a block that is written next
  pub secured_to : {T E : Type 0} (k : ℕ) (r : Result T E) → k ≤ len_of f → len_of f' ≡ len_of f → Changes (KeepsFront (512 * len_of f)) (content_of f) (content_of f') → Secures f f' r
      → durable_of f ≤ k → KeepsTo k f → KeepsTo k f'
  secured_to k r within len front s few kept =
      kept_less (min (durable_of f') k) (durable_of f') (len_of f') (content_of f') new (omega arith)
      (secured_by r len front s (subst (λ (n : ℕ). Keeps n f) (omega (arith, few)) kept))

  pub stay_kept : (k : ℕ) → k ≤ len_of f → len_of f' ≡ len_of f → Changes (KeepsFront (512 * k)) (content_of f) (content_of f') → LeavesNoMoreBlocks f f' → StayKept k f f'
  stay_kept k within len front more n few kept = kept_more n k few (omega (arith, few, within)) len front more kept

  pub more_begun : (k : ℕ) (able : Type 0) → LeavesNoMoreBlocks f f' → LeavesBegun k able f f'
  more_begun k able more = begun_more k able (content_of f) (len_of f) old (len_of f') new more

-- a call that secures, before a cut
pub secured_ready : {F : Type 0} {g : Ghosts F} {T E : Type 0} (f f' : BlockFile F g) (k : ℕ) (r : Result T E) → k ≤ len_of f → len_of f' ≡ len_of f → Secures f f' r
    → OnOk r ((j : ℕ) → 512 * durable_of f' ≤ j → j < 512 * k → (durability_of f').syncable j ≡ true)
secured_ready {T = T} {E = E} f f' k (Ok u) within len s =
    let all : Secures {T = T} {E = E} f f' (Ok u) = s in
    let whole = all.all in
    λ j least most. absurd (omega (arith, least, most, whole, len, within))
secured_ready f f' k (Err e) within len s = tt

pub secured_kept : {F : Type 0} {g : Ghosts F} {T E : Type 0} (f f' : BlockFile F g) (k : ℕ) (r : Result T E) → k ≤ len_of f → len_of f' ≡ len_of f
    → Changes (KeepsFront (512 * len_of f)) (content_of f) (content_of f') → Secures f f' r → KeepsTo k f → OnOk r (Keeps k f')
secured_kept {T = T} {E = E} f f' k (Ok u) within len front s kept =
    let all : Secures {T = T} {E = E} f f' (Ok u) = s in
    elim (cases_lt (durable_of f) k) [
      | inl early ↦ kept_stored k (len_of f') (content_of f') (durability_of f').remnants (all.stored (subst (λ (n : ℕ). Keeps n f) (omega (arith, early)) kept))
      | inr late ↦ kept_more f f' k (len_of f) within within len front all.no_more (subst (λ (n : ℕ). Keeps n f) (omega (arith, late)) kept)
    ]
secured_kept f f' k (Err e) within len front s kept = tt

-- one after the other
pub begun_next : {F : Type 0} {g : Ghosts F} (f m f' : BlockFile F g) (k : ℕ) (able able' : Type 0) → k ≤ len_of f → k ≤ len_of m → (able → able')
    → Changes (KeepsFront (512 * k)) (content_of f) (content_of m) → LeavesBegun k able f m → LeavesBegun k able' m f' → LeavesBegun k able f f'
begun_next f m f' k able able' few few' weaker front first second =
    begun_then k able able' (content_of f) (content_of m) (len_of f) (len_of m) (len_of f') (durability_of f).remnants (durability_of m).remnants
    (durability_of f').remnants few few' weaker front first second

-- a cut
pub cut_begun : {F : Type 0} {g : Ghosts F} (f f' : BlockFile F g) (k : ℕ) (able : Type 0) → k ≤ len_of f → (able → Keeps k f)
    → ForSome (content_of f) (λ bytes. (left : List (List ℕ)) → MayLeaveBlocks f' left → MayLeaveBlocks f left ⊎ LeavesResized (512 * k) (durability_of f).remnants left)
    → LeavesBegun k able f f'
cut_begun f f' k able few kept cuts = begun_cut k able (content_of f) (len_of f) (len_of f') (durability_of f).remnants (durability_of f').remnants few kept cuts

-- a block at the end
pub grown_begun : {F : Type 0} {g : Ghosts F} (f f' : BlockFile F g) (able : Type 0) → IsOrderly (reach_of f) → len_of f ≤ len_of f' → len_of f' ≤ len_of f + 1
    → (able → IsStored f) → Grows (len_of f) (durability_of f).remnants (durability_of f').remnants → LeavesBegun (len_of f) able f f'
grown_begun f f' able orderly least most stored grows =
    begun_grown (len_of f) able (content_of f) (len_of f') (durability_of f).remnants (durability_of f').remnants least most (f.short orderly) stored grows

pub on_err_at : {T E P : Type 0} (r : Result T E) → is_err r ≡ true → OnErr r P → P
on_err_at (Ok x) is p = absurd (cc)
on_err_at (Err e) is p = p

-- a call that secures failed, or only that much is known of it
pub failed_to : {F : Type 0} {g : Ghosts F} (f f' : BlockFile F g) (k : ℕ) → k ≤ len_of f → len_of f' ≡ len_of f → Changes (KeepsFront (512 * k)) (content_of f) (content_of f')
    → LeavesNoMoreBlocks f f' → durable_of f' ≡ durable_of f → KeepsTo k f → KeepsTo k f'
failed_to f f' k within len front more same kept =
    subst (λ (n : ℕ). Keeps (min n k) f') (sym same) (kept_more f f' (min (durable_of f) k) k (omega arith) (omega (arith, within)) len front more kept)

-- WHAT WAS CUT: f before, m after everything before block k was secured, d after the cut
module _ {F : Type 0} {g : Ghosts F} (f m d : BlockFile F g) (k : ℕ) (within : k ≤ len_of f) (len : len_of m ≡ len_of f)
    (front : Changes (KeepsFront (512 * k)) (content_of f) (content_of m)) (more : LeavesNoMoreBlocks f m) (kept : KeepsTo k f → Keeps k m)
    (front' : Changes (KeepsFront (512 * k)) (content_of m) (content_of d)) (least : k ≤ len_of d)
    (cuts : (left : List (List ℕ)) → LeavesSectors (durability_of d).remnants left
    → LeavesSectors (durability_of m).remnants left ⊎ LeavesResized (512 * k) (durability_of m).remnants left) where
  pub cut_kept : StayKept k f d
  cut_kept n few is =
      kept_cut m d n k few (omega (arith, within, len)) (omega (arith, few, least)) front' cuts
      (kept_more f m n k few (omega (arith, few, within)) len front more is)

  pub cut_secured : KeepsTo k f → KeepsTo k d
  cut_secured is =
      kept_less (min (durable_of d) k) k (len_of d) (content_of d) (durability_of d).remnants (omega arith)
      (kept_cut m d k k (omega arith) (omega (arith, within, len)) least front' cuts (kept is))

  pub cut_begins : ForSome (content_of m) (λ bytes. (left : List (List ℕ)) → MayLeaveBlocks d left
      → MayLeaveBlocks m left ⊎ LeavesResized (512 * k) (durability_of m).remnants left) → LeavesBegun k (KeepsTo k f) f d
  cut_begins resized =
      begun_next f m d k (KeepsTo k f) (Keeps k m) within (omega (arith, within, len)) kept front (more_begun f m k (KeepsTo k f) more)
      (cut_begun m d k (Keeps k m) (omega (arith, within, len)) (λ is. is) resized)

-- a call that secures, after a call that began
pub begun_secured : {F : Type 0} {g : Ghosts F} (f d e : BlockFile F g) (k : ℕ) (able able' : Type 0) → (able' → able) → LeavesNoMoreBlocks d e → LeavesBegun k able f d → LeavesBegun k able' f e
begun_secured f d e k able able' weaker more begun =
    begun_less k able able' (content_of f) (len_of f) (durability_of f).remnants (len_of d) (durability_of d).remnants (len_of e) (durability_of e).remnants weaker more begun

-- a block that was written after room was made for it
pub begun_last : {F : Type 0} {g : Ghosts F} (f m d : BlockFile F g) (k : ℕ) (able able' : Type 0) → (able → able') → k ≤ len_of f → len_of m ≡ k
    → Changes (KeepsFront (512 * k)) (content_of f) (content_of m) → LeavesBegun k able' f m → IsOrderly (reach_of m) → (able → IsStored m)
    → len_of m ≤ len_of d → len_of d ≤ len_of m + 1 → Grows (len_of m) (durability_of m).remnants (durability_of d).remnants → LeavesBegun k able f d
begun_last f m d k able able' weaker few len front begun orderly stored least most grows =
    begun_next f m d k able able few (omega (arith, len)) (λ is. is) front
    (begun_secured f m m k able' able weaker (λ left there. there) begun)
    (subst (λ (n : ℕ). LeavesBegun n able m d) len (grown_begun m d able orderly least most stored grows))

-- which writes are synced
pub synced : (k : ℕ) (block : List ℕ) (bracket : Bool) → (k ≡ 0 → ⊥)
    → ((rest : List ℕ) → (block ≡ 71 ∷ 51 ∷ 72 ∷ 68 ∷ rest) ⊎ (block ≡ 71 ∷ 51 ∷ 77 ∷ 75 ∷ rest) → bracket ≡ true) → IsSynced k block → bracket ≡ true
synced k block bracket other each (inl first) = absurd (other first)
synced k block bracket other each (inr (rest, is)) = each rest is

-- a call that secures, after one that adds nothing
pub secures_then : {F : Type 0} {g : Ghosts F} {T E : Type 0} (f m d : BlockFile F g) (r : Result T E) → len_of m ≡ len_of f
    → Changes (KeepsFront (512 * len_of f)) (content_of f) (content_of m) → LeavesNoMoreBlocks f m → durable_of m ≡ durable_of f → len_of d ≡ len_of m
    → Secures m d r → Secures f d r
secures_then {T = T} {E = E} f m d r len front more same len' s =
    let counted = f.counted in record {
      no_more = λ left there. more left (s.no_more left there);
      stored = λ kept. s.stored (subst (λ (n : ℕ). Keeps n m) (sym same) (kept_more f m (durable_of f) (len_of f) counted counted len front more kept));
      all = s.all;
      same = err_same r s.same;
      orderly = s.orderly;
      disorderly = s.disorderly;
    }
  where
    err_same : (r' : Result T E) → OnErr r' (durable_of d ≡ durable_of m) → OnErr r' (durable_of d ≡ durable_of f)
    err_same (Ok x) is = tt
    err_same (Err e) is = is ∙ same

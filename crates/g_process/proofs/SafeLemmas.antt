-- The completed dumps of all reels are safe, wherever PROCESS ends.
-- serves: AnswerLemmas, LossLemmas, ProcessLemmas
use Rattle.std.proofs.Common.{◌≡◌, ℕ, ◌+◌, ◌<◌, Bool, true, false, List, [], ◌∷◌, length, take, Option, Some, None, Err, refl, sym, ◌∙◌, ap, arith, subst, inl, inr, option_map, if◌then◌else◌, slice_get, true≢false}
use Rattle.std.specs.Prelude.{◌⊎◌}
use Rattle.std.specs.Option.{ForSome}
use Rattle.std.proofs.lemmas.Bool.{cases_Bool, cases_eq}
use Rattle.std.proofs.lemmas.Option.{none-some, same_Some}
use Rattle.g_entry.specs.declared.file_rec.FileRec.{FileRec}
use Rattle.g_tape.specs.declared.fault.TapeFault.TheVariants.{WriteFailed}
use Rattle.g_tape.specs.Durable.{IsDurable, IsDurableTo, WritesDurably}
use Rattle.g_tape.specs.Rack.{Rack, changed, reel, refuses_write}
use Rattle.g_tape.specs.Reads.{OnlyReads, blocks_in, blocks_of, is_syncable}
use Rattle.g_tape.specs.Reel.{Reel, Remains, ending, left_by}
use Rattle.g_tape.specs.Risk.{Leaves, risk}
use Rattle.g_tape.proofs.ReadLemmas.{blocks_after_reads, reel-with_reel}
use Rattle.g_disc_contents.specs.Contents.{has}
use Rattle.g_disc_contents.specs.Facts.{OnlineFacts}
use Rattle.g_incr.specs.Layout.{Dump, count_of, dump_blocks, mark_block}
use Rattle.g_incr.specs.Plan.{IsAway, IsPlan, IsReadyAt, Plan, dump_of, first_content, needs}
use Rattle.g_incr.proofs.PieceLemmas.{at_mark}
use Rattle.g_incr.proofs.PlanLemmas.{length-made}
use Rattle.g_shelf.specs.CompletedDumps.{AreCompleted}
use Rattle.g_shelf.specs.Surviving.{CanSurvive, DumpsSurvive, IsBegunDurably}
use Rattle.g_shelf.proofs.OneLemmas.{completed_are_one}
use Rattle.g_shelf.proofs.SurvivalLemmas.{mark_synced, other_can}
use Rattle.g_shelf.proofs.SurvivingLemmas.{durable_dumps, front_left, survive_reads}
use Rattle.g_store_meaning.specs.Surviving.{AreDumpsSafe}
use Rattle.g_dumper.specs.Invariant.{spent_with, up_with}
use Rattle.g_dumper.proofs.BeginLemmas.{reel_named}
use Rattle.g_process.specs.Progress.{HasWritten, IsBeside, IsBlockOf, IsWrittenDurably, filled}
use Rattle.g_process.specs.Releases.{AreReleased, AreReleasedDurably, released, zeros}
use Rattle.g_process.proofs.DumpLemmas.{blocks_front, content_is_long, content_of, get_below}
use Rattle.g_process.proofs.DurableLemmas.{less_survive, none_durable, other_blocks}
use Rattle.g_process.proofs.ReelLemmas.{filled_serial}
use Rattle.g_process.proofs.ReleaseLemmas.{reel_released}
use Rattle.g_process.proofs.WholeLemmas.{none_short}

-- THE REEL THAT IS WRITTEN
blocks_filled : (serial : ℕ) (w : List (List ℕ)) (mid m : Rack) → IsBeside (changed serial (filled w) mid) m → blocks_of serial m ≡ blocks_in (option_map (filled w) (reel serial mid.reels))
blocks_filled serial w mid m so =
    blocks_after_reads serial (record (changed serial (filled w) mid) { fuse = m.fuse; risks = m.risks }) m so
    ∙ ap blocks_in (reel-with_reel serial (filled w) (filled_serial w) mid.reels)

pub nothing_filled : (serial : ℕ) (w : List (List ℕ)) (mid m : Rack) → w ≡ [] → IsBeside (changed serial (filled w) mid) m → blocks_of serial m ≡ blocks_of serial mid
nothing_filled serial w mid m none so =
    blocks_filled serial w mid m so ∙ ap (λ (x : List (List ℕ)). blocks_in (option_map (filled x) (reel serial mid.reels))) none ∙ by (reel serial mid.reels)
  where
    by : (o : Option Reel) → blocks_in (option_map (filled []) o) ≡ blocks_in o
    by None = refl
    by (Some r) = refl

pub filled_blocks : (serial : ℕ) (w : List (List ℕ)) (mid m : Rack) → 0 < length w → IsBeside (changed serial (filled w) mid) m → ForSome (blocks_of serial m) (λ blocks. blocks ≡ w)
filled_blocks serial w mid m some so blocks at = by w some (reel serial mid.reels) (sym (blocks_filled serial w mid m so) ∙ at)
  where
    by : (v : List (List ℕ)) → 0 < length v → (o : Option Reel) → blocks_in (option_map (filled v) o) ≡ Some blocks → blocks ≡ v
    by [] more o is = absurd (let no : ⊥ = omega (arith, more) in no)
    by (b ∷ bs) more None is = absurd (none-some blocks is)
    by (b ∷ bs) more (Some r) is = by_blocks r.blocks is
      where
        by_blocks : (x : Option (List (List ℕ))) → option_map (λ (y : List (List ℕ)). b ∷ bs) x ≡ Some blocks → blocks ≡ b ∷ bs
        by_blocks None none = absurd (none-some blocks none)
        by_blocks (Some y) same = sym (same_Some (b ∷ bs) blocks same)

-- its first block is the header
pub first_ready : (p : Plan) (rs : List FileRec) (o : OnlineFacts) (old new : Rack) (b : List ℕ) → IsBlockOf p rs o old new 0 b → IsReadyAt p 0 b
first_ready p rs o old new b (inl ready) = ready
first_ready p rs o old new b (inr (i, part, r, at, stands, source)) = absurd (let place = stands.at in (let no : ⊥ = omega (arith, place) in no))

-- and once its last one is written, the mark, it is durable
pub whole_durable : (serial : ℕ) (p : Plan) (rs : List FileRec) (o : OnlineFacts) (old new : Rack) → IsPlan p → IsAway p → HasWritten serial p rs o (needs p) old new → IsDurable serial new
whole_durable serial p rs o old new rules away so =
    let made : Dump = dump_of p (content_of p so.written) in
    let front = blocks_front serial p rs o old new rules away (needs p) (omega arith) so (omega arith) in
    let long = content_is_long serial p rs o old new rules away (needs p) (omega arith) so in
    let files = length-made p.serial 0 (first_content p) p.files in
    let size : count_of made + 2 ≡ needs p = omega (arith, long, files) in
    let mark : slice_get so.written (count_of made + 1) ≡ Some (mark_block made) =
    ap (λ (x : List (List ℕ)). slice_get x (count_of made + 1)) front ∙ get_below (needs p) (dump_blocks made) (count_of made + 1) (omega (arith, size)) ∙ at_mark made (count_of made + 1) refl in
    so.durably.last (count_of made + 1) (mark_block made) mark (let all = so.long in omega (arith, all, size)) (mark_synced (count_of made + 1) made)

-- A DUMP THAT ISN'T COMPLETE, on a reel without dumps
pub get_first : (left w : List (List ℕ)) (b : List ℕ) → take 1 left ≡ take 1 w → slice_get w 0 ≡ Some b → slice_get left 0 ≡ Some b
get_first left [] b same is = absurd (let no : ⊥ = cc in no)
get_first [] (x ∷ w) b same is = absurd (let long = ap (λ (xs : List (List ℕ)). length xs) same in let no : ⊥ = omega (arith, long) in no)
get_first (y ∷ left) (x ∷ w) b same is = ap (λ (xs : List (List ℕ)). slice_get xs 0) same ∙ is

pub partial_survives : (serial : ℕ) (p : Plan) (rack : Rack) (w : List (List ℕ)) (b : List ℕ) → IsPlan p → IsAway p → p.serial ≡ serial → p.place ≡ 0 → IsBegunDurably serial 0 (length w) rack
    → ForSome (blocks_of serial rack) (λ blocks. blocks ≡ w) → slice_get w 0 ≡ Some b → IsReadyAt p 0 b → length w < needs p → DumpsSurvive serial rack
partial_survives serial p rack w b rules away named at begun are first ready short blocks here ds all bs there left leaves =
    let same : blocks ≡ w = are blocks here in
    let none : ds ≡ [] = completed_are_one serial blocks ds [] all (subst (λ (x : List (List ℕ)). AreCompleted serial x []) (sym same) (none_short serial p rules away named at w b first ready short)) in
    let now : Leaves (risk serial rack.risks) blocks left = subst (λ (x : List (List ℕ)). Leaves (risk serial rack.risks) x left) (same_Some bs blocks (sym there ∙ here)) leaves in
    let front : take 1 left ≡ take 1 w = front_left 1 serial rack blocks left here begun.header now ∙ ap (take 1) same in
    let long = begun.short blocks here left now in
    subst (AreCompleted serial left) (sym none) (none_short serial p rules away named at left b (get_first left w b front first) ready (omega (arith, long, short)))

-- THE DUMPS ARE SAFE
pub each_reel : (serial : ℕ) (P : ℕ → Type 0) → P serial → ((n : ℕ) → (n ≡ serial → ⊥) → P n) → (n : ℕ) → P n
each_reel serial P this other n = elim (cases_eq n serial) [
  | inl same ↦ subst P (sym same) this
  | inr apart ↦ other n apart
]

pub safe_up : (o : OnlineFacts) (rack : Rack) → ((n : ℕ) → DumpsSurvive n rack) → AreDumpsSafe (up_with o rack None)
safe_up o rack survive = record { up = λ unspent. survive; can = λ n. inl (survive n); open_dump = λ unspent. tt }

-- what survived before survives reads
pub survive_mid : (o : OnlineFacts) (old mid : Rack) → OnlyReads old mid → AreDumpsSafe (up_with o old None) → (n : ℕ) → DumpsSurvive n mid
survive_mid o old mid only safe n = survive_reads n old mid only.durable (blocks_after_reads n old mid only) (safe.up refl n)

-- after writing: the other reels' dumps
pub survive_beside : (serial : ℕ) (w : List (List ℕ)) (mid m : Rack) → IsWrittenDurably serial w mid m → ((n : ℕ) → (n ≡ serial → ⊥) → blocks_of n m ≡ blocks_of n mid) → ((n : ℕ) → DumpsSurvive n mid)
    → DumpsSurvive serial m → (n : ℕ) → DumpsSurvive n m
survive_beside serial w mid m so same survive here = each_reel serial (λ n. DumpsSurvive n m) here (λ n apart. less_survive n mid m (so.others n apart) (same n apart) (survive n))

-- the releases
pub survive_released : (ss : List ℕ) (m new : Rack) → AreReleasedDurably ss m new → ((n : ℕ) → has ss n ≡ false → blocks_of n new ≡ blocks_of n m) → ((n : ℕ) → DumpsSurvive n m) → (n : ℕ) → DumpsSurvive n new
survive_released ss m new so same survive n = by (cases_Bool (has ss n))
  where
    by : (has ss n ≡ true) ⊎ (has ss n ≡ false) → DumpsSurvive n new
    by (inl gone) = durable_dumps n new (so.gone n gone)
    by (inr stays) = less_survive n m new (so.others n stays) (same n stays) (survive n)

-- a failed write: its reel can survive, since the device still has its blocks
pub can_failed : (serial k : ℕ) (block : List ℕ) (mid new : Rack) (how : Remains) → (k ≡ 0) ⊎ (is_syncable serial mid ≡ true) → refuses_write k (reel serial mid.reels) ≡ None
    → ((r : Reel) → (left_by how k r).serial ≡ r.serial) → new.reels ≡ (changed serial (left_by how k) mid).reels → WritesDurably serial k block mid (Err WriteFailed) new
    → ((n : ℕ) → (n ≡ serial → ⊥) → CanSurvive n mid) → (n : ℕ) → CanSurvive n new
can_failed serial k block mid new how able free keeps reels_are failed can =
    each_reel serial (λ n. CanSurvive n new) (inr (by able)) (λ n apart. other_can n mid new (failed.others n apart) (other_blocks n serial (left_by how k) keeps apart mid new reels_are) (can n apart))
  where
    by : (k ≡ 0) ⊎ (is_syncable serial mid ≡ true) → is_syncable serial new ≡ true
    by (inl none) = failed.fresh free (subst (λ (n : ℕ). IsDurableTo n serial mid) (sym none) (none_durable serial mid))
    by (inr is) = failed.syncable is

pub safe_spent : (o : OnlineFacts) (rack : Rack) → ((n : ℕ) → CanSurvive n rack) → AreDumpsSafe (spent_with o rack)
safe_spent o rack can = record { up = λ unspent. absurd (true≢false unspent); can = can; open_dump = λ unspent. absurd (true≢false unspent) }

-- a reel that isn't released
pub blocks_stay : (ss : List ℕ) (n : ℕ) (old new : Rack) → AreReleased ss old new → has ss n ≡ false → blocks_of n new ≡ blocks_of n old
blocks_stay ss n old new gone stays =
    ap (λ (x : Rack). blocks_in (reel n x.reels)) gone ∙ ap blocks_in (reel_released n ss old.reels) ∙ by (reel n old.reels) refl
  where
    by : (o : Option Reel) → reel n old.reels ≡ o → blocks_in (option_map (released ss) o) ≡ blocks_in o
    by None is = refl
    by (Some r) is =
        let named : r.serial ≡ n = reel_named n old.reels r is in
        ap (λ (b : Bool). (if b then ending 0 zeros r else r).blocks) (ap (has ss) named ∙ stays)

-- The completed dumps survive a step of the open dump.
-- serves: KeepLemmas
use Rattle.std.proofs.Common.{◌≡◌, ◌≢◌, ℕ, ◌+◌, ◌<◌, ◌≤◌, ◌==◌, true, List, [], ◌∷◌, ◌++◌, length, take, Option, Some, None, refl, sym, ◌∙◌, ap, arith, subst, inl, inr, true≢false}
use Rattle.std.specs.Prelude.{◌⊎◌, option_map, slice_get}
use Rattle.std.proofs.lemmas.Bool.{cases_eq}
use Rattle.std.proofs.lemmas.Option.{same_Some}
use Rattle.g_tape.specs.Durable.{AfterPowerLoss}
use Rattle.g_tape.specs.Rack.{AreReels, Rack, reel, with_reel}
use Rattle.g_tape.specs.Reads.{blocks_in, blocks_of, is_syncable, unread}
use Rattle.g_tape.specs.Reel.{Reel, Remains, Shortened, Torn, Unchanged, ending, left_by}
use Rattle.g_tape.specs.Risk.{risk}
use Rattle.g_tape.proofs.ReadLemmas.{is_reel, reel-with_reel, reel-with_reel_other}
use Rattle.g_disc_contents.specs.Facts.{OnlineFacts}
use Rattle.g_incr.specs.Layout.{Dump, dump_blocks, header_block, mark_block}
use Rattle.g_incr.specs.Plan.{dump_of, needs}
use Rattle.g_incr.proofs.PieceLemmas.{at_mark}
use Rattle.g_shelf.specs.CompletedDumps.{AreCompleted, AreShelved}
use Rattle.g_shelf.specs.QuietWrites.{left_in}
use Rattle.g_shelf.specs.Surviving.{CanSurvive, DumpsSurvive, IsBegunDurably, LeavesWithOrWithout}
use Rattle.g_shelf.proofs.SurvivalLemmas.{begun_block, failed_mark, other_survives, survive_block, survive_failed, survive_mark}
use Rattle.g_store_meaning.specs.Meaning.{told_reels}
use Rattle.g_store_meaning.specs.Reading.{ReelsTold}
use Rattle.g_store_meaning.specs.StoreInvariant.{DumpFacts, IsOpen, IsUp, content_in, with_dump}
use Rattle.g_store_meaning.specs.Surviving.{AreDumpsSafe}
use Rattle.g_dumper.specs.Invariant.{HasBlock, up_with}
use Rattle.g_dumper.specs.Steps.{FailedWrite, WroteBlock}
use Rattle.g_dumper.proofs.OpenLemmas.{reel_then}
use Rattle.g_dumper.proofs.BeginLemmas.{reel_named}
use Rattle.g_dumper.proofs.ShelfLemmas.{begun, counts, left_serial, now, reel_there, the_blocks, this_reel}

-- the completed dumps of a reel of the rack
pub shelved_at : (n : ℕ) (rack : Rack) (shelf : ℕ → List Dump) (blocks : List (List ℕ)) → AreShelved shelf (told_reels rack) → blocks_of n rack ≡ Some blocks → AreCompleted n blocks (shelf n)
shelved_at n rack shelf blocks shelved at = by (reel n rack.reels) refl
  where
    by : (o : Option Reel) → reel n rack.reels ≡ o → AreCompleted n blocks (shelf n)
    by None none = absurd (let never : None ≡ Some blocks = sym (ap blocks_in none) ∙ at in cc)
    by (Some r) here =
        let named : r.serial ≡ n = reel_named n rack.reels r here in
        let there : r.blocks ≡ Some blocks = sym (ap blocks_in here) ∙ at in
        subst (λ (m : ℕ). AreCompleted m blocks (shelf m)) named (shelved.each (unread r) (reel_there n rack.reels r here) blocks there)

-- what survives on a reel of the shelf
pub left_shelved : (n : ℕ) (rack : Rack) (shelf : ℕ → List Dump) → AreShelved shelf (told_reels rack) → DumpsSurvive n rack → AfterPowerLoss n rack (λ left. AreCompleted n left (shelf n))
left_shelved n rack shelf shelved survive blocks at = survive blocks at (shelf n) (shelved_at n rack shelf blocks shelved at) blocks at

-- the other reels after a write
pub other_reel_same : (n serial : ℕ) (f : Reel → Reel) → ((r : Reel) → (f r).serial ≡ r.serial) → (n ≡ serial → ⊥) → (old new : Rack) → new.reels ≡ with_reel serial f old.reels → reel n new.reels ≡ reel n old.reels
other_reel_same n serial f keeps apart old new is = ap (reel n) is ∙ reel-with_reel_other serial n f keeps (λ e. apart (sym e)) old.reels

-- what a failed write left of the blocks
left_exposed : (how : Remains) (k : ℕ) (r : Reel) (was : List (List ℕ)) → r.blocks ≡ Some was → (left_by how k r).blocks ≡ Some (left_in how k was)
left_exposed Unchanged k r was at = at
left_exposed Shortened k r was at = ap (option_map (take k)) at
left_exposed (Torn block) k r was at = ap (option_map (λ (bs : List (List ℕ)). take k bs ++ block ∷ [])) at

-- how long a failed write leaves a reel that had k blocks
left_length : (how : Remains) (k : ℕ) (r : Reel) → r.len ≡ k → k ≤ (left_by how k r).len
left_length Unchanged k r long = omega (arith, long)
left_length Shortened k r long = omega arith
left_length (Torn block) k r long = omega arith

-- the header is the first block of a dump
first_block : (d : Dump) (block : List ℕ) → slice_get (dump_blocks d) 0 ≡ Some block → block ≡ header_block d
unfolding dump_blocks
first_block d block is = sym (same_Some (header_block d) block is)

-- an open dump of a store that is up, whose dumps are safe
module _ (d : DumpFacts) (o : OnlineFacts) (old : Rack) (reels : AreReels old.reels) (tell : ReelsTold (told_reels old)) (is : IsOpen d o old) (text : ℕ → List ℕ) (shelf : ℕ → List Dump)
    (shelved : AreShelved shelf (told_reels old)) (up : IsUp text shelf (up_with o old (Some d))) (content : List (List ℕ)) (has : content_in is.pins ≡ Some content)
    (safe : AreDumpsSafe (up_with o old (Some d))) where
  abbrev made : Dump
  made = dump_of d.plan content

  abbrev serial : ℕ
  serial = d.plan.serial

  abbrev here : (blocks : List (List ℕ)) × (is.on.blocks ≡ Some blocks)
  here = the_blocks d o old reels tell is text shelf shelved up content has

  at_old : blocks_of serial old ≡ Some here.0
  at_old = ap blocks_in is.reel_is ∙ here.1

  from : d.plan.place ≤ length here.0
  from =
      let right = is_reel serial old.reels is.on reels.each is.reel_is in
      let long = right.told here.0 here.1 in
      let low = is.from in
      omega (arith, long, low)

  all_old : AreCompleted serial here.0 (shelf serial)
  all_old = now d o old reels tell is text shelf shelved up content has

  -- the dumps of the other reels survive
  others : (new : Rack) (f : Reel → Reel) → ((r : Reel) → (f r).serial ≡ r.serial) → new.reels ≡ with_reel serial f old.reels
      → ((t : ℕ) → (t ≡ serial → ⊥) → risk t new.risks ≡ risk t old.risks) → (n : ℕ) → (n ≡ serial → ⊥) → DumpsSurvive n new
  others new f keeps reels_are risks n apart =
      other_survives n old new (risks n apart) (ap blocks_in (other_reel_same n serial f keeps apart old new reels_are)) (safe.up refl n)

  each_reel : (P : ℕ → Type 0) → P serial → ((n : ℕ) → (n ≡ serial → ⊥) → P n) → (n : ℕ) → P n
  each_reel P this other n = elim (cases_eq n serial) [
    | inl same ↦ subst P (sym same) this
    | inr apart ↦ other n apart
  ]

  -- THE BLOCK WAS WRITTEN
  module _ (new : Rack) (wrote : WroteBlock d o.pins old new) where
    abbrev at : ℕ
    at = d.plan.place + d.done

    there : blocks_of serial new ≡ Some (take at here.0 ++ wrote.block ∷ [])
    there =
        ap blocks_in (reel_then d o old reels is new wrote)
        ∙ ap (option_map (λ (bs : List (List ℕ)). take at bs ++ wrote.block ∷ [])) here.1

    next_is : slice_get (dump_blocks made) d.done ≡ Some wrote.block
    next_is = wrote.next.is is.pins is.pinned content has

    other_dumps : (n : ℕ) → (n ≡ serial → ⊥) → DumpsSurvive n new
    other_dumps = others new (ending at wrote.block) (λ r. refl) (ap (λ (r : Rack). r.reels) wrote.rack) wrote.durably.others

    pub dumps_going : d.done + 1 < needs d.plan → (n : ℕ) → DumpsSurvive n new
    dumps_going less = each_reel (λ n. DumpsSurvive n new)
        (survive_block serial d.done (shelf serial) made wrote.block old new here.0 at_old all_old (begun d o old reels tell is text shelf shelved up content has) (safe.up refl serial) (safe.open_dump refl) from wrote.free there wrote.durably
        (let sum = counts d o old reels tell is text shelf shelved up content has in omega (arith, less, sum)))
        other_dumps

    pub begun_going : IsBegunDurably serial d.plan.place (d.done + 1) new
    begun_going =
        begun_block serial d.done (shelf serial) made wrote.block old new here.0 at_old all_old (begun d o old reels tell is text shelf shelved up content has) (safe.up refl serial) (safe.open_dump refl) from wrote.free there wrote.durably
        (λ none. first_block made wrote.block (ap (slice_get (dump_blocks made)) (sym none) ∙ next_is))

    pub dumps_marked : d.done + 1 ≡ needs d.plan → (n : ℕ) → DumpsSurvive n new
    dumps_marked last =
        let sum = counts d o old reels tell is text shelf shelved up content has in
        let mark : mark_block made ≡ wrote.block = same_Some (mark_block made) wrote.block (sym (at_mark made d.done (omega (arith, last, sum))) ∙ next_is) in
        each_reel (λ n. DumpsSurvive n new)
        (survive_mark serial d.done (shelf serial) made wrote.block old new here.0 at_old all_old (begun d o old reels tell is text shelf shelved up content has) (safe.up refl serial) (safe.open_dump refl) from wrote.free there wrote.durably
        (omega (arith, last, sum)) (sym mark))
        other_dumps

  -- THE WRITE FAILED
  module _ (new : Rack) (failed : FailedWrite d o.pins old new) where
    abbrev at_block : ℕ
    at_block = d.plan.place + d.done

    reels_then : new.reels ≡ with_reel serial (left_by failed.how at_block) old.reels
    reels_then = ap (λ (r : Rack). r.reels) failed.rack

    reel_left : reel serial new.reels ≡ Some (left_by failed.how at_block is.on)
    reel_left = ap (reel serial) reels_then ∙ reel-with_reel serial (left_by failed.how at_block) (left_serial failed.how at_block) old.reels ∙ ap (option_map (left_by failed.how at_block)) is.reel_is

    there_left : blocks_of serial new ≡ Some (left_in failed.how at_block here.0)
    there_left = ap blocks_in reel_left ∙ left_exposed failed.how at_block is.on here.0 here.1

    block_is : slice_get (dump_blocks made) d.done ≡ Some failed.block
    block_is = failed.next.is is.pins is.pinned content has

    dumps_beside : (n : ℕ) → (n ≡ serial → ⊥) → DumpsSurvive n new
    dumps_beside = others new (left_by failed.how at_block) (left_serial failed.how at_block) reels_then failed.durably.others

    pub dumps_failed : d.done + 1 < needs d.plan → (n : ℕ) → DumpsSurvive n new
    dumps_failed less = each_reel (λ n. DumpsSurvive n new)
        (survive_failed serial d.done (shelf serial) made failed.block old new here.0 at_old all_old (begun d o old reels tell is text shelf shelved up content has) (safe.up refl serial) (safe.open_dump refl) from failed.free failed.how there_left failed.durably
        (let sum = counts d o old reels tell is text shelf shelved up content has in omega (arith, less, sum)))
        dumps_beside

    module _ (last : d.done + 1 ≡ needs d.plan) where
      mark_failed : LeavesWithOrWithout serial new (shelf serial) made × (is_syncable serial new ≡ true)
      mark_failed =
          let sum = counts d o old reels tell is text shelf shelved up content has in
          let mark : mark_block made ≡ failed.block = same_Some (mark_block made) failed.block (sym (at_mark made d.done (omega (arith, last, sum))) ∙ block_is) in
          failed_mark serial d.done (shelf serial) made failed.block old new here.0 at_old all_old (begun d o old reels tell is text shelf shelved up content has) (safe.up refl serial) (safe.open_dump refl) from failed.free failed.how there_left failed.durably
          (omega (arith, last, sum)) (sym mark)

      pub can_survive : (n : ℕ) → CanSurvive n new
      can_survive = each_reel (λ n. CanSurvive n new) (inr mark_failed.1) (λ n apart. inl (dumps_beside n apart))

      pub has_block : HasBlock serial new
      has_block =
          let sum = counts d o old reels tell is text shelf shelved up content has in
          let long = is.length_is (omega (arith, last, sum)) in
          let kept = left_length failed.how at_block is.on long in
          record { on = left_by failed.how at_block is.on; is = reel_left; len = omega (arith, last, sum, kept) }

      pub left_at_mark : (n : ℕ) → AfterPowerLoss n new (λ left. AreCompleted n left (shelf n) ⊎ AreCompleted n left (with_dump made shelf n))
      left_at_mark = each_reel (λ n. AfterPowerLoss n new (λ left. AreCompleted n left (shelf n) ⊎ AreCompleted n left (with_dump made shelf n)))
          (subst (λ (ds : List Dump). AfterPowerLoss serial new (λ left. AreCompleted serial left (shelf serial) ⊎ AreCompleted serial left ds)) (sym (this_reel d o old reels tell is text shelf shelved up content has)) mark_failed.0)
          (λ n apart blocks at left leaves.
          inl (dumps_beside n apart blocks at (shelf n) (shelved_at n old shelf blocks shelved (sym (ap blocks_in (other_reel_same n serial (left_by failed.how at_block) (left_serial failed.how at_block) apart old new reels_then)) ∙ at)) blocks at left leaves))

-- What was read of sealed dumps, and the rotten ones among them.
-- serves: block_at (block), reel_state (state), rotten_dumps (rotten)
use Rattle.std.proofs.Common.{◌≡◌, ◌⊎◌, inl, inr, ℕ, ◌+◌, ◌-◌, ◌*◌, ◌<◌, ◌≤◌, Bool, true, false, ◌&&◌, ◌||◌, List, [], ◌∷◌, ◌++◌, length, take, get_or, slice_get, Option, Some, None, Result, Ok, refl, sym, ◌∙◌, ap, subst}
use Rattle.std.specs.Prelude.{filter, is_some, map, not, option_map, nat_le}
use Rattle.std.specs.Option.{ForSome}
use Rattle.std.proofs.lemmas.Bool.{cases_Bool, cond-false, cond-true, le-leb, leb-true}
use Rattle.std.proofs.lemmas.List.{map-append, take_all, take_more}
use Rattle.std.proofs.lemmas.List.Elements.{filter-append}
use Rattle.sha2.specs.Sha256.{sha256}
use Rattle.g_base.specs.Block.{blocks_for}
use Rattle.g_entry.specs.declared.file_rec.TapeCopy.{TapeCopy}
use Rattle.g_incr.specs.declared.fault.ShelfFault.{ShelfFault}
use Rattle.g_incr.specs.Reading.{ReadsReel}
use Rattle.g_tape.specs.Rack.{Rack, reel, refuses_unmount}
use Rattle.g_tape.specs.Reads.{blocks_in, blocks_of, unread}
use Rattle.g_tape.specs.Reel.{Reel}
use Rattle.g_tape.proofs.ReadLemmas.{reel-unread}
use Rattle.g_store_meaning.specs.Meaning.{told_reels}
use Rattle.g_store_meaning.specs.Reading.{ReelsTold}
use Rattle.g_look.specs.Looks.{ReadsRackByCause}
use Rattle.g_look.proofs.HeadLemmas.{told_blocks}
use Rattle.g_seal.specs.declared.entries.SealedDump.{SealedDump}
use Rattle.g_seal.specs.declared.rotten_dumps.RottenDump.{RottenDump}
use Rattle.g_seal.specs.declared.versions.CopyState.{CopyState}
use Rattle.g_seal.specs.declared.versions.CopyState.TheVariants as state
use Rattle.g_seal.specs.Rotten.{block_in, block_on, has_blocks, has_copy, is_later_header, is_mark, is_other, is_overwritten, is_rotten, place_of, reel_state, rotten_dumps, sum_state, without_sum}
use Rattle.g_seal.specs.Sealing.{HasAll, bytes_on}
use Rattle.g_seal.proofs.LineLemmas.{rack_never, rack_none, rack_then}
use Rattle.g_seal.proofs.ReelLemmas.{all_reel}

-- A BLOCK that was read
pub block_is : (rack new : Rack) (s k : ℕ) (o : Option (List ℕ)) → (let r : Result (Option (List ℕ)) ShelfFault = Ok o in ReadsReel s r rack new) → ForSome (blocks_of s rack) (λ bs. slice_get bs k ≡ o)
    → ReelsTold (told_reels rack) → o ≡ block_on (told_reels rack) s k
block_is rack new s k o reads found told = by_reel (reel s rack.reels) refl
  where
    by_reel : (q : Option Reel) → reel s rack.reels ≡ q → o ≡ block_on (told_reels rack) s k
    by_reel None at = absurd (let wrong = reads.no_tape.1 (ap refuses_unmount at) in let no : ⊥ = cc in no)
    by_reel (Some q) at =
        let there : reel s (told_reels rack) ≡ Some (unread q) = reel-unread s rack.reels ∙ ap (option_map unread) at in
        let (bs, tells) = told_blocks (unread q).blocks (all_reel (λ r. is_some r.blocks ≡ true) s (told_reels rack) (unread q) told.each there) in
        sym (found bs (ap blocks_in at ∙ tells)) ∙ ap (block_in k) (sym (ap blocks_in there ∙ tells))

-- THE STATE OF BYTES
has_copy_true : (reels : List Reel) (copy : TapeCopy) (len : ℕ) → HasAll reels copy len → has_copy reels copy len ≡ true
has_copy_true reels copy len has = ap (has_blocks (copy.first + blocks_for len)) has.there ∙ le-leb (copy.first + blocks_for len) has.one.len has.long

has_copy_false : (reels : List Reel) (copy : TapeCopy) (len : ℕ) → (HasAll reels copy len → ⊥) → has_copy reels copy len ≡ false
has_copy_false reels copy len none = by_reel (reel copy.serial reels) refl
  where
    by_reel : (o : Option Reel) → reel copy.serial reels ≡ o → has_blocks (copy.first + blocks_for len) o ≡ false
    by_reel None at = refl
    by_reel (Some r) at = by_long (cases_Bool (nat_le (copy.first + blocks_for len) r.len))
      where
        by_long : (nat_le (copy.first + blocks_for len) r.len ≡ true) ⊎ (nat_le (copy.first + blocks_for len) r.len ≡ false) → nat_le (copy.first + blocks_for len) r.len ≡ false
        by_long (inl is) = absurd (none (record { one = r; there = at; long = leb-true (copy.first + blocks_for len) r.len is }))
        by_long (inr is) = is

pub state_there : (reels : List Reel) (copy : TapeCopy) (len : ℕ) (due sum : List ℕ) (s : CopyState) → HasAll reels copy len → sum ≡ sha256 (bytes_on reels copy len) → s ≡ sum_state sum due → s ≡ reel_state reels copy len due
state_there reels copy len due sum s has is state_is =
    state_is ∙ ap (λ (x : List ℕ). sum_state x due) is ∙ sym (cond-true (has_copy reels copy len) (sum_state (sha256 (bytes_on reels copy len)) due) state.Absent (has_copy_true reels copy len has))

pub state_gone : (reels : List Reel) (copy : TapeCopy) (len : ℕ) (due : List ℕ) → (HasAll reels copy len → ⊥) → state.Absent ≡ reel_state reels copy len due
state_gone reels copy len due none = sym (cond-false (has_copy reels copy len) (sum_state (sha256 (bytes_on reels copy len)) due) state.Absent (has_copy_false reels copy len none))

-- THE ROTTEN ONES among the first i dumps, while the rack was read
pub record RottenDumps (dumps : List SealedDump) (i : ℕ) (found : List RottenDump) (old now : Rack) : Type 0 where
  pub reads : ReadsRackByCause ⊥ old now
  pub found_is : ReelsTold (told_reels old) → found ≡ rotten_dumps (told_reels old) (take i dumps)

pub none_rotten : (dumps : List SealedDump) (found : List RottenDump) (rack : Rack) → found ≡ [] → RottenDumps dumps 0 found rack rack
none_rotten dumps found rack none = record { reads = rack_none rack; found_is = λ told. none }

pub rotten_more : {Q : Type 0} (dumps : List SealedDump) (i : ℕ) (d : SealedDump) (found next : List RottenDump) (old mid new : Rack) → i < length dumps → RottenDumps dumps i found old mid → (Q → ⊥)
    → ReadsRackByCause Q mid new → (ReelsTold (told_reels mid) → next ≡ found ++ rotten_dumps (told_reels mid) (get_or dumps i d ∷ [])) → RottenDumps dumps (i + 1) next old new
rotten_more {Q} dumps i d found next old mid new within so never reads adds =
    let one : List SealedDump = get_or dumps i d ∷ [] in
    let still : told_reels mid ≡ told_reels old = so.reads.only.reels in
    record {
      reads = rack_then (λ wrong. wrong) so.reads (rack_never never reads);
      found_is = λ told.
          adds (subst ReelsTold (sym still) told) ∙ ap (λ (rs : List Reel). found ++ rotten_dumps rs one) still
          ∙ ap (λ (ds : List RottenDump). ds ++ rotten_dumps (told_reels old) one) (so.found_is told)
          ∙ sym (map-append without_sum (filter (is_rotten (told_reels old)) (take i dumps)) (filter (is_rotten (told_reels old)) one))
          ∙ ap (λ (ds : List SealedDump). map without_sum ds) (sym (filter-append (is_rotten (told_reels old)) (take i dumps) one))
          ∙ ap (rotten_dumps (told_reels old)) (sym (take_more dumps i d within));
    }

pub all_rotten : (dumps : List SealedDump) (i : ℕ) (found : List RottenDump) (old now : Rack) → length dumps ≤ i → RottenDumps dumps i found old now → ReelsTold (told_reels old)
    → found ≡ rotten_dumps (told_reels old) dumps
all_rotten dumps i found old now all so told = so.found_is told ∙ ap (rotten_dumps (told_reels old)) (take_all i dumps all)

-- A DUMP that is rotten or not
first_false : (a b c : Bool) → a ≡ false → (a && b && c) ≡ false
first_false a b c x = rw x refl

second_false : (a b c : Bool) → b ≡ false → (a && b && c) ≡ false
second_false true b c x = rw x refl
second_false false b c x = refl

both_true : (a b c : Bool) → a ≡ true → b ≡ true → (a && b && c) ≡ c
both_true a b c x y = rw (x, y) refl

pub too_big : (reels : List Reel) (d : SealedDump) → nat_le d.blocks 65_536 ≡ false → false ≡ is_rotten reels d
too_big reels d big = sym (first_false (nat_le d.blocks 65_536) (is_other (reel_state reels (place_of d) (512 * d.blocks) d.sum)) (not (is_overwritten reels d)) big)

pub not_other : (reels : List Reel) (d : SealedDump) (s : CopyState) → s ≡ reel_state reels (place_of d) (512 * d.blocks) d.sum → is_other s ≡ false → false ≡ is_rotten reels d
not_other reels d s is none =
    sym (second_false (nat_le d.blocks 65_536) (is_other (reel_state reels (place_of d) (512 * d.blocks) d.sum)) (not (is_overwritten reels d)) (ap is_other (sym is) ∙ none))

pub other_is : (reels : List Reel) (d : SealedDump) (s : CopyState) (over : Bool) → nat_le d.blocks 65_536 ≡ true → s ≡ reel_state reels (place_of d) (512 * d.blocks) d.sum → is_other s ≡ true → over ≡ is_overwritten reels d
    → not over ≡ is_rotten reels d
other_is reels d s over small is other over_is =
    ap not over_is ∙ sym (both_true (nat_le d.blocks 65_536) (is_other (reel_state reels (place_of d) (512 * d.blocks) d.sum)) (not (is_overwritten reels d)) small (ap is_other (sym is) ∙ other))

-- A DUMP that was overwritten or not
module _ (reels : List Reel) (d : SealedDump) where
  pub over_marked : (m : Bool) → m ≡ is_mark d (block_on reels d.serial (d.place + d.blocks - 1)) → m ≡ true → false ≡ is_overwritten reels d
  over_marked m is marked = by (is_mark d (block_on reels d.serial (d.place + d.blocks - 1))) (sym is ∙ marked)
    where
      by : (k : Bool) → k ≡ true → false ≡ (not k && (is_later_header d 0 (block_on reels d.serial 0) || is_later_header d d.place (block_on reels d.serial d.place)))
      by k x = rw x refl

  pub over_first : (m a : Bool) → m ≡ is_mark d (block_on reels d.serial (d.place + d.blocks - 1)) → m ≡ false → a ≡ is_later_header d 0 (block_on reels d.serial 0) → a ≡ true → true ≡ is_overwritten reels d
  over_first m a is none a_is there = by (is_mark d (block_on reels d.serial (d.place + d.blocks - 1))) (is_later_header d 0 (block_on reels d.serial 0)) (sym is ∙ none) (sym a_is ∙ there)
    where
      by : (k h : Bool) → k ≡ false → h ≡ true → true ≡ (not k && (h || is_later_header d d.place (block_on reels d.serial d.place)))
      by k h x y = rw (x, y) refl

  pub over_second : (m a b : Bool) → m ≡ is_mark d (block_on reels d.serial (d.place + d.blocks - 1)) → m ≡ false → a ≡ is_later_header d 0 (block_on reels d.serial 0) → a ≡ false
      → b ≡ is_later_header d d.place (block_on reels d.serial d.place) → b ≡ is_overwritten reels d
  over_second m a b is none a_is gone b_is =
      b_is ∙ by (is_mark d (block_on reels d.serial (d.place + d.blocks - 1))) (is_later_header d 0 (block_on reels d.serial 0)) (sym is ∙ none) (sym a_is ∙ gone)
    where
      by : (k h : Bool) → k ≡ false → h ≡ false → is_later_header d d.place (block_on reels d.serial d.place) ≡ (not k && (h || is_later_header d d.place (block_on reels d.serial d.place)))
      by k h x y = rw (x, y) refl

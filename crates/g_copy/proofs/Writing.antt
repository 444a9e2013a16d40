-- Blocks that are written one after the other at given numbers.
-- serves: write_copy (dirties, ok, stopped)
use Rattle.std.proofs.Common.{◌≡◌, ◌≢◌, ℕ, ◌+◌, ◌-◌, ◌*◌, ◌<◌, ◌≤◌, List, [], ◌++◌, length, take, drop, get_or, replicate, Some, Ok, Err, length-append, inl, inr, refl, sym, ap, subst, ◌∙◌, arith, length-set}
use Rattle.std.specs.Prelude.{◌⊎◌, All, AllPairs, Contains, Result, slice_index_or, true}
use Rattle.std.proofs.Math.ListN.{set}
use Rattle.std.proofs.Math.Seq.{take-add}
use Rattle.std.proofs.lemmas.Bool.{cases_lt}
use Rattle.std.proofs.lemmas.List.{get_or_default, get_or-take, length-take, get_or-set_same, take_all, take_at, length-replicate}
use Rattle.g_base.specs.Counts.{RoseBy}
use Rattle.g_base.specs.Fields.{padded}
use Rattle.g_base.specs.ToldContent.{Changes}
use Rattle.g_base.proofs.CountLemmas.{RoseBy-none, RoseBy-one, RoseBy-then}
use Rattle.g_base.proofs.ToldLemmas.{Changes-none, Changes-then, Changes-with_block, Changes-weaken}
use Rattle.g_disc.specs.Disc.{DiscState, StaySyncable, Writes, is_durable, is_syncable}
use Rattle.g_disc.specs.Durable.{DirtiesOnly}
use Rattle.g_disc.proofs.CallLemmas.{more_later, stands_later, then_later}
use Rattle.g_copy.specs.Copy.{OnlyAt, Holds, blocks_at}
use Rattle.g_blocks.proofs.Marks.{slice_get-set_other}
use Rattle.g_copy.proofs.Blocks.{block-padded, blocks_at-set_other, blocks_at-more}

-- the first n of the blocks hold their part of the bytes, and no other block has changed
pub record HoldsTo (n : ℕ) (places bytes : List ℕ) (before after : List (List ℕ)) : Type 0 where
  pub only : OnlyAt places before after
  pub blocks_are : blocks_at (take n places) after ≡ take (512 * n) (padded (512 * length places) bytes)

-- n blocks were written
pub record Written (n : ℕ) (places bytes : List ℕ) (before after : DiscState) : Type 0 where
  pub content : Changes (HoldsTo n places bytes) before.held after.held
  pub size : after.size ≡ before.size
  pub read_faults : after.read_faults ≡ before.read_faults
  pub write_faults : after.write_faults ≡ before.write_faults
  pub arms : after.arms ≡ before.arms
  pub writes : RoseBy n before.writes after.writes
  pub later : before.writes ≤ after.writes
  pub durable : (j : ℕ) → (Contains places j → ⊥) → is_durable before j ≡ true → is_durable after j ≡ true
  pub syncable : StaySyncable before after
  pub here : (i : ℕ) → i < n → is_syncable after (get_or places i 0) ≡ true

only_none : (places : List ℕ) (b : List (List ℕ)) → OnlyAt places b b
only_none places b = record { size = refl; others = λ k other. refl }

-- a number of the list is in it
contains_at : (places : List ℕ) (n : ℕ) → n < length places → Contains places (get_or places n 0)
contains_at places n within = (n, within, get_or_default places n (get_or places n 0) 0 within)

outside_at : (places : List ℕ) (n j : ℕ) → n < length places → (Contains places j → ⊥) → j ≢ get_or places n 0
outside_at places n j within outside same = outside (subst (Contains places) (sym same) (contains_at places n within))

-- one write at a number of the list
pub only_more : (places : List ℕ) (n : ℕ) (v : List ℕ) (a b : List (List ℕ)) → n < length places → OnlyAt places a b → OnlyAt places a (set b (get_or places n 0) v)
only_more places n v a b within only = record {
  size = length-set b (get_or places n 0) v ∙ only.size;
  others = λ k other. slice_get-set_other b (get_or places n 0) k v (λ same. other (subst (Contains places) (sym same) (contains_at places n within))) ∙ only.others k other;
}

-- the next block of the bytes at the next number
holds_more : (n : ℕ) (places bytes : List ℕ) (a b : List (List ℕ)) → n < length places → length bytes ≤ 512 * length places → AllPairs (λ j k. j ≢ k) places → All (λ k. k < length a) places → HoldsTo n places bytes a b
    → HoldsTo (n + 1) places bytes a (set b (get_or places n 0) (padded 512 (take 512 (drop (512 * n) bytes))))
holds_more n places bytes a b within fits apart inside was =
    let p : ℕ = get_or places n 0 in
    let v : List ℕ = padded 512 (take 512 (drop (512 * n) bytes)) in
    let whole : List ℕ = padded (512 * length places) bytes in
    let b' : List (List ℕ) = set b p v in
    let long : p < length b = let e = was.only.size in let i = inside n 0 within in omega arith in
    let cut : length (take n places) ≡ n = length-take n places ∙ (omega arith) in
    let earlier : All (λ k. k ≢ p) (take n places) = λ j d below same.
    let left : j < n = omega arith in
    apart j n 0 left within (sym (get_or-take n places j 0 left) ∙ get_or_default (take n places) j 0 d below ∙ same) in
    let here : slice_index_or b' p [] ≡ v = get_or-set_same b p v [] long in
    record {
      only = only_more places n v a b within was.only;
      blocks_are =
          blocks_at-more places n b' within
          ∙ ap (λ (xs : List ℕ). xs ++ slice_index_or b' p []) (blocks_at-set_other (take n places) b p v earlier ∙ was.blocks_are)
          ∙ ap (λ (xs : List ℕ). take (512 * n) whole ++ xs) (here ∙ block-padded bytes (length places) n within fits)
          ∙ sym (take-add (512 * n) 512 whole)
          ∙ ap (λ (m : ℕ). take m whole) (let e : 512 * n + 512 ≡ 512 * (n + 1) = omega arith in e);
    }

-- nothing was written yet
pub written_none : (places bytes : List ℕ) (s : DiscState) → Written 0 places bytes s s
unfolding blocks_at
written_none places bytes s = record {
  content = Changes-none _ s.held s.held refl (λ b was. record { only = only_none places b; blocks_are = refl });
  size = refl;
  read_faults = refl;
  write_faults = refl;
  arms = refl;
  writes = RoseBy-none refl;
  later = stands_later refl;
  durable = λ j outside was. was;
  syncable = λ j was. was;
  here = λ i below. absurd (omega (arith, below));
}

-- the next block was written
pub written_more : {T E : Type 0} (n : ℕ) (places bytes : List ℕ) (before mid after : DiscState) (x : T) → n < length places → length bytes ≤ 512 * length places → AllPairs (λ j k. j ≢ k) places
    → ((a : List (List ℕ)) → before.held ≡ Some a → All (λ k. k < length a) places) → Written n places bytes before mid
    → Writes {T = T} {E = E} (get_or places n 0) (padded 512 (take 512 (drop (512 * n) bytes))) mid after (Ok x) → Written (n + 1) places bytes before after
written_more n places bytes before mid after x within fits apart inside was write = record {
  content = Changes-then was.content (Changes-with_block (λ b c. c ≡ set b (get_or places n 0) (padded 512 (take 512 (drop (512 * n) bytes)))) _ _ mid.held after.held write.block (λ b told. refl))
      (λ a b c told one two. subst (HoldsTo (n + 1) places bytes a) (sym two) (holds_more n places bytes a b within fits apart (inside a told) one));
  size = write.size ∙ was.size;
  read_faults = write.read_faults ∙ was.read_faults;
  write_faults = write.kept ∙ was.write_faults;
  arms = write.arms ∙ was.arms;
  writes = RoseBy-then was.writes (RoseBy-one write.writes);
  later = then_later was.later (more_later write.writes);
  durable = λ j outside is. write.durable j (outside_at places n j within outside) (was.durable j outside is);
  syncable = λ j is. write.syncable j (was.syncable j is);
  here = λ i below. by i (cases_lt i n) below;
}
  where
    by : (i : ℕ) → (i < n) ⊎ (n ≤ i) → i < n + 1 → is_syncable after (get_or places i 0) ≡ true
    by i (inl low) below = write.syncable (get_or places i 0) (was.here i low)
    by i (inr high) below =
        let same : n ≡ i = omega (arith, high, below) in subst (λ (m : ℕ). is_syncable after (get_or places m 0) ≡ true) same write.here

-- the next write failed
pub written_torn : {T E : Type 0} (n : ℕ) (places bytes : List ℕ) (from : List ℕ) (before mid after : DiscState) (e : E) → n < length places → Written n places bytes before mid
    → Writes {T = T} {E = E} (get_or places n 0) from mid after (Err e) → Changes (OnlyAt places) before.held after.held
written_torn n places bytes from before mid after e within was write =
    Changes-then was.content (Changes-with_block (λ b c. c ≡ set b (get_or places n 0) write.torn.0) _ _ mid.held after.held write.torn.2 (λ b told. refl))
    (λ a b c told one two. subst (OnlyAt places a) (sym two) (only_more places n write.torn.0 a b within one.only))

-- and what it leaves durable
pub dirties_torn : {T E F : Type 0} (n : ℕ) (places bytes : List ℕ) (from : List ℕ) (before mid after : DiscState) (e : E) (f : F) → n < length places → Written n places bytes before mid
    → Writes {T = T} {E = E} (get_or places n 0) from mid after (Err e) → DirtiesOnly {T = T} {E = F} (Contains places) before after (Err f)
dirties_torn n places bytes from before mid after e f within was write = record {
  durable = λ j outside is. write.durable j (outside_at places n j within outside) (was.durable j outside is);
  syncable = tt;
  here = tt;
}

-- all blocks were written, and are syncable
pub dirties_all : {T E : Type 0} (places bytes : List ℕ) (before after : DiscState) (t : T) → Written (length places) places bytes before after
    → DirtiesOnly {T = T} {E = E} (Contains places) before after (Ok t)
dirties_all places bytes before after t was = record {
  durable = was.durable;
  syncable = was.syncable;
  here = λ j within. subst (λ (k : ℕ). is_syncable after k ≡ true) (get_or_default places within.0 0 j within.1 ∙ within.2) (was.here within.0 within.1);
}

-- all were written
pub written_all : (places bytes : List ℕ) (before after : DiscState) → length bytes ≤ 512 * length places → Written (length places) places bytes before after → Changes (Holds places bytes) before.held after.held
unfolding padded
written_all places bytes before after fits was = Changes-weaken was.content (λ a b told holds.
    let zeros = length-replicate {A = ℕ} (512 * length places - length bytes) 0 in
    let whole : blocks_at places b ≡ padded (512 * length places) bytes =
    ap (λ (ps : List ℕ). blocks_at ps b) (sym (take_all (length places) places (omega arith))) ∙ holds.blocks_are
    ∙ take_all (512 * length places) (padded (512 * length places) bytes) (omega (arith, length-append bytes (replicate (512 * length places - length bytes) 0))) in
    record {
      only = holds.only;
      blocks_are = whole;
      bytes_are = ap (take (length bytes)) whole ∙ take_at bytes (replicate (512 * length places - length bytes) 0) (length bytes) refl;
    })

-- A rack whose reels were mounted, read and unmounted; and its dumps, whether or not its reels are mounted.
-- serves: outlook_of (foreseen, rack)
use Rattle.std.proofs.Common.{◌≡◌, ◌==◌, ℕ, Bool, true, false, List, [], ◌∷◌, ◌++◌, Option, Some, None, get_or, map, refl, sym, ◌∙◌, ap, arith, subst, All, is_some}
use Rattle.std.specs.Prelude.{Contains}
use Rattle.std.specs.Option.{ForSome, option_map}
use Rattle.std.proofs.lemmas.List.{get_or_default}
use Rattle.std.proofs.lemmas.List.Elements.{All-contains}
use Rattle.g_base.specs.Counts.{Rose}
use Rattle.g_base.proofs.KeyLemmas.{find-map}
use Rattle.g_tape.specs.Rack.{Rack, reel}
use Rattle.g_tape.specs.Reads.{LeavesNoMore, MayLeave, OnlyReads, blocks_in, blocks_of, time_of, times_in, count_at, unread}
use Rattle.g_tape.specs.Reel.{Reel, with_mounted}
use Rattle.g_tape.proofs.ReadLemmas.{nothing_read}
use Rattle.g_tree.proofs.ListLemmas.{map_of_map}
use Rattle.g_incr.specs.Layout.{Dump}
use Rattle.g_shelf.specs.CompletedDumps.{AreCompleted, AreShelved, all_dumps}
use Rattle.g_store_meaning.specs.Meaning.{told_reels}
use Rattle.g_store_meaning.specs.Reading.{ReelsTold}
use Rattle.g_look.specs.Looks.{OfDumps, ReadsRackByCause}
use Rattle.g_look.proofs.DiscLemmas.{contained_map, contains_map}
use Rattle.g_outlook.specs.Looking.{IsUnmounted, LooksByCause, unmounted}

-- A REEL WITHOUT ITS MOUNT is found at the same place
reel-unmounted : (s : ℕ) (rs : List Reel) → reel s (map (with_mounted false) rs) ≡ option_map (with_mounted false) (reel s rs)
reel-unmounted s rs = find-map (λ (r : Reel). s == r.serial) (λ (r : Reel). s == r.serial) (with_mounted false) (λ r. refl) rs

blocks-unmounted : (o : Option Reel) → blocks_in (option_map (with_mounted false) o) ≡ blocks_in o
blocks-unmounted None = refl
blocks-unmounted (Some r) = refl

times-unmounted : (o : Option Reel) → times_in (option_map (with_mounted false) o) ≡ times_in o
times-unmounted None = refl
times-unmounted (Some r) = refl

same_blocks : (s : ℕ) (rack : Rack) → blocks_of s (unmounted rack) ≡ blocks_of s rack
same_blocks s rack = ap blocks_in (reel-unmounted s rack.reels) ∙ blocks-unmounted (reel s rack.reels)

same_times : (s k : ℕ) (rack : Rack) → time_of s k (unmounted rack) ≡ time_of s k rack
same_times s k rack = ap (λ (o : Option (List ℕ)). count_at k o) (ap times_in (reel-unmounted s rack.reels) ∙ times-unmounted (reel s rack.reels))

-- ONLY READS, if the mounts are ignored
pub reads_unmounted : (old new : Rack) → OnlyReads old new → OnlyReads (unmounted old) (unmounted new)
reads_unmounted old new only = record {
  reels = both new.reels ∙ ap (map (with_mounted false)) only.reels ∙ sym (both old.reels);
  write_faults = only.write_faults;
  fuse = only.fuse;
  arms = only.arms;
  read_faults = only.read_faults;
  times = λ s k. let o = same_times s k old in let n = same_times s k new in let le = only.times s k in omega (arith, o, n, le);
  durable = record {
    leaves = λ s left may. λ blocks at. only.durable.leaves s left (λ bs there. may bs (same_blocks s new ∙ there)) blocks (sym (same_blocks s old) ∙ at);
    syncable = only.durable.syncable;
  };
}
  where
    both : (rs : List Reel) → map unread (map (with_mounted false) rs) ≡ map (with_mounted false) (map unread rs)
    both rs = map_of_map unread (with_mounted false) rs ∙ sym (map_of_map (with_mounted false) unread rs)

-- MOUNTS AND UNMOUNTS change nothing else
pub unmounted_mounts : (old new : Rack) → map (with_mounted true) new.reels ≡ map (with_mounted true) old.reels → (let t : Rack = record old { reels = new.reels } in new ≡ t) → unmounted new ≡ unmounted old
unmounted_mounts old new same rest =
    ap (λ (r : Rack). let t : Rack = record r { reels = map (with_mounted false) new.reels } in t) rest
    ∙ ap (λ (rs : List Reel). let t : Rack = record old { reels = rs } in t)
    (sym (map_of_map (with_mounted false) (with_mounted true) new.reels) ∙ ap (map (with_mounted false)) same ∙ map_of_map (with_mounted false) (with_mounted true) old.reels)

pub unmounted_unmounts : (old new : Rack) → map (with_mounted false) new.reels ≡ map (with_mounted false) old.reels → (let t : Rack = record old { reels = new.reels } in new ≡ t) → unmounted new ≡ unmounted old
unmounted_unmounts old new same rest =
    ap (λ (r : Rack). let t : Rack = record r { reels = map (with_mounted false) new.reels } in t) rest ∙ ap (λ (rs : List Reel). let t : Rack = record old { reels = rs } in t) same

-- THE DUMPS OF A RACK don't depend on its mounts
module _ (xs ys : List Reel) (same : map (with_mounted true) xs ≡ map (with_mounted true) ys) where
  like : (x : Reel) → Contains xs x → (y : Reel) × Contains ys y × (with_mounted true y ≡ with_mounted true x)
  like x in_x = contained_map (with_mounted true) ys (with_mounted true x) (subst (λ (rs : List Reel). Contains rs (with_mounted true x)) same (contains_map (with_mounted true) xs x in_x))

  shelved_too : (shelf : ℕ → List Dump) → AreShelved shelf ys → AreShelved shelf xs
  shelved_too shelf shelved = record { each = each }
    where
      each : (x : Reel) → Contains xs x → ForSome x.blocks (λ reel. AreCompleted x.serial reel (shelf x.serial))
      each x in_x =
          let (y, in_y, is) = like x in_x in
          subst (λ (q : Reel). ForSome q.blocks (λ reel. AreCompleted q.serial reel (shelf q.serial))) is (shelved.each y in_y)

  told_too : All (λ (r : Reel). is_some r.blocks ≡ true) ys → All (λ (r : Reel). is_some r.blocks ≡ true) xs
  told_too told k d inside =
      let (y, in_y, is) = like (get_or xs k d) (k, inside, get_or_default xs k (get_or xs k d) d inside) in
      subst (λ (q : Reel). is_some q.blocks ≡ true) is (All-contains (λ (r : Reel). is_some r.blocks ≡ true) ys y told in_y)

  dumps_too : (shelf : ℕ → List Dump) → all_dumps shelf xs ≡ all_dumps shelf ys
  dumps_too shelf = sym (bare xs) ∙ ap (all_dumps shelf) same ∙ bare ys
    where
      bare : (rs : List Reel) → all_dumps shelf (map (with_mounted true) rs) ≡ all_dumps shelf rs
      bare [] = refl
      bare (r ∷ rs) = ap (λ (ds : List Dump). shelf r.serial ++ ds) (bare rs)

pub of_mounted : (old new : Rack) (P : List Dump → Type 0) → map (with_mounted true) new.reels ≡ map (with_mounted true) old.reels → OfDumps new P → OfDumps old P
of_mounted old new P same holds told shelf shelved =
    subst P (dumps_too (told_reels new) (told_reels old) alike shelf)
    (holds (record { each = told_too (told_reels new) (told_reels old) alike told.each }) shelf (shelved_too (told_reels new) (told_reels old) alike shelf shelved))
  where
    both : (rs : List Reel) → map (with_mounted true) (map unread rs) ≡ map unread (map (with_mounted true) rs)
    both rs = map_of_map (with_mounted true) unread rs ∙ sym (map_of_map unread (with_mounted true) rs)

    alike : map (with_mounted true) (told_reels new) ≡ map (with_mounted true) (told_reels old)
    alike = both new.reels ∙ ap (map unread) same ∙ sym (both old.reels)

-- ALL REELS WERE MOUNTED, read and unmounted
module _ (old mid new : Rack) (mounts : map (with_mounted true) mid.reels ≡ map (with_mounted true) old.reels) (mounts_rest : let t : Rack = record old { reels = mid.reels } in mid ≡ t) where
  same_faults : mid.read_faults ≡ old.read_faults
  same_faults = ap (λ (r : Rack). r.read_faults) mounts_rest

  pub looks : (P : Type 0) (read : Rack) → ReadsRackByCause P mid read → map (with_mounted false) new.reels ≡ map (with_mounted false) read.reels
      → (let t : Rack = record read { reels = new.reels } in new ≡ t) → IsUnmounted new → LooksByCause P old new
  looks P read reads unmounts rest down = record {
    only = subst (λ (r : Rack). OnlyReads r (unmounted new)) (unmounted_mounts old mid mounts mounts_rest)
        (subst (λ (r : Rack). OnlyReads (unmounted mid) r) (sym (unmounted_unmounts read new unmounts rest)) (reads_unmounted mid read reads.only));
    down = down;
    kept = λ isnt. ap (λ (r : Rack). r.read_faults) rest ∙ reads.kept isnt ∙ same_faults;
    rose = λ is. subst (λ (n : ℕ). Rose n new.read_faults) same_faults (subst (λ (n : ℕ). Rose mid.read_faults n) (sym (ap (λ (r : Rack). r.read_faults) rest)) (reads.rose is));
  }

  pub looks_not : (P : Type 0) → (P → ⊥) → map (with_mounted false) new.reels ≡ map (with_mounted false) mid.reels → (let t : Rack = record mid { reels = new.reels } in new ≡ t) → IsUnmounted new
      → LooksByCause P old new
  looks_not P isnt unmounts rest down = looks P mid (record { only = nothing_read mid; kept = λ no. refl; rose = λ is. absurd (isnt is) }) unmounts rest down

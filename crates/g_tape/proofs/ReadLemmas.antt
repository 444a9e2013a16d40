-- What reads preserve, and how they compose.
-- serves: reads_only_read, DurableLemmas, MemoryLemmas, SecureLemmas, crates above
use Rattle.std.proofs.Common.{◌≡◌, ℕ, ◌<◌, ◌≤◌, List, [], Bool, true, false, ◌==◌, nat_lt, if◌then◌else◌, Option, Some, None, Result, Ok, Err, All, length, map, get_or, option_map, refl, subst, sym, ap, ◌∙◌, inl, inr, arith}
use Rattle.std.proofs.Math.ListN.{set, get_or-eq_default}
use Rattle.std.specs.Option.{ForSome}
use Rattle.std.proofs.lemmas.Bool.{cases_eq, cases_lt, ltb-true}
use Rattle.std.proofs.lemmas.List.Elements.{All-contains}
use Rattle.std.proofs.lemmas.List.{get_or-set_same, get_or-set_other}
use Rattle.g_base.specs.Counts.{one_more, Rose}
use Rattle.g_base.proofs.KeyLemmas.{at_key-other, find-change, find-map, map-change_same}
use Rattle.g_tape.specs.declared.fault.TapeFault.{TapeFault}
use Rattle.g_tape.specs.declared.fault.TapeFault.TheVariants.{NoTape, NotMounted, End, ReadFailed, WriteFailed}
use Rattle.g_tape.specs.Reel.{Reel, IsReel, read_at}
use Rattle.g_tape.specs.Rack.{Rack, AreReels, reel, with_reel, changed, refuses_read, Reading, Securing, SecuringAll}
use Rattle.g_tape.specs.Reads.{unread, blocks_in, times_in, count_at, blocks_of, LeavesNoMore, OnlyReads, HasRead}
use Rattle.g_tape.specs.Risk.{Leaves, Risk, risk, syncs}
use Rattle.g_tape.specs.Laws.{ReadsOnlyRead}
use Rattle.g_tape.proofs.PlaceLemmas.{reel-found}

-- the changed reel is found changed
pub reel-with_reel : (s : ℕ) (f : Reel → Reel) → ((r : Reel) → (f r).serial ≡ r.serial) → (rs : List Reel) → reel s (with_reel s f rs) ≡ option_map f (reel s rs)
reel-with_reel s f keeps rs = find-change (λ (r : Reel). s == r.serial) f (λ r. ap (λ (n : ℕ). s == n) (keeps r)) rs

-- The other reels are found unchanged.
pub reel-with_reel_other : (s t : ℕ) (f : Reel → Reel) → ((r : Reel) → (f r).serial ≡ r.serial) → (s ≡ t → ⊥) → (rs : List Reel) → reel t (with_reel s f rs) ≡ reel t rs
reel-with_reel_other s t f keeps apart rs = at_key-other (λ (r : Reel). r.serial) s t f keeps apart rs

-- a change that only counts reads isn't seen without the counts
pub unread-with_reel : (s : ℕ) (f : Reel → Reel) → ((r : Reel) → unread (f r) ≡ unread r) → (rs : List Reel) → map unread (with_reel s f rs) ≡ map unread rs
unread-with_reel s f same rs = map-change_same (λ (r : Reel). s == r.serial) f unread same rs

counts-none : (g : List ℕ → List ℕ) (o : Option (List ℕ)) → option_map (λ (ts : List ℕ). let none : List ℕ = [] in none) (option_map g o) ≡ option_map (λ (ts : List ℕ). let none : List ℕ = [] in none) o
counts-none g None = refl
counts-none g (Some ts) = refl

unread-read_at : (k : ℕ) (r : Reel) → unread (read_at k r) ≡ unread r
unread-read_at k r = ap (λ (o : Option (List ℕ)). let x : Reel = record r { times_read = o } in x) (counts-none _ r.times_read)

-- the reel of a serial, found without the counts
pub reel-unread : (s : ℕ) (rs : List Reel) → reel s (map unread rs) ≡ option_map unread (reel s rs)
reel-unread s rs = find-map (λ (r : Reel). s == r.serial) (λ (r : Reel). s == r.serial) unread (λ r. refl) rs

-- After reads each reel is unchanged, apart from its read counts.
same_unread : (s : ℕ) (rs qs : List Reel) → map unread rs ≡ map unread qs → option_map unread (reel s rs) ≡ option_map unread (reel s qs)
same_unread s rs qs same = sym (reel-unread s rs) ∙ ap (reel s) same ∙ reel-unread s qs

pub reel_after_reads : (s : ℕ) (old new : Rack) → OnlyReads old new → option_map unread (reel s new.reels) ≡ option_map unread (reel s old.reels)
reel_after_reads s old new only = same_unread s new.reels old.reels only.reels

blocks-unread : (o : Option Reel) → blocks_in (option_map unread o) ≡ blocks_in o
blocks-unread None = refl
blocks-unread (Some r) = refl

same_blocks : (s : ℕ) (rs qs : List Reel) → map unread rs ≡ map unread qs → blocks_in (reel s rs) ≡ blocks_in (reel s qs)
same_blocks s rs qs same = sym (blocks-unread (reel s rs)) ∙ ap blocks_in (same_unread s rs qs same) ∙ blocks-unread (reel s qs)

pub blocks_after_reads : (s : ℕ) (old new : Rack) → OnlyReads old new → blocks_of s new ≡ blocks_of s old
blocks_after_reads s old new only = same_blocks s new.reels old.reels only.reels

-- WHAT A POWER LOSS MAY LEAVE, if nothing was written
pub same_risks : (old new : Rack) → map unread new.reels ≡ map unread old.reels → new.risks ≡ old.risks → LeavesNoMore old new
same_risks old new reels risks = record {
  leaves = λ s left may.
      subst (λ (rs : List Risk). ForSome (blocks_of s old) (λ blocks. Leaves (risk s rs) blocks left)) risks
      (subst (λ (o : Option (List (List ℕ))). ForSome o (λ blocks. Leaves (risk s new.risks) blocks left)) (same_blocks s new.reels old.reels reels) may);
  syncable = λ s is. ap (λ (rs : List Risk). syncs (risk s rs)) risks ∙ is;
}

pub no_more : (rack : Rack) → LeavesNoMore rack rack
no_more rack = record { leaves = λ s left may. may; syncable = λ s is. is }

pub still_no_more : (first middle last : Rack) → LeavesNoMore first middle → LeavesNoMore middle last → LeavesNoMore first last
still_no_more first middle last one two = record {
  leaves = λ s left may. one.leaves s left (two.leaves s left may);
  syncable = λ s is. two.syncable s (one.syncable s is);
}

-- one more at k lowers no count
count-more : (k j : ℕ) (o : Option (List ℕ)) → count_at j o ≤ count_at j (option_map (λ ts. set ts k (one_more (get_or ts k 0))) o)
count-more k j None = omega arith
count-more k j (Some ts) =
    elim (cases_eq j k) [
      | inr apart ↦ omega (arith, get_or-set_other ts k j (one_more (get_or ts k 0)) 0 apart)
      | inl same ↦
          elim (cases_lt k (length ts)) [
            | inl within ↦
                let here : get_or (set ts k (one_more (get_or ts k 0))) j 0 ≡ one_more (get_or ts k 0) = ap (λ (i : ℕ). get_or (set ts k (one_more (get_or ts k 0))) i 0) same ∙ get_or-set_same ts k (one_more (get_or ts k 0)) 0 within in
                let was : get_or ts j 0 ≡ get_or ts k 0 = ap (λ (i : ℕ). get_or ts i 0) same in
                omega (arith, here, was)
            | inr past ↦
                let was : get_or ts j 0 ≡ 0 = get_or-eq_default ts 0 (omega arith) in
                omega (arith, was)
          ]
    ]

times-read_at : (k j : ℕ) (o : Option Reel) → count_at j (times_in o) ≤ count_at j (times_in (option_map (read_at k) o))
times-read_at k j None = omega arith
times-read_at k j (Some r) = count-more k j r.times_read

times-with_reel : (s k t j : ℕ) (rs : List Reel) → count_at j (times_in (reel t rs)) ≤ count_at j (times_in (reel t (with_reel s (read_at k) rs)))
times-with_reel s k t j rs =
    elim (cases_eq s t) [
      | inl same ↦
          let found : reel t (with_reel s (read_at k) rs) ≡ option_map (read_at k) (reel t rs) = subst (λ (u : ℕ). reel u (with_reel s (read_at k) rs) ≡ option_map (read_at k) (reel u rs)) same (reel-with_reel s (read_at k) (λ r. refl) rs) in
          omega (arith, times-read_at k j (reel t rs), ap (λ (o : Option Reel). count_at j (times_in o)) found)
      | inr apart ↦
          omega (arith, ap (λ (o : Option Reel). count_at j (times_in o)) (reel-with_reel_other s t (read_at k) (λ r. refl) apart rs))
    ]

-- no read
pub nothing_read : (rack : Rack) → OnlyReads rack rack
nothing_read rack = record { reels = refl; write_faults = refl; fuse = refl; arms = refl; read_faults = omega arith; times = λ s k. omega arith; durable = no_more rack }

nothing_else : (old new : Rack) → new ≡ old → OnlyReads old new
nothing_else old new same = subst (OnlyReads old) (sym same) (nothing_read old)

-- reads and then more reads
pub more_reads : (first middle last : Rack) → OnlyReads first middle → OnlyReads middle last → OnlyReads first last
more_reads first middle last one two = record {
  reels = two.reels ∙ one.reels;
  write_faults = two.write_faults ∙ one.write_faults;
  fuse = two.fuse ∙ one.fuse;
  arms = two.arms ∙ one.arms;
  read_faults = omega (arith, one.read_faults, two.read_faults);
  times = λ s k. omega (arith, one.times s k, two.times s k);
  durable = still_no_more first middle last one.durable two.durable;
}

-- reels that weren't changed, after reads that may have failed
unchanged_reels : (old new : Rack) → old.read_faults ≤ new.read_faults → new ≡ record old { read_faults = new.read_faults; risks = new.risks } → LeavesNoMore old new → OnlyReads old new
unchanged_reels old new more is durable = record {
  reels = ap (λ (r : Rack). map unread r.reels) is;
  write_faults = ap (λ (r : Rack). r.write_faults) is;
  fuse = ap (λ (r : Rack). r.fuse) is;
  arms = ap (λ (r : Rack). r.arms) is;
  read_faults = more;
  times = λ t j. let same : count_at j (times_in (reel t new.reels)) ≡ count_at j (times_in (reel t old.reels)) = ap (λ (r : Rack). count_at j (times_in (reel t r.reels))) is in omega (arith, same);
  durable = durable;
}

-- a device that failed to read
reads_failed : (old new : Rack) → Rose old.read_faults new.read_faults → new ≡ record old { read_faults = new.read_faults } → OnlyReads old new
reads_failed old new rose is =
    let risks : new.risks ≡ old.risks = ap (λ (r : Rack). r.risks) is in
    unchanged_reels old new (omega (arith, rose.more)) (is ∙ ap (λ (rs : List Risk). let r : Rack = record old { read_faults = new.read_faults; risks = rs } in r) (sym risks))
    (same_risks old new (ap (λ (r : Rack). map unread r.reels) is) risks)

-- a read, however it ends
pub reading_only : (s k : ℕ) (old new : Rack) (result : Result (Unit {0}) TapeFault) (into : List ℕ) → Reading s k old result into new → OnlyReads old new
reading_only s k old new (Ok u) into (free, block, is) =
    let read : Rack = changed s (read_at k) old in
    let only : OnlyReads old read = record {
      reels = unread-with_reel s (read_at k) (unread-read_at k) old.reels;
      write_faults = refl;
      fuse = refl;
      arms = refl;
      read_faults = omega arith;
      times = λ t j. times-with_reel s k t j old.reels;
      durable = same_risks old read (unread-with_reel s (read_at k) (unread-read_at k) old.reels) refl;
    } in
    subst (OnlyReads old) (sym is) only
reading_only s k old new (Err ReadFailed) into (free, rose, is) = reads_failed old new rose is
reading_only s k old new (Err WriteFailed) into reading = absurd reading
reading_only s k old new (Err NoTape) into (refused, is) = nothing_else old new is
reading_only s k old new (Err NotMounted) into (refused, is) = nothing_else old new is
reading_only s k old new (Err End) into (refused, is) = nothing_else old new is

reads-pass : (is under : Bool) → (if is then (if under then None else Some End) else Some NotMounted) ≡ None → under ≡ true
reads-pass false under is = absurd (cc)
reads-pass true true is = refl
reads-pass true false is = absurd (cc)

-- a read that isn't refused is of a block on the reel
pub allowed-read : (k : ℕ) (r : Reel) → refuses_read k (Some r) ≡ None → k < r.len
allowed-read k r is = ltb-true k r.len (reads-pass r.mounted (nat_lt k r.len) is)

-- a reel of the rack is one
pub is_reel : (s : ℕ) (rs : List Reel) (r : Reel) → All IsReel rs → reel s rs ≡ Some r → IsReel r
is_reel s rs r all is = All-contains IsReel rs r all (reel-found s rs r is).0

counted-once : (k : ℕ) (o : Option (List ℕ)) (n : ℕ) → k < n → ForSome o (λ ts. length ts ≡ n) → ForSome o (λ ts. one_more (count_at k o) ≤ count_at k (option_map (λ ts'. set ts' k (one_more (get_or ts' k 0))) o))
counted-once k None n below long ts is = absurd (cc)
counted-once k (Some xs) n below long ts is =
    let within : k < length xs = omega (arith, long xs refl) in
    omega (arith, get_or-set_same xs k (one_more (get_or xs k 0)) 0 within)

counted-in : (k : ℕ) (o : Option Reel) → refuses_read k o ≡ None → ForSome o IsReel → ForSome (times_in o) (λ ts. one_more (count_at k (times_in o)) ≤ count_at k (times_in (option_map (read_at k) o)))
counted-in k None free is = absurd (cc)
counted-in k (Some r) free is =
    let kept = is r refl in
    counted-once k r.times_read r.capacity (omega (arith, allowed-read k r free, kept.within)) kept.counted

-- A successful read of block k.
pub has_read : (s k : ℕ) (old new : Rack) (into : List ℕ) → AreReels old.reels → Reading s k old (Ok tt) into new → HasRead s k old new
has_read s k old new into are (free, block, is) =
    let found = reel-with_reel s (read_at k) (λ r. refl) old.reels in
    let once = counted-in k (reel s old.reels) free (λ r at. is_reel s old.reels r are.each at) in
    let read : Rack = changed s (read_at k) old in
    let has : HasRead s k old read = record { more = λ ts at. omega (arith, once ts at, ap (λ (o : Option Reel). count_at k (times_in o)) found) } in
    subst (HasRead s k old) (sym is) has

-- a block that was read, and then more reads
pub read_then : (s k : ℕ) (first middle last : Rack) → HasRead s k first middle → OnlyReads middle last → HasRead s k first last
read_then s k first middle last has only = record { more = λ ts at. omega (arith, has.more ts at, only.times s k) }

counts-told : (x y : Option (List ℕ)) (ts : List ℕ) → option_map (λ (us : List ℕ). let none : List ℕ = [] in none) x ≡ option_map (λ (us : List ℕ). let none : List ℕ = [] in none) y → y ≡ Some ts → (us : List ℕ) × (x ≡ Some us)
counts-told (Some us) y ts same at = (us, refl)
counts-told None None ts same at = absurd (cc)
counts-told None (Some us) ts same at = absurd (cc)

-- Reads preserve whether read counts are exposed.
told-times : (a b : Option Reel) (ts : List ℕ) → option_map unread a ≡ option_map unread b → times_in b ≡ Some ts → (us : List ℕ) × (times_in a ≡ Some us)
told-times a None ts same at = absurd (cc)
told-times None (Some r) ts same at = absurd (cc)
told-times (Some q) (Some r) ts same at = counts-told q.times_read r.times_read ts (ap times_in same) at

-- reads, and then a block that was read
pub then_read : (s k : ℕ) (first middle last : Rack) → OnlyReads first middle → HasRead s k middle last → HasRead s k first last
then_read s k first middle last only has = record {
  more = λ ts at.
      let (us, there) = told-times (reel s middle.reels) (reel s first.reels) ts (reel_after_reads s first middle only) at in
      omega (arith, has.more us there, only.times s k);
}

-- MAKING A REEL DURABLE, however it ends
faults_or_not : (old new : Rack) → new ≡ record old { risks = new.risks } → new ≡ record old { read_faults = new.read_faults; risks = new.risks }
faults_or_not old new is =
    let same : new.read_faults ≡ old.read_faults = ap (λ (r : Rack). r.read_faults) is in
    is ∙ ap (λ (n : ℕ). let r : Rack = record old { read_faults = n; risks = new.risks } in r) (sym same)

secured_well : (old new : Rack) → new ≡ record old { risks = new.risks } → LeavesNoMore old new → OnlyReads old new
secured_well old new is durable =
    let same : new.read_faults ≡ old.read_faults = ap (λ (r : Rack). r.read_faults) is in
    unchanged_reels old new (omega (arith, same)) (faults_or_not old new is) durable

secured_badly : (old new : Rack) → Rose old.read_faults new.read_faults → new ≡ record old { read_faults = new.read_faults; risks = new.risks } → LeavesNoMore old new → OnlyReads old new
secured_badly old new rose is durable = unchanged_reels old new (omega (arith, rose.more)) is durable

pub securing_only : (s : ℕ) (old new : Rack) (result : Result (Unit {0}) TapeFault) → Securing s old result new → LeavesNoMore old new → OnlyReads old new
securing_only s old new (Ok u) (there, is) durable = secured_well old new is durable
securing_only s old new (Err ReadFailed) (there, rose, is) durable = secured_badly old new rose is durable
securing_only s old new (Err NoTape) (missing, is) durable = nothing_else old new is
securing_only s old new (Err WriteFailed) never durable = absurd never
securing_only s old new (Err NotMounted) never durable = absurd never
securing_only s old new (Err End) never durable = absurd never

pub securing_all_only : (old new : Rack) (result : Result (Unit {0}) TapeFault) → SecuringAll old result new → LeavesNoMore old new → OnlyReads old new
securing_all_only old new (Ok u) is durable = secured_well old new is durable
securing_all_only old new (Err ReadFailed) (rose, is) durable = secured_badly old new rose is durable
securing_all_only old new (Err NoTape) never durable = absurd never
securing_all_only old new (Err WriteFailed) never durable = absurd never
securing_all_only old new (Err NotMounted) never durable = absurd never
securing_all_only old new (Err End) never durable = absurd never

pub reads_only_read : ReadsOnlyRead
reads_only_read = record { only = reading_only; counted = has_read; blocks = blocks_after_reads; secured = securing_only; all_secured = securing_all_only }

-- What survives a power loss.
-- serves: MemoryLemmas, crates above
use Rattle.std.proofs.Common.{◌≡◌, ℕ, ◌+◌, ◌-◌, ◌≤◌, List, [], ◌∷◌, ◌++◌, true, ◌==◌, Option, Some, None, Result, Ok, Err, length, take, option_map, refl, subst, sym, ap, ◌∙◌, inl, inr, arith}
use Rattle.std.specs.Prelude.{◌⊎◌}
use Rattle.std.specs.Option.{ForSome}
use Rattle.std.proofs.lemmas.List.{take-take, length-take, length-take-le, take-append-le, length-append}
use Rattle.g_base.proofs.KeyLemmas.{change-same}
use Rattle.g_tape.specs.declared.fault.TapeFault.{TapeFault}
use Rattle.g_tape.specs.declared.fault.TapeFault.TheVariants.{NoTape, NotMounted, End, ReadFailed, WriteFailed}
use Rattle.g_tape.specs.Reel.{IsReel, Reel, Remains, Unchanged, Shortened, Torn, ending, left_by}
use Rattle.g_tape.specs.Rack.{AreReels, Rack, Writing, reel, refuses_write, with_reel}
use Rattle.g_tape.specs.Reads.{LeavesNoMore, MayLeave, blocks_in, blocks_of, is_syncable}
use Rattle.g_tape.specs.Risk.{Leaves, Risk, risk, syncs}
use Rattle.g_tape.specs.Durable.{AfterPowerLoss, HasFront, IsDurable, IsDurableTo, MayBeBegun, SecuresDurably, WritesDurably}
use Rattle.g_tape.proofs.ReadLemmas.{is_reel, reel-with_reel}
use Rattle.g_tape.proofs.ReelLemmas.{allowed-write}

-- A RACK OF WHICH ALL IS DURABLE

-- it is left as it is
all_left : (s : ℕ) (rack : Rack) → rack.risks ≡ [] → (blocks left : List (List ℕ)) → Leaves (risk s rack.risks) blocks left → left ≡ blocks
all_left s rack none blocks left leaves = subst (λ (rs : List Risk). Leaves (risk s rs) blocks left) none leaves

may_leave : (s : ℕ) (rack : Rack) → rack.risks ≡ [] → (left : List (List ℕ)) → ForSome (blocks_of s rack) (λ blocks. left ≡ blocks) → MayLeave s rack left
may_leave s rack none left same blocks at = subst (λ (rs : List Risk). Leaves (risk s rs) blocks left) (sym none) (same blocks at)

durable_all : (s : ℕ) (rack : Rack) → rack.risks ≡ [] → IsDurable s rack
durable_all s rack none blocks at left leaves = all_left s rack none blocks left leaves

durable_to : (n s : ℕ) (rack : Rack) → rack.risks ≡ [] → IsDurableTo n s rack
durable_to n s rack none blocks at left leaves more is =
    let same : left ≡ more = all_left s rack none blocks left leaves ∙ cc in
    ap (take n) same

syncable_all : (s : ℕ) (rack : Rack) → rack.risks ≡ [] → is_syncable s rack ≡ true
syncable_all s rack none = ap (λ (rs : List Risk). syncs (risk s rs)) none

-- what is on a reel after a write of block k, failed or not
written_blocks : (k : ℕ) (block : List ℕ) (o : Option Reel) (blocks : List (List ℕ)) → blocks_in (option_map (ending k block) o) ≡ Some blocks → (was : List (List ℕ)) × (blocks_in o ≡ Some was) × (blocks ≡ take k was ++ block ∷ [])
written_blocks k block None blocks at = absurd (cc)
written_blocks k block (Some r) blocks at = by r.blocks refl
  where
    by : (o : Option (List (List ℕ))) → r.blocks ≡ o → (was : List (List ℕ)) × (r.blocks ≡ Some was) × (blocks ≡ take k was ++ block ∷ [])
    by None is = absurd (let never : None ≡ Some blocks = sym (ap (option_map (λ bs. take k bs ++ block ∷ [])) is) ∙ at in cc)
    by (Some was) is =
        let same : Some (take k was ++ block ∷ []) ≡ Some blocks = sym (ap (option_map (λ bs. take k bs ++ block ∷ [])) is) ∙ at in
        (was, is, cc)

cut_blocks : (k : ℕ) (o : Option Reel) (blocks : List (List ℕ)) → blocks_in (option_map (left_by Shortened k) o) ≡ Some blocks → (was : List (List ℕ)) × (blocks_in o ≡ Some was) × (blocks ≡ take k was)
cut_blocks k None blocks at = absurd (cc)
cut_blocks k (Some r) blocks at = by r.blocks refl
  where
    by : (o : Option (List (List ℕ))) → r.blocks ≡ o → (was : List (List ℕ)) × (r.blocks ≡ Some was) × (blocks ≡ take k was)
    by None is = absurd (let never : None ≡ Some blocks = sym (ap (option_map (take k)) is) ∙ at in cc)
    by (Some was) is =
        let same : Some (take k was) ≡ Some blocks = sym (ap (option_map (take k)) is) ∙ at in
        (was, is, cc)

-- THE WRITES OF A RACK THAT MAKES ALL DURABLE AT ONCE
blocks_changed : (s : ℕ) (f : Reel → Reel) → ((r : Reel) → (f r).serial ≡ r.serial) → (old new : Rack) → new.reels ≡ with_reel s f old.reels → blocks_of s new ≡ blocks_in (option_map f (reel s old.reels))
blocks_changed s f keeps old new is = ap (λ (rs : List Reel). blocks_in (reel s rs)) is ∙ ap blocks_in (reel-with_reel s f keeps old.reels)

not_longer : (k : ℕ) (block : List ℕ) (was : List (List ℕ)) → length (take k was ++ block ∷ []) ≤ k + 1
not_longer k block was = omega (arith, length-append (take k was) (block ∷ []), length-take k was)

has_front : (k s : ℕ) (old : Rack) (was left : List (List ℕ)) → blocks_of s old ≡ Some was → take k left ≡ take k was → HasFront k s old left
has_front k s old was left at same blocks is =
    let one : was ≡ blocks = cc in
    same ∙ ap (take k) one

-- a reel that isn't refused a write of block k has all blocks before it
enough : (k : ℕ) (o : Option Reel) (was : List (List ℕ)) → ForSome o IsReel → refuses_write k o ≡ None → blocks_in o ≡ Some was → k ≤ length was
enough k None was is free at = absurd (cc)
enough k (Some r) was is free at =
    let (on, under) = allowed-write k r free in
    let long = (is r refl).told was at in
    omega (arith, on, long)

begun : (s k : ℕ) (block : List ℕ) (old : Rack) (was left : List (List ℕ)) → blocks_of s old ≡ Some was → length left ≤ k + 1 → take k left ≡ take k was → MayBeBegun s k block old left
begun s k block old was left at short front = record { short = short; synced = λ synced able. has_front k s old was left at front }

-- the change that changes nothing
pub with_reel-same : (s : ℕ) (rs : List Reel) → with_reel s (λ r. r) rs ≡ rs
with_reel-same s rs = change-same (λ (r : Reel). s == r.serial) (λ r. r) rs (λ r is. refl)

module _ (s k : ℕ) (block : List ℕ) (old new : Rack) (before : old.risks ≡ []) (after : new.risks ≡ []) (are : AreReels old.reels) where
  same_before : (left : List (List ℕ)) → new.reels ≡ old.reels → ForSome (blocks_of s new) (λ blocks. left ≡ blocks → MayLeave s old left)
  same_before left same blocks at is =
      may_leave s old before left (λ bs there. is ∙ (let one : Some blocks ≡ Some bs = sym at ∙ ap (λ (rs : List Reel). blocks_in (reel s rs)) same ∙ there in cc))

  -- what a failed write left
  leaves_begun : (how : Remains) → refuses_write k (reel s old.reels) ≡ None → new.reels ≡ with_reel s (left_by how k) old.reels
      → AfterPowerLoss s new (λ left. MayLeave s old left ⊎ MayBeBegun s k block old left)
  leaves_begun Unchanged free is blocks at left leaves = inl (same_before left (is ∙ with_reel-same s old.reels) blocks at (all_left s new after blocks left leaves))
  leaves_begun Shortened free is blocks at left leaves =
      let (was, there, cut) = cut_blocks k (reel s old.reels) blocks (sym (blocks_changed s (left_by Shortened k) (λ r. refl) old new is) ∙ at) in
      let same : left ≡ take k was = all_left s new after blocks left leaves ∙ cut in
      inr (begun s k block old was left there (omega (arith, ap (λ (x : List (List ℕ)). length x) same, length-take k was)) (ap (take k) same ∙ take-take k k was (omega arith)))
  leaves_begun (Torn bytes) free is blocks at left leaves =
      let (was, there, torn) = written_blocks k bytes (reel s old.reels) blocks (sym (blocks_changed s (left_by (Torn bytes) k) (λ r. refl) old new is) ∙ at) in
      let same : left ≡ take k was ++ bytes ∷ [] = all_left s new after blocks left leaves ∙ torn in
      let long : k ≤ length was = enough k (reel s old.reels) was (λ r here. is_reel s old.reels r are.each here) free there in
      let whole : length (take k was) ≡ k = length-take-le k was long in
      inr (begun s k block old was left there (omega (arith, ap (λ (x : List (List ℕ)). length x) same, not_longer k bytes was))
      (ap (take k) same ∙ take-append-le k (take k was) (bytes ∷ []) (omega (arith, whole)) ∙ take-take k k was (omega arith)))

  failed_leaves : (fault : TapeFault) → Writing s k block old (Err fault) new → AfterPowerLoss s new (λ left. MayLeave s old left ⊎ MayBeBegun s k block old left)
  failed_leaves WriteFailed (free, rose, left) = leaves_begun left.0 free (ap (λ (r : Rack). r.reels) left.1)
  failed_leaves ReadFailed never = absurd never
  failed_leaves NoTape (refused, is) = λ blocks at left leaves. inl (same_before left (ap (λ (r : Rack). r.reels) is) blocks at (all_left s new after blocks left leaves))
  failed_leaves NotMounted (refused, is) = λ blocks at left leaves. inl (same_before left (ap (λ (r : Rack). r.reels) is) blocks at (all_left s new after blocks left leaves))
  failed_leaves End (refused, is) = λ blocks at left leaves. inl (same_before left (ap (λ (r : Rack). r.reels) is) blocks at (all_left s new after blocks left leaves))

  short_after : Writing s k block old (Ok tt) new → AfterPowerLoss s new (λ left. length left ≤ k + 1)
  short_after (free, armed, is) blocks at left leaves =
      let (was, there, written) = written_blocks k block (reel s old.reels) blocks (sym (blocks_changed s (ending k block) (λ r. refl) old new (ap (λ (r : Rack). r.reels) is)) ∙ at) in
      omega (arith, ap (λ (x : List (List ℕ)). length x) (all_left s new after blocks left leaves ∙ written), not_longer k block was)

  others_same : (t : ℕ) → (t ≡ s → ⊥) → risk t new.risks ≡ risk t old.risks
  others_same t apart = ap (risk t) (after ∙ sym before)

  pub writes_durably : (result : Result (Unit {0}) TapeFault) → Writing s k block old result new → WritesDurably s k block old result new
  writes_durably (Ok u) writing = record {
    others = others_same;
    front = λ n within durable. durable_to n s new after;
    syncable = λ is. syncable_all s new after;
    fresh = λ free durable. syncable_all s new after;
    short = short_after writing;
    synced = λ synced able. durable_all s new after;
    failed = tt;
  }
  writes_durably (Err fault) writing = record {
    others = others_same;
    front = λ n within durable. durable_to n s new after;
    syncable = λ is. syncable_all s new after;
    fresh = λ free durable. syncable_all s new after;
    short = tt;
    synced = λ synced able. tt;
    failed = failed_leaves fault writing;
  }

-- A reel of such a rack was made durable.
pub secures_durably : (s : ℕ) (old new : Rack) → old.risks ≡ [] → new.risks ≡ [] → LeavesNoMore old new → (result : Result (Unit {0}) TapeFault) → SecuresDurably s old result new
secures_durably s old new before after more (Ok u) = record { others = λ t apart. ap (risk t) (after ∙ sym before); no_more = more; durable = λ able. durable_all s new after }
secures_durably s old new before after more (Err fault) = record { others = λ t apart. ap (risk t) (after ∙ sym before); no_more = more; durable = tt }

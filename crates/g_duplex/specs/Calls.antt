-- Which of the two racks each call of a pair uses, and the pair after it.
use Rattle.std.specs.Prelude.{◌≡◌, ℕ, List, Bool, true, false, not, ◌||◌, Option, Some, None, Result, Ok, Err, nat_lt, ◌==◌, if◌then◌else◌}
use Rattle.std.specs.Option.{ForSome}
use Rattle.g_base.specs.Counts.{one_more}
use Rattle.g_base.specs.Fuse.{armed_with}
use Rattle.g_tape.specs.declared.fault.TapeFault.{TapeFault}
use Rattle.g_tape.specs.declared.fault.TapeFault.TheVariants.{ReadFailed}
use Rattle.g_tape.specs.Reel.{with_mounted}
use Rattle.g_tape.specs.Durable.{SecuresDurably, WritesDurably}
use Rattle.g_tape.specs.Rack.{Rack, reel, changed, refuses_mount, refuses_unmount, refuses_read, refuses_write, is_mounted, told_of, Mounting, Reading, Securing, Writing}
use Rattle.g_duplex.specs.Twins.{of_leader, of_other, is_lost, after_both, after_failure, may_help}
use Rattle.g_duplex.specs.Pair.{Pair, armed, shown, standing_in, stands}
use Rattle.g_duplex.specs.declared.twin.Twin.TheVariants.{Second}
use Rattle.g_duplex.specs.declared.twin.Standing.{Standing}
use Rattle.g_duplex.specs.declared.twin.Standing.TheVariants.{Lost}

-- The answer of a call that returns nothing else.
abbrev pub Answer : Type 0
Answer = Result (Unit {0}) TapeFault

-- The rack whose twin of this reel leads.
abbrev pub leading : Standing → Pair → Rack
leading t p = of_leader t p.first p.second

-- The rack whose twin of this reel doesn't lead.
abbrev pub behind : Standing → Pair → Rack
behind t p = of_other t p.first p.second

-- After a read of the leading twin failed: the other twin is read, if it may help; otherwise the read has failed, and
-- the other rack isn't used.
abbrev pub Helps : Bool → ℕ → ℕ → Rack → Answer → List ℕ → Rack → Type 0
Helps true s k old result into new = Reading s k old result into new
Helps false s k old result into new = (result ≡ Err ReadFailed) × (new ≡ old)

-- The other rack, given the leading twin's answer to a read: if that failed, the other twin may help; otherwise that is the
-- answer, and the other rack isn't used.
abbrev pub ReadsOn : Bool → ℕ → ℕ → (first_answer : Answer) → (first_block : List ℕ) → Rack → Answer → List ℕ → Rack → Type 0
ReadsOn may s k (Err ReadFailed) block old result into new = Helps may s k old result into new
ReadsOn may s k answer block old result into new = (result ≡ answer) × (into ≡ block) × (new ≡ old)

-- The racks that a read uses: the leading one always and first, and possibly the other one.
abbrev pub HasAsked : Bool → ℕ → ℕ → Rack → Rack → Answer → List ℕ → Rack → Rack → Type 0
HasAsked may s k lead other result into lead' other' = (answer : Answer) × (block : List ℕ)
    × Reading s k lead answer block lead' × ReadsOn may s k answer block other result into other'

-- A read of block k: the clause of the trait holds for what the pair shows; and unless the read is refused, the racks
-- are used as stated.
pub record PairReads (s k : ℕ) (old : Pair) (result : Answer) (into : List ℕ) (new : Pair) : Type 0 where
  pub reading : Reading s k (shown old) result into (shown new)
  pub asked : refuses_read k (reel s (shown old).reels) ≡ None → ForSome (standing_in s old) (λ t.
      HasAsked (may_help k t) s k (leading t old) (behind t old) result into (leading t new) (behind t new))
  pub kept : new ≡ record old { first = new.first; second = new.second; read_faults = new.read_faults }
  pub refused : (fault : TapeFault) → refuses_read k (reel s (shown old).reels) ≡ Some fault → new ≡ old

-- The leading rack, armed for this write if the pair's own fuse is 1.
abbrev pub armed_when : Bool → Rack → Rack
armed_when true r = armed r
armed_when false r = r

-- The next write is the one that fails.
abbrev pub is_one : Option ℕ → Bool
is_one None = false
is_one (Some n) = n == 1

-- The standing of the twins after a write of block k that the leading twin completed, given the other twin's answer.
abbrev pub stands_after : ℕ → Answer → Standing → Standing
stands_after k (Ok u) t = after_both k t
stands_after k (Err fault) t = Lost Second

-- After the leading twin completed a write: a lost twin isn't written; otherwise the other twin is, and it is lost
-- unless its answer is Ok.
abbrev pub Follows : Bool → ℕ → ℕ → List ℕ → Standing → Rack → Rack → Standing → Type 0
Follows true s k block t old new after = (new ≡ old) × (after ≡ t)
Follows false s k block t old new after = (answer : Answer) × Writing s k block old answer new × (after ≡ stands_after k answer t)

-- The other rack, given the leading twin's answer to a write: if that failed, the other twin isn't written.
abbrev pub WritesOn : ℕ → ℕ → List ℕ → Standing → Answer → Rack → Answer → Rack → Standing → Type 0
WritesOn s k block t (Err fault) old result new after = (result ≡ Err fault) × (new ≡ old) × (after ≡ after_failure k t)
WritesOn s k block t (Ok u) old result new after = (result ≡ Ok tt) × Follows (is_lost t) s k block t old new after

-- The racks that a write uses, and the standing of the twins after it.
abbrev pub HasWritten : Bool → Standing → ℕ → ℕ → List ℕ → Rack → Rack → Answer → Standing → Rack → Rack → Type 0
HasWritten fires t s k block lead other result after lead' other' = (answer : Answer)
    × Writing s k block (armed_when fires lead) answer lead' × WritesOn s k block t answer other result other' after

-- A write of block k: the clauses of the trait hold for what the pair shows; and unless the write is refused, the racks
-- are used as stated.
pub record PairWrites (s k : ℕ) (block : List ℕ) (old : Pair) (result : Answer) (new : Pair) : Type 0 where
  pub writing : Writing s k block (shown old) result (shown new)
  pub durable : WritesDurably s k block (shown old) result (shown new)
  pub asked : refuses_write k (reel s (shown old).reels) ≡ None → ForSome (standing_in s old) (λ t. (after : Standing)
      × HasWritten (is_one old.fuse) t s k block (leading t old) (behind t old) result after (leading t new) (behind t new)
      × (new.standings ≡ stands s (λ _. after) old))
  pub kept : new ≡ record old { first = new.first; second = new.second; standings = new.standings; write_faults = new.write_faults; fuse = new.fuse }
  pub refused : (fault : TapeFault) → refuses_write k (reel s (shown old).reels) ≡ Some fault → new ≡ old

-- Giving up the other reel doesn't change whether the pair appears mounted.
abbrev pub may_give_up : ℕ → Rack → Rack → Bool
may_give_up s lead other = not (is_mounted (reel s lead.reels)) || is_mounted (reel s other.reels)

-- The first length is less than the second.
abbrev pub is_less : Result ℕ TapeFault → Result ℕ TapeFault → Bool
is_less (Ok m) (Ok n) = nat_lt m n
is_less m n = false

-- The other reel has fewer blocks than the leading one.
abbrev pub is_shorter : ℕ → Rack → Rack → Bool
is_shorter s lead other = is_less (told_of (λ r. r.len) (reel s other.reels)) (told_of (λ r. r.len) (reel s lead.reels))

-- The other twin, once the leading one is durable: it was lost before; or it has fewer blocks than the leading one; or it must be
-- made durable too, and may be given up or not.
pub data OtherTwin : Type 0 where
  Gone : OtherTwin
  Lacking : OtherTwin
  Spare : OtherTwin
  Needed : OtherTwin

-- The other twin, given whether it may be given up and whether it is shorter.
abbrev pub other_is : Standing → Bool → Bool → OtherTwin
other_is t spare shorter = if is_lost t then Gone else (if spare then (if shorter then Lacking else Spare) else Needed)

-- If the other twin can't be made durable, it is lost from then on if it may be given up; otherwise the call fails.
abbrev pub settles : Bool → Answer → Standing → Answer × Standing
settles spare (Ok u) t = (Ok tt, t)
settles true (Err fault) t = (Ok tt, Lost Second)
settles false (Err fault) t = (Err ReadFailed, t)

-- The other rack, given what its twin is, once the leading one is durable.
abbrev pub SecuresOther : OtherTwin → ℕ → Standing → Rack → Answer → Standing → Rack → Type 0
SecuresOther Gone s t old result after new = (result ≡ Ok tt) × (after ≡ t) × (new ≡ old)
SecuresOther Lacking s t old result after new = (result ≡ Ok tt) × (after ≡ Lost Second) × (new ≡ old)
SecuresOther Spare s t old result after new = (answer : Answer) × Securing s old answer new × ((result, after) ≡ settles true answer t)
SecuresOther Needed s t old result after new = (answer : Answer) × Securing s old answer new × ((result, after) ≡ settles false answer t)

-- The other rack, given the leading twin's answer: if that failed, the other rack isn't used.
abbrev pub SecuresOn : ℕ → Standing → Rack → Rack → Answer → Answer → Standing → Rack → Type 0
SecuresOn s t lead other (Err fault) result after new = (result ≡ Err fault) × (after ≡ t) × (new ≡ other)
SecuresOn s t lead other (Ok u) result after new = SecuresOther (other_is t (may_give_up s lead other) (is_shorter s lead other)) s t other result after new

-- The reels that are made durable: the leading twin always and first, and then possibly the other one.
abbrev pub HasSecured : Standing → ℕ → Rack → Rack → Answer → Standing → Rack → Rack → Type 0
HasSecured t s lead other result after lead' other' = (answer : Answer) × Securing s lead answer lead' × SecuresOn s t lead' other answer result after other'

-- A pair is made durable: the clauses of the trait hold for what the pair shows, and the two reels are used as stated.
pub record PairSecures (s : ℕ) (old : Pair) (result : Answer) (new : Pair) : Type 0 where
  pub securing : Securing s (shown old) result (shown new)
  pub durable : SecuresDurably s (shown old) result (shown new)
  pub secured : ForSome (standing_in s old) (λ t. (after : Standing)
      × HasSecured t s (leading t old) (behind t old) result after (leading t new) (behind t new) × (new.standings ≡ stands s (λ _. after) old))
  pub kept : new ≡ record old { first = new.first; second = new.second; standings = new.standings; read_faults = new.read_faults }
  pub missing : standing_in s old ≡ None → new ≡ old

-- The call succeeded.
abbrev pub is_done : Answer → Bool
is_done (Ok u) = true
is_done (Err fault) = false

-- Arming changes only the pair's own fuse and record of armings; both racks are unchanged.
abbrev pub PairArms : ℕ → Pair → Pair → Type 0
PairArms k old new = new ≡ record old { fuse = Some k; arms = armed_with k old.write_faults old.arms }

-- A mount of the pair mounts the reel in both racks.
pub record PairMounts (s : ℕ) (old : Pair) (result : Answer) (new : Pair) : Type 0 where
  pub mounting : Mounting refuses_mount true s (shown old) result (shown new)
  pub both : new ≡ record old { first = new.first; second = new.second }
  pub first : Mounting refuses_mount true s old.first result new.first
  pub second : Mounting refuses_mount true s old.second result new.second

-- An unmount that isn't refused unmounts the reel in both racks; a lost twin may have been unmounted before.
pub record PairUnmounts (s : ℕ) (old : Pair) (result : Answer) (new : Pair) : Type 0 where
  pub mounting : Mounting refuses_unmount false s (shown old) result (shown new)
  pub both : new ≡ record old { first = new.first; second = new.second }
  pub first : new.first ≡ (if is_done result then changed s (with_mounted false) old.first else old.first)
  pub second : new.second ≡ (if is_done result then changed s (with_mounted false) old.second else old.second)

-- A failure count after a call: one more unless the answer is Ok.
abbrev pub counted : Answer → ℕ → ℕ
counted (Ok u) n = n
counted (Err fault) n = one_more n

-- The two reels of a serial, its twins, shown as one reel; and what the twins have in common.
use Rattle.std.specs.Prelude.{◌≡◌, ℕ, ◌≤◌, Bool, true, false, ◌&&◌, Option, Some, None, take, min, nat_le, nat_lt, if◌then◌else◌}
use Rattle.std.specs.Option.{ForSome}
use Rattle.g_tape.specs.Reel.{Reel}
use Rattle.g_duplex.specs.declared.twin.Twin.{Twin}
use Rattle.g_duplex.specs.declared.twin.Twin.TheVariants.{First, Second}
use Rattle.g_duplex.specs.declared.twin.Standing.{Standing}
use Rattle.g_duplex.specs.declared.twin.Standing.TheVariants.{Level, Apart, Lost}

-- The leading twin: the first, or the second if the first is lost.
abbrev pub leader : Standing → Twin
leader Level = First
leader (Apart k) = First
leader (Lost First) = Second
leader (Lost Second) = First

-- Of two values, that of the leading twin.
abbrev pub of_leader : {X : Type 0} → Standing → X → X → X
of_leader Level a b = a
of_leader (Apart k) a b = a
of_leader (Lost First) a b = b
of_leader (Lost Second) a b = a

-- Of two values, that of the twin that doesn't lead.
abbrev pub of_other : {X : Type 0} → Standing → X → X → X
of_other Level a b = b
of_other (Apart k) a b = b
of_other (Lost First) a b = a
of_other (Lost Second) a b = b

-- Of two values, that of this twin.
abbrev pub of_twin : {X : Type 0} → Twin → X → X → X
of_twin First a b = a
of_twin Second a b = b

-- Of two values, that of the other twin.
abbrev pub beside_twin : {X : Type 0} → Twin → X → X → X
beside_twin First a b = b
beside_twin Second a b = a

-- One of the twins is lost.
abbrev pub is_lost : Standing → Bool
is_lost Level = false
is_lost (Apart k) = false
is_lost (Lost twin) = true

-- Each twin that isn't lost is mounted, where m and n say whether the first and the second are.
abbrev pub are_up : Standing → Bool → Bool → Bool
are_up Level m n = m && n
are_up (Apart k) m n = m && n
are_up (Lost First) m n = n
are_up (Lost Second) m n = m

-- The first blocks, if both racks expose theirs.
abbrev pub told_with : {X : Type 0} → Option X → Option X → Option X
told_with None y = None
told_with (Some x) None = None
told_with (Some x) (Some y) = Some x

-- The reel that a pair shows of two twins. It has the blocks of the leading twin.
abbrev pub pair_reel : Standing → Reel → Reel → Reel
pair_reel t a b = record {
  serial = a.serial;
  capacity = a.capacity;
  len = (of_leader t a b).len;
  mounted = are_up t a.mounted b.mounted;
  blocks = told_with (of_leader t a b).blocks (of_other t a b).blocks;
  times_read = None;
}

-- How twins agree: level twins hold the same blocks; twins that are apart from block k on hold the same blocks below k;
-- if one is lost, nothing is required. Blocks are compared if both racks expose them, lengths always.
abbrev pub DoAgree : Standing → Reel → Reel → Type 0
DoAgree Level a b = (a.len ≡ b.len) × ForSome a.blocks (λ p. ForSome b.blocks (λ q. p ≡ q))
DoAgree (Apart k) a b = (k ≤ a.len) × (k ≤ b.len) × ForSome a.blocks (λ p. ForSome b.blocks (λ q. take k p ≡ take k q))
DoAgree (Lost twin) a b = Unit {0}

-- The reels are twins with this standing: they have the same serial and capacity, and agree as it requires.
pub record AreTwins (t : Standing) (a b : Reel) : Type 0 where
  pub serial : a.serial ≡ b.serial
  pub capacity : a.capacity ≡ b.capacity
  pub agree : DoAgree t a b

-- The standing after the leading twin's write of block k failed.
abbrev pub after_failure : ℕ → Standing → Standing
after_failure k Level = Apart k
after_failure k (Apart j) = Apart (min j k)
after_failure k (Lost twin) = Lost twin

-- The standing after both twins completed a write of block k, which repairs what failed at k or above.
abbrev pub after_both : ℕ → Standing → Standing
after_both k Level = Level
after_both k (Apart j) = if nat_le k j then Level else Apart j
after_both k (Lost twin) = Lost twin

-- The other twin may be read for block k if the leading one fails: it isn't lost, and the twins agree there.
abbrev pub may_help : ℕ → Standing → Bool
may_help k Level = true
may_help k (Apart j) = nat_lt k j
may_help k (Lost twin) = false

-- How risen counts add up.
-- serves: FuseLemmas, crates above
use Rattle.std.proofs.Common.{◌≡◌, ℕ, ◌+◌, ◌≤◌, arith}
use Rattle.g_base.specs.Counts.{one_more, Rose, HasRisenBy, RoseBy}

-- a count that rose didn't fall
pub Rose-later : {a b : ℕ} → Rose a b → a ≤ b
Rose-later rose = omega arith

-- If the count fell neither before nor after a rise, the whole interval is a rise.
pub Rose-behind : {a b c : ℕ} → a ≤ b → Rose b c → Rose a c
Rose-behind later rose = record { more = omega arith }

pub Rose-before : {a b c : ℕ} → Rose a b → b ≤ c → Rose a c
Rose-before rose later = record { more = omega arith }

-- nothing rose
pub HasRisenBy-none : {a b : ℕ} → a ≤ b → HasRisenBy 0 a b
HasRisenBy-none later = record { later = later; by = omega arith }

-- one rise
pub HasRisenBy-Rose : {a b : ℕ} → Rose a b → HasRisenBy 1 a b
HasRisenBy-Rose rose = record { later = omega arith; by = omega arith }

-- rises add up
pub HasRisenBy-then : {m n a b c : ℕ} → HasRisenBy m a b → HasRisenBy n b c → HasRisenBy (m + n) a c
HasRisenBy-then first second = record { later = omega arith; by = omega arith }

-- no call
pub RoseBy-none : {a b : ℕ} → b ≡ a → RoseBy 0 a b
RoseBy-none same = record { exactly = λ room. omega arith }

-- one call
pub RoseBy-one : {a b : ℕ} → b ≡ one_more a → RoseBy 1 a b
RoseBy-one is = record { exactly = λ room. omega arith }

-- calls add up
pub RoseBy-then : {m n a b c : ℕ} → RoseBy m a b → RoseBy n b c → RoseBy (m + n) a c
RoseBy-then first second = record { exactly = λ room. omega arith }

-- The remnant of a file whose bytes are durable at once is whole. (This law of the trait is here, since a ghost member can only use specs.)
use Rattle.std.proofs.Common.{◌≡◌, ℕ, zero, suc, ◌+◌, ◌*◌, ◌≤◌, List, [], length, take, drop, get_or, All, Some, None, arith, inl, inr, refl, subst, length-take, length-drop}
use Rattle.std.specs.Prelude.{◌/◌}
use Rattle.std.proofs.lemmas.Bool.{cases_lt}
use Rattle.std.proofs.lemmas.List.{get_or-drop, get_or-take, get_or_past, take_all}
use Rattle.std.proofs.lemmas.Option.{none-some, same_Some}
use Rattle.std.proofs.lemmas.List.Elements.{All-cons}
use Rattle.g_base.specs.Block.{IsBlock}
use Rattle.g_files.specs.Bytes.{AreBytes, blocks_of, sectors_of}
use Rattle.g_files.specs.Durability.{all_durable, remnant_of, stored}
use Rattle.g_files.specs.Sectors.{IsWhole, LeavesRead, LeavesSectors}

first_bytes : (b : List ℕ) → AreBytes b → AreBytes (take 512 b)
first_bytes b each i = elim (cases_lt i 512) [
  | inl below ↦ let same = get_or-take 512 b i 0 below in let small = each i in omega (arith, same, small)
  | inr past ↦ let none : get_or (take 512 b) i 0 ≡ 0 = get_or_past (take 512 b) i 0 (omega (arith, length-take 512 b, past)) in omega (arith, none)
]

other_bytes : (b : List ℕ) → AreBytes b → AreBytes (drop 512 b)
other_bytes b each i = let same = get_or-drop 512 b i 0 in let small = each (512 + i) in omega (arith, same, small)

-- The first n blocks of a file are blocks.
pub blocks_whole : (n : ℕ) (b : List ℕ) → 512 * n ≤ length b → AreBytes b → All IsBlock (blocks_of n b)
blocks_whole zero b long are = λ k d h. absurd (omega (arith, h))
blocks_whole (suc n) b long are =
    All-cons IsBlock (take 512 b) (blocks_of n (drop 512 b)) (record { size = omega (arith, length-take 512 b, long); bytes = first_bytes b are })
    (blocks_whole n (drop 512 b) (omega (arith, length-drop 512 b, long)) (other_bytes b are))

-- the whole sectors of a file are blocks
pub sectors_whole : (bytes : List ℕ) → AreBytes bytes → All IsBlock (sectors_of bytes)
sectors_whole bytes are = blocks_whole (length bytes / 512) bytes (omega arith) are

-- The remnant of such a file is whole.
pub stored_whole : (bytes : List ℕ) → AreBytes bytes → All IsWhole (stored bytes).remnants
stored_whole bytes are = All-cons IsWhole (remnant_of (sectors_of bytes)) [] (record { each = sectors_whole bytes are; fits = omega arith }) (λ k d h. absurd (omega (arith, h)))

-- A power loss may leave them.
pub stored_left : (bytes : List ℕ) → AreBytes bytes → LeavesSectors (stored bytes).remnants (sectors_of bytes)
stored_left bytes are = (
  remnant_of (sectors_of bytes),
  (0, omega arith, refl),
  record { front = take_all (length (sectors_of bytes)) (sectors_of bytes) (omega arith); most = omega arith; whole = sectors_whole bytes are },
)

-- It is what reads see.
pub stored_read : (bytes : List ℕ) → AreBytes bytes → LeavesRead (Some bytes) (stored bytes).remnants
stored_read bytes are b at = subst (λ (x : List ℕ). LeavesSectors (stored bytes).remnants (sectors_of x)) (same_Some bytes b at) (stored_left bytes are)

-- a file whose bytes aren't observable lists no remnant
pub none_whole : All IsWhole all_durable.remnants
none_whole k d h = absurd (omega (arith, h))

-- Nothing is seen of such a file.
pub none_read : LeavesRead None all_durable.remnants
none_read b at = absurd (none-some b at)

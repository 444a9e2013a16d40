-- The block of a head.
use Rattle.std.specs.Prelude.{◌≡◌, ℕ, ◌+◌, ◌^◌, ◌<◌, ◌≤◌, List, [], ◌∷◌, ◌++◌, Option, Some, None, IfSome, replicate, codes}
use Rattle.g_base.specs.Fields.{number, padded}
use Rattle.g_entry.specs.Formats.{format_number}
use Rattle.g_entry.specs.declared.format.Format.{Format}
use Rattle.g_entry.specs.declared.head.Head.{Head}
use Rattle.g_entry.specs.declared.head.Intent.{Intent}

-- The number is a valid serial of a reel.
abbrev pub IsSerial : ℕ → Type 0
IsSerial serial = (1 ≤ serial) × (serial ≤ 999999)

-- The intent is for the dump after the last one.
pub record IsIntent (last : ℕ) (i : Intent) : Type 0 where
  pub serial : IsSerial i.serial
  pub place : i.place < 2 ^ 32
  pub number : i.number ≡ last + 1
  pub below : i.number < 2 ^ 62

-- The head fits into a block: its numbers are within the limits, and its intent is for the dump after the last one.
pub record IsHead (h : Head) : Type 0 where
  pub least_stamp : 1 ≤ h.next_stamp
  pub most_stamp : h.next_stamp ≤ 2 ^ 62
  pub last_dump : h.last_dump < 2 ^ 62
  pub intent : IfSome h.intent (IsIntent h.last_dump)

-- The field of the intent: 17 bytes, zero if there is none.
abbrev pub intent_fields : Option Intent → List ℕ
intent_fields None = replicate 17 0
intent_fields (Some i) = (1 ∷ []) ++ number 4 i.serial ++ number 4 i.place ++ number 8 i.number

-- The fields of a head's block, in their order.
unfoldable pub head_fields : Format → Head → List ℕ
head_fields format h = codes "G3SL" ++ number 2 (format_number format) ++ number 8 h.next_stamp ++ number 8 h.last_dump ++ intent_fields h.intent

-- The block of a head: its fields, padded with zeros.
abbrev pub head_block : Format → Head → List ℕ
head_block format h = padded 512 (head_fields format h)

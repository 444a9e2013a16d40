-- The block of a file.
use Rattle.std.specs.Prelude.{◌≡◌, ℕ, ◌-◌, ◌^◌, ◌<◌, ◌≤◌, ◌==◌, Bool, true, not, nat_lt, List, [], ◌∷◌, ◌++◌, length, Option, Some, None, IfSome, replicate, if◌then◌else◌}
use Rattle.std.specs.List.{flat_map, list_all}
use Rattle.g_base.specs.Block.{blocks_for}
use Rattle.g_base.specs.Fields.{number, padded}
use Rattle.g_name.specs.Grammar.{is_word, is_lang}
use Rattle.g_trap.specs.TrapList.{TrapList, IsOthers}
use Rattle.g_entry.specs.Formats.{place_width, is_place}
use Rattle.g_entry.specs.HeadFields.{IsSerial}
use Rattle.g_entry.specs.declared.format.Format.{Format}
use Rattle.g_entry.specs.declared.file_rec.FileRec.{FileRec}
use Rattle.g_entry.specs.declared.file_rec.TapeCopy.{TapeCopy}

-- The modes of the owner and of each trapped user are sets of the five modes.
pub record AreSets (traps : TrapList) : Type 0 where
  pub owner : traps.owner < 32
  pub others : list_all (λ pair. nat_lt pair.1 32) traps.others ≡ true

-- The owner isn't among the other users.
abbrev pub lacks : ℕ → List (ℕ × ℕ) → Bool
lacks owner others = list_all (λ pair. not (pair.0 == owner)) others

-- The copy's serial is valid, and its first block fits into four bytes.
pub record IsCopy (copy : TapeCopy) : Type 0 where
  pub serial : IsSerial copy.serial
  pub first : copy.first < 2 ^ 32

-- The record fits into a block, apart from its block numbers.
pub record IsFile (r : FileRec) : Type 0 where
  pub local : is_word r.local ≡ true
  pub least_generation : 1 ≤ r.generation
  pub most_generation : r.generation ≤ 4095
  pub lang : is_lang r.lang ≡ true
  pub stamp : r.stamp < 2 ^ 62
  pub len : r.len ≤ 65536
  pub others : IsOthers r.traps.others
  pub sets : AreSets r.traps
  pub no_owner : lacks r.owner r.traps.others ≡ true
  pub tape : IfSome r.tape IsCopy

-- The list has exactly the block numbers that a file of this length needs, and the format can represent each.
pub record ArePlaces (format : Format) (len : ℕ) (places : List ℕ) : Type 0 where
  pub count : length places ≡ blocks_for len
  pub each : list_all (is_place format) places ≡ true

-- The field of the trapped users: 16 bytes of user numbers, each followed by the user's modes.
abbrev pub pair_fields : List (ℕ × ℕ) → List ℕ
pair_fields pairs = padded 16 (flat_map (λ pair. pair.0 ∷ pair.1 ∷ []) pairs)

-- The field of a language: four characters, padded with spaces.
abbrev pub lang_field : List ℕ → List ℕ
lang_field lang = lang ++ replicate (4 - length lang) 32

-- The field of the copy on tape: 9 bytes, zero if there is none.
abbrev pub copy_fields : Option TapeCopy → List ℕ
copy_fields None = replicate 9 0
copy_fields (Some copy) = (1 ∷ []) ++ number 4 copy.serial ++ number 4 copy.first

-- The fields of the block numbers; of an offline file, which has none, a zero byte.
abbrev pub online_fields : Format → Option (List ℕ) → List ℕ
online_fields format None = 0 ∷ []
online_fields format (Some places) = (1 ∷ []) ++ flat_map (number (place_width format)) places

-- The fields of a file's block, in their order.
unfoldable pub file_fields : Format → FileRec → Option (List ℕ) → List ℕ
file_fields format r online =
    (1 ∷ r.owner ∷ length r.local ∷ []) ++ padded 12 r.local ++ number 2 r.generation ++ lang_field r.lang ++ number 8 r.stamp ++ number 4 r.len
    ++ (r.traps.owner ∷ length r.traps.others ∷ []) ++ pair_fields r.traps.others ++ copy_fields r.tape ++ online_fields format online

-- The block of a file: its fields, padded with zeros.
abbrev pub file_block : Format → FileRec → Option (List ℕ) → List ℕ
file_block format r online = padded 512 (file_fields format r online)

-- The block numbers of a file on tape: none, as of an offline file, but an empty file is online.
abbrev pub on_tape : FileRec → Option (List ℕ)
on_tape r = if r.len == 0 then Some [] else None

-- The dumps and files that a seal can have, and the text as a whole.
use Rattle.std.specs.Prelude.{◌≡◌, ◌≢◌, ℕ, ◌+◌, ◌-◌, ◌<◌, ◌≤◌, ◌^◌, List, [], ◌∷◌, ◌++◌, length, take, All, IfSome, codes}
use Rattle.hex.specs.Hex.{IsBytes, encode_lower}
use Rattle.sha2.specs.Sha256.{sha256}
use Rattle.g_entry.specs.declared.file_rec.TapeCopy.{TapeCopy}
use Rattle.g_lines.specs.Documents.{IsWhole}
use Rattle.g_lines.specs.Lines.{ended, lines_of}
use Rattle.g_name.specs.Names.{IsName, full_name}
use Rattle.g_seal.specs.declared.entries.SealedDump.{SealedDump}
use Rattle.g_seal.specs.declared.entries.SealedFile.{SealedFile}
use Rattle.g_seal.specs.declared.parse.SealFault.{SealFault}
use Rattle.g_seal.specs.declared.parse.SealFault.TheVariants as refusal
use Rattle.g_seal.specs.SealText.{sealed_lines, sealed_text}

-- A sum has 32 bytes.
pub record IsSum (sum : List ℕ) : Type 0 where
  pub long : length sum ≡ 32
  pub bytes : IsBytes sum

-- The numbers of a place on tape fit into 32 bits.
pub record IsPlaced (copy : TapeCopy) : Type 0 where
  pub serial : copy.serial < 2 ^ 32
  pub first : copy.first < 2 ^ 32

-- A DUMP THAT A SEAL CAN HAVE: its numbers fit into 64 and 32 bits, and it has a sum.
pub record IsDumpEntry (d : SealedDump) : Type 0 where
  pub number : d.number < 2 ^ 64
  pub serial : d.serial < 2 ^ 32
  pub place : d.place < 2 ^ 32
  pub blocks : d.blocks < 2 ^ 32
  pub sum : IsSum d.sum

-- A FILE THAT A SEAL CAN HAVE: its name is valid, its numbers fit, and it has a sum.
pub record IsFileEntry (f : SealedFile) : Type 0 where
  pub full : IsName (full_name f.full)
  pub len : f.len < 2 ^ 32
  pub stamp : f.stamp < 2 ^ 64
  pub sum : IsSum f.sum
  pub tape : IfSome f.tape IsPlaced

-- The dumps and files of a seal.
pub record AreEntries (dumps : List SealedDump) (files : List SealedFile) : Type 0 where
  pub each_dump : All IsDumpEntry dumps
  pub each_file : All IsFileEntry files

-- THE TEXT OF A SEAL DETERMINES its dumps and files.
abbrev pub TextIsOne : Type 0
TextIsOne =
    (dumps others : List SealedDump) (files more : List SealedFile) → AreEntries dumps files → AreEntries others more
    → sealed_text dumps files ≡ sealed_text others more → (dumps ≡ others) × (files ≡ more)

-- The text is that of these lines, and a last line with 64 digits.
pub record EndsWithSum (text front digits : List ℕ) : Type 0 where
  pub whole : IsWhole front
  pub long : length digits ≡ 64
  pub text_is : text ≡ front ++ ended (codes "SEAL " ++ digits)

-- The lines are those of dumps, and of files after them.
abbrev pub AreKnown : List (List ℕ) → Type 0
AreKnown lines = (dumps : List SealedDump) × (files : List SealedFile) × AreEntries dumps files × (lines ≡ sealed_lines dumps files)

-- Line k, counted from 1, is the first that is neither a dump's nor a file's, or is a dump's after a file's.
pub record IsFirstUnknown (lines : List (List ℕ)) (k : ℕ) : Type 0 where
  pub from : 1 ≤ k
  pub to : k ≤ length lines
  pub known : AreKnown (take (k - 1) lines)
  pub unknown : AreKnown (take k lines) → ⊥

-- WHY A TEXT ISN'T A SEAL, for each refusal: it doesn't end with a byte 10; it has no last line with a sum; the sum of the lines before it is another;
-- or line k is unknown.
abbrev pub IsRefused : SealFault → List ℕ → Type 0
IsRefused refusal.NotEnded text = (front : List ℕ) → text ≢ ended front
IsRefused refusal.WithoutSum text = ((front : List ℕ) × (text ≡ ended front)) × ((front digits : List ℕ) → EndsWithSum text front digits → ⊥)
IsRefused refusal.OtherSum text = (front : List ℕ) × (digits : List ℕ) × EndsWithSum text front digits × (digits ≢ encode_lower (sha256 front))
IsRefused (refusal.Line k) text = (front : List ℕ) × EndsWithSum text front (encode_lower (sha256 front)) × IsFirstUnknown (lines_of front) k
IsRefused refusal.NoMemory text = Unit {0}

-- Nothing, or a space and more: what follows a field of a line.
abbrev pub IsRest : List ℕ → Type 0
IsRest [] = Unit {0}
IsRest (byte ∷ more) = byte ≡ 32

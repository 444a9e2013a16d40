-- Which sealed bytes have changed, and the lines that say so.
use Rattle.std.specs.Prelude.{◌≡◌, ℕ, ◌+◌, ◌*◌, ◌-◌, ◌==◌, ◌&&◌, ◌||◌, not, nat_le, nat_lt, Bool, true, false, List, [], ◌∷◌, ◌++◌, map, filter, find, take, drop, slice_get, Option, Some, None, option_map, codes, if◌then◌else◌}
use Rattle.std.specs.List.{flat_map, list_any}
use Rattle.byteorder.specs.Endian.{big_number}
use Rattle.sha2.specs.Sha256.{sha256}
use Rattle.g_base.specs.Block.{blocks_for}
use Rattle.g_copy.specs.Copy.{bytes_at}
use Rattle.g_copy.specs.declared.copy.DiscCopy.{DiscCopy}
use Rattle.g_dirs.specs.Directory.{Directory, FileEntry}
use Rattle.g_entry.specs.declared.file_rec.TapeCopy.{TapeCopy}
use Rattle.g_entry.specs.declared.format.Format.{Format}
use Rattle.g_entry.specs.declared.user_rec.UserRec.{UserRec}
use Rattle.g_name.specs.Order.{same_text}
use Rattle.g_store_meaning.specs.Meaning.{told_reels}
use Rattle.g_store_meaning.specs.Reading.{AllTold}
use Rattle.g_tape.specs.Rack.{AreReels, Rack, reel}
use Rattle.g_tape.specs.Reads.{blocks_in}
use Rattle.g_tape.specs.Reel.{Reel}
use Rattle.g_tree.specs.Records.{full_of}
use Rattle.g_incr.specs.Layout.{Dump}
use Rattle.g_shelf.specs.CompletedDumps.{AreShelved, all_dumps}
use Rattle.g_lines.specs.Lines.{text_of}
use Rattle.g_monitor.specs.Parts.{full_text}
use Rattle.g_look.specs.FileLines.{taped_text}
use Rattle.g_look.specs.Text.{IsFoundOn, told}
use Rattle.g_seal.specs.declared.entries.SealedDump.{SealedDump}
use Rattle.g_seal.specs.declared.entries.SealedFile.{SealedFile}
use Rattle.g_seal.specs.declared.rotten_dumps.RottenDump.{RottenDump}
use Rattle.g_seal.specs.declared.twins.Twins.{Twins}
use Rattle.g_seal.specs.declared.versions.CopyState.{CopyState}
use Rattle.g_seal.specs.declared.versions.CopyState.TheVariants.{Sealed, Other, Absent}
use Rattle.g_seal.specs.declared.versions.FoundVersion.{FoundVersion}
use Rattle.g_seal.specs.Entries.{AreEntries}
use Rattle.g_seal.specs.SealText.{online_text, sealed_text}
use Rattle.g_seal.specs.Sealing.{IsSealed, bytes_on, sealed_dump, sealed_files}

-- A sum is the sealed one, or another.
abbrev pub sum_state : List ℕ → List ℕ → CopyState
sum_state sum due = if same_text sum due then Sealed else Other

-- The reel has at least n blocks.
abbrev pub has_blocks : ℕ → Option Reel → Bool
has_blocks n None = false
has_blocks n (Some r) = nat_le n r.len

-- The reel of a copy is in the rack, and has all of the copy's blocks.
abbrev pub has_copy : List Reel → TapeCopy → ℕ → Bool
has_copy reels copy len = has_blocks (copy.first + blocks_for len) (reel copy.serial reels)

-- THE STATE OF BYTES ON A REEL: their sum is the sealed one, or another; or the rack doesn't have them.
abbrev pub reel_state : List Reel → TapeCopy → ℕ → List ℕ → CopyState
reel_state reels copy len due = if has_copy reels copy len then sum_state (sha256 (bytes_on reels copy len)) due else Absent

-- THE STATE OF A COPY ON DISC, if there is one.
abbrev pub disc_state : List (List ℕ) → List ℕ → Option DiscCopy → CopyState
disc_state blocks due None = Absent
disc_state blocks due (Some copy) = sum_state (sha256 (bytes_at copy.blocks copy.len blocks)) due

abbrev pub is_other : CopyState → Bool
is_other Other = true
is_other state = false

abbrev pub is_sealed : CopyState → Bool
is_sealed Sealed = true
is_sealed state = false

-- Block k of a reel, if there is one.
abbrev pub block_in : ℕ → Option (List (List ℕ)) → Option (List ℕ)
block_in k None = None
block_in k (Some blocks) = slice_get blocks k

abbrev pub block_on : List Reel → ℕ → ℕ → Option (List ℕ)
block_on reels serial k = block_in k (blocks_in (reel serial reels))

-- The block is the mark of a dump with this number, place and count of blocks.
abbrev pub is_mark : SealedDump → Option (List ℕ) → Bool
is_mark d None = false
is_mark d (Some block) =
    same_text (take 4 block) (codes "G3MK") && (big_number 8 (take 8 (drop 4 block)) == d.number)
    && (big_number 4 (take 4 (drop 12 block)) == d.place) && (big_number 4 (take 4 (drop 16 block)) + 2 == d.blocks)

-- The block is the header of a dump that begins at this place and has a greater number.
abbrev pub is_later_header : SealedDump → ℕ → Option (List ℕ) → Bool
is_later_header d at None = false
is_later_header d at (Some block) =
    same_text (take 4 block) (codes "G3HD") && (big_number 4 (take 4 (drop 14 block)) == at) && nat_lt d.number (big_number 8 (take 8 (drop 6 block)))

-- A DUMP WAS OVERWRITTEN: its mark isn't there, and a later dump begins at its place or at the reel's first block.
abbrev pub is_overwritten : List Reel → SealedDump → Bool
is_overwritten reels d =
    not (is_mark d (block_on reels d.serial (d.place + d.blocks - 1)))
    && (is_later_header d 0 (block_on reels d.serial 0) || is_later_header d d.place (block_on reels d.serial d.place))

-- The place of a dump in a seal.
abbrev pub place_of : SealedDump → TapeCopy
place_of d = record { serial = d.serial; first = d.place }

-- A DUMP IS ROTTEN: all its blocks are on its reel, it wasn't overwritten, and the blocks have another sum. No reel has more than 65,536 blocks.
abbrev pub is_rotten : List Reel → SealedDump → Bool
is_rotten reels d = nat_le d.blocks 65_536 && is_other (reel_state reels (place_of d) (512 * d.blocks) d.sum) && not (is_overwritten reels d)

-- A sealed dump without its sum.
abbrev pub without_sum : SealedDump → RottenDump
without_sum d = record { number = d.number; serial = d.serial; place = d.place; blocks = d.blocks }

-- The rotten ones among the sealed dumps.
abbrev pub rotten_dumps : List Reel → List SealedDump → List RottenDump
rotten_dumps reels dumps = map without_sum (filter (is_rotten reels) dumps)

-- The copy begins within the blocks of the dump.
abbrev pub is_inside : TapeCopy → RottenDump → Bool
is_inside copy d = (d.serial == copy.serial) && nat_le d.place copy.first && nat_lt copy.first (d.place + d.blocks)

-- The copies are at the same place.
abbrev pub is_same_place : TapeCopy → Option TapeCopy → Bool
is_same_place copy None = false
is_same_place copy (Some other) = (other.serial == copy.serial) && (other.first == copy.first)

-- A COPY ISN'T COMPARED: the seal summed up the disc's copy of this version, which still has that sum, and this one only as part of its dump, which
-- isn't rotten. A version whose two copies differed when it was sealed thus isn't reported as long as nothing changes.
abbrev pub is_left_out : List RottenDump → SealedFile → CopyState → TapeCopy → Bool
is_left_out rotten s disc copy = s.online && is_sealed disc && is_same_place copy s.tape && not (list_any (is_inside copy) rotten)

-- THE STATE OF A VERSION'S COPY ON TAPE, by the sealed file and the state of the copy on disc.
abbrev pub tape_state : List Reel → List RottenDump → SealedFile → CopyState → ℕ → Option TapeCopy → CopyState
tape_state reels rotten s disc len None = Absent
tape_state reels rotten s disc len (Some copy) = if is_left_out rotten s disc copy then Absent else reel_state reels copy len s.sum

-- The stamp is one of these.
abbrev pub is_among : List ℕ → ℕ → Bool
is_among stamps stamp = list_any (λ n. n == stamp) stamps

-- The state that was found of the file with this stamp.
abbrev pub state_found : Twins → ℕ → CopyState
state_found twins stamp = if is_among twins.sealed.items stamp then Sealed else (if is_among twins.other.items stamp then Other else Absent)

-- Other bytes aren't reported of a copy that is left out.
abbrev pub unless_left : Bool → CopyState → CopyState
unless_left left state = if left && is_other state then Absent else state

-- THE STATE OF A VERSION'S COPY IN THE SECOND RACK, if the version is still at the place on tape where it was sealed.
abbrev pub twin_state : Twins → SealedFile → CopyState → Option TapeCopy → CopyState
twin_state twins s disc None = Absent
twin_state twins s disc (Some copy) =
    if is_same_place copy s.tape then unless_left (is_left_out twins.rotten.items s disc copy) (state_found twins s.stamp) else Absent

-- THE LINE OF A ROTTEN DUMP, with words after its reel that say in which rack it is.
abbrev pub rotten_dump_line : List ℕ → RottenDump → List ℕ
rotten_dump_line rack d = told (codes "ROTTEN DUMP ") d.number ++ told (codes " ON ") d.serial ++ rack

-- The place on tape, if the copy there is one of those that are listed.
abbrev pub tape_if : Bool → Option TapeCopy → List ℕ
tape_if listed tape = if listed then taped_text tape else []

-- The place in the second rack, if the copy there is one of those that are listed.
abbrev pub twin_if : Bool → Option TapeCopy → List ℕ
twin_if listed tape = if listed then taped_text tape ++ codes " IN THE SECOND RACK" else []

-- No copy has the sealed bytes.
abbrev pub nowhere_text : FoundVersion → List ℕ
nowhere_text v = if is_sealed v.disc || is_sealed v.tape || is_sealed v.twin then [] else codes " NOWHERE"

-- THE LINE OF A ROTTEN FILE: the places with other bytes, and after the word GOOD those with the sealed ones.
abbrev pub rotten_file_line : FoundVersion → List ℕ
rotten_file_line v =
    codes "ROTTEN FILE " ++ full_text v.full ++ told (codes " STAMP ") v.stamp ++ online_text (is_other v.disc) ++ tape_if (is_other v.tape) v.place
    ++ twin_if (is_other v.twin) v.place ++ codes " GOOD" ++ online_text (is_sealed v.disc) ++ tape_if (is_sealed v.tape) v.place
    ++ twin_if (is_sealed v.twin) v.place ++ nowhere_text v

-- A FILE IS ROTTEN if its copy on the disc or that in the first rack has other bytes.
abbrev pub rotten_if : FoundVersion → List (List ℕ)
rotten_if v = if is_other v.disc || is_other v.tape then rotten_file_line v ∷ [] else []

-- The rotten dumps of the first rack, and what was found of the seal in a second one.
pub record Marks : Type 0 where
  pub rotten : List RottenDump
  pub twins : Twins

-- A sealed version as it is found: its present name, and the states of its copies.
abbrev pub found_version : List (List ℕ) → List Reel → Marks → List UserRec → SealedFile → FileEntry → FoundVersion
found_version blocks reels marks users s f = record {
  full = full_of users f.0;
  stamp = f.0.stamp;
  place = f.0.tape;
  disc = disc_state blocks s.sum f.1;
  tape = tape_state reels marks.rotten s (disc_state blocks s.sum f.1) f.0.len f.0.tape;
  twin = twin_state marks.twins s (disc_state blocks s.sum f.1) f.0.tape;
}

-- The lines of a version, if the disc still has it.
abbrev pub version_lines : Option FoundVersion → List (List ℕ)
version_lines None = []
version_lines (Some v) = rotten_if v

-- The file with this stamp. No two files have the same.
abbrev pub version_of : List FileEntry → ℕ → Option FileEntry
version_of files stamp = find (λ f. f.0.stamp == stamp) files

-- The lines of a sealed file.
abbrev pub file_lines : List (List ℕ) → List Reel → Marks → Directory → SealedFile → List (List ℕ)
file_lines blocks reels marks d s = version_lines (option_map (found_version blocks reels marks d.users s) (version_of d.files s.stamp))

-- The lines of the sealed files of what the disc holds.
abbrev pub rotten_files : List (List ℕ) → List Reel → Marks → Option (Format × Directory) → List SealedFile → List (List ℕ)
rotten_files blocks reels marks None files = []
rotten_files blocks reels marks (Some (format, d)) files = flat_map (file_lines blocks reels marks d) files

-- THE LINES OF A CHECK AGAINST A SEAL: those of rotten dumps, and those of rotten files, each in the order of the seal.
abbrev pub rotten_lines : List (List ℕ) → List Reel → Twins → Option (Format × Directory) → List SealedDump → List SealedFile → List (List ℕ)
rotten_lines blocks reels twins found dumps files =
    map (rotten_dump_line []) (rotten_dumps reels dumps)
    ++ rotten_files blocks reels (record { rotten = rotten_dumps reels dumps; twins = twins }) found files

-- The state of bytes at a place on tape, if there is one.
abbrev pub state_at : List Reel → ℕ → List ℕ → Option TapeCopy → CopyState
state_at reels len sum None = Absent
state_at reels len sum (Some copy) = reel_state reels copy len sum

-- THE STATE OF A FILE IN THE SECOND RACK, at the place where it was sealed.
abbrev pub twin_here : List Reel → SealedFile → CopyState
twin_here reels s = state_at reels s.len s.sum s.tape

-- The stamps of the files that are so in the second rack.
abbrev pub stamps_in : (CopyState → Bool) → List Reel → List SealedFile → List ℕ
stamps_in is_so reels files = map (λ s. s.stamp) (filter (λ s. is_so (twin_here reels s)) files)

-- WHAT A SECOND RACK HAS OF A SEAL.
pub record AreTwins (reels : List Reel) (dumps : List SealedDump) (files : List SealedFile) (twins : Twins) : Type 0 where
  pub rotten : twins.rotten.items ≡ rotten_dumps reels dumps
  pub sealed : twins.sealed.items ≡ stamps_in is_sealed reels files
  pub other : twins.other.items ≡ stamps_in is_other reels files

-- There is no second rack.
pub record HasNoTwins (twins : Twins) : Type 0 where
  pub rotten : twins.rotten.items ≡ []
  pub sealed : twins.sealed.items ≡ []
  pub other : twins.other.items ≡ []

-- THE LINES OF A SECOND RACK: those of the sealed dumps that are rotten on its reels.
abbrev pub twin_lines : Twins → List (List ℕ)
twin_lines twins = map (rotten_dump_line (codes " IN THE SECOND RACK")) twins.rotten.items

-- THE TEXT OF THESE LINES, for devices that expose their contents.
pub record IsReport (held : Option (List (List ℕ))) (reels : List Reel) (twins : Twins) (dumps : List SealedDump) (files : List SealedFile) (text : List ℕ) : Type 0 where
  pub blocks : List (List ℕ)
  pub is_told : held ≡ Some blocks
  pub found : Option (Format × Directory)
  pub found_is : IsFoundOn blocks found
  pub text_is : text ≡ text_of (rotten_lines blocks reels twins found dumps files)

-- THE DUMPS AND FILES OF THE SEAL of devices that expose their contents.
pub record IsSealing (held : Option (List (List ℕ))) (reels : List Reel) (dumps : List SealedDump) (files : List SealedFile) : Type 0 where
  pub shelf : ℕ → List Dump
  pub shelved : AreShelved shelf reels
  pub blocks : List (List ℕ)
  pub is_told : held ≡ Some blocks
  pub found : Option (Format × Directory)
  pub found_is : IsFoundOn blocks found
  pub dumps_are : dumps ≡ map (sealed_dump reels) (all_dumps shelf reels)
  pub files_are : files ≡ sealed_files blocks reels found

-- A STORE THAT HASN'T CHANGED has nothing to report against the text of its own seal.
abbrev pub OwnIsQuiet : Type 0
OwnIsQuiet =
    (held : Option (List (List ℕ))) (rack : Rack) (twins : Twins) (dumps : List SealedDump) (files : List SealedFile) (text : List ℕ) → AreReels rack.reels → AllTold held (told_reels rack)
    → AreEntries dumps files → IsSealed held (told_reels rack) (sealed_text dumps files) → IsReport held (told_reels rack) twins dumps files text → text ≡ []

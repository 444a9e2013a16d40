-- The entries of a store's own seal: its text is that of entries.
-- serves: own_seal, rotten (own), crates above
use Rattle.std.proofs.Common.{◌≡◌, inl, inr, ℕ, ◌+◌, ◌<◌, ◌≤◌, true, List, [], ◌∷◌, zero, suc, length, map, get_or, Option, Some, None, arith, All}
use Rattle.std.specs.Prelude.{IfSome, is_some}
use Rattle.std.specs.Int.{byte_at, bytes_high_first}
use Rattle.std.specs.Option.{ForSome}
use Rattle.std.proofs.Math.ListN.{get_or-eq_default}
use Rattle.std.proofs.lemmas.Bool.{cases_lt}
use Rattle.std.proofs.lemmas.List.Elements.{All-append, All-cons, All-contains_itself, All-head, All-map, All-nil, All-tail}
use Rattle.hex.specs.Hex.{IsBytes}
use Rattle.sha2.specs.Sha256.{digest_bytes, sha256}
use Rattle.sha2.proofs.Facts256.{length-sha256}
use Rattle.g_dirs.specs.Directory.{Directory, FileEntry, recs}
use Rattle.g_entry.specs.declared.file_rec.TapeCopy.{TapeCopy}
use Rattle.g_entry.specs.declared.format.Format.{Format}
use Rattle.g_entry.specs.declared.user_rec.UserRec.{UserRec}
use Rattle.g_entry.specs.FileFields.{IsCopy, IsFile}
use Rattle.g_entry.specs.UserFields.{IsUser}
use Rattle.g_incr.specs.Layout.{Dump, ends}
use Rattle.g_name.specs.Grammar.{is_word}
use Rattle.g_shelf.specs.CompletedDumps.{AreCompleted, AreNext, AreShelved, IsNext, all_dumps}
use Rattle.g_shelf.proofs.QuietLemmas.{within}
use Rattle.g_store_meaning.specs.Meaning.{told_reels}
use Rattle.g_store_meaning.specs.Reading.{ReelsTold}
use Rattle.g_tape.specs.Rack.{AreReels, Rack}
use Rattle.g_tape.specs.Reads.{unread}
use Rattle.g_tape.specs.Reel.{IsReel, Reel}
use Rattle.g_tree.specs.Records.{name_of}
use Rattle.g_look.specs.Text.{IsFoundOn}
use Rattle.g_look.proofs.HeadLemmas.{told_blocks}
use Rattle.g_seal.specs.declared.entries.SealedDump.{SealedDump}
use Rattle.g_seal.specs.declared.entries.SealedFile.{SealedFile}
use Rattle.g_seal.specs.Entries.{AreEntries, IsDumpEntry, IsFileEntry, IsPlaced, IsSum}
use Rattle.g_seal.specs.Rotten.{IsSealing, OwnIsQuiet}
use Rattle.g_seal.specs.Sealing.{IsSealed, sealed_dump, sealed_file, sealed_files}
use Rattle.g_seal.specs.SealText.{sealed_text}
use Rattle.g_seal.proofs.EntryLemmas.{text_is_one}
use Rattle.g_seal.proofs.OwnLemmas.{own_report}

-- A SUM has 32 bytes
abbrev AreBytes : List ℕ → Type 0
AreBytes xs = All (λ b. b < 256) xs

byte_small : (k n : ℕ) → byte_at k n < 256
byte_small zero n = omega arith
byte_small (suc k) n = omega arith

high_first : (k n : ℕ) → AreBytes (bytes_high_first k n)
high_first zero n = All-nil (λ b. b < 256)
high_first (suc k) n = All-cons (λ b. b < 256) _ _ (byte_small k n) (high_first k n)

digest_all : (h : List ℕ) (n : ℕ) → AreBytes (digest_bytes h n)
unfolding digest_bytes
digest_all h zero = All-nil (λ b. b < 256)
digest_all h (suc n) = All-append (λ b. b < 256) (digest_bytes h n) _ (digest_all h n) (high_first 4 _)

are_bytes : (xs : List ℕ) → AreBytes xs → IsBytes xs
are_bytes xs all i = elim (cases_lt i (length xs)) [
  | inl inside ↦ all i 0 inside
  | inr past ↦ let zero = get_or-eq_default xs 0 past in omega (arith, zero)
]

pub sum_of : (text : List ℕ) → IsSum (sha256 text)
unfolding sha256
sum_of text = record { long = length-sha256 text; bytes = are_bytes (sha256 text) (digest_all _ 8) }

-- DUMPS
dump_entry : (reels : List Reel) (serial at from : ℕ) (blocks : List (List ℕ)) (d : Dump) → serial ≤ 999_999 → length blocks ≤ 65_536 → IsNext serial blocks at from d → IsDumpEntry (sealed_dump reels d)
dump_entry reels serial at from blocks d low short next =
    let inside : ends d ≤ length blocks = within blocks d next.stands in
    let number = next.stands.rules.number in
    let on = next.on in
    record {
      number = omega (arith, number);
      serial = omega (arith, on, low);
      place = next.stands.rules.place;
      blocks = omega (arith, inside, short);
      sum = sum_of _;
    }

next_entries : (reels : List Reel) (serial at from : ℕ) (blocks : List (List ℕ)) (ds : List Dump) → serial ≤ 999_999 → length blocks ≤ 65_536 → AreNext serial blocks at from ds → All (λ d. IsDumpEntry (sealed_dump reels d)) ds
next_entries reels serial at from blocks [] low short are = All-nil (λ d. IsDumpEntry (sealed_dump reels d))
next_entries reels serial at from blocks (d ∷ ds) low short are =
    All-cons (λ d. IsDumpEntry (sealed_dump reels d)) d ds (dump_entry reels serial at from blocks d low short are.0) (next_entries reels serial (ends d) (d.number + 1) blocks ds low short are.1)

-- a reel of a rack
pub record IsLow (r : Reel) : Type 0 where
  pub serial : r.serial ≤ 999_999
  pub long : ForSome r.blocks (λ blocks. length blocks ≤ 65_536)

low_reels : (rack : Rack) → AreReels rack.reels → All IsLow (told_reels rack)
low_reels rack are = All-map IsLow unread rack.reels (λ k d within. low (get_or rack.reels k d) (are.each k d within))
  where
    low : (r : Reel) → IsReel r → IsLow (unread r)
    low r is = record { serial = is.numbered_most; long = λ blocks there. let long = is.told blocks there in let few = is.within in let most = is.sized_most in omega (arith, long, few, most) }

on_one : (reels : List Reel) (shelf : ℕ → List Dump) (r : Reel) → IsLow r → is_some r.blocks ≡ true → ForSome r.blocks (λ blocks. AreCompleted r.serial blocks (shelf r.serial)) → All (λ d. IsDumpEntry (sealed_dump reels d)) (shelf r.serial)
on_one reels shelf r is exposed completed =
    let (blocks, there) = told_blocks r.blocks exposed in
    next_entries reels r.serial 0 0 blocks (shelf r.serial) is.serial (is.long blocks there) (completed blocks there).are

on_all : (reels : List Reel) (shelf : ℕ → List Dump) (rs : List Reel) → All IsLow rs → All (λ r. is_some r.blocks ≡ true) rs → All (λ r. ForSome r.blocks (λ blocks. AreCompleted r.serial blocks (shelf r.serial))) rs
    → All (λ d. IsDumpEntry (sealed_dump reels d)) (all_dumps shelf rs)
on_all reels shelf [] is exposed completed = All-nil (λ d. IsDumpEntry (sealed_dump reels d))
on_all reels shelf (r ∷ rs) is exposed completed =
    All-append (λ d. IsDumpEntry (sealed_dump reels d)) (shelf r.serial) (all_dumps shelf rs)
    (on_one reels shelf r (All-head IsLow r rs is) (All-head (λ q. is_some q.blocks ≡ true) r rs exposed) (All-head (λ q. ForSome q.blocks (λ blocks. AreCompleted q.serial blocks (shelf q.serial))) r rs completed))
    (on_all reels shelf rs (All-tail IsLow r rs is) (All-tail (λ q. is_some q.blocks ≡ true) r rs exposed) (All-tail (λ q. ForSome q.blocks (λ blocks. AreCompleted q.serial blocks (shelf q.serial))) r rs completed))

dump_entries : (reels : List Reel) (shelf : ℕ → List Dump) → All IsLow reels → ReelsTold reels → AreShelved shelf reels → All IsDumpEntry (map (sealed_dump reels) (all_dumps shelf reels))
dump_entries reels shelf is told shelved =
    All-map IsDumpEntry (sealed_dump reels) (all_dumps shelf reels) (on_all reels shelf reels is told.each (λ k r within. shelved.each (get_or reels k r) (All-contains_itself reels k r within)))

-- FILES
place_low : (tape : Option TapeCopy) → IfSome tape IsCopy → IfSome tape IsPlaced
place_low None is = tt
place_low (Some c) is = let serial = is.serial.1 in record { serial = omega (arith, serial); first = is.first }

owner_word : (format : Format) (users : List UserRec) (owner : ℕ) → All (IsUser format) users → owner < length users → is_word (name_of users owner) ≡ true
owner_word format [] owner all few = absurd (omega (arith, few))
owner_word format (u ∷ users) zero all few = (All-head (IsUser format) u users all).user
owner_word format (u ∷ users) (suc owner) all few = owner_word format users owner (All-tail (IsUser format) u users all) (omega (arith, few))

file_entry : (blocks : List (List ℕ)) (reels : List Reel) (format : Format) (users : List UserRec) (f : FileEntry) → All (IsUser format) users → IsFile f.0 → f.0.owner < length users → IsFileEntry (sealed_file blocks reels users f)
file_entry blocks reels format users f all is owner =
    let len = is.len in
    let stamp = is.stamp in
    record {
      full = record { user = owner_word format users f.0.owner all owner; local = is.local; generation = (is.least_generation, is.most_generation); lang = is.lang };
      len = omega (arith, len);
      stamp = omega (arith, stamp);
      sum = sum_of _;
      tape = place_low f.0.tape is.tape;
    }

each_entry : (blocks : List (List ℕ)) (reels : List Reel) (format : Format) (users : List UserRec) (files : List FileEntry) → All (IsUser format) users → All IsFile (recs files) → All (λ r. r.owner < length users) (recs files)
    → All (λ f. IsFileEntry (sealed_file blocks reels users f)) files
each_entry blocks reels format users [] all is owners = All-nil (λ f. IsFileEntry (sealed_file blocks reels users f))
each_entry blocks reels format users (f ∷ files) all is owners =
    All-cons (λ g. IsFileEntry (sealed_file blocks reels users g)) f files (file_entry blocks reels format users f all (All-head IsFile f.0 (recs files) is) (All-head (λ r. r.owner < length users) f.0 (recs files) owners))
    (each_entry blocks reels format users files all (All-tail IsFile f.0 (recs files) is) (All-tail (λ r. r.owner < length users) f.0 (recs files) owners))

file_entries : (blocks : List (List ℕ)) (reels : List Reel) (found : Option (Format × Directory)) → IsFoundOn blocks found → All IsFileEntry (sealed_files blocks reels found)
file_entries blocks reels None is = All-nil IsFileEntry
file_entries blocks reels (Some (format, d)) is =
    All-map IsFileEntry (sealed_file blocks reels d.users) d.files (each_entry blocks reels is.0.format d.users d.files is.0.records.users is.0.records.files is.0.rules.files.owners)

-- THE ENTRIES OF THE TEXT of the devices' own seal are theirs
own_sealing : (held : Option (List (List ℕ))) (reels : List Reel) (dumps : List SealedDump) (files : List SealedFile) → All IsLow reels → ReelsTold reels → AreEntries dumps files → IsSealed held reels (sealed_text dumps files)
    → IsSealing held reels dumps files
own_sealing held reels dumps files is told entries sealed =
    let own : AreEntries (map (sealed_dump reels) (all_dumps sealed.shelf reels)) (sealed_files sealed.blocks reels sealed.found) =
    record { each_dump = dump_entries reels sealed.shelf is told sealed.shelved; each_file = file_entries sealed.blocks reels sealed.found sealed.found_is } in
    let same = text_is_one dumps (map (sealed_dump reels) (all_dumps sealed.shelf reels)) files (sealed_files sealed.blocks reels sealed.found) entries own sealed.text_is in
    record {
      shelf = sealed.shelf;
      shelved = sealed.shelved;
      blocks = sealed.blocks;
      is_told = sealed.is_told;
      found = sealed.found;
      found_is = sealed.found_is;
      dumps_are = same.0;
      files_are = same.1;
    }

-- NOTHING TO REPORT
pub own_is_quiet : OwnIsQuiet
own_is_quiet held rack twins dumps files text are told entries sealed report =
    own_report held (told_reels rack) twins dumps files text report (own_sealing held (told_reels rack) dumps files (low_reels rack are) told.each entries sealed)

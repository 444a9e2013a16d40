-- The rules of a directory, from those of its contents and those of its blocks.
-- serves: AdoptLemmas, BegunLemmas, BringStepLemmas, EraseLemmas, PutLemmas, PutStepLemmas, ReadyLemmas, RecordLemmas, UnjamLemmas, UnloadLemmas, and 2 more
use Rattle.std.proofs.Common.{◌≡◌, ◌≢◌, ℕ, ◌<◌, ◌≤◌, true, List, length, get_or, map, Option, Some, None, All, AllPairs, sym, subst, arith}
use Rattle.std.specs.Prelude.{IfSome}
use Rattle.std.proofs.lemmas.Bool.{lt-ltb}
use Rattle.std.proofs.lemmas.List.{get_or-map, length-map}
use Rattle.std.proofs.lemmas.List.Elements.{All-map, All-weaker}
use Rattle.g_blocks.specs.Pool.{IsInArea}
use Rattle.g_entry.specs.declared.format.Format.TheVariants.{Two}
use Rattle.g_entry.specs.FileFields.{IsFile}
use Rattle.g_entry.specs.Formats.{is_place}
use Rattle.g_entry.specs.Rules.{AreFiles, AreNumbered, StampsBelow}
use Rattle.g_dirs.specs.Directory.{AreRecords, Directory, FileEntry, IsCopyOf, IsDirectory, LiesSomewhere, all_places, recs}
use Rattle.g_disc_contents.specs.Contents.{contents_of, file_of, recs_in}
use Rattle.g_online.specs.AllowedChanges.{KeepsRules, Lies}
use Rattle.g_online.proofs.ContentLemmas.{recs_are}

abbrev pub Told : Type 0
Told = Option (List (List ℕ))

-- as many block numbers as the bytes take, if it is on the disc
abbrev pub CopyFits : FileEntry → Type 0
CopyFits f = IfSome f.1 (IsCopyOf f.0)

lies_one : (held : Told) (e : FileEntry) → Lies (file_of held e) → CopyFits e → LiesSomewhere e
lies_one held (rec, None) lies fits = record { lies = lies.somewhere; empty = lies.empty; copy = tt }
lies_one held (rec, Some copy) lies fits = record { lies = lies.somewhere; empty = lies.empty; copy = fits }

lies_back : (held : Told) (e : FileEntry) → LiesSomewhere e → Lies (file_of held e)
lies_back held (rec, None) lies = record { somewhere = lies.lies; empty = lies.empty }
lies_back held (rec, Some copy) lies = record { somewhere = lies.lies; empty = lies.empty }

lie : (held : Told) (files : List FileEntry) → All Lies (map (file_of held) files) → All CopyFits files → All LiesSomewhere files
lie held files lies fit k d inside =
    let there : k < length (map (file_of held) files) = omega (arith, inside, length-map files (file_of held)) in
    lies_one held (get_or files k d) (subst Lies (get_or-map (file_of held) files k d (file_of held d) inside) (lies k (file_of held d) there)) (fit k d inside)

lie_back : (held : Told) (files : List FileEntry) → All LiesSomewhere files → All Lies (map (file_of held) files)
lie_back held files lies = All-map Lies (file_of held) files (All-weaker LiesSomewhere (λ (f : FileEntry). Lies (file_of held f)) (λ f is. lies_back held f is) files lies)

pub small : (size : ℕ) → size ≤ 1_048_576 → (k : ℕ) → IsInArea size k → is_place Two k ≡ true
small size most k is = let high = is.high in lt-ltb k 16777216 (omega (arith, high, most))

-- THE RULES OF A DIRECTORY
pub rules_kept : (size : ℕ) (held : Told) (d : Directory) → size ≤ 1_048_576 → KeepsRules (contents_of held d) → All CopyFits d.files → All (IsInArea size) (all_places d.files)
    → AllPairs (λ j k. j ≢ k) (all_places d.files) → AreRecords Two d × IsDirectory size d
rules_kept size held d most kept fit area apart =
    let same : recs_in (contents_of held d) ≡ recs d.files = recs_are held d.files in (
      record {
        head = kept.head;
        users = kept.records.each_user;
        files = subst (All IsFile) same kept.records.each_file;
        places = All-weaker (IsInArea size) (λ (k : ℕ). is_place Two k ≡ true) (small size most) (all_places d.files) area;
      },
      record {
        users = kept.records.among_users;
        numbered = subst AreNumbered same kept.records.numbers;
        files = subst (AreFiles (length d.users)) same kept.records.among_files;
        dated = subst (StampsBelow d.head.next_stamp) same kept.dated;
        lies = lie held d.files kept.lie fit;
        area = area;
        apart = apart;
      },
    )

-- and those of its contents, from them
pub rules_of : (size : ℕ) (held : Told) (d : Directory) → AreRecords Two d → IsDirectory size d → KeepsRules (contents_of held d)
rules_of size held d records rules =
    let same : recs d.files ≡ recs_in (contents_of held d) = sym (recs_are held d.files) in
    record {
      head = records.head;
      records = record {
        each_user = records.users;
        among_users = rules.users;
        each_file = subst (All IsFile) same records.files;
        numbers = subst AreNumbered same rules.numbered;
        among_files = subst (AreFiles (length d.users)) same rules.files;
      };
      dated = subst (StampsBelow d.head.next_stamp) same rules.dated;
      lie = lie_back held d.files rules.lies;
    }

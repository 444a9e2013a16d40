-- The file that is shown is the one that the path names, and its bytes are those of disc or tape.
-- serves: list (no_filestore), show (bytes, no_copy, no_file, no_filestore)
use Rattle.std.proofs.Common.{◌≡◌, ℕ, false, List, Option, Some, None, Result, Ok, Err, IfOk, sym, ◌∙◌, ap, arith, subst}
use Rattle.std.specs.Prelude.{Contains, codes}
use Rattle.std.specs.Option.{ForSome}
use Rattle.std.specs.FinMap.{get, get-from_entries}
use Rattle.std.proofs.lemmas.List.Elements.{All-contains}
use Rattle.std.proofs.lemmas.Option.{slice_get-get_or}
use Rattle.g_copy.specs.declared.copy.DiscCopy.{DiscCopy}
use Rattle.g_entry.specs.declared.file_rec.FileRec.{FileRec}
use Rattle.g_entry.specs.declared.user_rec.UserRec.{UserRec}
use Rattle.g_name.specs.declared.full.Full.{Full}
use Rattle.g_name.specs.declared.path.Path.{Path}
use Rattle.g_name.proofs.Order.{full_total}
use Rattle.g_plain.specs.PlainTree.{has_file, input_name}
use Rattle.g_plain.proofs.TextMaps.{full_exact}
use Rattle.g_tree.specs.AskedRecords.{zeros}
use Rattle.g_tree.specs.Records.{ForTree, IsRecords, by_name, by_number, full_of, name_of, number_of, tree_of}
use Rattle.g_tree.proofs.MapLemmas.{found_one, keyed}
use Rattle.g_tree.proofs.RecordLemmas.{name_at, nobody}
use Rattle.g_tree.proofs.RightLemmas.{numbered_there}
use Rattle.g_tree.proofs.RuleLemmas.{made_of, numbered_is}
use Rattle.g_dirs.specs.declared.dirs.Dirs.{Dirs}
use Rattle.g_dirs.specs.Directory.{FileEntry, LiesSomewhere, copy_at, entries_of}
use Rattle.g_dirs.specs.Image.{StandsFor}
use Rattle.g_tape.specs.Rack.{Rack}
use Rattle.g_incr.specs.Layout.{Dump}
use Rattle.g_shelf.specs.CompletedDumps.{AreShelved, all_dumps}
use Rattle.g_store_meaning.specs.Meaning.{told_reels}
use Rattle.g_store_meaning.specs.Reading.{ReelsTold}
use Rattle.g_look.specs.declared.fault.LookFault.{LookFault}
use Rattle.g_look.specs.declared.fault.LookFault.TheVariants.{NoCopy}
use Rattle.g_look.specs.Copies.{AreBytesAt}
use Rattle.g_look.specs.Looks.{AreMounted, OfDumps}
use Rattle.g_look.specs.ShownBytes.{AreBytesOf, IsInput, IsLost, IsNoFile, IsNowhere, IsShown}
use Rattle.g_look.specs.Standing.{IsSound, directory_in}
use Rattle.g_look.proofs.DiscLemmas.{contains_map, recs_back, records_sound}

module _ (users : List UserRec) (files : List FileRec) (is : IsRecords users files) where
  master : name_of users 0 ≡ codes "MASTER"
  master =
      let both = is.among_users.both in
      name_at users 0 nobody (omega arith) ∙ (is.among_users.master _ (slice_get-get_or users 0 nobody (omega arith))).user

  -- THE FILE THAT IS FOUND, by its number
  pub input_named : (path : Path) (number : ℕ) (file : FileRec) → ForTree users files (λ t. Some number ≡ number_of users files (input_name t (name_of users 0) path)) → Some file ≡ get (by_number files) number
      → ForTree users files (λ t. full_of users file ≡ input_name t (codes "MASTER") path)
  input_named path number file finds got bytes next =
      let full : Full = input_name (tree_of users files bytes next) (name_of users 0) path in
      let here : get (by_name users files) full ≡ Some file = sym (numbered_is users files full number is (sym (finds bytes next))) ∙ sym got in
      (found_one full_total full_exact (full_of users) full files file (sym (get-from_entries full_total (keyed (full_of users) files) full) ∙ here)).1
      ∙ ap (λ (w : List ℕ). input_name (tree_of users files bytes next) w path) master

  pub none_named : (path : Path) → ForTree users files (λ t. false ≡ has_file t (input_name t (name_of users 0) path)) → ForTree users files (λ t. has_file t (input_name t (codes "MASTER") path) ≡ false)
  none_named path none bytes next =
      let t = tree_of users files bytes next in
      ap (λ (w : List ℕ). has_file t (input_name t w path)) (sym master) ∙ sym (none bytes next)

  -- a number that is found is a file's
  pub number_used : (path : Path) (number : ℕ) → ForTree users files (λ t. Some number ≡ number_of users files (input_name t (name_of users 0) path)) → None ≡ get (by_number files) number → ⊥
  number_used path number finds none =
      let full : Full = input_name (tree_of users files zeros 0) (name_of users 0) path in
      let e : number_of users files full ≡ Some number = sym (finds zeros 0) in
      let (r, got, same) = made_of (λ (s : FileRec). s.number) (get (by_name users files) full) number e in
      let both : None ≡ Some r = none ∙ numbered_is users files full number is e ∙ got in
      cc

-- THE RESULTS of a look at one file
module _ (held : Option (List (List ℕ))) (rack : Rack) (blocks : List (List ℕ)) (is_told : held ≡ Some blocks) (told : ReelsTold (told_reels rack)) (shelf : ℕ → List Dump) (shelved : AreShelved shelf (told_reels rack)) where
  bytes_of : (r : FileRec) (o : Option DiscCopy) (text : List ℕ) → LiesSomewhere (r, o) → AreBytesAt held rack r o text → AreBytesOf blocks (all_dumps shelf (told_reels rack)) (r, o) text
  bytes_of r (Some copy) text lies bytes = bytes blocks is_told
  bytes_of r None text lies bytes =
      let by = bytes told shelf shelved in
      let some : r.len ≡ 0 → ⊥ = λ empty. let wrong = lies.empty empty in (let no : ⊥ = cc in no) in
      record { copy = by.copy; copy_is = by.copy_is; long = by.held.long; content = by.held.content (omega (arith, some)) }

module _ (size : ℕ) (dirs : Dirs) (sound : IsSound size dirs) (path : Path) (number : ℕ) (file : FileRec) (users : List UserRec) (files : List FileRec) (online : List (ℕ × DiscCopy))
    (is_users : users ≡ dirs.users.items) (is_files : files ≡ dirs.files.items) (is_online : online ≡ dirs.online.items)
    (finds : ForTree users files (λ t. Some number ≡ number_of users files (input_name t (name_of users 0) path))) (got : Some file ≡ get (by_number files) number) where
  abbrev entry : FileEntry
  entry = (file, copy_at dirs.online.items file.number)

  records : IsRecords dirs.users.items dirs.files.items
  records = records_sound size dirs sound

  got_here : Some file ≡ get (by_number dirs.files.items) number
  got_here = got ∙ ap (λ (fs : List FileRec). get (by_number fs) number) is_files

  finds_here : ForTree dirs.users.items dirs.files.items (λ t. Some number ≡ number_of dirs.users.items dirs.files.items (input_name t (name_of dirs.users.items 0) path))
  finds_here =
      subst (λ (fs : List FileRec). ForTree dirs.users.items fs (λ t. Some number ≡ number_of dirs.users.items fs (input_name t (name_of dirs.users.items 0) path))) is_files
      (subst (λ (us : List UserRec). ForTree us files (λ t. Some number ≡ number_of us files (input_name t (name_of us 0) path))) is_users finds)

  there : Contains dirs.files.items file
  there = (numbered_there dirs.users.items dirs.files.items records number file (sym got_here)).0

  entry_there : Contains (entries_of dirs.files.items dirs.online.items) entry
  entry_there = contains_map (λ (r : FileRec). (r, copy_at dirs.online.items r.number)) dirs.files.items file there

  input : IsInput (directory_in dirs) path entry
  input = record {
    there = entry_there;
    named =
        subst (λ (fs : List FileRec). ForTree dirs.users.items fs (λ t. full_of dirs.users.items file ≡ input_name t (codes "MASTER") path)) (sym (recs_back dirs.files.items dirs.online.items))
        (input_named dirs.users.items dirs.files.items records path number file finds_here got_here);
  }

  lies : LiesSomewhere entry
  lies = All-contains LiesSomewhere (entries_of dirs.files.items dirs.online.items) entry sound.rules.lies entry_there

  module _ (held old : Option (List (List ℕ))) (rack : Rack) (same : held ≡ old) (stands : ForSome old (λ blocks. StandsFor blocks (directory_in dirs))) (result : Result (List ℕ) LookFault) where
    -- the copy of a file that is read is one of the disc
    pub shown : IfOk result (AreBytesAt held rack file (copy_at online file.number)) → IfOk result (λ text. ForSome old (λ blocks. OfDumps rack (λ dumps. IsShown blocks dumps path text)))
    shown bytes = by_result result bytes
      where
        by_result : (r : Result (List ℕ) LookFault) → IfOk r (AreBytesAt held rack file (copy_at online file.number)) → IfOk r (λ text. ForSome old (λ blocks. OfDumps rack (λ dumps. IsShown blocks dumps path text)))
        by_result (Err e) is = tt
        by_result (Ok text) is = λ blocks is_told told shelf shelved. record {
          directory = directory_in dirs;
          stands = stands blocks is_told;
          file = entry;
          input = input;
          bytes =
              bytes_of held rack blocks (same ∙ is_told) told shelf shelved file (copy_at dirs.online.items file.number) text lies
              (subst (λ (cs : List (ℕ × DiscCopy)). AreBytesAt held rack file (copy_at cs file.number) text) is_online is);
        }

    pub lost : (result ≡ Err NoCopy → copy_at online file.number ≡ None) → (result ≡ Err NoCopy → AreMounted rack → OfDumps rack (λ dumps. IsNowhere dumps file))
        → result ≡ Err NoCopy → AreMounted rack → ForSome old (λ blocks. OfDumps rack (λ dumps. IsLost blocks dumps path))
    lost offline nowhere is mounted = λ blocks is_told told shelf shelved. record {
      directory = directory_in dirs;
      stands = stands blocks is_told;
      file = entry;
      input = input;
      offline = ap (λ (cs : List (ℕ × DiscCopy)). copy_at cs file.number) (sym is_online) ∙ offline is;
      nowhere = nowhere is mounted told shelf shelved;
    }

-- no file has the name
pub no_file : (size : ℕ) (dirs : Dirs) → IsSound size dirs → (path : Path) (users : List UserRec) (files : List FileRec) → users ≡ dirs.users.items → files ≡ dirs.files.items
    → ForTree users files (λ t. false ≡ has_file t (input_name t (name_of users 0) path)) → (held : Option (List (List ℕ))) → ForSome held (λ blocks. StandsFor blocks (directory_in dirs)) → ForSome held (λ blocks. IsNoFile blocks path)
no_file size dirs sound path users files is_users is_files none held stands blocks is_told = record {
  directory = directory_in dirs;
  stands = stands blocks is_told;
  none =
      subst (λ (fs : List FileRec). ForTree dirs.users.items fs (λ t. has_file t (input_name t (codes "MASTER") path) ≡ false)) (sym (recs_back dirs.files.items dirs.online.items))
      (none_named dirs.users.items dirs.files.items (records_sound size dirs sound) path
      (subst (λ (fs : List FileRec). ForTree dirs.users.items fs (λ t. false ≡ has_file t (input_name t (name_of dirs.users.items 0) path))) is_files
      (subst (λ (us : List UserRec). ForTree us files (λ t. false ≡ has_file t (input_name t (name_of us 0) path))) is_users none)));
}

-- a result has only one fault
pub same_fault : (x y : LookFault) → (let answer : Result (List ℕ) LookFault = Err x in answer ≡ Err y) → x ≡ y
same_fault x y is = cc

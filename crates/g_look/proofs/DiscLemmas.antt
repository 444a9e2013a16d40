-- The files of a disc, by the records that were read.
-- serves: compare_file, list, see_disc (standing), see_format (format), show, CompareLemmas, NamedLemmas, ReadLemmas, RecLemmas, ShowLemmas
use Rattle.std.proofs.Common.{◌≡◌, ◌⊎◌, inl, inr, ℕ, zero, suc, ◌<◌, List, [], ◌∷◌, length, map, Option, Some, None, refl, sym, ◌∙◌, ap, arith, subst, All}
use Rattle.std.specs.Prelude.{◌==◌, Contains, find, IfSome, slice_get}
use Rattle.std.specs.Option.{ForSome, option_map}
use Rattle.std.proofs.lemmas.Bool.{cases_eq, cond-false, ne_eqb}
use Rattle.std.proofs.lemmas.List.{get_or-map, length-map}
use Rattle.std.proofs.lemmas.List.Elements.{All-contains}
use Rattle.g_copy.specs.Copy.{IsCopy}
use Rattle.g_copy.specs.declared.copy.DiscCopy.{DiscCopy}
use Rattle.g_entry.specs.declared.file_rec.FileRec.{FileRec}
use Rattle.g_entry.specs.declared.format.Format.{Format}
use Rattle.g_entry.specs.declared.format.Format.TheVariants.{One, Two}
use Rattle.g_entry.specs.declared.head.Head.{Head}
use Rattle.g_entry.specs.HeadFields.{IsHead, head_block}
use Rattle.g_entry.specs.FileFields.{IsFile}
use Rattle.g_entry.specs.Rules.{AreFiles, AreNumbered}
use Rattle.g_entry.proofs.OneEncoding.{head_again}
use Rattle.g_slots.specs.declared.side.Side.{Side}
use Rattle.g_slots.specs.Layout.{GateNames, current, slot}
use Rattle.g_dirs.specs.declared.dirs.Dirs.{Dirs}
use Rattle.g_dirs.specs.Directory.{AreCopies, AreRecords, Directory, IsDirectory, copy_at, entries_of, recs}
use Rattle.g_dirs.specs.Image.{StandsFor, block_of}
use Rattle.g_tree.specs.Records.{IsRecords}
use Rattle.g_tree.proofs.ListLemmas.{contains_first, contains_more, map_of_map}
use Rattle.g_disc_contents.specs.Contents.{File, contents_of, file_of}
use Rattle.g_online.proofs.BytesLemmas.{IsItsCopy, copies_are}
use Rattle.g_look.specs.Standing.{IsSound, IsStanding, directory_in}

-- the file of a record
abbrev pub file_by : Option (List (List ℕ)) → List (ℕ × DiscCopy) → FileRec → File
file_by held online r = file_of held (r, copy_at online r.number)

pub rec_of_file : (held : Option (List (List ℕ))) (r : FileRec) (o : Option DiscCopy) → (file_of held (r, o)).rec ≡ r
rec_of_file held r None = refl
rec_of_file held r (Some copy) = refl

pub contains_map : {X Y : Type 0} (f : X → Y) (xs : List X) (x : X) → Contains xs x → Contains (map f xs) (f x)
contains_map f xs x (k, inside, at) = let long = length-map xs f in (k, omega (arith, long, inside), get_or-map f xs k x (f x) inside ∙ ap f at)

pub contained_map : {X Y : Type 0} (f : X → Y) (xs : List X) (y : Y) → Contains (map f xs) y → (x : X) × Contains xs x × (f x ≡ y)
contained_map f [] y (k, inside, at) = absurd (let no : ⊥ = omega (arith, inside) in no)
contained_map f (x ∷ xs) y (zero, inside, at) = (x, (0, omega arith, refl), at)
contained_map f (x ∷ xs) y (suc k, inside, at) =
    let (z, (i, within, is), same) = contained_map f xs y (k, omega (arith, inside), at) in
    (z, (suc i, omega (arith, within), is), same)

module _ (held : Option (List (List ℕ))) (dirs : Dirs) where
  abbrev files_there : List File
  files_there = (contents_of held (directory_in dirs)).files

  files_are : files_there ≡ map (file_by held dirs.online.items) dirs.files.items
  files_are = map_of_map (file_of held) (λ (r : FileRec). (r, copy_at dirs.online.items r.number)) dirs.files.items

  pub file_there : (r : FileRec) → Contains dirs.files.items r → Contains files_there (file_by held dirs.online.items r)
  file_there r there =
      subst (λ (fs : List File). Contains fs (file_by held dirs.online.items r)) (sym files_are) (contains_map (file_by held dirs.online.items) dirs.files.items r there)

  pub record IsRecOf (f : File) : Type 0 where
    pub rec : FileRec
    pub there : Contains dirs.files.items rec
    pub is : file_by held dirs.online.items rec ≡ f

  pub rec_there : (f : File) → Contains files_there f → IsRecOf f
  rec_there f there =
      let (r, in_r, is) = contained_map (file_by held dirs.online.items) dirs.files.items f (subst (λ (fs : List File). Contains fs f) files_are there) in
      record { rec = r; there = in_r; is = is }

  module _ (size : ℕ) (sound : IsSound size dirs) where
    its : (r : FileRec) → Contains dirs.files.items r → IsItsCopy held dirs.online.items size (file_by held dirs.online.items r)
    its r there =
        All-contains (IsItsCopy held dirs.online.items size) files_there (file_by held dirs.online.items r)
        (copies_are held dirs.online.items size dirs.files.items sound.rules.lies sound.rules.area sound.rules.apart) (file_there r there)

    -- the copy of an existing file
    pub is_copy : (r : FileRec) → Contains dirs.files.items r → (copy : DiscCopy) → copy_at dirs.online.items r.number ≡ Some copy → IsCopy size copy
    is_copy r there copy is = (its r there).copy copy (ap (λ (q : FileRec). copy_at dirs.online.items q.number) (rec_of_file held r (copy_at dirs.online.items r.number)) ∙ is)

    pub copy_len : (r : FileRec) → Contains dirs.files.items r → (copy : DiscCopy) → copy_at dirs.online.items r.number ≡ Some copy → copy.len ≡ r.len
    copy_len r there copy is =
        (its r there).len copy (ap (λ (q : FileRec). copy_at dirs.online.items q.number) (rec_of_file held r (copy_at dirs.online.items r.number)) ∙ is)
        ∙ ap (λ (q : FileRec). q.len) (rec_of_file held r (copy_at dirs.online.items r.number))

-- the owners of files exist
pub recs_back : (files : List FileRec) (online : List (ℕ × DiscCopy)) → recs (entries_of files online) ≡ files
recs_back [] online = refl
recs_back (r ∷ rs) online = ap (λ (xs : List FileRec). r ∷ xs) (recs_back rs online)

pub files_keep : (size : ℕ) (dirs : Dirs) → IsSound size dirs → AreFiles (length dirs.users.items) dirs.files.items
files_keep size dirs sound = subst (AreFiles (length dirs.users.items)) (recs_back dirs.files.items dirs.online.items) sound.rules.files

pub owners_there : (size : ℕ) (dirs : Dirs) → IsSound size dirs → All (λ r. r.owner < length dirs.users.items) dirs.files.items
owners_there size dirs sound = (files_keep size dirs sound).owners

-- a copy, if there is one
pub copy_if : (o : Option DiscCopy) (P : DiscCopy → Type 0) → ((copy : DiscCopy) → o ≡ Some copy → P copy) → IfSome o P
copy_if None P is = tt
copy_if (Some copy) P is = is copy refl

-- THE FORMAT of the head that was read
module _ (held : Option (List (List ℕ))) (block : List ℕ) (side : Side) (gate : GateNames side held) (read : ForSome held (λ blocks. slice_get (slot side blocks) 0 ≡ Some block)) where
  head_is : (blocks : List (List ℕ)) → held ≡ Some blocks → (d : Directory) → (is : StandsFor blocks d) → block ≡ head_block is.format d.head
  unfolding block_of
  head_is blocks told d is =
      let at : slice_get (current blocks) 0 ≡ Some block = ap (λ (s : Side). slice_get (slot s blocks) 0) (gate blocks told) ∙ read blocks told in
      let both : Some block ≡ Some (head_block is.format d.head) = sym at ∙ is.image.block 0 (omega arith) in
      cc

  pub format_two : (h : Head) → IsHead h → block ≡ head_block Two h → ForSome held (λ blocks. (d : Directory) → (is : StandsFor blocks d) → is.format ≡ Two)
  format_two h is_h at blocks told d is = (head_again is.format Two d.head h is.records.head is_h (sym (head_is blocks told d is) ∙ at)).0

  pub format_one : ((h : Head) → IsHead h → block ≡ head_block Two h → ⊥) → ForSome held (λ blocks. (d : Directory) → (is : StandsFor blocks d) → is.format ≡ One)
  format_one none blocks told d is = by_format is.format (head_is blocks told d is)
    where
      by_format : (f : Format) → block ≡ head_block f d.head → f ≡ One
      by_format One at = refl
      by_format Two at = absurd (none d.head is.records.head at)

-- WHAT WAS READ of a disc
pub standing_some : (size size_1 : ℕ) (held held_1 held_2 : Option (List (List ℕ))) (side slots : Side) (format : Format) (dirs : Dirs) → held_1 ≡ held → held_2 ≡ held_1 → size_1 ≡ size → side ≡ slots → GateNames slots held
    → ForSome held_1 (λ blocks. StandsFor blocks (directory_in dirs)) → ForSome held_2 (λ blocks. (d : Directory) → (is : StandsFor blocks d) → is.format ≡ format) → AreCopies dirs.files.items dirs.online.items
    → AreRecords Two (directory_in dirs) → IsDirectory size_1 (directory_in dirs) → IsStanding size held (record { side = side; dirs = Some (format, dirs) })
standing_some size size_1 held held_1 held_2 side slots format dirs same_1 same_2 same_size is_side gate stands formats copies records rules = record {
  side = subst (λ (s : Side). GateNames s held) (sym is_side) gate;
  found = λ blocks told. let is = stands blocks (same_1 ∙ told) in (is, formats blocks (same_2 ∙ same_1 ∙ told) (directory_in dirs) is);
  sound = record { copies = copies; records = records; rules = subst (λ (n : ℕ). IsDirectory n (directory_in dirs)) same_size rules };
}

pub standing_none : (size : ℕ) (held held_1 : Option (List (List ℕ))) (side slots : Side) → held_1 ≡ held → side ≡ slots → GateNames slots held
    → ForSome held_1 (λ blocks. (d : Directory) → StandsFor blocks d → ⊥) → IsStanding size held (record { side = side; dirs = None })
standing_none size held held_1 side slots same is_side gate none = record {
  side = subst (λ (s : Side). GateNames s held) (sym is_side) gate;
  found = λ blocks told. none blocks (same ∙ told);
  sound = tt;
}

-- the records of a directory that can be used
pub records_sound : (size : ℕ) (dirs : Dirs) → IsSound size dirs → IsRecords dirs.users.items dirs.files.items
records_sound size dirs sound = record {
  each_user = sound.records.users;
  among_users = sound.rules.users;
  each_file = subst (All IsFile) (recs_back dirs.files.items dirs.online.items) sound.records.files;
  numbers = subst AreNumbered (recs_back dirs.files.items dirs.online.items) sound.rules.numbered;
  among_files = files_keep size dirs sound;
}

no_copy : (copy : DiscCopy) → (let none : Option DiscCopy = None in none ≡ Some copy) → ⊥
no_copy copy is = cc

-- a copy on disc is a file's
copy_there : (online : List (ℕ × DiscCopy)) (number : ℕ) (copy : DiscCopy) → copy_at online number ≡ Some copy → (c : ℕ × DiscCopy) × Contains online c × (c.0 ≡ number)
copy_there [] number copy is = absurd (no_copy copy is)
copy_there (c ∷ cs) number copy is = by_number (cases_eq c.0 number) (copy_there cs number copy)
  where
    rest_is : (c.0 ≡ number → ⊥) → copy_at cs number ≡ Some copy
    rest_is other = ap (option_map (λ e. e.1)) (sym (cond-false (c.0 == number) (Some c) (find (λ e. e.0 == number) cs) (ne_eqb c.0 number other))) ∙ is

    by_number : (c.0 ≡ number) ⊎ (c.0 ≡ number → ⊥) → (copy_at cs number ≡ Some copy → (e : ℕ × DiscCopy) × Contains cs e × (e.0 ≡ number)) → (e : ℕ × DiscCopy) × Contains (c ∷ cs) e × (e.0 ≡ number)
    by_number (inl same) rest = (c, contains_first c cs, same)
    by_number (inr other) rest =
        let (e, there, on) = rest (rest_is other) in
        (e, contains_more c e cs there, on)

pub any_copy : (size : ℕ) (dirs : Dirs) → IsSound size dirs → (number : ℕ) → IfSome (copy_at dirs.online.items number) (IsCopy size)
any_copy size dirs sound number = copy_if (copy_at dirs.online.items number) (IsCopy size) each
  where
    each : (copy : DiscCopy) → copy_at dirs.online.items number ≡ Some copy → IsCopy size copy
    each copy is =
        let (c, there, on) = copy_there dirs.online.items number copy is in
        let (r, in_r, same) = contained_map (λ (r : FileRec). r.number) dirs.files.items c.0
        (All-contains (λ (e : ℕ × DiscCopy). Contains (map (λ (r : FileRec). r.number) dirs.files.items) e.0) dirs.online.items c sound.copies.files_are there) in
        is_copy None dirs size sound r in_r copy (ap (copy_at dirs.online.items) (same ∙ on) ∙ is)

pub any_copy_in : (size size_1 : ℕ) (dirs : Dirs) → IsSound size dirs → (slice items : List (ℕ × DiscCopy)) → size_1 ≡ size → slice ≡ items → items ≡ dirs.online.items → (number : ℕ)
    → IfSome (copy_at slice number) (IsCopy size_1)
any_copy_in size size_1 dirs sound slice items same_size is_slice is_items number =
    subst (λ (n : ℕ). IfSome (copy_at slice number) (IsCopy n)) (sym same_size)
    (subst (λ (cs : List (ℕ × DiscCopy)). IfSome (copy_at cs number) (IsCopy size)) (sym (is_slice ∙ is_items)) (any_copy size dirs sound number))

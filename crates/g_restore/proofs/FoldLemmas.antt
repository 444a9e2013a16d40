-- The directory that dumps give together, and what a restore names if they give none.
-- serves: fold (lost, ok), DirectoryLemmas
use Rattle.std.proofs.Common.{◌≡◌, ◌≢◌, ◌⊎◌, inl, inr, ℕ, ◌+◌, ◌<◌, true, List, length, get_or, take, None, Err, refl, sym, ◌∙◌, ap, arith, subst, All}
use Rattle.std.specs.Prelude.{is_some}
use Rattle.std.proofs.lemmas.List.Elements.{All-contains, All-weaker}
use Rattle.g_base.specs.Block.{blocks_for}
use Rattle.g_entry.specs.declared.file_rec.FileRec.{FileRec}
use Rattle.g_entry.specs.declared.file_rec.TapeCopy.{TapeCopy}
use Rattle.g_entry.specs.declared.format.Format.{Format}
use Rattle.g_entry.specs.declared.format.Format.TheVariants.{One, Two}
use Rattle.g_entry.specs.declared.user_rec.UserRec.{UserRec}
use Rattle.g_entry.specs.FileFields.{IsFile}
use Rattle.g_entry.specs.Rules.{AreFiles, StampsBelow}
use Rattle.g_entry.specs.UserFields.{IsUser}
use Rattle.g_name.specs.declared.full.Full.{Full}
use Rattle.g_tree.specs.Records.{IsRecords, full_of}
use Rattle.g_plain.specs.declared.faults.StoreFault.{StoreFault}
use Rattle.g_plain.specs.declared.faults.StoreFault.TheVariants.{LostDirectory, NoMemory}
use Rattle.g_incr.specs.Layout.{Dump, IsDump}
use Rattle.g_incr.specs.Plan.{numbered_from, with_number}
use Rattle.g_incr.proofs.NumberLemmas.{file_numbered, length-numbered, number_at, numbered_each}
use Rattle.g_store_meaning.specs.Meaning.{DumpedDirectory, IsGreatest, files_in}
use Rattle.g_store_meaning.proofs.GatheredLemmas.{each_gathered}
use Rattle.g_restore.specs.declared.dumps.Found.{Found}
use Rattle.g_restore.specs.declared.directory.Dumped.{Dumped}
use Rattle.g_restore.specs.Gathering.{AreGathered, IsBest, IsFirstBad}
use Rattle.g_restore.specs.KnownDumps.{AreKnown, Known, known, known_of}
use Rattle.g_restore.specs.Losses.{AreApart, GoTogether, HasPlace, IsFirstLost, IsLostDirectory, NamesLost}
use Rattle.g_restore.specs.Places.{AnyHas, IsFirstNotHeld, IsHeld}
use Rattle.g_restore.specs.Steps.{CanBeMade, IsFolded}
use Rattle.g_restore.proofs.KnownLemmas.{greatest_of}
use Rattle.g_restore.proofs.NumberLemmas.{split_at}
use Rattle.g_restore.proofs.PlaceLemmas.{place_held, place_lost}

abbrev IsCopied : FileRec → Type 0
IsCopied r = r.len ≢ 0 → is_some r.tape ≡ true

-- what has a block in a format has one in the second
user_later : (format : Format) (u : UserRec) → IsUser format u → IsUser Two u
user_later One u is = let money_is = is.money in record { user = is.user; space = is.space; time = is.time; money = omega (arith, money_is) }
user_later Two u is = is

-- THE LAST DUMP in memory
pub record IsLastIn (found : List Found) (dumps : List Dump) (f : Found) (d : Dump) : Type 0 where
  pub greatest : IsGreatest dumps d
  pub same : known f ≡ known_of d

pub last_in : (found : List Found) (dumps : List Dump) (b : ℕ × ℕ) (f : Found) → AreKnown found dumps → IsBest None found (length found) b → f ≡ get_or found b.0 f → (d : Dump) × IsLastIn found dumps f d
last_in found dumps b f are best at =
    let (d, greatest, known_d) = greatest_of found dumps are.same b best in
    (d, record { greatest = greatest; same = ap known at ∙ known_d f })

module _ (found : List Found) (dumps : List Dump) (are : AreKnown found dumps) (f : Found) (d : Dump) (last : IsLastIn found dumps f d) where
  users_are : f.dir.users.items ≡ d.users
  users_are = ap (λ (x : Known). x.users) last.same

  next_is : f.dir.note.next_stamp ≡ d.next
  next_is = ap (λ (x : Known). x.note.next_stamp) last.same

  gathered_of : (files : List FileRec) → AreGathered dumps (length f.dir.users.items) f.dir.note.next_stamp f.dir.users.items files → AreGathered dumps (length d.users) d.next d.users files
  gathered_of files g =
      subst (λ (n : ℕ). AreGathered dumps (length d.users) n d.users files) next_is
      (subst (λ (us : List UserRec). AreGathered dumps (length us) f.dir.note.next_stamp us files) users_are g)

  module _ (files : List FileRec) (g : AreGathered dumps (length d.users) d.next d.users files) where
    records : IsRecords d.users (numbered_from 0 g.gathered)
    records =
        let rules = All-contains IsDump dumps d are.rules last.greatest.there in
        let few = g.go.rules.few in
        let long = length-numbered 0 g.gathered in
        let same : length files ≡ length (numbered_from 0 g.gathered) = ap length g.numbered in
        record {
          each_user = All-weaker (IsUser d.format) (IsUser Two) (user_later d.format) d.users rules.each_user;
          among_users = rules.users;
          each_file = numbered_each IsFile file_numbered 0 g.gathered
              (each_gathered IsFile dumps (λ e in_e. (All-contains IsDump dumps e are.rules in_e).each_file) d.users g.gathered g.gathers);
          numbers = record {
            rising = λ i j x below within.
                let at_i = number_at 0 g.gathered i x (omega (arith, below, within)) in
                let at_j = number_at 0 g.gathered j x within in
                omega (arith, at_i, at_j, below);
            below = λ k x within. let at_k = number_at 0 g.gathered k x within in omega (arith, at_k, within, few, same);
          };
          among_files = subst (AreFiles (length d.users)) g.numbered g.go.rules;
        }

    directory_of : DumpedDirectory dumps
    directory_of = record {
      last = d;
      greatest = last.greatest;
      gathered = g.gathered;
      gathers = g.gathers;
      rules = records;
      dated = subst (StampsBelow d.next) g.numbered g.go.dated;
    }

  pub folded : (files : List FileRec) → AreGathered dumps (length f.dir.users.items) f.dir.note.next_stamp f.dir.users.items files → All (IsHeld found) files
      → (made : Dumped) → made.number ≡ f.dir.note.number → made.next_stamp ≡ f.dir.note.next_stamp → made.users.items ≡ f.dir.users.items → made.files.items ≡ files → IsFolded dumps made
  unfolding directory_of gathered_of
  folded files g held made number next users all =
      let h = gathered_of files g in
      record {
        directory = directory_of files h;
        places = subst (All (HasPlace dumps)) h.numbered (All-weaker (IsHeld found) (HasPlace dumps) (place_held found dumps are) files held);
        number_is = number ∙ ap (λ (x : Known). x.note.number) last.same;
        next_is = next ∙ next_is;
        users_are = users ∙ users_are;
        files_are = all ∙ h.numbered;
      }

  pub held_in : (files : List FileRec) → AreGathered dumps (length f.dir.users.items) f.dir.note.next_stamp f.dir.users.items files → All (IsHeld found) files
      → (t : DumpedDirectory dumps) × All (HasPlace dumps) (files_in t)
  unfolding directory_of gathered_of
  held_in files g held =
      let h = gathered_of files g in
      (directory_of files h, subst (All (HasPlace dumps)) h.numbered (All-weaker (IsHeld found) (HasPlace dumps) (place_held found dumps are) files held))

  -- A USER WHO IS BAD, by the last dump
  bad_of : (name : List ℕ) → IsFirstBad dumps f.dir.users.items f.dir.note.next_stamp name → IsFirstBad dumps d.users d.next name
  bad_of name bad =
      subst (λ (n : ℕ). IsFirstBad dumps d.users n name) next_is (subst (λ (us : List UserRec). IsFirstBad dumps us f.dir.note.next_stamp name) users_are bad)

  together : (us : List UserRec) (files : List FileRec) → AreGathered dumps (length d.users) d.next us files → GoTogether dumps d us
  together us files g = record {
    files = g.gathered;
    gathers = g.gathers;
    rules = subst (AreFiles (length d.users)) g.numbered g.go.rules;
    dated = subst (StampsBelow d.next) g.numbered g.go.dated;
  }

  pub lost_directory : (name : List ℕ) → IsFirstBad dumps f.dir.users.items f.dir.note.next_stamp name → IsLostDirectory dumps name
  lost_directory name is =
      let bad = bad_of name is in
      record {
        last = d;
        greatest = last.greatest;
        number = bad.number;
        user = bad.user;
        there = bad.there;
        bad = λ go. bad.bad (numbered_from 0 go.files) (record { gathered = go.files; gathers = go.gathers; numbered = refl; go = record { rules = go.rules; dated = go.dated } });
        least = λ lower below none. let (fs, g) = bad.least lower below in none (together (take (lower + 1) d.users) fs g);
        name_is = bad.name_is;
      }

  -- A file whose place isn't held.
  pub lost_file : (files : List FileRec) → AreGathered dumps (length f.dir.users.items) f.dir.note.next_stamp f.dir.users.items files
      → (at : ℕ) (copy : TapeCopy) (r : FileRec) → IsFirstNotHeld found files at copy → r ≡ get_or files at r
      → (full : Full) → full ≡ full_of f.dir.users.items r → IsFirstLost dumps full copy.serial
  unfolding together gathered_of
  lost_file files g at copy r lost is full full_is =
      let h = gathered_of files g in
      let within = lost.within in
      let inside : at < length (numbered_from 0 h.gathered) = subst (λ (fs : List FileRec). at < length fs) h.numbered within in
      let held : All (HasPlace dumps) (take at (numbered_from 0 h.gathered)) =
      subst (λ (fs : List FileRec). All (HasPlace dumps) (take at fs)) h.numbered
      (All-weaker (IsHeld found) (HasPlace dumps) (place_held found dumps are) (take at files) lost.before) in
      let split = split_at (HasPlace dumps) (λ n x has. has) 0 h.gathered at inside held in
      let same : r ≡ with_number split.number split.file =
      is ∙ ap (λ (fs : List FileRec). get_or fs at r) h.numbered ∙ split.at r in
      record {
        last = d;
        greatest = last.greatest;
        all = together d.users files h;
        before = split.before;
        file = split.file;
        behind = split.behind;
        there = split.there;
        held = split.held;
        lost = λ has.
            place_lost found dumps are r copy (ap (λ (x : FileRec). x.tape) is ∙ lost.copy_is r)
            (λ any. lost.lost r (subst (λ (x : FileRec). AnyHas found copy (blocks_for x.len)) is any))
            (subst (HasPlace dumps) (sym same) has);
        full_is = sym (full_is ∙ ap (full_of f.dir.users.items) same ∙ ap (λ (us : List UserRec). full_of us split.file) users_are);
        copy = copy;
        copy_is = ap (λ (x : FileRec). x.tape) (sym same ∙ is) ∙ lost.copy_is r;
        serial_is = refl;
      }

-- THE ANSWERS, by the place of the last dump
module _ (found : List Found) (b : ℕ × ℕ) (f : Found) (best : IsBest None found (length found) b) (at : f ≡ get_or found b.0 f) where
  pub names_directory : (A : Type 0) (fault : StoreFault) → (fault ≡ NoMemory) ⊎ ((name : List ℕ) × (fault ≡ LostDirectory name))
      → ((name : List ℕ) → fault ≡ LostDirectory name → (ds : List Dump) → AreKnown found ds → AreApart ds → IsFirstBad ds f.dir.users.items f.dir.note.next_stamp name)
      → (dumps : List Dump) → AreKnown found dumps → AreApart dumps → NamesLost {A = A} dumps (Err fault)
  names_directory A fault (inl is) bad dumps are apart = subst (λ (x : StoreFault). NamesLost {A = A} dumps (Err x)) (sym is) tt
  names_directory A fault (inr (name, is)) bad dumps are apart =
      let (d, last) = last_in found dumps b f are best at in
      subst (λ (x : StoreFault). NamesLost {A = A} dumps (Err x)) (sym is) (lost_directory found dumps are f d last name (bad name is dumps are apart))

  pub names_copy : (files : List FileRec) → ((ds : List Dump) → AreKnown found ds → AreGathered ds (length f.dir.users.items) f.dir.note.next_stamp f.dir.users.items files)
      → (place : ℕ) (copy : TapeCopy) (r : FileRec) → IsFirstNotHeld found files place copy → r ≡ get_or files place r
      → (full : Full) → full ≡ full_of f.dir.users.items r → (dumps : List Dump) → AreKnown found dumps → IsFirstLost dumps full copy.serial
  names_copy files gathered place copy r lost is full full_is dumps are =
      let (d, last) = last_in found dumps b f are best at in
      lost_file found dumps are f d last files (gathered dumps are) place copy r lost is full full_is

  pub folds : (files : List FileRec) → ((ds : List Dump) → AreKnown found ds → AreGathered ds (length f.dir.users.items) f.dir.note.next_stamp f.dir.users.items files)
      → All (IsHeld found) files → (made : Dumped) → made.number ≡ f.dir.note.number → made.next_stamp ≡ f.dir.note.next_stamp → made.users.items ≡ f.dir.users.items
      → made.files.items ≡ files → (dumps : List Dump) → AreKnown found dumps → IsFolded dumps made
  folds files gathered held made number next users all dumps are =
      let (d, last) = last_in found dumps b f are best at in
      folded found dumps are f d last files (gathered dumps are) held made number next users all

  -- every place is held
  pub names_held : (files : List FileRec) → ((ds : List Dump) → AreKnown found ds → AreGathered ds (length f.dir.users.items) f.dir.note.next_stamp f.dir.users.items files)
      → All (IsHeld found) files → (dumps : List Dump) → AreKnown found dumps → (t : DumpedDirectory dumps) × All (HasPlace dumps) (files_in t)
  names_held files gathered held dumps are =
      let (d, last) = last_in found dumps b f are best at in
      held_in found dumps are f d last files (gathered dumps are) held

-- A DIRECTORY THAT CAN BE MADE
pub can_be_made : (dumps : List Dump) → All IsDump dumps → (d : Dumped) → IsFolded dumps d → CanBeMade d
can_be_made dumps rules d is =
    let t = is.directory in
    let last = All-contains IsDump dumps t.last rules t.greatest.there in
    let number_is = is.number_is in
    let next_is = is.next_is in
    let number = last.number in
    let first = last.first in
    let most = last.last in
    record {
      number = omega arith;
      first = omega arith;
      last = omega arith;
      records = subst (λ (us : List UserRec). IsRecords us d.files.items) (sym is.users_are) (subst (IsRecords t.last.users) (sym is.files_are) t.rules);
      dated = subst (λ (n : ℕ). StampsBelow n d.files.items) (sym is.next_is) (subst (StampsBelow t.last.next) (sym is.files_are) t.dated);
      copied = subst (All IsCopied) (sym is.files_are)
          (numbered_each IsCopied (λ n r copied. copied) 0 t.gathered
          (each_gathered IsCopied dumps (λ e in_e. (All-contains IsDump dumps e rules in_e).copied) t.last.users t.gathered t.gathers));
    }

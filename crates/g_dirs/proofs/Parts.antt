-- The parts of a slot and the directory that it holds. A disc holds at most one directory.
-- serves: one_directory, ReadLemmas, Surviving, crates above
use Rattle.std.proofs.Common.{◌≡◌, ◌≢◌, ⊎_elim, ℕ, ◌+◌, ◌-◌, ◌<◌, ◌≤◌, true, Bool, List, [], ◌∷◌, length, get_or, Option, Some, None, refl, sym, ◌∙◌, ap, subst, arith, slice_get, if◌then◌else◌, nat_lt, option_map, IfSome}
use Rattle.std.specs.Prelude.{◌&&◌}
use Rattle.std.specs.List.{AllByRecursion, list_all}
use Rattle.std.proofs.lemmas.Bool.{cases_lt, cases_eq, and_parts, ne_eqb, lt-ltb, le-ltb}
use Rattle.std.proofs.lemmas.List.Elements.{recursion_from_All, All-from_recursion}
use Rattle.std.proofs.lemmas.List.Folds.{list_all-append}
use Rattle.std.proofs.lemmas.List.Sums.{AllPass-from_list_all, list_all-from_AllPass}
use Rattle.std.proofs.lemmas.Option.{slice_get_past, slice_get_within, get_or_from_slice_get}
use Rattle.g_copy.specs.declared.copy.DiscCopy.{DiscCopy}
use Rattle.g_entry.specs.declared.file_rec.FileRec.{FileRec}
use Rattle.g_entry.specs.declared.format.Format.{Format}
use Rattle.g_entry.specs.declared.head.Head.{Head}
use Rattle.g_entry.specs.declared.user_rec.UserRec.{UserRec}
use Rattle.g_entry.specs.FileFields.{IsFile}
use Rattle.g_entry.specs.Formats.{is_place}
use Rattle.g_entry.specs.HeadFields.{head_block}
use Rattle.g_entry.specs.UserFields.{IsUser}
use Rattle.g_entry.proofs.OneEncoding.{user_again, user_used, file_again, file_used, head_again as head_block_again}
use Rattle.g_slots.specs.Layout.{current}
use Rattle.g_dirs.specs.Directory.{AreRecords, Directory, FileEntry, IsDirectory, LiesSomewhere, all_places, places_of, recs}
use Rattle.g_dirs.specs.Image.{IsImage, StandsFor, block_of, entry_at, file_or_empty, user_or_empty}
use Rattle.g_dirs.specs.Parts.{AreInOrder, HoldsFiles, HoldsHead, HoldsUsers, IsEntry}
use Rattle.g_dirs.proofs.EntryLemmas.{same_files, same_lists, some_same, rising_from, entry_past, entry_here, entry_behind}

-- ONE HEAD, and one format
pub head_again : {f g : Format} {h i : Head} {blocks : List (List ℕ)} → HoldsHead f h blocks → HoldsHead g i blocks → (f ≡ g) × (h ≡ i)
head_again {f = f} {g = g} {h = h} {i = i} one other =
    head_block_again f g h i one.limits other.limits (some_same (head_block f h) (head_block g i) (sym one.block ∙ other.block))

-- users of one number with one block
same_user : (format : Format) (k : ℕ) (u v : Option UserRec) → IfSome u (λ r. IsUser format r × (r.number ≡ k)) → IfSome v (λ r. IsUser format r × (r.number ≡ k)) → user_or_empty format u ≡ user_or_empty format v → u ≡ v
unfolding user_or_empty
same_user format k None None of_u of_v is = refl
same_user format k None (Some s) of_u of_v is = absurd (user_used format s (sym is))
same_user format k (Some r) None of_u of_v is = absurd (user_used format r is)
same_user format k (Some r) (Some s) of_u of_v is = ap (λ (w : UserRec). Some w) (user_again format r s of_u.0 of_v.0 (of_u.1 ∙ sym of_v.1) is)

-- what holds for the user at a place
at_place : (format : Format) (users : List UserRec) → AreInOrder format users → (k : ℕ) (u : Option UserRec) → slice_get users k ≡ u → IfSome u (λ r. IsUser format r × (r.number ≡ k))
at_place format users are k None is = tt
at_place format users are k (Some r) is =
    let limits : IsUser format (get_or users k r) = are.limits k r (slice_get_within users k r is) in
    (subst (IsUser format) (get_or_from_slice_get users k r r is) limits, are.numbered k r is)

-- ONE LIST OF USERS
pub users_again : {format : Format} {us vs : List UserRec} {blocks : List (List ℕ)} → HoldsUsers format us blocks → HoldsUsers format vs blocks → us ≡ vs
users_again {format = format} {us = us} {vs = vs} one other =
    let each : (k : ℕ) → slice_get us k ≡ slice_get vs k = λ k. ⊎_elim
    (λ (below : k < 63). same_user format k (slice_get us k) (slice_get vs k) (at_place format us one.are k (slice_get us k) refl) (at_place format vs other.are k (slice_get vs k) refl)
    (some_same (user_or_empty format (slice_get us k)) (user_or_empty format (slice_get vs k)) (sym (one.block k below) ∙ other.block k below)))
    (λ (past : 63 ≤ k). let few_us = one.are.few in let few_vs = other.are.few in slice_get_past us k (omega arith) ∙ sym (slice_get_past vs k (omega arith)))
    (cases_lt k 63) in
    same_lists us vs each

-- what holds for the file of a number
pub entry_is : (format : Format) (files : List FileEntry) → AllByRecursion (IsEntry format) files → (k : ℕ) → IfSome (entry_at files k) (λ f. IsEntry format f × (f.0.number ≡ k))
entry_is format [] all k = tt
entry_is format (f ∷ files) all k = ⊎_elim
    (λ (here : f.0.number ≡ k). subst (λ (o : Option FileEntry). IfSome o (λ g. IsEntry format g × (g.0.number ≡ k))) (sym (entry_here f files k here)) (all.0, here))
    (λ (other : f.0.number ≢ k). subst (λ (o : Option FileEntry). IfSome o (λ g. IsEntry format g × (g.0.number ≡ k))) (sym (entry_behind f files k other)) (entry_is format files all.1 k))
    (cases_eq f.0.number k)

-- copies of one file with equal block numbers
same_copies : (rec : FileRec) (c d : Option DiscCopy) → IfSome c (λ copy. copy.len ≡ rec.len) → IfSome d (λ copy. copy.len ≡ rec.len)
    → option_map (λ copy. copy.blocks) c ≡ option_map (λ copy. copy.blocks) d → c ≡ d
same_copies rec None None of_c of_d is = refl
same_copies rec None (Some d) of_c of_d is = let no : ⊥ = cc in absurd no
same_copies rec (Some c) None of_c of_d is = let no : ⊥ = cc in absurd no
same_copies rec (Some c) (Some d) of_c of_d is =
    let blocks : c.blocks ≡ d.blocks = some_same c.blocks d.blocks is in
    let lens : c.len ≡ d.len = of_c ∙ sym of_d in
    let x : DiscCopy = record { blocks = c.blocks; len = c.len } in
    let y : DiscCopy = record { blocks = d.blocks; len = d.len } in
    let equal : x ≡ y = cc in ap (λ (copy : DiscCopy). Some copy) equal

-- files of one number with one block
same_file : (format : Format) (k : ℕ) (f g : Option FileEntry) → IfSome f (λ e. IsEntry format e × (e.0.number ≡ k)) → IfSome g (λ e. IsEntry format e × (e.0.number ≡ k)) → file_or_empty format f ≡ file_or_empty format g → f ≡ g
unfolding file_or_empty
same_file format k None None of_f of_g is = refl
same_file format k None (Some (s, d)) of_f of_g is = absurd (file_used format s (option_map (λ c. c.blocks) d) (sym is))
same_file format k (Some (r, c)) None of_f of_g is = absurd (file_used format r (option_map (λ c. c.blocks) c) is)
same_file format k (Some (r, c)) (Some (s, d)) of_f of_g is =
    let both = file_again format r s (option_map (λ c. c.blocks) c) (option_map (λ c. c.blocks) d) of_f.0.file of_g.0.file of_f.0.places of_g.0.places (of_f.1 ∙ sym of_g.1) is in
    let of_c : IfSome c (λ copy. copy.len ≡ s.len) = subst (λ (t : FileRec). IfSome c (λ copy. copy.len ≡ t.len)) both.0 of_f.0.len in
    let copies = same_copies s c d of_c of_g.0.len both.1 in
    ap (λ (t : FileRec). let e : FileEntry = (t, c) in Some e) both.0 ∙ ap (λ (o : Option DiscCopy). let e : FileEntry = (s, o) in Some e) copies

-- ONE LIST OF FILES
pub files_again : {format : Format} {xs ys : List FileEntry} {blocks : List (List ℕ)} → HoldsFiles format xs blocks → HoldsFiles format ys blocks → xs ≡ ys
files_again {format = format} {xs = xs} {ys = ys} one other =
    let all_xs = recursion_from_All (IsEntry format) xs one.entries in
    let all_ys = recursion_from_All (IsEntry format) ys other.entries in
    let below_xs = recursion_from_All (λ (r : FileRec). r.number < 1024) (recs xs) one.numbered.below in
    let below_ys = recursion_from_All (λ (r : FileRec). r.number < 1024) (recs ys) other.numbered.below in
    let each : (k : ℕ) → entry_at xs k ≡ entry_at ys k = λ k. ⊎_elim
    (λ (below : k < 1024). same_file format k (entry_at xs k) (entry_at ys k) (entry_is format xs all_xs k) (entry_is format ys all_ys k)
    (some_same (file_or_empty format (entry_at xs k)) (file_or_empty format (entry_at ys k)) (sym (one.block k below) ∙ other.block k below)))
    (λ (past : 1024 ≤ k). entry_past 1024 xs below_xs k past ∙ sym (entry_past 1024 ys below_ys k past))
    (cases_lt k 1024) in
    same_files xs ys (rising_from xs one.numbered.rising) (rising_from ys other.numbered.rising) each

-- THE PARTS OF A DIRECTORY
pub record HoldsParts (format : Format) (d : Directory) (blocks : List (List ℕ)) : Type 0 where
  pub head : HoldsHead format d.head blocks
  pub users : HoldsUsers format d.users blocks
  pub files : HoldsFiles format d.files blocks

head_block_of : (format : Format) (d : Directory) → block_of format d 0 ≡ head_block format d.head
unfolding block_of
head_block_of format d = refl

user_block_of : (format : Format) (d : Directory) (k : ℕ) → k < 63 → block_of format d (1 + k) ≡ user_or_empty format (slice_get d.users k)
unfolding block_of
user_block_of format d k below =
    let place : 1 + k - 1 ≡ k = omega arith in
    ap (λ (b : Bool). if b then head_block format d.head else (if nat_lt (1 + k) 64 then user_or_empty format (slice_get d.users (1 + k - 1)) else file_or_empty format (entry_at d.files (1 + k - 64)))) (ne_eqb (1 + k) 0 (λ e. omega (arith, e)))
    ∙ ap (λ (b : Bool). if b then user_or_empty format (slice_get d.users (1 + k - 1)) else file_or_empty format (entry_at d.files (1 + k - 64))) (lt-ltb (1 + k) 64 (omega arith))
    ∙ ap (λ (n : ℕ). user_or_empty format (slice_get d.users n)) place

file_block_of : (format : Format) (d : Directory) (k : ℕ) → block_of format d (64 + k) ≡ file_or_empty format (entry_at d.files k)
unfolding block_of
file_block_of format d k =
    let place : 64 + k - 64 ≡ k = omega arith in
    ap (λ (b : Bool). if b then head_block format d.head else (if nat_lt (64 + k) 64 then user_or_empty format (slice_get d.users (64 + k - 1)) else file_or_empty format (entry_at d.files (64 + k - 64)))) (ne_eqb (64 + k) 0 (λ e. omega (arith, e)))
    ∙ ap (λ (b : Bool). if b then user_or_empty format (slice_get d.users (64 + k - 1)) else file_or_empty format (entry_at d.files (64 + k - 64))) (le-ltb (64 + k) 64 (omega arith))
    ∙ ap (λ (n : ℕ). file_or_empty format (entry_at d.files n)) place

entry_made : (format : Format) (f : FileEntry) → IsFile f.0 → list_all (is_place format) (places_of f) ≡ true → LiesSomewhere f → IsEntry format f
entry_made format (rec, None) file each lies = record { file = file; places = tt; len = tt }
entry_made format (rec, Some copy) file each lies = record { file = file; places = record { count = lies.copy.count; each = each }; len = lies.copy.len }

entries_are : (format : Format) (files : List FileEntry) → AllByRecursion IsFile (recs files) → list_all (is_place format) (all_places files) ≡ true → AllByRecursion LiesSomewhere files → AllByRecursion (IsEntry format) files
entries_are format [] of_recs places lie = tt
entries_are format (f ∷ files) of_recs places lie =
    let both = and_parts (list_all (is_place format) (places_of f)) (list_all (is_place format) (all_places files)) (sym (list_all-append (is_place format) (places_of f) (all_places files)) ∙ places) in
    (entry_made format f of_recs.0 both.0 lie.0, entries_are format files of_recs.1 both.1 lie.1)

pub parts_of : (format : Format) (size : ℕ) (d : Directory) (blocks : List (List ℕ)) → IsImage format d blocks → AreRecords format d → IsDirectory size d → HoldsParts format d blocks
parts_of format size d blocks image records rules = record {
  head = record { limits = records.head; block = image.block 0 (omega arith) ∙ ap (λ (b : List ℕ). Some b) (head_block_of format d) };
  users = record {
    are = record { few = rules.users.few; numbered = rules.users.numbered; limits = records.users };
    block = λ k below. image.block (1 + k) (omega arith) ∙ ap (λ (b : List ℕ). Some b) (user_block_of format d k below);
  };
  files = record {
    numbered = rules.numbered;
    entries = All-from_recursion (IsEntry format) d.files (entries_are format d.files (recursion_from_All IsFile (recs d.files) records.files) (list_all-from_AllPass (is_place format) (all_places d.files) records.places) (recursion_from_All LiesSomewhere d.files rules.lies));
    block = λ k below. image.block (64 + k) (omega arith) ∙ ap (λ (b : List ℕ). Some b) (file_block_of format d k);
  };
}

pub stands_for_one : (blocks : List (List ℕ)) (d e : Directory) → StandsFor blocks d → StandsFor blocks e → d ≡ e
stands_for_one blocks d e one other =
    let p = parts_of one.format (length blocks) d (current blocks) one.image one.records one.rules in
    let q = parts_of other.format (length blocks) e (current blocks) other.image other.records other.rules in
    let heads = head_again p.head q.head in
    let users = users_again (subst (λ (f : Format). HoldsUsers f d.users (current blocks)) heads.0 p.users) q.users in
    let files = files_again (subst (λ (f : Format). HoldsFiles f d.files (current blocks)) heads.0 p.files) q.files in
    let head = heads.1 in
    let x : Directory = record { head = d.head; users = d.users; files = d.files } in
    let y : Directory = record { head = e.head; users = e.users; files = e.files } in
    let equal : x ≡ y = cc in equal

-- A DIRECTORY FROM ITS PARTS
image_of : (format : Format) (d : Directory) (blocks : List (List ℕ)) → HoldsParts format d blocks → IsImage format d blocks
image_of format d blocks parts = record {
  block = λ k below. ⊎_elim
      (λ (user : k < 64). ⊎_elim
      (λ (head : k < 1). subst (λ (n : ℕ). slice_get blocks n ≡ Some (block_of format d n)) (let e : 0 ≡ k = omega arith in e)
      (parts.head.block ∙ ap (λ (b : List ℕ). Some b) (sym (head_block_of format d))))
      (λ (behind : 1 ≤ k). subst (λ (n : ℕ). slice_get blocks n ≡ Some (block_of format d n)) (let e : 1 + (k - 1) ≡ k = omega arith in e)
      (parts.users.block (k - 1) (omega arith) ∙ ap (λ (b : List ℕ). Some b) (sym (user_block_of format d (k - 1) (omega arith)))))
      (cases_lt k 1))
      (λ (file : 64 ≤ k). subst (λ (n : ℕ). slice_get blocks n ≡ Some (block_of format d n)) (let e : 64 + (k - 64) ≡ k = omega arith in e)
      (parts.files.block (k - 64) (omega arith) ∙ ap (λ (b : List ℕ). Some b) (sym (file_block_of format d (k - 64)))))
      (cases_lt k 64);
}

files_have_limits : (format : Format) (files : List FileEntry) → AllByRecursion (IsEntry format) files → AllByRecursion IsFile (recs files)
files_have_limits format [] all = tt
files_have_limits format (f ∷ files) all = (all.0.file, files_have_limits format files all.1)

entry_places : (format : Format) (f : FileEntry) → IsEntry format f → list_all (is_place format) (places_of f) ≡ true
entry_places format (rec, None) is = refl
entry_places format (rec, Some copy) is = is.places.each

places_fit : (format : Format) (files : List FileEntry) → AllByRecursion (IsEntry format) files → list_all (is_place format) (all_places files) ≡ true
places_fit format [] all = refl
places_fit format (f ∷ files) all =
    list_all-append (is_place format) (places_of f) (all_places files)
    ∙ ap (λ (b : Bool). b && list_all (is_place format) (all_places files)) (entry_places format f all.0)
    ∙ places_fit format files all.1

pub stands_from_parts : (format : Format) (blocks : List (List ℕ)) (d : Directory) → HoldsParts format d (current blocks) → IsDirectory (length blocks) d → StandsFor blocks d
stands_from_parts format blocks d parts rules =
    let entries = recursion_from_All (IsEntry format) d.files parts.files.entries in
    record {
      format = format;
      image = image_of format d (current blocks) parts;
      records = record {
        head = parts.head.limits;
        users = parts.users.are.limits;
        files = All-from_recursion IsFile (recs d.files) (files_have_limits format d.files entries);
        places = AllPass-from_list_all (is_place format) (all_places d.files) (places_fit format d.files entries);
      };
      rules = rules;
    }

pub parts_of_stands : (blocks : List (List ℕ)) (d : Directory) → StandsFor blocks d → (format : Format) × HoldsParts format d (current blocks)
parts_of_stands blocks d stands = (stands.format, parts_of stands.format (length blocks) d (current blocks) stands.image stands.records stands.rules)

-- The trees of a state that devices represent have files of at most 65,536 bytes.
-- serves: crates above
use Rattle.std.proofs.Common.{◌≡◌, ◌≤◌, ℕ, Bool, true, false, cond, All, List, [], ◌∷◌, map, length, Option, Some, None, IfSome, option_map, refl, sym, ◌∙◌, ap, subst}
use Rattle.std.proofs.lemmas.List.Elements.{recursion_from_All}
use Rattle.std.specs.FinMap.{get-from_entries}
use Rattle.std.specs.FinMap.Entries.{find}
use Rattle.std.specs.List.{AllByRecursion}
use Rattle.std.specs.Ordering.{eq_by_cmp}
use Rattle.g_disc_contents.specs.Contents.{Contents, File, Holds, file_of, recs_in}
use Rattle.g_dirs.specs.Directory.{FileEntry, recs}
use Rattle.g_entry.specs.FileFields.{IsFile}
use Rattle.g_entry.specs.declared.file_rec.FileRec.{FileRec}
use Rattle.g_entry.specs.declared.user_rec.UserRec.{UserRec}
use Rattle.g_name.proofs.Order.{full_total}
use Rattle.g_name.specs.Order.{full_cmp}
use Rattle.g_name.specs.declared.full.Full.{Full}
use Rattle.g_plain.specs.PlainTree.{FileRow}
use Rattle.g_store_meaning.specs.Belonging.{KeepsRecord}
use Rattle.g_store_meaning.specs.Meaning.{DumpedDirectory, files_in, told_reels}
use Rattle.g_store_meaning.specs.Reading.{AllTold, HasText, IsView, View, dumped_of, holding_of}
use Rattle.g_store_model.specs.State.{State}
use Rattle.g_tape.specs.Reel.{Reel}
use Rattle.g_tree.specs.Records.{file_row_of, full_of, tree_of}
use Rattle.g_run_model.specs.Devices.{Devices, StandFor}
use Rattle.g_run_model.specs.Laws.{AreShort, IsShort}
use Rattle.g_run_model.proofs.StandLemmas.{read_as}

one_row : (a b : FileRow) → (let one : Option FileRow = Some a in one ≡ Some b) → a ≡ b
one_row a b e = cc

module _ (users : List UserRec) (bytes : FileRec → List ℕ) where
  abbrev named_rows : List FileRec → List (Full × FileRow)
  named_rows files = map (λ r. (full_of users r, file_row_of users bytes r)) files

  found_short : (files : List FileRec) → AllByRecursion (λ r. length (bytes r) ≤ 65536) files → (full : Full) (row : FileRow) → find full_cmp full (named_rows files) ≡ Some row → length row.bytes ≤ 65536
  found_short [] all full row e = absurd (let no : ⊥ = cc in no)
  found_short (r ∷ files) all full row e = by (eq_by_cmp full_cmp full (full_of users r)) e (λ found. found_short files all.1 full row found)
    where
      by : (b : Bool) → cond b (Some (file_row_of users bytes r)) (find full_cmp full (named_rows files)) ≡ Some row → (find full_cmp full (named_rows files) ≡ Some row → length row.bytes ≤ 65536) → length row.bytes ≤ 65536
      by true found again = subst (λ (x : FileRow). length x.bytes ≤ 65536) (one_row (file_row_of users bytes r) row found) all.0
      by false found again = again found

  pub records_short : (files : List FileRec) (next : ℕ) → AllByRecursion (λ r. length (bytes r) ≤ 65536) files → IsShort (tree_of users files bytes next)
  records_short files next all full row there = found_short files all full row (sym (get-from_entries full_total (named_rows files) full) ∙ there)

-- texts of records within their limits
short_text : (text : ℕ → List ℕ) (r : FileRec) → length (text r.stamp) ≡ r.len → IsFile r → length (text r.stamp) ≤ 65536
short_text text r same is = subst (λ (n : ℕ). n ≤ 65536) (sym same) is.len

kept_short : {K : FileRec → Type 0} (text : ℕ → List ℕ) (files : List FileRec) → ((r : FileRec) → K r → length (text r.stamp) ≡ r.len) → AllByRecursion IsFile files → AllByRecursion K files
    → AllByRecursion (λ r. length (text r.stamp) ≤ 65536) files
kept_short text [] len is keeps = tt
kept_short text (r ∷ files) len is keeps = (short_text text r (len r keeps.0) is.0, kept_short text files len is.1 keeps.1)

-- the files of a disc
held_short : {K : File → Type 0} (text : ℕ → List ℕ) (files : List File) → ((f : File) → K f → length (text f.rec.stamp) ≡ f.rec.len) → AllByRecursion IsFile (map (λ f. f.rec) files) → AllByRecursion K files
    → AllByRecursion (λ r. length (text r.stamp) ≤ 65536) (map (λ f. f.rec) files)
held_short text [] len is keeps = tt
held_short text (f ∷ files) len is keeps = (short_text text f.rec (len f keeps.0) is.0, held_short text files len is.1 keeps.1)

rec_of : (held : Option (List (List ℕ))) (e : FileEntry) → (file_of held e).rec ≡ e.0
rec_of held (rec, None) = refl
rec_of held (rec, Some copy) = refl

recs_of : (held : Option (List (List ℕ))) (es : List FileEntry) → map (λ (f : File). f.rec) (map (file_of held) es) ≡ recs es
recs_of held [] = refl
recs_of held (e ∷ es) = ap (λ (r : FileRec). r ∷ map (λ (f : File). f.rec) (map (file_of held) es)) (rec_of held e) ∙ ap (λ (rs : List FileRec). e.0 ∷ rs) (recs_of held es)

-- THE STATE OF DEVICES
abbrev trees_short : View → Option Contents → Type 0
trees_short v c = IfSome (option_map (holding_of v.text []) c) (λ k. IsShort k.tree)

disc_short : (held : Option (List (List ℕ))) (reels : List Reel) (v : View) (contents : Option Contents) → IfSome contents (λ c. (blocks : List (List ℕ)) × (held ≡ Some blocks) × Holds blocks c × IsView held reels c v) → trees_short v contents
disc_short held reels v None is = tt
disc_short held reels v (Some c) (blocks, tells, holds, views) =
    records_short c.users (λ r. v.text r.stamp) (recs_in c) c.head.next_stamp
    (held_short {K = λ f. HasText (AllTold held reels) (v.text f.rec.stamp) v.dumps f} v.text c.files (λ f has. has.len)
    (subst (λ (rs : List FileRec). AllByRecursion IsFile rs) (sym (ap (λ (x : Contents). recs_in x) holds.are ∙ recs_of (Some blocks) holds.directory.files)) (recursion_from_All IsFile (recs holds.directory.files) holds.stands.records.files))
    (recursion_from_All (λ (f : File). HasText (AllTold held reels) (v.text f.rec.stamp) v.dumps f) c.files views.files))

dumped_short : (v : View) (t : Option (DumpedDirectory v.dumps)) → IfSome t (λ x. All (λ r. KeepsRecord (v.text r.stamp) v.dumps r) (files_in x)) → IfSome (option_map (dumped_of v.text) t) (λ d. IsShort d.tree)
dumped_short v None keeps = tt
dumped_short v (Some t) keeps =
    records_short t.last.users (λ r. v.text r.stamp) (files_in t) t.last.next
    (kept_short {K = λ r. KeepsRecord (v.text r.stamp) v.dumps r} v.text (files_in t) (λ r has. has.len) (recursion_from_All IsFile (files_in t) t.rules.each_file)
    (recursion_from_All (λ (r : FileRec). KeepsRecord (v.text r.stamp) v.dumps r) (files_in t) keeps))

pub devices_short : (d : Devices) (s : State) → StandFor d s → AreShort s
devices_short d s stand =
    let reads = (read_as d s stand).reads in
    subst AreShort (sym reads.state_is) (record {
      held = disc_short d.disc.held (told_reels d.rack) reads.view reads.contents reads.is;
      dumped = dumped_short reads.view reads.view.dumped (reads.rack.dumped stand.told);
      opened = tt;
    })

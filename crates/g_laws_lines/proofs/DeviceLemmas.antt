-- The names in a state that devices represent have no byte 10.
-- serves: LawLemmas, SessionTextLemmas
use Rattle.std.proofs.Common.{◌≡◌, ℕ, Bool, true, false, cond, List, [], ◌∷◌, map, Option, Some, None, IfSome, option_map, refl, sym, ◌∙◌, ap, subst}
use Rattle.std.proofs.lemmas.List.Elements.{recursion_from_All}
use Rattle.std.specs.FinMap.{get-from_entries}
use Rattle.std.specs.FinMap.Entries.{find}
use Rattle.std.specs.List.{AllByRecursion}
use Rattle.std.specs.Ordering.{eq_by_cmp}
use Rattle.g_disc_contents.specs.Contents.{Contents, File, Holds, file_of, recs_in}
use Rattle.g_dirs.specs.Directory.{FileEntry, recs}
use Rattle.g_entry.specs.FileFields.{IsFile}
use Rattle.g_entry.specs.declared.file_rec.FileRec.{FileRec}
use Rattle.g_entry.specs.declared.user_rec.UserRec.{UserRec}
use Rattle.g_name.proofs.Order.{full_exact, full_total}
use Rattle.g_name.specs.Order.{full_cmp}
use Rattle.g_name.specs.declared.full.Full.{Full}
use Rattle.g_plain.proofs.Found.{tied_are}
use Rattle.g_plain.specs.PlainTree.{FileRow}
use Rattle.g_store_meaning.specs.Meaning.{DumpedDirectory, files_in, told_reels}
use Rattle.g_store_meaning.specs.Reading.{IsView, View, dumped_of, holding_of}
use Rattle.g_store_model.specs.State.{State}
use Rattle.g_tape.specs.Reel.{Reel}
use Rattle.g_tree.specs.Records.{file_row_of, full_of, tree_of}
use Rattle.g_run_model.specs.Devices.{Devices, StandFor}
use Rattle.g_run_model.proofs.StandLemmas.{read_as}
use Rattle.g_laws_lines.proofs.StateLemmas.{AreNamed, HasNames, IsNamed}
use Rattle.g_laws_lines.proofs.TextLemmas.{each_byte, lang_line, word_line}

module _ (users : List UserRec) (bytes : FileRec → List ℕ) where
  abbrev rows_in : List FileRec → List (Full × FileRow)
  rows_in files = map (λ r. (full_of users r, file_row_of users bytes r)) files

  record_named : (r : FileRec) → IsFile r → IsNamed (full_of users r)
  record_named r is = (each_byte r.local (word_line r.local is.local), each_byte r.lang (lang_line r.lang is.lang))

  found_named : (files : List FileRec) → AllByRecursion IsFile files → (full : Full) (row : FileRow) → find full_cmp full (rows_in files) ≡ Some row → IsNamed full
  found_named [] all full row e = absurd (let no : ⊥ = cc in no)
  found_named (r ∷ files) all full row e = by (eq_by_cmp full_cmp full (full_of users r)) refl e (λ found. found_named files all.1 full row found)
    where
      by : (b : Bool) → eq_by_cmp full_cmp full (full_of users r) ≡ b → cond b (Some (file_row_of users bytes r)) (find full_cmp full (rows_in files)) ≡ Some row
          → (find full_cmp full (rows_in files) ≡ Some row → IsNamed full) → IsNamed full
      by true same found again = subst IsNamed (sym (tied_are full_total full_exact full (full_of users r) same)) (record_named r all.0)
      by false other found again = again found

  records_named : (files : List FileRec) (next : ℕ) → AllByRecursion IsFile files → HasNames (tree_of users files bytes next)
  records_named files next all full row there = found_named files all full row (sym (get-from_entries full_total (rows_in files) full) ∙ there)

-- the records of a disc
rec_of : (held : Option (List (List ℕ))) (e : FileEntry) → (file_of held e).rec ≡ e.0
rec_of held (rec, None) = refl
rec_of held (rec, Some copy) = refl

recs_of : (held : Option (List (List ℕ))) (es : List FileEntry) → map (λ (f : File). f.rec) (map (file_of held) es) ≡ recs es
recs_of held [] = refl
recs_of held (e ∷ es) = ap (λ (r : FileRec). r ∷ map (λ (f : File). f.rec) (map (file_of held) es)) (rec_of held e) ∙ ap (λ (rs : List FileRec). e.0 ∷ rs) (recs_of held es)

disc_named : (held : Option (List (List ℕ))) (reels : List Reel) (v : View) (contents : Option Contents) → IfSome contents (λ c. (blocks : List (List ℕ)) × (held ≡ Some blocks) × Holds blocks c × IsView held reels c v)
    → IfSome (option_map (holding_of v.text []) contents) (λ k. HasNames k.tree)
disc_named held reels v None is = tt
disc_named held reels v (Some c) (blocks, tells, holds, views) =
    records_named c.users (λ r. v.text r.stamp) (recs_in c) c.head.next_stamp
    (subst (λ (rs : List FileRec). AllByRecursion IsFile rs) (sym (ap (λ (x : Contents). recs_in x) holds.are ∙ recs_of (Some blocks) holds.directory.files)) (recursion_from_All IsFile (recs holds.directory.files) holds.stands.records.files))

dumped_named : (v : View) (t : Option (DumpedDirectory v.dumps)) → IfSome (option_map (dumped_of v.text) t) (λ d. HasNames d.tree)
dumped_named v None = tt
dumped_named v (Some t) = records_named t.last.users (λ r. v.text r.stamp) (files_in t) t.last.next (recursion_from_All IsFile (files_in t) t.rules.each_file)

pub devices_named : (d : Devices) (s : State) → StandFor d s → AreNamed s
devices_named d s stand =
    let reads = (read_as d s stand).reads in
    subst AreNamed (sym reads.state_is) (record {
      held = disc_named d.disc.held (told_reels d.rack) reads.view reads.contents reads.is;
      dumped = dumped_named reads.view reads.view.dumped;
      opened = tt;
    })

-- What the files of a directory are, with their bytes, when its lists of records and of copies change.
-- serves: BegunLemmas, BringStepLemmas, ChangeLemmas, FileLemmas, KeepLemmas, RoomLemmas, UnjamLemmas
use Rattle.std.proofs.Common.{◌≡◌, ℕ, ◌<◌, ◌==◌, true, false, List, [], ◌∷◌, map, Option, Some, None, refl, sym, ◌∙◌, ap, inl, inr, if◌then◌else◌, option_map, not, is_some, AllPairs}
use Rattle.std.specs.Prelude.{Contains}
use Rattle.std.specs.Option.{ForSome}
use Rattle.std.proofs.lemmas.Bool.{cases_Bool, cases_eq, cond-false, cond-true, eq-eqb, ne_eqb}
use Rattle.g_copy.specs.declared.copy.DiscCopy.{DiscCopy}
use Rattle.g_entry.specs.declared.file_rec.FileRec.{FileRec}
use Rattle.g_dirs.specs.Directory.{FileEntry, copy_at, entries_of}
use Rattle.g_disc_contents.specs.Contents.{File, file_of, has, with_file, without_file, with_rec, set_rec, offline_in, taken_off, online_with, brought, copied_rec, with_copy, with_copies}
use Rattle.g_entry.specs.declared.file_rec.TapeCopy.{TapeCopy}
use Rattle.g_copy.specs.Copy.{bytes_at}
use Rattle.g_online.specs.Copies.{with_copy_at, without_copy, without_copies}
use Rattle.g_tree.specs.State.{with_file as tree_with_file, without_file as tree_without_file}
use Rattle.g_online.specs.Change.{told_bytes}
use Rattle.g_online.proofs.CopyLemmas.{Copies, copy_at-passing, copy_at-failing, copy_at-put, copy_at-put_other}
use Rattle.g_online.proofs.EntryLemmas.{made, made-each, made-erased, made-put, put-set, set_one}

abbrev pub Told : Type 0
Told = Option (List (List ℕ))

-- the files of these records and copies
abbrev pub files_of : Told → List FileRec → Copies → List File
files_of held files online = map (file_of held) (entries_of files online)

pub rec_is : (held : Told) (e : FileEntry) → (file_of held e).rec ≡ e.0
rec_is held (rec, None) = refl
rec_is held (rec, Some copy) = refl

pub online_is : (held : Told) (e : FileEntry) → (file_of held e).online ≡ is_some e.1
online_is held (rec, None) = refl
online_is held (rec, Some copy) = refl

number_is : (held : Told) (e : FileEntry) → (file_of held e).rec.number ≡ e.0.number
number_is held e = ap (λ (s : FileRec). s.number) (rec_is held e)

pub recs_are : (held : Told) (entries : List FileEntry) → map (λ f. f.rec) (map (file_of held) entries) ≡ map (λ e. e.0) entries
recs_are held [] = refl
recs_are held (e ∷ entries) =
    ap (λ (s : FileRec). s ∷ map (λ f. f.rec) (map (file_of held) entries)) (rec_is held e)
    ∙ ap (λ (l : List FileRec). e.0 ∷ l) (recs_are held entries)

module _ (held : Told) where
  files_made : (files : List FileRec) (online : Copies) → files_of held files online ≡ made (file_of held) (λ f. f.rec.number) (number_is held) files online
  files_made [] online = refl
  files_made (r ∷ files) online = ap (λ (l : List File). (let e : FileEntry = (r, copy_at online r.number) in file_of held e) ∷ l) (files_made files online)

  -- A FILE IS TAKEN OUT
  pub erased : (n : ℕ) (files : List FileRec) (online : Copies) → files_of held (tree_without_file n files) (without_copy n online) ≡ without_file n (files_of held files online)
  erased n files online =
      files_made (tree_without_file n files) (without_copy n online) ∙ made-erased (file_of held) (λ f. f.rec.number) (number_is held) n files online
      ∙ sym (ap (without_file n) (files_made files online))

  -- A FILE IS INSERTED, with a copy of these bytes
  pub put_in : (rec : FileRec) (copy : DiscCopy) (files : List FileRec) (online : Copies)
      → files_of held (tree_with_file rec files) (with_copy_at (rec.number, copy) online)
      ≡ with_file (record { rec = rec; online = true; bytes = option_map (bytes_at copy.blocks copy.len) held }) (files_of held files online)
  put_in rec copy files online =
      let f : File = record { rec = rec; online = true; bytes = option_map (bytes_at copy.blocks copy.len) held } in
      files_made (tree_with_file rec files) (with_copy_at (rec.number, copy) online) ∙ made-put (file_of held) (λ f. f.rec.number) (number_is held) rec copy files online
      ∙ sym (ap (with_file f) (files_made files online))

  -- each file for itself
  files-each : (files : List FileRec) (old new : Copies) (change : File → File)
      → ((r : FileRec) → (let e : FileEntry = (r, copy_at new r.number) in file_of held e) ≡ (let e : FileEntry = (r, copy_at old r.number) in change (file_of held e)))
      → files_of held files new ≡ map change (files_of held files old)
  files-each files old new change each =
      files_made files new ∙ made-each (file_of held) (λ f. f.rec.number) (number_is held) files old new change each ∙ sym (ap (map change) (files_made files old))

  -- FILES ARE TAKEN OFF THE DISC
  off_is : (r : FileRec) (o : Option DiscCopy) → (let e : FileEntry = (r, o) in let f : File = record (file_of held e) { online = false; bytes = None } in f) ≡ record { rec = r; online = false; bytes = None }
  off_is r None = refl
  off_is r (Some copy) = refl

  off_or_not : (numbers : List ℕ) (online : Copies) (r : FileRec)
      → (let e : FileEntry = (r, copy_at (without_copies numbers online) r.number) in file_of held e) ≡ (let e : FileEntry = (r, copy_at online r.number) in offline_in numbers (file_of held e))
  off_or_not numbers online r =
      let f : File = (let e : FileEntry = (r, copy_at online r.number) in file_of held e) in
      let off : File = record f { online = false; bytes = None } in
      let by_number : offline_in numbers f ≡ (if has numbers r.number then off else f) =
      ap (λ (s : FileRec). if has numbers s.number then off else f) (rec_is held (r, copy_at online r.number)) in
      elim (cases_Bool (has numbers r.number)) as (λ _. (let e : FileEntry = (r, copy_at (without_copies numbers online) r.number) in file_of held e) ≡ offline_in numbers f) [
        | inl is ↦
            ap (λ (o : Option DiscCopy). let e : FileEntry = (r, o) in file_of held e) (copy_at-failing (λ m. not (has numbers m)) online r.number (ap not is))
            ∙ sym (off_is r (copy_at online r.number)) ∙ sym (by_number ∙ cond-true (has numbers r.number) off f is)
        | inr is ↦
            ap (λ (o : Option DiscCopy). let e : FileEntry = (r, o) in file_of held e) (copy_at-passing (λ m. not (has numbers m)) online r.number (ap not is))
            ∙ sym (by_number ∙ cond-false (has numbers r.number) off f is)
      ]

  pub taken_away : (numbers : List ℕ) (files : List FileRec) (online : Copies) → files_of held files (without_copies numbers online) ≡ taken_off numbers (files_of held files online)
  taken_away numbers files online = files-each files online (without_copies numbers online) (offline_in numbers) (off_or_not numbers online)

  -- A FILE IS BROUGHT BACK, with a copy of these bytes
  on_is : (bytes : Option (List ℕ)) (r : FileRec) (o : Option DiscCopy) → (let e : FileEntry = (r, o) in let f : File = record (file_of held e) { online = true; bytes = bytes } in f) ≡ record { rec = r; online = true; bytes = bytes }
  on_is bytes r None = refl
  on_is bytes r (Some c) = refl

  on_or_not : (n : ℕ) (copy : DiscCopy) (online : Copies) (r : FileRec)
      → (let e : FileEntry = (r, copy_at (with_copy_at (n, copy) online) r.number) in file_of held e) ≡ (let e : FileEntry = (r, copy_at online r.number) in online_with n (option_map (bytes_at copy.blocks copy.len) held) (file_of held e))
  on_or_not n copy online r =
      let bytes = option_map (bytes_at copy.blocks copy.len) held in
      let f : File = (let e : FileEntry = (r, copy_at online r.number) in file_of held e) in
      let on : File = record f { online = true; bytes = bytes } in
      let by_number : online_with n bytes f ≡ (if r.number == n then on else f) =
      ap (λ (s : FileRec). if s.number == n then on else f) (rec_is held (r, copy_at online r.number)) in
      elim (cases_eq r.number n) as (λ _. (let e : FileEntry = (r, copy_at (with_copy_at (n, copy) online) r.number) in file_of held e) ≡ online_with n bytes f) [
        | inl same ↦
            ap (λ (m : ℕ). let e : FileEntry = (r, copy_at (with_copy_at (n, copy) online) m) in file_of held e) same
            ∙ ap (λ (o : Option DiscCopy). let e : FileEntry = (r, o) in file_of held e) (copy_at-put n copy online)
            ∙ sym (on_is bytes r (copy_at online r.number)) ∙ sym (by_number ∙ cond-true (r.number == n) on f (eq-eqb r.number n same))
        | inr other ↦
            ap (λ (o : Option DiscCopy). let e : FileEntry = (r, o) in file_of held e) (copy_at-put_other n copy online r.number other)
            ∙ sym (by_number ∙ cond-false (r.number == n) on f (ne_eqb r.number n other))
      ]

  pub brought_back : (n : ℕ) (copy : DiscCopy) (files : List FileRec) (online : Copies)
      → files_of held files (with_copy_at (n, copy) online) ≡ brought n (option_map (bytes_at copy.blocks copy.len) held) (files_of held files online)
  brought_back n copy files online =
      files-each files online (with_copy_at (n, copy) online) (online_with n (option_map (bytes_at copy.blocks copy.len) held)) (on_or_not n copy online)

  -- COPIES ON TAPE ARE NOTED
  noted_one : (copies : List (ℕ × TapeCopy)) (r : FileRec) (o : Option DiscCopy) → (let e : FileEntry = (copied_rec copies r, o) in file_of held e) ≡ (let e : FileEntry = (r, o) in with_copy copies (file_of held e))
  noted_one copies r None = refl
  noted_one copies r (Some copy) = refl

  pub copies_noted : (copies : List (ℕ × TapeCopy)) (files : List FileRec) (online : Copies) → files_of held (map (copied_rec copies) files) online ≡ with_copies copies (files_of held files online)
  copies_noted copies [] online = refl
  copies_noted copies (r ∷ files) online =
      ap (λ (f : File). f ∷ files_of held (map (copied_rec copies) files) online) (noted_one copies r (copy_at online r.number))
      ∙ ap (λ (l : List File). (let e : FileEntry = (r, copy_at online r.number) in with_copy copies (file_of held e)) ∷ l) (copies_noted copies files online)

  -- A RECORD IS CHANGED
  set_is : (rec r : FileRec) (o : Option DiscCopy) → (let e : FileEntry = (r, o) in let f : File = record (file_of held e) { rec = rec } in f) ≡ (let e : FileEntry = (rec, o) in file_of held e)
  set_is rec r None = refl
  set_is rec r (Some copy) = refl

  set_or_not : (rec : FileRec) (online : Copies) (r : FileRec)
      → (let e : FileEntry = (set_one rec r, copy_at online (set_one rec r).number) in file_of held e) ≡ (let e : FileEntry = (r, copy_at online r.number) in with_rec rec (file_of held e))
  set_or_not rec online r =
      let f : File = (let e : FileEntry = (r, copy_at online r.number) in file_of held e) in
      let set : File = record f { rec = rec } in
      let by_number : with_rec rec f ≡ (if r.number == rec.number then set else f) =
      ap (λ (s : FileRec). if s.number == rec.number then set else f) (rec_is held (r, copy_at online r.number)) in
      elim (cases_eq r.number rec.number) as (λ _. (let e : FileEntry = (set_one rec r, copy_at online (set_one rec r).number) in file_of held e) ≡ with_rec rec f) [
        | inl same ↦
            ap (λ (s : FileRec). let e : FileEntry = (s, copy_at online s.number) in file_of held e) (cond-true (r.number == rec.number) rec r (eq-eqb r.number rec.number same))
            ∙ ap (λ (m : ℕ). let e : FileEntry = (rec, copy_at online m) in file_of held e) (sym same)
            ∙ sym (set_is rec r (copy_at online r.number)) ∙ sym (by_number ∙ cond-true (r.number == rec.number) set f (eq-eqb r.number rec.number same))
        | inr other ↦
            ap (λ (s : FileRec). let e : FileEntry = (s, copy_at online s.number) in file_of held e) (cond-false (r.number == rec.number) rec r (ne_eqb r.number rec.number other))
            ∙ sym (by_number ∙ cond-false (r.number == rec.number) set f (ne_eqb r.number rec.number other))
      ]

  set_each : (rec : FileRec) (files : List FileRec) (online : Copies) → files_of held (map (set_one rec) files) online ≡ set_rec rec (files_of held files online)
  set_each rec [] online = refl
  set_each rec (r ∷ files) online =
      ap (λ (f : File). f ∷ files_of held (map (set_one rec) files) online) (set_or_not rec online r)
      ∙ ap (λ (l : List File). (let e : FileEntry = (r, copy_at online r.number) in with_rec rec (file_of held e)) ∷ l) (set_each rec files online)

  pub record_set : (rec : FileRec) (files : List FileRec) (online : Copies) → AllPairs (λ r s. r.number < s.number) files → Contains (map (λ r. r.number) files) rec.number
      → files_of held (tree_with_file rec files) online ≡ set_rec rec (files_of held files online)
  record_set rec files online rising there = ap (λ (l : List FileRec). files_of held l online) (put-set rec files rising there) ∙ set_each rec files online

  -- the bytes, if the disc exposes them
  pub bytes_are : (copy : DiscCopy) (bytes : List ℕ) → ForSome held (λ blocks. bytes_at copy.blocks copy.len blocks ≡ bytes) → option_map (bytes_at copy.blocks copy.len) held ≡ told_bytes (is_some held) bytes
  bytes_are copy bytes each = by_held held each
    where
      by_held : (h : Told) → ForSome h (λ blocks. bytes_at copy.blocks copy.len blocks ≡ bytes) → option_map (bytes_at copy.blocks copy.len) h ≡ told_bytes (is_some h) bytes
      by_held None each = refl
      by_held (Some blocks) each = ap (λ (b : List ℕ). Some b) (each blocks refl)

-- The contents of the directory that memory will have after a change are those that the change makes.
-- serves: AdoptLemmas, BringStepLemmas, EraseLemmas, PutLemmas, UnjamLemmas, UnloadLemmas
use Rattle.std.proofs.Common.{◌≡◌, ℕ, ◌+◌, Bool, true, false, ◌||◌, List, map, Option, None, ◌∙◌, ap, is_some}
use Rattle.std.specs.Option.{ForSome}
use Rattle.g_copy.specs.declared.copy.DiscCopy.{DiscCopy}
use Rattle.g_copy.specs.Copy.{bytes_at}
use Rattle.g_entry.specs.declared.file_rec.FileRec.{FileRec}
use Rattle.g_entry.specs.declared.file_rec.TapeCopy.{TapeCopy}
use Rattle.g_entry.specs.declared.head.Head.{Head}
use Rattle.g_entry.specs.declared.user_rec.UserRec.{UserRec}
use Rattle.g_tree.specs.State.{with_file as tree_with_file, without_file as tree_without_file}
use Rattle.g_dirs.specs.Directory.{directory_of}
use Rattle.g_disc_contents.specs.Contents.{Contents, File, committed, contents_of, copied_rec, brought, taken_off, with_copies, with_file, without_file}
use Rattle.g_online.specs.declared.change.Change.TheVariants.{PutFile, EraseFile, Unload, Bring, Adopt}
use Rattle.g_online.specs.Change.{changed, told_bytes}
use Rattle.g_online.specs.Copies.{with_copy_at, without_copy, without_copies}
use Rattle.g_online.proofs.CopyLemmas.{Copies}
use Rattle.g_online.proofs.ContentLemmas.{Told, files_of, erased, put_in, taken_away, brought_back, copies_noted, bytes_are}

-- the head of a commit: it has the intent while versions are pinned
abbrev pub committed_head : Bool → Head → Head
committed_head true head = head
committed_head false head = record head { intent = None }

abbrev contents_with : Head → List UserRec → List File → Contents
contents_with head users files = record { head = head; users = users; files = files }

committed_is : (pinned : Bool) (head : Head) (users : List UserRec) (one other : List File) → one ≡ other
    → contents_with (committed_head pinned head) users one ≡ committed (pinned || false) (contents_with head users other)
committed_is true head users one other same = ap (contents_with head users) same
committed_is false head users one other same = ap (contents_with (record head { intent = None }) users) same

module _ (held : Told) (pinned : Bool) (head : Head) (users : List UserRec) (files : List FileRec) (online : Copies) where
  abbrev was : Contents
  was = contents_of held (directory_of head users files online)

  abbrev behind : Head → List FileRec → Copies → Contents
  behind h fs on = contents_of held (directory_of (committed_head pinned h) users fs on)

  pub erase_contents : (number : ℕ) → behind head (tree_without_file number files) (without_copy number online) ≡ changed (is_some held) pinned (EraseFile number) was
  unfolding changed
  erase_contents number =
      committed_is pinned head users (files_of held (tree_without_file number files) (without_copy number online)) (without_file number (files_of held files online)) (erased held number files online)

  pub unload_contents : (numbers : List ℕ) → behind head files (without_copies numbers online) ≡ changed (is_some held) pinned (Unload numbers) was
  unfolding changed
  unload_contents numbers =
      committed_is pinned head users (files_of held files (without_copies numbers online)) (taken_off numbers (files_of held files online)) (taken_away held numbers files online)

  pub adopt_contents : (last : ℕ) (copies : List (ℕ × TapeCopy)) → behind (record head { last_dump = last }) (map (copied_rec copies) files) online ≡ changed (is_some held) pinned (Adopt last copies) was
  unfolding changed
  adopt_contents last copies =
      committed_is pinned (record head { last_dump = last }) users (files_of held (map (copied_rec copies) files) online) (with_copies copies (files_of held files online)) (copies_noted held copies files online)

  -- a new version, whose copy has these bytes if the disc exposes them, after files were taken off
  pub put_contents : (rec : FileRec) (bytes unjam : List ℕ) (copy : DiscCopy) → ForSome held (λ blocks. bytes_at copy.blocks copy.len blocks ≡ bytes)
      → behind (record head { next_stamp = head.next_stamp + 1 }) (tree_with_file rec files) (with_copy_at (rec.number, copy) (without_copies unjam online))
      ≡ changed (is_some held) pinned (PutFile rec bytes unjam) was
  unfolding changed
  put_contents rec bytes unjam copy told =
      let f : Option (List ℕ) → File = λ b. record { rec = rec; online = true; bytes = b } in
      committed_is pinned (record head { next_stamp = head.next_stamp + 1 }) users
      (files_of held (tree_with_file rec files) (with_copy_at (rec.number, copy) (without_copies unjam online)))
      (with_file (f (told_bytes (is_some held) bytes)) (taken_off unjam (files_of held files online)))
      (put_in held rec copy files (without_copies unjam online)
      ∙ ap (λ (b : Option (List ℕ)). with_file (f b) (files_of held files (without_copies unjam online))) (bytes_are held copy bytes told)
      ∙ ap (with_file (f (told_bytes (is_some held) bytes))) (taken_away held unjam files online))

  pub bring_contents : (number : ℕ) (bytes unjam : List ℕ) (copy : DiscCopy) → ForSome held (λ blocks. bytes_at copy.blocks copy.len blocks ≡ bytes)
      → behind head files (with_copy_at (number, copy) (without_copies unjam online)) ≡ changed (is_some held) pinned (Bring number bytes unjam) was
  unfolding changed
  bring_contents number bytes unjam copy told =
      committed_is pinned head users
      (files_of held files (with_copy_at (number, copy) (without_copies unjam online)))
      (brought number (told_bytes (is_some held) bytes) (taken_off unjam (files_of held files online)))
      (brought_back held number copy files (without_copies unjam online)
      ∙ ap (λ (b : Option (List ℕ)). brought number b (files_of held files (without_copies unjam online))) (bytes_are held copy bytes told)
      ∙ ap (brought number (told_bytes (is_some held) bytes)) (taken_away held unjam files online))

-- The records that a closing changes are marked, one by one, and so all that it changes of the directory.
-- serves: note_copies (marks), note_copy (marks), CloseLemmas
use Rattle.std.proofs.Common.{◌≡◌, ◌≢◌, ◌⊎◌, ℕ, ◌+◌, ◌-◌, ◌≤◌, ◌==◌, List, [], ◌∷◌, get_or, length, map, take, Option, Some, All, refl, sym, ◌∙◌, ap, subst, arith, inl, inr, slice_get, if◌then◌else◌}
use Rattle.std.proofs.lemmas.Bool.{cases_eq, cond-false, cond-true, eq-eqb, ne_eqb}
use Rattle.std.proofs.lemmas.List.{get_or-map, get_or_default, length-map, take_all}
use Rattle.std.proofs.lemmas.List.Elements.{All-head, All-tail}
use Rattle.g_copy.specs.declared.copy.DiscCopy.{DiscCopy}
use Rattle.g_entry.specs.declared.file_rec.FileRec.{FileRec}
use Rattle.g_entry.specs.declared.head.Head.{Head}
use Rattle.g_entry.specs.declared.user_rec.UserRec.{UserRec}
use Rattle.g_slots.specs.declared.side.Side.{Side}
use Rattle.g_dirs.specs.Directory.{Directory, FileEntry, copy_at, directory_of, entries_of}
use Rattle.g_dirs.specs.Image.{entry_at}
use Rattle.g_dirs.specs.Pages.{Covers, Remembered, marked}
use Rattle.g_dirs.proofs.PageLemmas.{same_pages_of}
use Rattle.g_tree.specs.Records.{IsRecords}
use Rattle.g_disc_contents.specs.Contents.{copied_rec}
use Rattle.g_online.specs.declared.pinned.Pinned.{Pinned}
use Rattle.g_online.specs.DumpedVersions.{MarksMade, noted_at, noted_in}
use Rattle.g_online.proofs.CloseNoteLemmas.{Tapes, other_noted}
use Rattle.g_online.proofs.MarkLemmas.{but_head, same_block}
use Rattle.g_online.proofs.OffLemmas.{marks_more, marks_none}
use Rattle.g_online.proofs.ReadyLemmas.{CoversBut}
use Rattle.g_online.proofs.RecordLemmas.{keeps_then}

-- NOTHING is made another
pub all_free : (made : FileRec → FileRec) (files : List FileRec) (pages : Remembered) → All (λ r. made r ≡ r) files → MarksMade made files pages pages
all_free made files pages same = record { pages = record { a = refl; b = refl }; free = λ side k is. (is, λ i d within. λ at. same i d within) }

pub none_made : (made : FileRec → FileRec) (files : List FileRec) (pages : Remembered) → files ≡ map made files → MarksMade made files pages pages
none_made made files pages same =
    all_free made files pages (λ i d within.
    sym (ap (λ (fs : List FileRec). get_or fs i (made d)) same ∙ get_or-map made files i d (made d) within) ∙ get_or_default files i (made d) d within)

-- the record of a number is made another, and marked
pub one_made : (copies : Tapes) (number : ℕ) (files : List FileRec) (old new : Remembered) → new ≡ marked (64 + number) old → MarksMade (noted_at copies number) files old new
one_made copies number files old new is =
    let marks = marks_more [] number old old new (marks_none old) is in
    record {
      pages = marks.pages;
      free = λ side k free.
          let before = marks.free side k free in
          let away : k ≢ 64 + number = All-head (λ m. k ≢ 64 + m) number [] before.1 in
          (before.0, λ i d within. λ at. other_noted copies number (get_or files i d) (λ same. away (at ∙ ap (λ (n : ℕ). 64 + n) same)));
    }

-- One version after the other.
pub made_none_yet : (pins : List Pinned) (files : List FileRec) (pages : Remembered) → MarksMade (copied_rec (noted_in (take 0 pins))) files pages pages
made_none_yet pins files pages = all_free (copied_rec []) files pages (λ i d within. refl)

pub made_more : (first : Tapes) (second both : FileRec → FileRec) (files then_files : List FileRec) (old mid new : Remembered) → then_files ≡ map (copied_rec first) files
    → All (λ (r : FileRec). second (copied_rec first r) ≡ both r) files → MarksMade (copied_rec first) files old mid → MarksMade second then_files mid new → MarksMade both files old new
made_more first second both files then_files old mid new are same was more = record {
  pages = keeps_then old mid new was.pages more.pages;
  free = λ side k free.
      let here = more.free side k free in
      let before = was.free side k here.0 in
      let made : FileRec → FileRec = copied_rec first in
      let all : All (λ (s : FileRec). k ≡ 64 + s.number → second s ≡ s) (map made files) =
      subst (λ (fs : List FileRec). All (λ (s : FileRec). k ≡ 64 + s.number → second s ≡ s) fs) are here.1 in
      let long = length-map files made in (
        before.0,
        λ i d within. λ at.
            sym (same i d within)
            ∙ subst (λ (s : FileRec). k ≡ 64 + s.number → second s ≡ s) (get_or-map made files i d (made d) within) (all i (made d) (omega (arith, within, long))) at
            ∙ before.1 i d within at,
      );
}

pub made_all : (pins : List Pinned) (place : ℕ) (files : List FileRec) (old new : Remembered) → length pins ≤ place → MarksMade (copied_rec (noted_in (take place pins))) files old new
    → MarksMade (copied_rec (noted_in pins)) files old new
made_all pins place files old new all was = subst (λ (ps : List Pinned). MarksMade (copied_rec (noted_in ps)) files old new) (take_all place pins all) was

-- WHAT IS NOT MARKED stays
module _ (copies : Tapes) (online : List (ℕ × DiscCopy)) (number : ℕ) where
  found_same : (r : FileRec) (rest other : Option FileEntry) → (r.number ≡ number → copied_rec copies r ≡ r) → other ≡ rest
      → (if r.number == number then Some (let e : FileEntry = (copied_rec copies r, copy_at online r.number) in e) else other) ≡ (if r.number == number then Some (let e : FileEntry = (r, copy_at online r.number) in e) else rest)
  found_same r rest other stays same = by_case (cases_eq r.number number)
    where
      by_case : (r.number ≡ number) ⊎ (r.number ≡ number → ⊥)
          → (if r.number == number then Some (let e : FileEntry = (copied_rec copies r, copy_at online r.number) in e) else other) ≡ (if r.number == number then Some (let e : FileEntry = (r, copy_at online r.number) in e) else rest)
      by_case (inl at) =
          cond-true (r.number == number) (Some (let e : FileEntry = (copied_rec copies r, copy_at online r.number) in e)) other (eq-eqb r.number number at)
          ∙ ap (λ (s : FileRec). let e : FileEntry = (s, copy_at online r.number) in Some e) (stays at)
          ∙ sym (cond-true (r.number == number) (Some (let e : FileEntry = (r, copy_at online r.number) in e)) rest (eq-eqb r.number number at))
      by_case (inr away) =
          cond-false (r.number == number) (Some (let e : FileEntry = (copied_rec copies r, copy_at online r.number) in e)) other (ne_eqb r.number number away) ∙ same
          ∙ sym (cond-false (r.number == number) (Some (let e : FileEntry = (r, copy_at online r.number) in e)) rest (ne_eqb r.number number away))

  entry_same : (files : List FileRec) → All (λ (r : FileRec). r.number ≡ number → copied_rec copies r ≡ r) files
      → entry_at (entries_of (map (copied_rec copies) files) online) number ≡ entry_at (entries_of files online) number
  entry_same [] all = refl
  entry_same (r ∷ files) all =
      found_same r (entry_at (entries_of files online) number) (entry_at (entries_of (map (copied_rec copies) files) online) number) (All-head (λ (s : FileRec). s.number ≡ number → copied_rec copies s ≡ s) r files all)
      (entry_same files (All-tail (λ (s : FileRec). s.number ≡ number → copied_rec copies s ≡ s) r files all))

pub covers_noted : (copies : Tapes) (side : Side) (h k : Head) (users : List UserRec) (files : List FileRec) (online : List (ℕ × DiscCopy)) (old first new : Remembered) → CoversBut 0 old first
    → MarksMade (copied_rec copies) files first new → Covers (directory_of h users files online) side old → Covers (directory_of k users (map (copied_rec copies) files) online) side new
covers_noted copies side h k users files online old first new covers marks was =
    let d : Directory = directory_of h users files online in
    let middle : Directory = directory_of k users files online in
    let e : Directory = directory_of k users (map (copied_rec copies) files) online in
    let mid : Covers middle side first = covers side d middle was (but_head d middle refl refl) in
    record {
      block = λ j less free.
          let before = marks.free side j free in
          let same = same_block middle e j (λ zero_is. refl) (λ low few. refl)
          (λ past. entry_same copies online (j - 64) files (λ i d within. λ at. before.1 i d within (omega (arith, past, at)))) in
          ap (λ (ps : List (Option (List ℕ))). slice_get ps j) (same_pages_of side first new marks.pages) ∙ mid.block j less before.0 ∙ ap (λ (b : List ℕ). Some (Some b)) (sym same);
    }

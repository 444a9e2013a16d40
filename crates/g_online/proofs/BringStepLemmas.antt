-- A file whose bytes are brought back is ready to be committed.
-- serves: NewBytesLemmas
use Rattle.std.proofs.Common.{◌≡◌, ◌≢◌, ◌⊎◌, ℕ, zero, suc, ◌+◌, ◌<◌, ◌≤◌, Bool, true, false, List, [], ◌∷◌, length, get_or, map, Option, Some, None, Ok, All, AllPairs, refl, sym, ◌∙◌, ap, subst, arith, inl, inr, if◌then◌else◌, ◌==◌}
use Rattle.std.specs.Prelude.{Contains, is_some}
use Rattle.std.specs.Option.{ForSome}
use Rattle.std.proofs.lemmas.Bool.{cases_eq, cond-false, cond-true, eq-eqb, ne_eqb}
use Rattle.std.proofs.lemmas.List.{get_or-map, length-map}
use Rattle.std.proofs.lemmas.List.Elements.{All-contains, All-head, All-tail, All-weaker}
use Rattle.g_base.specs.Block.{blocks_for}
use Rattle.g_base.specs.ToldContent.{Changes}
use Rattle.g_base.proofs.ToldLemmas.{Changes-weaken, told_after}
use Rattle.g_blocks.specs.Pool.{HasTaken, IsInArea}
use Rattle.g_copy.specs.declared.copy.DiscCopy.{DiscCopy}
use Rattle.g_copy.specs.Copy.{Holds as Copied, OnlyAt, bytes_at}
use Rattle.g_disc.specs.Disc.{DiscState, WritesOnly}
use Rattle.g_entry.specs.declared.file_rec.FileRec.{FileRec}
use Rattle.g_entry.specs.declared.head.Head.{Head}
use Rattle.g_entry.specs.FileFields.{IsFile}
use Rattle.g_tree.specs.State.{with_file as tree_with_file}
use Rattle.g_dirs.specs.Directory.{AreCopies, Directory, FileEntry, LiesSomewhere, all_places, copy_at, directory_of, entries_of}
use Rattle.g_dirs.specs.Image.{entry_at}
use Rattle.g_dirs.specs.Pages.{KeepsPages, Remembered}
use Rattle.g_dirs.proofs.CopyLemmas.{recs-entries}
use Rattle.g_disc_contents.specs.Contents.{Contents, File, brought, contents_of, file_of, has, offline_in, taken_off}
use Rattle.g_disc_contents.specs.Facts.{OnlineFacts}
use Rattle.g_online.specs.declared.change.Change.TheVariants.{Bring, Unload}
use Rattle.g_online.specs.declared.fault.OnlineFault.{OnlineFault}
use Rattle.g_online.specs.declared.pinned.Pinned.{Pinned}
use Rattle.g_online.specs.AllowedChanges.{IsAllowed, KeepsRules}
use Rattle.g_online.specs.Change.{changed, told_bytes, unjammed}
use Rattle.g_online.specs.Outcomes.{HasChanged}
use Rattle.g_online.specs.Copies.{with_copy_at}
use Rattle.g_online.specs.Invariant.{AreNoted, AreWhole, IsAgreed, IsFileOf, IsKept, IsPinned, IsPooled, Memory, PinsAre, WaitsFor, WaitsPinned, directory_in, facts_of, head_after, orphans, pins_of}
use Rattle.g_online.specs.NewBytes.{WroteBytes}
use Rattle.g_online.proofs.CopiedPlaces.{places_with}
use Rattle.g_online.proofs.ChangeLemmas.{bring_contents}
use Rattle.g_online.proofs.ContentLemmas.{online_is}
use Rattle.g_online.proofs.CopyLemmas.{Copies}
use Rattle.g_online.proofs.EntryLemmas.{put-set, set_one}
use Rattle.g_online.proofs.EraseLemmas.{entries_rise, pooled, used}
use Rattle.g_online.proofs.KeepLemmas.{CopyFits, rules_kept}
use Rattle.g_online.proofs.MarkLemmas.{but_file, but_head}
use Rattle.g_online.proofs.OffLemmas.{no_filter}
use Rattle.g_online.proofs.PlaceLemmas.{NotPinned, used_without, with_entry}
use Rattle.g_online.proofs.PutLemmas.{all_put, copies_put, entries_put, others_put, put_used}
use Rattle.g_online.proofs.ReadyLemmas.{CoversBut, StillRemembers, allowed_here, allowed_live, pairs_left}
use Rattle.g_online.proofs.RecordLemmas.{fits_still, next_kept, touched_stays}
use Rattle.g_online.proofs.SameLemmas.{left_part}
use Rattle.g_online.proofs.StepLemmas.{IsBeside, IsReadyFrom, pins_told}
use Rattle.g_online.proofs.TieLemmas.{rec_of}
use Rattle.g_online.proofs.TwoLemmas.{IsNeeding, IsTwo, none_unjammed, taken_none}
use Rattle.g_online.proofs.UnjamLemmas.{IsUnjammed}
use Rattle.g_online.proofs.WrittenLemmas.{IsNewCopy, NeedsFor, written_beside, written_kept}

-- A FILE THAT IS BROUGHT BACK
bring_both : (told other pinned : Bool) (number : ℕ) (bytes unjam : List ℕ) (c : Contents) → changed told pinned (Bring number bytes []) (changed other pinned (Unload unjam) c) ≡ changed told pinned (Bring number bytes unjam) c
unfolding changed
bring_both told other true number bytes unjam c =
    ap (λ (fs : List File). let d : Contents = record { head = c.head; users = c.users; files = brought number (told_bytes told bytes) fs } in d) (taken_none (taken_off unjam c.files))
bring_both told other false number bytes unjam c =
    ap (λ (fs : List File). let d : Contents = record { head = record c.head { intent = None }; users = c.users; files = brought number (told_bytes told bytes) fs } in d) (taken_none (taken_off unjam c.files))

bring_first : (told pinned : Bool) (number : ℕ) (bytes unjam : List ℕ) (c : Contents) → changed told pinned (Unload unjam) c ≡ unjammed pinned (Bring number bytes unjam) c
unfolding changed
bring_first told true number bytes unjam c = refl
bring_first told false number bytes unjam c = refl

bring_two : (number : ℕ) (bytes unjam : List ℕ) → IsTwo unjam (Bring number bytes []) (Bring number bytes unjam)
bring_two number bytes unjam = record {
  unjams = refl;
  none = refl;
  need = refl;
  touch = λ c d. refl;
  contents = λ told other pinned c. bring_both told other pinned number bytes unjam c;
  first = λ told pinned c. bring_first told pinned number bytes unjam c;
}

-- a file that isn't on the disc stays so
contains_map : {X Y : Type 0} (f : X → Y) (xs : List X) (x : X) → Contains xs x → Contains (map f xs) (f x)
contains_map f xs x (k, inside, is) = (k, omega (arith, inside, length-map xs f), get_or-map f xs k x (f x) inside ∙ ap f is)

off_still : (unjam : List ℕ) (f : File) → f.online ≡ false → ((offline_in unjam f).rec ≡ f.rec) × ((offline_in unjam f).online ≡ false)
off_still unjam f off = by_case (has unjam f.rec.number)
  where
    by_case : (b : Bool) → (let g : File = (if b then record f { online = false; bytes = None } else f) in (g.rec ≡ f.rec) × (g.online ≡ false))
    by_case true = (refl, refl)
    by_case false = (refl, off)

files_then : (told pinned : Bool) (unjam : List ℕ) (c : Contents) → (changed told pinned (Unload unjam) c).files ≡ taken_off unjam c.files
unfolding changed
files_then told true unjam c = refl
files_then told false unjam c = refl

bring_behind : (number : ℕ) (bytes unjam : List ℕ) (o p : OnlineFacts) → IsAllowed (Bring number bytes unjam) o → HasChanged (Unload unjam) o p → is_some p.disc.held ≡ is_some o.disc.held → IsAllowed (Bring number bytes []) p
bring_behind number bytes unjam o p allowed first told =
    let f = allowed.fits.0 in
    let still = off_still unjam f.0 f.3 in
    let files : taken_off unjam o.contents.files ≡ p.contents.files = sym (files_then (is_some o.disc.held) (is_some o.pins) unjam o.contents) ∙ ap (λ (c : Contents). c.files) (sym first.contents) in
    let step : changed (is_some p.disc.held) (is_some p.pins) (Bring number bytes []) p.contents
    ≡ changed (is_some o.disc.held) (is_some o.pins) (Bring number bytes []) (changed (is_some o.disc.held) (is_some o.pins) (Unload unjam) o.contents) =
    λ i. changed (told i) (is_some (first.pins i)) (Bring number bytes []) (first.contents i) in
    record {
      live = first.live;
      fits = (
        (
          offline_in unjam f.0,
          subst (λ (fs : List File). Contains fs (offline_in unjam f.0)) files (contains_map (offline_in unjam) o.contents.files f.0 f.1),
          ap (λ (r : FileRec). r.number) still.0 ∙ f.2,
          still.1,
          ap (λ (r : FileRec). r.len) still.0 ∙ f.4,
        ),
        none_unjammed p.contents.files,
      );
      rules = subst KeepsRules (sym (step ∙ bring_both (is_some o.disc.held) (is_some o.disc.held) (is_some o.pins) number bytes unjam o.contents)) allowed.rules;
    }

pub bring_needing : (number : ℕ) (bytes unjam : List ℕ) → IsNeeding unjam (Bring number bytes []) (Bring number bytes unjam)
bring_needing number bytes unjam = record {
  two = bring_two number bytes unjam;
  same = λ none. ap (Bring number bytes) (sym none);
  takes = refl;
  fits = λ o allowed. allowed.fits.1;
  behind = λ o p allowed first told. bring_behind number bytes unjam o p allowed first told;
}

-- THE FILE that is brought back: it isn't on the disc, so it has a copy on tape
pub record IsOff (number len : ℕ) (m : Memory) : Type 0 where
  pub file : FileRec
  pub number_is : file.number ≡ number
  pub there : Contains m.files file
  pub entry : Contains (entries_of m.files m.online) (let e : FileEntry = (file, None) in e)
  pub length_is : file.len ≡ len
  pub copied : is_some file.tape ≡ true

-- the record and copy of a file of the contents
record FoundOff (held : Option (List (List ℕ))) (f : File) (files : List FileRec) (online : Copies) : Type 0 where
  pub file : FileRec
  pub there : Contains files file
  pub entry : Contains (entries_of files online) (let e : FileEntry = (file, None) in e)
  pub is : file ≡ f.rec

none_of : (o : Option DiscCopy) → is_some o ≡ false → o ≡ None
none_of None is = refl
none_of (Some c) is = (let no : ⊥ = cc in absurd no)

found_off : (held : Option (List (List ℕ))) (f : File) (files : List FileRec) (online : Copies) → Contains (map (file_of held) (entries_of files online)) f → f.online ≡ false → FoundOff held f files online
found_off held f [] online (k, inside, is) off = let no : ⊥ = omega (arith, inside) in absurd no
found_off held f (r ∷ files) online (zero, inside, is) off =
    let e : FileEntry = (r, copy_at online r.number) in
    let none : copy_at online r.number ≡ None = none_of (copy_at online r.number) (sym (online_is held e) ∙ ap (λ (g : File). g.online) is ∙ off) in
    record {
      file = r;
      there = (0, omega arith, refl);
      entry = (0, omega arith, ap (λ (o : Option DiscCopy). let g : FileEntry = (r, o) in g) none);
      is = sym (rec_of held e) ∙ ap (λ (g : File). g.rec) is;
    }
found_off held f (r ∷ files) online (suc k, inside, is) off =
    let rest = found_off held f files online (k, omega (arith, inside), is) off in
    let a = rest.there.1 in
    let b = rest.entry.1 in
    record {
      file = rest.file;
      there = (suc rest.there.0, omega (arith, a), rest.there.2);
      entry = (suc rest.entry.0, omega (arith, b), rest.entry.2);
      is = rest.is;
    }

off_copied : (r : FileRec) → LiesSomewhere (let e : FileEntry = (r, None) in e) → is_some r.tape ≡ true
off_copied r lies = by_case lies.lies
  where
    by_case : (let none : Option DiscCopy = None in (is_some none ≡ true) ⊎ (is_some r.tape ≡ true)) → is_some r.tape ≡ true
    by_case (inl is) = (let no : ⊥ = cc in absurd no)
    by_case (inr is) = is

-- a file inserted at its own place
same_rec : (r0 : FileRec) (files : List FileRec) → AllPairs (λ r s. r.number < s.number) files → Contains files r0 → All (λ r. r.number ≡ r0.number → r ≡ r0) files
same_rec r0 [] rising there k d inside same = let no : ⊥ = omega (arith, inside) in absurd no
same_rec r0 (x ∷ files) rising (zero, within, is) zero d inside same = is
same_rec r0 (x ∷ files) rising (zero, within, is) (suc k) d inside same =
    let less : x.number < (get_or files k d).number = rising 0 (suc k) d (omega arith) (omega (arith, inside)) in
    let at : x.number ≡ r0.number = ap (λ (r : FileRec). r.number) is in
    let no : ⊥ = omega (arith, less, at, same) in absurd no
same_rec r0 (x ∷ files) rising (suc j, within, is) zero d inside same =
    let less : x.number < r0.number = All-contains (λ (r : FileRec). x.number < r.number) files r0 (λ i e under. rising 0 (suc i) e (omega arith) (omega (arith, under))) (j, omega (arith, within), is) in
    let no : ⊥ = omega (arith, less, same) in absurd no
same_rec r0 (x ∷ files) rising (suc j, within, is) (suc k) d inside same =
    same_rec r0 files (λ i l e before under. rising (suc i) (suc l) e (omega (arith, before)) (omega (arith, under))) (j, omega (arith, within), is) k d (omega (arith, inside)) same

set_none : (r0 : FileRec) (files : List FileRec) → All (λ r. r.number ≡ r0.number → r ≡ r0) files → map (set_one r0) files ≡ files
set_none r0 [] all = refl
set_none r0 (r ∷ files) all =
    let P : FileRec → Type 0 = λ s. s.number ≡ r0.number → s ≡ r0 in
    ap (λ (s : FileRec). s ∷ map (set_one r0) files) (one (cases_eq r.number r0.number)) ∙ ap (λ (rest : List FileRec). r ∷ rest) (set_none r0 files (All-tail P r files all))
  where
    one : (r.number ≡ r0.number) ⊎ (r.number ≡ r0.number → ⊥) → set_one r0 r ≡ r
    one (inl here) = cond-true (r.number == r0.number) r0 r (eq-eqb r.number r0.number here) ∙ sym (All-head (λ (s : FileRec). s.number ≡ r0.number → s ≡ r0) r files all here)
    one (inr other) = cond-false (r.number == r0.number) r0 r (ne_eqb r.number r0.number other)

-- WHAT MEMORY IS with the copy
abbrev brought_in : Bool → Memory → ℕ → DiscCopy → List Bool → Remembered → Memory
brought_in pinned m number copy pool pages = record m { head = head_after pinned m.head; online = with_copy_at (number, copy) m.online; pool = pool; pages = pages }

pub is_off : (number : ℕ) (bytes : List ℕ) (origin : DiscState) (m : Memory) → IsKept origin m → m.live ≡ true → IsAllowed (Bring number bytes []) (facts_of origin m) → IsOff number (length bytes) m
is_off number bytes origin m kept live allowed =
    let f = allowed.fits.0 in
    let found = found_off origin.held f.0 m.files m.online f.1 f.3 in
    record {
      file = found.file;
      number_is = ap (λ (r : FileRec). r.number) found.is ∙ f.2;
      there = found.there;
      entry = found.entry;
      length_is = ap (λ (r : FileRec). r.len) found.is ∙ f.4;
      copied = off_copied found.file (All-contains LiesSomewhere (entries_of m.files m.online) (let e : FileEntry = (found.file, None) in e) (kept.agreed live).stored.rules.lies found.entry);
    }

-- a version with a copy on tape isn't pinned, and doesn't wait
no_tape : (r : FileRec) → is_some r.tape ≡ true → r.tape ≡ None → ⊥
no_tape r copied none = (let wrong = sym copied ∙ ap is_some none in let no : ⊥ = cc in no)

off_not_pinned : (size next : ℕ) (r : FileRec) (files : List FileEntry) (touched : List ℕ) (pins : Option (List Pinned)) → Contains files (let e : FileEntry = (r, None) in e) → is_some r.tape ≡ true → PinsAre pins size next files touched → NotPinned r.stamp pins
off_not_pinned size next r files touched None there copied are = tt
off_not_pinned size next r files touched (Some pins) there copied are =
    All-weaker (IsPinned size next files) (λ (p : Pinned). p.stamp ≢ r.stamp)
    (λ p is same. no_tape r copied (All-contains (IsFileOf p) files (let e : FileEntry = (r, None) in e) is.current there (sym same)).1) pins are.each

pins_brought : (size next : ℕ) (r : FileRec) (copy : DiscCopy) (files : List FileEntry) (touched : List ℕ) (pins : Option (List Pinned)) → Contains files (let e : FileEntry = (r, None) in e) → is_some r.tape ≡ true → PinsAre pins size next files touched
    → PinsAre pins size next (with_entry (let e : FileEntry = (r, Some copy) in e) files) touched
pins_brought size next r copy files touched None there copied are = are
pins_brought size next r copy files touched (Some pins) there copied are =
    let e : FileEntry = (r, Some copy) in
    record {
      each = All-weaker (IsPinned size next files) (IsPinned size next (with_entry e files))
          (λ p is. record {
            older = is.older;
            filled = is.filled;
            count = is.count;
            area = is.area;
            current = all_put (IsFileOf p) e files (λ same. absurd (no_tape r copied (All-contains (IsFileOf p) files (let f : FileEntry = (r, None) in f) is.current there same).1)) is.current;
          }) pins are.each;
      apart = are.apart;
      waits = all_put (WaitsPinned pins touched) e files (λ filled none. absurd (no_tape r copied none)) are.waits;
    }

noted_brought : (users : ℕ) (r : FileRec) (copy : DiscCopy) (files : List FileEntry) (all touched : List ℕ) → is_some r.tape ≡ true → AreNoted users files all touched → AreNoted users (with_entry (let e : FileEntry = (r, Some copy) in e) files) all touched
noted_brought users r copy files all touched copied was = record {
  changed_are = was.changed_are;
  touched_are = was.touched_are;
  touched_changed = was.touched_changed;
  waits = all_put (λ (f : FileEntry). WaitsFor all f.0) (let e : FileEntry = (r, Some copy) in e) files (λ filled none. absurd (no_tape r copied none)) was.waits;
}

-- THE BYTES ARE WRITTEN
module _ (number : ℕ) (bytes unjam : List ℕ) (copy : DiscCopy) (o : OnlineFacts) (origin before : DiscState) (m : Memory) (len : ℕ) (len_is : len ≡ length bytes) (un : IsUnjammed (Bring number bytes []) unjam o origin m) (new : IsNewCopy len m.pool copy)
    (whole : ForSome before.held (AreWhole before.size)) (counts : WritesOnly {T = Unit {0}} {E = OnlineFault} (length copy.blocks) origin before (Ok tt)) (written : WroteBytes copy.blocks bytes origin before) where
  only : Changes (OnlyAt copy.blocks) origin.held before.held
  only = Changes-weaken written.content (λ a b told holds. holds.only)

  needs : NeedsFor len (Bring number bytes [])
  needs = record { need = ap blocks_for (sym len_is); none = refl }

  here : IsKept before m
  here = written_kept (Bring number bytes []) unjam len copy o origin before m needs un new counts.size whole only written.dirties.syncable

  beside : IsBeside (Bring number bytes []) origin before m
  beside = written_beside (Bring number bytes []) unjam len copy o origin before m needs un new counts.size whole only counts written.dirties

  was : IsAgreed before m
  was = here.agreed un.live

  off : IsOff number (length bytes) m
  off = is_off number bytes origin m un.kept un.live un.allowed

  bytes_told : ForSome before.held (λ blocks. bytes_at copy.blocks copy.len blocks ≡ bytes)
  bytes_told = told_after written.content (λ b a told holds. subst (λ (k : ℕ). bytes_at copy.blocks k a ≡ bytes) (sym (new.len ∙ len_is)) holds.bytes_are)

  made_here : (pool : List Bool) (pages : Remembered) → contents_of before.held (directory_in (brought_in (is_some m.pins) m number copy pool pages)) ≡ changed (is_some before.held) (is_some m.pins) (Bring number bytes []) (contents_of before.held (directory_in m))
  made_here pool pages =
      ap (λ (l : Copies). contents_of before.held (directory_of (head_after (is_some m.pins) m.head) m.users m.files (with_copy_at (number, copy) l))) (no_filter m.online)
      ∙ bring_contents before.held (is_some m.pins) m.head m.users m.files m.online number bytes [] copy bytes_told

  made_there : changed (is_some before.held) (is_some m.pins) (Bring number bytes []) (contents_of before.held (directory_in m)) ≡ changed (is_some origin.held) (is_some (pins_of origin.held m.pins)) (Bring number bytes []) (contents_of origin.held (directory_in m))
  made_there = λ i. changed (beside.told i) (sym (pins_told origin.held m.pins) i) (Bring number bytes []) (beside.contents i)

  rules_here : (pool : List Bool) (pages : Remembered) → KeepsRules (contents_of before.held (directory_in (brought_in (is_some m.pins) m number copy pool pages)))
  rules_here pool pages = subst KeepsRules (sym (made_here pool pages ∙ made_there)) un.allowed.rules

  -- THE FILES are those with a new version of that record
  rising : AllPairs (λ r s. r.number < s.number) m.files
  rising = subst (λ (rs : List FileRec). AllPairs (λ (r : FileRec) (s : FileRec). r.number < s.number) rs) (recs-entries m.files m.online) was.stored.rules.numbered.rising

  files_same : tree_with_file off.file m.files ≡ m.files
  files_same = put-set off.file m.files rising (contains_map (λ (r : FileRec). r.number) m.files off.file off.there) ∙ set_none off.file m.files (same_rec off.file m.files rising off.there)

  entries_now : entries_of m.files (with_copy_at (number, copy) m.online) ≡ with_entry (let e : FileEntry = (off.file, Some copy) in e) (entries_of m.files m.online)
  entries_now =
      let step : entries_of m.files (with_copy_at (number, copy) m.online) ≡ entries_of (tree_with_file off.file m.files) (with_copy_at (off.file.number, copy) m.online) =
      λ i. entries_of ((sym files_same) i) (with_copy_at ((sym off.number_is) i, copy) m.online) in
      step ∙ entries_put off.file copy m.files m.online

  copies_now : AreCopies m.files (with_copy_at (number, copy) m.online)
  copies_now = subst (λ (fs : List FileRec). AreCopies fs (with_copy_at (number, copy) m.online)) files_same
      (subst (λ (k : ℕ). AreCopies (tree_with_file off.file m.files) (with_copy_at (k, copy) m.online)) off.number_is (copies_put off.file copy m.files m.online was.copies))

  bring_pooled : (mid : List Bool) → HasTaken copy.blocks m.pool mid → IsPooled before.size m.pins (with_entry (let e : FileEntry = (off.file, Some copy) in e) (entries_of m.files m.online)) mid
  bring_pooled mid taken =
      let away : NotPinned off.file.stamp m.pins = off_not_pinned before.size m.head.next_stamp off.file (entries_of m.files m.online) m.touched m.pins off.entry off.copied was.pins in
      pooled before.size m.pins (with_entry (let e : FileEntry = (off.file, Some copy) in e) (entries_of m.files m.online)) mid
      (put_used before.size m.pins (let e : FileEntry = (off.file, Some copy) in e) (entries_of m.files m.online) [] true m.pool mid mid away
      (used_without m.pins (let e : FileEntry = (off.file, None) in e) (entries_of m.files m.online) (entries_rise m.files m.online was.stored.rules.numbered.rising) off.entry away)
      (used before.size m.pins (entries_of m.files m.online) m.pool was.pool) new.apart new.free taken refl)

  -- READY
  bring_set_ready : (mid : List Bool) (first pages : Remembered) → HasTaken copy.blocks m.pool mid → KeepsPages m.pages pages → StillRemembers m.pages pages → CoversBut 0 m.pages first → CoversBut (64 + number) first pages
      → IsReadyFrom (Bring number bytes []) origin before m (brought_in (is_some m.pins) m number copy mid pages)
  bring_set_ready mid first pages taken kept_pages remembers covers covers' =
      let n : Memory = brought_in (is_some m.pins) m number copy mid pages in
      let h : Head = head_after (is_some m.pins) m.head in
      let middle : Directory = directory_of h m.users m.files m.online in
      let old : List FileEntry = entries_of m.files m.online in
      let e : FileEntry = (off.file, Some copy) in
      let all : with_entry e old ≡ (directory_in n).files = sym entries_now in
      let pool : IsPooled before.size m.pins (directory_in n).files mid = subst (λ (fs : List FileEntry). IsPooled before.size m.pins fs mid) all (bring_pooled mid taken) in
      let fits : All CopyFits (directory_in n).files =
      subst (All CopyFits) all
      (all_put CopyFits e old (record { len = new.len ∙ len_is ∙ sym off.length_is; count = new.count ∙ ap blocks_for (len_is ∙ sym off.length_is) }) (fits_still old was.stored.rules.lies)) in
      let both = rules_kept before.size before.held (directory_in n) here.most (rules_here mid pages) fits
      (left_part (IsInArea before.size) (all_places (directory_in n).files) (orphans m.pins (directory_in n).files) pool.area)
      (pairs_left (all_places (directory_in n).files) (orphans m.pins (directory_in n).files) pool.apart) in
      record {
        was = here;
        lived = un.live;
        commits = refl;
        beside = beside;
        live = un.live;
        side = refl;
        pages = kept_pages;
        same_pins = refl;
        changed = refl;
        touched = touched_stays before.held before.size m.head.next_stamp old m.touched m.pins was.pins;
        contents = made_here mid pages;
        copies = copies_now;
        copied = λ k there. elim (places_with (number, copy) m.online k there) [ inl old ↦ inl old | inr new ↦ inr (written.dirties.here k new) ];
        marked = record {
          size = here.size;
          gate = was.stored.gate;
          remembers = λ b told. remembers b (was.stored.remembers b told);
          covers = λ s. covers' s middle (directory_in n) (covers s (directory_in m) middle (was.stored.covers s) (but_head (directory_in m) middle refl refl))
              (but_file number middle (directory_in n) refl refl
              (λ i other. ap (λ (fs : List FileEntry). entry_at fs i) (sym all) ∙ others_put {X = FileEntry} (λ f. f.0.number) e old i (λ same. other (same ∙ off.number_is))));
          records = both.0;
          rules = both.1;
        };
        pool = pool;
        noted = subst (λ (fs : List FileEntry). AreNoted (length m.users) fs m.changed m.touched) all (noted_brought (length m.users) off.file copy old m.changed m.touched off.copied was.noted);
        pins = subst (λ (fs : List FileEntry). PinsAre m.pins before.size h.next_stamp fs m.touched) all
            (subst (λ (k : ℕ). PinsAre m.pins before.size k (with_entry e old) m.touched) (sym (next_kept (is_some m.pins) m.head))
            (pins_brought before.size m.head.next_stamp off.file copy old m.touched m.pins off.entry off.copied was.pins));
      }

  pub bring_ready : (mid : List Bool) (pinned : Bool) (first pages : Remembered) (head : Head) (online : Copies) → HasTaken copy.blocks m.pool mid → KeepsPages m.pages pages → StillRemembers m.pages pages → CoversBut 0 m.pages first
      → CoversBut (64 + number) first pages → pinned ≡ is_some m.pins → head ≡ head_after pinned m.head → online ≡ with_copy_at (number, copy) m.online
      → IsReadyFrom (Bring number bytes []) origin before m (record m { head = head; online = online; pool = mid; pages = pages })
  bring_ready mid pinned first pages head online taken kept_pages remembers covers covers' pinned_is heads online_is =
      let top : head ≡ head_after (is_some m.pins) m.head = heads ∙ ap (λ (b : Bool). head_after b m.head) pinned_is in
      subst (IsReadyFrom (Bring number bytes []) origin before m) (λ i. record m { head = (sym top) i; online = (sym online_is) i; pool = mid; pages = pages })
      (bring_set_ready mid first pages taken kept_pages remembers covers covers')

-- its numbers
pub bring_short : (number : ℕ) (bytes numbers : List ℕ) (before : DiscState) (m : Memory) (o : OnlineFacts) → facts_of before m ≡ o → IsKept before m → IsAllowed (Bring number bytes numbers) o → (length bytes ≤ 65536) × (number < 1024)
bring_short number bytes numbers before m o view kept allowed =
    let was = (kept.agreed (allowed_live (Bring number bytes numbers) before m o view allowed)).stored in
    let f = (allowed_here (Bring number bytes numbers) before m o view allowed).fits.0 in
    let found = found_off before.held f.0 m.files m.online f.1 f.3 in
    let files : All IsFile m.files = subst (All IsFile) (recs-entries m.files m.online) was.records.files in
    let below : All (λ (r : FileRec). r.number < 1024) m.files = subst (λ (rs : List FileRec). All (λ (r : FileRec). r.number < 1024) rs) (recs-entries m.files m.online) was.rules.numbered.below in
    let short = (All-contains IsFile m.files found.file files found.there).len in
    let less : found.file.number < 1024 = All-contains (λ (r : FileRec). r.number < 1024) m.files found.file below found.there in (
      subst (λ (k : ℕ). k ≤ 65536) (ap (λ (r : FileRec). r.len) found.is ∙ f.4) short,
      subst (λ (k : ℕ). k < 1024) (ap (λ (r : FileRec). r.number) found.is ∙ f.2) less,
    )

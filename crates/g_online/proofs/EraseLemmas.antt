-- A file less is ready to be written.
-- serves: erase_file, BringStepLemmas, PutStepLemmas
use Rattle.std.proofs.Common.{◌≡◌, ◌≢◌, ◌⊎◌, ℕ, zero, suc, ◌+◌, ◌<◌, ◌==◌, ◌||◌, Bool, true, false, not, List, [], ◌∷◌, ◌++◌, length, get_or, map, Option, Some, None, All, AllPairs, refl, sym, ◌∙◌, ap, subst, arith, inl, inr, if◌then◌else◌}
use Rattle.std.specs.Prelude.{Contains, is_some}
use Rattle.std.specs.FinMap as finmap
use Rattle.std.proofs.lemmas.Bool.{cases_Bool, cases_eq, cond-false, cond-true, eq-eqb, eqb-true, ne_eqb}
use Rattle.std.proofs.lemmas.List.Elements.{All-cons, All-contains, All-filter, All-weaker, filter_passes}
use Rattle.std.proofs.lemmas.List.{get_or_default, get_or-map, length-map}
use Rattle.std.proofs.lemmas.List.Kept.{AllPairs-filter}
use Rattle.g_base.proofs.KeyLemmas.{find-without}
use Rattle.g_blocks.specs.Pool.{IsTaken}
use Rattle.g_copy.specs.declared.copy.DiscCopy.{DiscCopy}
use Rattle.g_disc.specs.Disc.{DiscState}
use Rattle.g_entry.specs.declared.file_rec.FileRec.{FileRec}
use Rattle.g_entry.specs.declared.head.Head.{Head}
use Rattle.g_entry.specs.declared.user_rec.UserRec.{UserRec}
use Rattle.g_entry.specs.Rules.{AreNumbered}
use Rattle.g_dirs.specs.Directory.{AreCopies, Directory, FileEntry, copy_at, directory_of, entries_of, places_of}
use Rattle.g_dirs.specs.Image.{entry_at}
use Rattle.g_dirs.specs.Pages.{Remembered, marked}
use Rattle.g_dirs.proofs.CopyLemmas.{recs-entries}
use Rattle.g_tree.specs.Places.{StandsAt}
use Rattle.g_tree.specs.Records.{by_number}
use Rattle.g_tree.specs.State.{without_file}
use Rattle.g_tree.proofs.PlaceLemmas.{stands_found}
use Rattle.g_disc_contents.specs.Contents.{File, contents_of, file_of, with_number}
use Rattle.g_disc_contents.specs.Facts.{OnlineFacts}
use Rattle.g_online.specs.declared.change.Change.TheVariants.{EraseFile}
use Rattle.g_online.specs.declared.pinned.Pinned.{Pinned}
use Rattle.g_online.specs.AllowedChanges.{IsAllowed}
use Rattle.g_online.specs.Change.{owner_in, with_all}
use Rattle.g_online.specs.Copies.{without_copy}
use Rattle.g_online.specs.Invariant.{AreNoted, GivesUnless, IsAgreed, IsFileOf, IsKept, IsPinned, IsPooled, Memory, PinsAre, WaitsFor, WaitsPinned, copy_places, directory_in, facts_of, has_stamp, head_after, is_pinned, pins_of, used_places}
use Rattle.g_online.proofs.CopiedPlaces.{places_filter}
use Rattle.g_online.proofs.ChangeLemmas.{erase_contents}
use Rattle.g_online.proofs.EntryLemmas.{made-erased}
use Rattle.g_online.proofs.KeepLemmas.{CopyFits}
use Rattle.g_online.proofs.MarkLemmas.{but_file, but_head}
use Rattle.g_online.proofs.NoteLemmas.{noted_then, pins_then, touched_then, touched_with}
use Rattle.g_online.proofs.PlaceLemmas.{NotPinned, used_without, used_without_pinned, without_entry}
use Rattle.g_online.proofs.ReadyLemmas.{CoversBut, StillRemembers, allowed_here, allowed_live, make_ready}
use Rattle.g_online.proofs.RecordLemmas.{fits_still, keeps_marked, keeps_then, next_kept}
use Rattle.g_online.proofs.StepLemmas.{IsReady}
use Rattle.g_online.proofs.TieLemmas.{rec_of}
use Rattle.g_online.proofs.UseLemmas.{IsUsed, SameUse, may_give, used_given, used_same}

-- the files without this one
pub entries_without : (n : ℕ) (files : List FileRec) (online : List (ℕ × DiscCopy)) → entries_of (without_file n files) (without_copy n online) ≡ without_entry n (entries_of files online)
entries_without n files online = made-erased {X = FileEntry} (λ e. e) (λ e. e.0.number) (λ e. refl) n files online

-- the others are found unchanged

others_found : (n i : ℕ) (fs : List FileEntry) → i ≢ n → entry_at (without_entry n fs) i ≡ entry_at fs i
others_found n i fs other =
    find-without (λ (f : FileEntry). f.0.number == i) (λ (f : FileEntry). f.0.number == n) (λ f out. ne_eqb f.0.number i (λ same. other (sym same ∙ eqb-true f.0.number n out))) fs

-- the other numbers are there
other_number : (n k : ℕ) (r : FileRec) (files : List FileRec) → Contains (map (λ (s : FileRec). s.number) (without_file n files)) k → Contains (map (λ (s : FileRec). s.number) (without_file n (r ∷ files))) k
other_number n k r files there = by_kept (cases_Bool (not (r.number == n)))
  where
    by_kept : (not (r.number == n) ≡ true) ⊎ (not (r.number == n) ≡ false) → Contains (map (λ (s : FileRec). s.number) (without_file n (r ∷ files))) k
    by_kept (inl kept) =
        subst (λ (fs : List FileRec). Contains (map (λ (s : FileRec). s.number) fs) k) (sym (cond-true (not (r.number == n)) (r ∷ without_file n files) (without_file n files) kept))
        (let within = there.1 in (suc there.0, omega (arith, within), there.2))
    by_kept (inr gone) = subst (λ (fs : List FileRec). Contains (map (λ (s : FileRec). s.number) fs) k) (sym (cond-false (not (r.number == n)) (r ∷ without_file n files) (without_file n files) gone)) there

others_there : (n k : ℕ) (files : List FileRec) → k ≢ n → Contains (map (λ (s : FileRec). s.number) files) k → Contains (map (λ (s : FileRec). s.number) (without_file n files)) k
others_there n k [] other there = there
others_there n k (r ∷ files) other (zero, inside, is) =
    let kept : not (r.number == n) ≡ true = ap not (ne_eqb r.number n (λ same. other (sym is ∙ same))) in
    subst (λ (fs : List FileRec). Contains (map (λ (s : FileRec). s.number) fs) k) (sym (cond-true (not (r.number == n)) (r ∷ without_file n files) (without_file n files) kept))
    (0, omega arith, is)
others_there n k (r ∷ files) other (suc j, inside, is) = other_number n k r files (others_there n k files other (j, omega (arith, inside), is))

copies_without : (n : ℕ) (files : List FileRec) (online : List (ℕ × DiscCopy)) → AreCopies files online → AreCopies (without_file n files) (without_copy n online)
copies_without n files online are = record {
  rising = AllPairs-filter (λ c d. c.0 < d.0) (λ c. not (c.0 == n)) online are.rising;
  files_are = All-passing online are.files_are;
}
  where
    here : (c : ℕ × DiscCopy) → not (c.0 == n) ≡ true → c.0 ≢ n
    here c kept same = (let wrong = eq-eqb c.0 n same in let no : ⊥ = cc in no)

    All-both : (P Q R : ℕ × DiscCopy → Type 0) → ((c : ℕ × DiscCopy) → P c → Q c → R c) → (cs : List (ℕ × DiscCopy)) → All P cs → All Q cs → All R cs
    All-both P Q R both cs ps qs = λ k d within. both (get_or cs k d) (ps k d within) (qs k d within)

    All-passing : (cs : List (ℕ × DiscCopy)) → All (λ (c : ℕ × DiscCopy). Contains (map (λ (s : FileRec). s.number) files) c.0) cs
        → All (λ (c : ℕ × DiscCopy). Contains (map (λ (s : FileRec). s.number) (without_file n files)) c.0) (without_copy n cs)
    All-passing cs all =
        All-both (λ (c : ℕ × DiscCopy). not (c.0 == n) ≡ true) (λ (c : ℕ × DiscCopy). Contains (map (λ (s : FileRec). s.number) files) c.0)
        (λ (c : ℕ × DiscCopy). Contains (map (λ (s : FileRec). s.number) (without_file n files)) c.0)
        (λ c kept there. others_there n c.0 files (here c kept) there)
        (without_copy n cs) (filter_passes (λ (c : ℕ × DiscCopy). not (c.0 == n)) cs)
        (All-filter (λ (c : ℕ × DiscCopy). not (c.0 == n)) (λ (c : ℕ × DiscCopy). Contains (map (λ (s : FileRec). s.number) files) c.0) cs all)

-- pinned versions stay pinned
pinned_without : (size next n : ℕ) (files : List FileEntry) (p : Pinned) → IsPinned size next files p → IsPinned size next (without_entry n files) p
pinned_without size next n files p is = record {
  older = is.older;
  filled = is.filled;
  count = is.count;
  area = is.area;
  current = All-filter (λ (f : FileEntry). not (f.0.number == n)) (IsFileOf p) files is.current;
}

pins_without : (size next n : ℕ) (files : List FileEntry) (touched : List ℕ) (pins : Option (List Pinned)) → PinsAre pins size next files touched → PinsAre pins size next (without_entry n files) touched
pins_without size next n files touched None are = are
pins_without size next n files touched (Some pins) are = record {
  each = All-weaker (IsPinned size next files) (IsPinned size next (without_entry n files)) (pinned_without size next n files) pins are.each;
  apart = are.apart;
  waits = All-filter (λ (f : FileEntry). not (f.0.number == n)) (WaitsPinned pins touched) files are.waits;
}

noted_without : (users n : ℕ) (files : List FileEntry) (changed_are touched : List ℕ) → AreNoted users files changed_are touched → AreNoted users (without_entry n files) changed_are touched
noted_without users n files changed_are touched was = record {
  changed_are = was.changed_are;
  touched_are = was.touched_are;
  touched_changed = was.touched_changed;
  waits = All-filter (λ (f : FileEntry). not (f.0.number == n)) (λ (f : FileEntry). WaitsFor changed_are f.0) files was.waits;
}

-- THE FILE that is removed
pub record IsGoing (number : ℕ) (before : DiscState) (m : Memory) : Type 0 where
  pub was : IsAgreed before m
  pub file : FileRec
  pub number_is : file.number ≡ number
  pub there : Contains m.files file
  pub entry : Contains (entries_of m.files m.online) (file, copy_at m.online file.number)
  pub owner : owner_in number (contents_of before.held (directory_in m)).files ≡ file.owner ∷ []

abbrev contents_files : Option (List (List ℕ)) → List FileRec → List (ℕ × DiscCopy) → List File
contents_files held files online = map (file_of held) (entries_of files online)

record Found (number : ℕ) (held : Option (List (List ℕ))) (files : List FileRec) (online : List (ℕ × DiscCopy)) : Type 0 where
  pub file : FileRec
  pub number_is : file.number ≡ number
  pub there : Contains files file
  pub entry : Contains (entries_of files online) (file, copy_at online file.number)
  pub owner : owner_in number (contents_files held files online) ≡ file.owner ∷ []

found : (number : ℕ) (held : Option (List (List ℕ))) (files : List FileRec) (online : List (ℕ × DiscCopy)) (f : File) → Contains (contents_files held files online) f → f.rec.number ≡ number → Found number held files online
found number held [] online f (k, inside, is) same = let no : ⊥ = omega (arith, inside) in absurd no
found number held (r ∷ files) online f there same = by_number (cases_eq r.number number) (λ other. found number held files online f (behind other there) same)
  where
    e : FileEntry
    e = (r, copy_at online r.number)

    numbers : (file_of held e).rec.number ≡ r.number
    numbers = ap (λ (s : FileRec). s.number) (rec_of held e)

    behind : r.number ≢ number → Contains (contents_files held (r ∷ files) online) f → Contains (contents_files held files online) f
    behind other (zero, inside, is) = absurd (other (sym numbers ∙ ap (λ (g : File). g.rec.number) is ∙ same))
    behind other (suc k, inside, is) = (k, omega (arith, inside), is)

    by_number : (r.number ≡ number) ⊎ (r.number ≡ number → ⊥) → ((r.number ≡ number → ⊥) → Found number held files online) → Found number held (r ∷ files) online
    by_number (inl here) others = record {
      file = r;
      number_is = here;
      there = (0, omega arith, refl);
      entry = (0, omega arith, refl);
      owner = cond-true ((file_of held e).rec.number == number) ((file_of held e).rec.owner ∷ []) (owner_in number (contents_files held files online)) (eq-eqb (file_of held e).rec.number number (numbers ∙ here))
          ∙ ap (λ (s : FileRec). s.owner ∷ []) (rec_of held e);
    }
    by_number (inr other) others =
        let rest = others other in
        let a = rest.there.1 in
        let b = rest.entry.1 in
        record {
          file = rest.file;
          number_is = rest.number_is;
          there = (suc rest.there.0, omega (arith, a), rest.there.2);
          entry = (suc rest.entry.0, omega (arith, b), rest.entry.2);
          owner = cond-false ((file_of held e).rec.number == number) ((file_of held e).rec.owner ∷ []) (owner_in number (contents_files held files online))
              (ne_eqb (file_of held e).rec.number number (λ is. other (sym numbers ∙ is))) ∙ rest.owner;
        }

pub is_going : (number : ℕ) (before : DiscState) (m : Memory) (o : OnlineFacts) → facts_of before m ≡ o → IsKept before m → IsAllowed (EraseFile number) o → IsGoing number before m
is_going number before m o is kept allowed =
    let fits = (allowed_here (EraseFile number) before m o is allowed).fits in
    let it = found number before.held m.files m.online fits.0 fits.1 fits.2 in
    record {
      was = kept.agreed (allowed_live (EraseFile number) before m o is allowed);
      file = it.file;
      number_is = it.number_is;
      there = it.there;
      entry = it.entry;
      owner = it.owner;
    }

abbrev gone_in : Bool → Memory → ℕ → ℕ → List Bool → Remembered → Memory
gone_in pinned m number owner pool pages = record m {
  head = head_after pinned m.head;
  files = without_file number m.files;
  online = without_copy number m.online;
  pool = pool;
  pages = pages;
  changed = with_number owner m.changed;
  touched = touched_with m.pins owner m.touched;
}

-- WHICH VERSIONS ARE PINNED
none_has : (pins : List Pinned) (s : ℕ) → has_stamp pins s ≡ false → All (λ (p : Pinned). p.stamp ≢ s) pins
none_has [] s is = λ k d within. absurd (omega arith)
none_has (p ∷ pins) s is = by_first (cases_eq p.stamp s) (λ other. none_has pins s (ap (λ (b : Bool). b || has_stamp pins s) (sym (ne_eqb p.stamp s other)) ∙ is))
  where
    by_first : (p.stamp ≡ s) ⊎ (p.stamp ≡ s → ⊥) → ((p.stamp ≡ s → ⊥) → All (λ (q : Pinned). q.stamp ≢ s) pins) → All (λ (q : Pinned). q.stamp ≢ s) (p ∷ pins)
    by_first (inl same) others = (let yes_it : (p.stamp == s) ≡ true = eq-eqb p.stamp s same in let it = ap (λ (b : Bool). b || has_stamp pins s) (sym yes_it) ∙ is in let no : ⊥ = cc in absurd no)
    by_first (inr other) others = All-cons (λ (q : Pinned). q.stamp ≢ s) p pins other (others other)

some_has : (pins : List Pinned) (s : ℕ) → has_stamp pins s ≡ true → (p : Pinned) × Contains pins p × (p.stamp ≡ s)
some_has [] s is = (let no : ⊥ = cc in absurd no)
some_has (p ∷ pins) s is = by_first (cases_eq p.stamp s) (λ other. some_has pins s (ap (λ (b : Bool). b || has_stamp pins s) (sym (ne_eqb p.stamp s other)) ∙ is))
  where
    by_first : (p.stamp ≡ s) ⊎ (p.stamp ≡ s → ⊥) → ((p.stamp ≡ s → ⊥) → (q : Pinned) × Contains pins q × (q.stamp ≡ s)) → (q : Pinned) × Contains (p ∷ pins) q × (q.stamp ≡ s)
    by_first (inl same) others = (p, (0, omega arith, refl), same)
    by_first (inr other) others =
        let rest = others other in
        let within = rest.1.1 in
        (rest.0, (suc rest.1.0, omega (arith, within), rest.1.2), rest.2)

pub used : (size : ℕ) (pins : Option (List Pinned)) (files : List FileEntry) (pool : List Bool) → IsPooled size pins files pool → IsUsed size (used_places pins files) pool
used size pins files pool is = record { fresh = is.fresh; area = is.area; apart = is.apart }

pub pooled : (size : ℕ) (pins : Option (List Pinned)) (files : List FileEntry) (pool : List Bool) → IsUsed size (used_places pins files) pool → IsPooled size pins files pool
pooled size pins files pool is = record { fresh = is.fresh; area = is.area; apart = is.apart }

module _ (size next : ℕ) (e : FileEntry) (files : List FileEntry) (rising : AllPairs (λ f g. f.0.number < g.0.number) files) (stamps : AllPairs (λ f g. f.0.stamp ≢ g.0.stamp) files) (there : Contains files e) where
  not_pinned : (pins : Option (List Pinned)) → is_pinned pins e.0.stamp ≡ false → NotPinned e.0.stamp pins
  not_pinned None is = tt
  not_pinned (Some pins) is = none_has pins e.0.stamp is

  used_then : (pins : Option (List Pinned)) (pool : List Bool) → is_pinned pins e.0.stamp ≡ false → IsPooled size pins files pool → IsUsed size (places_of e ++ used_places pins (without_entry e.0.number files)) pool
  used_then pins pool is was =
      used_same size (used_places pins files) (places_of e ++ used_places pins (without_entry e.0.number files)) pool
      (used_without pins e files rising there (not_pinned pins is)) (used size pins files pool was)

  -- what giving them back requires
  pub may_go : (pins : Option (List Pinned)) (pool : List Bool) → is_pinned pins e.0.stamp ≡ false → IsPooled size pins files pool → AllPairs (λ j k. j ≢ k) (places_of e) × All (IsTaken pool) (places_of e)
  may_go pins pool is was = may_give size (places_of e) (used_places pins (without_entry e.0.number files)) pool (used_then pins pool is was)

  -- the blocks that are used with and without this file
  pub use_gone : (pins : Option (List Pinned)) (touched : List ℕ) (b : Bool) → is_pinned pins e.0.stamp ≡ b → PinsAre pins size next files touched
      → SameUse (used_places pins files) ((if b then [] else places_of e) ++ used_places pins (without_entry e.0.number files))
  use_gone pins touched false is are = used_without pins e files rising there (not_pinned pins is)
  use_gone None touched true is are = (let no : ⊥ = cc in absurd no)
  use_gone (Some pins) touched true is are =
      let it = some_has pins e.0.stamp is in
      let p : Pinned = it.0 in
      let pin : IsPinned size next files p = All-contains (IsPinned size next files) pins p are.each it.1 in
      let blocks = All-contains (IsFileOf p) files e pin.current there (sym it.2) in
      used_without_pinned p pins e files rising stamps there are.apart it.1 it.2 (sym blocks.2)

  -- THE POOL without them, unless they are pinned
  pub pool_gone : (pins : Option (List Pinned)) (touched : List ℕ) (old new : List Bool) (b : Bool) → is_pinned pins e.0.stamp ≡ b → GivesUnless b (places_of e) old new → IsPooled size pins files old
      → PinsAre pins size next files touched → IsPooled size pins (without_entry e.0.number files) new
  pool_gone pins touched old new false is gives was are =
      pooled size pins (without_entry e.0.number files) new
      (used_given size (places_of e) (used_places pins (without_entry e.0.number files)) old new (used_then pins old is was) gives)
  pool_gone None touched old new true is gives was are = (let no : ⊥ = cc in absurd no)
  pool_gone (Some pins) touched old new true is gives was are =
      subst (IsPooled size (Some pins) (without_entry e.0.number files)) (sym gives)
      (pooled size (Some pins) (without_entry e.0.number files) old
      (used_same size (used_places (Some pins) files) (used_places (Some pins) (without_entry e.0.number files)) old
      (use_gone (Some pins) touched true is are) (used size (Some pins) files old was)))

-- what the tree requires
pub going_is : (number : ℕ) (before : DiscState) (m : Memory) (going : IsGoing number before m) → finmap.get (by_number m.files) number ≡ Some going.file
going_is number before m going =
    let recs = recs-entries m.files m.online in
    let numbered : AreNumbered m.files = subst AreNumbered recs going.was.stored.rules.numbered in
    let k = going.there.0 in
    let within = going.there.1 in
    let at : StandsAt m.files number k = record {
      within = within;
      has = λ d. ap (λ (r : FileRec). r.number) (get_or_default m.files k d going.file within ∙ going.there.2) ∙ going.number_is;
    } in
    stands_found m.files numbered number k going.file at ∙ ap Some going.there.2

erase_set_ready : (number : ℕ) (before : DiscState) (m : Memory) (pool : List Bool) (first pages : Remembered) (o : OnlineFacts) → facts_of before m ≡ o → IsKept before m → IsAllowed (EraseFile number) o
    → (going : IsGoing number before m) → IsPooled before.size m.pins (without_entry number (entries_of m.files m.online)) pool
    → first ≡ marked 0 m.pages → StillRemembers m.pages first → CoversBut 0 m.pages first → pages ≡ marked (64 + number) first → StillRemembers first pages → CoversBut (64 + number) first pages
    → IsReady (EraseFile number) before m (gone_in (is_some m.pins) m number going.file.owner pool pages)
erase_set_ready number before m pool first pages o is kept allowed going pooled_is marks remembers covers marks' remembers' covers' =
    let h : Head = head_after (is_some m.pins) m.head in
    let n : Memory = gone_in (is_some m.pins) m number going.file.owner pool pages in
    let mid : Directory = directory_of h m.users m.files m.online in
    let was = going.was in
    let old : List FileEntry = entries_of m.files m.online in
    let new : List FileEntry = entries_of (without_file number m.files) (without_copy number m.online) in
    let all : without_entry number old ≡ new = sym (entries_without number m.files m.online) in
    let owner = going.file.owner in
    let recs = recs-entries m.files m.online in
    let owners : All (λ (r : FileRec). r.owner < length m.users) m.files = subst (λ (rs : List FileRec). All (λ (r : FileRec). r.owner < length m.users) rs) recs was.stored.rules.files.owners in
    let less : owner < length m.users = All-contains (λ (r : FileRec). r.owner < length m.users) m.files going.file owners going.there in
    make_ready (EraseFile number) before m n o is kept allowed refl refl refl refl refl
    (keeps_then m.pages first pages (keeps_marked 0 m.pages first marks) (keeps_marked (64 + number) first pages marks'))
    (λ b r. remembers' b (remembers b r))
    (λ s covered. covers' s mid (directory_in n) (covers s (directory_in m) mid covered (but_head (directory_in m) mid refl refl))
    (but_file number mid (directory_in n) refl refl (λ i other. ap (λ (fs : List FileEntry). entry_at fs i) (sym all) ∙ others_found number i old other)))
    (ap (λ (ns : List ℕ). with_all ns m.changed) (sym going.owner))
    (touched_then before.held before.size m.head.next_stamp owner old m.touched m.pins was.pins
    ∙ ap (λ (ns : List ℕ). if is_some (pins_of before.held m.pins) then with_all ns m.touched else []) (sym going.owner))
    (erase_contents before.held (is_some m.pins) m.head m.users m.files m.online number)
    (copies_without number m.files m.online was.copies)
    (places_filter (λ c. not (c.0 == number)) m.online)
    (subst (All CopyFits) all (All-filter (λ (f : FileEntry). not (f.0.number == number)) CopyFits old (fits_still old was.stored.rules.lies)))
    (subst (λ (fs : List FileEntry). IsPooled before.size m.pins fs pool) all pooled_is)
    (subst (λ (fs : List FileEntry). AreNoted (length m.users) fs (with_number owner m.changed) (touched_with m.pins owner m.touched)) all
    (noted_then (length m.users) (length m.users) owner (without_entry number old) m.changed m.touched m.pins less (omega arith) (noted_without (length m.users) number old m.changed m.touched was.noted)))
    (subst (λ (fs : List FileEntry). PinsAre m.pins before.size h.next_stamp fs (touched_with m.pins owner m.touched)) all
    (subst (λ (k : ℕ). PinsAre m.pins before.size k (without_entry number old) (touched_with m.pins owner m.touched)) (sym (next_kept (is_some m.pins) m.head))
    (pins_then before.size m.head.next_stamp owner (without_entry number old) m.touched m.pins (pins_without before.size m.head.next_stamp number old m.touched m.pins was.pins))))

same_file : (a b : FileRec) → (let one : Option FileRec = Some a in one ≡ Some b) → a ≡ b
same_file a b e = cc

no_file : (b : FileRec) → (let none : Option FileRec = None in none ≡ Some b) → ⊥
no_file b e = cc

-- the tree has no other file of this number
pub it_is : (number : ℕ) (before : DiscState) (m : Memory) (file : FileRec) (going : IsGoing number before m) → (let one : Option FileRec = Some file in one ≡ finmap.get (by_number m.files) number) → file ≡ going.file
it_is number before m file going found_is = same_file file going.file (found_is ∙ going_is number before m going)

pub it_is_there : (number : ℕ) (before : DiscState) (m : Memory) (going : IsGoing number before m) → (let none : Option FileRec = None in none ≡ finmap.get (by_number m.files) number) → ⊥
it_is_there number before m going none = no_file going.file (none ∙ going_is number before m going)

pub number_below : (number : ℕ) (before : DiscState) (m : Memory) (k : ℕ) → k ≡ number → IsGoing number before m → 64 + k < 1088
number_below number before m k at going =
    let below : All (λ (r : FileRec). r.number < 1024) m.files = subst (λ (rs : List FileRec). All (λ (r : FileRec). r.number < 1024) rs) (recs-entries m.files m.online) going.was.stored.rules.numbered.below in
    let less : going.file.number < 1024 = All-contains (λ (r : FileRec). r.number < 1024) m.files going.file below going.there in
    let is = going.number_is in
    omega arith

pub owner_below : (number : ℕ) (before : DiscState) (m : Memory) (owner : ℕ) (going : IsGoing number before m) → owner ≡ going.file.owner → owner < 63
owner_below number before m owner going is =
    let owners : All (λ (r : FileRec). r.owner < length m.users) m.files = subst (λ (rs : List FileRec). All (λ (r : FileRec). r.owner < length m.users) rs) (recs-entries m.files m.online) going.was.stored.rules.files.owners in
    let less : going.file.owner < length m.users = All-contains (λ (r : FileRec). r.owner < length m.users) m.files going.file owners going.there in
    let few = going.was.stored.rules.users.few in
    omega arith

-- its blocks
pub places_are : (r : FileRec) (copy : Option DiscCopy) → places_of (r, copy) ≡ copy_places copy
places_are r None = refl
places_are r (Some copy) = refl

pairs_of : (R : FileRec → FileRec → Type 0) (es : List FileEntry) → AllPairs R (map (λ (e : FileEntry). e.0) es) → AllPairs (λ (f : FileEntry) g. R f.0 g.0) es
pairs_of R es all = λ i j d less within.
    let long : j < length (map (λ (e : FileEntry). e.0) es) = omega (arith, within, length-map es (λ (e : FileEntry). e.0)) in
    let first = get_or-map (λ (e : FileEntry). e.0) es i d d.0 (omega (arith, less, within)) in
    let second = get_or-map (λ (e : FileEntry). e.0) es j d d.0 within in
    subst (λ (r : FileRec). R r (get_or es j d).0) first (subst (λ (r : FileRec). R (get_or (map (λ (e : FileEntry). e.0) es) i d.0) r) second (all i j d.0 less long))

pub entries_rise : (files : List FileRec) (online : List (ℕ × DiscCopy)) → AllPairs (λ r s. r.number < s.number) (map (λ (e : FileEntry). e.0) (entries_of files online)) → AllPairs (λ (f : FileEntry) g. f.0.number < g.0.number) (entries_of files online)
entries_rise files online rising = pairs_of (λ (r : FileRec) s. r.number < s.number) (entries_of files online) rising

pub entries_differ : (files : List FileRec) (online : List (ℕ × DiscCopy)) → AllPairs (λ r s. r.stamp ≢ s.stamp) (map (λ (e : FileEntry). e.0) (entries_of files online)) → AllPairs (λ (f : FileEntry) g. f.0.stamp ≢ g.0.stamp) (entries_of files online)
entries_differ files online apart = pairs_of (λ (r : FileRec) s. r.stamp ≢ s.stamp) (entries_of files online) apart

module _ (number : ℕ) (before : DiscState) (m : Memory) (going : IsGoing number before m) where
  abbrev its_entry : FileEntry
  its_entry = (going.file, copy_at m.online going.file.number)

  its_places : places_of its_entry ≡ copy_places (copy_at m.online number)
  its_places = places_are going.file (copy_at m.online going.file.number) ∙ ap (λ (n : ℕ). copy_places (copy_at m.online n)) going.number_is

  rules : AllPairs (λ (f : FileEntry) g. f.0.number < g.0.number) (entries_of m.files m.online) × AllPairs (λ (f : FileEntry) g. f.0.stamp ≢ g.0.stamp) (entries_of m.files m.online)
  rules = (entries_rise m.files m.online going.was.stored.rules.numbered.rising, entries_differ m.files m.online going.was.stored.rules.files.stamps)

  -- what giving them back requires
  pub its_blocks : (stamp : ℕ) (copy : Option DiscCopy) (keeps : Bool) → stamp ≡ going.file.stamp → copy ≡ copy_at m.online number → keeps ≡ is_pinned m.pins stamp → keeps ≡ false
      → AllPairs (λ j k. j ≢ k) (copy_places copy) × All (IsTaken m.pool) (copy_places copy)
  its_blocks stamp copy keeps stamp_is copy_is keeps_is free =
      subst (λ (places : List ℕ). AllPairs (λ j k. j ≢ k) places × All (IsTaken m.pool) places) (its_places ∙ ap copy_places (sym copy_is))
      (may_go before.size m.head.next_stamp its_entry (entries_of m.files m.online) rules.0 rules.1 going.entry m.pins m.pool (ap (is_pinned m.pins) (sym stamp_is) ∙ sym keeps_is ∙ free) going.was.pool)

  pub pool_after : (stamp : ℕ) (copy : Option DiscCopy) (keeps : Bool) (pool : List Bool) → stamp ≡ going.file.stamp → copy ≡ copy_at m.online number → keeps ≡ is_pinned m.pins stamp
      → GivesUnless keeps (copy_places copy) m.pool pool → IsPooled before.size m.pins (without_entry number (entries_of m.files m.online)) pool
  pool_after stamp copy keeps pool stamp_is copy_is keeps_is gives =
      subst (λ (n : ℕ). IsPooled before.size m.pins (without_entry n (entries_of m.files m.online)) pool) going.number_is
      (pool_gone before.size m.head.next_stamp its_entry (entries_of m.files m.online) rules.0 rules.1 going.entry m.pins m.touched m.pool pool keeps (ap (is_pinned m.pins) (sym stamp_is) ∙ sym keeps_is)
      (subst (λ (places : List ℕ). GivesUnless keeps places m.pool pool) (ap copy_places copy_is ∙ sym its_places) gives) going.was.pool going.was.pins)

-- READY
pub erased_ready : (number : ℕ) (before : DiscState) (m : Memory) (pinned : Bool) (head : Head) (users : List UserRec) (files : List FileRec) (online : List (ℕ × DiscCopy)) (pool : List Bool) (k : ℕ) (first pages : Remembered)
    (all touched : List ℕ) (owner : ℕ) (o : OnlineFacts) → (going : IsGoing number before m) → owner ≡ going.file.owner
    → pinned ≡ is_some m.pins → head ≡ head_after pinned m.head → users ≡ m.users → files ≡ without_file number m.files → online ≡ without_copy number m.online → k ≡ 64 + number
    → all ≡ with_number owner m.changed → touched ≡ (if pinned then with_number owner m.touched else m.touched)
    → IsPooled before.size m.pins (without_entry number (entries_of m.files m.online)) pool
    → facts_of before m ≡ o → IsKept before m → IsAllowed (EraseFile number) o
    → first ≡ marked 0 m.pages → StillRemembers m.pages first → CoversBut 0 m.pages first → pages ≡ marked k first → StillRemembers first pages → CoversBut k first pages
    → IsReady (EraseFile number) before m (record m { head = head; users = users; files = files; online = online; pool = pool; pages = pages; changed = all; touched = touched })
erased_ready number before m pinned head users files online pool k first pages all touched owner o going owner_is pinned_is heads users_are files_are online_is at changed_is touched_is pool_is is kept allowed marks remembers covers marks' remembers' covers' =
    let top : head ≡ head_after (is_some m.pins) m.head = heads ∙ ap (λ (b : Bool). head_after b m.head) pinned_is in
    let who : all ≡ with_number going.file.owner m.changed = changed_is ∙ ap (λ (n : ℕ). with_number n m.changed) owner_is in
    let whom : touched ≡ touched_with m.pins going.file.owner m.touched =
    touched_is ∙ ap (λ (b : Bool). if b then with_number owner m.touched else m.touched) pinned_is ∙ ap (λ (n : ℕ). touched_with m.pins n m.touched) owner_is in
    subst (IsReady (EraseFile number) before m)
    (λ i. record m { head = (sym top) i; users = (sym users_are) i; files = (sym files_are) i; online = (sym online_is) i; pool = pool; pages = pages; changed = (sym who) i; touched = (sym whom) i })
    (erase_set_ready number before m pool first pages o is kept allowed going pool_is marks remembers covers
    (subst (λ (j : ℕ). pages ≡ marked j first) at marks') remembers' (subst (λ (j : ℕ). CoversBut j first pages) at covers'))

-- Files with copies on tape are ready to be written.
-- serves: adopt, AdoptedLemmas, CloseLemmas
use Rattle.std.proofs.Common.{◌≡◌, ◌≢◌, ◌⊎◌, ℕ, ◌+◌, ◌==◌, Bool, true, false, List, [], ◌∷◌, ◌++◌, map, Option, Some, None, All, AllPairs, refl, sym, ◌∙◌, ap, subst, arith, inl, inr}
use Rattle.std.specs.Prelude.{Contains, IfSome, is_some}
use Rattle.std.proofs.lemmas.Bool.{cases_Bool, cond-false, cond-true}
use Rattle.std.proofs.lemmas.List.Elements.{All-cons, All-head, All-tail}
use Rattle.g_blocks.specs.Pool.{IsFresh, IsInArea}
use Rattle.g_copy.specs.declared.copy.DiscCopy.{DiscCopy}
use Rattle.g_disc.specs.Disc.{DiscState}
use Rattle.g_entry.specs.declared.file_rec.FileRec.{FileRec}
use Rattle.g_entry.specs.declared.file_rec.TapeCopy.{TapeCopy}
use Rattle.g_entry.specs.declared.head.Head.{Head}
use Rattle.g_entry.specs.declared.user_rec.UserRec.{UserRec}
use Rattle.g_dirs.specs.Directory.{AreCopies, Directory, FileEntry, IsCopyOf, all_places, copy_at, entries_of, places_of}
use Rattle.g_dirs.specs.Pages.{Covers, KeepsPages, Remembered, all_marked}
use Rattle.g_slots.specs.declared.side.Side.{Side}
use Rattle.g_tree.specs.Records.{IsRecords}
use Rattle.g_disc_contents.specs.Contents.{copied_rec, copy_of}
use Rattle.g_disc_contents.specs.Facts.{OnlineFacts}
use Rattle.g_online.specs.declared.change.Change.TheVariants.{Adopt}
use Rattle.g_online.specs.declared.pinned.Pinned.{Pinned}
use Rattle.g_online.specs.AllowedChanges.{IsAllowed}
use Rattle.g_online.specs.Invariant.{IsAgreed, IsKept, IsPooled, Memory, PinsAre, WaitsFor, directory_in, facts_of, head_after, pins_of}
use Rattle.g_online.proofs.ChangeLemmas.{adopt_contents}
use Rattle.g_online.proofs.KeepLemmas.{CopyFits}
use Rattle.g_online.proofs.ReadyLemmas.{StillRemembers, allowed_here, allowed_live, make_ready, rules_then}
use Rattle.g_online.proofs.RecordLemmas.{fits_still, recs_here, touched_stays}
use Rattle.g_online.proofs.StepLemmas.{IsReady}

abbrev pub Tapes : Type 0
Tapes = List (ℕ × TapeCopy)

-- if there is none now, there was none
old_none : (copies : Tapes) (stamp : ℕ) (old : Option TapeCopy) → copy_of copies stamp old ≡ None → old ≡ None
old_none [] stamp old none = none
old_none (c ∷ cs) stamp old none = by_first (cases_Bool (c.0 == stamp)) (old_none cs stamp old)
  where
    by_first : ((c.0 == stamp) ≡ true) ⊎ ((c.0 == stamp) ≡ false) → (copy_of cs stamp old ≡ None → old ≡ None) → old ≡ None
    by_first (inl is) rest =
        let it : (let some : Option TapeCopy = Some c.1 in some ≡ None) = sym (cond-true (c.0 == stamp) (Some c.1) (copy_of cs stamp old) is) ∙ none in
        (let no : ⊥ = cc in absurd no)
    by_first (inr is) rest = rest (sym (cond-false (c.0 == stamp) (Some c.1) (copy_of cs stamp old) is) ∙ none)

module _ (copies : Tapes) (online : List (ℕ × DiscCopy)) where
  abbrev noted : List FileRec → List FileEntry
  noted files = entries_of (map (copied_rec copies) files) online

  place_same : (r s : FileRec) (c : Option DiscCopy) → places_of (s, c) ≡ places_of (r, c)
  place_same r s None = refl
  place_same r s (Some c) = refl

  pub places_noted : (files : List FileRec) → all_places (noted files) ≡ all_places (entries_of files online)
  places_noted [] = refl
  places_noted (r ∷ files) = λ i. place_same r (copied_rec copies r) (copy_at online r.number) i ++ places_noted files i

  fits_same : (r : FileRec) (c : Option DiscCopy) → IfSome c (IsCopyOf r) → IfSome c (IsCopyOf (copied_rec copies r))
  fits_same r None is = tt
  fits_same r (Some c) is = record { len = is.len; count = is.count }

  pub fits_noted : (files : List FileRec) → All CopyFits (entries_of files online) → All CopyFits (noted files)
  fits_noted [] all = λ k d within. absurd (omega arith)
  fits_noted (r ∷ files) all =
      All-cons CopyFits (let e : FileEntry = (copied_rec copies r, copy_at online r.number) in e) (noted files)
      (fits_same r (copy_at online r.number) (All-head CopyFits (let e : FileEntry = (r, copy_at online r.number) in e) (entries_of files online) all))
      (fits_noted files (All-tail CopyFits (let e : FileEntry = (r, copy_at online r.number) in e) (entries_of files online) all))

  pub waits_noted : (changed : List ℕ) (files : List FileRec) → All (λ (e : FileEntry). WaitsFor changed e.0) (entries_of files online) → All (λ (e : FileEntry). WaitsFor changed e.0) (noted files)
  waits_noted changed [] all = λ k d within. absurd (omega arith)
  waits_noted changed (r ∷ files) all =
      let P : FileEntry → Type 0 = λ e. WaitsFor changed e.0 in
      let first = All-head P (let e : FileEntry = (r, copy_at online r.number) in e) (entries_of files online) all in
      All-cons P (let e : FileEntry = (copied_rec copies r, copy_at online r.number) in e) (noted files)
      (λ filled none. first filled (old_none copies r.stamp r.tape none))
      (waits_noted changed files (All-tail P (let e : FileEntry = (r, copy_at online r.number) in e) (entries_of files online) all))

  numbers_noted : (files : List FileRec) → map (λ (r : FileRec). r.number) (map (copied_rec copies) files) ≡ map (λ (r : FileRec). r.number) files
  numbers_noted [] = refl
  numbers_noted (r ∷ files) = ap (λ (ns : List ℕ). r.number ∷ ns) (numbers_noted files)

  pub copies_noted : (files : List FileRec) → AreCopies files online → AreCopies (map (copied_rec copies) files) online
  copies_noted files are = record {
    rising = are.rising;
    files_are = subst (λ (ns : List ℕ). All (λ (c : ℕ × DiscCopy). Contains ns c.0) online) (sym (numbers_noted files)) are.files_are;
  }

-- without pinned versions
pool_none : (held : Option (List (List ℕ))) (size : ℕ) (pins : Option (List Pinned)) (old new : List FileEntry) (pool : List Bool) → pins_of held pins ≡ None → all_places new ≡ all_places old → IsPooled size pins old pool → IsPooled size pins new pool
pool_none held size None old new pool none same was =
    let used : all_places old ++ [] ≡ all_places new ++ [] = ap (λ (ps : List ℕ). ps ++ []) (sym same) in
    record {
      fresh = subst (λ (u : List ℕ). IsFresh size u pool) used was.fresh;
      area = subst (λ (u : List ℕ). All (IsInArea size) u) used was.area;
      apart = subst (λ (u : List ℕ). AllPairs (λ j k. j ≢ k) u) used was.apart;
    }
pool_none held size (Some pins) old new pool none same was = (let no : ⊥ = cc in absurd no)

pins_none : (held : Option (List (List ℕ))) (size next then_next : ℕ) (pins : Option (List Pinned)) (old new : List FileEntry) (touched : List ℕ) → pins_of held pins ≡ None → PinsAre pins size next old touched → PinsAre pins size then_next new touched
pins_none held size next then_next None old new touched none are = are
pins_none held size next then_next (Some pins) old new touched none are = (let no : ⊥ = cc in absurd no)

-- READY
abbrev pub adopted : ℕ → Tapes → Memory → Remembered → Memory
adopted last copies m pages = record m {
  head = head_after (is_some m.pins) (record m.head { last_dump = last });
  files = map (copied_rec copies) m.files;
  pages = pages;
}

adopt_set_ready : (last : ℕ) (copies : Tapes) (before : DiscState) (m : Memory) (pages : Remembered) (o : OnlineFacts) → facts_of before m ≡ o → IsKept before m → IsAllowed (Adopt last copies) o
    → KeepsPages m.pages pages → StillRemembers m.pages pages → ((side : Side) → Covers (directory_in m) side m.pages → Covers (directory_in (adopted last copies m pages)) side pages)
    → IsReady (Adopt last copies) before m (adopted last copies m pages)
adopt_set_ready last copies before m pages o is kept allowed same remembers covers =
    let n : Memory = adopted last copies m pages in
    let was : IsAgreed before m = kept.agreed (allowed_live (Adopt last copies) before m o is allowed) in
    let fits = (allowed_here (Adopt last copies) before m o is allowed).fits in
    let old : List FileEntry = entries_of m.files m.online in
    let new : List FileEntry = entries_of (map (copied_rec copies) m.files) m.online in
    make_ready (Adopt last copies) before m n o is kept allowed refl refl refl refl refl same remembers covers
    refl (touched_stays before.held before.size m.head.next_stamp old m.touched m.pins was.pins)
    (adopt_contents before.held (is_some m.pins) m.head m.users m.files m.online last copies)
    (copies_noted copies m.online m.files was.copies)
    (λ k there. there)
    (fits_noted copies m.online m.files (fits_still old was.stored.rules.lies))
    (pool_none before.held before.size m.pins old new m.pool fits.0 (places_noted copies m.online m.files) was.pool)
    (record {
      changed_are = was.noted.changed_are;
      touched_are = was.noted.touched_are;
      touched_changed = was.noted.touched_changed;
      waits = waits_noted copies m.online m.changed m.files was.noted.waits;
    })
    (pins_none before.held before.size m.head.next_stamp n.head.next_stamp m.pins old new m.touched fits.0 was.pins)

-- if what has changed is marked
pub noted_ready : (last : ℕ) (copies listed : Tapes) (before : DiscState) (m : Memory) (pinned : Bool) (head : Head) (users : List UserRec) (files : List FileRec) (pages : Remembered) (o : OnlineFacts)
    → listed ≡ copies → pinned ≡ is_some m.pins → head ≡ head_after pinned (record m.head { last_dump = last }) → users ≡ m.users → files ≡ map (copied_rec listed) m.files
    → facts_of before m ≡ o → IsKept before m → IsAllowed (Adopt last copies) o
    → KeepsPages m.pages pages → StillRemembers m.pages pages → ((side : Side) → Covers (directory_in m) side m.pages → Covers (directory_in (adopted last copies m pages)) side pages)
    → IsReady (Adopt last copies) before m (record m { head = head; users = users; files = files; pages = pages })
noted_ready last copies listed before m pinned head users files pages o listed_is pinned_is heads users_are files_are is kept allowed same remembers covers =
    let top : head ≡ head_after (is_some m.pins) (record m.head { last_dump = last }) = heads ∙ ap (λ (b : Bool). head_after b (record m.head { last_dump = last })) pinned_is in
    let them : files ≡ map (copied_rec copies) m.files = files_are ∙ ap (λ (cs : Tapes). map (copied_rec cs) m.files) listed_is in
    subst (IsReady (Adopt last copies) before m) (λ i. record m { head = (sym top) i; users = (sym users_are) i; files = (sym them) i; pages = pages })
    (adopt_set_ready last copies before m pages o is kept allowed same remembers covers)

-- if all is marked
pub adopt_ready : (last : ℕ) (copies listed : Tapes) (before : DiscState) (m : Memory) (pinned : Bool) (head : Head) (users : List UserRec) (files : List FileRec) (pages : Remembered) (o : OnlineFacts)
    → listed ≡ copies → pinned ≡ is_some m.pins → head ≡ head_after pinned (record m.head { last_dump = last }) → users ≡ m.users → files ≡ map (copied_rec listed) m.files
    → facts_of before m ≡ o → IsKept before m → IsAllowed (Adopt last copies) o → pages ≡ all_marked m.pages → StillRemembers m.pages pages → ((side : Side) (d : Directory) → Covers d side pages)
    → IsReady (Adopt last copies) before m (record m { head = head; users = users; files = files; pages = pages })
adopt_ready last copies listed before m pinned head users files pages o listed_is pinned_is heads users_are files_are is kept allowed marks remembers covers =
    noted_ready last copies listed before m pinned head users files pages o listed_is pinned_is heads users_are files_are is kept allowed
    (record { a = ap (λ (p : Remembered). p.a) marks; b = ap (λ (p : Remembered). p.b) marks })
    remembers (λ s covered. covers s (directory_in (adopted last copies m pages)))

-- what the tree requires
pub adopt_rules : (last : ℕ) (copies listed : Tapes) (before : DiscState) (m : Memory) (o : OnlineFacts) → listed ≡ copies → facts_of before m ≡ o → IsKept before m → IsAllowed (Adopt last copies) o
    → IsRecords m.users (map (copied_rec listed) m.files)
adopt_rules last copies listed before m o listed_is is kept allowed =
    let rules = (rules_then (Adopt last copies) before m (adopted last copies m m.pages) o is allowed (adopt_contents before.held (is_some m.pins) m.head m.users m.files m.online last copies)).records in
    subst (λ (cs : Tapes). IsRecords m.users (map (copied_rec cs) m.files)) (sym listed_is) (subst (IsRecords m.users) (recs_here before.held (map (copied_rec copies) m.files) m.online) rules)

-- The copies of a dump of all versions are noted, and no user counts as changed.
-- serves: adopt_ready, ready_adopt
use Rattle.std.proofs.Common.{◌≡◌, ◌≢◌, ◌⊎◌, ℕ, ◌<◌, ◌==◌, true, false, List, [], ◌∷◌, length, get_or, map, Option, Some, None, Result, Ok, Err, All, refl, sym, ◌∙◌, ap, subst, arith, inl, inr}
use Rattle.std.specs.Prelude.{is_some, OnOk}
use Rattle.std.proofs.lemmas.Bool.{cases_Bool, cond-false, cond-true, eq-eqb}
use Rattle.std.proofs.lemmas.List.Elements.{All-cons, All-head, All-tail}
use Rattle.g_copy.specs.declared.copy.DiscCopy.{DiscCopy}
use Rattle.g_disc.specs.Disc.{DiscState}
use Rattle.g_entry.specs.declared.file_rec.FileRec.{FileRec}
use Rattle.g_entry.specs.declared.file_rec.TapeCopy.{TapeCopy}
use Rattle.g_entry.specs.declared.head.Head.{Head}
use Rattle.g_entry.specs.declared.user_rec.UserRec.{UserRec}
use Rattle.g_slots.specs.declared.side.Side.{Side}
use Rattle.g_dirs.specs.Directory.{Directory, FileEntry, copy_at, directory_of, entries_of}
use Rattle.g_dirs.specs.Pages.{Covers, Remembered, all_marked}
use Rattle.g_tree.specs.Records.{IsRecords}
use Rattle.g_disc_contents.specs.Contents.{Contents, File, contents_of, copied_rec, copy_of, file_of, recs_in, with_copies}
use Rattle.g_disc_contents.specs.Facts.{OnlineFacts}
use Rattle.g_online.specs.declared.change.Change.TheVariants.{Adopt}
use Rattle.g_online.specs.declared.fault.OnlineFault.{OnlineFault}
use Rattle.g_online.specs.declared.pinned.Pinned.{Pinned}
use Rattle.g_online.specs.AllowedChanges.{IsAllowed, KeepsRules}
use Rattle.g_online.specs.Invariant.{AreNoted, IsKept, Memory, PinsAre, WaitsFor, directory_in, facts_of, pins_of}
use Rattle.g_online.specs.ReadyCopies.{CoverAll, IsAdopting, IsReadyFor, Readied, adopted, ready_with, HasAdopted}
use Rattle.g_online.proofs.AdoptLemmas.{adopt_ready}
use Rattle.g_online.proofs.NotedLemmas.{IsNotedBy, MayNote, adopted_is, HasNoted}
use Rattle.g_online.proofs.PinLostLemmas.{no_numbers}
use Rattle.g_online.proofs.ReadyLemmas.{StillRemembers}
use Rattle.g_online.proofs.RecordLemmas.{recs_here}
use Rattle.g_online.proofs.StepLemmas.{IsReady}
use Rattle.g_online.proofs.TieLemmas.{rec_of}

abbrev Tapes : Type 0
Tapes = List (ℕ × TapeCopy)

-- AN EMPTY FILE has no copy in the list, if its record has none then
none_for : (copies : Tapes) (stamp : ℕ) (old : Option TapeCopy) → copy_of copies stamp old ≡ None → All (λ (c : ℕ × TapeCopy). c.0 ≢ stamp) copies
none_for [] stamp old none = λ k d within. (let no : ⊥ = omega (arith, within) in absurd no)
none_for (c ∷ cs) stamp old none = by_first (cases_Bool (c.0 == stamp)) (none_for cs stamp old)
  where
    by_first : ((c.0 == stamp) ≡ true) ⊎ ((c.0 == stamp) ≡ false) → (copy_of cs stamp old ≡ None → All (λ (d : ℕ × TapeCopy). d.0 ≢ stamp) cs) → All (λ (d : ℕ × TapeCopy). d.0 ≢ stamp) (c ∷ cs)
    by_first (inl is) rest =
        let it : (let some : Option TapeCopy = Some c.1 in some ≡ None) = sym (cond-true (c.0 == stamp) (Some c.1) (copy_of cs stamp old) is) ∙ none in
        (let no : ⊥ = cc in absurd no)
    by_first (inr is) rest =
        All-cons (λ (d : ℕ × TapeCopy). d.0 ≢ stamp) c cs (λ same. (let both : true ≡ false = sym (eq-eqb c.0 stamp same) ∙ is in let no : ⊥ = cc in no))
        (rest (sym (cond-false (c.0 == stamp) (Some c.1) (copy_of cs stamp old) is) ∙ none))

-- what holds of each record with its copies, of the files of the contents
each_file : (P : FileRec → Type 0) (copies : Tapes) (files : List File) → All P (map (λ (f : File). f.rec) (with_copies copies files)) → All (λ (f : File). P (copied_rec copies f.rec)) files
each_file P copies [] all = λ k d within. (let no : ⊥ = omega (arith, within) in absurd no)
each_file P copies (f ∷ files) all =
    let rest : List FileRec = map (λ (g : File). g.rec) (with_copies copies files) in
    All-cons (λ (g : File). P (copied_rec copies g.rec)) f files (All-head P (copied_rec copies f.rec) rest all) (each_file P copies files (All-tail P (copied_rec copies f.rec) rest all))

empty_apart : (copies : Tapes) (users : List UserRec) (files : List File) → IsRecords users (map (λ (f : File). f.rec) (with_copies copies files))
    → All (λ (f : File). f.rec.len ≡ 0 → All (λ (c : ℕ × TapeCopy). c.0 ≢ f.rec.stamp) copies) files
empty_apart copies users files rules =
    let each = each_file (λ (r : FileRec). r.len ≡ 0 → r.tape ≡ None) copies files rules.among_files.empty in
    λ k d within. λ empty. none_for copies (get_or files k d).rec.stamp (get_or files k d).rec.tape (each k d within empty)

-- no user is changed, if every version has a copy
nobody_waits : (copies : Tapes) (held : Option (List (List ℕ))) (files : List FileRec) (online : List (ℕ × DiscCopy))
    → All (λ (f : File). 0 < f.rec.len → is_some (copied_rec copies f.rec).tape ≡ true) (map (file_of held) (entries_of files online))
    → All (λ (e : FileEntry). WaitsFor [] e.0) (entries_of (map (copied_rec copies) files) online)
nobody_waits copies held [] online all = λ k d within. (let no : ⊥ = omega (arith, within) in absurd no)
nobody_waits copies held (r ∷ files) online all =
    let P : File → Type 0 = λ f. 0 < f.rec.len → is_some (copied_rec copies f.rec).tape ≡ true in
    let e : FileEntry = (r, copy_at online r.number) in
    let first : 0 < r.len → is_some (copied_rec copies r).tape ≡ true =
    subst (λ (q : FileRec). 0 < q.len → is_some (copied_rec copies q).tape ≡ true) (rec_of held e) (All-head P (file_of held e) (map (file_of held) (entries_of files online)) all) in
    All-cons (λ (e : FileEntry). WaitsFor [] e.0) (let f : FileEntry = (copied_rec copies r, copy_at online r.number) in f) (entries_of (map (copied_rec copies) files) online)
    (λ filled none. (let wrong : is_some (let o : Option TapeCopy = None in o) ≡ true = sym (ap (λ (o : Option TapeCopy). is_some o) none) ∙ first filled in let no : ⊥ = cc in absurd no))
    (nobody_waits copies held files online (All-tail P (file_of held e) (map (file_of held) (entries_of files online)) all))

no_pins : (held : Option (List (List ℕ))) (pins : Option (List Pinned)) → pins_of held pins ≡ None → pins ≡ None
no_pins held None none = refl
no_pins held (Some pins) none = (let no : ⊥ = cc in absurd no)

none_touched : (pins : Option (List Pinned)) (size next : ℕ) (files : List FileEntry) (touched : List ℕ) → pins ≡ None → PinsAre pins size next files touched → touched ≡ []
none_touched None size next files touched none are = are
none_touched (Some pins) size next files touched none are = (let no : ⊥ = cc in absurd no)

-- WHAT IS KNOWN BEFORE IT
pub record IsToAdopt (last : ℕ) (copies : Tapes) (before : DiscState) (m : Memory) (users : List UserRec) (files : List FileRec) : Type 0 where
  pub kept : IsKept before m
  pub live : m.live ≡ true
  pub none : (facts_of before m).pins ≡ None
  pub users_are : users ≡ m.users
  pub files_are : files ≡ map (copied_rec copies) m.files
  pub covers : CoverAll copies (facts_of before m).contents
  pub rules : KeepsRules (adopted last copies (facts_of before m).contents)

pub to_adopt : (last : ℕ) (copies : Tapes) (before : DiscState) (m : Memory) (o : OnlineFacts) (ready : Readied) (users : List UserRec) (files : List FileRec) → facts_of before m ≡ o → IsKept before m
    → (let r : Readied = record { users = users; files = files } in r ≡ ready) → o.live ≡ true → o.pins ≡ None → IsReadyFor last copies ready o → IsToAdopt last copies before m users files
to_adopt last copies before m o ready users files is kept same live none for = record {
  kept = kept;
  live = ap (λ (p : OnlineFacts). p.live) is ∙ live;
  none = ap (λ (p : OnlineFacts). p.pins) is ∙ none;
  users_are = ap (λ (r : Readied). r.users) all;
  files_are = ap (λ (r : Readied). r.files) all ∙ ap (map (copied_rec copies)) (recs_here before.held m.files m.online);
  covers = subst (λ (p : OnlineFacts). CoverAll copies p.contents) (sym is) for.covers;
  rules = subst (λ (p : OnlineFacts). KeepsRules (adopted last copies p.contents)) (sym is) for.rules;
}
  where
    all : (let r : Readied = record { users = users; files = files } in r ≡ ready_with copies (facts_of before m).contents)
    all = same ∙ for.ready_is ∙ ap (λ (p : OnlineFacts). ready_with copies p.contents) (sym is)

module _ (last : ℕ) (copies : Tapes) (before : DiscState) (m : Memory) (users : List UserRec) (files : List FileRec) (may : IsToAdopt last copies before m users files) where
  allowed : IsAllowed (Adopt last copies) (facts_of before m)
  allowed = record {
    live = may.live;
    fits = (may.none, empty_apart copies m.users (facts_of before m).contents.files may.rules.records);
    rules = subst KeepsRules (sym (adopted_is (is_some before.held) last copies (facts_of before m) may.none)) may.rules;
  }

  unpinned : m.pins ≡ None
  unpinned = no_pins before.held m.pins may.none

  untouched : m.touched ≡ []
  untouched = none_touched m.pins before.size m.head.next_stamp (directory_in m).files m.touched unpinned (may.kept.agreed may.live).pins

  abbrev pub noted_all : Remembered → Memory
  noted_all pages = record m { head = record m.head { last_dump = last; intent = None }; users = users; files = files; pages = pages }

  pub adopting_ready : (pages : Remembered) → pages ≡ all_marked m.pages → StillRemembers m.pages pages → ((side : Side) (d : Directory) → Covers d side pages) → IsReady (Adopt last copies) before m (noted_all pages)
  adopting_ready pages marks remembers covers =
      adopt_ready last copies copies before m false (record m.head { last_dump = last; intent = None }) users files pages (facts_of before m)
      refl (sym (ap (λ (pins : Option (List Pinned)). is_some pins) unpinned)) refl may.users_are may.files_are refl may.kept allowed marks remembers covers

  nobody_noted : (all : List ℕ) → all ≡ [] → AreNoted (length users) (entries_of files m.online) all m.touched
  nobody_noted all all_is =
      subst (λ (ns : List ℕ). AreNoted (length users) (entries_of files m.online) ns m.touched) (sym all_is)
      (subst (λ (ns : List ℕ). AreNoted (length users) (entries_of files m.online) [] ns) (sym untouched)
      (record {
        changed_are = no_numbers (length users);
        touched_are = no_numbers (length users);
        touched_changed = λ k d within. (let no : ⊥ = omega (arith, within) in absurd no);
        waits = subst (λ (fs : List FileRec). All (λ (e : FileEntry). WaitsFor [] e.0) (entries_of fs m.online)) (sym may.files_are) (nobody_waits copies before.held m.files m.online may.covers.each);
      }))

  pub may_note : (pages : Remembered) (all : List ℕ) → all ≡ [] → pages ≡ all_marked m.pages → StillRemembers m.pages pages → ((side : Side) (d : Directory) → Covers d side pages)
      → MayNote last copies all m.touched before m (noted_all pages)
  may_note pages all all_is marks remembers covers = record {
    ready = adopting_ready pages marks remembers covers;
    none = may.none;
    unpinned = unpinned;
    nobody = untouched;
    noted = nobody_noted all all_is;
  }

-- HOW IT IS ANSWERED
adopted_ok : (last : ℕ) (copies : Tapes) (all : List ℕ) (old new : OnlineFacts) → all ≡ [] → (result : Result (Unit {0}) OnlineFault) → OnOk result (HasNoted last copies all old new) → OnOk result (HasAdopted last copies old new)
adopted_ok last copies all old new all_is (Err e) noted = tt
adopted_ok last copies all old new all_is (Ok u) noted =
    record { live = noted.live; contents = noted.contents; pins = noted.pins; changed = noted.changed ∙ all_is; touched = noted.touched; blocks = noted.blocks; commits = noted.commits; writes = noted.writes; durable = noted.durable }

pub adopting_is : (last : ℕ) (copies : Tapes) (all : List ℕ) (old o new : OnlineFacts) (result : Result (Unit {0}) OnlineFault) → all ≡ [] → old ≡ o → IsNotedBy last copies all old new result → IsAdopting last copies o new result
adopting_is last copies all old o new result all_is is noted = subst (λ (p : OnlineFacts). IsAdopting last copies p new result) is (record {
  ok = adopted_ok last copies all old new all_is result noted.ok;
  stopped = noted.stopped;
  causes = noted.causes;
  tied = noted.tied;
  told = noted.told;
  only = noted.only;
})

-- IF RECORDS ARE PREPARED: what the tree requires, and what they are
module _ (copies : Tapes) (held : Option (List (List ℕ))) (head : Head) (users : List UserRec) (files : List FileRec) (online : List (ℕ × DiscCopy)) (c : Contents) (is : contents_of held (directory_of head users files online) ≡ c) where
  pub ready_rules : IsRecords c.users (map (copied_rec copies) (recs_in c)) → IsRecords users (map (copied_rec copies) files)
  ready_rules rules =
      subst (λ (rs : List FileRec). IsRecords users (map (copied_rec copies) rs)) (recs_here held files online)
      (subst (λ (d : Contents). IsRecords d.users (map (copied_rec copies) (recs_in d))) (sym is) rules)

  pub readied_is : (now : List UserRec) (noted_files : List FileRec) → now ≡ users → noted_files ≡ map (copied_rec copies) files
      → (let r : Readied = record { users = now; files = noted_files } in r ≡ ready_with copies c)
  readied_is now noted_files users_are files_are =
      (λ i. let r : Readied = record { users = users_are i; files = (files_are ∙ ap (map (copied_rec copies)) (sym (recs_here held files online))) i } in r)
      ∙ ap (ready_with copies) is

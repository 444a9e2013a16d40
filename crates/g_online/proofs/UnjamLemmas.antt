-- Files are taken off the disc by a commit of their own, before new bytes are written.
-- serves: forget_all, unjam_first (off), BringStepLemmas, NeedLemmas, NewBytesLemmas, PutStepLemmas, WrittenLemmas
use Rattle.std.proofs.Common.{◌≡◌, ◌⊎◌, ℕ, ◌+◌, ◌-◌, ◌<◌, ◌≤◌, Bool, true, false, List, [], ◌∷◌, ◌++◌, length, get_or, map, Option, None, Result, Ok, Err, All, AllPairs, refl, sym, ◌∙◌, ap, subst, arith, inl, inr, length-append, not}
use Rattle.std.specs.Prelude.{OnErr, OnOk, is_some}
use Rattle.std.specs.Option.{ForSome}
use Rattle.std.proofs.lemmas.Bool.{cases_Bool, cond-false, cond-true}
use Rattle.std.proofs.lemmas.List.{get_or-map, length-map}
use Rattle.std.proofs.lemmas.List.Elements.{All-map, All-weaker}
use Rattle.g_base.specs.ToldContent.{Changes}
use Rattle.g_blocks.specs.Pool.{HasGiven, IsInArea, free_count}
use Rattle.g_copy.specs.declared.copy.DiscCopy.{DiscCopy}
use Rattle.g_disc.specs.Disc.{DiscState, WritesOnly}
use Rattle.g_entry.specs.declared.file_rec.FileRec.{FileRec}
use Rattle.g_entry.specs.declared.format.Format.TheVariants.{Two}
use Rattle.g_entry.specs.declared.head.Head.{Head}
use Rattle.g_entry.specs.declared.user_rec.UserRec.{UserRec}
use Rattle.g_entry.specs.FileFields.{IsFile}
use Rattle.g_entry.specs.Formats.{is_place}
use Rattle.g_entry.specs.HeadFields.{IsHead}
use Rattle.g_entry.specs.Rules.{AreFiles, AreNumbered, StampsBelow}
use Rattle.g_slots.specs.declared.side.Side.{Side}
use Rattle.g_dirs.specs.Commit.{OldOrNew}
use Rattle.g_dirs.specs.Directory.{AreCopies, AreRecords, Directory, FileEntry, IsDirectory, LiesSomewhere, all_places, directory_of, entries_of, recs}
use Rattle.g_dirs.specs.Image.{entry_at}
use Rattle.g_dirs.specs.Pages.{KeepsPages, Remembered, marked}
use Rattle.g_dirs.proofs.CopyLemmas.{recs-entries}
use Rattle.g_disc_contents.specs.Contents.{File, contents_of, file_of, has, taken_off}
use Rattle.g_disc_contents.specs.Facts.{OnlineFacts, room_with}
use Rattle.g_online.specs.declared.change.Change.{Change}
use Rattle.g_online.specs.declared.change.Change.TheVariants.{Unload}
use Rattle.g_online.specs.declared.fault.OnlineFault.{OnlineFault}
use Rattle.g_online.specs.declared.fault.OnlineFault.TheVariants.{Stopped}
use Rattle.g_online.specs.AllowedChanges.{IsAllowed}
use Rattle.g_online.specs.Change.{need_of}
use Rattle.g_online.specs.Commit.{CommitStopped, HasCommitted, IsMarked, commit_blocks}
use Rattle.g_online.specs.Copies.{without_copies, without_copy}
use Rattle.g_online.specs.Outcomes.{IsApplied, room_for}
use Rattle.g_online.specs.Invariant.{AreNoted, AreWhole, IsKept, IsPooled, Memory, PinsAre, directory_in, facts_of, head_after, orphans, used_places}
use Rattle.g_online.specs.Unloading.{MarksFiles, places_off}
use Rattle.g_online.specs.NewBytes.{IsUntouched, Parts, TakesFilesOff}
use Rattle.g_online.proofs.CopiedPlaces.{places_filter}
use Rattle.g_online.proofs.ChangeLemmas.{unload_contents}
use Rattle.g_online.proofs.ContentLemmas.{taken_away}
use Rattle.g_online.proofs.CopyLemmas.{Copies}
use Rattle.g_online.proofs.KeepLemmas.{small}
use Rattle.g_online.proofs.MarkLemmas.{but_head, same_block}
use Rattle.g_online.proofs.OffLemmas.{both_filters, marks_more, marks_none, no_filter}
use Rattle.g_online.proofs.ReadyLemmas.{CoversBut, StillRemembers, allowed_here, allowed_live, pairs_left}
use Rattle.g_online.proofs.RecordLemmas.{next_kept, touched_stays}
use Rattle.g_online.proofs.RoomLemmas.{blocks_are, lost_are}
use Rattle.g_online.proofs.SameLemmas.{left_part}
use Rattle.g_online.proofs.StepLemmas.{IsReady, applied, beside_none, kept_behind}
use Rattle.g_online.proofs.TwoLemmas.{IsNeeding, Way, first_applied, not_done, stopped_is}
use Rattle.g_online.proofs.UseLemmas.{same_length}
use Rattle.g_online.proofs.UnloadLemmas.{IsCopied, IsUnloadable, copies_off, covers_off, entries_off, not_among, noted_off, off_entry, others_off, pins_off, pool_then, remembers_pages, unloadable}
use Rattle.g_online.proofs.MemoryLemmas.{kept_anew}

-- COPIES FORGOTTEN one by one, and their records marked
pub record IsForgotten (numbers : List ℕ) (online next : Copies) (old new : Remembered) : Type 0 where
  pub copies : next ≡ without_copies numbers online
  pub marks : MarksFiles numbers old new

pub forgotten_none : (online : Copies) (pages : Remembered) → IsForgotten [] online online pages pages
forgotten_none online pages = record { copies = no_filter online; marks = marks_none pages }

pub forgotten_more : (ns : List ℕ) (n : ℕ) (online next last : Copies) (old mid new : Remembered) → IsForgotten ns online next old mid → last ≡ without_copy n next → new ≡ marked (64 + n) mid → IsForgotten (ns ++ n ∷ []) online last old new
forgotten_more ns n online next last old mid new was gone is = record {
  copies = gone ∙ ap (without_copy n) was.copies ∙ both_filters ns n online;
  marks = marks_more ns n old mid new was.marks is;
}

-- THE COMMIT of the files that are left
unjam_set_marked : (numbers : List ℕ) (before : DiscState) (side : Side) (old first mid : Remembered) (h k : Head) (users : List UserRec) (files : List FileRec) (online : Copies)
    → IsMarked before side old (directory_of h users files online) → StillRemembers old first → CoversBut 0 old first → MarksFiles numbers first mid
    → AreRecords Two (directory_of k users files (without_copies numbers online)) → IsDirectory before.size (directory_of k users files (without_copies numbers online))
    → IsMarked before side mid (directory_of k users files (without_copies numbers online))
unjam_set_marked numbers before side old first mid h k users files online was remembers covers off records rules =
    let d : Directory = directory_of h users files online in
    let middle : Directory = directory_of k users files online in
    let new : Directory = directory_of k users files (without_copies numbers online) in
    record {
      size = was.size;
      gate = was.gate;
      remembers = λ b told. remembers_pages first mid off.pages b (remembers b (was.remembers b told));
      covers = λ s. covers_off numbers s middle new first mid off (covers s d middle (was.covers s) (but_head d middle refl refl))
          (λ j away. same_block middle new j (λ zero_is. refl) (λ low less. refl)
          (λ past. ap (λ (fs : List FileEntry). entry_at fs (j - 64)) (entries_off numbers files online) ∙ others_off numbers (j - 64) (entries_of files online) (not_among numbers (j - 64) j (omega (arith, past)) away)));
      records = records;
      rules = rules;
    }

pub unjam_marked : (numbers : List ℕ) (before : DiscState) (side : Side) (old first mid : Remembered) (h k top : Head) (users : List UserRec) (files : List FileRec) (online next slice : Copies)
    → IsMarked before side old (directory_of h users files online) → StillRemembers old first → CoversBut 0 old first → MarksFiles numbers first mid
    → AreRecords Two (directory_of top users files (without_copies numbers online)) → IsDirectory before.size (directory_of top users files (without_copies numbers online))
    → k ≡ top → next ≡ without_copies numbers online → slice ≡ next
    → IsMarked before side mid (directory_of k users files slice)
unjam_marked numbers before side old first mid h k top users files online next slice was remembers covers off records rules is left same =
    subst (IsMarked before side mid) (λ i. directory_of ((sym is) i) users files ((sym (same ∙ left)) i))
    (unjam_set_marked numbers before side old first mid h top users files online was remembers covers off records rules)

pub unjam_copies : (numbers : List ℕ) (files : List FileRec) (online next slice : Copies) → AreCopies files online → next ≡ without_copies numbers online → slice ≡ next → AreCopies files slice
unjam_copies numbers files online next slice was left same = subst (AreCopies files) (sym (same ∙ left)) (copies_off numbers files online was)

pub takes_off : (numbers : List ℕ) (pinned : Bool) (users : List UserRec) (files : List FileRec) (before after : DiscState) (x y : Parts) (mid : Remembered) (slice : Copies) (result : Result (Unit {0}) OnlineFault)
    → slice ≡ y.online → y.head ≡ head_after pinned x.head → y.online ≡ without_copies numbers x.online → KeepsPages x.pages mid
    → IsMarked before x.side mid (directory_of y.head users files slice)
    → OnOk result (HasCommitted (directory_of y.head users files slice) before after x.side y.side mid y.pages)
    → OnErr result (CommitStopped (directory_of y.head users files slice) before after mid)
    → WritesOnly (commit_blocks (directory_of y.head users files slice) x.side mid) before after result → ForSome after.held (AreWhole after.size)
    → OnOk result (y.live ≡ x.live) → OnErr result (y.live ≡ false) → OnErr result (result ≡ Err Stopped)
    → TakesFilesOff numbers pinned users files before after x y result
takes_off numbers pinned users files before after x y mid slice result same head online pages marked_is ok stopped counts whole lives dies only = record {
  head = head;
  online = online;
  mid = mid;
  pages = pages;
  marked = subst (λ (on : Copies). IsMarked before x.side mid (directory_of y.head users files on)) same marked_is;
  ok = subst (λ (on : Copies). OnOk result (HasCommitted (directory_of y.head users files on) before after x.side y.side mid y.pages)) same ok;
  stopped = subst (λ (on : Copies). OnErr result (CommitStopped (directory_of y.head users files on) before after mid)) same stopped;
  counts = subst (λ (on : Copies). WritesOnly (commit_blocks (directory_of y.head users files on) x.side mid) before after result) same counts;
  whole = whole;
  lives = lives;
  dies = dies;
  only = only;
}

-- WHAT IS LEFT satisfies the rules
each_entry : (P : FileRec → Type 0) (es : List FileEntry) → All P (map (λ (e : FileEntry). e.0) es) → All (λ (e : FileEntry). P e.0) es
each_entry P es all k d within =
    subst P (get_or-map (λ (e : FileEntry). e.0) es k d d.0 within) (all k d.0 (omega (arith, within, length-map es (λ (e : FileEntry). e.0))))

off_lies_one : (numbers : List ℕ) (e : FileEntry) → LiesSomewhere e → IsCopied numbers e → (e.0.len ≡ 0 → e.0.tape ≡ None) → LiesSomewhere (off_entry numbers e)
off_lies_one numbers e lies copied empty = by_case (cases_Bool (has numbers e.0.number))
  where
    by_case : (has numbers e.0.number ≡ true) ⊎ (has numbers e.0.number ≡ false) → LiesSomewhere (off_entry numbers e)
    by_case (inl is) =
        subst (λ (c : Option DiscCopy). LiesSomewhere (let f : FileEntry = (e.0, c) in f)) (sym (cond-true (has numbers e.0.number) None e.1 is))
        (record { lies = inr (copied is); empty = λ none. (let wrong = sym (copied is) ∙ ap is_some (empty none) in let no : ⊥ = cc in absurd no); copy = tt })
    by_case (inr is) = subst (λ (c : Option DiscCopy). LiesSomewhere (let f : FileEntry = (e.0, c) in f)) (sym (cond-false (has numbers e.0.number) None e.1 is)) lies

pub off_lies : (numbers : List ℕ) (es : List FileEntry) → All LiesSomewhere es → All (IsCopied numbers) es → All (λ (e : FileEntry). e.0.len ≡ 0 → e.0.tape ≡ None) es → All LiesSomewhere (map (off_entry numbers) es)
off_lies numbers es lies copied empty =
    All-map LiesSomewhere (off_entry numbers) es (λ k d within. off_lies_one numbers (get_or es k d) (lies k d within) (copied k d within) (empty k d within))

module _ (numbers : List ℕ) (before : DiscState) (m : Memory) (un : IsUnloadable numbers before m) where
  abbrev left : List FileEntry
  left = entries_of m.files (without_copies numbers m.online)

  left_lies : All LiesSomewhere left
  left_lies =
      subst (All LiesSomewhere) (sym (entries_off numbers m.files m.online))
      (off_lies numbers (entries_of m.files m.online) un.was.stored.rules.lies un.copied (each_entry (λ (r : FileRec). r.len ≡ 0 → r.tape ≡ None) (entries_of m.files m.online) un.was.stored.rules.files.empty))

  left_pins : PinsAre m.pins before.size m.head.next_stamp left m.touched
  left_pins =
      subst (λ (fs : List FileEntry). PinsAre m.pins before.size m.head.next_stamp fs m.touched) (sym (entries_off numbers m.files m.online))
      (pins_off before.size m.head.next_stamp numbers (entries_of m.files m.online) m.touched m.pins un.copied un.was.pins)

  -- THE ROOM if they were taken off
  pub room_left : free_count m.pool + length (places_off numbers m.online) ≡ room_with (taken_off numbers (contents_of before.held (directory_in m)).files) (facts_of before m)
  room_left =
      let count : 2177 + free_count m.pool + length (used_places m.pins (entries_of m.files m.online)) ≡ before.size = un.was.pool.fresh.count in
      let now : free_count m.pool + length (places_off numbers m.online) ≡ room_with (map (file_of before.held) left) (facts_of before m) =
      omega (
        arith,
        count,
        same_length (used_places m.pins (entries_of m.files m.online)) (places_off numbers m.online ++ used_places m.pins left) un.blocks,
        length-append (places_off numbers m.online) (used_places m.pins left),
        length-append (all_places left) (orphans m.pins left),
        blocks_are before.held left left_lies,
        lost_are before.size m.head.next_stamp before.held left m.touched m.pins left_pins,
      ) in
      now ∙ ap (λ (fs : List File). room_with fs (facts_of before m)) (taken_away before.held numbers m.files m.online)

  head_rules : (pinned : Bool) (h : Head) → IsHead h → IsHead (head_after pinned h)
  head_rules true h is = is
  head_rules false h is = record { least_stamp = is.least_stamp; most_stamp = is.most_stamp; last_dump = is.last_dump; intent = tt }

  pub left_rules : (pool : List Bool) → before.size ≤ 1_048_576 → HasGiven (places_off numbers m.online) m.pool pool
      → AreRecords Two (directory_of (head_after (is_some m.pins) m.head) m.users m.files (without_copies numbers m.online))
      × IsDirectory before.size (directory_of (head_after (is_some m.pins) m.head) m.users m.files (without_copies numbers m.online))
  left_rules pool most given =
      let was = un.was.stored in
      let pooled = pool_then numbers before m pool un given in
      let area = left_part (IsInArea before.size) (all_places left) (orphans m.pins left) pooled.area in
      let same : recs (entries_of m.files m.online) ≡ recs left = recs-entries m.files m.online ∙ sym (recs-entries m.files (without_copies numbers m.online)) in (
        record {
          head = head_rules (is_some m.pins) m.head was.records.head;
          users = was.records.users;
          files = subst (All IsFile) same was.records.files;
          places = All-weaker (IsInArea before.size) (λ (k : ℕ). is_place Two k ≡ true) (small before.size most) (all_places left) area;
        },
        record {
          users = was.rules.users;
          numbered = subst AreNumbered same was.rules.numbered;
          files = subst (AreFiles (length m.users)) same was.rules.files;
          dated = subst (λ (k : ℕ). StampsBelow k (recs left)) (sym (next_kept (is_some m.pins) m.head)) (subst (StampsBelow m.head.next_stamp) same was.rules.dated);
          lies = left_lies;
          area = area;
          apart = pairs_left (all_places left) (orphans m.pins left) pooled.apart;
        },
      )

  -- THE MEMORY without them is ready
  unjam_set_ready : (pool : List Bool) (mid : Remembered) → IsKept before m → m.live ≡ true → HasGiven (places_off numbers m.online) m.pool pool → KeepsPages m.pages mid
      → IsMarked before m.side mid (directory_of (head_after (is_some m.pins) m.head) m.users m.files (without_copies numbers m.online))
      → IsReady (Unload numbers) before m (record m { head = head_after (is_some m.pins) m.head; online = without_copies numbers m.online; pool = pool; pages = mid })
  unjam_set_ready pool mid kept live given pages marked_is =
      let was = un.was in
      let old : List FileEntry = entries_of m.files m.online in
      record {
        was = kept;
        lived = live;
        commits = refl;
        beside = beside_none (Unload numbers) before m refl;
        live = live;
        side = refl;
        pages = pages;
        same_pins = refl;
        changed = refl;
        touched = touched_stays before.held before.size m.head.next_stamp old m.touched m.pins was.pins;
        contents = unload_contents before.held (is_some m.pins) m.head m.users m.files m.online numbers;
        copies = copies_off numbers m.files m.online was.copies;
        copied = λ k there. inl (places_filter (λ c. not (has numbers c.0)) m.online k there);
        marked = marked_is;
        pool = pool_then numbers before m pool un given;
        noted = subst (λ (fs : List FileEntry). AreNoted (length m.users) fs m.changed m.touched) (sym (entries_off numbers m.files m.online)) (noted_off (length m.users) numbers old m.changed m.touched was.noted);
        pins = subst (λ (k : ℕ). PinsAre m.pins before.size k left m.touched) (sym (next_kept (is_some m.pins) m.head)) left_pins;
      }

-- what the first commit works on, and the memory after it
abbrev pub parts_of : Memory → Parts
parts_of m = record { side = m.side; pages = m.pages; head = m.head; online = m.online; live = m.live }

abbrev pub memory_with : Memory → List Bool → Parts → Memory
memory_with m pool y = record m { side = y.side; pages = y.pages; pool = pool; head = y.head; online = y.online; live = y.live }

module _ (numbers : List ℕ) (before after : DiscState) (m : Memory) (pool : List Bool) (y : Parts) (result : Result (Unit {0}) OnlineFault) (kept : IsKept before m) (live : m.live ≡ true) (un : IsUnloadable numbers before m)
    (given : HasGiven (places_off numbers m.online) m.pool pool) (off : TakesFilesOff numbers (is_some m.pins) m.users m.files before after (parts_of m) y result) where
  unjam_ready : IsReady (Unload numbers) before m (record m { head = y.head; online = y.online; pool = pool; pages = off.mid })
  unjam_ready =
      subst (IsReady (Unload numbers) before m) (λ i. record m { head = (sym off.head) i; online = (sym off.online) i; pool = pool; pages = off.mid })
      (unjam_set_ready numbers before m un pool off.mid kept live given off.pages
      (subst (IsMarked before m.side off.mid) (λ i. directory_of (off.head i) m.users m.files (off.online i)) off.marked))

  pub unjam_kept : IsKept after (memory_with m pool y)
  unjam_kept =
      kept_behind (Unload numbers) before after m (record m { head = y.head; online = y.online; pool = pool; pages = off.mid }) y.side y.pages unjam_ready y.live result y.online refl off.ok off.counts off.whole off.lives off.dies

  pub unjam_applied : (o : OnlineFacts) → facts_of before m ≡ o → IsApplied (Unload numbers) o (facts_of after (memory_with m pool y)) result
  unjam_applied o is =
      applied (Unload numbers) before after m (record m { head = y.head; online = y.online; pool = pool; pages = off.mid }) y.side y.pages unjam_ready o is y.live result y.online refl off.ok off.stopped off.counts off.whole off.only off.lives
      off.dies

-- before the bytes are written: the files are taken off, if there are any, and the rest of the change is permitted
pub record IsUnjammed (inner : Change) (unjam : List ℕ) (o : OnlineFacts) (disc : DiscState) (m : Memory) : Type 0 where
  pub kept : IsKept disc m
  pub live : m.live ≡ true
  pub allowed : IsAllowed inner (facts_of disc m)
  pub way : Way unjam o (facts_of disc m)

-- what is known of the files that will be taken off
pub may_take_off : (unjam : List ℕ) (inner outer : Change) → IsNeeding unjam inner outer → (before : DiscState) (m : Memory) (o : OnlineFacts) → facts_of before m ≡ o → IsKept before m → IsAllowed outer o → IsUnloadable unjam before m
may_take_off unjam inner outer needing before m o is kept allowed =
    unloadable unjam before m (kept.agreed (allowed_live outer before m o is allowed)) (needing.fits (facts_of before m) (allowed_here outer before m o is allowed))

-- the room that the change reports
pub room_told : (unjam : List ℕ) (inner outer : Change) → IsNeeding unjam inner outer → (before : DiscState) (m : Memory) (o : OnlineFacts) → facts_of before m ≡ o → IsKept before m → IsAllowed outer o
    → free_count m.pool + length (places_off unjam m.online) ≡ room_for outer o
room_told unjam inner outer needing before m o is kept allowed =
    room_left unjam before m (may_take_off unjam inner outer needing before m o is kept allowed)
    ∙ ap (λ (ns : List ℕ). room_with (taken_off ns (contents_of before.held (directory_in m)).files) (facts_of before m)) (sym needing.two.unjams)
    ∙ ap (room_for outer) is

none_yet : (inner outer : Change) → IsNeeding [] inner outer → (before : DiscState) (m : Memory) (pool : List Bool) (o : OnlineFacts) → facts_of before m ≡ o → IsKept before m → IsAllowed outer o
    → HasGiven (places_off [] m.online) m.pool pool → IsUnjammed inner [] o before (memory_with m pool (parts_of m))
none_yet inner outer needing before m pool o is kept allowed given = record {
  kept = kept_anew before m pool m.pins m.changed m.touched kept
      (λ live. subst (λ (on : Copies). IsPooled before.size m.pins (entries_of m.files on) pool) (sym (no_filter m.online))
      (pool_then [] before m pool (may_take_off [] inner outer needing before m o is kept allowed) given))
      (λ live. (kept.agreed live).noted) (λ live. (kept.agreed live).pins);
  live = allowed_live outer before m o is allowed;
  allowed = subst (λ (c : Change). IsAllowed c (facts_of before m)) (sym (needing.same refl)) (allowed_here outer before m o is allowed);
  way = inl (refl, sym is);
}

pub is_unjammed : (unjam : List ℕ) (inner outer : Change) → IsNeeding unjam inner outer → (before after : DiscState) (m : Memory) (pool : List Bool) (y : Parts) (o : OnlineFacts) (u : Unit {0}) → facts_of before m ≡ o → IsKept before m
    → IsAllowed outer o → HasGiven (places_off unjam m.online) m.pool pool → (unjam ≡ [] → IsUntouched before after (parts_of m) y (Ok u))
    → (0 < length unjam → TakesFilesOff unjam (is_some m.pins) m.users m.files before after (parts_of m) y (Ok u)) → IsUnjammed inner unjam o after (memory_with m pool y)
is_unjammed [] inner outer needing before after m pool y o u is kept allowed given none off =
    let un = none refl in
    subst (λ (p : Parts). IsUnjammed inner [] o after (memory_with m pool p)) (sym un.parts)
    (subst (λ (d : DiscState). IsUnjammed inner [] o d (memory_with m pool (parts_of m))) (sym un.disc) (none_yet inner outer needing before m pool o is kept allowed given))
is_unjammed (n ∷ ns) inner outer needing before after m pool y o u is kept allowed given none off =
    let some : 0 < length (n ∷ ns) = omega arith in
    let live = allowed_live outer before m o is allowed in
    let un = may_take_off (n ∷ ns) inner outer needing before m o is kept allowed in
    let first : IsApplied (Unload (n ∷ ns)) o (facts_of after (memory_with m pool y)) (Ok u) = unjam_applied (n ∷ ns) before after m pool y (Ok u) kept live un given (off some) o is in
    record {
      kept = unjam_kept (n ∷ ns) before after m pool y (Ok u) kept live un given (off some);
      live = (off some).lives ∙ live;
      allowed = needing.behind o (facts_of after (memory_with m pool y)) allowed first.ok first.told;
      way = inr (some, u, first);
    }

-- STOPPED in that commit
pub unjam_stopped : (unjam : List ℕ) (inner outer : Change) → IsNeeding unjam inner outer → (before after : DiscState) (m : Memory) (pool : List Bool) (y : Parts) (o : OnlineFacts) (e : OnlineFault) → facts_of before m ≡ o → IsKept before m
    → IsAllowed outer o → HasGiven (places_off unjam m.online) m.pool pool → (unjam ≡ [] → IsUntouched before after (parts_of m) y (Err e))
    → (0 < length unjam → TakesFilesOff unjam (is_some m.pins) m.users m.files before after (parts_of m) y (Err e)) → (room_for outer o < need_of outer → ⊥)
    → IsKept after (memory_with m pool y) × IsApplied outer o (facts_of after (memory_with m pool y)) (Err e) × (y.live ≡ false)
unjam_stopped [] inner outer needing before after m pool y o e is kept allowed given none off room = absurd (not_done e tt (none refl).done)
unjam_stopped (n ∷ ns) inner outer needing before after m pool y o e is kept allowed given none off room =
    let some : 0 < length (n ∷ ns) = omega arith in
    let live = allowed_live outer before m o is allowed in
    let un = may_take_off (n ∷ ns) inner outer needing before m o is kept allowed in (
      unjam_kept (n ∷ ns) before after m pool y (Err e) kept live un given (off some),
      first_applied (n ∷ ns) inner outer needing.two some o (facts_of after (memory_with m pool y)) e (unjam_applied (n ∷ ns) before after m pool y (Err e) kept live un given (off some) o is) (stopped_is e (off some).only) room,
      (off some).dies,
    )

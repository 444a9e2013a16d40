-- A change that is one commit: what is known before it, and what it leaves.
-- serves: add_user, adopt, adopt_ready, close_dump, erase_file, set_file, set_intent, set_user, unload, with_new_copy, AdoptLemmas, AdoptedLemmas, and 14 more
use Rattle.std.proofs.Common.{◌≡◌, ℕ, ◌+◌, Bool, true, false, List, [], Option, Some, None, Result, Ok, Err, refl, sym, ◌∙◌, ap, subst, arith, inl, inr, if◌then◌else◌}
use Rattle.std.specs.Prelude.{Contains, is_some, length, ◌<◌, ◌⊎◌, ◌↔◌, ◌≢◌, IsErrOf, OnErr, OnOk}
use Rattle.std.specs.Option.{ForSome}
use Rattle.std.proofs.lemmas.Bool.{true≢false}
use Rattle.g_base.specs.Counts.{RoseBy}
use Rattle.g_base.specs.ToldContent.{Changes}
use Rattle.g_base.proofs.CountLemmas.{RoseBy-none, RoseBy-then}
use Rattle.g_base.proofs.ToldLemmas.{Changes-weaken, Changes-back}
use Rattle.g_copy.specs.declared.copy.DiscCopy.{DiscCopy}
use Rattle.g_disc.specs.Disc.{Causes, DiscState, WritesOnly, is_syncable}
use Rattle.g_disc.specs.Durable.{AreDurable, MayLeave, PowerLossLeaves}
use Rattle.g_disc.proofs.CallLemmas.{Causes-WritesOnly_ok, Causes-WritesOnly_err, Causes-none, Causes-then}
use Rattle.g_slots.specs.declared.side.Side.{Side}
use Rattle.g_slots.specs.Layout.{other}
use Rattle.g_dirs.specs.Commit.{NewDirectory, OldOrNew}
use Rattle.g_dirs.specs.Directory.{AreCopies, IsDirectory, all_places, directory_of}
use Rattle.g_dirs.specs.Durable.{AreRememberedSyncable, IsDiscSafe, IsLive}
use Rattle.g_dirs.specs.Pages.{KeepsPages, Remembered, pages_of, unwritten}
use Rattle.g_dirs.specs.Rules.{numbers_of}
use Rattle.g_dirs.proofs.CopyLemmas.{match_from, places_are, recs-entries}
use Rattle.g_dirs.proofs.Surviving.{live_is_safe}
use Rattle.g_entry.specs.Rules.{AreNumbered}
use Rattle.g_disc_contents.specs.Commits.{Committed, Commits}
use Rattle.g_disc_contents.specs.Contents.{Contents, Holds, contents_of}
use Rattle.g_disc_contents.specs.Facts.{IsTied, OnlineFacts}
use Rattle.g_disc_contents.specs.Durable.{StopsSafely}
use Rattle.g_disc_contents.proofs.CommitLemmas.{commit_holds}
use Rattle.g_disc_contents.proofs.SurvivalLemmas.{commit_survives}
use Rattle.g_online.specs.declared.change.Change.{Change}
use Rattle.g_online.specs.declared.fault.OnlineFault.{OnlineFault}
use Rattle.g_online.specs.declared.fault.OnlineFault.TheVariants.{DiscFull, NoMemory, Stopped}
use Rattle.g_online.specs.declared.pinned.Pinned.{Pinned}
use Rattle.g_online.specs.Change.{changed as changed_to, changed_after, touched_after, need_of, takes_memory, touches, with_all}
use Rattle.g_online.specs.Commit.{AreSaved, CommitStopped, HasCommitted, IsMarked, commit_blocks}
use Rattle.g_online.specs.Outcomes.{AfterStop, HasChanged, IsApplied, commits_of, room_for}
use Rattle.g_online.specs.Invariant.{AreNoted, AreWhole, IsKept, IsPooled, Memory, PinsAre, directory_in, facts_of, pins_of}
use Rattle.g_online.proofs.SameLemmas.{same_area, same_contents, same_pins, AreSame}
use Rattle.g_online.proofs.TieLemmas.{same_told_is, tied}
use Rattle.g_online.proofs.WriteLemmas.{remembered_kept, same_pages}

-- new bytes, as many blocks of them as the change needs, were written to blocks that nothing in memory names, and there was
-- room for them
pub record IsBeside (change : Change) (origin before : DiscState) (m : Memory) : Type 0 where
  pub contents : contents_of before.held (directory_in m) ≡ contents_of origin.held (directory_in m)
  pub pins : pins_of before.held m.pins ≡ pins_of origin.held m.pins
  pub told : is_some before.held ≡ is_some origin.held
  pub causes : Causes ⊥ ⊥ origin before
  pub writes : RoseBy (need_of change) origin.writes before.writes
  pub room : room_for change (facts_of origin m) < need_of change → ⊥
  pub durable : AreDurable (IsLive m.side (directory_in m)) origin → AreDurable (IsLive m.side (directory_in m)) before

-- a change that needs no blocks
pub beside_none : (change : Change) (disc : DiscState) (m : Memory) → need_of change ≡ 0 → IsBeside change disc disc m
beside_none change disc m need = record {
  contents = refl;
  pins = refl;
  told = refl;
  causes = Causes-none disc (λ no. no) (λ no. no);
  writes = subst (λ (k : ℕ). RoseBy k disc.writes disc.writes) (sym need) (RoseBy-none refl);
  room = λ less. (let no : ⊥ = omega (arith, less, need) in no);
  durable = λ live. live;
}

-- the memory n is ready to be committed for a change of what m represents, whose bytes are written: everything that a
-- commit requires, and everything that must be established afterwards
pub record IsReadyFrom (change : Change) (origin before : DiscState) (m n : Memory) : Type 0 where
  pub was : IsKept before m
  pub lived : m.live ≡ true
  pub commits : commits_of change ≡ 1
  pub beside : IsBeside change origin before m
  pub live : n.live ≡ true
  pub side : n.side ≡ m.side
  pub pages : KeepsPages m.pages n.pages
  pub same_pins : n.pins ≡ m.pins
  pub changed : n.changed ≡ changed_after change (facts_of before m)
  pub touched : n.touched ≡ touched_after change (facts_of before m)
  pub contents : contents_of before.held (directory_in n) ≡ changed_to (is_some before.held) (is_some m.pins) change (contents_of before.held (directory_in m))
  pub copies : AreCopies n.files n.online
  pub copied : (k : ℕ) → Contains (numbers_of n.online) k → Contains (numbers_of m.online) k ⊎ (is_syncable before k ≡ true)
  pub marked : IsMarked before n.side n.pages (directory_in n)
  pub pool : IsPooled before.size n.pins (directory_in n).files n.pool
  pub noted : AreNoted (length n.users) (directory_in n).files n.changed n.touched
  pub pins : PinsAre n.pins before.size n.head.next_stamp (directory_in n).files n.touched

-- the same of a change that needs no blocks
abbrev pub IsReady : Change → DiscState → Memory → Memory → Type 0
IsReady change before m n = IsReadyFrom change before before m n

-- the memory after the commit
abbrev pub written : Memory → Side → Remembered → Memory
written n next pages = record n { side = next; pages = pages }

abbrev pub stopped : Memory → Side → Remembered → Memory
stopped n next pages = record n { side = next; pages = pages; live = false }

-- whether there are pinned versions
pub pins_told : (held : Option (List (List ℕ))) (pins : Option (List Pinned)) → is_some (pins_of held pins) ≡ is_some pins
pins_told held None = refl
pins_told held (Some pins) = refl

-- whether the disc exposes its contents doesn't change
pub both_told : {R : List (List ℕ) → List (List ℕ) → Type 0} (x y : Option (List (List ℕ))) → Changes R x y → is_some y ≡ is_some x
both_told None y changes = ap (λ (h : Option (List (List ℕ))). is_some h) (changes.untold refl)
both_told (Some b) y changes = ap (λ (h : Option (List (List ℕ))). is_some h) (changes.told b refl).1

-- what the commit requires
pub marked_for : (change : Change) {origin : DiscState} (before : DiscState) (m n : Memory) → IsReadyFrom change origin before m n → (online : List (ℕ × DiscCopy)) → online ≡ n.online
    → IsMarked before n.side n.pages (directory_of n.head n.users n.files online)
marked_for change before m n ready online same = subst (λ (on : List (ℕ × DiscCopy)). IsMarked before n.side n.pages (directory_of n.head n.users n.files on)) (sym same) ready.marked

pub copies_for : (change : Change) {origin : DiscState} (before : DiscState) (m n : Memory) → IsReadyFrom change origin before m n → (online : List (ℕ × DiscCopy)) → online ≡ n.online → AreCopies n.files online
copies_for change before m n ready online same = subst (AreCopies n.files) (sym same) ready.copies

-- REFUSED: nothing has changed
pub refused : (change : Change) (disc : DiscState) (m n : Memory) (o : OnlineFacts) (e : OnlineFault) → facts_of disc m ≡ o → IsKept disc m → facts_of disc n ≡ facts_of disc m → e ≢ Stopped → takes_memory change ≡ true
    → (IsErrOf {T = Unit {0}} (Err e) (DiscFull (need_of change) (room_for change o)) ↔ (room_for change o < need_of change)) → (e ≡ NoMemory) ⊎ (e ≡ DiscFull (need_of change) (room_for change o))
    → IsApplied change o (facts_of disc n) (Err e)
refused change disc m n o e is kept same not takes full only =
    let now : facts_of disc n ≡ o = same ∙ is in
    let here : (facts_of disc n).disc ≡ o.disc = ap (λ (f : OnlineFacts). f.disc) now in
    record {
      ok = tt;
      stopped = λ no. absurd (not (inside e no));
      same = λ other. now;
      full = full;
      memory = λ none no. true≢false (sym takes ∙ none);
      causes = subst (λ (d : DiscState). Causes ⊥ (◌≡◌ {A = Result (Unit {0}) OnlineFault} (Err e) (Err Stopped)) d disc) here (Causes-none disc (λ no. no) (λ no. not (inside e no)));
      tied = subst IsTied (sym same) (tied disc m kept);
      told = ap (λ (d : DiscState). is_some d.held) here;
      only = inr only;
    }
  where
    inside : (f : OnlineFault) → (let r : Result (Unit {0}) OnlineFault = Err f in r ≡ Err Stopped) → f ≡ Stopped
    inside f wrong = cc

-- without memory nothing has changed
pub not_applied : (change : Change) (disc : DiscState) (m n : Memory) (o : OnlineFacts) → facts_of disc m ≡ o → IsKept disc m → n ≡ m → takes_memory change ≡ true → need_of change ≡ 0 → IsApplied change o (facts_of disc n) (Err NoMemory)
not_applied change disc m n o is kept same takes need =
    refused change disc m n o NoMemory is kept (ap (facts_of disc) same) (λ no. (let never : ⊥ = cc in never)) takes
    (λ no. (let never : ⊥ = cc in absurd never), λ less. (let no : ⊥ = omega (arith, less, need) in absurd no)) (inl refl)

-- what the change makes of what was there before the bytes were written
abbrev made_from : Change → DiscState → Memory → Contents
made_from change origin m = changed_to (is_some origin.held) (is_some (pins_of origin.held m.pins)) change (contents_of origin.held (directory_in m))

module _ (change : Change) {origin : DiscState} (before after : DiscState) (m n : Memory) (next : Side) (pages : Remembered) (ready : IsReadyFrom change origin before m n) where
  -- what is remembered before the commit
  remembered : AreRememberedSyncable n.pages before
  remembered = remembered_kept m.pages n.pages before ready.pages (ready.was.agreed ready.lived).remembered

  -- each block of the new directory's files is one of the old ones, which are durable, or was written
  saved : AreDurable (IsLive m.side (directory_in m)) before → AreSaved (directory_in n) before
  saved durable k of =
      let was = ready.was.agreed ready.lived in
      let here = places_are n.files n.online (match_from n.files n.online (subst AreNumbered (recs-entries n.files n.online) ready.marked.rules.numbered) ready.copies) in
      let there = places_are m.files m.online (match_from m.files m.online (subst AreNumbered (recs-entries m.files m.online) was.stored.rules.numbered) was.copies) in
      elim (ready.copied k (subst (λ (places : List ℕ). Contains places k) here of)) [
        | inl old ↦ inl (durable k (inr (inr (subst (λ (places : List ℕ). Contains places k) (sym there) old))))
        | inr new ↦ inr new
      ]

  -- and the disc is safe
  safe : AreDurable (IsLive m.side (directory_in m)) before → IsDiscSafe before
  safe durable b told =
      let was = (ready.was.agreed ready.lived).stored in
      (live_is_safe m.side (directory_in m) before b told (ready.was.whole b told).0 ready.was.size (was.gate b told) (was.stands b told)).0 durable b told

  pub done_kept : HasCommitted (directory_in n) before after n.side next n.pages pages → after.size ≡ before.size → ForSome after.held (AreWhole after.size) → IsKept after (written n next pages)
  done_kept done size whole =
      let low = ready.was.size in
      let high = ready.was.most in
      record {
        size = omega arith;
        most = omega arith;
        whole = whole;
        agreed = λ live. record {
          stored = done.stored;
          copies = ready.copies;
          pool = subst (λ (s : ℕ). IsPooled s n.pins (directory_in n).files n.pool) (sym size) ready.pool;
          noted = ready.noted;
          pins = subst (λ (s : ℕ). PinsAre n.pins s n.head.next_stamp (directory_in n).files n.touched) (sym size) ready.pins;
          remembered = done.remembered remembered;
        };
      }

  pub stopped_kept : after.size ≡ before.size → ForSome after.held (AreWhole after.size) → IsKept after (stopped n next pages)
  stopped_kept size whole =
      let low = ready.was.size in
      let high = ready.was.most in
      record { size = omega arith; most = omega arith; whole = whole; agreed = λ live. (let no : ⊥ = cc in absurd no) }

  area_same : Changes (NewDirectory (directory_in n)) before.held after.held → Changes (AreSame (all_places (directory_in n).files)) before.held after.held
  area_same content = Changes-weaken content (λ b a told new. same_area before.size b a (all_places (directory_in n).files) new.copies ready.marked.rules.area)

  made_same : changed_to (is_some before.held) (is_some m.pins) change (contents_of before.held (directory_in m)) ≡ made_from change origin m
  made_same = λ i. changed_to (ready.beside.told i) (sym (pins_told origin.held m.pins) i) change (ready.beside.contents i)

  new_contents : HasCommitted (directory_in n) before after n.side next n.pages pages → contents_of after.held (directory_in n) ≡ made_from change origin m
  new_contents done = same_contents before.held after.held (directory_in n) (area_same done.content) ∙ ready.contents ∙ made_same

  new_pins : HasCommitted (directory_in n) before after n.side next n.pages pages → pins_of after.held n.pins ≡ pins_of origin.held m.pins
  new_pins done =
      same_pins (directory_in n) before.held after.held before.size n.head.next_stamp (directory_in n).files n.touched n.pins done.content ready.pins
      ∙ ap (pins_of before.held) ready.same_pins ∙ ready.beside.pins

  one_commit : (done : HasCommitted (directory_in n) before after n.side next n.pages pages)
      → Committed (facts_of origin m).layout (facts_of after (written n next pages)).layout (commit_blocks (directory_in n) n.side n.pages)
  one_commit done = record {
    side = done.turned ∙ ap other ready.side;
    written = ap (λ (ps : List (Option (List ℕ))). unwritten (directory_in n) ps 1088 + 1)
        (ap (λ (s : Side). pages_of s n.pages) (sym done.turned) ∙ same_pages next m.pages n.pages ready.pages);
    here = done.here;
    there = ap (λ (s : Side). pages_of s pages) (sym ready.side) ∙ done.there ∙ same_pages n.side m.pages n.pages ready.pages ∙ ap (λ (s : Side). pages_of s m.pages) ready.side;
  }

  has_changed : {T E : Type 0} {t : T} → HasCommitted (directory_in n) before after n.side next n.pages pages → WritesOnly {T = T} {E = E} (commit_blocks (directory_in n) n.side n.pages) before after (Ok t)
      → HasChanged change (facts_of origin m) (facts_of after (written n next pages))
  has_changed done counts = record {
    live = ready.live;
    contents = new_contents done;
    pins = new_pins done;
    changed = ready.changed ∙ (λ i. with_all (touches change (ready.beside.contents i)) m.changed);
    touched = ready.touched ∙ (λ i. if is_some (ready.beside.pins i) then with_all (touches change (ready.beside.contents i)) m.touched else []);
    blocks = commit_blocks (directory_in n) n.side n.pages;
    commits = subst (λ (k : ℕ). Commits k (facts_of origin m).layout (facts_of after (written n next pages)).layout (commit_blocks (directory_in n) n.side n.pages)) (sym ready.commits)
        ((facts_of after (written n next pages)).layout, commit_blocks (directory_in n) n.side n.pages, 0, one_commit done, (refl, refl), omega arith);
    writes = RoseBy-then ready.beside.writes counts.writes;
    durable = λ live. let now = ready.beside.durable live in done.durable remembered (saved now);
  }

  told_same : {R : List (List ℕ) → List (List ℕ) → Type 0} → Changes R before.held after.held → is_some after.held ≡ is_some origin.held
  told_same content = both_told before.held after.held content ∙ ready.beside.told

  -- there was room
  never_full : (r : Result (Unit {0}) OnlineFault) → (r ≡ Err (DiscFull (need_of change) (room_for change (facts_of origin m))) → ⊥)
      → IsErrOf r (DiscFull (need_of change) (room_for change (facts_of origin m))) ↔ (room_for change (facts_of origin m) < need_of change)
  never_full r not = (λ is. absurd (not is), λ less. absurd (ready.beside.room less))

  applied_with : (o : OnlineFacts) → facts_of origin m ≡ o → {u : Unit {0}} → HasCommitted (directory_in n) before after n.side next n.pages pages
      → WritesOnly {T = Unit {0}} {E = OnlineFault} (commit_blocks (directory_in n) n.side n.pages) before after (Ok u) → ForSome after.held (AreWhole after.size)
      → IsApplied change o (facts_of after (written n next pages)) (Ok u)
  applied_with o is {u} done counts whole =
      let well : Causes ⊥ (◌≡◌ {A = Result (Unit {0}) OnlineFault} (Ok u) (Err Stopped)) before after = Causes-WritesOnly_ok (λ no. no) (λ no. (let never : ⊥ = cc in never)) counts in
      subst (λ (old : OnlineFacts). IsApplied change old (facts_of after (written n next pages)) (Ok u)) is
      (record {
        ok = has_changed done counts;
        stopped = λ no. (let never : ⊥ = cc in absurd never);
        same = tt;
        full = never_full (Ok u) (λ no. (let never : ⊥ = cc in never));
        memory = λ none no. (let never : ⊥ = cc in never);
        causes = Causes-then (λ no. no) (λ no. no) ready.beside.causes well;
        tied = tied after (written n next pages) (done_kept done counts.size whole);
        told = told_same done.content;
        only = tt;
      })

  pub kept_done : (online : List (ℕ × DiscCopy)) → online ≡ n.online → HasCommitted (directory_of n.head n.users n.files online) before after n.side next n.pages pages → after.size ≡ before.size
      → ForSome after.held (AreWhole after.size) → IsKept after (written n next pages)
  kept_done online same done size whole =
      done_kept (subst (λ (on : List (ℕ × DiscCopy)). HasCommitted (directory_of n.head n.users n.files on) before after n.side next n.pages pages) same done) size whole

  pub applied_done : (o : OnlineFacts) → facts_of origin m ≡ o → {u : Unit {0}} → (online : List (ℕ × DiscCopy)) → online ≡ n.online
      → HasCommitted (directory_of n.head n.users n.files online) before after n.side next n.pages pages
      → WritesOnly {T = Unit {0}} {E = OnlineFault} (commit_blocks (directory_of n.head n.users n.files online) n.side n.pages) before after (Ok u) → ForSome after.held (AreWhole after.size)
      → IsApplied change o (facts_of after (written n next pages)) (Ok u)
  applied_done o is {u} online same done counts whole =
      applied_with o is
      (subst (λ (on : List (ℕ × DiscCopy)). HasCommitted (directory_of n.head n.users n.files on) before after n.side next n.pages pages) same done)
      (subst (λ (on : List (ℕ × DiscCopy)). WritesOnly {T = Unit {0}} {E = OnlineFault} (commit_blocks (directory_of n.head n.users n.files on) n.side n.pages) before after (Ok u)) same counts)
      whole

  new_told : (b : List (List ℕ)) → before.held ≡ Some b
      → contents_of before.held (directory_in n) ≡ changed_to true (is_some (pins_of origin.held m.pins)) change (contents_of origin.held (directory_in m))
  new_told b was =
      ready.contents ∙ made_same
      ∙ ap (λ (told : Bool). changed_to told (is_some (pins_of origin.held m.pins)) change (contents_of origin.held (directory_in m)))
      (sym ready.beside.told ∙ ap (λ (h : Option (List (List ℕ))). is_some h) was)

  after_stop : (blocks b : List (List ℕ)) → before.held ≡ Some b → Holds blocks (contents_of (Some b) (directory_in m)) ⊎ Holds blocks (contents_of (Some b) (directory_in n)) → AfterStop change (facts_of origin m) blocks
  after_stop blocks b was (inl held) = record { one = inl (subst (Holds blocks) (ap (λ (h : Option (List (List ℕ))). contents_of h (directory_in m)) (sym was) ∙ ready.beside.contents) held) }
  after_stop blocks b was (inr held) = record {
    one = inr (inr (subst (Holds blocks) (new_told b was) (subst (λ (h : Option (List (List ℕ))). Holds blocks (contents_of h (directory_in n))) (sym was) held)));
  }

  -- what the disc holds, if the commit was stopped at any of its writes
  stop_holds : Changes (OldOrNew (directory_in n)) before.held after.held → ForSome after.held (AfterStop change (facts_of origin m))
  stop_holds content blocks told =
      let from = Changes-back (OldOrNew (directory_in n)) before.held after.held content blocks told in
      let old : Holds from.0 (contents_of (Some from.0) (directory_in m)) = record { directory = directory_in m; stands = (ready.was.agreed ready.lived).stored.stands from.0 from.1; are = refl } in
      let size = (ready.was.whole from.0 from.1).0 in
      after_stop blocks from.0 from.1 (commit_holds from.0 blocks (directory_in n) (contents_of (Some from.0) (directory_in m)) from.2 (subst (λ (s : ℕ). IsDirectory s (directory_in n)) (sym size) ready.marked.rules) old)

  -- what a power loss leaves of it then
  stop_survives : CommitStopped (directory_in n) before after n.pages → (live : Bool) → StopsSafely (AfterStop change (facts_of origin m)) (facts_of origin m) (facts_of after (record n { side = next; pages = pages; live = live }))
  stop_survives stop live durable =
      let now = ready.beside.durable durable in
      let both = stop.safe remembered (saved now) (now 0 (inl refl)) (safe now) in (
        both.0,
        λ a told left may.
            let from = same_told_is origin.held before.held a (sym ready.beside.told) told in
            let old : Holds from.0 (contents_of (Some from.0) (directory_in m)) = record { directory = directory_in m; stands = (ready.was.agreed ready.lived).stored.stands from.0 from.1; are = refl } in
            after_stop left from.0 from.1 (elim (commit_survives from.0 left (directory_in n) (both.1 from.0 from.1 left may)) [
              | inl kept ↦ inl (kept.0 (contents_of (Some from.0) (directory_in m)) old)
              | inr new ↦ inr new
            ]),
      )

  pub applied_stopped : (o : OnlineFacts) → facts_of origin m ≡ o → {k : ℕ} {e : OnlineFault} → (online : List (ℕ × DiscCopy)) → online ≡ n.online
      → CommitStopped (directory_of n.head n.users n.files online) before after n.pages
      → WritesOnly {T = Unit {0}} {E = OnlineFault} k before after (Err e) → ForSome after.held (AreWhole after.size)
      → IsApplied change o (facts_of after (stopped n next pages)) (Err Stopped)
  applied_stopped o is online same stop' counts whole =
      let stop : CommitStopped (directory_in n) before after n.pages =
      subst (λ (on : List (ℕ × DiscCopy)). CommitStopped (directory_of n.head n.users n.files on) before after n.pages) same stop' in
      let content = stop.content in
      let ill : Causes ⊥ (◌≡◌ {A = Result (Unit {0}) OnlineFault} (Err Stopped) (Err Stopped)) before after = Causes-WritesOnly_err (λ no. no) refl counts in
      subst (λ (old : OnlineFacts). IsApplied change old (facts_of after (stopped n next pages)) (Err Stopped)) is
      (record {
        ok = tt;
        stopped = λ same. record { live = refl; holds = stop_holds content; survives = stop_survives stop false };
        same = λ other. absurd (other refl);
        full = never_full (Err Stopped) (λ no. (let never : ⊥ = cc in never));
        memory = λ none no. (let never : ⊥ = cc in never);
        causes = Causes-then (λ no. no) (λ no. no) ready.beside.causes ill;
        tied = tied after (stopped n next pages) (stopped_kept counts.size whole);
        told = told_same content;
        only = inl refl;
      })

  -- however it is answered
  abbrev behind : Bool → Memory
  behind live = record n { side = next; pages = pages; live = live }

  pub kept_behind : (live : Bool) (result : Result (Unit {0}) OnlineFault) (online : List (ℕ × DiscCopy)) → online ≡ n.online
      → OnOk result (HasCommitted (directory_of n.head n.users n.files online) before after n.side next n.pages pages) → {k : ℕ} → WritesOnly k before after result → ForSome after.held (AreWhole after.size)
      → OnOk result (live ≡ n.live) → OnErr result (live ≡ false) → IsKept after (behind live)
  kept_behind live (Ok u) online same done {k} counts whole lives dies = subst (λ (l : Bool). IsKept after (behind l)) (sym lives) (kept_done online same done counts.size whole)
  kept_behind live (Err e) online same done {k} counts whole lives dies = subst (λ (l : Bool). IsKept after (behind l)) (sym dies) (stopped_kept counts.size whole)

  pub applied : (o : OnlineFacts) → facts_of origin m ≡ o → (live : Bool) (result : Result (Unit {0}) OnlineFault) (online : List (ℕ × DiscCopy)) → online ≡ n.online
      → OnOk result (HasCommitted (directory_of n.head n.users n.files online) before after n.side next n.pages pages)
      → OnErr result (CommitStopped (directory_of n.head n.users n.files online) before after n.pages)
      → WritesOnly (commit_blocks (directory_of n.head n.users n.files online) n.side n.pages) before after result → ForSome after.held (AreWhole after.size) → OnErr result (result ≡ Err Stopped)
      → OnOk result (live ≡ n.live) → OnErr result (live ≡ false) → IsApplied change o (facts_of after (behind live)) result
  applied o is live (Ok u) online same done content counts whole only lives dies =
      subst (λ (l : Bool). IsApplied change o (facts_of after (behind l)) (Ok u)) (sym lives) (applied_done o is online same done counts whole)
  applied o is live (Err e) online same done content counts whole only lives dies =
      let at : e ≡ Stopped = cc in
      subst (λ (l : Bool). IsApplied change o (facts_of after (behind l)) (Err e)) (sym dies)
      (subst (λ (f : OnlineFault). IsApplied change o (facts_of after (stopped n next pages)) (Err f)) (sym at) (applied_stopped o is online same content counts whole))

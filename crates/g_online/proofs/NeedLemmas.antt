-- How a change with new bytes is answered, from what its parts did.
-- serves: make_ready (full, ok, only), with_new_copy, NewBytesLemmas
use Rattle.std.proofs.Common.{◌≡◌, ◌≢◌, ◌⊎◌, ℕ, ◌+◌, ◌<◌, ◌≤◌, Bool, false, List, [], length, Result, Ok, Err, All, AllPairs, refl, sym, ◌∙◌, ap, subst, arith, inl, inr}
use Rattle.std.specs.Prelude.{IsErrOf, OnErr, OnOk, ◌↔◌, is_some}
use Rattle.std.specs.Option.{ForSome}
use Rattle.std.proofs.lemmas.List.Kept.{AllPairs-from_increasing}
use Rattle.g_base.specs.Block.{blocks_for}
use Rattle.g_base.specs.ToldContent.{Changes}
use Rattle.g_blocks.specs.Pool.{AreLeastFree, HasGiven, HasTaken, IsTaken, free_count}
use Rattle.g_copy.specs.declared.copy.DiscCopy.{DiscCopy}
use Rattle.g_copy.specs.Copy.{IsCopy, OnlyAt}
use Rattle.g_copy.proofs.Storing.{IsCopy-from_free}
use Rattle.g_disc.specs.Disc.{DiscState, WritesOnly}
use Rattle.g_entry.specs.declared.file_rec.FileRec.{FileRec}
use Rattle.g_entry.specs.declared.format.Format.TheVariants.{Two}
use Rattle.g_entry.specs.declared.user_rec.UserRec.{UserRec}
use Rattle.g_slots.specs.declared.side.Side.{Side}
use Rattle.g_dirs.specs.Commit.{OldOrNew}
use Rattle.g_dirs.specs.Directory.{AreCopies, AreRecords, IsDirectory, directory_of}
use Rattle.g_dirs.specs.Pages.{Remembered}
use Rattle.g_disc_contents.specs.Facts.{OnlineFacts}
use Rattle.g_online.specs.declared.change.Change.{Change}
use Rattle.g_online.specs.declared.fault.OnlineFault.{OnlineFault}
use Rattle.g_online.specs.declared.fault.OnlineFault.TheVariants.{DiscFull, NoMemory, Stopped}
use Rattle.g_online.specs.AllowedChanges.{IsAllowed}
use Rattle.g_online.specs.Change.{need_of}
use Rattle.g_online.specs.Commit.{CommitStopped, HasCommitted, IsMarked, commit_blocks}
use Rattle.g_online.specs.Copies.{without_copies}
use Rattle.g_online.specs.Outcomes.{IsApplied, room_for}
use Rattle.g_online.specs.Invariant.{AreWhole, IsKept, Memory, directory_in, facts_of, head_after}
use Rattle.g_online.specs.Unloading.{places_off}
use Rattle.g_online.specs.NewBytes.{IsUntouched, Parts, TakesBeside, TakesFilesOff, WritingStopped}
use Rattle.g_online.proofs.CopyLemmas.{Copies}
use Rattle.g_online.proofs.ReadyLemmas.{allowed_live}
use Rattle.g_online.proofs.StepLemmas.{IsReadyFrom, applied, refused}
use Rattle.g_online.proofs.TwoLemmas.{IsNeeding, stopped_is, stops_of, whole_applied}
use Rattle.g_online.proofs.UnjamLemmas.{IsUnjammed, is_unjammed, left_rules, may_take_off, memory_with, parts_of, room_told, unjam_stopped}
use Rattle.g_online.proofs.UnloadLemmas.{off_blocks}
use Rattle.g_online.proofs.WrittenLemmas.{IsNewCopy, NeedsFor, write_stopped}

-- THE BLOCKS ARE THERE
pub ready_takes : (given : List ℕ) (bytes n : ℕ) (old between new : List Bool) (copy : DiscCopy) → HasGiven given old between → AreLeastFree between n copy.blocks → HasTaken copy.blocks between new → n ≡ blocks_for bytes
    → copy.len ≡ bytes → TakesBeside given bytes old new copy
ready_takes given bytes n old between new copy gives least takes count len = record {
  between = between;
  gives = gives;
  least = subst (λ (k : ℕ). AreLeastFree between k copy.blocks) count least;
  takes = takes;
  len = len;
}

pub full_here : {T : Type 0} (r : Result T OnlineFault) (n k j l : ℕ) → n ≡ j → k ≡ l → (IsErrOf r (DiscFull n k) ↔ (k < n)) → IsErrOf r (DiscFull j l) ↔ (l < j)
full_here r n k j l need room full =
    subst (λ (i : ℕ). IsErrOf r (DiscFull j i) ↔ (i < j)) room (subst (λ (i : ℕ). IsErrOf r (DiscFull i k) ↔ (k < i)) need full)

pub full_done : {T U : Type 0} (t : T) (u : U) (n k : ℕ) → (IsErrOf {T = T} (Ok t) (DiscFull n k) ↔ (k < n)) → IsErrOf {T = U} (Ok u) (DiscFull n k) ↔ (k < n)
full_done t u n k full = (λ is. absurd (never u is), λ less. absurd (never t (full.1 less)))
  where
    never : {V : Type 0} (v : V) → (let r : Result V OnlineFault = Ok v in r ≡ Err (DiscFull n k)) → ⊥
    never v is = cc

pub full_refused : {T U : Type 0} (e : OnlineFault) (n k : ℕ) → (IsErrOf {T = T} (Err e) (DiscFull n k) ↔ (k < n)) → IsErrOf {T = U} (Err e) (DiscFull n k) ↔ (k < n)
full_refused e n k full = (λ is. full.0 (ap (λ (f : OnlineFault). Err f) (inside is)), λ less. ap (λ (f : OnlineFault). Err f) (inside (full.1 less)))
  where
    inside : {V : Type 0} → (let r : Result V OnlineFault = Err e in r ≡ Err (DiscFull n k)) → e ≡ DiscFull n k
    inside is = cc

pub only_here : (e : OnlineFault) (n k j l : ℕ) → n ≡ j → k ≡ l → (e ≡ NoMemory) ⊎ (e ≡ DiscFull n k) → (e ≡ NoMemory) ⊎ (e ≡ DiscFull j l)
only_here e n k j l need room only =
    subst (λ (i : ℕ). (e ≡ NoMemory) ⊎ (e ≡ DiscFull j i)) room (subst (λ (i : ℕ). (e ≡ NoMemory) ⊎ (e ≡ DiscFull i k)) need only)

-- a file has at most 128 blocks
pub ready_few : (bytes n : ℕ) → n ≡ blocks_for bytes → bytes ≤ 65536 → n ≤ 128
ready_few bytes n need short = omega (arith, need, short)

-- a refusal, because blocks or memory are missing
refused_not : (e : OnlineFault) (n k : ℕ) → (e ≡ NoMemory) ⊎ (e ≡ DiscFull n k) → e ≢ Stopped
refused_not e n k (inl is) wrong = cc
refused_not e n k (inr is) wrong = cc

-- a stopped filestore, for any contents of memory
kept_stopped : (disc : DiscState) (m n : Memory) → IsKept disc m → n.live ≡ false → IsKept disc n
kept_stopped disc m n kept dead = record { size = kept.size; most = kept.most; whole = kept.whole; agreed = λ live. (let wrong = sym live ∙ dead in let no : ⊥ = cc in absurd no) }

-- THE NEW COPY, from what was taken for it
pub new_copy : (bytes : ℕ) (given : List ℕ) (old pool : List Bool) (copy : DiscCopy) → (takes : TakesBeside given bytes old pool copy) → IsNewCopy bytes takes.between copy
new_copy bytes given old pool copy takes = record {
  len = takes.len;
  count = takes.least.count;
  free = takes.least.free;
  apart = λ i j d before below same. (let rising = AllPairs-from_increasing copy.blocks takes.least.rising i j d before below in let no : ⊥ = omega (arith, rising, same) in no);
  room = (let taken = takes.takes.count in let count = takes.least.count in omega (arith, taken, count));
}

-- THE SAME MEMORY, whose lists may have been moved
abbrev pub moved : Memory → List UserRec → List FileRec → Copies → Memory
moved m users files online = record m { users = users; files = files; online = online }

moved_same : (m : Memory) (users : List UserRec) (files : List FileRec) (online : Copies) → users ≡ m.users → files ≡ m.files → online ≡ m.online → moved m users files online ≡ m
moved_same m users files online users_are files_are online_is = λ i. moved m (users_are i) (files_are i) (online_is i)

-- what was known of the list of copies before it was moved
pub taken_moved : (bytes : ℕ) (listed : List ℕ) (online now : Copies) (old new : List Bool) (copy : DiscCopy) → now ≡ online → TakesBeside (places_off listed online) bytes old new copy → TakesBeside (places_off listed now) bytes old new copy
taken_moved bytes listed online now old new copy same = subst (λ (on : Copies). TakesBeside (places_off listed on) bytes old new copy) (sym same)

pub full_moved : {T : Type 0} (r : Result T OnlineFault) (listed : List ℕ) (online now : Copies) (free need : ℕ) → now ≡ online
    → (IsErrOf r (DiscFull need (free + length (places_off listed online))) ↔ (free + length (places_off listed online) < need)) → IsErrOf r (DiscFull need (free + length (places_off listed now))) ↔ (free + length (places_off listed now) < need)
full_moved r listed online now free need same =
    subst (λ (on : Copies). IsErrOf r (DiscFull need (free + length (places_off listed on))) ↔ (free + length (places_off listed on) < need)) (sym same)

pub only_moved : (e : OnlineFault) (listed : List ℕ) (online now : Copies) (free need : ℕ) → now ≡ online → (e ≡ NoMemory) ⊎ (e ≡ DiscFull need (free + length (places_off listed online)))
    → (e ≡ NoMemory) ⊎ (e ≡ DiscFull need (free + length (places_off listed now)))
only_moved e listed online now free need same = subst (λ (on : Copies). (e ≡ NoMemory) ⊎ (e ≡ DiscFull need (free + length (places_off listed on)))) (sym same)

-- what the change requires, with the bytes and the list of files as the code has them
pub record IsAsked (bytes : ℕ) (listed : List ℕ) (inner outer : Change) (o : OnlineFacts) (before : DiscState) (m : Memory) : Type 0 where
  pub needing : IsNeeding listed inner outer
  pub needs : NeedsFor bytes inner
  pub view : facts_of before m ≡ o
  pub kept : IsKept before m
  pub allowed : IsAllowed outer o

pub asked_moved : (bytes : ℕ) (listed : List ℕ) (inner outer : Change) (o : OnlineFacts) (before : DiscState) (m : Memory) (users : List UserRec) (files : List FileRec) (online : Copies) → users ≡ m.users → files ≡ m.files → online ≡ m.online
    → IsAsked bytes listed inner outer o before m → IsAsked bytes listed inner outer o before (moved m users files online)
asked_moved bytes listed inner outer o before m users files online users_are files_are online_is =
    subst (IsAsked bytes listed inner outer o before) (sym (moved_same m users files online users_are files_are online_is))

module _ (bytes : ℕ) (listed : List ℕ) (inner outer : Change) (o : OnlineFacts) (before : DiscState) (m : Memory) (asked : IsAsked bytes listed inner outer o before m) where
  asked_need : need_of outer ≡ blocks_for bytes
  asked_need = asked.needing.two.need ∙ asked.needs.need

  -- what the change requires of lists and blocks
  pub asked_blocks : AllPairs (λ j k. j ≢ k) (places_off listed m.online) × All (IsTaken m.pool) (places_off listed m.online)
  asked_blocks = off_blocks listed before m (may_take_off listed inner outer asked.needing before m o asked.view asked.kept asked.allowed)

  pub asked_copies : AreCopies m.files m.online
  asked_copies = (asked.kept.agreed (allowed_live outer before m o asked.view asked.allowed)).copies

  pub asked_refused : (e : OnlineFault) (pool : List Bool) → pool ≡ m.pool
      → (IsErrOf {T = DiscCopy} (Err e) (DiscFull (blocks_for bytes) (free_count m.pool + length (places_off listed m.online))) ↔ (free_count m.pool + length (places_off listed m.online) < blocks_for bytes))
      → (e ≡ NoMemory) ⊎ (e ≡ DiscFull (blocks_for bytes) (free_count m.pool + length (places_off listed m.online)))
      → IsKept before (record m { pool = pool }) × IsApplied outer o (facts_of before (record m { pool = pool })) (Err e)
  asked_refused e pool same full only =
      let room : free_count m.pool + length (places_off listed m.online) ≡ room_for outer o = room_told listed inner outer asked.needing before m o asked.view asked.kept asked.allowed in
      let back : record m { pool = pool } ≡ m = λ i. record m { pool = same i } in (
        subst (IsKept before) (sym back) asked.kept,
        refused outer before m (record m { pool = pool }) o e asked.view asked.kept refl (refused_not e (blocks_for bytes) (free_count m.pool + length (places_off listed m.online)) only) asked.needing.takes
            (full_refused e (need_of outer) (room_for outer o) (full_here {T = DiscCopy} (Err e) (blocks_for bytes) (free_count m.pool + length (places_off listed m.online)) (need_of outer) (room_for outer o) (sym asked_need) room full))
            (subst (λ (k : ℕ). (e ≡ NoMemory) ⊎ (e ≡ DiscFull (need_of outer) k)) room
            (subst (λ (j : ℕ). (e ≡ NoMemory) ⊎ (e ≡ DiscFull j (free_count m.pool + length (places_off listed m.online)))) (sym asked_need) only)),
      )

  -- THE BLOCKS ARE TAKEN
  module _ (pool : List Bool) (copy : DiscCopy) (takes : TakesBeside (places_off listed m.online) bytes m.pool pool copy) where
    pub asked_room : room_for outer o < need_of outer → ⊥
    asked_room less =
        let few : free_count m.pool + length (places_off listed m.online) < blocks_for bytes =
        subst (λ (k : ℕ). free_count m.pool + length (places_off listed m.online) < k) asked_need
        (subst (λ (k : ℕ). k < need_of outer) (sym (room_told listed inner outer asked.needing before m o asked.view asked.kept asked.allowed)) less) in
        let enough = (new_copy bytes (places_off listed m.online) m.pool pool copy takes).room in
        let given = takes.gives.count in
        (let no : ⊥ = omega (arith, few, enough, given) in no)

    -- what the first commit requires
    pub asked_rules : (pinned : Bool) → pinned ≡ is_some m.pins
        → AreRecords Two (directory_of (head_after pinned m.head) m.users m.files (without_copies listed m.online)) × IsDirectory before.size (directory_of (head_after pinned m.head) m.users m.files (without_copies listed m.online))
    asked_rules pinned is =
        subst (λ (b : Bool). AreRecords Two (directory_of (head_after b m.head) m.users m.files (without_copies listed m.online)) × IsDirectory before.size (directory_of (head_after b m.head) m.users m.files (without_copies listed m.online))) (sym is)
        (left_rules listed before m (may_take_off listed inner outer asked.needing before m o asked.view asked.kept asked.allowed) takes.between asked.kept.most takes.gives)

    -- TAKEN OFF, or nothing was to be
    pub asked_unjammed : (after : DiscState) (y : Parts) (u : Unit {0}) (pinned : Bool) → pinned ≡ is_some m.pins → (listed ≡ [] → IsUntouched before after (parts_of m) y (Ok u))
        → (0 < length listed → TakesFilesOff listed pinned m.users m.files before after (parts_of m) y (Ok u)) → IsUnjammed inner listed o after (memory_with m takes.between y)
    asked_unjammed after y u pinned is none off =
        is_unjammed listed inner outer asked.needing before after m takes.between y o u asked.view asked.kept asked.allowed takes.gives none
        (λ some. subst (λ (b : Bool). TakesFilesOff listed b m.users m.files before after (parts_of m) y (Ok u)) is (off some))

    -- stopped in that commit
    pub asked_stopped : (after : DiscState) (y : Parts) (e : OnlineFault) (pinned : Bool) → pinned ≡ is_some m.pins → (listed ≡ [] → IsUntouched before after (parts_of m) y (Err e))
        → (0 < length listed → TakesFilesOff listed pinned m.users m.files before after (parts_of m) y (Err e))
        → IsKept after (memory_with m pool y) × IsApplied outer o (facts_of after (memory_with m pool y)) (Err e)
    asked_stopped after y e pinned is none off =
        let all = unjam_stopped listed inner outer asked.needing before after m takes.between y o e asked.view asked.kept asked.allowed takes.gives none
        (λ some. subst (λ (b : Bool). TakesFilesOff listed b m.users m.files before after (parts_of m) y (Err e)) is (off some)) asked_room in
        (kept_stopped after (memory_with m takes.between y) (memory_with m pool y) all.0 all.2, all.1)

  pub asked_below : All (λ n. n < 1024) listed
  asked_below = (may_take_off listed inner outer asked.needing before m o asked.view asked.kept asked.allowed).below

  pub asked_marked : IsMarked before m.side m.pages (directory_in m)
  asked_marked =
      let stored = (asked.kept.agreed (allowed_live outer before m o asked.view asked.allowed)).stored in
      record { size = asked.kept.size; gate = stored.gate; remembers = stored.remembers; covers = stored.covers; records = stored.records; rules = stored.rules }

-- what the writes require
pub unjammed_copy : (bytes : ℕ) (given : List ℕ) (old pool : List Bool) (copy : DiscCopy) (inner : Change) (listed : List ℕ) (o : OnlineFacts) (disc : DiscState) (m : Memory) → (takes : TakesBeside given bytes old pool copy) → IsUnjammed inner listed o disc m
    → m.pool ≡ takes.between → IsCopy disc.size copy
unjammed_copy bytes given old pool copy inner listed o disc m takes un is =
    IsCopy-from_free m.pool disc.size copy (un.kept.agreed un.live).pool.fresh.whole
    (subst (λ (k : ℕ). AreLeastFree m.pool (blocks_for k) copy.blocks) (sym takes.len) (subst (λ (p : List Bool). AreLeastFree p (blocks_for bytes) copy.blocks) (sym is) takes.least))

-- STOPPED in one of the writes of the bytes
pub bytes_stopped : (bytes : ℕ) (listed : List ℕ) (inner outer : Change) (copy : DiscCopy) (o : OnlineFacts) (origin before : DiscState) (m : Memory) (live : Bool) (pool : List Bool) (e : OnlineFault) {k : ℕ} → IsNeeding listed inner outer → NeedsFor bytes inner
    → IsUnjammed inner listed o origin m → IsNewCopy bytes m.pool copy → (room_for outer o < need_of outer → ⊥)
    → WritesOnly {T = Unit {0}} k origin before (Err e) → WritingStopped copy.blocks origin before → ForSome before.held (AreWhole before.size) → live ≡ false → (let r : Result (Unit {0}) OnlineFault = Err e in r ≡ Err Stopped)
    → IsKept before (record m { live = live; pool = pool }) × IsApplied outer o (facts_of before (record m { live = live; pool = pool })) (Err e)
bytes_stopped bytes listed inner outer copy o origin before m live pool e needing needs un new room counts stop_is whole dead is =
    let both = write_stopped inner listed bytes copy o origin before m needs un new counts.size whole stop_is.content e (stopped_is e is) stop_is.durable counts in
    let stop : IsApplied inner (facts_of origin m) (facts_of before (record m { live = live })) (Err e) =
    subst (λ (l : Bool). IsApplied inner (facts_of origin m) (facts_of before (record m { live = l })) (Err e)) (sym dead) both.1 in (
      kept_stopped before (record m { live = false }) (record m { live = live; pool = pool }) both.0 dead,
      whole_applied listed inner outer needing o (facts_of origin m) (facts_of before (record m { live = live })) (Err e) un.way stop (stopped_is e is) room,
    )

-- ANSWERED by the last commit
pub last_answered : (listed : List ℕ) (inner outer : Change) (o : OnlineFacts) {origin : DiscState} (before after : DiscState) (m n : Memory) (next : Side) (pages : Remembered) (live : Bool) (r : Result (Unit {0}) OnlineFault) (online : Copies)
    → IsNeeding listed inner outer → IsUnjammed inner listed o origin m → IsReadyFrom inner origin before m n → (room_for outer o < need_of outer → ⊥) → online ≡ n.online
    → OnOk r (HasCommitted (directory_of n.head n.users n.files online) before after n.side next n.pages pages) → OnErr r (CommitStopped (directory_of n.head n.users n.files online) before after n.pages)
    → WritesOnly (commit_blocks (directory_of n.head n.users n.files online) n.side n.pages) before after r → ForSome after.held (AreWhole after.size) → OnErr r (r ≡ Err Stopped)
    → OnOk r (live ≡ n.live) → OnErr r (live ≡ false) → IsApplied outer o (facts_of after (record n { side = next; pages = pages; live = live })) r
last_answered listed inner outer o {origin} before after m n next pages live r online needing un ready room same ok stopped counts whole only lives dies =
    whole_applied listed inner outer needing o (facts_of origin m) (facts_of after (record n { side = next; pages = pages; live = live })) r un.way
    (applied inner before after m n next pages ready (facts_of origin m) refl live r online same ok stopped counts whole only lives dies) (stops_of r only) room

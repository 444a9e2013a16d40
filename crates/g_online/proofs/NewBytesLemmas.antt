-- New bytes are those of a new version, or of a file whose bytes are only on tape: what is known of either.
-- serves: with_new_copy
use Rattle.std.proofs.Common.{◌≡◌, ◌≢◌, ℕ, ◌+◌, ◌<◌, ◌≤◌, Bool, true, false, List, [], ◌∷◌, length, Option, Some, None, Result, Ok, Err, All, AllPairs, refl, sym, ◌∙◌, ap, subst, arith}
use Rattle.std.specs.Prelude.{IfSome, OnErr, OnOk, is_some}
use Rattle.std.specs.Option.{ForSome}
use Rattle.std.specs.FinMap as finmap
use Rattle.std.proofs.lemmas.List.Elements.{All-cons, All-contains}
use Rattle.g_base.specs.ToldContent.{Changes}
use Rattle.g_blocks.specs.Pool.{HasGiven, HasTaken, IsTaken}
use Rattle.g_copy.specs.declared.copy.DiscCopy.{DiscCopy}
use Rattle.g_copy.specs.Copy.{Holds as Copied, OnlyAt}
use Rattle.g_disc.specs.Disc.{DiscState, WritesOnly}
use Rattle.g_entry.specs.declared.file_rec.FileRec.{FileRec}
use Rattle.g_entry.specs.declared.head.Head.{Head}
use Rattle.g_entry.specs.declared.user_rec.UserRec.{UserRec}
use Rattle.g_slots.specs.declared.side.Side.{Side}
use Rattle.g_dirs.specs.Commit.{OldOrNew}
use Rattle.g_dirs.specs.Directory.{FileEntry, copy_at, directory_of, entries_of}
use Rattle.g_dirs.specs.Pages.{KeepsPages, Remembered}
use Rattle.g_dirs.proofs.EntryLemmas.{same_lists}
use Rattle.g_tree.specs.Records.{IsRecords, by_number}
use Rattle.g_tree.specs.State.{with_file as tree_with_file}
use Rattle.g_disc_contents.specs.Facts.{OnlineFacts}
use Rattle.g_online.specs.declared.change.Change.{Change}
use Rattle.g_online.specs.declared.change.Change.TheVariants.{Bring, PutFile}
use Rattle.g_online.specs.declared.fault.OnlineFault.{OnlineFault}
use Rattle.g_online.specs.declared.fault.OnlineFault.TheVariants.{Stopped}
use Rattle.g_online.specs.AllowedChanges.{IsAllowed}
use Rattle.g_online.specs.Change.{need_of}
use Rattle.g_online.specs.Commit.{CommitStopped, HasCommitted, commit_blocks}
use Rattle.g_online.specs.Copies.{with_copy_at}
use Rattle.g_online.specs.Outcomes.{IsApplied, room_for}
use Rattle.g_online.specs.Invariant.{AreWhole, GivesUnless, IsKept, Memory, copy_places, facts_of, head_after}
use Rattle.g_online.specs.Unloading.{places_off}
use Rattle.g_online.specs.NewBytes.{IsUntouched, Parts, TakesBeside, TakesFilesOff, WritingStopped, WroteBytes, is_pinned_at, noted_for, recs_with, stamped, users_with, with_bytes}
use Rattle.g_online.proofs.BringStepLemmas.{bring_needing, bring_ready, bring_short, is_off}
use Rattle.g_online.proofs.CopyLemmas.{Copies}
use Rattle.g_online.proofs.NeedLemmas.{IsAsked, asked_room, asked_unjammed, bytes_stopped, last_answered, new_copy}
use Rattle.g_online.proofs.PutStepLemmas.{may_replace, owner_below, put_ready, put_records}
use Rattle.g_online.proofs.ReadyLemmas.{CoversBut, StillRemembers}
use Rattle.g_online.proofs.StepLemmas.{IsReadyFrom}
use Rattle.g_online.proofs.TwoLemmas.{IsNeeding, is_new, put_needing}
use Rattle.g_online.proofs.UnjamLemmas.{IsUnjammed, memory_with, parts_of}
use Rattle.g_online.proofs.WrittenLemmas.{IsNewCopy, NeedsFor}

-- what the change requires, by the bytes and the list as the code has them
pub bytes_needing : (rec : Option FileRec) (number : ℕ) (bytes unjam : List ℕ) → IsNeeding unjam (with_bytes rec number bytes []) (with_bytes rec number bytes unjam)
bytes_needing None number bytes unjam = bring_needing number bytes unjam
bytes_needing (Some r) number bytes unjam = put_needing r bytes unjam

bytes_needs : (rec : Option FileRec) (number : ℕ) (bytes : List ℕ) → NeedsFor (length bytes) (with_bytes rec number bytes [])
bytes_needs None number bytes = record { need = refl; none = refl }
bytes_needs (Some r) number bytes = record { need = refl; none = refl }

pub bytes_asked : (rec : Option FileRec) (number : ℕ) (bytes text numbers listed : List ℕ) (o : OnlineFacts) (before : DiscState) (m : Memory) → text ≡ bytes → listed ≡ numbers → facts_of before m ≡ o → IsKept before m
    → IsAllowed (with_bytes rec number bytes numbers) o → IsAsked (length text) listed (with_bytes rec number text []) (with_bytes rec number text listed) o before m
bytes_asked rec number bytes text numbers listed o before m text_is listed_is view kept allowed = record {
  needing = bytes_needing rec number text listed;
  needs = bytes_needs rec number text;
  view = view;
  kept = kept;
  allowed = subst (λ (c : Change). IsAllowed c o) (λ i. with_bytes rec number ((sym text_is) i) ((sym listed_is) i)) allowed;
}

pub bytes_answer : (rec : Option FileRec) (number : ℕ) (bytes text numbers listed : List ℕ) (o q : OnlineFacts) (r : Result (Unit {0}) OnlineFault) → text ≡ bytes → listed ≡ numbers
    → IsApplied (with_bytes rec number text listed) o q r → IsApplied (with_bytes rec number bytes numbers) o q r
bytes_answer rec number bytes text numbers listed o q r text_is listed_is = subst (λ (c : Change). IsApplied c o q r) (λ i. with_bytes rec number (text_is i) (listed_is i))

pub bytes_short : (rec : Option FileRec) (number : ℕ) (bytes text numbers : List ℕ) (o : OnlineFacts) (before : DiscState) (m : Memory) → IfSome rec (λ r. r.number ≡ number) → text ≡ bytes → facts_of before m ≡ o → IsKept before m
    → IsAllowed (with_bytes rec number bytes numbers) o → (length text ≤ 65536) × (number < 1024)
bytes_short None number bytes text numbers o before m at text_is view kept allowed =
    let both = bring_short number bytes numbers before m o view kept allowed in
    (subst (λ (t : List ℕ). length t ≤ 65536) (sym text_is) both.0, both.1)
bytes_short (Some r) number bytes text numbers o before m at text_is view kept allowed =
    let new = is_new r bytes numbers o allowed in
    (subst (λ (k : ℕ). k ≤ 65536) (allowed.fits.2 ∙ ap (λ (t : List ℕ). length t) (sym text_is)) new.file.len, subst (λ (k : ℕ). k < 1024) at new.number)

pub block_below : (number k : ℕ) → k ≡ number → number < 1024 → 64 + k < 1088
block_below number k at less = omega (arith, at, less)

-- THE BYTES ARE WRITTEN into a copy of their own
pub record HasWritten (rec : Option FileRec) (number : ℕ) (bytes unjam : List ℕ) (copy : DiscCopy) (o : OnlineFacts) (origin before : DiscState) (m : Memory) : Type 0 where
  pub at : IfSome rec (λ r. r.number ≡ number)
  pub un : IsUnjammed (with_bytes rec number bytes []) unjam o origin m
  pub new : IsNewCopy (length bytes) m.pool copy
  pub whole : ForSome before.held (AreWhole before.size)
  pub counts : WritesOnly {T = Unit {0}} {E = OnlineFault} (length copy.blocks) origin before (Ok tt)
  pub written : WroteBytes copy.blocks bytes origin before

-- a file that isn't on the disc has no copy there
copy_of_entry : (files : List FileRec) (online : Copies) → All (λ (e : FileEntry). copy_at online e.0.number ≡ e.1) (entries_of files online)
copy_of_entry [] online = λ k d within. (let no : ⊥ = omega (arith, within) in absurd no)
copy_of_entry (r ∷ files) online =
    All-cons (λ (e : FileEntry). copy_at online e.0.number ≡ e.1) (let e : FileEntry = (r, copy_at online r.number) in e) (entries_of files online) refl (copy_of_entry files online)

-- no block is given back
same_pool : (old new : List Bool) → HasGiven [] old new → new ≡ old
same_pool old new gives = same_lists new old (λ k. gives.changes.others k (λ there. (let inside = there.1 in let no : ⊥ = omega (arith, inside) in no)))

gives_none : (keeps : Bool) (copy : Option DiscCopy) (old new : List Bool) → copy ≡ None → GivesUnless keeps (copy_places copy) old new → new ≡ old
gives_none true copy old new none gives = gives
gives_none false None old new none gives = same_pool old new gives
gives_none false (Some copy) old new none gives = (let no : ⊥ = cc in absurd no)

-- what replaces the former parts of memory
pub record IsPutIn (number : ℕ) (copy : DiscCopy) (m : Memory) (rec : Option FileRec) (mid : List Bool) (keeps pinned : Bool) (first : Remembered) (n : Memory) : Type 0 where
  pub taken : HasTaken copy.blocks m.pool mid
  pub keeps_is : keeps ≡ is_pinned_at m.pins (finmap.get (by_number m.files) number)
  pub gives : GivesUnless keeps (copy_places (copy_at m.online number)) mid n.pool
  pub pages : KeepsPages m.pages n.pages
  pub remembers : StillRemembers m.pages n.pages
  pub first_covers : CoversBut 0 m.pages first
  pub covers : CoversBut (64 + number) first n.pages
  pub pinned_is : pinned ≡ is_some m.pins
  pub head : n.head ≡ head_after pinned (stamped rec m.head)
  pub users : n.users ≡ m.users
  pub files : n.files ≡ recs_with rec m.files
  pub online : n.online ≡ with_copy_at (number, copy) m.online
  pub changed : n.changed ≡ users_with rec m.changed
  pub touched : n.touched ≡ noted_for pinned rec m.touched

abbrev pub put_in : Memory → List Bool → Remembered → Head → List UserRec → List FileRec → Copies → List ℕ → List ℕ → Memory
put_in m pool pages head users files online changed touched = record m {
  head = head;
  users = users;
  files = files;
  online = online;
  pool = pool;
  pages = pages;
  changed = changed;
  touched = touched;
}

module _ (number : ℕ) (bytes unjam : List ℕ) (copy : DiscCopy) (o : OnlineFacts) (origin before : DiscState) (m : Memory) where
  copy_for : (r : FileRec) → HasWritten (Some r) number bytes unjam copy o origin before m → IsNewCopy r.len m.pool copy
  copy_for r w = subst (λ (k : ℕ). IsNewCopy k m.pool copy) (sym w.un.allowed.fits.2) w.new

  no_copy : HasWritten None number bytes unjam copy o origin before m → copy_at m.online number ≡ None
  no_copy w =
      let off = is_off number bytes origin m w.un.kept w.un.live w.un.allowed in
      ap (copy_at m.online) (sym off.number_is)
      ∙ All-contains (λ (e : FileEntry). copy_at m.online e.0.number ≡ e.1) (entries_of m.files m.online) (let e : FileEntry = (off.file, None) in e) (copy_of_entry m.files m.online) off.entry

  -- what giving the blocks of a replaced version back requires
  pub may_give_back : (rec : Option FileRec) → HasWritten rec number bytes unjam copy o origin before m → (mid : List Bool) (keeps : Bool) → HasTaken copy.blocks m.pool mid
      → keeps ≡ is_pinned_at m.pins (finmap.get (by_number m.files) number) → keeps ≡ false
      → AllPairs (λ j k. j ≢ k) (copy_places (copy_at m.online number)) × All (IsTaken mid) (copy_places (copy_at m.online number))
  may_give_back None w mid keeps taken is free =
      subst (λ (c : Option DiscCopy). AllPairs (λ j k. j ≢ k) (copy_places c) × All (IsTaken mid) (copy_places c)) (sym (no_copy w)) (
        λ i j d less within. (let no : ⊥ = omega (arith, within) in absurd no),
        λ k d within. (let no : ⊥ = omega (arith, within) in absurd no),
      )
  may_give_back (Some r) w mid keeps taken is free =
      subst (λ (n : ℕ). keeps ≡ is_pinned_at m.pins (finmap.get (by_number m.files) n)
      → AllPairs (λ j k. j ≢ k) (copy_places (copy_at m.online n)) × All (IsTaken mid) (copy_places (copy_at m.online n))) w.at
      (λ same. may_replace r bytes unjam copy o origin before m w.un (copy_for r w) w.whole w.counts w.written mid keeps taken same free) is

  -- what the record requires
  pub record_fits : (rec : Option FileRec) → HasWritten rec number bytes unjam copy o origin before m → IfSome rec (λ r. IsRecords m.users (tree_with_file r m.files))
  record_fits None w = tt
  record_fits (Some r) w = put_records r bytes unjam copy o origin before m w.un (copy_for r w) w.whole w.counts w.written

  pub owner_fits : (rec : Option FileRec) → HasWritten rec number bytes unjam copy o origin before m → IfSome rec (λ r. r.owner < 63)
  owner_fits None w = tt
  owner_fits (Some r) w = owner_below r m.users (is_new r bytes [] (facts_of origin m) w.un.allowed)

  pub bytes_ready : (rec : Option FileRec) → HasWritten rec number bytes unjam copy o origin before m → (mid : List Bool) (keeps pinned : Bool) (first : Remembered)
      (pool : List Bool) (pages : Remembered) (head : Head) (users : List UserRec) (files : List FileRec) (online : Copies) (changed touched : List ℕ)
      → IsPutIn number copy m rec mid keeps pinned first (put_in m pool pages head users files online changed touched)
      → IsReadyFrom (with_bytes rec number bytes []) origin before m (put_in m pool pages head users files online changed touched)
  bytes_ready None w mid keeps pinned first pool pages head users files online changed touched put =
      subst (IsReadyFrom (Bring number bytes []) origin before m)
      (λ i. put_in m ((sym (gives_none keeps (copy_at m.online number) mid pool (no_copy w) put.gives)) i) pages head ((sym put.users) i) ((sym put.files) i) online ((sym put.changed) i) ((sym put.touched) i))
      (bring_ready number bytes unjam copy o origin before m (length bytes) refl w.un w.new w.whole w.counts w.written mid pinned first pages head online
      put.taken put.pages put.remembers put.first_covers put.covers put.pinned_is put.head put.online)
  bytes_ready (Some r) w mid keeps pinned first pool pages head users files online changed touched put =
      subst (λ (n : ℕ). keeps ≡ is_pinned_at m.pins (finmap.get (by_number m.files) n) → GivesUnless keeps (copy_places (copy_at m.online n)) mid pool → CoversBut (64 + n) first pages → online ≡ with_copy_at (n, copy) m.online
      → IsReadyFrom (PutFile r bytes []) origin before m (put_in m pool pages head users files online changed touched)) w.at
      (λ keeps_is gives covers online_is.
      put_ready r bytes unjam copy o origin before m w.un (copy_for r w) w.whole w.counts w.written mid pool keeps pinned first pages head users files online changed touched
      put.taken keeps_is gives put.pages put.remembers put.first_covers covers (is_new r bytes [] (facts_of origin m) w.un.allowed).owner put.pinned_is put.head put.users put.files online_is put.changed put.touched)
      put.keeps_is put.gives put.covers put.online

-- until the writes: what the change requires, the blocks that were taken, and the files that were taken off
pub record IsPrepared (rec : Option FileRec) (number : ℕ) (bytes listed : List ℕ) (o : OnlineFacts) (before after : DiscState) (m : Memory) (pool : List Bool) (copy : DiscCopy) (y : Parts) : Type 0 where
  pub at : IfSome rec (λ r. r.number ≡ number)
  pub asked : IsAsked (length bytes) listed (with_bytes rec number bytes []) (with_bytes rec number bytes listed) o before m
  pub takes : TakesBeside (places_off listed m.online) (length bytes) m.pool pool copy
  pub un : IsUnjammed (with_bytes rec number bytes []) listed o after (memory_with m takes.between y)

module _ (rec : Option FileRec) (number : ℕ) (bytes listed : List ℕ) (o : OnlineFacts) (before after : DiscState) (m : Memory) (pool : List Bool) (copy : DiscCopy) (y : Parts) where
  pub prepare : (u : Unit {0}) (pinned : Bool) → IfSome rec (λ r. r.number ≡ number) → IsAsked (length bytes) listed (with_bytes rec number bytes []) (with_bytes rec number bytes listed) o before m
      → TakesBeside (places_off listed m.online) (length bytes) m.pool pool copy → pinned ≡ is_some m.pins → (listed ≡ [] → IsUntouched before after (parts_of m) y (Ok u))
      → (0 < length listed → TakesFilesOff listed pinned m.users m.files before after (parts_of m) y (Ok u)) → IsPrepared rec number bytes listed o before after m pool copy y
  prepare u pinned at asked takes is none off = record {
    at = at;
    asked = asked;
    takes = takes;
    un = asked_unjammed (length bytes) listed (with_bytes rec number bytes []) (with_bytes rec number bytes listed) o before m asked pool copy takes after y u pinned is none off;
  }

  abbrev pub before_bytes : IsPrepared rec number bytes listed o before after m pool copy y → Memory
  before_bytes p = memory_with m p.takes.between y

  pub has_written : (p : IsPrepared rec number bytes listed o before after m pool copy y) (last : DiscState) → ForSome last.held (AreWhole last.size)
      → WritesOnly {T = Unit {0}} {E = OnlineFault} (length copy.blocks) after last (Ok tt) → WroteBytes copy.blocks bytes after last
      → HasWritten rec number bytes listed copy o after last (before_bytes p)
  has_written p last whole counts written = record {
    at = p.at;
    un = p.un;
    new = new_copy (length bytes) (places_off listed m.online) m.pool pool copy p.takes;
    whole = whole;
    counts = counts;
    written = written;
  }

  room_there : (p : IsPrepared rec number bytes listed o before after m pool copy y) → room_for (with_bytes rec number bytes listed) o < need_of (with_bytes rec number bytes listed) → ⊥
  room_there p = asked_room (length bytes) listed (with_bytes rec number bytes []) (with_bytes rec number bytes listed) o before m p.asked pool copy p.takes

  -- stopped in one of the writes of the bytes
  pub writes_stopped : (p : IsPrepared rec number bytes listed o before after m pool copy y) (last : DiscState) (live : Bool) (e : OnlineFault) {k : ℕ} → WritesOnly {T = Unit {0}} k after last (Err e)
      → WritingStopped copy.blocks after last → ForSome last.held (AreWhole last.size) → live ≡ false → (let r : Result (Unit {0}) OnlineFault = Err e in r ≡ Err Stopped)
      → IsKept last (record (before_bytes p) { live = live; pool = pool }) × IsApplied (with_bytes rec number bytes listed) o (facts_of last (record (before_bytes p) { live = live; pool = pool })) (Err e)
  writes_stopped p last live e counts only whole dead is =
      bytes_stopped (length bytes) listed (with_bytes rec number bytes []) (with_bytes rec number bytes listed) copy o after last (before_bytes p) live pool e p.asked.needing p.asked.needs p.un
      (new_copy (length bytes) (places_off listed m.online) m.pool pool copy p.takes) (room_there p) counts only whole dead is

  -- answered by the last commit
  pub commit_answers : (p : IsPrepared rec number bytes listed o before after m pool copy y) (last end : DiscState) (n : Memory) (next : Side) (pages : Remembered) (live : Bool) (r : Result (Unit {0}) OnlineFault) (online : Copies)
      → IsReadyFrom (with_bytes rec number bytes []) after last (before_bytes p) n → online ≡ n.online
      → OnOk r (HasCommitted (directory_of n.head n.users n.files online) last end n.side next n.pages pages) → OnErr r (CommitStopped (directory_of n.head n.users n.files online) last end n.pages)
      → WritesOnly (commit_blocks (directory_of n.head n.users n.files online) n.side n.pages) last end r → ForSome end.held (AreWhole end.size) → OnErr r (r ≡ Err Stopped)
      → OnOk r (live ≡ n.live) → OnErr r (live ≡ false) → IsApplied (with_bytes rec number bytes listed) o (facts_of end (record n { side = next; pages = pages; live = live })) r
  commit_answers p last end n next pages live r online ready =
      last_answered listed (with_bytes rec number bytes []) (with_bytes rec number bytes listed) o last end (before_bytes p) n next pages live r online p.asked.needing p.un ready (room_there p)

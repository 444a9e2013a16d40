-- The commit that notes the copies of a dump, when nothing is pinned any more: what it leaves, for any list of users who
-- count as changed afterwards.
-- serves: adopt_ready, close_dump, AdoptedLemmas, CloseLemmas
use Rattle.std.proofs.Common.{◌≡◌, ◌⊎◌, ℕ, ◌+◌, ◌<◌, Bool, true, false, List, [], length, Option, None, Result, Ok, Err, refl, sym, ◌∙◌, ap, subst, arith, inl, inr}
use Rattle.std.specs.Prelude.{is_some, OnErr, OnOk}
use Rattle.std.specs.Option.{ForSome}
use Rattle.g_base.specs.Counts.{RoseBy}
use Rattle.g_base.specs.ToldContent.{Changes}
use Rattle.g_copy.specs.declared.copy.DiscCopy.{DiscCopy}
use Rattle.g_disc.specs.Disc.{Causes, DiscState, WritesOnly}
use Rattle.g_entry.specs.declared.file_rec.TapeCopy.{TapeCopy}
use Rattle.g_slots.specs.declared.side.Side.{Side}
use Rattle.g_dirs.specs.Commit.{OldOrNew}
use Rattle.g_dirs.specs.Directory.{directory_of}
use Rattle.g_dirs.specs.Pages.{Remembered}
use Rattle.g_disc_contents.specs.Durable.{IsDurable}
use Rattle.g_disc_contents.specs.Commits.{Commits}
use Rattle.g_disc_contents.specs.Contents.{Holds}
use Rattle.g_disc_contents.specs.Facts.{IsTied, OnlineFacts, Pin}
use Rattle.g_online.specs.declared.change.Change.TheVariants.{Adopt}
use Rattle.g_online.specs.declared.fault.OnlineFault.{OnlineFault}
use Rattle.g_online.specs.declared.fault.OnlineFault.TheVariants.{Stopped}
use Rattle.g_online.specs.declared.pinned.Pinned.{Pinned}
use Rattle.g_online.specs.Change.{changed, unjammed}
use Rattle.g_online.specs.Commit.{CommitStopped, HasCommitted, commit_blocks}
use Rattle.g_online.specs.Outcomes.{HasChanged, HasStopped, IsApplied}
use Rattle.g_online.specs.Invariant.{AreNoted, AreWhole, IsKept, Memory, PinsAre, directory_in, facts_of}
use Rattle.g_online.specs.ReadyCopies.{StoppedAdopting, adopted}
use Rattle.g_online.proofs.StepLemmas.{IsReady, applied, kept_behind}
use Rattle.g_online.proofs.TieLemmas.{tied}
use Rattle.g_online.proofs.MemoryLemmas.{kept_anew}

-- the contents of the change
pub adopted_is : (told : Bool) (last : ℕ) (copies : List (ℕ × TapeCopy)) (o : OnlineFacts) → o.pins ≡ None → changed told (is_some o.pins) (Adopt last copies) o.contents ≡ adopted last copies o.contents
unfolding changed
adopted_is told last copies o none = ap (λ (pins : Option (List Pin)). changed told (is_some pins) (Adopt last copies) o.contents) none

-- THE SAME MEMORY, except for the users who count as changed
abbrev pub counted : List ℕ → List ℕ → Memory → Memory
counted all touched m = record m { changed = all; touched = touched }

counted_kept : (disc : DiscState) (m : Memory) (all touched : List ℕ) → IsKept disc m → m.pins ≡ None → touched ≡ [] → (m.live ≡ true → AreNoted (length m.users) (directory_in m).files all touched) → IsKept disc (counted all touched m)
counted_kept disc m all touched kept none nobody noted_are =
    kept_anew disc m m.pool m.pins all touched kept (λ live. (kept.agreed live).pool) noted_are
    (λ live. subst (λ (pins : Option (List Pinned)). PinsAre pins disc.size m.head.next_stamp (directory_in m).files touched) (sym none) nobody)

-- DONE: the copies are noted, and these users count as changed
pub record HasNoted (last : ℕ) (copies : List (ℕ × TapeCopy)) (all : List ℕ) (old new : OnlineFacts) : Type 0 where
  pub live : new.live ≡ true
  pub contents : new.contents ≡ adopted last copies old.contents
  pub pins : new.pins ≡ None
  pub changed : new.changed ≡ all
  pub touched : new.touched ≡ []
  pub blocks : ℕ
  pub commits : Commits 1 old.layout new.layout blocks
  pub writes : RoseBy blocks old.disc.writes new.disc.writes
  pub durable : IsDurable old → IsDurable new

-- or stopped at one of its writes
pub record IsNotedBy (last : ℕ) (copies : List (ℕ × TapeCopy)) (all : List ℕ) (old new : OnlineFacts) (result : Result (Unit {0}) OnlineFault) : Type 0 where
  pub ok : OnOk result (HasNoted last copies all old new)
  pub stopped : OnErr result (StoppedAdopting last copies old new)
  pub causes : Causes ⊥ (result ≡ Err Stopped) old.disc new.disc
  pub tied : IsTied new
  pub told : is_some new.disc.held ≡ is_some old.disc.held
  pub only : OnErr result (result ≡ Err Stopped)

-- WHAT IS COMMITTED: nothing is pinned in it, and the users who will count as changed may
pub record MayNote (last : ℕ) (copies : List (ℕ × TapeCopy)) (all touched : List ℕ) (before : DiscState) (m n : Memory) : Type 0 where
  pub ready : IsReady (Adopt last copies) before m n
  pub none : (facts_of before m).pins ≡ None
  pub unpinned : n.pins ≡ None
  pub nobody : touched ≡ []
  pub noted : AreNoted (length n.users) (directory_in n).files all touched

module _ (last : ℕ) (copies : List (ℕ × TapeCopy)) (all touched : List ℕ) (before : DiscState) (m n : Memory) (may : MayNote last copies all touched before m n) (after : DiscState) (next : Side) (pages : Remembered) (live : Bool) where
  abbrev behind : Memory
  behind = record n { side = next; pages = pages; live = live }

  pub noted_kept : (result : Result (Unit {0}) OnlineFault) (online : List (ℕ × DiscCopy)) → online ≡ n.online
      → OnOk result (HasCommitted (directory_of n.head n.users n.files online) before after n.side next n.pages pages) → {k : ℕ} → WritesOnly k before after result
      → ForSome after.held (AreWhole after.size) → OnOk result (live ≡ n.live) → OnErr result (live ≡ false) → IsKept after (counted all touched behind)
  noted_kept result online same done {k} counts whole lives dies =
      counted_kept after behind all touched (kept_behind (Adopt last copies) before after m n next pages may.ready live result online same done counts whole lives dies)
      may.unpinned may.nobody (λ _. may.noted)

  done_noted : HasChanged (Adopt last copies) (facts_of before m) (facts_of after behind) → HasNoted last copies all (facts_of before m) (facts_of after (counted all touched behind))
  done_noted done = record {
    live = done.live;
    contents = done.contents ∙ adopted_is (is_some before.held) last copies (facts_of before m) may.none;
    pins = done.pins ∙ may.none;
    changed = refl;
    touched = may.nobody;
    blocks = done.blocks;
    commits = done.commits;
    writes = subst (λ (k : ℕ). RoseBy k before.writes after.writes) (let same : 0 + done.blocks ≡ done.blocks = omega arith in same) done.writes;
    durable = done.durable;
  }

  stopped_noting : HasStopped (Adopt last copies) (facts_of before m) (facts_of after behind) → StoppedAdopting last copies (facts_of before m) (facts_of after (counted all touched behind))
  stopped_noting stopped = record {
    live = stopped.live;
    holds = λ blocks told. one_of blocks (stopped.holds blocks told).one;
    survives = λ durable. let both = stopped.survives durable in (both.0, λ a told left may. one_of left (both.1 a told left may).one);
  }
    where
      one_of : (blocks : List (List ℕ)) → Holds blocks (facts_of before m).contents
          ⊎ (((let nothing : ℕ = 0 in nothing < 0) × Holds blocks (unjammed (is_some (facts_of before m).pins) (Adopt last copies) (facts_of before m).contents))
          ⊎ Holds blocks (changed true (is_some (facts_of before m).pins) (Adopt last copies) (facts_of before m).contents))
          → Holds blocks (facts_of before m).contents ⊎ Holds blocks (adopted last copies (facts_of before m).contents)
      one_of blocks (inl held) = inl held
      one_of blocks (inr (inl held)) = (let no : ⊥ = (let less = held.0 in omega (arith, less)) in absurd no)
      one_of blocks (inr (inr held)) = inr (subst (Holds blocks) (adopted_is true last copies (facts_of before m) may.none) held)

  answered : (result : Result (Unit {0}) OnlineFault) → IsApplied (Adopt last copies) (facts_of before m) (facts_of after behind) result → IsKept after (counted all touched behind)
      → OnErr result (result ≡ Err Stopped) → IsNotedBy last copies all (facts_of before m) (facts_of after (counted all touched behind)) result
  answered (Ok u) is kept only = record {
    ok = done_noted is.ok;
    stopped = tt;
    causes = is.causes;
    tied = tied after (counted all touched behind) kept;
    told = is.told;
    only = tt;
  }
  answered (Err e) is kept only = record {
    ok = tt;
    stopped = stopped_noting (is.stopped only);
    causes = is.causes;
    tied = tied after (counted all touched behind) kept;
    told = is.told;
    only = only;
  }

  pub noted_by : (result : Result (Unit {0}) OnlineFault) (online : List (ℕ × DiscCopy)) → online ≡ n.online
      → OnOk result (HasCommitted (directory_of n.head n.users n.files online) before after n.side next n.pages pages)
      → OnErr result (CommitStopped (directory_of n.head n.users n.files online) before after n.pages)
      → WritesOnly (commit_blocks (directory_of n.head n.users n.files online) n.side n.pages) before after result
      → ForSome after.held (AreWhole after.size) → OnErr result (result ≡ Err Stopped) → OnOk result (live ≡ n.live) → OnErr result (live ≡ false)
      → IsNotedBy last copies all (facts_of before m) (facts_of after (counted all touched behind)) result
  noted_by result online same done content counts whole only lives dies =
      answered result
      (applied (Adopt last copies) before after m n next pages may.ready (facts_of before m) refl live result online same done content counts whole only lives dies)
      (noted_kept result online same done counts whole lives dies) only

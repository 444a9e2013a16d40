-- What a change leaves, whether it is completed or stopped at one of its writes.
use Rattle.std.specs.Prelude.{◌≡◌, ◌≢◌, ◌⊎◌, ℕ, ◌+◌, ◌<◌, true, false, List, [], length, is_some, None, if◌then◌else◌, nat_lt, Result, Err, OnOk, IfErr, IsErrOf, ◌↔◌}
use Rattle.std.specs.Option.{ForSome}
use Rattle.g_base.specs.Counts.{RoseBy}
use Rattle.g_disc.specs.Disc.{Causes}
use Rattle.g_disc_contents.specs.Contents.{Holds, taken_off}
use Rattle.g_disc_contents.specs.Commits.{Commits}
use Rattle.g_disc_contents.specs.Durable.{IsDurable, StopsSafely}
use Rattle.g_disc_contents.specs.Facts.{IsTied, OnlineFacts, room_with}
use Rattle.g_online.specs.declared.change.Change.{Change}
use Rattle.g_online.specs.declared.fault.OnlineFault.{OnlineFault}
use Rattle.g_online.specs.declared.fault.OnlineFault.TheVariants.{DiscFull, NoMemory, Stopped}
use Rattle.g_online.specs.Change.{changed as changed_to, unjammed, unjammed_by, need_of, takes_memory, changed_after, touched_after, closed}

-- The number of commits of a change: one, preceded by another if files are taken off the disc.
abbrev pub commits_of : Change → ℕ
commits_of change = if nat_lt 0 (length (unjammed_by change)) then 2 else 1

-- The change was completed. The contents are the changed ones, the pins are unchanged, and the disc was written only by the
-- commits and the blocks that the change needs.
pub record HasChanged (change : Change) (old new : OnlineFacts) : Type 0 where
  pub live : new.live ≡ true
  pub contents : new.contents ≡ changed_to (is_some old.disc.held) (is_some old.pins) change old.contents
  pub pins : new.pins ≡ old.pins
  pub changed : new.changed ≡ changed_after change old
  pub touched : new.touched ≡ touched_after change old
  pub blocks : ℕ
  pub commits : Commits (commits_of change) old.layout new.layout blocks
  pub writes : RoseBy (need_of change + blocks) old.disc.writes new.disc.writes
  pub durable : IsDurable old → IsDurable new

-- After an interrupted change the disc holds the old contents, or these without the files that were taken off, or the new
-- contents.
pub record AfterStop (change : Change) (old : OnlineFacts) (blocks : List (List ℕ)) : Type 0 where
  pub one : Holds blocks old.contents
      ⊎ (((0 < length (unjammed_by change)) × Holds blocks (unjammed (is_some old.pins) change old.contents))
      ⊎ Holds blocks (changed_to true (is_some old.pins) change old.contents))

-- The change was stopped at a write. The filestore is no longer live, and the disc, if it exposes its contents, holds one
-- of those that an interruption may leave.
pub record HasStopped (change : Change) (old new : OnlineFacts) : Type 0 where
  pub live : new.live ≡ false
  pub holds : ForSome new.disc.held (AfterStop change old)
  pub survives : StopsSafely (AfterStop change old) old new

-- The dump is closed, and its versions are no longer pinned.
pub record HasClosed (last : ℕ) (old new : OnlineFacts) : Type 0 where
  pub live : new.live ≡ true
  pub contents : new.contents ≡ closed last old
  pub pins : new.pins ≡ None
  pub changed : new.changed ≡ old.touched
  pub touched : new.touched ≡ []
  pub blocks : ℕ
  pub commits : Commits 1 old.layout new.layout blocks
  pub writes : RoseBy blocks old.disc.writes new.disc.writes
  pub durable : IsDurable old → IsDurable new

-- The closing was stopped at a write. The filestore is no longer live, and the disc holds the old contents or those of the
-- closed dump.
pub record StoppedClosing (last : ℕ) (old new : OnlineFacts) : Type 0 where
  pub live : new.live ≡ false
  pub holds : ForSome new.disc.held (λ blocks. Holds blocks old.contents ⊎ Holds blocks (closed last old))
  pub survives : StopsSafely (λ left. Holds left old.contents ⊎ Holds left (closed last old)) old new

-- The number of blocks that would be free if the files that the change takes off the disc were taken off.
abbrev pub room_for : Change → OnlineFacts → ℕ
room_for change o = room_with (taken_off (unjammed_by change) o.contents.files) o

-- How a change is answered: it is completed, or stopped at one of its writes, or refused with everything unchanged, counts
-- included. `DiscFull` is returned if and only if the blocks that the change needs would not be free. Otherwise memory may
-- run out, if the change allocates at all.
pub record IsApplied (change : Change) (old new : OnlineFacts) (result : Result (Unit {0}) OnlineFault) : Type 0 where
  pub ok : OnOk result (HasChanged change old new)
  pub stopped : result ≡ Err Stopped → HasStopped change old new
  pub same : IfErr result (λ e. e ≢ Stopped → new ≡ old)
  pub full : IsErrOf result (DiscFull (need_of change) (room_for change old)) ↔ (room_for change old < need_of change)
  pub memory : takes_memory change ≡ false → result ≡ Err NoMemory → ⊥
  pub causes : Causes ⊥ (result ≡ Err Stopped) old.disc new.disc
  pub tied : IsTied new
  pub told : is_some new.disc.held ≡ is_some old.disc.held
  pub only : IfErr result (λ e. (e ≡ Stopped) ⊎ ((e ≡ NoMemory) ⊎ (e ≡ DiscFull (need_of change) (room_for change old))))

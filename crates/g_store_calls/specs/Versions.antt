-- A new version, as a store creates it: it is written to free blocks, and one commit names it. If there is no room,
-- versions that are also on tape are taken off the disc first, by a commit of their own.
use Rattle.std.specs.Prelude.{◌≡◌, ℕ, ◌^◌, ◌<◌, ◌≤◌, List, length, None, is_some, Result, Ok, Err}
use Rattle.g_base.specs.Block.{blocks_for}
use Rattle.g_disc.specs.Disc.{Causes}
use Rattle.g_entry.specs.declared.file_rec.FileRec.{FileRec}
use Rattle.g_plain.specs.declared.faults.StoreFault.{StoreFault}
use Rattle.g_plain.specs.declared.faults.StoreFault.TheVariants.{DiscFull, NoMemory, Stopped}
use Rattle.g_tree.specs.Records.{IsRecords}
use Rattle.g_tree.specs.State.{with_file}
use Rattle.g_disc_contents.specs.Contents.{recs_in}
use Rattle.g_disc_contents.specs.Facts.{IsTied, OnlineFacts}
use Rattle.g_online.specs.declared.change.Change.TheVariants.{PutFile}
use Rattle.g_online.specs.Outcomes.{HasChanged, HasStopped}
use Rattle.g_laws_store.specs.UnjamPlan.{IsUnjamPlan}

-- The record of the next version, with these bytes.
pub record IsNext (o : OnlineFacts) (bytes : List ℕ) (r : FileRec) : Type 0 where
  pub stamp : r.stamp ≡ o.contents.head.next_stamp
  pub early : o.contents.head.next_stamp < 2 ^ 62
  pub tape : r.tape ≡ None
  pub len : r.len ≡ length bytes
  pub rules : IsRecords o.contents.users (with_file r (recs_in o.contents))

-- By a plan that takes these files off the disc, at least `need` blocks become free.
pub record HasRoom (need : ℕ) (o : OnlineFacts) (take : List ℕ) (room : ℕ) : Type 0 where
  pub plan : IsUnjamPlan need o take room
  pub enough : need ≤ room

-- The version was put: enough room was reached by a plan, and no write failed.
pub record HasPut (r : FileRec) (bytes : List ℕ) (old new : OnlineFacts) : Type 0 where
  pub take : List ℕ
  pub room : ℕ
  pub roomy : HasRoom (blocks_for (length bytes)) old take room
  pub done : HasChanged (PutFile r bytes take) old new
  pub causes : Causes ⊥ ⊥ old.disc new.disc

-- The putting was stopped at a write, after enough room was reached by a plan.
pub record HasStoppedPut (r : FileRec) (bytes : List ℕ) (old new : OnlineFacts) : Type 0 where
  pub take : List ℕ
  pub room : ℕ
  pub roomy : HasRoom (blocks_for (length bytes)) old take room
  pub stopped : HasStopped (PutFile r bytes take) old new
  pub causes : Causes ⊥ (Unit {0}) old.disc new.disc

-- Too few blocks are free, even after taking everything off the disc that may be taken off.
pub record IsFull (bytes : List ℕ) (old new : OnlineFacts) (need room : ℕ) : Type 0 where
  pub same : new ≡ old
  pub need_is : need ≡ blocks_for (length bytes)
  pub take : List ℕ
  pub plan : IsUnjamPlan (blocks_for (length bytes)) old take room
  pub short : room < blocks_for (length bytes)

-- What creating the version does, by its answer.
abbrev pub Makes : FileRec → List ℕ → OnlineFacts → OnlineFacts → Result (Unit {0}) StoreFault → Type 0
Makes r bytes old new (Ok u) = HasPut r bytes old new
Makes r bytes old new (Err Stopped) = HasStoppedPut r bytes old new
Makes r bytes old new (Err (DiscFull need room)) = IsFull bytes old new need room
Makes r bytes old new (Err NoMemory) = new ≡ old
Makes r bytes old new (Err fault) = ⊥

-- How creating the version is answered.
pub record HasMade (r : FileRec) (bytes : List ℕ) (old new : OnlineFacts) (result : Result (Unit {0}) StoreFault) : Type 0 where
  pub makes : Makes r bytes old new result
  pub tied : IsTied new
  pub told : is_some new.disc.held ≡ is_some old.disc.held

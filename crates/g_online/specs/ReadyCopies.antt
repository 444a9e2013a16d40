-- A dump that copies every version to tape: the copies are prepared before it is written. After their commit no user counts
-- as changed.
use Rattle.std.specs.Prelude.{◌≡◌, ◌⊎◌, ℕ, ◌<◌, true, false, List, [], map, All, None, is_some, Result, Err, OnOk, OnErr}
use Rattle.std.specs.Option.{ForSome}
use Rattle.g_base.specs.Counts.{RoseBy}
use Rattle.g_disc.specs.Disc.{Causes}
use Rattle.g_entry.specs.declared.file_rec.FileRec.{FileRec}
use Rattle.g_entry.specs.declared.file_rec.TapeCopy.{TapeCopy}
use Rattle.g_entry.specs.declared.user_rec.UserRec.{UserRec}
use Rattle.g_disc_contents.specs.Commits.{Commits}
use Rattle.g_disc_contents.specs.Durable.{IsDurable, StopsSafely}
use Rattle.g_disc_contents.specs.Contents.{Contents, Holds, copied_rec, recs_in, with_copies, with_intent}
use Rattle.g_disc_contents.specs.Facts.{IsTied, OnlineFacts}
use Rattle.g_online.specs.declared.fault.OnlineFault.{OnlineFault}
use Rattle.g_online.specs.declared.fault.OnlineFault.TheVariants.{Stopped}
use Rattle.g_online.specs.AllowedChanges.{KeepsRules}

-- What is prepared: the users, and the records of files with their copies on tape.
pub record Readied : Type 0 where
  pub users : List UserRec
  pub files : List FileRec

-- What is prepared for these copies on tape, by stamp.
abbrev pub ready_with : List (ℕ × TapeCopy) → Contents → Readied
ready_with copies c = record { users = c.users; files = map (copied_rec copies) (recs_in c) }

-- The contents with these tape copies, the number of their dump, and no intent.
abbrev pub adopted : ℕ → List (ℕ × TapeCopy) → Contents → Contents
adopted last copies c = with_intent None (record c {
  head = record c.head { last_dump = last };
  files = with_copies copies c.files;
})

-- Every version that isn't empty has a copy then. This is necessary, since the owner of a version without one must count as
-- changed, and no user will.
pub record CoverAll (copies : List (ℕ × TapeCopy)) (c : Contents) : Type 0 where
  pub each : All (λ f. 0 < f.rec.len → is_some (copied_rec copies f.rec).tape ≡ true) c.files

-- What was prepared has these copies, and only the intent has changed since.
pub record IsReadyFor (last : ℕ) (copies : List (ℕ × TapeCopy)) (ready : Readied) (o : OnlineFacts) : Type 0 where
  pub ready_is : ready ≡ ready_with copies o.contents
  pub covers : CoverAll copies o.contents
  pub rules : KeepsRules (adopted last copies o.contents)

-- The copies are noted, and no user counts as changed.
pub record HasAdopted (last : ℕ) (copies : List (ℕ × TapeCopy)) (old new : OnlineFacts) : Type 0 where
  pub live : new.live ≡ true
  pub contents : new.contents ≡ adopted last copies old.contents
  pub pins : new.pins ≡ None
  pub changed : new.changed ≡ []
  pub touched : new.touched ≡ []
  pub blocks : ℕ
  pub commits : Commits 1 old.layout new.layout blocks
  pub writes : RoseBy blocks old.disc.writes new.disc.writes
  pub durable : IsDurable old → IsDurable new

-- The noting was stopped at a write. The filestore is no longer live, and the disc holds the old contents or those with the
-- copies.
pub record StoppedAdopting (last : ℕ) (copies : List (ℕ × TapeCopy)) (old new : OnlineFacts) : Type 0 where
  pub live : new.live ≡ false
  pub holds : ForSome new.disc.held (λ blocks. Holds blocks old.contents ⊎ Holds blocks (adopted last copies old.contents))
  pub survives : StopsSafely (λ left. Holds left old.contents ⊎ Holds left (adopted last copies old.contents)) old new

-- How the noting of prepared copies is answered: it is completed, or stopped at one of its writes.
pub record IsAdopting (last : ℕ) (copies : List (ℕ × TapeCopy)) (old new : OnlineFacts) (result : Result (Unit {0}) OnlineFault) : Type 0 where
  pub ok : OnOk result (HasAdopted last copies old new)
  pub stopped : OnErr result (StoppedAdopting last copies old new)
  pub causes : Causes ⊥ (result ≡ Err Stopped) old.disc new.disc
  pub tied : IsTied new
  pub told : is_some new.disc.held ≡ is_some old.disc.held
  pub only : OnErr result (result ≡ Err Stopped)

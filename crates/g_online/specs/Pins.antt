-- The versions of a dump: which ones wait, how they are pinned, and how the commit that closes the dump is answered.
use Rattle.std.specs.Prelude.{◌≡◌, ◌⊎◌, ℕ, ◌+◌, ◌<◌, true, List, [], ◌∷◌, take, All, AllPairs, Contains, Some, None, is_some, Result, Err, OnOk, OnErr}
use Rattle.std.specs.Option.{ForSome}
use Rattle.std.specs.List.{flat_map}
use Rattle.g_base.specs.Block.{blocks_for}
use Rattle.g_disc.specs.Disc.{Causes}
use Rattle.g_disc_contents.specs.Contents.{File}
use Rattle.g_disc_contents.specs.Facts.{IsTied, OnlineFacts, Pin}
use Rattle.g_online.specs.declared.fault.OnlineFault.{OnlineFault}
use Rattle.g_online.specs.declared.fault.OnlineFault.TheVariants.{Stopped}
use Rattle.g_online.specs.Outcomes.{HasClosed, StoppedClosing}

-- The version waits to be dumped: it isn't empty and has no copy on tape.
pub record IsWaiting (f : File) : Type 0 where
  pub filled : 0 < f.rec.len
  pub none : f.rec.tape ≡ None

-- The order of a dump: by owner, then by number.
abbrev pub ComesBefore : File → File → Type 0
ComesBefore f g = (f.rec.owner < g.rec.owner) ⊎ ((f.rec.owner ≡ g.rec.owner) × (f.rec.number < g.rec.number))

-- These are all versions that wait, in the order of a dump.
pub record AreWaiting (files waiting : List File) : Type 0 where
  pub from : All (Contains files) waiting
  pub each : All IsWaiting waiting
  pub every : (f : File) → Contains files f → IsWaiting f → Contains waiting f
  pub in_order : AllPairs ComesBefore waiting

-- The version of a file is pinned: its place on tape is noted, and its blocks contain its bytes.
pub record IsPinnedAt (serial at : ℕ) (f : File) (p : Pin) : Type 0 where
  pub online : f.online ≡ true
  pub stamp : p.stamp ≡ f.rec.stamp
  pub len : p.len ≡ f.rec.len
  pub copy : p.copy ≡ record { serial = serial; first = at }
  pub bytes : ForSome p.blocks (λ blocks. f.bytes ≡ Some (take p.len (flat_map (λ b. b) blocks)))

-- Each of these files is pinned, and their places on tape lie end to end, starting at block `at` of the reel.
abbrev pub ArePinnedFrom : ℕ → ℕ → List File → List Pin → Type 0
ArePinnedFrom serial at [] pins = pins ≡ []
ArePinnedFrom serial at (f ∷ fs) pins =
    (pin : Pin) × (rest : List Pin) × (pins ≡ pin ∷ rest) × IsPinnedAt serial at f pin × ArePinnedFrom serial (at + blocks_for f.rec.len) fs rest

-- The versions that wait are pinned, no user is touched any more, and nothing else has changed.
pub record HasPinned (serial first : ℕ) (old new : OnlineFacts) : Type 0 where
  pub waiting : List File
  pub are : AreWaiting old.contents.files waiting
  pub pins : List Pin
  pub pinned : ArePinnedFrom serial first waiting pins
  pub rest : new ≡ record old { pins = Some pins; touched = [] }

-- How the closing of a dump is answered: it is completed, or stopped at one of its writes.
pub record IsClosing (last : ℕ) (old new : OnlineFacts) (result : Result (Unit {0}) OnlineFault) : Type 0 where
  pub ok : OnOk result (HasClosed last old new)
  pub stopped : OnErr result (StoppedClosing last old new)
  pub causes : Causes ⊥ (result ≡ Err Stopped) old.disc new.disc
  pub tied : IsTied new
  pub told : is_some new.disc.held ≡ is_some old.disc.held
  pub only : OnErr result (result ≡ Err Stopped)

-- A rack of reels in files.
use Rattle.std.specs.Prelude.{ℕ, ◌≤◌, List, None, All, length, map}
use Rattle.std.specs.Option.{ForSome}
use Rattle.g_base.specs.Fuse.{never}
use Rattle.g_tape.specs.Reel.{Reel}
use Rattle.g_tape.specs.Rack.{Rack}
use Rattle.g_tape.specs.Reads.{MayLeave, blocks_of}
use Rattle.g_tape.specs.Risk.{Risk}
use Rattle.g_files.specs.ReelRisk.{risk_of}
use Rattle.g_files.specs.Reels.{faults_of, reels_of}
use Rattle.g_files.specs.declared.file_reel.FileReel.{FileReel}
use Rattle.g_files.specs.declared.file_tapes.FileTapes.{FileTapes}
use Rattle.g_files.specs.declared.raw.RawFile.{Ghosts}

-- the reels of a rack
abbrev pub rack_reels : {F L : Type 0} {g : Ghosts F} → FileTapes F L g → List (FileReel F g)
rack_reels t = t.reels.items

-- how many calls on its files failed
abbrev pub rack_faults : {F L : Type 0} {g : Ghosts F} → FileTapes F L g → ℕ
rack_faults t = faults_of t.reels.items

-- the rack, whose blocks are observable if the bytes of its files are
abbrev pub rack_of : {F L : Type 0} {g : Ghosts F} → FileTapes F L g → Rack
rack_of t = record {
  reels = reels_of t.reels.items;
  read_faults = t.read_faults;
  write_faults = t.write_faults;
  fuse = t.fuse;
  arms = t.arms;
  risks = map risk_of t.reels.items;
}

-- A power loss may leave each reel as reads see it, and no remnant is longer than it may be.
pub record ListsWhatIsRead (rack : Rack) : Type 0 where
  pub read : (s : ℕ) → ForSome (blocks_of s rack) (MayLeave s rack)
  pub fits : All (λ r. All (λ m. length m.front ≤ m.longest) r.remnants) rack.risks

-- a rack of these reels that was just opened, and what a power loss may leave of them
abbrev pub opened : List Reel → List Risk → Rack
opened reels risks = record { reels = reels; read_faults = 0; write_faults = 0; fuse = None; arms = never; risks = risks }

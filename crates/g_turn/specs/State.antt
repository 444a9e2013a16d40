-- The state of a turn.
use Rattle.std.specs.Prelude.{Bool, List, Option, ℕ}
use Rattle.g_macro.specs.Levels.{Stack}
use Rattle.g_macro.specs.declared.outcome.Outcome.{Outcome}
use Rattle.g_mill.specs.Machine.{Machine}
use Rattle.g_peri.specs.JobUnits.{Held}

-- What commands change: the levels, the outcome of the last command, the program, whether its last run ended with a halt, whether a run of it isn't
-- over yet (and if so, whether a WHENEVER began it), and the units.
pub record Desk : Type 0 where
  pub levels : Stack
  pub outcome : Outcome
  pub program : Option Machine
  pub halted : Bool
  pub running : Option Bool
  pub units : Held

-- What a turn that waits resumes with: a line, from its echo on; or the command of a WHENEVER, with the text, the orders and the blocks of the line
-- before it.
pub data Pending : Type 0 where
  AgainLine : List ℕ → Pending
  AgainCommand : (text : List ℕ) → (orders : ℕ) → (blocks : ℕ) → (command : List ℕ) → Pending

-- Why a turn's work is over: the monitoring file is full; a call waits for the reel of this serial; a device write failed during a call; the job is
-- done.
pub data Stop : Type 0 where
  Full : Stop
  Waits : ℕ → Stop
  Broken : Stop
  Done : Stop

-- The results of a turn so far: the desk; the text that it adds to the monitoring file; its usage, in orders and in blocks of 512 bytes; whether its
-- command set the outcome; what it resumes with if it waits; and why it is over, if it is.
pub record Work : Type 0 where
  pub desk : Desk
  pub text : List ℕ
  pub orders : ℕ
  pub blocks : ℕ
  pub sets : Bool
  pub again : Option Pending
  pub stop : Option Stop

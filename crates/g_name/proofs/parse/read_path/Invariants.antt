use Rattle.std.proofs.Common.{◌≡◌, take, Some}
use Rattle.g_name.specs.Machine.{run}
use Rattle.g_name.specs.Reading.{step, start}
use Rattle.g_name.proofs.parse.read_path.Given as goal

-- the reader has taken the bytes so far
abbrev pub invariant-loop-place : goal.invariant-loop-place
invariant-loop-place l = run step (Some start) (take l.place l.text) ≡ Some l.reader

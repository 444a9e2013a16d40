use Rattle.std.proofs.Common.{◌++◌, take, List, ℕ}
use Rattle.g_macro.specs.Fronts.{Holds}
use Rattle.g_macro.proofs.expansion.Front.extend.Given as goal

abbrev pub invariant-loop-byte : goal.invariant-loop-byte
invariant-loop-byte l = (text : List ℕ) → Holds text l.initial.self → Holds (text ++ take l.byte-index l.bytes) l.self

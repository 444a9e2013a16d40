use Rattle.std.proofs.Common.{◌≡◌, ◌++◌, drop}
use Rattle.std.specs.List.{flat_map}
use Rattle.g_look.specs.FileLines.{trap_text}
use Rattle.g_look.proofs.file_text.push_others.Given as goal

abbrev pub invariant-loop-other : goal.invariant-loop-other
invariant-loop-other l = l.text ++ flat_map (trap_text l.users) (drop l.other-index l.others) ≡ l.fn.text ++ flat_map (trap_text l.users) l.others

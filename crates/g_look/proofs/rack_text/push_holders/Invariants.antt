use Rattle.std.proofs.Common.{◌≡◌, ◌++◌, drop}
use Rattle.std.specs.List.{flat_map}
use Rattle.g_look.specs.Text.{holder_text}
use Rattle.g_look.proofs.rack_text.push_holders.Given as goal

abbrev pub invariant-loop-number : goal.invariant-loop-number
invariant-loop-number l = l.text ++ flat_map (holder_text l.users) (drop l.number-index l.held) ≡ l.fn.text ++ flat_map (holder_text l.users) l.held

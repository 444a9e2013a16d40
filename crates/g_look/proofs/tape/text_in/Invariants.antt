use Rattle.std.proofs.Common.{◌≡◌, take}
use Rattle.g_store_meaning.specs.Meaning.{joined}
use Rattle.g_look.proofs.tape.text_in.Given as goal

abbrev pub invariant-loop-block : goal.invariant-loop-block
invariant-loop-block l = l.bytes.items ≡ take l.len (joined (take l.block-index l.blocks))

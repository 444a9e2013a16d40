use Rattle.std.proofs.Common.{◌≡◌, ◌++◌, map, take}
use Rattle.g_lines.specs.Lines.{text_of}
use Rattle.g_seal.specs.Rotten.{rotten_dump_line}
use Rattle.g_seal.proofs.rotten_dumps.push_rotten_dumps.Given as goal

abbrev pub invariant-loop-dump : goal.invariant-loop-dump
invariant-loop-dump l = l.text ≡ l.fn.text ++ text_of (map (rotten_dump_line l.rack) (take l.dump-index l.dumps))

use Rattle.std.proofs.Common.{◌≡◌, drop}
use Rattle.std.specs.List.{list_any}
use Rattle.g_seal.specs.Rotten.{is_inside}
use Rattle.g_seal.proofs.rotten_files.is_inside_any.Given as goal

abbrev pub invariant-loop-dump : goal.invariant-loop-dump
invariant-loop-dump l = list_any (is_inside l.copy) l.dumps ≡ list_any (is_inside l.copy) (drop l.dump-index l.dumps)

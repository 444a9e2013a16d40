use Rattle.std.proofs.Common.{◌≡◌, drop}
use Rattle.g_seal.specs.Rotten.{is_among}
use Rattle.g_seal.proofs.twins.is_among.Given as goal

abbrev pub invariant-loop-one : goal.invariant-loop-one
invariant-loop-one l = is_among l.stamps l.stamp ≡ is_among (drop l.one-index l.stamps) l.stamp

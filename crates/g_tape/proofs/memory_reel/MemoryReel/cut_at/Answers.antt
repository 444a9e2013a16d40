-- The shorter reel, as a reel.
use Rattle.std.proofs.Common.{arith, sym, subst}
use Rattle.std.proofs.lemmas.Grind.{common_steps}
use Rattle.g_tape.specs.Reel.{IsReel}
use Rattle.g_tape.proofs.ReelLemmas.{IsReel-cut_at}
use Rattle.g_tape.proofs.memory_reel.MemoryReel.cut_at.Goals as goal

pub returns-clause-value : goal.returns-clause-value
returns-clause-value c = grind (arith, common_steps)

pub returns-clause-keeps : goal.returns-clause-keeps
returns-clause-keeps c = λ is. subst IsReel (sym (returns-clause-value c)) (IsReel-cut_at _ _ c.requires is)

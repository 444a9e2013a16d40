use Rattle.std.proofs.Common.{◌≡◌, length}
use Rattle.g_plan.specs.Words.{without_back}
use Rattle.g_plan.proofs.words.without_back.Given as goal

abbrev pub invariant-loop-last : goal.invariant-loop-last
invariant-loop-last l = without_back l.rest ≡ without_back l.text

abbrev pub decreases-loop-last : goal.decreases-loop-last
decreases-loop-last l = length l.rest

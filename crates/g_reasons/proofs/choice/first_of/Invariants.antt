use Rattle.std.proofs.Common.{All, take}
use Rattle.g_reasons.specs.Reasons.{IsWrong}
use Rattle.g_reasons.proofs.choice.first_of.Given as goal

-- no reason before this place applies
abbrev pub invariant-loop-reason : goal.invariant-loop-reason
invariant-loop-reason l = All (λ other. IsWrong other l.line → ⊥) (take l.reason-index l.among)

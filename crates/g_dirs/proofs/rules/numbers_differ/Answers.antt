use Rattle.std.proofs.Common.{rules, tests}
use Rattle.std.specs.Cmp.{unsigned_Decides}
use Rattle.g_dirs.proofs.rules.numbers_differ.Goals as goal

pub returns : goal.returns
returns c = c.are_distinct.ensures (λ k. k) (λ x r post. search (rules, tests)) unsigned_Decides

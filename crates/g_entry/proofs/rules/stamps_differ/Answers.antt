use Rattle.std.proofs.Common.{rules, tests}
use Rattle.std.specs.Cmp.{unsigned_Decides}
use Rattle.g_entry.proofs.rules.stamps_differ.Goals as goal

pub returns : goal.returns
returns c = c.are_distinct.ensures (λ r. r.stamp) (λ x r post. search (rules, tests)) unsigned_Decides

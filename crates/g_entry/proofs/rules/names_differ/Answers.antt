use Rattle.std.proofs.Common.{rules, tests}
use Rattle.g_entry.proofs.NameLemmas.{same_text}
use Rattle.g_entry.proofs.rules.names_differ.Goals as goal

pub returns : goal.returns
returns c = c.are_distinct.ensures (λ u. u.user) (λ x r post. search (rules, tests)) same_text

use Rattle.std.proofs.Common.{List, Option, ◌∙◌, ap, sym}
use Rattle.g_online.specs.declared.pinned.Pinned.{Pinned}
use Rattle.g_online.specs.Invariant.{is_pinned}
use Rattle.g_online.proofs.erase.is_kept.Goals as goal

pub returns-in-Some : goal.returns-in-Some
returns-in-Some c = c.has.ensures ∙ sym (ap (λ (o : Option (List Pinned)). is_pinned o c.args.stamp) c.in-Some.is)

use Rattle.std.proofs.Common.{◌∙◌, ap}
use Rattle.g_online.specs.NewBytes.{is_pinned_at}
use Rattle.g_online.proofs.put.is_kept_at.Goals as goal

pub returns-in-Some : goal.returns-in-Some
returns-in-Some c = c.is_kept.ensures ∙ ap (is_pinned_at c.args.pins.now) c.in-Some.ensures.value

pub returns-in-None : goal.returns-in-None
returns-in-None c = ap (is_pinned_at c.args.pins.now) c.in-None.ensures.value

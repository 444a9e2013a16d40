-- Whom a path doesn't name is the caller.
use Rattle.std.proofs.Common.{unwrap_or, sym, ap, ◌∙◌}
use Rattle.g_name.specs.Order.{same_text}
use Rattle.g_plain.proofs.TextMaps.{same_itself}
use Rattle.g_plain.proofs.refusals.is_own.Goals as goal

pub returns-in-None : goal.returns-in-None
returns-in-None c =
    let who = c.args.who.now in
    sym (ap (same_text who) (c.requires ∙ ap (λ o. unwrap_or o who) c.in-None.is) ∙ same_itself who)

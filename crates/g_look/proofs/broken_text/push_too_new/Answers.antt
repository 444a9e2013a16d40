use Rattle.std.proofs.Common.{◌++◌}
use Rattle.std.specs.Prelude.{codes}
use Rattle.g_look.specs.Text.{at_text, told}
use Rattle.g_look.proofs.PushLemmas.{last_more, then_more}
use Rattle.g_look.proofs.broken_text.push_too_new.Goals as goal

pub returns : goal.returns
returns c =
    last_more _ c.args.text.now (told (codes "BROKEN 5 DUMP ") c.args.a.now.number ++ at_text c.args.a.now) (told (codes " LAST DUMP ") c.args.last) _ _
    (then_more c.args.text.now (told (codes "BROKEN 5 DUMP ") c.args.a.now.number) (at_text c.args.a.now) _ _ c.in_ok-push_told.ensures c.in_ok-push_at.ensures)
    c.push_told-2.ensures

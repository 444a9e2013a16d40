use Rattle.std.proofs.Common.{◌++◌}
use Rattle.std.specs.Prelude.{codes}
use Rattle.g_look.specs.Text.{at_text, told}
use Rattle.g_look.proofs.PushLemmas.{last_more, then_more}
use Rattle.g_look.proofs.broken_text.push_twice.Goals as goal

pub returns : goal.returns
returns c =
    last_more _ c.args.text.now (told (codes "BROKEN 1 DUMP ") c.args.a.now.number ++ codes " TWICE" ++ at_text c.args.a.now) (at_text c.args.b.now) _ _
    (then_more c.args.text.now (told (codes "BROKEN 1 DUMP ") c.args.a.now.number ++ codes " TWICE") (at_text c.args.a.now) _ _ (then_more c.args.text.now (told (codes "BROKEN 1 DUMP ") c.args.a.now.number) (codes " TWICE") _ _ c.in_ok-push_told.ensures c.in_ok-extend.ensures.ok) c.in_ok-push_at.ensures)
    c.push_at-2.ensures

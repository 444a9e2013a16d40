use Rattle.std.proofs.Common.{◌++◌}
use Rattle.std.specs.Prelude.{codes}
use Rattle.g_look.specs.Text.{told}
use Rattle.g_look.proofs.PushLemmas.{last_more, then_more}
use Rattle.g_look.proofs.broken_text.push_falls.Goals as goal

pub returns : goal.returns
returns c =
    last_more _ c.args.text.now (told (codes "BROKEN 2 DUMP ") c.args.a.now.number ++ told (codes " NEXT ") c.args.a.now.next_stamp ++ told (codes " DUMP ") c.args.b.now.number) (told (codes " NEXT ") c.args.b.now.next_stamp) _ _
    (then_more c.args.text.now (told (codes "BROKEN 2 DUMP ") c.args.a.now.number ++ told (codes " NEXT ") c.args.a.now.next_stamp) (told (codes " DUMP ") c.args.b.now.number) _ _ (then_more c.args.text.now (told (codes "BROKEN 2 DUMP ") c.args.a.now.number) (told (codes " NEXT ") c.args.a.now.next_stamp) _ _ c.in_ok-push_told.ensures c.in_ok-push_told-2.ensures) c.in_ok-push_told-3.ensures)
    c.push_told-4.ensures

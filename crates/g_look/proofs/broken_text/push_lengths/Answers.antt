use Rattle.std.proofs.Common.{◌++◌}
use Rattle.std.specs.Prelude.{codes}
use Rattle.g_monitor.specs.Parts.{full_text}
use Rattle.g_look.specs.Text.{told}
use Rattle.g_look.proofs.PushLemmas.{last_more, then_more}
use Rattle.g_look.proofs.broken_text.push_lengths.Goals as goal

pub returns : goal.returns
returns c =
    last_more _ c.args.text.now (codes "BROKEN 11 LENGTH " ++ full_text c.args.full.now ++ told (codes " STAMP ") c.args.stamp ++ told (codes " LENGTH ") c.args.len) (told (codes " DUMPED ") c.args.dumped) _ _
    (then_more c.args.text.now (codes "BROKEN 11 LENGTH " ++ full_text c.args.full.now ++ told (codes " STAMP ") c.args.stamp) (told (codes " LENGTH ") c.args.len) _ _ (then_more c.args.text.now (codes "BROKEN 11 LENGTH " ++ full_text c.args.full.now) (told (codes " STAMP ") c.args.stamp) _ _ (then_more c.args.text.now (codes "BROKEN 11 LENGTH ") (full_text c.args.full.now) _ _ c.in_ok-extend.ensures.ok c.in_ok-push_full.ensures) c.in_ok-push_told.ensures) (rw c.from.ensures at c.in_ok-push_told-2.ensures))
    (rw c.from-2.ensures at c.push_told-3.ensures)

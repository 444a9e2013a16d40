use Rattle.std.proofs.Common.{◌++◌}
use Rattle.std.specs.Prelude.{codes}
use Rattle.g_monitor.specs.Parts.{full_text}
use Rattle.g_look.specs.FileLines.{taped_text}
use Rattle.g_look.specs.Text.{told}
use Rattle.g_look.proofs.PushLemmas.{last_more, then_more}
use Rattle.g_seal.specs.SealText.{online_text, sum_text}
use Rattle.g_seal.proofs.lines.push_file.Goals as goal

pub returns : goal.returns
returns c =
    let f = c.args.file.now in
    last_more _ c.args.text.now (codes "FILE " ++ full_text f.full ++ told (codes " LENGTH ") f.len ++ told (codes " STAMP ") f.stamp ++ sum_text f.sum ++ online_text f.online) (taped_text f.tape) _ _
    (then_more c.args.text.now (codes "FILE " ++ full_text f.full ++ told (codes " LENGTH ") f.len ++ told (codes " STAMP ") f.stamp ++ sum_text f.sum) (online_text f.online) _ _
    (then_more c.args.text.now (codes "FILE " ++ full_text f.full ++ told (codes " LENGTH ") f.len ++ told (codes " STAMP ") f.stamp) (sum_text f.sum) _ _
    (then_more c.args.text.now (codes "FILE " ++ full_text f.full ++ told (codes " LENGTH ") f.len) (told (codes " STAMP ") f.stamp) _ _
    (then_more c.args.text.now (codes "FILE " ++ full_text f.full) (told (codes " LENGTH ") f.len) _ _
    (then_more c.args.text.now (codes "FILE ") (full_text f.full) _ _ c.in_ok-extend.ensures.ok c.in_ok-push_full.ensures)
    (rw c.from.ensures at c.in_ok-push_told.ensures))
    c.in_ok-push_told-2.ensures)
    c.in_ok-push_sum.ensures)
    c.in_ok-push_online.ensures)
    c.push_taped.ensures

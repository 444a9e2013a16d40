use Rattle.std.proofs.Common.{◌++◌}
use Rattle.std.specs.Prelude.{codes}
use Rattle.g_look.specs.Text.{told}
use Rattle.g_look.proofs.PushLemmas.{last_more, then_more}
use Rattle.g_seal.specs.SealText.{sum_text}
use Rattle.g_seal.proofs.lines.push_dump.Goals as goal

pub returns : goal.returns
returns c =
    let d = c.args.dump.now in
    last_more _ c.args.text.now (told (codes "DUMP ") d.number ++ told (codes " TAPE ") d.serial ++ told (codes " AT ") d.place ++ told (codes " BLOCKS ") d.blocks) (sum_text d.sum) _ _
    (then_more c.args.text.now (told (codes "DUMP ") d.number ++ told (codes " TAPE ") d.serial ++ told (codes " AT ") d.place) (told (codes " BLOCKS ") d.blocks) _ _
    (then_more c.args.text.now (told (codes "DUMP ") d.number ++ told (codes " TAPE ") d.serial) (told (codes " AT ") d.place) _ _
    (then_more c.args.text.now (told (codes "DUMP ") d.number) (told (codes " TAPE ") d.serial) _ _ c.in_ok-push_told.ensures (rw c.from.ensures at c.in_ok-push_told-2.ensures))
    (rw c.from-2.ensures at c.in_ok-push_told-3.ensures))
    (rw c.from-3.ensures at c.in_ok-push_told-4.ensures))
    c.push_sum.ensures

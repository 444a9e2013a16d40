use Rattle.std.proofs.Common.{◌++◌, ◌∷◌, []}
use Rattle.std.specs.Prelude.{codes}
use Rattle.g_look.specs.Text.{told}
use Rattle.g_look.proofs.PushLemmas.{last_more, then_more}
use Rattle.g_seal.specs.Rotten.{rotten_dump_line}
use Rattle.g_seal.proofs.rotten_dumps.push_rotten_dump.Goals as goal

pub returns : goal.returns
returns c =
    let d = c.args.dump.now in
    last_more _ c.args.text.now (rotten_dump_line c.args.rack.now d) (10 ∷ []) _ _
    (then_more c.args.text.now (told (codes "ROTTEN DUMP ") d.number ++ told (codes " ON ") d.serial) c.args.rack.now _ _
    (then_more c.args.text.now (told (codes "ROTTEN DUMP ") d.number) (told (codes " ON ") d.serial) _ _ c.in_ok-push_told.ensures (rw c.from.ensures at c.in_ok-push_told-2.ensures))
    c.in_ok-extend.ensures.ok)
    c.push.ensures.ok

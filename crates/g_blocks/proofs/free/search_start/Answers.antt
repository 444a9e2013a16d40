-- If the flag at the first place is set too, all up to the second place are.
use Rattle.std.proofs.Common.{◌<◌, false, arith, length, ◌∙◌, ap, Some}
use Rattle.std.proofs.lemmas.Option.{slice_get-get_or}
use Rattle.g_blocks.proofs.Between.{set-through}
use Rattle.g_blocks.proofs.free.search_start.Goals as goal

pub returns-then-taken-low-clause-before : goal.returns-then-taken-low-clause-before
returns-then-taken-low-clause-before c =
    let within = c.requires.before.within in
    let inside : c.args.low < length c.args.taken.now = omega (arith, within, c.if-low-taken.false) in
    set-through c.args.low c.args.next _ c.args.taken.now c.requires.before c.requires.between
    (slice_get-get_or c.args.taken.now c.args.low false inside ∙ ap Some c.if-taken-low.true) inside c.max.ensures

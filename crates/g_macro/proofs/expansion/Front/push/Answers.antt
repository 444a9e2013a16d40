use Rattle.std.proofs.Common.{◌<◌, sym, arith, eqb-true, length}
use Rattle.std.proofs.lemmas.Bool.{eqb-false}
use Rattle.g_macro.proofs.FrontLemmas.{push-cut, push-more}
use Rattle.g_macro.proofs.expansion.Front.push.Goals as goal

pub returns-then-is_full : goal.returns-then-is_full
returns-then-is_full c text holds =
    push-cut text c.args.byte c.args.self.now.bytes.items holds.0 (eqb-true (length c.args.self.now.bytes.items) 240 (sym c.if-is_full.ensures.value))

pub returns-else-is_full : goal.returns-else-is_full
returns-else-is_full c text holds =
    let isnt = eqb-false (length c.args.self.now.bytes.items) 240 (sym c.if-is_full.ensures.value) in
    let most = c.if-is_full.ensures.fits in
    let room : length c.args.self.now.bytes.items < 240 = omega (arith, isnt, most) in
    push-more text c.args.byte c.args.self.now.bytes.items c.push.new.self.items c.args.self.now.is_cut holds.0 holds.1 room c.push.ensures.items

use Rattle.std.proofs.Common.{◌≡◌, ◌<◌, length, sym, ap, ◌∙◌, arith}
use Rattle.g_copy.proofs.Reading.{HasRead, has_read_none, has_read_more, has_read_all}
use Rattle.g_copy.proofs.read.read_copy.Goals as goal

pub loop-place-init : goal.loop-place-init
loop-place-init g c = rw c.in_ok-bytes.ensures.items (has_read_none c.args.copy.now.blocks c.args.copy.now.len (g.D.Disc.state c.args.disc.now))

pub loop-place-preserved : goal.loop-place-preserved
loop-place-preserved g c =
    let is = c.as_slice-place-items.ensures.value in
    let long = ap length is in
    let within : c.loop-place.place-index < length c.args.copy.now.blocks = omega arith in
    let more = has_read_more c.loop-place.place-index c.args.copy.now.blocks c.args.copy.now.len c.loop-place.bytes.items c.read.new.into _ _ _ _ within c.read.array_long c.loop-place.invariant (rw is at c.in-Ok.ensures) in
    let counted : c.len.result ≡ length c.loop-place.bytes.items = omega (arith, c.len.ensures, c.loop-place.bytes.ok.0) in
    rw (c.in_ok-extend_from_slice.ensures.items, c.min-count.ensures, counted) more

pub returns-clause-text : goal.returns-clause-text
returns-clause-text g c =
    let is = c.as_slice-place-items.ensures.value in
    let long = ap length is in
    let count = c.requires.copy.count in
    let all : length c.args.copy.now.blocks ≡ c.loop-place.place-index = omega arith in
    let whole : HasRead (length c.args.copy.now.blocks) c.args.copy.now.blocks c.args.copy.now.len c.loop-place.bytes.items (g.D.Disc.state c.args.disc.now) (g.D.Disc.state c.loop-place.disc) = rw all c.loop-place.invariant in
    λ b told. (has_read_all c.args.copy.now.blocks c.args.copy.now.len c.loop-place.bytes.items _ _ (omega arith) whole).1 b told ∙ sym c.from.ensures

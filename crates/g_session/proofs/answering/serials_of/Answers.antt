use Rattle.std.proofs.Common.{List, ℕ, ◌<◌, ◌++◌, ◌∷◌, [], length, sym, ◌∙◌, ap, arith}
use Rattle.g_session.specs.Standing.{rack_serials}
use Rattle.g_session.proofs.StandingLemmas.{serial_next, serial_room}
use Rattle.g_session.proofs.answering.serials_of.Goals as goal

pub push-requires : goal.push-requires
push-requires g c =
    let below : c.loop-i.i < length (g.T.Tapes.rack c.args.tapes.now).reels = omega (arith, c.loop-i-test.true, c.reels-i-end.ensures) in
    (omega arith, serial_room (g.T.Tapes.rack c.args.tapes.now) c.loop-i.i c.loop-i.serials.items (g.met.T.Tapes.well_formed c.args.tapes.now) c.loop-i.invariant below)

pub loop-i-preserved : goal.loop-i-preserved
loop-i-preserved g c =
    c.push.ensures.items ∙ ap (λ (serials : List ℕ). serials ++ c.serial.result ∷ []) c.loop-i.invariant
    ∙ sym (serial_next (rack_serials (g.T.Tapes.rack c.args.tapes.now)) c.loop-i.i c.serial.result c.serial.ensures)

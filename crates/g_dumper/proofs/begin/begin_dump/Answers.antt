use Rattle.std.proofs.Common.{◌≢◌, ◌-◌, ◌^◌, ◌∙◌, ap}
use Rattle.g_entry.specs.declared.head.Head.{Head}
use Rattle.g_incr.specs.Plan.{needs}
use Rattle.g_dumper.proofs.BeginLemmas.{begun, fits_then, if_ok, refused_too_long, rules_planned, stopped_then}
use Rattle.g_dumper.proofs.begin.begin_dump.Goals as goal

pub planned-requires-clause-rules : goal.planned-requires-clause-rules
planned-requires-clause-rules g c =
    rules_planned c.args.serial c.in-Ok.place _ _ _ (g.met.T.Tapes.well_formed _) c.in-Ok.ensures.reads c.in-Ok.ensures.end c.requires.live c.requires.tied
    (λ same. c.if-head-eq-LAST_NUMBER.false (ap (λ (h : Head). h.last_dump) c.head.ensures ∙ same))

pub returns-then-need-room-clause-refused : goal.returns-then-need-room-clause-refused
returns-then-need-room-clause-refused g c =
    refused_too_long c.args.serial c.in-Ok.place _ _ _ (g.met.T.Tapes.well_formed _) c.in-Ok.ensures.reads c.in-Ok.ensures.end
    (λ same. c.if-head-eq-LAST_NUMBER.false (ap (λ (h : Head). h.last_dump) c.head.ensures ∙ same)) _ _ (c.needs-need.ensures ∙ ap needs c.in-Ok-planned.ensures.writer) c.room_behind-room.ensures
    c.if-need-room.true

pub returns-clause-ok : goal.returns-clause-ok
returns-clause-ok g c =
    let unspent : c.args.online.now.contents.head.last_dump ≢ 2 ^ 62 - 1 = λ same. c.if-head-eq-LAST_NUMBER.false (ap (λ (h : Head). h.last_dump) c.head.ensures ∙ same) in
    if_ok _ _ _
    (λ d is.
    begun c.args.serial c.in-Ok.place c.args.online.now (g.T.Tapes.rack c.args.tapes.now) (g.T.Tapes.rack c.end_of.new.self) (g.met.T.Tapes.well_formed _) c.in-Ok.ensures.reads c.in-Ok.ensures.end
    c.open.new.online c.requires.live c.requires.tied c.open.ensures.tied is.1 c.in-Ok.ensures.fits
    (fits_then c.args.serial c.in-Ok.place c.args.online.now (g.T.Tapes.rack c.args.tapes.now) (g.T.Tapes.rack c.end_of.new.self) (g.met.T.Tapes.well_formed _) c.in-Ok.ensures.reads c.in-Ok.ensures.end
    unspent c.needs-need.result c.room_behind-room.result (c.needs-need.ensures ∙ ap needs c.in-Ok-planned.ensures.writer) c.room_behind-room.ensures c.if-need-room.false c.in-Ok.ensures.fits)
    (rules_planned c.args.serial c.in-Ok.place c.args.online.now (g.T.Tapes.rack c.args.tapes.now) (g.T.Tapes.rack c.end_of.new.self) (g.met.T.Tapes.well_formed _) c.in-Ok.ensures.reads c.in-Ok.ensures.end
    c.requires.live c.requires.tied unspent) d is.0) c.open.ensures.ok

pub returns-clause-stopped : goal.returns-clause-stopped
returns-clause-stopped g c = λ is.
    let unspent : c.args.online.now.contents.head.last_dump ≢ 2 ^ 62 - 1 = λ same. c.if-head-eq-LAST_NUMBER.false (ap (λ (h : Head). h.last_dump) c.head.ensures ∙ same) in
    stopped_then c.args.serial c.in-Ok.place c.args.online.now (g.T.Tapes.rack c.args.tapes.now) (g.T.Tapes.rack c.end_of.new.self) (g.met.T.Tapes.well_formed _) c.in-Ok.ensures.reads c.in-Ok.ensures.end
    c.open.new.online
    (fits_then c.args.serial c.in-Ok.place c.args.online.now (g.T.Tapes.rack c.args.tapes.now) (g.T.Tapes.rack c.end_of.new.self) (g.met.T.Tapes.well_formed _) c.in-Ok.ensures.reads c.in-Ok.ensures.end
    unspent c.needs-need.result c.room_behind-room.result (c.needs-need.ensures ∙ ap needs c.in-Ok-planned.ensures.writer) c.room_behind-room.ensures c.if-need-room.false c.in-Ok.ensures.fits)
    (c.open.ensures.stopped is)

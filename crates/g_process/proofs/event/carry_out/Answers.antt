use Rattle.std.proofs.Common.{◌∙◌, List, ap, map, refl, subst}
use Rattle.g_shelf.specs.declared.rack.Listed.{Listed}
use Rattle.g_process.specs.Preparation.{AtRelease, copies_of}
use Rattle.g_process.specs.Releases.{AreReleased, AreReleasedDurably, IsCutAt, taken}
use Rattle.g_process.proofs.CarryLemmas.{begin_fails, begun_by, blocks_fail, copies_fail, has_moved, may_begin, may_still, ready_still, still_listed, still_mounted}
use Rattle.g_process.proofs.event.carry_out.Goals as goal

pub set_intent-requires : goal.set_intent-requires
set_intent-requires g c = record { allowed = may_begin c.args.job c.args.online.now (g.T.Tapes.rack c.args.tapes.now) c.requires.live c.requires.tied c.requires.may }

pub returns-in-Err-clause-carried : goal.returns-in-Err-clause-carried
returns-in-Err-clause-carried g c = begin_fails c.args.job c.args.online.now (g.T.Tapes.rack c.args.tapes.now) c.set_intent.new.self c.in-Err.field-0 c.requires.may c.in-Err.ensures

pub write_blocks-requires-clause-may : goal.write_blocks-requires-clause-may
write_blocks-requires-clause-may g c =
    let may = c.requires.may in
    let begun = begun_by c.args.job c.args.online.now (g.T.Tapes.rack c.args.tapes.now) c.set_intent.new.self _ may c.requires.pins c.in-Ok.ensures in
    may_still c.args.job c.args.online.now (g.T.Tapes.rack c.args.tapes.now) c.set_intent.new.self begun may

pub returns-in-Err-write_blocks-clause-carried : goal.returns-in-Err-write_blocks-clause-carried
returns-in-Err-write_blocks-clause-carried g c =
    let may = c.requires.may in
    let begun = begun_by c.args.job c.args.online.now (g.T.Tapes.rack c.args.tapes.now) c.set_intent.new.self _ may c.requires.pins c.in-Ok.ensures in
    blocks_fail c.args.job c.args.online.now (g.T.Tapes.rack c.args.tapes.now) c.set_intent.new.self c.write_blocks.new.online (g.T.Tapes.rack c.write_blocks.new.tapes) c.in-Err-write_blocks.fault begun c.in-Err-write_blocks.ensures.writes

pub adopt_ready-requires-clause-ready : goal.adopt_ready-requires-clause-ready
adopt_ready-requires-clause-ready g c =
    let may = c.requires.may in
    let begun = begun_by c.args.job c.args.online.now (g.T.Tapes.rack c.args.tapes.now) c.set_intent.new.self _ may c.requires.pins c.in-Ok.ensures in
    let (same, so) = c.in-Ok-write_blocks.ensures.writes in
    let ready = ready_still c.args.job c.args.online.now (g.T.Tapes.rack c.args.tapes.now) c.set_intent.new.self c.write_blocks.new.online same begun may in
    (copies_of c.args.job c.args.online.now, ready)

pub returns-in-Err-adopt_ready-clause-carried : goal.returns-in-Err-adopt_ready-clause-carried
returns-in-Err-adopt_ready-clause-carried g c =
    let may = c.requires.may in
    let begun = begun_by c.args.job c.args.online.now (g.T.Tapes.rack c.args.tapes.now) c.set_intent.new.self _ may c.requires.pins c.in-Ok.ensures in
    let (same, so) = c.in-Ok-write_blocks.ensures.writes in
    let ready = ready_still c.args.job c.args.online.now (g.T.Tapes.rack c.args.tapes.now) c.set_intent.new.self c.write_blocks.new.online same begun may in
    copies_fail c.args.job c.args.online.now (g.T.Tapes.rack c.args.tapes.now) c.set_intent.new.self c.write_blocks.new.online c.adopt_ready.new.self (g.T.Tapes.rack c.write_blocks.new.tapes) c.in-Err-adopt_ready.field-0 begun same so
    (c.in-Err-adopt_ready.ensures (copies_of c.args.job c.args.online.now) ready)

pub returns-in-Err-adopt_ready-clause-tied : goal.returns-in-Err-adopt_ready-clause-tied
returns-in-Err-adopt_ready-clause-tied g c =
    let may = c.requires.may in
    let begun = begun_by c.args.job c.args.online.now (g.T.Tapes.rack c.args.tapes.now) c.set_intent.new.self _ may c.requires.pins c.in-Ok.ensures in
    let (same, so) = c.in-Ok-write_blocks.ensures.writes in
    let ready = ready_still c.args.job c.args.online.now (g.T.Tapes.rack c.args.tapes.now) c.set_intent.new.self c.write_blocks.new.online same begun may in
    (c.in-Err-adopt_ready.ensures (copies_of c.args.job c.args.online.now) ready).tied

pub release-requires-clause-mounted : goal.release-requires-clause-mounted
release-requires-clause-mounted g c =
    let (same, so) = c.in-Ok-write_blocks.ensures.writes in
    still_mounted c.args.job c.args.online.now (g.T.Tapes.rack c.args.tapes.now) c.set_intent.new.self _ (g.T.Tapes.rack c.write_blocks.new.tapes) so c.requires.may.mounted

pub release-requires-clause-listed : goal.release-requires-clause-listed
release-requires-clause-listed g c =
    let (same, so) = c.in-Ok-write_blocks.ensures.writes in
    ap (map (λ (l : Listed). l.serial)) c.as_slice.ensures.value ∙ still_listed c.args.job c.args.online.now (g.T.Tapes.rack c.args.tapes.now) c.set_intent.new.self _ (g.T.Tapes.rack c.write_blocks.new.tapes) so c.requires.may.serials

pub returns-in-Ok-release-clause-carried : goal.returns-in-Ok-release-clause-carried
returns-in-Ok-release-clause-carried g c =
    let may = c.requires.may in
    let begun = begun_by c.args.job c.args.online.now (g.T.Tapes.rack c.args.tapes.now) c.set_intent.new.self _ may c.requires.pins c.in-Ok.ensures in
    let (same, so) = c.in-Ok-write_blocks.ensures.writes in
    let ready = ready_still c.args.job c.args.online.now (g.T.Tapes.rack c.args.tapes.now) c.set_intent.new.self c.write_blocks.new.online same begun may in (
      refl,
      g.T.Tapes.rack c.write_blocks.new.tapes,
      has_moved c.args.job c.args.online.now (g.T.Tapes.rack c.args.tapes.now) c.set_intent.new.self c.write_blocks.new.online c.adopt_ready.new.self (g.T.Tapes.rack c.write_blocks.new.tapes) c.in-Ok-adopt_ready.field-0 begun same so
          (c.in-Ok-adopt_ready.ensures (copies_of c.args.job c.args.online.now) ready),
      subst (λ (ls : List Listed). AreReleased (taken c.args.job.serial ls) (g.T.Tapes.rack c.write_blocks.new.tapes) (g.T.Tapes.rack c.release.new.tapes)) c.as_slice.ensures.value c.in-Ok-release.ensures.ok,
      subst (λ (ls : List Listed). AreReleasedDurably (taken c.args.job.serial ls) (g.T.Tapes.rack c.write_blocks.new.tapes) (g.T.Tapes.rack c.release.new.tapes)) c.as_slice.ensures.value c.in-Ok-release.ensures.durable,
    )

pub returns-in-Ok-release-clause-tied : goal.returns-in-Ok-release-clause-tied
returns-in-Ok-release-clause-tied g c =
    let may = c.requires.may in
    let begun = begun_by c.args.job c.args.online.now (g.T.Tapes.rack c.args.tapes.now) c.set_intent.new.self _ may c.requires.pins c.in-Ok.ensures in
    let (same, so) = c.in-Ok-write_blocks.ensures.writes in
    let ready = ready_still c.args.job c.args.online.now (g.T.Tapes.rack c.args.tapes.now) c.set_intent.new.self c.write_blocks.new.online same begun may in
    (c.in-Ok-adopt_ready.ensures (copies_of c.args.job c.args.online.now) ready).tied

pub returns-clause-carried : goal.returns-clause-carried
returns-clause-carried g c =
    let may = c.requires.may in
    let begun = begun_by c.args.job c.args.online.now (g.T.Tapes.rack c.args.tapes.now) c.set_intent.new.self _ may c.requires.pins c.in-Ok.ensures in
    let (same, so) = c.in-Ok-write_blocks.ensures.writes in
    let ready = ready_still c.args.job c.args.online.now (g.T.Tapes.rack c.args.tapes.now) c.set_intent.new.self c.write_blocks.new.online same begun may in
    AtRelease (g.T.Tapes.rack c.write_blocks.new.tapes)
    (has_moved c.args.job c.args.online.now (g.T.Tapes.rack c.args.tapes.now) c.set_intent.new.self c.write_blocks.new.online c.adopt_ready.new.self (g.T.Tapes.rack c.write_blocks.new.tapes) c.in-Ok-adopt_ready.field-0 begun same so
    (c.in-Ok-adopt_ready.ensures (copies_of c.args.job c.args.online.now) ready))
    (subst (λ (ls : List Listed). IsCutAt c.args.job.serial ls (g.T.Tapes.rack c.write_blocks.new.tapes) (g.T.Tapes.rack c.release.new.tapes)) c.as_slice.ensures.value c.in-Err-release.ensures.cut)

pub returns-clause-tied : goal.returns-clause-tied
returns-clause-tied g c =
    let may = c.requires.may in
    let begun = begun_by c.args.job c.args.online.now (g.T.Tapes.rack c.args.tapes.now) c.set_intent.new.self _ may c.requires.pins c.in-Ok.ensures in
    let (same, so) = c.in-Ok-write_blocks.ensures.writes in
    let ready = ready_still c.args.job c.args.online.now (g.T.Tapes.rack c.args.tapes.now) c.set_intent.new.self c.write_blocks.new.online same begun may in
    (c.in-Ok-adopt_ready.ensures (copies_of c.args.job c.args.online.now) ready).tied

use Rattle.std.proofs.Common.{Ok, Err}
use Rattle.std.specs.Prelude.{codes}
use Rattle.g_run_model.specs.Texts.{tape_text}
use Rattle.g_operator.proofs.TurnedLemmas.{day_aside, day_line, mounts_line}
use Rattle.g_operator.proofs.reels.mount_line.Goals as goal

pub returns-in-Ok-clause-line : goal.returns-in-Ok-clause-line
returns-in-Ok-clause-line g c =
    day_line (mounts_line c.args.serial) c.day.view_is c.requires.ready (Ok tt) c.in-Ok.is c.mount.ensures.steps (c.say_made-failure.ensures (tape_text c.args.serial (codes "MOUNTED")) c.tape_text-made.ensures)

pub returns-in-Err-clause-line : goal.returns-in-Err-clause-line
returns-in-Err-clause-line g c = day_line (mounts_line c.args.serial) c.day.view_is c.requires.ready (Err c.in-Err.fault) c.in-Err.is c.mount.ensures.steps c.refuse-failure.ensures

pub returns-in-Ok-clause-anew : goal.returns-in-Ok-clause-anew
returns-in-Ok-clause-anew g c =
    day_aside (mounts_line c.args.serial) c.day.view_is c.requires.ready (Ok tt) c.in-Ok.is c.mount.ensures.aside c.mount.ensures.blank
    (c.say_made-failure.ensures (tape_text c.args.serial (codes "MOUNTED")) c.tape_text-made.ensures)

pub returns-in-Err-clause-anew : goal.returns-in-Err-clause-anew
returns-in-Err-clause-anew g c =
    day_aside (mounts_line c.args.serial) c.day.view_is c.requires.ready (Err c.in-Err.fault) c.in-Err.is c.mount.ensures.aside c.mount.ensures.blank c.refuse-failure.ensures

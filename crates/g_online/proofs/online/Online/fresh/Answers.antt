use Rattle.std.proofs.Common.{◌≡◌, is_some, refl}
use Rattle.std.proofs.lemmas.Result.{IfErr-weaker, IfOk-weaker}
use Rattle.g_disc.specs.Durable.{PowerLossLeaves}
use Rattle.g_dirs.proofs.Surviving.{safe_stays}
use Rattle.g_online.specs.Beginning.{AsBeforeOr, first_contents}
use Rattle.g_online.specs.declared.fault.OnlineFault.TheVariants.{ReadFault, Stopped}
use Rattle.g_online.proofs.SecuredLemmas.{Causes-SecuresAndReads, answer_safe, secured_causes, secured_durable, secured_failed, secured_made, secured_rules, secured_same, secured_stopped, secured_survives}
use Rattle.g_online.proofs.online.Online.fresh.Goals as goal

pub write_filestore-requires-clause-rules : goal.write_filestore-requires-clause-rules
write_filestore-requires-clause-rules g c =
    secured_rules (g.D.Disc.state c.args.disc) (g.D.Disc.state c.secure.new.self) c.in-Ok.ensures c.args.head c.args.tree.users c.args.tree.files c.requires.rules

pub returns-in-Ok-clause-ok : goal.returns-in-Ok-clause-ok
returns-in-Ok-clause-ok g c =
    IfOk-weaker c.write_filestore.result _ _
    (λ o made. secured_made (g.D.Disc.state c.args.disc) (g.D.Disc.state c.secure.new.self) c.in-Ok.ensures c.args.head c.args.tree.users c.args.tree.files o made) c.write_filestore.ensures.ok

pub returns-in-Ok-clause-stopped : goal.returns-in-Ok-clause-stopped
returns-in-Ok-clause-stopped g c =
    IfErr-weaker c.write_filestore.result _ _
    (λ e changes is. secured_stopped (g.D.Disc.state c.args.disc) (g.D.Disc.state c.secure.new.self) c.in-Ok.ensures c.args.head c.args.tree.users c.args.tree.files (g.D.Disc.state e.1) (changes is))
    c.write_filestore.ensures.stopped

pub returns-in-Ok-clause-same : goal.returns-in-Ok-clause-same
returns-in-Ok-clause-same g c =
    IfErr-weaker c.write_filestore.result _ _ (λ e same. secured_same (g.D.Disc.state c.args.disc) (g.D.Disc.state c.secure.new.self) c.in-Ok.ensures (g.D.Disc.state e.1) same)
    c.write_filestore.ensures.same

pub returns-in-Ok-clause-causes : goal.returns-in-Ok-clause-causes
returns-in-Ok-clause-causes g c =
    IfErr-weaker c.write_filestore.result _ _ (λ e causes. secured_causes (g.D.Disc.state c.args.disc) (g.D.Disc.state c.secure.new.self) c.in-Ok.ensures causes) c.write_filestore.ensures.causes

pub returns-in-Ok-clause-durable : goal.returns-in-Ok-clause-durable
returns-in-Ok-clause-durable g c =
    IfErr-weaker c.write_filestore.result _ _ (λ e still. secured_durable (g.D.Disc.state c.args.disc) (g.D.Disc.state c.secure.new.self) c.in-Ok.ensures (g.D.Disc.state e.1) still)
    c.write_filestore.ensures.still

pub returns-in-Ok-clause-safe : goal.returns-in-Ok-clause-safe
returns-in-Ok-clause-safe g c =
    let secured = g.D.Disc.state c.secure.new.self in
    answer_safe (g.D.Disc.state c.args.disc) secured c.in-Ok.ensures g.D.Disc.state
    (λ left. PowerLossLeaves (AsBeforeOr (first_contents (is_some secured.held) c.args.head c.args.tree.users c.args.tree.files)) secured left) c.write_filestore.result c.write_filestore.ensures.only
    c.write_filestore.ensures.survives c.write_filestore.ensures.same c.write_filestore.ensures.still

pub returns-in-Ok-clause-survives : goal.returns-in-Ok-clause-survives
returns-in-Ok-clause-survives g c =
    IfErr-weaker c.write_filestore.result _ _
    (λ e survives is is_safe.
    secured_survives (g.D.Disc.state c.args.disc) (g.D.Disc.state c.secure.new.self) c.in-Ok.ensures c.args.head c.args.tree.users c.args.tree.files (g.D.Disc.state e.1)
    (survives is c.in-Ok.ensures.gate (safe_stays (g.D.Disc.state c.args.disc) (g.D.Disc.state c.secure.new.self) c.in-Ok.ensures.held c.in-Ok.ensures.durable is_safe)).1)
    c.write_filestore.ensures.survives

pub returns-in-Err-clause-same : goal.returns-in-Err-clause-same
returns-in-Err-clause-same g c = λ isnt. (c.in-Err.ensures.held, c.in-Err.ensures.writes)

pub returns-in-Err-clause-causes : goal.returns-in-Err-clause-causes
returns-in-Err-clause-causes g c = Causes-SecuresAndReads (λ is. let no : ReadFault ≡ Stopped = is in cc) (secured_failed refl c.in-Err.ensures)

pub returns-in-Err-clause-durable : goal.returns-in-Err-clause-durable
returns-in-Err-clause-durable g c = λ isnt. c.in-Err.ensures.durable

pub returns-in-Err-clause-safe : goal.returns-in-Err-clause-safe
returns-in-Err-clause-safe g c = λ is_safe. safe_stays (g.D.Disc.state c.args.disc) (g.D.Disc.state c.secure.new.self) c.in-Err.ensures.held c.in-Err.ensures.durable is_safe

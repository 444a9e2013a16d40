use Rattle.std.proofs.Common.{refl, ◌∙◌}
use Rattle.std.proofs.lemmas.Result.{IfErr-weaker, IfOk-weaker}
use Rattle.g_online.proofs.SecuredLemmas.{secured_failed, secured_loaded, secured_reads}
use Rattle.g_online.proofs.online.Online.load.Goals as goal

pub returns-in-Ok-clause-ok : goal.returns-in-Ok-clause-ok
returns-in-Ok-clause-ok g c =
    IfOk-weaker c.read_filestore.result _ _ (λ o read. secured_loaded (g.D.Disc.state c.args.disc) (g.D.Disc.state c.secure.new.self) c.in-Ok.ensures o read) c.read_filestore.ensures.ok

pub returns-in-Ok-clause-none : goal.returns-in-Ok-clause-none
returns-in-Ok-clause-none g c = IfErr-weaker c.read_filestore.result _ _ (λ e none is blocks told. none is blocks (c.in-Ok.ensures.held ∙ told)) c.read_filestore.ensures.none

pub returns-in-Ok-clause-refused : goal.returns-in-Ok-clause-refused
returns-in-Ok-clause-refused g c =
    IfErr-weaker c.read_filestore.result _ _ (λ e reads. secured_reads (g.D.Disc.state c.args.disc) (g.D.Disc.state c.secure.new.self) c.in-Ok.ensures reads) c.read_filestore.ensures.refused

pub returns-in-Err-clause-refused : goal.returns-in-Err-clause-refused
returns-in-Err-clause-refused g c = secured_failed refl c.in-Err.ensures

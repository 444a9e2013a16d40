use Rattle.std.proofs.Common.{length, option_map, ap, ◌-◌}
use Rattle.std.proofs.lemmas.Result.{on_err_weaker}
use Rattle.g_job.specs.JobValue.{job_of}
use Rattle.g_turn.specs.Values.{pending_of}
use Rattle.g_job.proofs.TurnLemmas.{begun, begun_part, both_ok, makes}
use Rattle.g_job.proofs.parts.Parts.make_again.Goals as goal

pub returns-clause-ok : goal.returns-clause-ok
returns-clause-ok g c =
    both_ok c.go-done.result (λ did ready.
    makes g.S.Filestore.answers g.S.Filestore.is_spent g.S.Filestore.can_wait (job_of c.args.self.now) c.args.store.now c.go-done.new.self c.go-done.new.store c.requires.rules c.requires.open
    c.begin.ensures.few
    (begun g.S.Filestore.answers g.S.Filestore.is_spent g.S.Filestore.can_wait (job_of c.args.self.now) (1048576 - length c.as_slice.result.now)
    (option_map pending_of c.take-again.result) c.begin.new.self c.go-done.new.self c.args.store.now c.go-done.new.store
    (ap (λ monitor. 1048576 - length monitor) c.as_slice.ensures) (ap (λ again. option_map pending_of again) c.take-again.ensures.value) c.begin.ensures.ok did)
    ready) c.go-done.ensures.ok c.go-done.ensures.ready

pub returns-clause-err : goal.returns-clause-err
returns-clause-err g c =
    on_err_weaker c.go-done.result (λ did.
    begun_part g.S.Filestore.answers g.S.Filestore.is_spent g.S.Filestore.can_wait (job_of c.args.self.now) (1048576 - length c.as_slice.result.now) (option_map pending_of c.take-again.result) c.begin.new.self c.args.store.now c.go-done.new.store
    (ap (λ monitor. 1048576 - length monitor) c.as_slice.ensures) (ap (λ again. option_map pending_of again) c.take-again.ensures.value) c.begin.ensures.ok
    did) c.go-done.ensures.err

use Rattle.g_job.specs.JobValue.{job_of}
use Rattle.std.proofs.Common.{option_map, refl}
use Rattle.g_turn.specs.Values.{stop_of}
use Rattle.g_job.proofs.EndingLemmas.{charged_turn}
use Rattle.g_job.proofs.parts.Parts.charge.Goals as goal

pub returns-in-Ok-clause-ok : goal.returns-in-Ok-clause-ok
returns-in-Ok-clause-ok g c =
    charged_turn g.F.Fn c.args.tariff.now (job_of c.args.self.now) c.args.self.now.work c.orders.result c.blocks-2.result (option_map stop_of c.args.stop) c.charge-charge.result c.in-Ok.turn
    (job_of c.settle.new.self) c.orders.ensures c.blocks-2.ensures c.requires.stop refl c.requires.charged c.charge-charge.ensures.kept c.in-Ok.ensures.ok

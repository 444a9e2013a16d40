use Rattle.std.proofs.Common.{Option, Some, ap, option_map, refl, ◌∙◌, ◌≡◌}
use Rattle.g_job.specs.JobValue.{job_of}
use Rattle.g_turn.specs.State.{Broken, Stop, Waits}
use Rattle.g_turn.specs.Values.{stop_of}
use Rattle.g_turn.specs.declared.stop.Stop.TheVariants as code
use Rattle.g_job.proofs.EndingLemmas.{broken_turn, waiting_of, waits_turn}
use Rattle.g_job.proofs.parts.Parts.end_by.Goals as goal

pub wait_for-requires : goal.wait_for-requires
wait_for-requires g c =
    let field : c.in-Some-Waits.field-0 ≡ code.Waits c.in-Some-Waits.serial = rw c.in-Some-Waits.is at c.in-Some-Waits.field-0-is in
    let is : option_map stop_of c.args.stop ≡ Some (Waits c.in-Some-Waits.serial) =
    ap (option_map stop_of) c.in-Some-Waits.is ∙ ap (λ s. let o : Option Stop = Some (stop_of s) in o) field in
    waiting_of (job_of c.args.self.now) c.args.self.now.work (option_map stop_of c.args.stop) c.in-Some-Waits.serial c.requires.within c.requires.gone refl c.requires.stop is

pub returns-in-Some-Waits-clause-ok : goal.returns-in-Some-Waits-clause-ok
returns-in-Some-Waits-clause-ok g c =
    let field : c.in-Some-Waits.field-0 ≡ code.Waits c.in-Some-Waits.serial = rw c.in-Some-Waits.is at c.in-Some-Waits.field-0-is in
    let is : option_map stop_of c.args.stop ≡ Some (Waits c.in-Some-Waits.serial) =
    ap (option_map stop_of) c.in-Some-Waits.is ∙ ap (λ s. let o : Option Stop = Some (stop_of s) in o) field in
    waits_turn g.F.Fn c.args.tariff.now (job_of c.args.self.now) c.args.self.now.work (option_map stop_of c.args.stop) c.in-Some-Waits.serial (job_of c.wait_for.new.self) c.requires.stop is
    c.wait_for.ensures.job

pub returns-in_ok-break_off-in-Some-Broken-clause-ok : goal.returns-in_ok-break_off-in-Some-Broken-clause-ok
returns-in_ok-break_off-in-Some-Broken-clause-ok g c =
    let field : c.in-Some-Broken.field-0 ≡ code.Broken = rw c.in-Some-Broken.is at c.in-Some-Broken.field-0-is in
    let is : option_map stop_of c.args.stop ≡ Some Broken =
    ap (option_map stop_of) c.in-Some-Broken.is ∙ ap (λ s. let o : Option Stop = Some (stop_of s) in o) field in
    broken_turn g.F.Fn c.args.tariff.now (job_of c.args.self.now) c.args.self.now.work (option_map stop_of c.args.stop) (job_of c.break_off.new.self) c.requires.stop is c.requires.clear refl
    (ap job_of c.in_ok-break_off-in-Some-Broken.ensures.ok)

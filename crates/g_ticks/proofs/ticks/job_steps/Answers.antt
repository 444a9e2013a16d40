use Rattle.std.proofs.Common.{rules, sym, ◌∙◌, ap, ◌≡◌, not, List}
use Rattle.g_job.specs.State.{JobState}
use Rattle.g_tape.specs.Rack.{is_mounted, reel}
use Rattle.g_run_model.specs.World.{has_none}
use Rattle.g_ticks.proofs.FallLemmas.{able_same}
use Rattle.g_ticks.proofs.RanLemmas.{mounted_some, some_state}
use Rattle.g_ticks.proofs.ticks.job_steps.Goals as goal

pub returns : goal.returns
returns g c = λ count.
    let s = c.args.store.now.running in
    c.can_step.ensures (some_state s) (λ serial answer post. let is : answer ≡ is_mounted (reel serial s.rack.reels) = search rules in is ∙ sym (mounted_some s serial))
    ∙ ap (λ (js : List JobState). not (has_none js)) (able_same (some_state s) s.rack (mounted_some s) c.args.crew.now.jobs)

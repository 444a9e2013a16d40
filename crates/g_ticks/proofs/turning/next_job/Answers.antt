use Rattle.std.proofs.Common.{rules, sym, ◌∙◌, ◌≡◌}
use Rattle.g_tape.specs.Rack.{is_mounted, reel}
use Rattle.g_ticks.proofs.turning.next_job.Goals as goal

pub returns : goal.returns
returns g c = λ s same. c.choose.ensures s (λ serial answer post. let is : answer ≡ is_mounted (reel serial c.args.store.now.running.rack.reels) = search rules in is ∙ sym (same serial))

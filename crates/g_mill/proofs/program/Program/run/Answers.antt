use Rattle.std.proofs.Common.{◌<◌, ◌+◌, ◌^◌, ◌∙◌, subst, sym, ℕ}
use Rattle.g_mill.specs.Machine.{following, going_to}
use Rattle.g_mill.specs.Running.{RunsTo}
use Rattle.g_mill.proofs.RunningLaws.{runs_more_at}
use Rattle.g_mill.proofs.program.Program.run.Goals as goal
use Rattle.g_mill.proofs.program.Program.run.Goals.{in-Ran, in-Jumped, in-Passed}

pub loop-done-preserved : goal.loop-done-preserved
loop-done-preserved c =
    let new = c.run_one.new.self in
    elim c.match-run_one.branch [
      | in-Ran w ↦ record {
        ran = subst (λ (next : ℕ). RunsTo (c.loop-done.done + 1) c.args.self.now (going_to new next)) (sym (w.at-is ∙ w.following-at.ensures.value))
            (runs_more_at c.loop-done.done c.loop-done.at c.args.self.now c.loop-done.self new (following c.loop-done.at) c.loop-done.invariant.ran w.in-Ran.ensures);
        in_range = subst (λ (next : ℕ). next < 2 ^ 15) (sym w.at-is) w.following-at.ensures.in_range;
      }
      | in-Jumped w ↦ record {
        ran = subst (λ (next : ℕ). RunsTo (c.loop-done.done + 1) c.args.self.now (going_to new next)) (sym w.at-is)
            (runs_more_at c.loop-done.done c.loop-done.at c.args.self.now c.loop-done.self new w.in-Jumped.next c.loop-done.invariant.ran w.in-Jumped.ensures.0);
        in_range = subst (λ (next : ℕ). next < 2 ^ 15) (sym w.at-is) w.in-Jumped.ensures.1;
      }
      | in-Passed w ↦ record {
        ran = subst (λ (next : ℕ). RunsTo (c.loop-done.done + 1) c.args.self.now (going_to new next)) (sym (w.at-is ∙ w.following-at-in-Passed.ensures.value))
            (runs_more_at c.loop-done.done c.loop-done.at c.args.self.now c.loop-done.self new (following c.loop-done.at) c.loop-done.invariant.ran w.in-Passed.ensures);
        in_range = subst (λ (next : ℕ). next < 2 ^ 15) (sym w.at-is) w.following-at-in-Passed.ensures.in_range;
      }
    ]

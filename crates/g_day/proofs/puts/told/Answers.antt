use Rattle.std.proofs.Common.{subst, ◌≡◌}
use Rattle.std.specs.Prelude.{ℕ, List, IfOk}
use Rattle.g_run_model.specs.Texts.{operator_line}
use Rattle.g_day.specs.Parts.{Seen}
use Rattle.g_day.specs.Puts.{Puts}
use Rattle.g_day.proofs.puts.told.Goals as goal

pub returns-clause-put : goal.returns-clause-put
returns-clause-put g c =
    subst (λ (s : Seen). (what : List ℕ) → IfOk c.args.made (λ t. t ≡ what) → Puts c.say_made-failure.result (operator_line s.count what)
    (g.K.Sink.written c.args.out.now) (g.K.Sink.written c.say_made-failure.new.out) (g.K.Sink.faults c.args.out.now) (g.K.Sink.faults c.say_made-failure.new.out)) c.day.view_is c.say_made-failure.ensures

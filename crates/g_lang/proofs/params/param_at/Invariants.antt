use Rattle.std.proofs.Common.{drop, ◌≡◌}
use Rattle.g_lang.specs.LineReader.{params_read}
use Rattle.g_lang.specs.Texts.{params_left}
use Rattle.g_lang.proofs.params.param_at.Given as goal

abbrev pub invariant-loop-step : goal.invariant-loop-step
invariant-loop-step l = params_left l.left ≡ drop l._step (params_read l.text)

use Rattle.std.proofs.Common.{List, ap, sym, ℕ, ◌++◌, ◌∙◌}
use Rattle.std.proofs.lemmas.List.{append-nil}
use Rattle.g_lines.specs.Lines.{text_of}
use Rattle.g_demo.proofs.ScriptLemmas.{no_rounds, rounds_put, state_put}
use Rattle.g_demo.proofs.script.push_rounds.Goals as goal

pub loop-i-init : goal.loop-i-init
loop-i-init c =
    let none = no_rounds c.args.number in
    (sym (append-nil c.args.text.now) ∙ ap (λ (lines : List (List ℕ)). c.args.text.now ++ text_of lines) (sym none.1), c.new-draws.ensures ∙ sym none.0)

pub loop-i-preserved : goal.loop-i-preserved
loop-i-preserved c =
    let state = c.loop-i.draws.state in (
      rounds_put c.loop-i.text c.push_round.new.text c.args.text.now c.args.number c.loop-i.i c.from.result state c.from.ensures c.loop-i.invariant.1 c.loop-i.invariant.0 c.in_ok-push_round.ensures.lines,
      state_put c.args.number c.loop-i.i c.from.result state c.push_round.new.draws.state c.from.ensures c.loop-i.invariant.1 c.in_ok-push_round.ensures.state,
    )

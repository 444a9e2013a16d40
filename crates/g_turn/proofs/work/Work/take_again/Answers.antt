use Rattle.std.proofs.Common.{Bool, List, None, Option, Some, ap, option_map, sym, ℕ, ◌∙◌}
use Rattle.g_turn.specs.State.{AgainLine, Pending, Work}
use Rattle.g_turn.specs.Values.{again_of, pending_of}
use Rattle.g_turn.specs.contracts.work.Work.{the_view}
use Rattle.g_turn.proofs.work.Work.take_again.Goals as goal

-- it doesn't wait with the line
pub returns-then-not-self-clause-value : goal.returns-then-not-self-clause-value
returns-then-not-self-clause-value c =
    ap (option_map pending_of) c.take-kept.ensures.value
    ∙ sym (ap (λ (b : Bool). again_of b c.self.inside.line c.self.inside.kept) c.if-not-self.true)
    ∙ ap (λ (w : Work). w.again) c.self.view_is

pub returns-then-not-self-clause-none : goal.returns-then-not-self-clause-none
returns-then-not-self-clause-none c =
    ap (λ (a : Option Pending). record (the_view c.self.inside) { again = a })
    (ap (λ (b : Bool). again_of b c.self.inside.line c.take-kept.new.self) c.if-not-self.true ∙ ap (option_map pending_of) c.take-kept.ensures.after)
    ∙ ap (λ (w : Work). record w { again = None }) c.self.view_is

-- it does
pub returns-clause-value : goal.returns-clause-value
returns-clause-value c =
    ap (λ (line : List ℕ). let waits : Option Pending = Some (AgainLine line) in waits) c.replace-line.ensures.value
    ∙ sym (ap (λ (b : Bool). again_of b c.self.inside.line c.self.inside.kept) c.if-not-self.false)
    ∙ ap (λ (w : Work). w.again) c.self.view_is

pub returns-clause-none : goal.returns-clause-none
returns-clause-none c =
    ap (λ (a : Option Pending). record (the_view c.self.inside) { again = a }) (ap (option_map pending_of) c.take-kept.ensures.after)
    ∙ ap (λ (w : Work). record w { again = None }) c.self.view_is

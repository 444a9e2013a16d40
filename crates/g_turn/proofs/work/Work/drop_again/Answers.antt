use Rattle.std.proofs.Common.{None, Option, ap, option_map, sym, ◌∙◌, ◌≡◌}
use Rattle.g_turn.specs.State.{Pending, Work}
use Rattle.g_turn.specs.Values.{pending_of}
use Rattle.g_turn.specs.contracts.work.Work.{the_view}
use Rattle.g_turn.proofs.ReadyLemmas.{nothing}
use Rattle.g_turn.proofs.work.Work.drop_again.Goals as goal

pub returns-then-not-is_some : goal.returns-then-not-is_some
returns-then-not-is_some c =
    let none : c.self.inside.kept ≡ None = nothing c.self.inside.kept (sym c.is_some.ensures ∙ c.if-not-is_some.true) in
    ap (λ (a : Option Pending). record (the_view c.self.inside) { again = a }) (ap (option_map pending_of) none)
    ∙ ap (λ (w : Work). record w { again = None }) c.self.view_is

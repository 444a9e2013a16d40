use Rattle.g_look.proofs.ShownLemmas.{intent_ok}
use Rattle.g_look.proofs.disc_text.push_named.Goals as goal

pub returns : goal.returns
returns c =
    intent_ok c.args.found.now c.args.at.now _ _ c.args.text.now _ _ _ _ c.in_ok-push_told.ensures (rw c.from.ensures at c.in_ok-push_told-2.ensures) (rw c.from-2.ensures at c.in_ok-push_told-3.ensures)
    c.is_there.ensures c.push_state.ensures

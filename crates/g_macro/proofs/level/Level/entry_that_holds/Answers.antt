-- A command stored in a level is the text of a command.
use Rattle.std.proofs.Common.{◌≡◌, ◌<◌, ◌∙◌, List, ap, sym, subst, get_or, length, arith}
use Rattle.g_lang.specs.Lines.{IsCommandText}
use Rattle.g_macro.specs.declared.entry.Entry.{Entry}
use Rattle.g_macro.proofs.level.Level.entry_that_holds.Goals as goal

pub returns-then-holds-clause-command : goal.returns-then-holds-clause-command
returns-then-holds-clause-command c =
    let place = c.loop-entry.entry-index in
    let entry = c.entry-item.result in
    let same = c.as_slice-entry-items.ensures.value in
    let lengths : length c.as_slice-entry-items.result.now ≡ length c.self.inside.entries.items = ap length same in
    let inside : place < length c.self.inside.entries.items = omega (arith, lengths) in
    let at : get_or c.self.inside.entries.items place entry ≡ entry =
    ap (λ (es : List Entry). get_or es place entry) (sym same) ∙ sym c.entry-item.is in
    subst (λ (e : Entry). IsCommandText e.command) at (c.self.invariant.commands place entry inside)

use Rattle.std.proofs.Common.{List, ℕ, [], ◌≡◌, sym, subst}
use Rattle.g_typing.specs.Reader.{HoldsAt, Replies}
use Rattle.g_typing.specs.declared.item.Place.{Place}
use Rattle.g_typing.specs.declared.item.Place.TheVariants as place
use Rattle.g_typing.proofs.item.ItemReader.reply.Goals as goal

pub returns-in-Start : goal.returns-in-Start
returns-in-Start c lines one holds =
    let none : lines ≡ [] = subst (λ (p : Place). HoldsAt p c.args.count lines c.args.self.now) c.in-Start.is holds in
    subst (λ (p : Place). Replies p c.args.number c.args.count lines c.args.line.now c.ask_or_begin.result c.ask_or_begin.new.self) (sym c.in-Start.is)
    (subst (λ (ls : List (List ℕ)). Replies place.Start c.args.number c.args.count ls c.args.line.now c.ask_or_begin.result c.ask_or_begin.new.self) (sym none) (c.ask_or_begin.ensures one))

pub returns-in-Document : goal.returns-in-Document
returns-in-Document c lines one holds =
    let d = subst (λ (p : Place). HoldsAt p c.args.count lines c.args.self.now) c.in-Document.is holds in c.add.ensures c.args.number c.args.count _ lines c.in-Document.is d

pub returns-in-Skipped : goal.returns-in-Skipped
returns-in-Skipped c lines one holds = c.skip.ensures c.args.number c.args.count lines holds

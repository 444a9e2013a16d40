use Rattle.std.proofs.Common.{codes, ap, ◌++◌, ◌∙◌, sym}
use Rattle.g_turn.proofs.SayLemmas.{all_on, all_over}
use Rattle.g_turn.specs.Outcomes.{done, say_all}
use Rattle.g_turn.specs.State.{Work}
use Rattle.g_monitor.specs.Listing.{listed_lines}
use Rattle.g_monitor.specs.Parts.{full_text}
use Rattle.g_turn.proofs.work.Work.list_bytes.Goals as goal

pub returns-then-is_over-clause-ok : goal.returns-then-is_over-clause-ok
returns-then-is_over-clause-ok c = λ path m.
    all_over c.args.room (codes "LISTED " ++ full_text c.args.full.now) (listed_lines c.args.bytes.now) (done c.args.self.now) c.say_lines.new.self
    c.requires.open (c.in_ok-say_lines.ensures.ok ∙ ap (λ (w : Work). say_all c.args.room (listed_lines c.args.bytes.now) w) (c.make_room_for.ensures ∙ c.done.ensures)) (sym c.is_over.ensures ∙ c.if-is_over.true)

pub returns-clause-ok : goal.returns-clause-ok
returns-clause-ok c = λ path m.
    all_on c.args.room (codes "LISTED " ++ full_text c.args.full.now) (listed_lines c.args.bytes.now) (done c.args.self.now) c.say_lines.new.self c.say_named.new.self
    c.requires.open (c.in_ok-say_lines.ensures.ok ∙ ap (λ (w : Work). say_all c.args.room (listed_lines c.args.bytes.now) w) (c.make_room_for.ensures ∙ c.done.ensures)) (sym c.is_over.ensures ∙ c.if-is_over.false) c.in_ok-say_named.ensures.ok

use Rattle.std.proofs.Common.{◌∙◌, sym}
use Rattle.g_turn.proofs.SayLemmas.{all_on, all_over}
use Rattle.g_monitor.specs.Replies.{last_line, lines_above}
use Rattle.g_turn.proofs.work.Work.say_reply.Goals as goal

pub returns-then-is_over-clause-ok : goal.returns-then-is_over-clause-ok
returns-then-is_over-clause-ok c =
    all_over c.args.room (last_line c.args.call.now c.args.reply.now) (lines_above c.args.reply.now) c.args.self.now c.say_above.new.self
    c.requires.open c.in_ok-say_above.ensures.ok (sym c.is_over.ensures ∙ c.if-is_over.true)

pub returns-clause-ok : goal.returns-clause-ok
returns-clause-ok c =
    all_on c.args.room (last_line c.args.call.now c.args.reply.now) (lines_above c.args.reply.now) c.args.self.now c.say_above.new.self c.say_last.new.self
    c.requires.open c.in_ok-say_above.ensures.ok (sym c.is_over.ensures ∙ c.if-is_over.false) c.in_ok-say_last.ensures.ok

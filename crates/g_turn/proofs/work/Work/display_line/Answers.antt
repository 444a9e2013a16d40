use Rattle.std.proofs.Common.{List, Ok, Some, ap, eq-eqb, length, refl, sym, ℕ, ◌∙◌}
use Rattle.std.proofs.lemmas.Bool.{false≢true}
use Rattle.std.proofs.lemmas.Result.{on_ok_weaker}
use Rattle.g_monitor.specs.JobLines.{marked}
use Rattle.g_monitor.specs.declared.job_lines.Mark.TheVariants as mark
use Rattle.g_turn.proofs.RanLemmas.{gives_alone, line_ran}
use Rattle.g_turn.specs.Outcomes.{done, say}
use Rattle.g_verbs.proofs.AloneLemmas.{display-read}
use Rattle.g_verbs.specs.declared.action.Action.TheVariants as action
use Rattle.g_verbs.specs.declared.verb.Verb.TheVariants as verb
use Rattle.g_turn.proofs.work.Work.display_line.Goals as goal

pub returns : goal.returns
returns g c =
    let read = display-read c.args.line.name c.args.line.rest (Some verb.Display) (sym c.requires.verb) refl c.as_slice-word.ensures.word
    (λ none. false≢true (sym c.if-is_empty.false ∙ c.is_empty.ensures ∙ eq-eqb (length c.as_slice.result.now) 0 (ap length (c.as_slice.ensures ∙ none)))) in
    line_ran g.S.Filestore.answers g.S.Filestore.is_spent g.S.Filestore.can_wait c.args.asker.now.who.now c.args.asker.now.room c.args.by c.args.line.name c.args.line.rest (Ok (action.Display c.args.line.rest)) 2048
    c.args.store.now c.args.self.now c.display.result c.display.new.self c.args.store.now read
    (gives_alone g.S.Filestore.answers g.S.Filestore.is_spent g.S.Filestore.can_wait c.args.asker.now.who.now (say c.args.asker.now.room (marked mark.Displayed c.args.line.rest) (done c.args.self.now)) 2048
    c.args.store.now c.args.self.now c.display.result c.display.new.self c.requires.open.running
    (on_ok_weaker c.display.result (λ did. did ∙ ap (λ (t : List ℕ). say c.args.asker.now.room (marked mark.Displayed t) (done c.args.self.now)) c.as_slice-2.ensures) c.display.ensures.ok)
    c.display.ensures.blocks)

use Rattle.g_incr.specs.Plan.{dump_of}
use Rattle.g_incr.proofs.PieceLemmas.{mark_ready, note_is}
use Rattle.g_incr.proofs.writer.Writer.mark.Goals as goal

pub returns : goal.returns
returns c = λ k last.
    let p = c.args.self.now in
    mark_ready p c.encode_mark.result k last (λ content long. c.encode_mark.ensures (dump_of p content)
    (note_is p content c.note.result long c.note.ensures.number c.note.ensures.place c.note.ensures.next c.note.ensures.users c.note.ensures.files c.note.ensures.count))

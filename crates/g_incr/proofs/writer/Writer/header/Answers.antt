use Rattle.std.proofs.Common.{refl}
use Rattle.g_incr.specs.Plan.{dump_of}
use Rattle.g_incr.proofs.PieceLemmas.{header_ready, note_is}
use Rattle.g_incr.proofs.writer.Writer.header.Goals as goal

pub returns : goal.returns
returns c =
    let p = c.args.self.now in
    header_ready p c.encode_header.result (λ content long. c.encode_header.ensures (dump_of p content) (record {
      format = refl;
      note = note_is p content c.note-note.result long c.note-note.ensures.number c.note-note.ensures.place c.note-note.ensures.next c.note-note.ensures.users c.note-note.ensures.files c.note-note.ensures.count;
    }))

use Rattle.std.proofs.Common.{ap}
use Rattle.g_entry.specs.declared.file_rec.FileRec.{FileRec}
use Rattle.g_migrate.proofs.CandidateLemmas.{is_none_of, is_one}
use Rattle.g_migrate.proofs.candidates.is_candidate.Goals as goal

pub returns-then-is_on_tape : goal.returns-then-is_on_tape
returns-then-is_on_tape g c = λ f there same.
    is_one f c.args.file.now c.is_online.result c.is_on_tape.result same c.is_on_tape.ensures c.if-is_on_tape.true (c.is_online.ensures f there (ap (λ (r : FileRec). r.number) same))

pub returns-else-is_on_tape : goal.returns-else-is_on_tape
returns-else-is_on_tape g c = λ f there same. is_none_of f c.args.file.now c.is_on_tape.result same c.is_on_tape.ensures c.if-is_on_tape.false

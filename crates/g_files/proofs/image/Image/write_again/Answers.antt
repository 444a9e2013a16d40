use Rattle.std.proofs.Common.{ℕ, ◌*◌, ap, sym, ◌∙◌, arith}
use Rattle.g_files.specs.Image.{seen}
use Rattle.g_files.specs.Bytes.{part}
use Rattle.g_files.proofs.ImageLemmas.{same_again, seen_none, seen_sized}
use Rattle.g_files.proofs.image.Image.write_again.Goals as goal

pub returns-clause-same : goal.returns-clause-same
returns-clause-same g c =
    let i = c.args.self.now in
    same_again (512 * i.size) c.args.gate.now c.write_at.result (seen i) (seen c.write_at.new.self)
    (seen_sized i.buffered.at (512 * i.size) i.buffered.bytes (g.F.RawFile.content i.file) i.sized i.within) (omega arith) c.requires.gate
    c.write_at.ensures.written

pub returns-clause-durable : goal.returns-clause-durable
returns-clause-durable g c =
    let i = c.args.self.now in
    c.write_at.ensures.durability.unchanged (λ b is.
    c.requires.gate b (seen_none i.buffered.at i.buffered.bytes (g.F.RawFile.content i.file) c.requires.empty ∙ is)
    ∙ ap (λ (n : ℕ). part 0 n b) (sym c.told-gate))

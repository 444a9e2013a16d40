use Rattle.std.proofs.Common.{ℕ, sym, ap, ◌∙◌}
use Rattle.std.proofs.lemmas.Result.{on_ok_weaker}
use Rattle.g_files.specs.Bytes.{part}
use Rattle.g_files.proofs.ImageLemmas.{seen_none}
use Rattle.g_files.proofs.image.Image.read_gate.Goals as goal

pub returns-clause-gate : goal.returns-clause-gate
returns-clause-gate g c =
    let i = c.args.self.now in
    on_ok_weaker c.read_whole.result (λ told b is. told b (sym c.read_whole.ensures.same
    ∙ sym (seen_none i.buffered.at i.buffered.bytes (g.F.RawFile.content c.read_whole.new.file) c.requires.empty) ∙ is)
    ∙ ap (λ (n : ℕ). part 0 n b) c.told-gate) c.read_whole.ensures.given

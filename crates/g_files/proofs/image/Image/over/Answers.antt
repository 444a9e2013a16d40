use Rattle.std.proofs.Common.{ap}
use Rattle.g_files.proofs.ImageLemmas.{seen_none}
use Rattle.g_files.specs.Window.{Window}
use Rattle.g_files.proofs.image.Image.over.Goals as goal

pub returns-clause-seen : goal.returns-clause-seen
returns-clause-seen g c = seen_none c.in_ok-new.field-0.at c.in_ok-new.field-0.bytes (g.F.RawFile.content c.args.file)
    (ap (λ (w : Window). w.bytes) c.in_ok-new.ensures)

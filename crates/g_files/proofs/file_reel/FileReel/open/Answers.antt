use Rattle.std.proofs.Common.{ℕ, ◌-◌, sym, subst}
use Rattle.g_files.specs.Risks.{Keeps}
use Rattle.g_files.proofs.ReelRiskLemmas.{kept_from_reel, syncs_if_kept}
use Rattle.g_files.proofs.file_reel.FileReel.open.Goals as goal

pub returns-clause-able : goal.returns-clause-able
returns-clause-able g c = λ kept.
    let f = c.in_ok-blocks.blocks in
    let whole = g.met.F.RawFile.remnants f.file in
    syncs_if_kept f whole (subst (λ (n : ℕ). Keeps n f) (sym c.in_ok-blocks.ensures.durable) (kept_from_reel f whole (f.len - 1) kept))

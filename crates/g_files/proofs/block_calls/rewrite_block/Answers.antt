use Rattle.std.proofs.Common.{◌≡◌, ◌+◌, is_ok, subst, true}
use Rattle.g_files.specs.Durability.{Durability}
use Rattle.g_files.specs.Growth.{Rewrites}
use Rattle.std.proofs.lemmas.Result.{err_from_is_err_and}
use Rattle.g_files.proofs.GrowthLemmas.{err_not_ok, rewrites_none}
use Rattle.g_files.proofs.block_calls.rewrite_block.Goals as goal

pub returns-in_err-read_block-clause-durability : goal.returns-in_err-read_block-clause-durability
returns-in_err-read_block-clause-durability g c =
    let durability = g.F.RawFile.durability in
    rewrites_none c.args.k (c.args.k + 1) (durability c.args.file.now) (durability c.read_block.new.file) _ (let gave = err_from_is_err_and c.from_residual.result c.from_residual.ensures.1 in err_not_ok c.from_residual.result gave.0 gave.1) c.read_block.ensures.as_durable

pub returns-clause-durability : goal.returns-clause-durability
returns-clause-durability g c =
    let durability = g.F.RawFile.durability in
    subst (λ (d : Durability). Rewrites c.args.k (c.args.k + 1) d (durability c.write_again.new.file) (is_ok c.write_again.result ≡ true)) c.read_block.ensures.as_durable c.write_again.ensures.durability

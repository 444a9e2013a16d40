use Rattle.std.proofs.Common.{◌∙◌}
use Rattle.g_migrate.proofs.CandidateLemmas.{listed_all, listed_more, listed_none}
use Rattle.g_migrate.proofs.candidates.candidates.Goals as goal

pub loop-file-init : goal.loop-file-init
loop-file-init g c =
    listed_none c.args.online.now.contents.files c.into_iter-file-iterator.result c.new-candidates.result.items (c.into_iter-file-iterator.ensures.into_iter_gives ∙ c.files-files.ensures.value ∙ c.tree.ensures.files)
    c.new-candidates.ensures.items

pub loop-file-preserved : goal.loop-file-preserved
loop-file-preserved g c =
    listed_more c.args.online.now.contents.files c.loop-file.file-iterator c.next.new.self c.in-Some.file.now c.candidate_for.result c.in-Some.ensures.steps c.candidate_for.ensures
    c.loop-file.candidates.items c.add.new.candidates.items c.loop-file.invariant c.in_ok-add.ensures

pub returns : goal.returns
returns g c = listed_all c.args.online.now.contents.files c.loop-file.file-iterator c.loop-file.candidates.items c.in-None.ensures.steps.0 c.loop-file.invariant

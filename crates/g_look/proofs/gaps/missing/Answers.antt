use Rattle.g_look.proofs.MissingLemmas.{names_missing}
use Rattle.g_look.proofs.RackLemmas.{moved_as}
use Rattle.g_look.proofs.gaps.missing.Goals as goal

pub returns : goal.returns
returns c = λ dumps are.
    names_missing c.args.found.now c.as_slice.result.now (moved_as _ _ _ c.as_slice.ensures.value c.in_ok-dumps.ensures.same) _ c.newest_whole.ensures dumps are _ c.newest_gap.ensures

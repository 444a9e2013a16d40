use Rattle.g_look.proofs.ShownLemmas.{dirs_ok}
use Rattle.g_look.proofs.disc_text.push_dirs.Goals as goal

pub returns : goal.returns
returns c =
    dirs_ok c.args.size c.args.format c.args.dirs.now c.args.found.now _ c.args.text.now _ _ _ _ (rw c.number.ensures at (rw c.from.ensures at c.in_ok-push_told_line.ensures)) c.in_ok-push_counts.ensures
    c.in_ok-push_told_line-2.ensures c.push_intent.ensures

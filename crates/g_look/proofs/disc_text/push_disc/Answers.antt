use Rattle.g_look.proofs.ShownLemmas.{disc_none_ok, disc_some_ok}
use Rattle.g_look.proofs.disc_text.push_disc.Goals as goal

pub returns-in-Some : goal.returns-in-Some
returns-in-Some c = disc_some_ok c.args.size c.args.standing.now.side _ _ _ c.args.found.now _ c.args.text.now _ _ c.in-Some.is c.in_ok-push_front.ensures c.push_dirs.ensures

pub returns-in-None : goal.returns-in-None
returns-in-None c = disc_none_ok c.args.size c.args.standing.now.side _ c.args.found.now _ c.args.text.now _ _ c.in-None.is c.in_ok-push_front.ensures c.extend.ensures.ok

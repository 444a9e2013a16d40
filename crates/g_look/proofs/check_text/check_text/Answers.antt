use Rattle.std.specs.Prelude.{is_some}
use Rattle.g_shelf.specs.CompletedDumps.{all_dumps}
use Rattle.g_store_meaning.specs.Meaning.{told_reels}
use Rattle.g_look.specs.Standing.{found_in}
use Rattle.g_look.specs.Text.{disc_lines, rack_lines, verdict_line}
use Rattle.g_look.proofs.ShownLemmas.{all_shown}
use Rattle.g_look.proofs.check_text.check_text.Goals as goal

pub returns : goal.returns
returns g c = λ shelf seen.
    all_shown (disc_lines c.args.size c.args.standing.now.side (all_dumps shelf (told_reels (g.T.Tapes.rack c.args.tapes.now))) (found_in c.args.standing.now.dirs))
    (rack_lines shelf (told_reels (g.T.Tapes.rack c.args.tapes.now))) (verdict_line (is_some c.args.standing.now.dirs) c.args.verdict.now.broken c.args.verdict.now.missing) _ _ _ _
    (rw c.in_ok-text.ensures at (c.in_ok-push_disc.ensures (all_dumps shelf (told_reels (g.T.Tapes.rack c.args.tapes.now))) seen.known)) (c.in_ok-push_rack.ensures shelf seen)
    (rw c.is_some.ensures at c.in_ok-push_verdict.ensures) c.in_ok-push.ensures.ok

use Rattle.g_look.proofs.ShownLemmas.{reel_shown_at}
use Rattle.g_look.proofs.rack_text.push_reel.Goals as goal

pub returns : goal.returns
returns g c = reel_shown_at _ _ _ _ _ _ _ _ _ _ _ c.capacity_of-capacity.ensures c.length_of-len.ensures c.count_on-count.ensures.exact c.end_upto-end.ensures c.in_ok-push_tape.ensures c.push_dumps.ensures

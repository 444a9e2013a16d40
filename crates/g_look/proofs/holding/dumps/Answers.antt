use Rattle.g_look.proofs.CheckedLemmas.{dumps_text}
use Rattle.g_look.proofs.holding.dumps.Goals as goal

pub returns-in-Ok-push_rack-clause-text : goal.returns-in-Ok-push_rack-clause-text
returns-in-Ok-push_rack-clause-text g c =
    dumps_text _ _ _ _ _ _ c.in-Ok.ensures.tapes.only.reels c.as_slice.ensures.value c.new-text.ensures c.in-Ok.ensures.seen c.in-Ok-push_rack.ensures

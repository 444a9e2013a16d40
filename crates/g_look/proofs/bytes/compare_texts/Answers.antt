use Rattle.g_look.proofs.CompareLemmas.{agree_at, differ_at}
use Rattle.g_look.proofs.LoopLemmas.{if_none, if_some}
use Rattle.g_look.proofs.ReadLemmas.{read_at_then, then_read_at}
use Rattle.g_look.proofs.bytes.compare_texts.Goals as goal

pub returns-clause-some : goal.returns-clause-some
returns-clause-some g c =
    if_some _ _ _ (λ p differ. differ_at _ _ _ _ _ _ _ _ c.in-Ok.ensures.tapes.only.reels c.in-Ok.ensures.text c.in-Ok-place_text.ensures.text p differ) c.differing.ensures.some

pub returns-clause-none : goal.returns-clause-none
returns-clause-none g c = if_none _ _ _ (agree_at _ _ _ _ _ _ _ _ c.in-Ok.ensures.tapes.only.reels c.in-Ok.ensures.text c.in-Ok-place_text.ensures.text) c.differing.ensures.none

pub returns-clause-first : goal.returns-clause-first
returns-clause-first g c = read_at_then _ _ _ _ _ c.in-Ok.ensures.read c.in-Ok-place_text.ensures.tapes.only

pub returns-clause-second : goal.returns-clause-second
returns-clause-second g c = then_read_at _ _ _ _ _ c.in-Ok.ensures.tapes.only c.in-Ok-place_text.ensures.read

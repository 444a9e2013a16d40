use Rattle.std.proofs.Common.{List, ◌∙◌, ap, subst}
use Rattle.g_known.specs.declared.lists.NotedReel.{NotedReel}
use Rattle.g_known.specs.ReelNotes.{HasNone, IsPlaceIn}
use Rattle.g_known.proofs.KnownLemmas.{forgotten_at, forgotten_nowhere}
use Rattle.g_known.proofs.lists.forget.Goals as goal

pub returns-in-Some : goal.returns-in-Some
returns-in-Some c =
    let place = subst (λ (ls : List NotedReel). IsPlaceIn c.args.serial ls c.in-Some.place) c.as_slice.ensures.value c.in-Some.ensures in
    forgotten_at _ _ _ _ place (ap (λ (l : NotedReel). l.serial) c.index_mut.ensures.value ∙ place.named _) c.clear.ensures.items

pub returns-in-None : goal.returns-in-None
returns-in-None c = forgotten_nowhere _ _ (subst (λ (ls : List NotedReel). HasNone c.args.serial ls) c.as_slice.ensures.value c.in-None.ensures)

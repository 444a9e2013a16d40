use Rattle.std.proofs.Common.{List, subst}
use Rattle.g_known.specs.declared.lists.NotedReel.{NotedReel}
use Rattle.g_known.specs.ReelNotes.{HasNone, IsPlaceIn}
use Rattle.g_known.proofs.KnownLemmas.{fills_at, known_at}
use Rattle.g_known.proofs.remembered.Remembered.fill.Goals as goal

pub read_on-requires : goal.read_on-requires
read_on-requires g c =
    let place = subst (λ (ls : List NotedReel). IsPlaceIn c.args.serial ls c.in-Some.place) c.as_slice.ensures.value c.in-Some.ensures in
    record { known = known_at _ _ _ _ _ place c.index_mut.ensures.value c.requires.known }

pub returns-in-Some : goal.returns-in-Some
returns-in-Some g c =
    let place = subst (λ (ls : List NotedReel). IsPlaceIn c.args.serial ls c.in-Some.place) c.as_slice.ensures.value c.in-Some.ensures in
    fills_at _ _ _ _ _ _ _ _ place c.index_mut.ensures.value c.requires.known c.read_on.ensures.reads c.read_on.ensures.serial c.read_on.ensures.more c.read_on.ensures.known c.read_on.ensures.noted

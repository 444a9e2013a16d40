-- The reel that was found is durable, unless it is one of those that can't be.
use Rattle.std.proofs.Common.{List, refl, subst}
use Rattle.g_tape.specs.Reel.{Reel}
use Rattle.g_tape.specs.Place.{IsPlaceOf}
use Rattle.g_tape.specs.Memory.{memory_of}
use Rattle.g_tape.proofs.MemoryLemmas.{among, not-among, secures_badly, secures_done}
use Rattle.g_tape.proofs.memory.MemoryTapesTapes.secure.Goals as goal

pub returns-then-contains : goal.returns-then-contains
returns-then-contains c =
    let place = subst (λ (rs : List Reel). IsPlaceOf c.args.serial rs c.in-Some._place) c.deref.ensures.value c.in-Some.ensures in
    secures_badly c.args.serial c.in-Some._place (memory_of c.args.self.now) c.raised-self.result place (among _ _ _ c.deref-2.ensures.value c.if-contains.ensures.cases) c.raised-self.ensures refl

pub returns : goal.returns
returns c =
    let place = subst (λ (rs : List Reel). IsPlaceOf c.args.serial rs c.in-Some._place) c.deref.ensures.value c.in-Some.ensures in
    secures_done c.args.serial c.in-Some._place (memory_of c.args.self.now) place (not-among _ _ _ c.deref-2.ensures.value c.if-contains.ensures.cases) refl

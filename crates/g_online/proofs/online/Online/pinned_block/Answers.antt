use Rattle.std.proofs.Common.{◌≡◌, ◌∙◌, List, Result, Some, ap, slice_get, subst, sym}
use Rattle.std.specs.Option.{ForSome}
use Rattle.std.specs.Prelude.{OnOk}
use Rattle.g_disc_contents.specs.Facts.{OnlineFacts, Pin}
use Rattle.g_online.specs.declared.fault.OnlineFault.{OnlineFault}
use Rattle.g_online.proofs.PinBlockLemmas.{block_read, place_no, place_within}
use Rattle.g_online.proofs.TieLemmas.{kept_still, tied}
use Rattle.g_online.proofs.online.Online.pinned_block.Goals as goal
use Rattle.g_online.proofs.online.Online.pinned_block.Goals.{in-Ok, in-Err}

pub unreachable-requires : goal.unreachable-requires
unreachable-requires g c =
    let it = c.requires.there in
    place_no (g.D.Disc.state c.self.inside.disc) _ c.args.self.now c.self.view_is c.args.i c.args.part c.pinned_versions.result.now c.pinned_versions.ensures
    c.self.invariant (ap (λ (o : OnlineFacts). o.live) c.self.view_is ∙ c.requires.live)
    it.0 it.2 it.1 it.3 it.4 c.in_default.ensures

pub read-requires : goal.read-requires
read-requires g c =
    let it = c.requires.there in
    place_within (g.D.Disc.state c.self.inside.disc) _ c.args.self.now c.self.view_is c.args.i c.args.part c.pinned_versions.result.now
    c.pinned_versions.ensures c.self.invariant (ap (λ (o : OnlineFacts). o.live) c.self.view_is ∙ c.requires.live)
    it.0 it.2 it.1 it.3 it.4 c.in-Some.place c.in-Some.ensures

pub returns-clause-block : goal.returns-clause-block
returns-clause-block g c =
    let Reads : Type 0 = (ps : List Pin) (pin : Pin) → c.args.self.now.pins ≡ Some ps → slice_get ps c.args.i ≡ Some pin → ForSome pin.blocks (λ blocks.
    slice_get blocks c.args.part ≡ Some c.read.new.into) in
    elim c.match-read.branch as (λ _. OnOk c.match-read.result Reads) [
      | in-Ok w ↦ subst (λ (r : Result (Unit {0}) OnlineFault). OnOk r Reads) (sym w.result-is)
          (λ ps pin are there.
          block_read (g.D.Disc.state c.self.inside.disc) _ c.args.self.now c.self.view_is c.args.i c.args.part c.pinned_versions.result.now
          c.pinned_versions.ensures c.self.invariant c.in-Some.place c.read.new.into c.in-Some.ensures w.in-Ok.ensures.block ps pin are there)
      | in-Err w ↦ subst (λ (r : Result (Unit {0}) OnlineFault). OnOk r Reads) (sym w.result-is) tt
    ]

pub returns-clause-tied : goal.returns-clause-tied
returns-clause-tied g c =
    tied (g.D.Disc.state c.read.new.self) _
    (kept_still (g.D.Disc.state c.self.inside.disc) (g.D.Disc.state c.read.new.self) _ c.read.ensures.held c.read.ensures.size c.read.ensures.dropped c.self.invariant)

use Rattle.std.proofs.Common.{◌≡◌, ◌∙◌, Result, ap, subst, sym, refl}
use Rattle.std.specs.Option.{ForSome}
use Rattle.std.specs.Prelude.{Contains, OnOk}
use Rattle.g_disc_contents.specs.Contents.{File}
use Rattle.g_disc_contents.specs.Facts.{OnlineFacts}
use Rattle.g_disc_contents.specs.Parts.{IsPart}
use Rattle.g_online.specs.declared.fault.OnlineFault.{OnlineFault}
use Rattle.g_online.proofs.BytesLemmas.{part_no, part_read, part_within}
use Rattle.g_online.proofs.TieLemmas.{kept_still, tied}
use Rattle.g_online.proofs.online.Online.file_block.Goals as goal
use Rattle.g_online.proofs.online.Online.file_block.Goals.{in-Ok, in-Err}

pub unreachable-requires : goal.unreachable-requires
unreachable-requires g c =
    let it = c.requires.there in
    part_no (g.D.Disc.state c.self.inside.disc) _ c.args.self.now c.self.view_is c.self.invariant (ap (λ (o : OnlineFacts). o.live) c.self.view_is ∙
    c.requires.live) c.args.number
    c.self.inside.online refl c.args.part it.0 it.1 it.2 it.3 it.4 c.in_default.ensures

pub read-requires : goal.read-requires
read-requires g c =
    let it = c.requires.there in
    part_within (g.D.Disc.state c.self.inside.disc) _ c.args.self.now c.self.view_is c.self.invariant (ap (λ (o : OnlineFacts). o.live) c.self.view_is ∙
    c.requires.live) c.args.number
    c.self.inside.online refl c.args.part it.0 it.1 it.2 it.3 it.4 c.in-Some.place c.in-Some.ensures

pub returns-clause-block : goal.returns-clause-block
returns-clause-block g c =
    let Reads : Type 0 = (f : File) → Contains c.args.self.now.contents.files f → f.rec.number ≡ c.args.number → ForSome f.bytes (λ text. IsPart text
    c.args.part c.read.new.into) in
    elim c.match-read.branch as (λ _. OnOk c.match-read.result Reads) [
      | in-Ok w ↦ subst (λ (r : Result (Unit {0}) OnlineFault). OnOk r Reads) (sym w.result-is)
          (part_read (g.D.Disc.state c.self.inside.disc) _ c.args.self.now c.self.view_is c.self.invariant (ap (λ (o : OnlineFacts). o.live) c.self.view_is ∙
          c.requires.live) c.args.number
          c.self.inside.online refl c.args.part c.in-Some.place c.read.new.into c.in-Some.ensures w.in-Ok.ensures.block)
      | in-Err w ↦ subst (λ (r : Result (Unit {0}) OnlineFault). OnOk r Reads) (sym w.result-is) tt
    ]

pub returns-clause-tied : goal.returns-clause-tied
returns-clause-tied g c =
    tied (g.D.Disc.state c.read.new.self) _
    (kept_still (g.D.Disc.state c.self.inside.disc) (g.D.Disc.state c.read.new.self) _ c.read.ensures.held c.read.ensures.size c.read.ensures.dropped c.self.invariant)

use Rattle.std.proofs.Common.{◌≡◌, ℕ, List, Result, ◌∙◌, ap, arith, length, subst, sym, refl}
use Rattle.std.specs.Option.{ForSome}
use Rattle.std.specs.Prelude.{Contains, IfOk}
use Rattle.g_disc_contents.specs.Contents.{File}
use Rattle.g_disc_contents.specs.Facts.{IsTied, OnlineFacts}
use Rattle.g_online.specs.declared.fault.OnlineFault.{OnlineFault}
use Rattle.g_online.proofs.BytesLemmas.{copy_is, empty_is, len_is, no_copy_no, text_is}
use Rattle.g_online.proofs.TieLemmas.{kept_still, tied}
use Rattle.g_online.proofs.online.Online.bytes.Goals as goal
use Rattle.g_online.proofs.online.Online.bytes.Goals.{in-Ok, in-Err-ReadFault, in-Err}

pub unreachable-requires : goal.unreachable-requires
unreachable-requires g c =
    let on = c.requires.online in
    no_copy_no (g.D.Disc.state c.self.inside.disc) _ c.args.self.now c.self.view_is c.self.invariant (ap (λ (o : OnlineFacts). o.live) c.self.view_is ∙
    c.requires.live) c.args.number c.self.inside.online refl on.0 on.1 on.2 on.3 c.in_default.ensures

pub returns-then-copy-eq0-clause-text : goal.returns-then-copy-eq0-clause-text
returns-then-copy-eq0-clause-text g c = λ f there at.
    subst (λ (text : List ℕ). ForSome f.bytes (λ bytes. text ≡ bytes) × (length text ≡ f.rec.len)) (sym (c.from.ensures ∙ c.new.ensures.items))
    (empty_is (g.D.Disc.state c.self.inside.disc) _ c.args.self.now c.self.view_is c.self.invariant (ap (λ (o : OnlineFacts). o.live) c.self.view_is ∙
    c.requires.live) c.args.number c.self.inside.online refl c.in-Some.copy.now c.in-Some.ensures c.if-copy-eq0.true f there at)

pub returns-then-copy-eq0-clause-tied : goal.returns-then-copy-eq0-clause-tied
returns-then-copy-eq0-clause-tied g c = subst IsTied c.self.view_is (tied (g.D.Disc.state c.self.inside.disc) _ c.self.invariant)

pub read_copy-requires-clause-copy : goal.read_copy-requires-clause-copy
read_copy-requires-clause-copy g c =
    let on = c.requires.online in
    copy_is (g.D.Disc.state c.self.inside.disc) _ c.args.self.now c.self.view_is c.self.invariant (ap (λ (o : OnlineFacts). o.live) c.self.view_is ∙
    c.requires.live) c.args.number c.self.inside.online refl c.in-Some.copy.now c.in-Some.ensures on.0 on.1 on.2

pub returns-clause-text : goal.returns-clause-text
returns-clause-text g c =
    let Reads : List ℕ → Type 0 = λ text.
    (f : File) → Contains c.args.self.now.contents.files f → f.rec.number ≡ c.args.number → ForSome f.bytes (λ bytes. text ≡ bytes) × (length text ≡
    f.rec.len) in
    elim c.match-read_copy.branch as (λ _. IfOk c.match-read_copy.result Reads) [
      | in-Ok w ↦ subst (λ (r : Result (List ℕ) OnlineFault). IfOk r Reads) (sym w.result-is)
          (text_is (g.D.Disc.state c.self.inside.disc) _ c.args.self.now c.self.view_is c.self.invariant (ap (λ (o : OnlineFacts). o.live) c.self.view_is ∙
          c.requires.live) c.args.number c.self.inside.online refl
          c.in-Some.copy.now c.in-Some.ensures w.in-Ok.text w.in-Ok.ensures.text w.in-Ok.ensures.len)
      | in-Err-ReadFault w ↦ subst (λ (r : Result (List ℕ) OnlineFault). IfOk r Reads) (sym w.result-is) tt
      | in-Err w ↦ subst (λ (r : Result (List ℕ) OnlineFault). IfOk r Reads) (sym w.result-is) tt
    ]

pub returns-clause-filled : goal.returns-clause-filled
returns-clause-filled g c = λ fault f there at.
    let len = len_is (g.D.Disc.state c.self.inside.disc) _ c.args.self.now c.self.view_is c.self.invariant (ap (λ (o : OnlineFacts). o.live) c.self.view_is ∙
    c.requires.live) c.args.number c.self.inside.online refl c.in-Some.copy.now c.in-Some.ensures f there at in
    let filled = c.if-copy-eq0.false in
    omega (arith, len, filled)

pub returns-clause-tied : goal.returns-clause-tied
returns-clause-tied g c =
    tied (g.D.Disc.state c.read_copy.new.disc) _
    (kept_still (g.D.Disc.state c.self.inside.disc) (g.D.Disc.state c.read_copy.new.disc) _ c.read_copy.ensures.counts.held c.read_copy.ensures.counts.size
    c.read_copy.ensures.counts.dropped c.self.invariant)

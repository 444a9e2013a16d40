use Rattle.std.proofs.Common.{◌≡◌, ◌≢◌, ℕ, ◌<◌, List, length, subst, sym, ap, ◌∙◌, arith}
use Rattle.std.specs.Prelude.{All, AllPairs, Contains, Err, Ok}
use Rattle.g_base.specs.Fields.{padded}
use Rattle.g_base.specs.ToldContent.{Changes}
use Rattle.g_copy.specs.declared.fault.CopyFault.{CopyFault}
use Rattle.g_copy.specs.declared.fault.CopyFault.TheVariants.{Stopped}
use Rattle.g_copy.specs.Copy.{Holds, OnlyAt}
use Rattle.g_disc.specs.Durable.{DirtiesOnly}
use Rattle.g_copy.proofs.Writing.{dirties_all, dirties_torn, written_none, written_more, written_torn, written_all}
use Rattle.g_copy.proofs.write.write_copy.Goals as goal

pub loop-i-init : goal.loop-i-init
loop-i-init g c = written_none c.as_slice-places.result.now c.args.bytes.now (g.D.Disc.state c.args.disc.now)

pub returns-in-Err-clause-stopped : goal.returns-in-Err-clause-stopped
returns-in-Err-clause-stopped g c =
    subst (λ (ps : List ℕ). Changes (OnlyAt ps) (g.D.Disc.state c.args.disc.now).held (g.D.Disc.state c.write.new.self).held) c.as_slice-places.ensures.value
    (written_torn c.loop-i.i c.as_slice-places.result.now c.args.bytes.now _ _ _ _ _ (omega arith) c.loop-i.invariant c.in-Err.ensures)

pub loop-i-preserved : goal.loop-i-preserved
loop-i-preserved g c =
    let is = c.as_slice-places.ensures.value in
    let long = ap length is in
    let copy = c.requires.copy in
    let count = copy.count in
    let len = c.requires.len in
    written_more c.loop-i.i c.as_slice-places.result.now c.args.bytes.now _ _ _ _ (omega arith) (omega arith) (subst (AllPairs (λ j k. j ≢ k)) (sym is) copy.apart)
    (λ a told.
    let sized = c.size-size.ensures.blocks a told in
    let size = c.size-size.ensures.size in
    subst (All (λ k. k < length a)) (sym is) (λ i d below. let at = copy.area i d below in omega arith))
    c.loop-i.invariant (rw (c.block.ensures ∙ ap (padded 512) c.put_part.ensures) at c.in-Ok.ensures)

pub returns-clause-ok : goal.returns-clause-ok
returns-clause-ok g c =
    let is = c.as_slice-places.ensures.value in
    let long = ap length is in
    let count = c.requires.copy.count in
    let len = c.requires.len in
    let all : length c.as_slice-places.result.now ≡ c.loop-i.i = omega arith in
    subst (λ (ps : List ℕ). Changes (Holds ps c.args.bytes.now) (g.D.Disc.state c.args.disc.now).held (g.D.Disc.state c.loop-i.disc).held) is
    (written_all c.as_slice-places.result.now c.args.bytes.now (g.D.Disc.state c.args.disc.now) (g.D.Disc.state c.loop-i.disc) (omega arith) (rw all c.loop-i.invariant))

pub returns-in-Err-clause-dirties : goal.returns-in-Err-clause-dirties
returns-in-Err-clause-dirties g c =
    subst (λ (ps : List ℕ). DirtiesOnly {T = Unit {0}} {E = CopyFault} (Contains ps) (g.D.Disc.state c.args.disc.now) (g.D.Disc.state c.write.new.self) (Err Stopped)) c.as_slice-places.ensures.value
    (dirties_torn c.loop-i.i c.as_slice-places.result.now c.args.bytes.now _ _ _ _ _ Stopped (omega arith) c.loop-i.invariant c.in-Err.ensures)

pub returns-clause-dirties : goal.returns-clause-dirties
returns-clause-dirties g c =
    let is = c.as_slice-places.ensures.value in
    let long = ap length is in
    let all : length c.as_slice-places.result.now ≡ c.loop-i.i = omega arith in
    subst (λ (ps : List ℕ). DirtiesOnly {T = Unit {0}} {E = CopyFault} (Contains ps) (g.D.Disc.state c.args.disc.now) (g.D.Disc.state c.loop-i.disc) (Ok tt)) is
    (dirties_all c.as_slice-places.result.now c.args.bytes.now (g.D.Disc.state c.args.disc.now) (g.D.Disc.state c.loop-i.disc) tt (rw all c.loop-i.invariant))

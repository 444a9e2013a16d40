use Rattle.std.proofs.Common.{◌+◌, ◌∙◌, ap, arith, refl, subst}
use Rattle.g_base.specs.Fields.{padded}
use Rattle.g_slots.specs.declared.side.Side.{Side}
use Rattle.g_slots.specs.Layout.{other}
use Rattle.g_dirs.specs.Marks.{IsNext}
use Rattle.g_dirs.specs.Pages.{marks_of}
use Rattle.g_dirs.proofs.Surviving.{dirties_none, dirties_then, dirties_until}
use Rattle.g_dirs.proofs.WriteLemmas.{keeps_then, remembers_now, wrote_counts, wrote_next, wrote_to_first, wrote_whole}
use Rattle.g_dirs.proofs.write.fill.Goals as goal

pub loop-k-init : goal.loop-k-init
loop-k-init g c = record {
  within = c.next_marked-k.ensures.within;
  wrote = wrote_to_first c.args.slots.now c.args.listing.now c.next_marked-k.result (g.D.Disc.state c.args.disc.now) c.args.last.now c.requires.remembers c.requires.covers
      (subst (λ (s : Side). IsNext (marks_of s c.args.last.now) 0 c.next_marked-k.result) (c.other-side.ensures ∙ ap other c.side.ensures) c.next_marked-k.ensures);
  marks = record { a = refl; b = refl };
  dirties = dirties_none c.args.slots.now (g.D.Disc.state c.args.disc.now) c.args.last.now tt;
}

pub write_page-requires-clause-remembers : goal.write_page-requires-clause-remembers
write_page-requires-clause-remembers g c =
    remembers_now c.args.slots.now c.args.listing.now c.loop-k.k (g.D.Disc.state c.args.disc.now) (g.D.Disc.state c.loop-k.disc)
    c.args.last.now c.loop-k.last c.loop-k.invariant.wrote c.requires.remembers

pub loop-k-preserved : goal.loop-k-preserved
loop-k-preserved g c = record {
  within = c.next_marked-k-in-loop-k.ensures.within;
  wrote = wrote_next c.args.slots.now c.args.listing.now c.loop-k.k c.next_marked-k-in-loop-k.result (g.D.Disc.state c.args.disc.now) (g.D.Disc.state c.loop-k.disc)
      (g.D.Disc.state c.write_page.new.disc) c.args.last.now c.loop-k.last c.write_page.new.last (padded 512 c.put_block.new.writer) c.in-Ok.field-0 c.loop-k-test.true
      c.requires.size
      (λ a told. (c.size-size.ensures.blocks a told).0 ∙ c.size-size.ensures.size)
      c.requires.remembers c.requires.covers c.loop-k.invariant.wrote c.loop-k.invariant.marks c.put_block.ensures
      c.in-Ok.ensures.ok c.in-Ok.ensures.counts c.in-Ok.ensures.pages
      (subst (λ (s : Side). IsNext (marks_of s c.write_page.new.last) (c.loop-k.k + 1) c.next_marked-k-in-loop-k.result) (c.other-side.ensures ∙ ap other c.side.ensures)
      c.next_marked-k-in-loop-k.ensures);
  marks = keeps_then c.loop-k.invariant.marks c.in-Ok.ensures.pages.marks;
  dirties = dirties_then c.args.slots.now (g.D.Disc.state c.args.disc.now) (g.D.Disc.state c.loop-k.disc) (g.D.Disc.state c.write_page.new.disc) c.args.last.now c.loop-k.last
      c.write_page.new.last tt c.in-Ok.field-0 tt c.loop-k.invariant.dirties c.in-Ok.ensures.dirties;
}

pub returns-in-Err-clause-dirties : goal.returns-in-Err-clause-dirties
returns-in-Err-clause-dirties g c =
    dirties_until c.args.slots.now (g.D.Disc.state c.args.disc.now) (g.D.Disc.state c.loop-k.disc) (g.D.Disc.state c.write_page.new.disc) c.args.last.now c.loop-k.last
    c.write_page.new.last tt c.in-Err.fault c.loop-k.invariant.dirties c.in-Err.ensures.dirties

pub returns-clause-ok : goal.returns-clause-ok
returns-clause-ok g c =
    wrote_whole c.args.slots.now c.args.listing.now c.loop-k.k (g.D.Disc.state c.args.disc.now) (g.D.Disc.state c.loop-k.disc) c.args.last.now c.loop-k.last
    c.loop-k.invariant.within (omega arith) c.loop-k.invariant.wrote

pub returns-clause-counts : goal.returns-clause-counts
returns-clause-counts g c =
    wrote_counts c.args.slots.now c.args.listing.now 1088 (g.D.Disc.state c.args.disc.now) (g.D.Disc.state c.loop-k.disc) c.args.last.now c.loop-k.last _
    (wrote_whole c.args.slots.now c.args.listing.now c.loop-k.k (g.D.Disc.state c.args.disc.now) (g.D.Disc.state c.loop-k.disc) c.args.last.now c.loop-k.last
    c.loop-k.invariant.within (omega arith) c.loop-k.invariant.wrote)

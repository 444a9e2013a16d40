use Rattle.std.proofs.Common.{◌≡◌, true, ◌∙◌, ap, subst}
use Rattle.g_base.specs.Fields.{padded}
use Rattle.g_slots.specs.Layout.{other}
use Rattle.g_slots.specs.declared.side.Side.{Side}
use Rattle.g_dirs.specs.Pages.{RemembersPage, is_remembered, pages_of}
use Rattle.g_dirs.proofs.Surviving.{dirties_none, dirties_page, torn_page}
use Rattle.g_dirs.proofs.WriteLemmas.{prepared_already, remembered_already}
use Rattle.g_dirs.proofs.write.write_page.Goals as goal

pub returns-then-is_remembered-clause-ok : goal.returns-then-is_remembered-clause-ok
returns-then-is_remembered-clause-ok g c =
    let is : is_remembered (pages_of (other c.args.slots.now) c.args.last.now) c.args.k (padded 512 c.args.writer.now) ≡ true = cc in
    prepared_already c.args.slots.now c.args.k (padded 512 c.args.writer.now) c.args.last.now (g.D.Disc.state c.args.disc.now).held is c.requires.remembers

pub returns-then-is_remembered-clause-pages : goal.returns-then-is_remembered-clause-pages
returns-then-is_remembered-clause-pages g c =
    let is : is_remembered (pages_of (other c.args.slots.now) c.args.last.now) c.args.k (padded 512 c.args.writer.now) ≡ true = cc in
    remembered_already (other c.args.slots.now) c.args.k (padded 512 c.args.writer.now) c.args.last.now is

pub returns-then-is_remembered-clause-dirties : goal.returns-then-is_remembered-clause-dirties
returns-then-is_remembered-clause-dirties g c = dirties_none c.args.slots.now (g.D.Disc.state c.args.disc.now) c.args.last.now tt

pub returns-in-Ok-clause-dirties : goal.returns-in-Ok-clause-dirties
returns-in-Ok-clause-dirties g c =
    dirties_page c.args.slots.now c.args.k (padded 512 c.args.writer.now) c.args.last.now c.remember.new.self (g.D.Disc.state c.args.disc.now) (g.D.Disc.state c.prepare.new.disc)
    c.in-Ok.field-0 tt c.requires.place
    (subst (λ (s : Side). RemembersPage s c.args.k (padded 512 c.args.writer.now) c.args.last.now c.remember.new.self) (c.other-side.ensures ∙ ap other c.side.ensures) c.remember.ensures)
    c.in-Ok.ensures.dirties

pub returns-in-Err-clause-dirties : goal.returns-in-Err-clause-dirties
returns-in-Err-clause-dirties g c =
    torn_page c.args.slots.now c.args.k c.args.last.now c.args.last.now (g.D.Disc.state c.args.disc.now) (g.D.Disc.state c.prepare.new.disc) c.in-Err.field-0 _ c.requires.place
    c.in-Err.ensures.dirties

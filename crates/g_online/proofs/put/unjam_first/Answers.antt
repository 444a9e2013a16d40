use Rattle.std.proofs.Common.{ℕ, ◌∙◌, List, ap, length, refl, sym}
use Rattle.std.proofs.lemmas.Bool.{eq-eqb, false≢true}
use Rattle.g_online.specs.Invariant.{head_after}
use Rattle.g_online.proofs.RecordLemmas.{keeps_marked, keeps_then}
use Rattle.g_online.proofs.UnjamLemmas.{takes_off, unjam_copies, unjam_marked}
use Rattle.g_online.proofs.put.unjam_first.Goals as goal

pub commit-requires-clause-copies : goal.commit-requires-clause-copies
commit-requires-clause-copies g c =
    unjam_copies c.args.numbers.now c.args.tree.now.files c.args.online.now c.forget_all.new.online c.forget_all.new.online c.requires.copies
    c.forget_all.ensures.copies refl

pub commit-requires-clause-marked : goal.commit-requires-clause-marked
commit-requires-clause-marked g c =
    unjam_marked c.args.numbers.now (g.D.Disc.state c.args.disc.now) c.args.slots.now c.args.pages.now c.changed.new.self c.forget_all.new.pages
    c.args.head.now c.kept_head.result (head_after c.args.pinned c.args.head.now) c.args.tree.now.users
    c.args.tree.now.files c.args.online.now c.forget_all.new.online c.forget_all.new.online c.requires.marked c.changed.ensures.remembers
    c.changed.ensures.covers c.forget_all.ensures.marks c.requires.records c.requires.rules
    c.kept_head.ensures c.forget_all.ensures.copies refl

pub returns-clause-none : goal.returns-clause-none
returns-clause-none g c = λ none.
    absurd (false≢true (sym c.if-is_empty.false ∙ c.is_empty.ensures ∙ eq-eqb (length c.args.numbers.now) 0 (ap (λ (ns : List ℕ). length ns) none)))

pub returns-clause-off : goal.returns-clause-off
returns-clause-off g c = λ some.
    takes_off c.args.numbers.now c.args.pinned c.args.tree.now.users c.args.tree.now.files (g.D.Disc.state c.args.disc.now) (g.D.Disc.state c.commit.new.disc)
    _ _ c.forget_all.new.pages c.forget_all.new.online c.commit.result
    refl c.kept_head.ensures c.forget_all.ensures.copies
    (keeps_then c.args.pages.now c.changed.new.self c.forget_all.new.pages (keeps_marked 0 c.args.pages.now c.changed.new.self c.changed.ensures.marks)
    c.forget_all.ensures.marks.pages)
    (unjam_marked c.args.numbers.now (g.D.Disc.state c.args.disc.now) c.args.slots.now c.args.pages.now c.changed.new.self c.forget_all.new.pages
    c.args.head.now c.kept_head.result (head_after c.args.pinned c.args.head.now) c.args.tree.now.users
    c.args.tree.now.files c.args.online.now c.forget_all.new.online c.forget_all.new.online c.requires.marked c.changed.ensures.remembers
    c.changed.ensures.covers c.forget_all.ensures.marks c.requires.records c.requires.rules
    c.kept_head.ensures c.forget_all.ensures.copies refl)
    c.commit.ensures.ok c.commit.ensures.stopped c.commit.ensures.counts c.commit.ensures.whole c.commit.ensures.lives c.commit.ensures.dies
    c.commit.ensures.only

use Rattle.std.proofs.Common.{◌∙◌, ap, subst, sym}
use Rattle.std.specs.Prelude.{Err, Result}
use Rattle.std.proofs.lemmas.Result.{err_from_is_err_and}
use Rattle.g_slots.specs.Layout.{other}
use Rattle.g_dirs.specs.declared.fault.DirsFault.{DirsFault}
use Rattle.g_dirs.specs.Durable.{CommitsDurably}
use Rattle.g_dirs.proofs.Surviving.{commits, commits_not, commits_or_not, remembered_flipped}
use Rattle.g_dirs.proofs.WriteLemmas.{committed, marks_left, marks_taken, on_err, others_kept, remembers_behind, remembers_unmarked, remembers_whole, stopped_at_gate, stopped_before_gate}
use Rattle.g_dirs.proofs.write.write_changed.Goals as goal

pub returns-clause-ok : goal.returns-clause-ok
returns-clause-ok g c =
    committed c.args.slots.now c.args.listing.now (g.D.Disc.state c.args.disc.now) (g.D.Disc.state c.fill.new.disc) (g.D.Disc.state c.flip.new.disc)
    c.args.last.now c.fill.new.last c.requires.records c.requires.rules
    (λ a told. (c.size-size.ensures.blocks a told).0 ∙ c.size-size.ensures.size)
    c.in_ok-fill.ensures.ok c.in_ok-flip.ensures.any
    (λ b told. c.in_ok-flip.ensures.gate b told ∙ c.in_ok-flip.ensures.side)

pub returns-clause-remembers : goal.returns-clause-remembers
returns-clause-remembers g c =
    remembers_unmarked _ _ _ _ c.clear.ensures
    (remembers_behind c.args.slots.now c.args.listing.now (g.D.Disc.state c.args.disc.now) (g.D.Disc.state c.fill.new.disc) (g.D.Disc.state c.flip.new.disc)
    c.args.last.now c.fill.new.last c.in_ok-fill.ensures.ok c.requires.remembers c.in_ok-flip.ensures.any)

pub returns-clause-all : goal.returns-clause-all
returns-clause-all g c =
    remembers_whole c.args.slots.now c.other-next.result c.flip.new.self c.args.listing.now c.args.last.now c.fill.new.last c.clear.new.self
    (c.other-next.ensures ∙ ap other c.side.ensures) c.in_ok-flip.ensures.side c.clear.ensures c.in_ok-fill.ensures.ok.pages

pub returns-clause-others : goal.returns-clause-others
returns-clause-others g c =
    others_kept c.args.slots.now c.other-next.result c.flip.new.self c.args.listing.now c.args.last.now c.fill.new.last c.clear.new.self
    (c.other-next.ensures ∙ ap other c.side.ensures) c.in_ok-flip.ensures.side c.clear.ensures c.in_ok-fill.ensures.ok.pages

pub returns-clause-marks : goal.returns-clause-marks
returns-clause-marks g c =
    marks_taken c.args.slots.now c.other-next.result c.flip.new.self c.args.listing.now c.args.last.now c.fill.new.last c.clear.new.self
    (c.other-next.ensures ∙ ap other c.side.ensures) c.in_ok-flip.ensures.side c.clear.ensures

pub returns-clause-other_marks : goal.returns-clause-other_marks
returns-clause-other_marks g c =
    marks_left c.args.slots.now c.other-next.result c.flip.new.self c.args.listing.now c.args.last.now c.fill.new.last c.clear.new.self
    (c.other-next.ensures ∙ ap other c.side.ensures) c.in_ok-flip.ensures.side c.clear.ensures c.in_ok-fill.ensures.marks

pub returns-in_err-fill-clause-stopped : goal.returns-in_err-fill-clause-stopped
returns-in_err-fill-clause-stopped g c =
    on_err c.from_residual.result
    (stopped_before_gate c.args.slots.now c.args.listing.now (g.D.Disc.state c.args.disc.now) (g.D.Disc.state c.fill.new.disc)
    (g.D.Disc.state c.fill.new.disc) c.args.last.now c.fill.new.last c.requires.gate c.in_err-fill.ensures.stopped)

pub returns-in_err-flip-clause-stopped : goal.returns-in_err-flip-clause-stopped
returns-in_err-flip-clause-stopped g c =
    on_err c.from_residual-in_err-flip.result
    (stopped_at_gate c.args.slots.now c.args.listing.now (g.D.Disc.state c.args.disc.now) (g.D.Disc.state c.fill.new.disc) (g.D.Disc.state c.flip.new.disc)
    c.args.last.now c.fill.new.last c.requires.records c.requires.rules
    (λ a told. (c.size-size.ensures.blocks a told).0 ∙ c.size-size.ensures.size)
    c.requires.gate c.in_ok-fill.ensures.ok c.in_err-flip.ensures.any)

pub returns-clause-survives : goal.returns-clause-survives
returns-clause-survives g c = λ ready copies.
    commits c.args.slots.now c.args.listing.now (g.D.Disc.state c.args.disc.now) (g.D.Disc.state c.fill.new.disc) c.args.last.now c.fill.new.last
    (λ a told. (c.size-size.ensures.blocks a told).0 ∙ c.size-size.ensures.size) c.requires.size c.requires.gate
    c.in_ok-fill.field-0 (g.D.Disc.state c.flip.new.disc) c.requires.records c.requires.rules c.in_ok-fill.ensures.ok c.in_ok-fill.ensures.dirties ready copies
    c.in_ok-flip.ensures.counts.size c.in_ok-flip.ensures.any c.in_ok-flip.ensures.durable
    tt c.flip.new.self c.in_ok-flip.ensures.side c.in_ok-flip.ensures.synced.0 c.in_ok-flip.ensures.synced.1

pub returns-clause-remembered : goal.returns-clause-remembered
returns-clause-remembered g c = λ ready.
    remembered_flipped c.other-next.result (g.D.Disc.state c.fill.new.disc) (g.D.Disc.state c.flip.new.disc) c.fill.new.last c.clear.new.self
    c.in_ok-flip.ensures.syncable c.clear.ensures (c.in_ok-fill.ensures.dirties.remembered ready)

pub returns-in_err-fill-clause-survives : goal.returns-in_err-fill-clause-survives
returns-in_err-fill-clause-survives g c = λ ready copies.
    let gave = err_from_is_err_and c.from_residual.result c.from_residual.ensures.1 in
    subst (λ (r : Result (Unit {0}) DirsFault). CommitsDurably c.args.listing.now c.args.slots.now (g.D.Disc.state c.args.disc.now) (g.D.Disc.state c.fill.new.disc) r) (sym (gave.1 ∙ ap (λ (e : DirsFault). let r : Result (Unit {0}) DirsFault = Err e in r) gave.2))
    (commits_not c.args.slots.now c.args.listing.now (g.D.Disc.state c.args.disc.now) (g.D.Disc.state c.fill.new.disc) c.args.last.now c.fill.new.last
    (λ a told. (c.size-size.ensures.blocks a told).0 ∙ c.size-size.ensures.size) c.requires.size c.requires.gate
    c.in_err-fill.field-0.0 c.in_err-fill.ensures.stopped c.in_err-fill.ensures.counts.size c.in_err-fill.ensures.dirties c.args.slots.now)

pub returns-in_err-flip-clause-survives : goal.returns-in_err-flip-clause-survives
returns-in_err-flip-clause-survives g c = λ ready copies.
    let gave = err_from_is_err_and c.from_residual-in_err-flip.result c.from_residual-in_err-flip.ensures.1 in
    subst (λ (r : Result (Unit {0}) DirsFault). CommitsDurably c.args.listing.now c.flip.new.self (g.D.Disc.state c.args.disc.now) (g.D.Disc.state c.flip.new.disc) r) (sym gave.1)
    (commits_or_not c.args.slots.now c.args.listing.now (g.D.Disc.state c.args.disc.now) (g.D.Disc.state c.fill.new.disc) c.args.last.now c.fill.new.last
    (λ a told. (c.size-size.ensures.blocks a told).0 ∙ c.size-size.ensures.size) c.requires.size c.requires.gate
    c.in_ok-fill.field-0 (g.D.Disc.state c.flip.new.disc) c.requires.records c.requires.rules c.in_ok-fill.ensures.ok c.in_ok-fill.ensures.dirties ready copies
    c.in_err-flip.ensures.counts.size c.in_err-flip.ensures.any c.in_err-flip.ensures.durable
    gave.0 c.flip.new.self c.in_err-flip.ensures.gate_failed)

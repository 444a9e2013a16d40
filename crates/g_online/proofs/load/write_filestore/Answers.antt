use Rattle.std.proofs.Common.{◌≡◌, ◌∙◌, ℕ, [], ap, refl, subst, sym}
use Rattle.g_blocks.specs.Pool.{IsFresh}
use Rattle.g_disc.proofs.CallLemmas.{Causes-ReadsByCause, Causes-WritesOnly_err, Causes-then, ReadsByCause-ReadsOnly_err, ReadsByCause-ReadsOnly_ok}
use Rattle.g_online.specs.declared.fault.OnlineFault.{OnlineFault}
use Rattle.g_online.specs.declared.fault.OnlineFault.TheVariants.{ReadFault, Stopped}
use Rattle.g_online.specs.Beginning.{empty_copies}
use Rattle.g_online.proofs.BegunLemmas.{first_agreed, first_copies, first_marked, first_stopped, first_survives, has_made, numbers_below}
use Rattle.g_online.proofs.TwoLemmas.{stopped_is}
use Rattle.g_online.proofs.load.write_filestore.Goals as goal

pub of-requires-clause-rising : goal.of-requires-clause-rising
of-requires-clause-rising g c =
    (first_copies (g.D.Disc.state c.args.disc) c.args.head c.args.tree.users c.args.tree.files c.requires.high c.requires.rules c.in-Ok-empty_copies.copies.items
    (c.in-Ok-empty_copies.ensures ∙ ap empty_copies c.files.ensures.value)).rising

pub of-requires-clause-below : goal.of-requires-clause-below
of-requires-clause-below g c =
    numbers_below c.args.tree.files c.in-Ok-empty_copies.copies.items c.files.ensures.records.numbers
    (first_copies (g.D.Disc.state c.args.disc) c.args.head c.args.tree.users c.args.tree.files c.requires.high c.requires.rules c.in-Ok-empty_copies.copies.items
    (c.in-Ok-empty_copies.ensures ∙ ap empty_copies c.files.ensures.value))

pub commit-requires-clause-copies : goal.commit-requires-clause-copies
commit-requires-clause-copies g c =
    first_copies (g.D.Disc.state c.args.disc) c.args.head c.args.tree.users c.args.tree.files c.requires.high c.requires.rules c.in-Ok-of.online
    (c.in-Ok-of.ensures ∙ c.in-Ok-empty_copies.ensures ∙ ap empty_copies c.files.ensures.value)

pub commit-requires-clause-marked : goal.commit-requires-clause-marked
commit-requires-clause-marked g c =
    first_marked (g.D.Disc.state c.args.disc) c.args.head c.args.tree.users c.args.tree.files c.requires.high c.requires.rules (g.D.Disc.state
    c.find.new.disc) c.in-Ok-find.slots c.in-Ok.made.0 c.in-Ok-of.online
    c.requires.low c.in-Ok-find.ensures.counts.size (λ blocks told. c.in-Ok-find.ensures.ok blocks (sym c.in-Ok-find.ensures.counts.held ∙ told))
    c.in-Ok.ensures.pages
    (c.in-Ok-of.ensures ∙ c.in-Ok-empty_copies.ensures ∙ ap empty_copies c.files.ensures.value)

pub begin-requires-clause-agreed : goal.begin-requires-clause-agreed
begin-requires-clause-agreed g c =
    let size : c.size.result ≡ (g.D.Disc.state c.commit.new.disc).size = c.size.ensures.size ∙ sym c.in-Ok-find.ensures.counts.size ∙ sym
    c.in-Ok-commit.ensures.counts.size in
    first_agreed (g.D.Disc.state c.args.disc) c.args.head c.args.tree.users c.args.tree.files c.requires.high c.requires.rules (g.D.Disc.state
    c.find.new.disc) (g.D.Disc.state c.commit.new.disc) c.in-Ok-find.slots c.commit.new.slots
    c.in-Ok.made.0 c.commit.new.pages c.in-Ok.made.1 c.in-Ok-of.online (c.in-Ok-of.ensures ∙ c.in-Ok-empty_copies.ensures ∙ ap empty_copies c.files.ensures.value)
    c.in-Ok.ensures.pages c.in-Ok-commit.ensures.ok
    (subst (λ (n : ℕ). IsFresh n [] c.in-Ok.made.1) size c.in-Ok.ensures.pool)

pub returns-in-Ok-commit-clause-ok : goal.returns-in-Ok-commit-clause-ok
returns-in-Ok-commit-clause-ok g c =
    has_made (g.D.Disc.state c.args.disc) (g.D.Disc.state c.find.new.disc) (g.D.Disc.state c.commit.new.disc) c.in-Ok-find.slots c.commit.new.slots
    c.in-Ok.made.0 c.commit.new.pages c.in-Ok.made.1
    c.args.head c.args.tree.users c.args.tree.files c.in-Ok-of.online c.begin.result c.requires.high c.requires.rules
    (c.in-Ok-of.ensures ∙ c.in-Ok-empty_copies.ensures ∙ ap empty_copies c.files.ensures.value) c.in-Ok.ensures.pages
    (λ blocks told. c.in-Ok-find.ensures.ok blocks (sym c.in-Ok-find.ensures.counts.held ∙ told)) c.in-Ok-find.ensures.counts c.in-Ok-commit.ensures.counts
    c.in-Ok-commit.ensures.ok
    c.begin.ensures.facts

pub returns-in-Err-commit-clause-stopped : goal.returns-in-Err-commit-clause-stopped
returns-in-Err-commit-clause-stopped g c = λ is.
    first_stopped (g.D.Disc.state c.args.disc) c.args.head c.args.tree.users c.args.tree.files c.requires.high c.requires.rules c.in-Ok-of.online
    (g.D.Disc.state c.find.new.disc).held (g.D.Disc.state c.commit.new.disc).held
    c.in-Ok-find.ensures.counts.held (c.in-Ok-of.ensures ∙ c.in-Ok-empty_copies.ensures ∙ ap empty_copies c.files.ensures.value)
    c.in-Err-commit.ensures.stopped.content

pub returns-in-Err-commit-clause-survives : goal.returns-in-Err-commit-clause-survives
returns-in-Err-commit-clause-survives g c = λ is gate is_safe.
    first_survives (g.D.Disc.state c.args.disc) c.args.head c.args.tree.users c.args.tree.files c.requires.high c.requires.rules (g.D.Disc.state
    c.find.new.disc) (g.D.Disc.state c.commit.new.disc) c.in-Ok.made.0 c.in-Ok-of.online c.in-Ok-find.ensures.counts
    (c.in-Ok-of.ensures ∙ c.in-Ok-empty_copies.ensures ∙ ap empty_copies c.files.ensures.value) c.in-Ok.ensures.pages
    c.in-Err-commit.ensures.stopped gate is_safe

pub returns-in-Err-find-clause-causes : goal.returns-in-Err-find-clause-causes
returns-in-Err-find-clause-causes g c = Causes-ReadsByCause (λ is. cc) (ReadsByCause-ReadsOnly_err refl c.in-Err-find.ensures.counts)

not_read : (fault : OnlineFault) → fault ≡ Stopped → fault ≡ ReadFault → ⊥
not_read fault stopped other = let same : Stopped ≡ ReadFault = sym stopped ∙ other in cc

pub returns-in-Err-commit-clause-causes : goal.returns-in-Err-commit-clause-causes
returns-in-Err-commit-clause-causes g c =
    let stopped : c.in-Err-commit.fault ≡ Stopped = stopped_is c.in-Err-commit.fault c.in-Err-commit.ensures.only in
    Causes-then {P = ⊥} {Q = ⊥} (λ never. never) (λ never. never)
    (Causes-ReadsByCause (λ never. never) (ReadsByCause-ReadsOnly_ok (λ never. never) c.in-Ok-find.ensures.counts))
    (Causes-WritesOnly_err (not_read c.in-Err-commit.fault stopped) stopped c.in-Err-commit.ensures.counts)

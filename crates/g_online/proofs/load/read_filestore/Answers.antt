use Rattle.std.proofs.Common.{◌∙◌, ℕ, ap, subst, sym}
use Rattle.g_blocks.specs.Pool.{IsFresh}
use Rattle.g_dirs.specs.Rules.{AreApart, numbers_of}
use Rattle.g_online.specs.Beginning.{memory_of}
use Rattle.g_online.specs.Invariant.{IsAgreed, facts_of}
use Rattle.g_online.proofs.BegunLemmas.{found_apart, found_records, has_read, loaded, no_contents, numbers_below}
use Rattle.g_online.proofs.CopyLemmas.{Copies}
use Rattle.g_online.proofs.load.read_filestore.Goals as goal

pub returns-in-Err-clause-none : goal.returns-in-Err-clause-none
returns-in-Err-clause-none g c = λ is blocks told. no_contents blocks (c.in-Err.ensures.none (cc) blocks told)

pub pool_of-requires-clause-places : goal.pool_of-requires-clause-places
pool_of-requires-clause-places g c =
    let dirs = c.in-Ok.found.1 in
    subst (λ (n : ℕ). AreApart n (numbers_of c.as_slice.result.now)) (sym (c.size.ensures.size ∙ c.in-Ok.ensures.reads.size))
    (subst (λ (l : Copies). AreApart (g.D.Disc.state c.args.disc).size (numbers_of l)) (sym c.as_slice.ensures.value)
    (found_apart (g.D.Disc.state c.args.disc) (g.D.Disc.state c.find.new.disc) c.in-Ok.found.0 dirs.head dirs.users.items dirs.files.items dirs.online.items
    c.in-Ok.ensures.found c.in-Ok.ensures.copies))

pub of-requires-clause-rising : goal.of-requires-clause-rising
of-requires-clause-rising g c = c.in-Ok.ensures.copies.rising

pub of-requires-clause-below : goal.of-requires-clause-below
of-requires-clause-below g c =
    let dirs = c.in-Ok.found.1 in
    numbers_below dirs.files.items dirs.online.items
    (found_records (g.D.Disc.state c.args.disc) (g.D.Disc.state c.find.new.disc) c.in-Ok.found.0 dirs.head dirs.users.items dirs.files.items dirs.online.items
    c.in-Ok.ensures.found c.in-Ok.ensures.copies).numbers
    c.in-Ok.ensures.copies

pub from_records-requires : goal.from_records-requires
from_records-requires g c =
    let dirs = c.in-Ok.found.1 in
    found_records (g.D.Disc.state c.args.disc) (g.D.Disc.state c.find.new.disc) c.in-Ok.found.0 dirs.head dirs.users.items dirs.files.items dirs.online.items
    c.in-Ok.ensures.found c.in-Ok.ensures.copies

pub begin-requires-clause-agreed : goal.begin-requires-clause-agreed
begin-requires-clause-agreed g c =
    let dirs = c.in-Ok.found.1 in
    let made = c.in-Ok-pool_of.made in
    let pool : IsFresh (g.D.Disc.state c.find.new.disc).size (numbers_of dirs.online.items) made.1 =
    subst (λ (n : ℕ). IsFresh n (numbers_of dirs.online.items) made.1) c.size.ensures.size
    (subst (λ (l : Copies). IsFresh c.size.result (numbers_of l) made.1) c.as_slice.ensures.value c.in-Ok-pool_of.ensures.pool) in
    subst (λ (l : Copies). IsAgreed (g.D.Disc.state c.find.new.disc) (memory_of c.in-Ok.found.0 made.0 made.1 c.in-Ok-from_records.tree.users
    c.in-Ok-from_records.tree.files dirs.head l)) (sym c.in-Ok-of.ensures)
    (loaded (g.D.Disc.state c.args.disc) (g.D.Disc.state c.find.new.disc) c.in-Ok.found.0 dirs.head dirs.users.items dirs.files.items dirs.online.items
    c.in-Ok.ensures.found c.in-Ok.ensures.copies
    made.0 made.1 c.in-Ok-from_records.tree.users c.in-Ok-from_records.tree.files c.in-Ok.ensures.reads c.in-Ok-pool_of.ensures.pages pool
    c.in-Ok-from_records.ensures.users c.in-Ok-from_records.ensures.files)

pub returns-in-Ok-from_records-clause-ok : goal.returns-in-Ok-from_records-clause-ok
returns-in-Ok-from_records-clause-ok g c =
    let dirs = c.in-Ok.found.1 in
    let made = c.in-Ok-pool_of.made in
    has_read (g.D.Disc.state c.args.disc) (g.D.Disc.state c.find.new.disc) c.in-Ok.found.0 dirs.head dirs.users.items dirs.files.items dirs.online.items
    c.in-Ok.ensures.found c.in-Ok.ensures.copies
    made.0 made.1 c.in-Ok-from_records.tree.users c.in-Ok-from_records.tree.files c.begin.result (λ b told. (c.size.ensures.blocks b told).0 ∙ c.size.ensures.size) c.requires.low c.in-Ok.ensures.reads (λ is. cc)
    c.in-Ok-pool_of.ensures.pages c.in-Ok-from_records.ensures.users c.in-Ok-from_records.ensures.files
    (c.begin.ensures.facts ∙ ap (λ (l : Copies). facts_of (g.D.Disc.state c.find.new.disc) (memory_of c.in-Ok.found.0 made.0 made.1
    c.in-Ok-from_records.tree.users c.in-Ok-from_records.tree.files dirs.head l)) c.in-Ok-of.ensures)

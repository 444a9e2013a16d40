-- The owner of the first of the remaining files exists.
use Rattle.std.proofs.Common.{rules, ◌<◌, length, subst}
use Rattle.std.specs.List.{All}
use Rattle.std.proofs.lemmas.List.Elements.{All-head, All-tail}
use Rattle.g_tree.proofs.scan.newest_besides.Goals as goal

pub is_version_of-requires : goal.is_version_of-requires
is_version_of-requires c =
    All-head (λ r. r.owner < length c.args.users.now) c.in-Some.file.now c.next.new.self (subst (All (λ r. r.owner < length c.args.users.now)) c.in-Some.ensures.steps c.loop-file.invariant.1)

pub loop-file-preserved-then-is_version_of : goal.loop-file-preserved-then-is_version_of
loop-file-preserved-then-is_version_of c = (
  search rules,
  All-tail (λ r. r.owner < length c.args.users.now) c.in-Some.file.now c.next.new.self (subst (All (λ r. r.owner < length c.args.users.now)) c.in-Some.ensures.steps c.loop-file.invariant.1),
)

pub loop-file-preserved : goal.loop-file-preserved
loop-file-preserved c = (
  search rules,
  All-tail (λ r. r.owner < length c.args.users.now) c.in-Some.file.now c.next.new.self (subst (All (λ r. r.owner < length c.args.users.now)) c.in-Some.ensures.steps c.loop-file.invariant.1),
)

use Rattle.std.proofs.Common.{rules, arith, ◌≡◌, ◌+◌, ◌-◌, ◌≤◌, length, refl, sym, ap, subst}
use Rattle.g_incr.specs.declared.waiting.Ahead.{Ahead}
use Rattle.g_incr.specs.Pieces.{plan_from}
use Rattle.g_incr.specs.Plan.{IsContentAt, Plan, needs}
use Rattle.g_incr.proofs.PieceLemmas.{content_at_version, IsVersionAt}
use Rattle.g_incr.proofs.WaitingLemmas.{search_found}
use Rattle.g_incr.proofs.writer.Writer.content.Goals as goal

pub overflow_sub-behind : goal.overflow_sub-behind
overflow_sub-behind c =
    let w = c.self.inside in
    let offset = c.args.k - 1 - (c.len.result + c.len-2.result) in
    let whole = ap needs c.self.view_is in
    let users = ap (λ (q : Plan). length q.users) c.self.view_is in
    let files = ap (λ (q : Plan). length q.files) c.self.view_is in
    (search_found w.files.items c.deref.result.now w.ahead.items offset c.partition_point-behind.result c.deref.ensures.value c.self.invariant.1 (omega arith) c.partition_point-behind.ensures.bound
    c.partition_point-behind.ensures.partitioned (λ a r q k. search rules)).some

pub overflow_sub-result : goal.overflow_sub-result
overflow_sub-result c =
    let w = c.self.inside in
    let offset = c.args.k - 1 - (c.len.result + c.len-2.result) in
    let whole = ap needs c.self.view_is in
    let users = ap (λ (q : Plan). length q.users) c.self.view_is in
    let files = ap (λ (q : Plan). length q.files) c.self.view_is in
    let behind = search_found w.files.items c.deref.result.now w.ahead.items offset c.partition_point-behind.result c.deref.ensures.value c.self.invariant.1 (omega arith) c.partition_point-behind.ensures.bound
    c.partition_point-behind.ensures.partitioned (λ a r q k. search rules) in
    subst (λ (a : Ahead). a.blocks ≤ offset) (sym c.index-ahead.ensures) (behind.low c.index-ahead.result.now)

pub returns : goal.returns
returns c =
    let w = c.self.inside in
    let a = c.index-ahead.result.now in
    let offset = c.args.k - 1 - (c.len.result + c.len-2.result) in
    let whole = ap needs c.self.view_is in
    let users = ap (λ (q : Plan). length q.users) c.self.view_is in
    let files = ap (λ (q : Plan). length q.files) c.self.view_is in
    let behind = search_found w.files.items c.deref.result.now w.ahead.items offset c.partition_point-behind.result c.deref.ensures.value c.self.invariant.1 (omega arith) c.partition_point-behind.ensures.bound
    c.partition_point-behind.ensures.partitioned (λ a r q k. search rules) in
    let found = subst (λ (b : Ahead). IsVersionAt w.files.items offset b.versions (offset - b.blocks)) (sym c.index-ahead.ensures) (behind.found a) in
    let sum : offset + 1 + length w.users.items + length w.files.items ≡ c.args.k = omega arith in (
      a.versions,
      offset - a.blocks,
      refl,
      subst (λ (q : Plan). IsContentAt q c.args.k a.versions (offset - a.blocks)) c.self.view_is
          (content_at_version (plan_from w.serial w.number w.place w.next_stamp w.users.items w.held.items w.files.items) c.args.k a.versions (offset - a.blocks) offset sum found),
    )

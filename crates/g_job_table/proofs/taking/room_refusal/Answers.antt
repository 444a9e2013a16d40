-- In every world of the crew the reasons are checked in this order.
use Rattle.g_job_table.proofs.TakingLemmas.{room-not, room-poor, room-short}
use Rattle.g_job_table.proofs.taking.room_refusal.Goals as goal

pub returns-then-left-time-clause-refusal : goal.returns-then-left-time-clause-refusal
returns-then-left-time-clause-refusal c = λ next w crew.
    room-short w _ c.args.user.now c.args.time c.args.money crew c.left_for-left.result c.if-jobs-ge-MOST_JOBS.false c.left_for-left.ensures c.if-left-time.true

pub returns-then-left-money-clause-refusal : goal.returns-then-left-money-clause-refusal
returns-then-left-money-clause-refusal c = λ next w crew.
    room-poor w _ c.args.user.now c.args.time c.args.money crew c.left_for-left.result c.if-jobs-ge-MOST_JOBS.false c.left_for-left.ensures c.if-left-time.false c.if-left-money.true

pub returns-clause-refusal : goal.returns-clause-refusal
returns-clause-refusal c = λ next w crew.
    room-not w _ c.args.user.now c.args.time c.args.money crew c.left_for-left.result c.if-jobs-ge-MOST_JOBS.false c.left_for-left.ensures c.if-left-time.false c.if-left-money.false

-- The account found is the first of the user's; the next one isn't the user's.
use Rattle.std.proofs.Common.{refl, sym, ◌∙◌}
use Rattle.std.proofs.lemmas.Option.{slice_get_read}
use Rattle.g_name.specs.Order.{same_text}
use Rattle.g_job_table.specs.declared.account.Account.{Account}
use Rattle.g_job_table.proofs.AccountLemmas.{IsPlaceFor-first, find_more}
use Rattle.g_job_table.proofs.account.place_for.Goals as goal

pub returns-then-same_user : goal.returns-then-same_user
returns-then-same_user c =
    IsPlaceFor-first c.args.accounts.now c.args.user.now c.loop-place.place c.index-accounts-place.result c.loop-place.invariant
    (slice_get_read c.args.accounts.now _ c.loop-place.place c.index-accounts-place.result refl c.loop-place-test.true c.index-accounts-place.is)
    (sym c.same_user.ensures ∙ c.if-same_user.true)

pub loop-place-preserved : goal.loop-place-preserved
loop-place-preserved c =
    find_more (λ (a : Account). same_text a.user c.args.user.now) c.args.accounts.now c.loop-place.place c.index-accounts-place.result c.loop-place-test.true c.index-accounts-place.is
    c.loop-place.invariant (sym c.same_user.ensures ∙ c.if-same_user.false)

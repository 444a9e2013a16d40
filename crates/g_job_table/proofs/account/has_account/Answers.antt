-- The account at the place is the user's.
use Rattle.std.proofs.Common.{ap, refl, sym, ◌∙◌}
use Rattle.std.proofs.lemmas.Option.{slice_get_read}
use Rattle.g_name.specs.Order.{same_text}
use Rattle.g_job_table.specs.declared.account.Account.{Account}
use Rattle.g_job_table.proofs.AccountLemmas.{kept-some}
use Rattle.g_job_table.proofs.account.has_account.Goals as goal

pub returns-then-same_user : goal.returns-then-same_user
returns-then-same_user c =
    kept-some c.args.accounts.now c.args.user.now c.args.place c.index-accounts-place.result
    (slice_get_read c.args.accounts.now _ c.args.place c.index-accounts-place.result refl c.if-place-accounts.true c.index-accounts-place.is)
    (ap (λ (a : Account). same_text a.user c.args.user.now) c.index-accounts-place.is ∙ sym c.same_user.ensures ∙ c.if-same_user.true)

-- The account at its place is the user's.
use Rattle.std.proofs.Common.{ap, sym, unwrap_or, Option, ◌∙◌}
use Rattle.std.proofs.lemmas.Option.{get_or_from_slice_get}
use Rattle.g_job_table.specs.Keeping.{empty_for}
use Rattle.g_job_table.specs.declared.account.Account.{Account}
use Rattle.g_job_table.proofs.AccountLemmas.{account_is, same_eq}
use Rattle.g_job_table.proofs.account.account_for.Goals as goal

pub returns-in-Some : goal.returns-in-Some
returns-in-Some c =
    let p = c.in-Some.ensures in
    account_is p.account c.copy.result _ _ (c.copy.ensures ∙ sym (same_eq p.account.user c.args.user.now p.named))
    (ap (λ (a : Account). a.time) (get_or_from_slice_get c.args.accounts.now c.in-Some.place p.account c.index-accounts-place.result p.there))
    (ap (λ (a : Account). a.money) (get_or_from_slice_get c.args.accounts.now c.in-Some.place p.account c.index-accounts-place-in-Some.result p.there))
    ∙ ap (λ (o : Option Account). unwrap_or o (empty_for c.args.user.now)) (sym p.found)

-- The next user gets an account if there is none.
use Rattle.std.proofs.Common.{Global, List, Vec, [], ap, append_assoc, is_some, subst, sym, take, ◌++◌, ◌+◌, ◌∙◌, ◌∷◌, ◌≡◌, ℕ, true}
use Rattle.g_job_table.specs.Accounts.{kept_for}
use Rattle.g_job_table.specs.Keeping.{Opens, opening}
use Rattle.g_job_table.specs.declared.account.Account.{Account}
use Rattle.g_job_table.proofs.OpeningLemmas.{Opens-has, Opens-push}
use Rattle.g_job_table.proofs.account.open_each.Goals as goal
use Rattle.g_job_table.proofs.account.open_each.Goals.{then-not-has_account+in_ok-push, else-not-has_account}

pub loop-place-preserved : goal.loop-place-preserved
loop-place-preserved c =
    let old = c.args.accounts.now.items in
    let now = c.loop-place.accounts.items in
    let users = c.args.users.now in
    let user = c.index-users-place.result in
    elim c.if-not-has_account.branch [
      | then-not-has_account+in_ok-push w ↦
          let grown : c.if-not-has_account.accounts.items ≡ now ++ opening user ∷ [] =
          ap (λ (v : Vec Account Global). v.items) w.accounts-is ∙ w.in_ok-push.ensures.items
          ∙ ap (λ (name : List ℕ). let a : Account = record { user = name; time = user.time; money = user.money } in now ++ a ∷ []) w.copy.ensures in (
            subst (λ (items : List Account). Opens old (take (c.loop-place.place + 1) users) items) (sym grown)
                (Opens-push old now users c.loop-place.place user c.loop-place.invariant.0 c.loop-place-test.true c.index-users-place.is),
            (
              c.loop-place.invariant.1.0 ++ opening user ∷ [],
              grown ∙ ap (λ (xs : List Account). xs ++ opening user ∷ []) c.loop-place.invariant.1.1 ∙ append_assoc old c.loop-place.invariant.1.0 (opening user ∷ []),
            ),
          )
      | else-not-has_account w ↦
          let same : c.if-not-has_account.accounts.items ≡ now = ap (λ (v : Vec Account Global). v.items) w.accounts-is in
          let has : is_some (kept_for now user.user) ≡ true =
          ap (λ (xs : List Account). is_some (kept_for xs user.user)) (sym c.deref.ensures.value) ∙ sym c.has_account.ensures ∙ w.if-not-has_account.false in (
            subst (λ (items : List Account). Opens old (take (c.loop-place.place + 1) users) items) (sym same)
                (Opens-has old now users c.loop-place.place user c.loop-place.invariant.0 c.loop-place-test.true c.index-users-place.is has),
            (c.loop-place.invariant.1.0, same ∙ c.loop-place.invariant.1.1),
          )
    ]

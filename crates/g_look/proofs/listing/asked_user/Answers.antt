use Rattle.std.proofs.Common.{Some, ap, subst, sym, ◌∙◌}
use Rattle.std.specs.Prelude.{IfSome, option_copied}
use Rattle.g_look.specs.Lists.{HasUser}
use Rattle.g_look.proofs.NumberLemmas.{nobody_found, user_found}
use Rattle.g_look.proofs.listing.asked_user.Goals as goal

pub returns-in-Some-user-clause-name : goal.returns-in-Some-user-clause-name
returns-in-Some-user-clause-name c =
    ap Some (user_found c.args.tree.now.users c.args.tree.now.files c.in-Some-user.ensures.records _ _ (sym c.in-Some-user.ensures.value)).0 ∙ ap option_copied (sym c.in-Some.is)

pub returns-in-Some-user-clause-user : goal.returns-in-Some-user-clause-user
returns-in-Some-user-clause-user c =
    subst (λ o. IfSome (option_copied o) (HasUser c.args.tree.now.users)) (sym c.in-Some.is)
    (user_found c.args.tree.now.users c.args.tree.now.files c.in-Some-user.ensures.records _ _ (sym c.in-Some-user.ensures.value)).1

pub returns-in-None-user-clause-no_user : goal.returns-in-None-user-clause-no_user
returns-in-None-user-clause-no_user c = λ is. (
  c.in-Some.name.now,
  ap option_copied c.in-Some.is,
  nobody_found c.args.tree.now.users c.args.tree.now.files c.in-None-user.ensures.records _ (sym c.in-None-user.ensures.value),
)

use Rattle.std.proofs.Common.{None, refl}
use Rattle.g_plain.specs.declared.calls.StoreCall.TheVariants.{NewUser}
use Rattle.g_plain.specs.declared.calls.StoreReply.TheVariants.{Done}
use Rattle.g_online.specs.declared.change.Change.TheVariants.{AddUser}
use Rattle.g_store_calls.proofs.AddLemmas.{adds, may_add, new_user_on}
use Rattle.g_store_calls.proofs.GrantedLemmas.{answered, settled}
use Rattle.g_store_calls.proofs.TellLemmas.{refuses_on}
use Rattle.g_store_calls.proofs.changing.new_user.Goals as goal

pub made_user-made-requires-clause-granted : goal.made_user-made-requires-clause-granted
made_user-made-requires-clause-granted g c = (
  c.args.online.now.contents.head.next_stamp,
  refuses_on c.args.online.now c.tree.result.now.users c.tree.result.now.files c.args.online.now.contents.head.next_stamp c.args.who.now (NewUser c.args.user.now c.args.space c.args.time c.args.money) None
      c.tree.ensures.users c.tree.ensures.files c.requires.granted.allowed,
)

pub changed-requires : goal.changed-requires
changed-requires g c = record {
  allowed = may_add c.args.online.now c.made_user-made.result c.requires.live c.requires.tied
      (new_user_on c.args.online.now c.tree.result.now.users c.tree.result.now.files c.args.who.now c.args.user.now c.args.space c.args.time c.args.money c.made_user-made.result c.tree.ensures.users c.tree.ensures.files
      c.made_user-made.ensures).rules;
  bare = refl;
}

pub returns-clause-answers : goal.returns-clause-answers
returns-clause-answers g c =
    answered c.args.online.now c.changed.new.online c.args.who.now (NewUser c.args.user.now c.args.space c.args.time c.args.money) (AddUser c.made_user-made.result) _ _ Done
    (adds c.args.online.now c.args.who.now c.args.user.now c.args.space c.args.time c.args.money c.made_user-made.result c.requires.live c.requires.tied c.requires.granted.allowed
    (new_user_on c.args.online.now c.tree.result.now.users c.tree.result.now.files c.args.who.now c.args.user.now c.args.space c.args.time c.args.money c.made_user-made.result c.tree.ensures.users c.tree.ensures.files
    c.made_user-made.ensures))
    c.changed.result c.changed.ensures

pub returns-clause-kind : goal.returns-clause-kind
returns-clause-kind g c =
    settled (AddUser c.made_user-made.result) c.args.online.now c.changed.new.online (NewUser c.args.user.now c.args.space c.args.time c.args.money) Done tt c.changed.result c.changed.ensures

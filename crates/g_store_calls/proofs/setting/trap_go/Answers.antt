use Rattle.std.proofs.Common.{refl}
use Rattle.g_plain.specs.declared.calls.StoreCall.TheVariants.{TrapGo}
use Rattle.g_plain.specs.declared.calls.StoreReply.TheVariants.{Done}
use Rattle.g_online.specs.declared.change.Change.TheVariants.{SetFile}
use Rattle.g_store_calls.proofs.GrantedLemmas.{answered, granted_on, settled}
use Rattle.g_store_calls.proofs.SetLemmas.{may_set_file}
use Rattle.g_store_calls.proofs.TrapLemmas.{opens, trapped_on}
use Rattle.g_store_calls.proofs.setting.trap_go.Goals as goal

pub opened_file-rec-requires : goal.opened_file-rec-requires
opened_file-rec-requires g c =
    let (path, full, one) = c.requires.granted in
    let (who, granted) = one in
    record { granted = (who, path, full, (granted_on c.args.online.now c.requires.live c.requires.tied who (TrapGo path c.args.user.now c.args.modes) path c.args.number full (λ t. refl) granted c.tree.result.now.users c.tree.result.now.files c.tree.ensures.users c.tree.ensures.files)) }

pub replaced-requires : goal.replaced-requires
replaced-requires g c =
    let (path, full, one) = c.requires.granted in
    let (who, granted) = one in
    record {
      allowed = may_set_file c.args.online.now who path c.opened_file-rec.result c.requires.live c.requires.tied (trapped_on c.args.online.now c.tree.result.now.users c.tree.result.now.files who path c.args.user.now (TrapGo path c.args.user.now c.args.modes) c.opened_file-rec.result c.tree.ensures.users c.tree.ensures.files
          (c.opened_file-rec.ensures who path full
          (granted_on c.args.online.now c.requires.live c.requires.tied who (TrapGo path c.args.user.now c.args.modes) path c.args.number full (λ t. refl) granted c.tree.result.now.users c.tree.result.now.files c.tree.ensures.users c.tree.ensures.files))).set;
    }

pub returns-clause-answers : goal.returns-clause-answers
returns-clause-answers g c = λ path full who granted.
    answered c.args.online.now c.replaced.new.online who (TrapGo path c.args.user.now c.args.modes) (SetFile c.opened_file-rec.result) _ _ Done
    (opens c.args.online.now who path c.args.user.now c.opened_file-rec.result c.requires.live c.requires.tied c.args.modes granted.allowed
    (trapped_on c.args.online.now c.tree.result.now.users c.tree.result.now.files who path c.args.user.now (TrapGo path c.args.user.now c.args.modes) c.opened_file-rec.result c.tree.ensures.users c.tree.ensures.files
    (c.opened_file-rec.ensures who path full
    (granted_on c.args.online.now c.requires.live c.requires.tied who (TrapGo path c.args.user.now c.args.modes) path c.args.number full (λ t. refl) granted c.tree.result.now.users c.tree.result.now.files c.tree.ensures.users c.tree.ensures.files))))
    c.replaced.result c.replaced.ensures

pub returns-clause-kind : goal.returns-clause-kind
returns-clause-kind g c = λ path. settled (SetFile c.opened_file-rec.result) c.args.online.now c.replaced.new.online (TrapGo path c.args.user.now c.args.modes) Done tt c.replaced.result c.replaced.ensures

use Rattle.std.proofs.Common.{refl}
use Rattle.g_plain.specs.declared.calls.StoreCall.TheVariants.{Rename}
use Rattle.g_plain.specs.declared.calls.StoreReply.TheVariants.{Renamed}
use Rattle.g_online.specs.declared.change.Change.TheVariants.{SetFile}
use Rattle.g_store_calls.proofs.GrantedLemmas.{answered, granted_on, settled}
use Rattle.g_store_calls.proofs.RenameLemmas.{renamed_on, renames}
use Rattle.g_store_calls.proofs.SetLemmas.{may_set_file}
use Rattle.g_store_calls.proofs.setting.rename.Goals as goal

pub renamed_file-rec-requires : goal.renamed_file-rec-requires
renamed_file-rec-requires g c =
    let (path, one) = c.requires.granted in
    let (who, granted) = one in
    record { granted = (who, path, (granted_on c.args.online.now c.requires.live c.requires.tied who (Rename path c.args.to.now) path c.args.number c.args.full (λ t. refl) granted c.tree.result.now.users c.tree.result.now.files c.tree.ensures.users c.tree.ensures.files)) }

pub replaced-requires : goal.replaced-requires
replaced-requires g c =
    let (path, one) = c.requires.granted in
    let (who, granted) = one in
    record {
      allowed = may_set_file c.args.online.now who path c.renamed_file-rec.result c.requires.live c.requires.tied (renamed_on c.args.online.now c.tree.result.now.users c.tree.result.now.files who path c.args.to.now c.renamed_file-rec.result c.renamed_file-rec.new.full c.tree.ensures.users c.tree.ensures.files
          (c.renamed_file-rec.ensures who path
          (granted_on c.args.online.now c.requires.live c.requires.tied who (Rename path c.args.to.now) path c.args.number c.args.full (λ t. refl) granted c.tree.result.now.users c.tree.result.now.files c.tree.ensures.users c.tree.ensures.files))).set;
    }

pub returns-clause-answers : goal.returns-clause-answers
returns-clause-answers g c = λ path who granted.
    answered c.args.online.now c.replaced.new.online who (Rename path c.args.to.now) (SetFile c.renamed_file-rec.result) _ _ (Renamed c.renamed_file-rec.new.full)
    (renames c.args.online.now who path c.args.to.now c.renamed_file-rec.result c.renamed_file-rec.new.full c.requires.live c.requires.tied granted.allowed
    (renamed_on c.args.online.now c.tree.result.now.users c.tree.result.now.files who path c.args.to.now c.renamed_file-rec.result c.renamed_file-rec.new.full c.tree.ensures.users c.tree.ensures.files
    (c.renamed_file-rec.ensures who path
    (granted_on c.args.online.now c.requires.live c.requires.tied who (Rename path c.args.to.now) path c.args.number c.args.full (λ t. refl) granted c.tree.result.now.users c.tree.result.now.files c.tree.ensures.users c.tree.ensures.files))))
    c.replaced.result c.replaced.ensures

pub returns-clause-kind : goal.returns-clause-kind
returns-clause-kind g c = λ path.
    settled (SetFile c.renamed_file-rec.result) c.args.online.now c.replaced.new.online (Rename path c.args.to.now) (Renamed c.renamed_file-rec.new.full) tt c.replaced.result c.replaced.ensures

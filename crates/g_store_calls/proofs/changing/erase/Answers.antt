use Rattle.std.proofs.Common.{Err, Ok, refl}
use Rattle.g_plain.specs.declared.calls.StoreCall.TheVariants.{Erase}
use Rattle.g_plain.specs.declared.calls.StoreReply.TheVariants.{Erased}
use Rattle.g_online.specs.declared.change.Change.TheVariants.{EraseFile}
use Rattle.g_store_calls.proofs.EraseLemmas.{erases, may_erase}
use Rattle.g_store_calls.proofs.GrantedLemmas.{answered, granted_at, settled}
use Rattle.g_store_calls.proofs.changing.erase.Goals as goal

pub drop_record-requires : goal.drop_record-requires
drop_record-requires g c =
    let (path, one) = c.requires.granted in
    let (who, granted) = one in
    record {
      allowed = may_erase c.args.online.now who path c.args.number c.args.full c.requires.live c.requires.tied
          (granted_at c.args.online.now c.requires.live c.requires.tied who (Erase path) path c.args.number c.args.full (λ t. refl) granted);
    }

pub returns-in-Ok-clause-answers : goal.returns-in-Ok-clause-answers
returns-in-Ok-clause-answers g c = λ path who granted.
    answered c.args.online.now c.drop_record.new.online who (Erase path) (EraseFile c.args.number) _ _ (Erased c.args.full)
    (erases c.args.online.now who path c.args.number c.args.full c.requires.live c.requires.tied granted.allowed
    (granted_at c.args.online.now c.requires.live c.requires.tied who (Erase path) path c.args.number c.args.full (λ t. refl) granted))
    (Ok (Erased c.args.full)) (record { made = Ok c.in-Ok.field-0; applied = c.in-Ok.ensures; is = refl })

pub returns-in-Ok-clause-kind : goal.returns-in-Ok-clause-kind
returns-in-Ok-clause-kind g c = λ path.
    settled (EraseFile c.args.number) c.args.online.now c.drop_record.new.online (Erase path) (Erased c.args.full) tt (Ok (Erased c.args.full)) (record { made = Ok c.in-Ok.field-0; applied = c.in-Ok.ensures; is = refl })

pub returns-in-Err-clause-answers : goal.returns-in-Err-clause-answers
returns-in-Err-clause-answers g c = λ path who granted.
    answered c.args.online.now c.drop_record.new.online who (Erase path) (EraseFile c.args.number) _ _ (Erased c.args.full)
    (erases c.args.online.now who path c.args.number c.args.full c.requires.live c.requires.tied granted.allowed
    (granted_at c.args.online.now c.requires.live c.requires.tied who (Erase path) path c.args.number c.args.full (λ t. refl) granted))
    (Err c.in-Err.fault) (record { made = Err c.in-Err.fault; applied = c.in-Err.ensures; is = refl })

pub returns-in-Err-clause-kind : goal.returns-in-Err-clause-kind
returns-in-Err-clause-kind g c = λ path.
    settled (EraseFile c.args.number) c.args.online.now c.drop_record.new.online (Erase path) (Erased c.args.full) tt (Err c.in-Err.fault) (record { made = Err c.in-Err.fault; applied = c.in-Err.ensures; is = refl })

use Rattle.std.proofs.Common.{Ok, Err, refl}
use Rattle.g_plain.specs.declared.calls.StoreCall.TheVariants.{Append}
use Rattle.g_store_calls.proofs.AppendCallLemmas.{append_answers, append_fits, append_kind, append_stamps, append_used}
use Rattle.g_store_calls.proofs.GrantedLemmas.{granted_at}
use Rattle.g_store_calls.proofs.appending.append.Goals as goal

pub append_to-requires-clause-used : goal.append_to-requires-clause-used
append_to-requires-clause-used g c =
    let (path, one) = c.requires.granted in
    let (who, granted) = one in
    append_used c.args.online.now who path c.args.number c.args.full
    (granted_at c.args.online.now c.requires.live c.requires.tied who (Append path c.args.bytes.now) path c.args.number c.args.full (λ t. refl) granted)

pub append_to-requires-clause-fits : goal.append_to-requires-clause-fits
append_to-requires-clause-fits g c =
    let (path, one) = c.requires.granted in
    let (who, granted) = one in
    append_fits c.args.online.now who path c.args.bytes.now c.args.number c.args.full c.requires.live c.requires.tied granted.allowed
    (granted_at c.args.online.now c.requires.live c.requires.tied who (Append path c.args.bytes.now) path c.args.number c.args.full (λ t. refl) granted)

pub append_to-requires-clause-stamps : goal.append_to-requires-clause-stamps
append_to-requires-clause-stamps g c =
    let (path, one) = c.requires.granted in
    let (who, granted) = one in
    append_stamps c.args.online.now who path c.args.bytes.now c.requires.live c.requires.tied granted.allowed

pub returns-in-Ok-clause-answers : goal.returns-in-Ok-clause-answers
returns-in-Ok-clause-answers g c = λ path who granted.
    append_answers c.args.online.now c.append_to.new.online (g.T.Tapes.rack c.args.tapes.now) (g.T.Tapes.rack c.append_to.new.tapes) who path c.args.bytes.now
    c.args.number c.args.full c.requires.live c.requires.tied granted.allowed
    (granted_at c.args.online.now c.requires.live c.requires.tied who (Append path c.args.bytes.now) path c.args.number c.args.full (λ t. refl) granted)
    (Ok c.in-Ok.field-0) c.in-Ok.ensures

pub returns-in-Ok-clause-kind : goal.returns-in-Ok-clause-kind
returns-in-Ok-clause-kind g c = λ path one.
    let (who, granted) = one in
    append_kind c.args.online.now c.append_to.new.online (g.T.Tapes.rack c.args.tapes.now) (g.T.Tapes.rack c.append_to.new.tapes) who path c.args.bytes.now
    c.args.number c.args.full c.requires.live c.requires.tied granted.allowed
    (granted_at c.args.online.now c.requires.live c.requires.tied who (Append path c.args.bytes.now) path c.args.number c.args.full (λ t. refl) granted)
    (Ok c.in-Ok.field-0) c.in-Ok.ensures

pub returns-in-Err-clause-answers : goal.returns-in-Err-clause-answers
returns-in-Err-clause-answers g c = λ path who granted.
    append_answers c.args.online.now c.append_to.new.online (g.T.Tapes.rack c.args.tapes.now) (g.T.Tapes.rack c.append_to.new.tapes) who path c.args.bytes.now
    c.args.number c.args.full c.requires.live c.requires.tied granted.allowed
    (granted_at c.args.online.now c.requires.live c.requires.tied who (Append path c.args.bytes.now) path c.args.number c.args.full (λ t. refl) granted)
    (Err c.in-Err.fault) c.in-Err.ensures

pub returns-in-Err-clause-kind : goal.returns-in-Err-clause-kind
returns-in-Err-clause-kind g c = λ path one.
    let (who, granted) = one in
    append_kind c.args.online.now c.append_to.new.online (g.T.Tapes.rack c.args.tapes.now) (g.T.Tapes.rack c.append_to.new.tapes) who path c.args.bytes.now
    c.args.number c.args.full c.requires.live c.requires.tied granted.allowed
    (granted_at c.args.online.now c.requires.live c.requires.tied who (Append path c.args.bytes.now) path c.args.number c.args.full (λ t. refl) granted)
    (Err c.in-Err.fault) c.in-Err.ensures

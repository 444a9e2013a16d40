use Rattle.std.proofs.Common.{Err, Result, false, refl, sym, subst}
use Rattle.g_plain.specs.declared.calls.StoreCall.TheVariants.{Retrieve}
use Rattle.g_plain.specs.declared.calls.StoreReply.{StoreReply}
use Rattle.g_plain.specs.declared.faults.StoreFault.{StoreFault}
use Rattle.g_plain.specs.declared.faults.StoreFault.TheVariants.{NoMemory}
use Rattle.g_store_calls.specs.Answering.{AnswersOver}
use Rattle.g_store_calls.specs.Kinds.{IsKind}
use Rattle.g_store_calls.proofs.FetchLemmas.{is_named, retrieve_back, retrieve_back_kind, retrieve_there, retrieve_there_kind}
use Rattle.g_store_calls.proofs.GrantedLemmas.{granted_at}
use Rattle.g_store_calls.proofs.fetching.retrieve.Goals as goal

pub returns-then-is_online-clause-answers : goal.returns-then-is_online-clause-answers
returns-then-is_online-clause-answers g c = λ path who granted.
    retrieve_there c.args.online.now c.requires.live c.requires.tied who path c.args.number c.args.full (granted_at c.args.online.now c.requires.live c.requires.tied who (Retrieve path) path c.args.number c.args.full (λ t. refl) granted) c.is_online.result c.is_online.ensures
    (Retrieve path) granted.allowed c.args.online.now (g.T.Tapes.rack c.args.tapes.now) (Err NoMemory) refl c.if-is_online.true

pub returns-then-is_online-clause-kind : goal.returns-then-is_online-clause-kind
returns-then-is_online-clause-kind g c = λ path one.
    let (who, granted) = one in
    retrieve_there_kind c.args.online.now c.requires.live c.requires.tied who path c.args.number c.args.full (granted_at c.args.online.now c.requires.live c.requires.tied who (Retrieve path) path c.args.number c.args.full (λ t. refl) granted) c.is_online.result c.is_online.ensures
    (Retrieve path) granted.allowed c.args.online.now (g.T.Tapes.rack c.args.tapes.now) (Err NoMemory) refl

pub brought_bytes-requires-clause-offline : goal.brought_bytes-requires-clause-offline
brought_bytes-requires-clause-offline g c =
    let (path, one) = c.requires.granted in
    let (who, granted) = one in
    is_named c.args.online.now c.requires.live c.requires.tied who path c.args.number c.args.full
    (granted_at c.args.online.now c.requires.live c.requires.tied who (Retrieve path) path c.args.number c.args.full (λ t. refl) granted) c.is_online.result c.is_online.ensures false c.if-is_online.false

pub returns-else-is_online-clause-answers : goal.returns-else-is_online-clause-answers
returns-else-is_online-clause-answers g c = λ path who granted.
    subst (λ (r : Result StoreReply StoreFault). AnswersOver who (Retrieve path) c.args.online.now (g.T.Tapes.rack c.args.tapes.now) r c.brought_bytes.new.online (g.T.Tapes.rack c.brought_bytes.new.tapes)) (sym c.back_answer.ensures)
    (retrieve_back c.args.online.now c.requires.live c.requires.tied who path c.args.number c.args.full (granted_at c.args.online.now c.requires.live c.requires.tied who (Retrieve path) path c.args.number c.args.full (λ t. refl) granted) c.is_online.result c.is_online.ensures
    (Retrieve path) granted.allowed c.brought_bytes.new.online (g.T.Tapes.rack c.args.tapes.now) c.brought_bytes.result refl (g.T.Tapes.rack c.brought_bytes.new.tapes) c.if-is_online.false c.brought_bytes.ensures.back c.brought_bytes.ensures.keeps)

pub returns-else-is_online-clause-kind : goal.returns-else-is_online-clause-kind
returns-else-is_online-clause-kind g c = λ path one.
    let (who, granted) = one in
    subst (λ (r : Result StoreReply StoreFault). IsKind (Retrieve path) (g.T.Tapes.rack c.args.tapes.now) r) (sym c.back_answer.ensures)
    (retrieve_back_kind c.args.online.now c.requires.live c.requires.tied who path c.args.number c.args.full (granted_at c.args.online.now c.requires.live c.requires.tied who (Retrieve path) path c.args.number c.args.full (λ t. refl) granted) c.is_online.result c.is_online.ensures
    (Retrieve path) granted.allowed c.brought_bytes.new.online (g.T.Tapes.rack c.args.tapes.now) c.brought_bytes.result refl (g.T.Tapes.rack c.brought_bytes.new.tapes) c.if-is_online.false c.brought_bytes.ensures.back)

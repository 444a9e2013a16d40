use Rattle.std.proofs.Common.{Result, false, refl, sym, subst, true}
use Rattle.g_plain.specs.declared.calls.StoreCall.TheVariants.{Fetch}
use Rattle.g_plain.specs.declared.calls.StoreReply.{StoreReply}
use Rattle.g_plain.specs.declared.faults.StoreFault.{StoreFault}
use Rattle.g_store_calls.specs.Answering.{AnswersOver}
use Rattle.g_store_calls.specs.Kinds.{IsKind}
use Rattle.g_store_calls.proofs.FetchLemmas.{fetch_back, fetch_back_kind, fetch_disc, fetch_disc_kind, is_named}
use Rattle.g_store_calls.proofs.GrantedLemmas.{granted_at}
use Rattle.g_store_calls.proofs.fetching.fetch.Goals as goal

pub disc_bytes-requires-clause-there : goal.disc_bytes-requires-clause-there
disc_bytes-requires-clause-there g c =
    let (path, mode, one) = c.requires.granted in
    let (who, granted) = one in
    is_named c.args.online.now c.requires.live c.requires.tied who path c.args.number c.args.full
    (granted_at c.args.online.now c.requires.live c.requires.tied who (Fetch path mode) path c.args.number c.args.full (λ t. refl) granted) c.is_online.result c.is_online.ensures true c.if-is_online.true

pub returns-then-is_online-clause-answers : goal.returns-then-is_online-clause-answers
returns-then-is_online-clause-answers g c = λ path mode who granted.
    subst (λ (r : Result StoreReply StoreFault). AnswersOver who (Fetch path mode) c.args.online.now (g.T.Tapes.rack c.args.tapes.now) r c.disc_bytes.new.online (g.T.Tapes.rack c.args.tapes.now)) (sym c.bytes_answer.ensures)
    (fetch_disc c.args.online.now c.requires.live c.requires.tied who path c.args.number c.args.full (granted_at c.args.online.now c.requires.live c.requires.tied who (Fetch path mode) path c.args.number c.args.full (λ t. refl) granted) c.is_online.result c.is_online.ensures
    (Fetch path mode) granted.allowed c.disc_bytes.new.online (g.T.Tapes.rack c.args.tapes.now) c.disc_bytes.result mode refl c.if-is_online.true c.disc_bytes.ensures)

pub returns-then-is_online-clause-kind : goal.returns-then-is_online-clause-kind
returns-then-is_online-clause-kind g c = λ path mode one.
    let (who, granted) = one in
    subst (λ (r : Result StoreReply StoreFault). IsKind (Fetch path mode) (g.T.Tapes.rack c.args.tapes.now) r) (sym c.bytes_answer.ensures)
    (fetch_disc_kind c.args.online.now c.requires.live c.requires.tied who path c.args.number c.args.full (granted_at c.args.online.now c.requires.live c.requires.tied who (Fetch path mode) path c.args.number c.args.full (λ t. refl) granted) c.is_online.result c.is_online.ensures
    (Fetch path mode) granted.allowed c.disc_bytes.new.online (g.T.Tapes.rack c.args.tapes.now) c.disc_bytes.result mode refl c.disc_bytes.ensures)

pub brought_bytes-requires-clause-offline : goal.brought_bytes-requires-clause-offline
brought_bytes-requires-clause-offline g c =
    let (path, mode, one) = c.requires.granted in
    let (who, granted) = one in
    is_named c.args.online.now c.requires.live c.requires.tied who path c.args.number c.args.full
    (granted_at c.args.online.now c.requires.live c.requires.tied who (Fetch path mode) path c.args.number c.args.full (λ t. refl) granted) c.is_online.result c.is_online.ensures false c.if-is_online.false

pub returns-else-is_online-clause-answers : goal.returns-else-is_online-clause-answers
returns-else-is_online-clause-answers g c = λ path mode who granted.
    subst (λ (r : Result StoreReply StoreFault). AnswersOver who (Fetch path mode) c.args.online.now (g.T.Tapes.rack c.args.tapes.now) r c.brought_bytes.new.online (g.T.Tapes.rack c.brought_bytes.new.tapes)) (sym c.bytes_answer-else-is_online.ensures)
    (fetch_back c.args.online.now c.requires.live c.requires.tied who path c.args.number c.args.full (granted_at c.args.online.now c.requires.live c.requires.tied who (Fetch path mode) path c.args.number c.args.full (λ t. refl) granted) c.is_online.result c.is_online.ensures
    (Fetch path mode) granted.allowed c.brought_bytes.new.online (g.T.Tapes.rack c.args.tapes.now) c.brought_bytes.result mode refl (g.T.Tapes.rack c.brought_bytes.new.tapes) c.if-is_online.false c.brought_bytes.ensures.back c.brought_bytes.ensures.keeps)

pub returns-else-is_online-clause-kind : goal.returns-else-is_online-clause-kind
returns-else-is_online-clause-kind g c = λ path mode one.
    let (who, granted) = one in
    subst (λ (r : Result StoreReply StoreFault). IsKind (Fetch path mode) (g.T.Tapes.rack c.args.tapes.now) r) (sym c.bytes_answer-else-is_online.ensures)
    (fetch_back_kind c.args.online.now c.requires.live c.requires.tied who path c.args.number c.args.full (granted_at c.args.online.now c.requires.live c.requires.tied who (Fetch path mode) path c.args.number c.args.full (λ t. refl) granted) c.is_online.result c.is_online.ensures
    (Fetch path mode) granted.allowed c.brought_bytes.new.online (g.T.Tapes.rack c.args.tapes.now) c.brought_bytes.result mode refl (g.T.Tapes.rack c.brought_bytes.new.tapes) c.if-is_online.false c.brought_bytes.ensures.back)

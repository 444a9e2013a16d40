use Rattle.std.proofs.Common.{subst, sym}
use Rattle.g_plain.specs.declared.calls.StoreCall.{StoreCall}
use Rattle.g_plain.specs.declared.calls.StoreCall.TheVariants.{Erase, Rename, TrapCheck, TrapGo, TrapStop}
use Rattle.g_tree.specs.declared.asked.Granted.TheVariants.{Input}
use Rattle.g_store_calls.specs.GrantedCalls.{AnswersGrantedOver, GrantsOne}
use Rattle.g_store_calls.specs.Kinds.{IsKind}
use Rattle.g_store_calls.proofs.KindLemmas.{kind_of, over}
use Rattle.g_store_calls.proofs.answering.of_file.Goals as goal

pub append-requires-clause-granted : goal.append-requires-clause-granted
append-requires-clause-granted g c = (c.in-Append.path, subst (GrantsOne c.args.online.now (Input c.args.number c.args.full)) c.in-Append.is c.requires.granted)

pub returns-in-Append-clause-answers : goal.returns-in-Append-clause-answers
returns-in-Append-clause-answers g c =
    subst (AnswersGrantedOver c.args.online.now (g.T.Tapes.rack c.args.tapes.now) (Input c.args.number c.args.full) c.append.result c.append.new.online (g.T.Tapes.rack c.append.new.tapes)) (sym c.in-Append.is)
    (c.append.ensures.answers c.in-Append.path)

pub returns-in-Append-clause-kind : goal.returns-in-Append-clause-kind
returns-in-Append-clause-kind g c = subst (λ (k : StoreCall). IsKind k (g.T.Tapes.rack c.args.tapes.now) c.append.result) (sym c.in-Append.is) (c.append.ensures.kind c.in-Append.path (subst (GrantsOne c.args.online.now (Input c.args.number c.args.full)) c.in-Append.is c.requires.granted))

pub fetch-requires-clause-granted : goal.fetch-requires-clause-granted
fetch-requires-clause-granted g c = (c.in-Fetch.path, c.in-Fetch.mode, subst (GrantsOne c.args.online.now (Input c.args.number c.args.full)) c.in-Fetch.is c.requires.granted)

pub returns-in-Fetch-clause-answers : goal.returns-in-Fetch-clause-answers
returns-in-Fetch-clause-answers g c =
    subst (AnswersGrantedOver c.args.online.now (g.T.Tapes.rack c.args.tapes.now) (Input c.args.number c.args.full) c.fetch.result c.fetch.new.online (g.T.Tapes.rack c.fetch.new.tapes)) (sym c.in-Fetch.is)
    (c.fetch.ensures.answers c.in-Fetch.path c.in-Fetch.mode)

pub returns-in-Fetch-clause-kind : goal.returns-in-Fetch-clause-kind
returns-in-Fetch-clause-kind g c = subst (λ (k : StoreCall). IsKind k (g.T.Tapes.rack c.args.tapes.now) c.fetch.result) (sym c.in-Fetch.is) (c.fetch.ensures.kind c.in-Fetch.path c.in-Fetch.mode (subst (GrantsOne c.args.online.now (Input c.args.number c.args.full)) c.in-Fetch.is c.requires.granted))

pub erase-requires-clause-granted : goal.erase-requires-clause-granted
erase-requires-clause-granted g c = (c.in-Erase.path, subst (GrantsOne c.args.online.now (Input c.args.number c.args.full)) c.in-Erase.is c.requires.granted)

pub returns-in-Erase-clause-answers : goal.returns-in-Erase-clause-answers
returns-in-Erase-clause-answers g c =
    subst (AnswersGrantedOver c.args.online.now (g.T.Tapes.rack c.args.tapes.now) (Input c.args.number c.args.full) c.erase.result c.erase.new.online (g.T.Tapes.rack c.args.tapes.now)) (sym c.in-Erase.is)
    (λ who granted. over who (Erase c.in-Erase.path) c.args.online.now c.erase.new.online (g.T.Tapes.rack c.args.tapes.now) c.erase.result (c.erase.ensures.answers c.in-Erase.path who granted))

pub returns-in-Erase-clause-kind : goal.returns-in-Erase-clause-kind
returns-in-Erase-clause-kind g c = subst (λ (k : StoreCall). IsKind k (g.T.Tapes.rack c.args.tapes.now) c.erase.result) (sym c.in-Erase.is) (kind_of (Erase c.in-Erase.path) (g.T.Tapes.rack c.args.tapes.now) c.erase.result (c.erase.ensures.kind c.in-Erase.path))

pub rename-requires-clause-granted : goal.rename-requires-clause-granted
rename-requires-clause-granted g c = (c.in-Rename.path, subst (GrantsOne c.args.online.now (Input c.args.number c.args.full)) c.in-Rename.is c.requires.granted)

pub returns-in-Rename-clause-answers : goal.returns-in-Rename-clause-answers
returns-in-Rename-clause-answers g c =
    subst (AnswersGrantedOver c.args.online.now (g.T.Tapes.rack c.args.tapes.now) (Input c.args.number c.args.full) c.rename.result c.rename.new.online (g.T.Tapes.rack c.args.tapes.now)) (sym c.in-Rename.is)
    (λ who granted. over who (Rename c.in-Rename.path c.in-Rename.to) c.args.online.now c.rename.new.online (g.T.Tapes.rack c.args.tapes.now) c.rename.result (c.rename.ensures.answers c.in-Rename.path who granted))

pub returns-in-Rename-clause-kind : goal.returns-in-Rename-clause-kind
returns-in-Rename-clause-kind g c = subst (λ (k : StoreCall). IsKind k (g.T.Tapes.rack c.args.tapes.now) c.rename.result) (sym c.in-Rename.is) (kind_of (Rename c.in-Rename.path c.in-Rename.to) (g.T.Tapes.rack c.args.tapes.now) c.rename.result (c.rename.ensures.kind c.in-Rename.path))

pub trap_go-requires-clause-granted : goal.trap_go-requires-clause-granted
trap_go-requires-clause-granted g c = (c.in-TrapGo.path, c.args.full, subst (GrantsOne c.args.online.now (Input c.args.number c.args.full)) c.in-TrapGo.is c.requires.granted)

pub returns-in-TrapGo-clause-answers : goal.returns-in-TrapGo-clause-answers
returns-in-TrapGo-clause-answers g c =
    subst (AnswersGrantedOver c.args.online.now (g.T.Tapes.rack c.args.tapes.now) (Input c.args.number c.args.full) c.trap_go.result c.trap_go.new.online (g.T.Tapes.rack c.args.tapes.now)) (sym c.in-TrapGo.is)
    (λ who granted. over who (TrapGo c.in-TrapGo.path c.in-TrapGo.user c.in-TrapGo.modes) c.args.online.now c.trap_go.new.online (g.T.Tapes.rack c.args.tapes.now) c.trap_go.result (c.trap_go.ensures.answers c.in-TrapGo.path c.args.full who granted))

pub returns-in-TrapGo-clause-kind : goal.returns-in-TrapGo-clause-kind
returns-in-TrapGo-clause-kind g c = subst (λ (k : StoreCall). IsKind k (g.T.Tapes.rack c.args.tapes.now) c.trap_go.result) (sym c.in-TrapGo.is) (kind_of (TrapGo c.in-TrapGo.path c.in-TrapGo.user c.in-TrapGo.modes) (g.T.Tapes.rack c.args.tapes.now) c.trap_go.result (c.trap_go.ensures.kind c.in-TrapGo.path))

pub trap_stop-requires-clause-granted : goal.trap_stop-requires-clause-granted
trap_stop-requires-clause-granted g c = (c.in-TrapStop.path, c.args.full, subst (GrantsOne c.args.online.now (Input c.args.number c.args.full)) c.in-TrapStop.is c.requires.granted)

pub returns-in-TrapStop-clause-answers : goal.returns-in-TrapStop-clause-answers
returns-in-TrapStop-clause-answers g c =
    subst (AnswersGrantedOver c.args.online.now (g.T.Tapes.rack c.args.tapes.now) (Input c.args.number c.args.full) c.trap_stop.result c.trap_stop.new.online (g.T.Tapes.rack c.args.tapes.now)) (sym c.in-TrapStop.is)
    (λ who granted. over who (TrapStop c.in-TrapStop.path c.in-TrapStop.user c.in-TrapStop.modes) c.args.online.now c.trap_stop.new.online (g.T.Tapes.rack c.args.tapes.now) c.trap_stop.result (c.trap_stop.ensures.answers c.in-TrapStop.path c.args.full who granted))

pub returns-in-TrapStop-clause-kind : goal.returns-in-TrapStop-clause-kind
returns-in-TrapStop-clause-kind g c = subst (λ (k : StoreCall). IsKind k (g.T.Tapes.rack c.args.tapes.now) c.trap_stop.result) (sym c.in-TrapStop.is) (kind_of (TrapStop c.in-TrapStop.path c.in-TrapStop.user c.in-TrapStop.modes) (g.T.Tapes.rack c.args.tapes.now) c.trap_stop.result (c.trap_stop.ensures.kind c.in-TrapStop.path))

pub trap_check-requires-clause-granted : goal.trap_check-requires-clause-granted
trap_check-requires-clause-granted g c = (c.in-TrapCheck.path, c.args.full, subst (GrantsOne c.args.online.now (Input c.args.number c.args.full)) c.in-TrapCheck.is c.requires.granted)

pub returns-in-TrapCheck-clause-answers : goal.returns-in-TrapCheck-clause-answers
returns-in-TrapCheck-clause-answers g c =
    subst (AnswersGrantedOver c.args.online.now (g.T.Tapes.rack c.args.tapes.now) (Input c.args.number c.args.full) c.trap_check.result c.args.online.now (g.T.Tapes.rack c.args.tapes.now)) (sym c.in-TrapCheck.is)
    (λ who granted. over who (TrapCheck c.in-TrapCheck.path c.in-TrapCheck.user) c.args.online.now c.args.online.now (g.T.Tapes.rack c.args.tapes.now) c.trap_check.result (c.trap_check.ensures.answers c.in-TrapCheck.path c.args.full who granted))

pub returns-in-TrapCheck-clause-kind : goal.returns-in-TrapCheck-clause-kind
returns-in-TrapCheck-clause-kind g c = subst (λ (k : StoreCall). IsKind k (g.T.Tapes.rack c.args.tapes.now) c.trap_check.result) (sym c.in-TrapCheck.is) (kind_of (TrapCheck c.in-TrapCheck.path c.in-TrapCheck.user) (g.T.Tapes.rack c.args.tapes.now) c.trap_check.result (c.trap_check.ensures.kind c.in-TrapCheck.path c.args.full (subst (GrantsOne c.args.online.now (Input c.args.number c.args.full)) c.in-TrapCheck.is c.requires.granted)))

pub retrieve-requires-clause-granted : goal.retrieve-requires-clause-granted
retrieve-requires-clause-granted g c = (c.in-Retrieve.path, subst (GrantsOne c.args.online.now (Input c.args.number c.args.full)) c.in-Retrieve.is c.requires.granted)

pub returns-in-Retrieve-clause-answers : goal.returns-in-Retrieve-clause-answers
returns-in-Retrieve-clause-answers g c =
    subst (AnswersGrantedOver c.args.online.now (g.T.Tapes.rack c.args.tapes.now) (Input c.args.number c.args.full) c.retrieve.result c.retrieve.new.online (g.T.Tapes.rack c.retrieve.new.tapes)) (sym c.in-Retrieve.is)
    (c.retrieve.ensures.answers c.in-Retrieve.path)

pub returns-in-Retrieve-clause-kind : goal.returns-in-Retrieve-clause-kind
returns-in-Retrieve-clause-kind g c = subst (λ (k : StoreCall). IsKind k (g.T.Tapes.rack c.args.tapes.now) c.retrieve.result) (sym c.in-Retrieve.is) (c.retrieve.ensures.kind c.in-Retrieve.path (subst (GrantsOne c.args.online.now (Input c.args.number c.args.full)) c.in-Retrieve.is c.requires.granted))

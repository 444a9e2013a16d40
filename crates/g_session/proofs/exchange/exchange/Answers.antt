use Rattle.std.proofs.Common.{◌≡◌, ◌+◌, ℕ, false, List, [], ◌∷◌, Option, Some, None, refl, sym, ◌∙◌, ap, subst, inl, inr}
use Rattle.g_console.specs.Transcript.{End, Failed, Line, Transcript}
use Rattle.g_day.specs.declared.progress.Failure.TheVariants as failures
use Rattle.g_day.specs.Parts.{Seen}
use Rattle.g_typing.specs.Reader.{Holds}
use Rattle.g_typing.specs.declared.item.ItemReader.{ItemReader}
use Rattle.g_typing.proofs.AddLemmas.{end_follows}
use Rattle.g_session.specs.Exchanging.{AfterExchange, LogsReply, bad_after, course_after}
use Rattle.g_session.specs.Parts.{Broken, Stands}
use Rattle.g_session.specs.declared.exchange.Course.{Course}
use Rattle.g_session.specs.declared.exchange.Course.TheVariants as course
use Rattle.g_laws_runs.specs.BeginningAnew.{with_new_disc}
use Rattle.g_session.proofs.AnewLemmas.{ends_anew, fails_anew, reply_anew, unheard_anew, unlogged_anew}
use Rattle.g_session.proofs.AnswerLemmas.{last_asked, stands_ask}
use Rattle.g_session.proofs.KeepLemmas.{one_by, one_short, one_still}
use Rattle.g_session.proofs.ReplyLemmas.{has_log, keeps_count, replied, replies_at, reply_holds, reply_within, unheard, unlogged_by}
use Rattle.g_session.proofs.exchange.exchange.Goals as goal

pub answer-requires-clause-within : goal.answer-requires-clause-within
answer-requires-clause-within g c =
    let (lines, holds) = c.requires.typed in
    let (line, continues, heard) = c.in-Reply.ensures.heard in
    let replies = replies_at c.day.inside.count c.args.talk.day.count c.args.talk.number (ap (λ (x : Seen). x.count) c.day.view_is) c.args.talk.reader line c.in-Reply.reply c.hear.new.reader heard in
    reply_within _ _ _ lines line _ c.in-Reply.reply (replies lines holds)

pub returns-in-None-clause-typed : goal.returns-in-None-clause-typed
returns-in-None-clause-typed g c = λ goes.
    let (lines, holds) = c.requires.typed in
    let (line, continues, heard) = c.in-Reply.ensures.heard in
    let replies = replies_at c.day.inside.count c.args.talk.day.count c.args.talk.number (ap (λ (x : Seen). x.count) c.day.view_is) c.args.talk.reader line c.in-Reply.reply c.hear.new.reader heard in
    let did = c.answer.ensures.did refl in
    subst (λ (r : ItemReader). (held : List (List ℕ)) × Holds c.answer.result.day.count held r) (sym c.answer.ensures.reader)
    (reply_holds _ _ _ _ lines line _ c.in-Reply.reply (replies lines holds)
    (keeps_count g.F.Fn c.args.rules.now.tariff.now g.U.Fn c.args.rules.now.weigh.now c.in-Reply.reply _ _ _ _ _ _ _ _ did.did))

pub returns-in-None-clause-keeps : goal.returns-in-None-clause-keeps
returns-in-None-clause-keeps g c =
    let did = c.answer.ensures.did refl in
    one_by g.F.Fn c.args.rules.now.tariff.now g.U.Fn c.args.rules.now.weigh.now c.in-Reply.reply _ _ _ did.failure _ _ _ _ _ c.requires.ready c.requires.open did.goes_on did.did

pub returns-in-None-clause-said : goal.returns-in-None-clause-said
returns-in-None-clause-said g c = λ s real old done from log0 st.
    let (line, continues, heard) = c.in-Reply.ensures.heard in
    let replies = replies_at c.day.inside.count c.args.talk.day.count c.args.talk.number (ap (λ (x : Seen). x.count) c.day.view_is) c.args.talk.reader line c.in-Reply.reply c.hear.new.reader heard in
    let st1 = stands_ask g.F.Fn c.args.rules.now.tariff.now g.U.Fn c.args.rules.now.weigh.now s end_follows real old done c.args.talk.bad c.args.talk.day c.args.talk.reader c.args.talk.number (Line line) from _ _ log0 _ st continues in
    let did = c.answer.ensures.did refl in
    let after = replied g.F.Fn c.args.rules.now.tariff.now g.U.Fn c.args.rules.now.weigh.now s real old from log0 done c.args.talk.bad c.args.talk.day c.answer.result.day c.args.talk.reader _ c.args.talk.number line
    (g.C.Console.transcript c.hear.new.console) (g.C.Console.transcript c.answer.new.console) _ _ st1 c.in-Reply.reply did.failure _ _ _ _
    (g.met.C.Console.exposed c.hear.new.console) (g.met.C.Console.exposed c.answer.new.console) (replies st1.pending st1.holds) (has_log c.in-Reply.reply c.hear.new.reader.text _ _ _ _ (subst (λ (x : List ℕ). LogsReply c.in-Reply.reply x None (g.L.Sink.written c.args.log.now) (g.L.Sink.written c.log_reply.new.log) (g.L.Sink.faults c.args.log.now) (g.L.Sink.faults c.log_reply.new.log)) c.as_slice.ensures c.in-None.ensures)) did.did in
    subst (λ (k : Course). AfterExchange g.F.Fn c.args.rules.now.tariff.now g.U.Fn c.args.rules.now.weigh.now s real old from log0 k c.answer.result.bad c.answer.result.day c.answer.result.reader c.args.talk.number
    (g.C.Console.transcript c.answer.new.console) (g.L.Sink.written c.log_reply.new.log)) (sym did.goes_on)
    (subst (λ (b : Option ℕ). AfterExchange g.F.Fn c.args.rules.now.tariff.now g.U.Fn c.args.rules.now.weigh.now s real old from log0 (course_after did.failure) b c.answer.result.day c.answer.result.reader c.args.talk.number
    (g.C.Console.transcript c.answer.new.console) (g.L.Sink.written c.log_reply.new.log)) (sym c.answer.ensures.bad)
    (subst (λ (r : ItemReader). AfterExchange g.F.Fn c.args.rules.now.tariff.now g.U.Fn c.args.rules.now.weigh.now s real old from log0 (course_after did.failure) (bad_after c.in-Reply.reply c.args.talk.number c.args.talk.bad) c.answer.result.day r c.args.talk.number
    (g.C.Console.transcript c.answer.new.console) (g.L.Sink.written c.log_reply.new.log)) (sym c.answer.ensures.reader) after))

pub returns-in-Some-clause-keeps : goal.returns-in-Some-clause-keeps
returns-in-Some-clause-keeps g c = one_short c.in-Some.failure c.args.talk.day

pub returns-in-Some-clause-said : goal.returns-in-Some-clause-said
returns-in-Some-clause-said g c = λ s real old done from log0 st.
    let (line, continues, heard) = c.in-Reply.ensures.heard in
    let replies = replies_at c.day.inside.count c.args.talk.day.count c.args.talk.number (ap (λ (x : Seen). x.count) c.day.view_is) c.args.talk.reader line c.in-Reply.reply c.hear.new.reader heard in
    let st1 = stands_ask g.F.Fn c.args.rules.now.tariff.now g.U.Fn c.args.rules.now.weigh.now s end_follows real old done c.args.talk.bad c.args.talk.day c.args.talk.reader c.args.talk.number (Line line) from _ _ log0 _ st continues in
    unlogged_by g.F.Fn c.args.rules.now.tariff.now g.U.Fn c.args.rules.now.weigh.now s real old from log0 done c.args.talk.bad c.args.talk.day c.args.talk.day c.args.talk.reader _ c.args.talk.number line
    (g.C.Console.transcript c.hear.new.console) (g.C.Console.transcript c.hear.new.console) _ _ st1 c.in-Reply.reply c.in-Some.failure _ _ refl (replies st1.pending st1.holds)
    (subst (λ (x : List ℕ). LogsReply c.in-Reply.reply x (Some c.in-Some.failure) (g.L.Sink.written c.args.log.now) (g.L.Sink.written c.log_reply.new.log) (g.L.Sink.faults c.args.log.now) (g.L.Sink.faults c.log_reply.new.log)) c.as_slice.ensures c.in-Some.ensures)

pub returns-in-End-clause-keeps : goal.returns-in-End-clause-keeps
returns-in-End-clause-keeps g c = one_still course.Ends c.args.talk.day refl c.requires.ready c.requires.open

pub returns-in-End-clause-said : goal.returns-in-End-clause-said
returns-in-End-clause-said g c = λ s real old done from log0 st.
    let (continues, same) = c.in-End.ensures.heard in (
      last_asked g.F.Fn c.args.rules.now.tariff.now g.U.Fn c.args.rules.now.weigh.now s _ End _ continues,
      (
        done,
        subst (λ (r : ItemReader). Stands g.F.Fn c.args.rules.now.tariff.now g.U.Fn c.args.rules.now.weigh.now s real old done c.args.talk.bad c.args.talk.day r c.args.talk.number [] from (g.C.Console.transcript c.hear.new.console) log0 (g.L.Sink.written c.args.log.now)) (sym same)
            (stands_ask g.F.Fn c.args.rules.now.tariff.now g.U.Fn c.args.rules.now.weigh.now s end_follows real old done c.args.talk.bad c.args.talk.day c.args.talk.reader c.args.talk.number End from _ _ log0 _ st continues),
      ),
    )

pub returns-in-Failed-clause-keeps : goal.returns-in-Failed-clause-keeps
returns-in-Failed-clause-keeps g c = one_still course.Fails c.args.talk.day refl c.requires.ready c.requires.open

pub returns-in-Failed-clause-said : goal.returns-in-Failed-clause-said
returns-in-Failed-clause-said g c = λ s real old done from log0 st.
    let (continues, same) = c.in-Failed.ensures.heard in (
      last_asked g.F.Fn c.args.rules.now.tariff.now g.U.Fn c.args.rules.now.weigh.now s _ Failed _ continues,
      (
        done,
        subst (λ (r : ItemReader). Stands g.F.Fn c.args.rules.now.tariff.now g.U.Fn c.args.rules.now.weigh.now s real old done c.args.talk.bad c.args.talk.day r c.args.talk.number [] from (g.C.Console.transcript c.hear.new.console) log0 (g.L.Sink.written c.args.log.now)) (sym same)
            (stands_ask g.F.Fn c.args.rules.now.tariff.now g.U.Fn c.args.rules.now.weigh.now s end_follows real old done c.args.talk.bad c.args.talk.day c.args.talk.reader c.args.talk.number Failed from _ _ log0 _ st continues),
      ),
    )

pub returns-in-NoMemory-clause-keeps : goal.returns-in-NoMemory-clause-keeps
returns-in-NoMemory-clause-keeps g c = one_short failures.Memory c.args.talk.day

pub returns-in-NoMemory-clause-said : goal.returns-in-NoMemory-clause-said
returns-in-NoMemory-clause-said g c = λ s real old done from log0 st.
    unheard g.F.Fn c.args.rules.now.tariff.now g.U.Fn c.args.rules.now.weigh.now s real old from log0 done c.args.talk.bad c.args.talk.day c.args.talk.reader c.args.talk.number
    (g.C.Console.transcript c.args.console.now) (g.C.Console.transcript c.hear.new.console) (g.L.Sink.written c.args.log.now) st c.in-NoMemory.ensures.heard

-- ON BLANK DEVICES
pub returns-in-None-clause-anew : goal.returns-in-None-clause-anew
returns-in-None-clause-anew g c = λ s old from log0.
    let (line, continues, heard) = c.in-Reply.ensures.heard in
    let replies = replies_at c.day.inside.count c.args.talk.day.count c.args.talk.number (ap (λ (x : Seen). x.count) c.day.view_is) c.args.talk.reader line c.in-Reply.reply c.hear.new.reader heard in
    let did = c.answer.ensures.did refl in
    reply_anew g.F.Fn c.args.rules.now.tariff.now g.U.Fn c.args.rules.now.weigh.now s old from log0 c.answer.result.course c.args.talk.bad c.answer.result.bad c.args.talk.day c.answer.result.day c.args.talk.reader c.hear.new.reader c.answer.result.reader c.args.talk.number line
    (g.C.Console.transcript c.args.console.now) (g.C.Console.transcript c.hear.new.console) (g.C.Console.transcript c.answer.new.console) (g.L.Sink.written c.args.log.now) (g.L.Sink.written c.log_reply.new.log) _ _ c.in-Reply.reply did.failure _ _
    (g.L.Sink.faults c.args.log.now) (g.L.Sink.faults c.log_reply.new.log) (g.met.C.Console.exposed c.hear.new.console) (g.met.C.Console.exposed c.answer.new.console) continues replies
    (subst (λ (x : List ℕ). LogsReply c.in-Reply.reply x None (g.L.Sink.written c.args.log.now) (g.L.Sink.written c.log_reply.new.log) (g.L.Sink.faults c.args.log.now) (g.L.Sink.faults c.log_reply.new.log)) c.as_slice.ensures c.in-None.ensures)
    did.did (returns-in-None-clause-keeps g c).keeps.same did.goes_on c.answer.ensures.bad c.answer.ensures.reader (λ done st. returns-in-None-clause-said g c s false (with_new_disc old) done from log0 st)

pub returns-in-Some-clause-anew : goal.returns-in-Some-clause-anew
returns-in-Some-clause-anew g c = λ s old from log0.
    let (line, continues, heard) = c.in-Reply.ensures.heard in
    let replies = replies_at c.day.inside.count c.args.talk.day.count c.args.talk.number (ap (λ (x : Seen). x.count) c.day.view_is) c.args.talk.reader line c.in-Reply.reply c.hear.new.reader heard in
    unlogged_anew g.F.Fn c.args.rules.now.tariff.now g.U.Fn c.args.rules.now.weigh.now s old from log0 c.args.talk.bad c.args.talk.day c.args.talk.reader c.hear.new.reader c.args.talk.number line (g.C.Console.transcript c.args.console.now) (g.C.Console.transcript c.hear.new.console)
    (g.L.Sink.written c.args.log.now) (g.L.Sink.written c.log_reply.new.log) c.in-Reply.reply c.in-Some.failure (g.L.Sink.faults c.args.log.now) (g.L.Sink.faults c.log_reply.new.log) continues replies
    (subst (λ (x : List ℕ). LogsReply c.in-Reply.reply x (Some c.in-Some.failure) (g.L.Sink.written c.args.log.now) (g.L.Sink.written c.log_reply.new.log) (g.L.Sink.faults c.args.log.now) (g.L.Sink.faults c.log_reply.new.log)) c.as_slice.ensures c.in-Some.ensures)
    (λ done st. returns-in-Some-clause-said g c s false (with_new_disc old) done from log0 st)

pub returns-in-End-clause-anew : goal.returns-in-End-clause-anew
returns-in-End-clause-anew g c = λ s old from log0.
    let (continues, same) = c.in-End.ensures.heard in
    ends_anew g.F.Fn c.args.rules.now.tariff.now g.U.Fn c.args.rules.now.weigh.now s old from log0 c.args.talk.bad c.args.talk.day c.args.talk.reader c.hear.new.reader c.args.talk.number (g.C.Console.transcript c.args.console.now) (g.C.Console.transcript c.hear.new.console) (g.L.Sink.written c.args.log.now)
    continues same (λ done st. returns-in-End-clause-said g c s false (with_new_disc old) done from log0 st)

pub returns-in-Failed-clause-anew : goal.returns-in-Failed-clause-anew
returns-in-Failed-clause-anew g c = λ s old from log0.
    let (continues, same) = c.in-Failed.ensures.heard in
    fails_anew g.F.Fn c.args.rules.now.tariff.now g.U.Fn c.args.rules.now.weigh.now s old from log0 c.args.talk.bad c.args.talk.day c.args.talk.reader c.hear.new.reader c.args.talk.number (g.C.Console.transcript c.args.console.now) (g.C.Console.transcript c.hear.new.console) (g.L.Sink.written c.args.log.now)
    continues same (λ done st. returns-in-Failed-clause-said g c s false (with_new_disc old) done from log0 st)

pub returns-in-NoMemory-clause-anew : goal.returns-in-NoMemory-clause-anew
returns-in-NoMemory-clause-anew g c = λ s old from log0.
    unheard_anew g.F.Fn c.args.rules.now.tariff.now g.U.Fn c.args.rules.now.weigh.now s old from log0 c.args.talk.bad c.args.talk.day c.args.talk.reader c.hear.new.reader c.args.talk.number (g.C.Console.transcript c.args.console.now) (g.C.Console.transcript c.hear.new.console) (g.L.Sink.written c.args.log.now)
    failures.Memory c.in-NoMemory.ensures.heard (λ done st. returns-in-NoMemory-clause-said g c s false (with_new_disc old) done from log0 st)

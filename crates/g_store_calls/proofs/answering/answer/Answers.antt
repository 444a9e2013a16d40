use Rattle.std.proofs.Common.{Err, subst}
use Rattle.g_store_calls.specs.GrantedCalls.{Grants}
use Rattle.g_store_calls.proofs.CalmLemmas.{refused}
use Rattle.g_store_calls.proofs.GrantedLemmas.{input_named, none_named, output_named}
use Rattle.g_store_calls.proofs.KindLemmas.{kind_of, over, settled_refused}
use Rattle.g_disc_contents.specs.Contents.{recs_in}
use Rattle.g_store_calls.proofs.answering.answer.Goals as goal

pub returns-in-Err-clause-answers : goal.returns-in-Err-clause-answers
returns-in-Err-clause-answers g c =
    over c.args.who.now c.args.call.now c.args.online.now c.args.online.now (g.T.Tapes.rack c.args.tapes.now) (Err c.in-Err.fault)
    (refused c.args.online.now c.args.who.now c.args.call.now c.requires.live c.in-Err.fault c.in-Err.ensures.refused)

pub returns-in-Err-clause-kind : goal.returns-in-Err-clause-kind
returns-in-Err-clause-kind g c =
    let o = c.args.online.now in
    kind_of c.args.call.now (g.T.Tapes.rack c.args.tapes.now) (Err c.in-Err.fault) (settled_refused o.contents.users (recs_in o.contents) o.contents.head.next_stamp c.args.who.now c.args.call.now c.in-Err.fault c.in-Err.ensures.refused)

pub without_file-requires-clause-granted : goal.without_file-requires-clause-granted
without_file-requires-clause-granted g c = subst (Grants c.args.online.now c.args.who.now c.args.call.now) c.in-Ok-Nothing.field-0-is c.in-Ok-Nothing.ensures.granted

pub returns-in-Ok-Nothing-clause-answers : goal.returns-in-Ok-Nothing-clause-answers
returns-in-Ok-Nothing-clause-answers g c =
    over c.args.who.now c.args.call.now c.args.online.now c.without_file.new.online (g.T.Tapes.rack c.args.tapes.now) c.without_file.result c.without_file.ensures.answers

pub returns-in-Ok-Nothing-clause-kind : goal.returns-in-Ok-Nothing-clause-kind
returns-in-Ok-Nothing-clause-kind g c = kind_of c.args.call.now (g.T.Tapes.rack c.args.tapes.now) c.without_file.result c.without_file.ensures.kind

pub of_file-requires-clause-granted : goal.of_file-requires-clause-granted
of_file-requires-clause-granted g c = (c.args.who.now, subst (Grants c.args.online.now c.args.who.now c.args.call.now) c.in-Ok-Input.field-0-is c.in-Ok-Input.ensures.granted)

pub returns-in-Ok-Input-clause-answers : goal.returns-in-Ok-Input-clause-answers
returns-in-Ok-Input-clause-answers g c = c.of_file.ensures.answers c.args.who.now (subst (Grants c.args.online.now c.args.who.now c.args.call.now) c.in-Ok-Input.field-0-is c.in-Ok-Input.ensures.granted)

pub for_output-requires-clause-granted : goal.for_output-requires-clause-granted
for_output-requires-clause-granted g c = (c.args.who.now, subst (Grants c.args.online.now c.args.who.now c.args.call.now) c.in-Ok-Output.field-0-is c.in-Ok-Output.ensures.granted)

pub returns-in-Ok-Output-clause-answers : goal.returns-in-Ok-Output-clause-answers
returns-in-Ok-Output-clause-answers g c = c.for_output.ensures.answers (g.T.Tapes.rack c.args.tapes.now) c.args.who.now (subst (Grants c.args.online.now c.args.who.now c.args.call.now) c.in-Ok-Output.field-0-is c.in-Ok-Output.ensures.granted)

pub returns-in-Ok-Output-clause-kind : goal.returns-in-Ok-Output-clause-kind
returns-in-Ok-Output-clause-kind g c = kind_of c.args.call.now (g.T.Tapes.rack c.args.tapes.now) c.for_output.result c.for_output.ensures.kind

pub without_file-requires-clause-named : goal.without_file-requires-clause-named
without_file-requires-clause-named g c = none_named c.args.online.now c.args.who.now c.args.call.now (subst (Grants c.args.online.now c.args.who.now c.args.call.now) c.in-Ok-Nothing.field-0-is c.in-Ok-Nothing.ensures.granted)

pub of_file-requires-clause-named : goal.of_file-requires-clause-named
of_file-requires-clause-named g c = input_named c.args.online.now c.args.who.now c.args.call.now c.in-Ok-Input.number c.in-Ok-Input.full (subst (Grants c.args.online.now c.args.who.now c.args.call.now) c.in-Ok-Input.field-0-is c.in-Ok-Input.ensures.granted)

pub for_output-requires-clause-named : goal.for_output-requires-clause-named
for_output-requires-clause-named g c = output_named c.args.online.now c.args.who.now c.args.call.now c.in-Ok-Output.number c.in-Ok-Output.full (subst (Grants c.args.online.now c.args.who.now c.args.call.now) c.in-Ok-Output.field-0-is c.in-Ok-Output.ensures.granted)

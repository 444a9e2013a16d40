-- A call is refused on zeros as on the bytes, and named so too.
use Rattle.g_plain.specs.Grants.{name_granted, name_in}
use Rattle.g_tree.specs.AskedRecords.{zeros}
use Rattle.g_tree.specs.Records.{number_of, tree_of}
use Rattle.g_tree.proofs.GrantLemmas.{allowed_as, granted_as, input_found, numbered, refused_as}
use Rattle.g_tree.proofs.asked.refusal_of.Goals as goal

pub by_number-requires-clause-numbered : goal.by_number-requires-clause-numbered
by_number-requires-clause-numbered c =
    let t = c.args.tree.now in
    numbered t.users t.files c.users-users.ensures.records c.args.next c.args.who.now c.args.call.now c.in-Ok.granted c.in-Ok.ensures

pub by_number-requires-clause-there : goal.by_number-requires-clause-there
by_number-requires-clause-there c = λ full named.
    let t = c.args.tree.now in
    input_found t.users t.files c.users-users.ensures.records c.args.next c.args.who.now c.args.call.now c.in-Ok.granted c.in-Ok.ensures full named

pub returns-in-Ok-clause-refused : goal.returns-in-Ok-clause-refused
returns-in-Ok-clause-refused c = λ bytes lengths.
    let t = c.args.tree.now in
    allowed_as t.users t.files c.users-users.ensures.records c.args.next c.args.who.now c.args.call.now c.in-Ok.granted c.in-Ok.ensures bytes lengths

pub returns-in-Ok-clause-granted : goal.returns-in-Ok-clause-granted
returns-in-Ok-clause-granted c =
    let t = c.args.tree.now in
    granted_as t.users t.files c.users-users.ensures.records c.args.next c.args.who.now c.args.call.now c.in-Ok.granted c.in-Ok.ensures c.by_number.result c.by_number.ensures

pub returns-in-Err-clause-refused : goal.returns-in-Err-clause-refused
returns-in-Err-clause-refused c = λ bytes lengths.
    let t = c.args.tree.now in
    let tree = tree_of t.users t.files zeros c.args.next in
    refused_as t.users t.files c.users-users.ensures.records c.args.next c.args.who.now c.args.call.now bytes c.in-Err.fault (name_granted (number_of t.users t.files) (name_in tree c.args.who.now c.args.call.now)) c.in-Err.ensures lengths

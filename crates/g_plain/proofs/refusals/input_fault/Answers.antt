-- The file is that which the call's path names.
use Rattle.std.proofs.Common.{sym, ap, ◌∙◌}
use Rattle.g_plain.specs.PlainTree.{input_name}
use Rattle.g_plain.specs.PlainStep.{fault_in}
use Rattle.g_plain.specs.Grants.{name_in}
use Rattle.g_plain.proofs.Fronts.{same_input}
use Rattle.g_plain.proofs.refusals.input_fault.Goals as goal

pub append-requires-clause-named : goal.append-requires-clause-named
append-requires-clause-named g c =
    let t = g.Q.Questions.tree c.args.questions.now in
    same_input c.args.file.now.full (input_name t c.args.who.now c.in-Append.path) (c.requires.named ∙ ap (name_in t c.args.who.now) c.in-Append.is)

pub returns-in-Append : goal.returns-in-Append
returns-in-Append g c = c.append.ensures ∙ ap (fault_in (g.Q.Questions.tree c.args.questions.now) c.args.who.now) (sym c.in-Append.is)

pub closed_to-requires-clause-named : goal.closed_to-requires-clause-named
closed_to-requires-clause-named g c =
    let t = g.Q.Questions.tree c.args.questions.now in
    same_input c.args.file.now.full (input_name t c.args.who.now c.in-Fetch.path) (c.requires.named ∙ ap (name_in t c.args.who.now) c.in-Fetch.is)

pub returns-in-Fetch : goal.returns-in-Fetch
returns-in-Fetch g c = c.closed_to.ensures ∙ ap (fault_in (g.Q.Questions.tree c.args.questions.now) c.args.who.now) (sym c.in-Fetch.is)

pub returns-in-Erase : goal.returns-in-Erase
returns-in-Erase g c = c.closed_to-in-Erase.ensures ∙ ap (fault_in (g.Q.Questions.tree c.args.questions.now) c.args.who.now) (sym c.in-Erase.is)

pub rename-requires-clause-named : goal.rename-requires-clause-named
rename-requires-clause-named g c =
    let t = g.Q.Questions.tree c.args.questions.now in
    same_input c.args.file.now.full (input_name t c.args.who.now c.in-Rename.path) (c.requires.named ∙ ap (name_in t c.args.who.now) c.in-Rename.is)

pub returns-in-Rename : goal.returns-in-Rename
returns-in-Rename g c = c.rename.ensures ∙ ap (fault_in (g.Q.Questions.tree c.args.questions.now) c.args.who.now) (sym c.in-Rename.is)

pub trap_go-requires-clause-named : goal.trap_go-requires-clause-named
trap_go-requires-clause-named g c =
    let t = g.Q.Questions.tree c.args.questions.now in
    same_input c.args.file.now.full (input_name t c.args.who.now c.in-TrapGo.path) (c.requires.named ∙ ap (name_in t c.args.who.now) c.in-TrapGo.is)

pub returns-in-TrapGo : goal.returns-in-TrapGo
returns-in-TrapGo g c = c.trap_go.ensures ∙ ap (fault_in (g.Q.Questions.tree c.args.questions.now) c.args.who.now) (sym c.in-TrapGo.is)

pub trap_stop-requires-clause-named : goal.trap_stop-requires-clause-named
trap_stop-requires-clause-named g c =
    let t = g.Q.Questions.tree c.args.questions.now in
    same_input c.args.file.now.full (input_name t c.args.who.now c.in-TrapStop.path) (c.requires.named ∙ ap (name_in t c.args.who.now) c.in-TrapStop.is)

pub returns-in-TrapStop : goal.returns-in-TrapStop
returns-in-TrapStop g c = c.trap_stop.ensures c.in-TrapStop.modes ∙ ap (fault_in (g.Q.Questions.tree c.args.questions.now) c.args.who.now) (sym c.in-TrapStop.is)

pub trap_check-requires-clause-named : goal.trap_check-requires-clause-named
trap_check-requires-clause-named g c =
    let t = g.Q.Questions.tree c.args.questions.now in
    same_input c.args.file.now.full (input_name t c.args.who.now c.in-TrapCheck.path) (c.requires.named ∙ ap (name_in t c.args.who.now) c.in-TrapCheck.is)

pub returns-in-TrapCheck : goal.returns-in-TrapCheck
returns-in-TrapCheck g c = c.trap_check.ensures ∙ ap (fault_in (g.Q.Questions.tree c.args.questions.now) c.args.who.now) (sym c.in-TrapCheck.is)

pub returns-in-Retrieve : goal.returns-in-Retrieve
returns-in-Retrieve g c = c.closed_to-in-Retrieve.ensures ∙ ap (fault_in (g.Q.Questions.tree c.args.questions.now) c.args.who.now) (sym c.in-Retrieve.is)

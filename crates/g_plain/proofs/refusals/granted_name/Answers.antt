-- A call is granted the name of its file, independent of its other arguments.
use Rattle.std.proofs.Common.{None, refl, sym, ap, ◌∙◌}
use Rattle.g_plain.specs.declared.refusals.CallName.TheVariants.{Nothing}
use Rattle.g_plain.specs.declared.refusals.GrantedName.{GrantedName}
use Rattle.g_plain.specs.Grants.{fault_or, name_in}
use Rattle.g_plain.proofs.Fronts.{known_granted}
use Rattle.g_plain.proofs.refusals.granted_name.Goals as goal

abbrev no_file : GrantedName
no_file = record { name = Nothing; number = None }

pub returns-in-NewUser : goal.returns-in-NewUser
returns-in-NewUser g c =
    known_granted (g.Q.Questions.numbers c.args.questions.now) _ _ _ _ _ (sym c.has_user.ensures ∙ c.if-not-has_user.false) c.in-NewUser.is
    (c.nameless.ensures ∙ ap (λ o. fault_or o no_file) (c.new_user.ensures c.args.who.now c.in-NewUser.space c.in-NewUser.time c.in-NewUser.money))

pub returns-in-Budget : goal.returns-in-Budget
returns-in-Budget g c =
    known_granted (g.Q.Questions.numbers c.args.questions.now) _ _ _ _ _ (sym c.has_user.ensures ∙ c.if-not-has_user.false) c.in-Budget.is
    (c.nameless-in-Budget.ensures ∙ ap (λ o. fault_or o no_file) (c.budget.ensures c.in-Budget.kind c.in-Budget.amount))

pub input-requires-clause-path : goal.input-requires-clause-path
input-requires-clause-path g c = sym (ap (name_in (g.Q.Questions.tree c.args.questions.now) c.args.who.now) c.in-Append.is)

pub returns-in-Append : goal.returns-in-Append
returns-in-Append g c =
    known_granted (g.Q.Questions.numbers c.args.questions.now) (g.Q.Questions.tree c.args.questions.now) c.args.who.now c.args.call.now c.args.call.now c.input.result (sym c.has_user.ensures ∙ c.if-not-has_user.false) refl c.input.ensures

pub returns-in-Fetch : goal.returns-in-Fetch
returns-in-Fetch g c =
    known_granted (g.Q.Questions.numbers c.args.questions.now) (g.Q.Questions.tree c.args.questions.now) c.args.who.now c.args.call.now c.args.call.now c.input-in-Fetch.result (sym c.has_user.ensures ∙ c.if-not-has_user.false) refl c.input-in-Fetch.ensures

pub returns-in-Erase : goal.returns-in-Erase
returns-in-Erase g c =
    known_granted (g.Q.Questions.numbers c.args.questions.now) (g.Q.Questions.tree c.args.questions.now) c.args.who.now c.args.call.now c.args.call.now c.input-in-Erase.result (sym c.has_user.ensures ∙ c.if-not-has_user.false) refl c.input-in-Erase.ensures

pub returns-in-Rename : goal.returns-in-Rename
returns-in-Rename g c =
    known_granted (g.Q.Questions.numbers c.args.questions.now) (g.Q.Questions.tree c.args.questions.now) c.args.who.now c.args.call.now c.args.call.now c.input-in-Rename.result (sym c.has_user.ensures ∙ c.if-not-has_user.false) refl c.input-in-Rename.ensures

pub returns-in-TrapGo : goal.returns-in-TrapGo
returns-in-TrapGo g c =
    known_granted (g.Q.Questions.numbers c.args.questions.now) (g.Q.Questions.tree c.args.questions.now) c.args.who.now c.args.call.now c.args.call.now c.input-in-TrapGo.result (sym c.has_user.ensures ∙ c.if-not-has_user.false) refl c.input-in-TrapGo.ensures

pub returns-in-TrapStop : goal.returns-in-TrapStop
returns-in-TrapStop g c =
    known_granted (g.Q.Questions.numbers c.args.questions.now) (g.Q.Questions.tree c.args.questions.now) c.args.who.now c.args.call.now c.args.call.now c.input-in-TrapStop.result (sym c.has_user.ensures ∙ c.if-not-has_user.false) refl c.input-in-TrapStop.ensures

pub returns-in-TrapCheck : goal.returns-in-TrapCheck
returns-in-TrapCheck g c =
    known_granted (g.Q.Questions.numbers c.args.questions.now) (g.Q.Questions.tree c.args.questions.now) c.args.who.now c.args.call.now c.args.call.now c.input-in-TrapCheck.result (sym c.has_user.ensures ∙ c.if-not-has_user.false) refl c.input-in-TrapCheck.ensures

pub returns-in-Retrieve : goal.returns-in-Retrieve
returns-in-Retrieve g c =
    known_granted (g.Q.Questions.numbers c.args.questions.now) (g.Q.Questions.tree c.args.questions.now) c.args.who.now c.args.call.now c.args.call.now c.input-in-Retrieve.result (sym c.has_user.ensures ∙ c.if-not-has_user.false) refl c.input-in-Retrieve.ensures

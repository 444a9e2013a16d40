-- The checks of closing modes precede that of a ninth user.
use Rattle.std.proofs.Common.{◌≡◌, ◌∙◌, Bool, [], ◌∷◌, List, ℕ, not, ◌&&◌, ◌==◌, nat_le, is_none, sym, ap}
use Rattle.std.specs.FinMap.{get, len}
use Rattle.g_name.specs.declared.full.Full.{Full}
use Rattle.g_name.specs.declared.path.Path.{Path}
use Rattle.g_plain.specs.declared.calls.StoreCall.TheVariants.{TrapStop}
use Rattle.g_plain.specs.declared.faults.StoreFault.TheVariants.{TrapsFull}
use Rattle.g_plain.specs.PlainTree.{Tree, has_file, file_row, input_name}
use Rattle.g_plain.specs.PlainStep.{Checks, checks}
use Rattle.g_plain.proofs.StepKept.{not_false}
use Rattle.g_plain.proofs.Fronts.{front_fault, front_tests, last_fault}
use Rattle.g_plain.proofs.refusals.trap_go.Goals as goal

abbrev would_be_ninth : Tree → List ℕ → ℕ → Full → Bool
would_be_ninth t user modes full =
    let traps = (file_row t full).traps in
    not (modes == 0) && is_none (get traps user) && nat_le 9 (len traps)

answered : (t : Tree) (user : List ℕ) (modes : ℕ) (full other : Full) (result b : Bool) → result ≡ b → result ≡ would_be_ninth t user modes full → full ≡ other → b ≡ would_be_ninth t user modes other
answered t user modes full other result b is told same = sym is ∙ told ∙ ap (would_be_ninth t user modes) same

abbrev front : Tree → List ℕ → Path → List ℕ → ℕ → Checks
front t who path user modes = checks t who (TrapStop path user modes)

pub returns-then-is_some : goal.returns-then-is_some
returns-then-is_some g c =
    let t = g.Q.Questions.tree c.args.questions.now in
    let last = would_be_ninth t c.args.user.now c.args.modes (input_name t c.args.who.now c.args.path.now) in
    front_fault (front t c.args.who.now c.args.path.now c.args.user.now c.args.modes) ((last, TrapsFull) ∷ []) c.trap_stop-refused.result
    (c.trap_stop-refused.ensures c.args.modes) (sym c.is_some.ensures ∙ c.if-is_some.true)

pub is_ninth-requires-clause-file : goal.is_ninth-requires-clause-file
is_ninth-requires-clause-file g c =
    let t = g.Q.Questions.tree c.args.questions.now in
    let p = front_tests (front t c.args.who.now c.args.path.now c.args.user.now c.args.modes) c.trap_stop-refused.result
    (c.trap_stop-refused.ensures c.args.modes) (sym c.is_some.ensures ∙ c.if-is_some.false) in
    ap (has_file t) c.requires.named ∙ not_false _ p.1.0

pub is_ninth-requires-clause-user : goal.is_ninth-requires-clause-user
is_ninth-requires-clause-user g c =
    let t = g.Q.Questions.tree c.args.questions.now in
    let p = front_tests (front t c.args.who.now c.args.path.now c.args.user.now c.args.modes) c.trap_stop-refused.result
    (c.trap_stop-refused.ensures c.args.modes) (sym c.is_some.ensures ∙ c.if-is_some.false) in
    not_false _ p.1.1.0

pub returns-then-is_ninth : goal.returns-then-is_ninth
returns-then-is_ninth g c =
    let t = g.Q.Questions.tree c.args.questions.now in
    let full = input_name t c.args.who.now c.args.path.now in
    last_fault (front t c.args.who.now c.args.path.now c.args.user.now c.args.modes)
    (would_be_ninth t c.args.user.now c.args.modes full) TrapsFull c.trap_stop-refused.result _
    (c.trap_stop-refused.ensures c.args.modes) (sym c.is_some.ensures ∙ c.if-is_some.false)
    (answered t c.args.user.now c.args.modes c.args.file.now.full full _ _ c.if-is_ninth.true c.is_ninth.ensures c.requires.named)

pub returns-else-is_ninth : goal.returns-else-is_ninth
returns-else-is_ninth g c =
    let t = g.Q.Questions.tree c.args.questions.now in
    let full = input_name t c.args.who.now c.args.path.now in
    last_fault (front t c.args.who.now c.args.path.now c.args.user.now c.args.modes)
    (would_be_ninth t c.args.user.now c.args.modes full) TrapsFull c.trap_stop-refused.result _
    (c.trap_stop-refused.ensures c.args.modes) (sym c.is_some.ensures ∙ c.if-is_some.false)
    (answered t c.args.user.now c.args.modes c.args.file.now.full full _ _ c.if-is_ninth.false c.is_ninth.ensures c.requires.named)

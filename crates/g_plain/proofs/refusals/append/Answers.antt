-- Missing users and files and closed modes are checked before the size, and the size before the stamps.
use Rattle.std.proofs.Common.{[], ◌∷◌, ◌++◌, ◌+◌, length, sym, ◌∙◌}
use Rattle.g_trap.specs.declared.mode_set.Mode.TheVariants as mode
use Rattle.g_plain.specs.declared.calls.StoreCall.TheVariants.{Fetch}
use Rattle.g_plain.specs.PlainTree.{file_row, input_name}
use Rattle.g_plain.specs.PlainStep.{checks, size_checks, spent_check}
use Rattle.g_plain.proofs.Fronts.{front_fault}
use Rattle.g_plain.proofs.refusals.append.Goals as goal

pub returns-then-is_some : goal.returns-then-is_some
returns-then-is_some g c =
    let t = g.Q.Questions.tree c.args.questions.now in
    let who = c.args.who.now in
    let path = c.args.path.now in
    let full = input_name t who path in
    front_fault (checks t who (Fetch path mode.Append)) (size_checks t full (length (file_row t full).bytes + length c.args.bytes.now) ++ spent_check t ∷ []) c.closed_to-closed.result c.closed_to-closed.ensures (sym c.is_some.ensures ∙ c.if-is_some.true)

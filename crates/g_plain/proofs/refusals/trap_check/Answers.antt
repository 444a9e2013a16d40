-- Missing users and files are checked before the caller's right to the reply.
use Rattle.std.proofs.Common.{[], ◌∷◌, ◌||◌, not, sym, ap, ◌∙◌}
use Rattle.g_name.specs.Order.{same_text}
use Rattle.g_plain.specs.declared.faults.StoreFault.TheVariants.{NotOwner, NoUser}
use Rattle.g_plain.specs.PlainTree.{has_user, input_name}
use Rattle.g_plain.specs.PlainStep.{input_checks}
use Rattle.g_plain.proofs.Fronts.{front_fault}
use Rattle.g_plain.proofs.refusals.trap_check.Goals as goal

pub returns-then-is_some : goal.returns-then-is_some
returns-then-is_some g c =
    let t = g.Q.Questions.tree c.args.questions.now in
    let who = c.args.who.now in
    let user = c.args.user.now in
    let full = input_name t who c.args.path.now in
    front_fault (input_checks t who c.args.path.now) ((not (has_user t user), NoUser) ∷ (not (same_text who full.user || same_text who user), NotOwner) ∷ [])
    c.missing-absent.result c.missing-absent.ensures (sym c.is_some.ensures ∙ c.if-is_some.true)

pub is_own-requires : goal.is_own-requires
is_own-requires g c = ap (λ f. f.user) c.requires.named

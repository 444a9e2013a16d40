-- Missing users and files are checked before the owner, and the owner before the new name.
use Rattle.std.proofs.Common.{[], ◌∷◌, not, sym, ap, ◌∙◌}
use Rattle.g_name.specs.Order.{same_text}
use Rattle.g_plain.specs.declared.faults.StoreFault.TheVariants.{Exists, NotOwner}
use Rattle.g_plain.specs.PlainTree.{has_file, input_name}
use Rattle.g_plain.specs.PlainStep.{input_checks}
use Rattle.g_plain.proofs.Fronts.{front_fault}
use Rattle.g_plain.proofs.refusals.rename.Goals as goal

pub returns-then-is_some : goal.returns-then-is_some
returns-then-is_some g c =
    let t = g.Q.Questions.tree c.args.questions.now in
    let who = c.args.who.now in
    let full = input_name t who c.args.path.now in
    front_fault (input_checks t who c.args.path.now) ((not (same_text who full.user), NotOwner) ∷ (has_file t (record full { local = c.args.to.now }), Exists) ∷ [])
    c.missing-absent.result c.missing-absent.ensures (sym c.is_some.ensures ∙ c.if-is_some.true)

pub is_own-requires : goal.is_own-requires
is_own-requires g c = ap (λ f. f.user) c.requires.named

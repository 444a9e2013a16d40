-- Two users have two names.
use Rattle.std.proofs.Common.{◌==◌, get_or, ap, ◌∙◌}
use Rattle.g_tree.proofs.LawLemmas.{superior_at}
use Rattle.g_tree.proofs.tree.Tree.is_superior.Goals as goal

pub returns : goal.returns
returns c = λ bytes next.
    let d = c.index-users-user.result in
    ap (λ us. (get_or us c.args.user d).superior == c.args.who) c.users.ensures.value
    ∙ superior_at c.args.self.now.users c.args.self.now.files c.users.ensures.records bytes next c.args.user c.args.who d c.requires

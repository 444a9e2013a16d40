-- No generation of a tree is above 4,095.
use Rattle.std.proofs.Common.{◌≡◌, ◌≤◌, subst, sym, ap, ◌∙◌, fold, max}
use Rattle.std.specs.FinMap as finmap
use Rattle.g_plain.specs.PlainTree.{newest}
use Rattle.g_plain.specs.PlainTree.{generations}
use Rattle.g_plain.proofs.TreeLemmas.{newest-few}
use Rattle.g_plain_store.proofs.plain_tree.PlainTree.newest.Goals as goal

pub returns-clause-few : goal.returns-clause-few
returns-clause-few c =
    let is : c.newest.result ≡ newest c.args.self.now c.args.who.now c.args.path.now =
    c.newest.ensures ∙ ap (λ name. fold max 0 (generations name (finmap.entries c.self.inside.files))) c.named.ensures
    ∙ ap (λ t. newest t c.args.who.now c.args.path.now) c.self.view_is in
    subst (λ n. n ≤ 4095) (sym is) (newest-few c.args.self.now c.args.who.now c.args.path.now c.requires)

-- What has no record has none in the map.
use Rattle.std.proofs.Common.{◌≡◌, ◌<◌, ℕ, None, IfSome, is_some, true, ap, subst, ◌∙◌}
use Rattle.std.specs.FinMap.{get}
use Rattle.g_tree.specs.Records.{by_number}
use Rattle.g_tree.proofs.PlaceLemmas.{rec_found}
use Rattle.g_tree.proofs.ResultLemmas.{some_then}
use Rattle.g_tree.proofs.tree.Tree.free_file.Goals as goal

pub returns-clause-unused : goal.returns-clause-unused
returns-clause-unused c =
    subst (λ s. IfSome c.free.result (λ n. (n < 1024) × (get (by_number s.files) n ≡ None))) c.self.view_is
    (some_then c.free.result (λ n is. (is.0, rec_found c.self.inside.files n ∙ is.1)) c.free.ensures.unused)

pub returns-clause-least : goal.returns-clause-least
returns-clause-least c =
    subst (λ s. IfSome c.free.result (λ n. (lower : ℕ) → lower < n → is_some (get (by_number s.files) lower) ≡ true)) c.self.view_is
    (some_then c.free.result (λ n is lower less. ap is_some (rec_found c.self.inside.files lower) ∙ is lower less) c.free.ensures.least)

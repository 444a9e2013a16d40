-- No block is known.
use Rattle.std.proofs.Common.{◌≡◌, Bool, List, false, replicate, ap, ◌∙◌}
use Rattle.g_dirs.specs.KnownBlocks.{seen}
use Rattle.g_dirs.proofs.KnownLemmas.{seen_nothing}
use Rattle.g_dirs.proofs.known.RememberedBlocks.nothing.Goals as goal

pub returns : goal.returns
returns c =
    let none : c.in_ok-known.known.items ≡ replicate {A = Bool} 1088 false = c.in_ok-known.ensures.items_if_clones_equal (λ y same. same) in
    ap (λ (known : List Bool). seen known c.in_ok-blocks.blocks.items) none
    ∙ ap (seen (replicate 1088 false)) c.in_ok-blocks.ensures.items
    ∙ seen_nothing 1088

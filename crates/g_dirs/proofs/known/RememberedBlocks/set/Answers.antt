-- One more block is known, and the others are unchanged.
use Rattle.std.proofs.Common.{List, Option, ℕ, slice_get, ap, ◌∙◌, arith}
use Rattle.g_base.specs.Fields.{padded}
use Rattle.g_dirs.proofs.KnownLemmas.{set_here, set_rest}
use Rattle.g_dirs.proofs.known.RememberedBlocks.set.Goals as goal

pub returns-clause-here : goal.returns-clause-here
returns-clause-here c =
    set_here c.self.inside.known.items c.self.inside.blocks.items c.put.new.blocks.items c.args.k
    (padded 512 c.args.writer.now) (omega (arith, c.requires, c.self.invariant.0)) c.put.ensures.here

pub returns-clause-rest : goal.returns-clause-rest
returns-clause-rest c = λ j other.
    set_rest c.self.inside.known.items c.self.inside.blocks.items c.put.new.blocks.items c.args.k c.put.ensures.rest j other
    ∙ ap (λ (ps : List (Option (List ℕ))). slice_get ps j) c.self.view_is

-- A known block is compared in its stored form.
use Rattle.std.proofs.Common.{◌≡◌, List, Option, ℕ, true, false, replicate, slice_get, slice_index_or, sym, ap, ◌∙◌, arith}
use Rattle.std.specs.Str.{bytes_eq}
use Rattle.std.proofs.lemmas.Grind.{common_steps}
use Rattle.g_base.specs.Fields.{padded}
use Rattle.g_dirs.specs.Pages.{is_page}
use Rattle.g_dirs.proofs.KnownLemmas.{page_seen}
use Rattle.g_dirs.proofs.known.RememberedBlocks.holds.Goals as goal

pub returns-then-index : goal.returns-then-index
returns-then-index c =
    let is : slice_index_or c.self.inside.known.items c.args.k false ≡ true = grind (arith, common_steps) in
    let at : c.is_at.result ≡ bytes_eq (slice_index_or c.self.inside.blocks.items c.args.k (replicate 512 0)) (padded 512 c.args.writer.now) = grind (arith, common_steps) in
    at
    ∙ sym (page_seen c.self.inside.known.items c.self.inside.blocks.items c.args.k (padded 512 c.args.writer.now) true (omega (arith, c.requires, c.self.invariant.0)) is)
    ∙ ap (λ (ps : List (Option (List ℕ))). is_page (padded 512 c.args.writer.now) (slice_get ps c.args.k)) c.self.view_is

pub returns-else-index : goal.returns-else-index
returns-else-index c =
    let is : slice_index_or c.self.inside.known.items c.args.k false ≡ false = grind (arith, common_steps) in
    sym (page_seen c.self.inside.known.items c.self.inside.blocks.items c.args.k (padded 512 c.args.writer.now) false (omega (arith, c.requires, c.self.invariant.0)) is)
    ∙ ap (λ (ps : List (Option (List ℕ))). is_page (padded 512 c.args.writer.now) (slice_get ps c.args.k)) c.self.view_is

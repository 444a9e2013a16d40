use Rattle.std.proofs.Common.{◌≡◌, ◌<◌, ℕ, Some, false, slice_get}
use Rattle.g_entry.specs.declared.format.Format.TheVariants.{Two}
use Rattle.g_dirs.specs.Image.{block_of}
use Rattle.g_dirs.specs.Pages.{marks_of, pages_of}
use Rattle.g_dirs.proofs.pages.Pages.covers.Given as goal

abbrev pub invariant-loop-k : goal.invariant-loop-k
invariant-loop-k l = (j : ℕ) → j < l.k → slice_get (marks_of l.side l.self) j ≡ Some false → slice_get (pages_of l.side l.self) j ≡ Some (Some (block_of Two l.listing j))

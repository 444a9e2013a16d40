use Rattle.std.proofs.Common.{ℕ, ◌∙◌, length}
use Rattle.std.proofs.lemmas.Bool.Decides.{Decides-eqb}
use Rattle.std.proofs.lemmas.List.{take-replicate}
use Rattle.std.proofs.lemmas.Slice.Eq.{slice_eq-Decides}
use Rattle.g_files.proofs.blank.are_zeros.Goals as goal

pub returns : goal.returns
returns c = λ same. (slice_eq-Decides Decides-eqb _ _ _ c.eq.ensures).0 same ∙ take-replicate {X = ℕ} (length c.args.piece.now) 4096 0 c.requires

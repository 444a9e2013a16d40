-- The orders of names distinguish all names; consequences for maps from names.
-- serves: is_own, StepKept, TreeKept, crates above
use Rattle.std.proofs.Common.{◌≡◌, ℕ, true, List, ◌∙◌}
use Rattle.std.specs.Cmp.{IsTotalOrder, eq_by_cmp_equiv}
use Rattle.std.specs.Cmp.Lexicographic.{nat_list_cmp_total, texts_ties}
use Rattle.std.specs.FinMap.{IsAntisymmetric, slice_cmp-IsAntisymmetric, nat_cmp-IsAntisymmetric}
use Rattle.g_name.specs.Order.{text_cmp, full_cmp, same_text}
use Rattle.g_name.proofs.Order as order

pub text_total : IsTotalOrder text_cmp
text_total = nat_list_cmp_total

pub text_exact : IsAntisymmetric text_cmp
text_exact = slice_cmp-IsAntisymmetric nat_cmp-IsAntisymmetric

pub same_itself : (a : List ℕ) → same_text a a ≡ true
same_itself a = texts_ties a a ∙ (eq_by_cmp_equiv text_total).refl a

pub full_exact : IsAntisymmetric full_cmp
full_exact a b tie = order.full_exact a b tie

-- The comparison of names by their bytes, and the order of full names.
use Rattle.std.specs.Prelude.{ℕ, Bool, List, nat_eq}
use Rattle.std.specs.Ordering.{ordering_then, nat_cmp}
use Rattle.std.specs.declared.cmp.Ordering.{Ordering}
use Rattle.std.specs.Cmp.Lexicographic.{pointwise, slice_cmp}
use Rattle.g_name.specs.declared.full.Full.{Full}

-- The order of texts, by bytes.
abbrev pub text_cmp : List ℕ → List ℕ → Ordering
text_cmp = slice_cmp nat_cmp

-- The texts have the same bytes.
abbrev pub same_text : List ℕ → List ℕ → Bool
same_text a b = pointwise nat_eq a b

-- The order of full names: by user, then local name, generation and language.
abbrev pub full_cmp : Full → Full → Ordering
full_cmp a b =
    ordering_then (text_cmp a.user b.user)
    (ordering_then (text_cmp a.local b.local) (ordering_then (nat_cmp a.generation b.generation) (text_cmp a.lang b.lang)))

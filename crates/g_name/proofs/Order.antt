-- The order of full names: it is total, and no two full names tie.
-- serves: crates above
use Rattle.std.proofs.Common.{◌≡◌, ℕ, List, ap, ◌∙◌}
use Rattle.std.specs.Ordering.{is_eq, eq_by_cmp, nat_cmp, ordering_then}
use Rattle.std.specs.Cmp.{IsTotalOrder, unsigned_ties, tied_then}
use Rattle.std.specs.Cmp.Lexicographic.{texts_ties}
use Rattle.std.specs.declared.cmp.Ordering.{Ordering}
use Rattle.std.proofs.lemmas.Cmp.{nat_cmp_total, nat_list_cmp_total, on_total, then_total}
use Rattle.std.proofs.lemmas.Map.Lookups.{CmpEqualImpliesEq, exact_unsigned, exact_bytes, exact_pairs}
use Rattle.std.specs.Prelude.{Bool, ◌&&◌, nat_eq}
use Rattle.g_name.specs.declared.full.Full.{Full}
use Rattle.g_name.specs.Order.{text_cmp, full_cmp, same_text}

-- the same full name
abbrev pub full_eq : Full → Full → Bool
full_eq a b =
    same_text a.user b.user && (same_text a.local b.local && (nat_eq a.generation b.generation && same_text a.lang b.lang))

pub full_total : IsTotalOrder full_cmp
full_total =
    then_total (on_total (λ (f : Full). f.user) nat_list_cmp_total)
    (then_total (on_total (λ (f : Full). f.local) nat_list_cmp_total)
    (then_total (on_total (λ (f : Full). f.generation) nat_cmp_total) (on_total (λ (f : Full). f.lang) nat_list_cmp_total)))

-- the parts of a full name
abbrev Parts : Type 0
Parts = List ℕ × (List ℕ × (ℕ × List ℕ))

abbrev parts : Full → Parts
parts f = (f.user, (f.local, (f.generation, f.lang)))

abbrev from_parts : Parts → Full
from_parts p = record { user = p.0; local = p.1.0; generation = p.1.1.0; lang = p.1.1.1 }

-- full names that tie are one
pub full_exact : CmpEqualImpliesEq full_cmp
full_exact a b tie =
    let same : parts a ≡ parts b =
    exact_pairs text_cmp (λ p q. ordering_then (text_cmp p.0 q.0) (ordering_then (nat_cmp p.1.0 q.1.0) (text_cmp p.1.1 q.1.1))) exact_bytes
    (exact_pairs text_cmp (λ p q. ordering_then (nat_cmp p.0 q.0) (text_cmp p.1 q.1)) exact_bytes (exact_pairs nat_cmp text_cmp exact_unsigned exact_bytes))
    (parts a) (parts b) tie in
    ap from_parts same

-- Both conditions hold if both comparisons are equal.
both_tie : (x y : Bool) (p q : Ordering) → x ≡ is_eq p → y ≡ is_eq q → (x && y) ≡ is_eq (ordering_then p q)
both_tie x y p q first second = ap (λ (t : Bool). t && y) first ∙ ap (λ (t : Bool). is_eq p && t) second ∙ tied_then p q

-- `==` of full names is a tie of their order
pub full_ties : (a b : Full) → full_eq a b ≡ eq_by_cmp full_cmp a b
full_ties a b =
    both_tie _ _ (text_cmp a.user b.user) _ (texts_ties a.user b.user)
    (both_tie _ _ (text_cmp a.local b.local) _ (texts_ties a.local b.local)
    (both_tie _ _ (nat_cmp a.generation b.generation) (text_cmp a.lang b.lang) (unsigned_ties a.generation b.generation) (texts_ties a.lang b.lang)))

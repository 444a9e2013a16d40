-- The lines of a script determine what it says.
-- serves: one_reading, OnlyLemmas, crates above
use Rattle.std.proofs.Common.{List, None, Option, Some, [], ap, arith, inl, inr, length, refl, subst, sym, ℕ, ◌++◌, ◌+◌, ◌∙◌, ◌∷◌, ◌≡◌, ◌≤◌, ◌⊎◌}
use Rattle.std.proofs.lemmas.List.{append_assoc, length-append}
use Rattle.g_script.proofs.ItemLemmas.{item_unique, nil_cons, none_between, nothing_behind, same_first, same_rest}
use Rattle.g_script.specs.Script.{GoesOn, IsFirstBad, IsItem, IsUnclosed, Say, WrittenItem, behind_head, head_line, item_lines, timed_said}
use Rattle.g_script.specs.declared.operator.Timed.{Timed}

-- of two prefixes of some lines, one is a prefix of the other
abbrev Meet : List (List ℕ) → List (List ℕ) → List ℕ → Type 0
Meet xs front x = ((more : List (List ℕ)) × (xs ≡ front ++ x ∷ more)) ⊎ ((more : List (List ℕ)) × (front ≡ xs ++ more))

meet_on : (y z x : List ℕ) (xs front : List (List ℕ)) → y ≡ z → Meet xs front x → Meet (y ∷ xs) (z ∷ front) x
meet_on y z x xs front same (inl (more, is)) = inl (more, ap (λ (w : List ℕ). w ∷ xs) same ∙ ap (λ (ws : List (List ℕ)). z ∷ ws) is)
meet_on y z x xs front same (inr (more, is)) = inr (more, ap (λ (w : List ℕ). w ∷ front) (sym same) ∙ ap (λ (ws : List (List ℕ)). y ∷ ws) is)

meet : (xs rest front : List (List ℕ)) (x : List ℕ) (behind : List (List ℕ)) → xs ++ rest ≡ front ++ x ∷ behind → Meet xs front x
meet [] rest front x behind e = inr (front, refl)
meet (y ∷ xs) rest [] x behind e = inl (xs, ap (λ (w : List ℕ). w ∷ xs) (same_first y x (xs ++ rest) behind e))
meet (y ∷ xs) rest (z ∷ front) x behind e =
    meet_on y z x xs front (same_first y z (xs ++ rest) (front ++ x ∷ behind) e) (meet xs rest front x behind (same_rest y z (xs ++ rest) (front ++ x ∷ behind) e))

-- if an item continues after a longer prefix, it continues after a shorter one, with its next line
goes_on_before : (front more : List (List ℕ)) (line next : List ℕ) → GoesOn (front ++ line ∷ more) next → GoesOn front line
goes_on_before front more line next (item, is, (others, e)) = (item, is, (more ++ next ∷ others, e ∙ append_assoc front (line ∷ more) (next ∷ others)))

-- lines that begin with an item have no bad line there
pub item_or_bad : (n : ℕ) (lines rest : List (List ℕ)) (item : WrittenItem) (k : ℕ) → IsItem item → lines ≡ item_lines item ++ rest → IsFirstBad n lines k ⊎ IsUnclosed n lines k → ⊥
item_or_bad n lines rest item k is e (inl b) =
    elim (meet (item_lines item) rest b.front b.line b.behind (sym e ∙ b.all)) [
      | inl (more, on) ↦ b.bad (item, is, (more, on))
      | inr (more, on) ↦ let (next, (other, is_other, (others, goes))) = b.begun in
          nothing_behind item other more others next is is_other (goes ∙ ap (λ (ls : List (List ℕ)). ls ++ next ∷ others) on)
    ]
item_or_bad n lines rest item k is e (inr b) =
    let (next, (other, is_other, (others, goes))) = b.begun in
    nothing_behind item other rest others next is is_other (goes ∙ ap (λ (ls : List (List ℕ)). ls ++ next ∷ others) e)

-- the first bad line doesn't follow another
not_behind : (n : ℕ) (lines : List (List ℕ)) (j k : ℕ) (a : IsFirstBad n lines j) (b : IsFirstBad n lines k) → Meet a.front b.front b.line → length a.front ≤ length b.front
not_behind n lines j k a b (inl (more, on)) =
    let (next, goes) = a.begun in
    absurd (b.bad (goes_on_before b.front more b.line next (subst (λ (ls : List (List ℕ)). GoesOn ls next) on goes)))
not_behind n lines j k a b (inr (more, on)) = omega (arith, ap length on, length-append a.front more)

one_bad : (n : ℕ) (lines : List (List ℕ)) (j k : ℕ) → IsFirstBad n lines j → IsFirstBad n lines k → j ≡ k
one_bad n lines j k a b =
    let less = not_behind n lines j k a b (meet a.front (a.line ∷ a.behind) b.front b.line b.behind (sym a.all ∙ b.all)) in
    let more = not_behind n lines k j b a (meet b.front (b.line ∷ b.behind) a.front a.line a.behind (sym b.all ∙ a.all)) in
    omega (arith, less, more, a.place, b.place)

not_both : (n : ℕ) (lines : List (List ℕ)) (j k : ℕ) → IsFirstBad n lines j → IsUnclosed n lines k → ⊥
not_both n lines j k a b =
    let (next, goes) = b.begun in
    a.bad (goes_on_before a.front a.behind a.line next (subst (λ (ls : List (List ℕ)). GoesOn ls next) a.all goes))

bad_unique : (n : ℕ) (lines : List (List ℕ)) (j k : ℕ) → IsFirstBad n lines j ⊎ IsUnclosed n lines j → IsFirstBad n lines k ⊎ IsUnclosed n lines k → j ≡ k
bad_unique n lines j k (inl a) (inl b) = one_bad n lines j k a b
bad_unique n lines j k (inl a) (inr b) = absurd (not_both n lines j k a b)
bad_unique n lines j k (inr a) (inl b) = absurd (not_both n lines k j b a)
bad_unique n lines j k (inr a) (inr b) = a.place ∙ sym b.place

-- no lines have no bad one
none_bad : (n : ℕ) (lines : List (List ℕ)) (k : ℕ) → lines ≡ [] → IsFirstBad n lines k ⊎ IsUnclosed n lines k → ⊥
none_bad n lines k none (inl b) = none_between b.front b.behind b.line (sym none ∙ b.all)
none_bad n lines k none (inr b) = b.some none

pub none_stands : (lines rest : List (List ℕ)) (item : WrittenItem) → lines ≡ [] → lines ≡ item_lines item ++ rest → ⊥
none_stands lines rest item none e = nil_cons (head_line item) (behind_head item.what ++ rest) (sym none ∙ e)

pub reading_unique : (n : ℕ) (lines : List (List ℕ)) (said other : List Timed) (bad other_bad : Option ℕ) → Say n lines said bad → Say n lines other other_bad → (said ≡ other) × (bad ≡ other_bad)
reading_unique n lines [] [] None None a b = (refl, refl)
reading_unique n lines [] [] None (Some k) a b = absurd (none_bad n lines k a b)
reading_unique n lines [] [] (Some j) None a b = absurd (none_bad n lines j b a)
reading_unique n lines [] [] (Some j) (Some k) a b = (refl, ap (λ (i : ℕ). let o : Option ℕ = Some i in o) (bad_unique n lines j k a b))
reading_unique n lines [] (next ∷ other) None bad a (item, is, same, (rest, all, behind)) = absurd (none_stands lines rest item a all)
reading_unique n lines [] (next ∷ other) (Some k) bad a (item, is, same, (rest, all, behind)) = absurd (item_or_bad n lines rest item k is all a)
reading_unique n lines (next ∷ said) [] bad None (item, is, same, (rest, all, behind)) b = absurd (none_stands lines rest item b all)
reading_unique n lines (next ∷ said) [] bad (Some k) (item, is, same, (rest, all, behind)) b = absurd (item_or_bad n lines rest item k is all b)
reading_unique n lines (next ∷ said) (after ∷ other) bad other_bad (item, is, same, (rest, all, behind)) (item', is', same', (rest', all', behind')) =
    let both = item_unique item item' rest rest' is is' (sym all ∙ all') in
    let firsts : next ≡ after = same ∙ ap timed_said both.0 ∙ sym same' in
    let here : Say (n + length (item_lines item)) rest other other_bad =
    subst (λ (i : WrittenItem). Say (n + length (item_lines i)) rest other other_bad) (sym both.0)
    (subst (λ (ls : List (List ℕ)). Say (n + length (item_lines item')) ls other other_bad) (sym both.1) behind') in
    let others = reading_unique (n + length (item_lines item)) rest said other bad other_bad behind here in
    (ap (λ (t : Timed). t ∷ said) firsts ∙ ap (λ (ts : List Timed). after ∷ ts) others.0, others.1)

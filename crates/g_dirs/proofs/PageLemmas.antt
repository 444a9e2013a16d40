-- Remembered blocks, and how many blocks a commit writes.
-- serves: all_changed (covers, marks, remembers), changed (covers, marks, remembers), covers, new (nothing, stands), Surviving, WriteLemmas, crates above
use Rattle.std.proofs.Common.{◌≡◌, ◌≢◌, ℕ, suc, zero, ◌+◌, ◌<◌, ◌≤◌, inl, inr, Bool, true, false, if◌then◌else◌, List, [], ◌∷◌, length, Option, Some, None, refl, sym, ◌∙◌, ap, subst, replicate, slice_get, add-one, arith}
use Rattle.std.specs.Prelude.{set}
use Rattle.std.proofs.lemmas.Bool.{cases_lt, false≢true}
use Rattle.std.proofs.lemmas.List.{get_or-replicate, length-replicate, set-get_or}
use Rattle.std.proofs.lemmas.Option.{get_or_from_slice_get, none-some, same_Some, slice_get_within}
use Rattle.std.proofs.lemmas.Slice.Eq.{bytes_eq-Decides}
use Rattle.g_entry.specs.declared.format.Format.TheVariants.{Two}
use Rattle.g_slots.specs.declared.side.Side.{Side}
use Rattle.g_slots.specs.declared.side.Side.TheVariants.{A, B}
use Rattle.g_dirs.specs.Directory.{Directory}
use Rattle.g_dirs.specs.Image.{block_of}
use Rattle.g_dirs.specs.Pages.{Covers, KeepsMarks, KeepsPages, Remembered, Remembers, all_marked, is_page, is_remembered, marked, marks_of, nothing, pages_of, unwritten}

is_page-true : (block : List ℕ) (page : Option (Option (List ℕ))) → is_page block page ≡ true → page ≡ Some (Some block)
is_page-true block None is = cc
is_page-true block (Some None) is = cc
is_page-true block (Some (Some page)) is = ap (λ (p : List ℕ). Some (Some p)) ((bytes_eq-Decides page block).0 is)

-- a block that is remembered as this one is this one
pub is_remembered-true : (pages : List (Option (List ℕ))) (k : ℕ) (block : List ℕ) → is_remembered pages k block ≡ true → slice_get pages k ≡ Some (Some block)
is_remembered-true pages k block is = is_page-true block (slice_get pages k) is

pub unwritten_none : (d : Directory) (pages : List (Option (List ℕ))) → unwritten d pages 0 ≡ 0
unfolding unwritten
unwritten_none d pages = refl

-- one block more
pub unwritten_more : (d : Directory) (pages : List (Option (List ℕ))) (k : ℕ) → unwritten d pages (k + 1) ≡ unwritten d pages k + (if is_remembered pages k (block_of Two d k) then 0 else 1)
unfolding unwritten
unwritten_more d pages k = ap (unwritten d pages) (add-one k)

-- writing a block with the content that it has changes nothing
pub set-same : {X : Type 0} (xs : List X) (k : ℕ) (x : X) → slice_get xs k ≡ Some x → set xs k x ≡ xs
set-same xs k x there = ap (set xs k) (sym (get_or_from_slice_get xs k x x there)) ∙ set-get_or xs k x

pub slice_get-set_same : {X : Type 0} (xs : List X) (k : ℕ) (x : X) → k < length xs → slice_get (set xs k x) k ≡ Some x
slice_get-set_same [] k x within = absurd (omega arith)
slice_get-set_same (y ∷ xs) zero x within = refl
slice_get-set_same (y ∷ xs) (suc k) x within = slice_get-set_same xs k x (omega arith)

stands_same : {X : Type 0} (n k : ℕ) (x y : X) → slice_get (replicate n x) k ≡ Some y → x ≡ y
stands_same {X} n k x y there =
    let long = length-replicate n x in
    let within : k < n = omega (arith, slice_get_within (replicate n x) k y there) in
    sym (get_or-replicate n k x y within) ∙ get_or_from_slice_get (replicate n x) k y y there

pub same_pages : (a b x y : List (Option (List ℕ))) (s t v w : List Bool) → a ≡ x → b ≡ y → s ≡ v → t ≡ w
    → (let p : Remembered = record { a = a; b = b; marks_a = s; marks_b = t } in let q : Remembered = record { a = x; b = y; marks_a = v; marks_b = w } in p ≡ q)
same_pages a b x y s t v w p q r u = λ i. record { a = p i; b = q i; marks_a = r i; marks_b = u i }

pub same_marks : (side : Side) (old new : Remembered) → KeepsMarks old new → marks_of side new ≡ marks_of side old
same_marks A old new same = same.a
same_marks B old new same = same.b

pub same_pages_of : (side : Side) (old new : Remembered) → KeepsPages old new → pages_of side new ≡ pages_of side old
same_pages_of A old new same = same.a
same_pages_of B old new same = same.b

-- if the blocks from k to n are remembered with the content to be written, none of them is written
is_page-same : (block : List ℕ) (page : Option (Option (List ℕ))) → page ≡ Some (Some block) → is_page block page ≡ true
is_page-same block page is = ap (is_page block) is ∙ (bytes_eq-Decides block block).1 refl

pub unwritten_past : (d : Directory) (pages : List (Option (List ℕ))) (k n : ℕ) → k ≤ n → ((j : ℕ) → k ≤ j → j < n → slice_get pages j ≡ Some (Some (block_of Two d j)))
    → unwritten d pages n ≡ unwritten d pages k
unfolding unwritten
unwritten_past d pages k zero forth there =
    let same : 0 ≡ k = omega arith in ap (unwritten d pages) same
unwritten_past d pages k (suc n) forth there =
    elim (cases_lt n k) [
      | inl less ↦
          let same : suc n ≡ k = omega arith in ap (unwritten d pages) same
      | inr reached ↦
          let before : unwritten d pages n ≡ unwritten d pages k = unwritten_past d pages k n reached (λ j from below. there j from (omega arith)) in
          ap (λ (b : Bool). unwritten d pages n + (if b then 0 else 1)) (is_page-same (block_of Two d n) (slice_get pages n) (there n reached (omega arith)))
          ∙ (omega (arith, before))
    ]

-- a mark that was set is there
unmarked_else : (marks : List Bool) (k j : ℕ) → slice_get (set marks k true) j ≡ Some false → (j ≢ k) × (slice_get marks j ≡ Some false)
unmarked_else [] k j there = let none : ⊥ = cc in absurd none
unmarked_else (m ∷ marks) zero zero there = let none : true ≡ false = same_Some true false there in absurd (false≢true (sym none))
unmarked_else (m ∷ marks) zero (suc j) there = ((λ same. let no : ⊥ = omega (arith, same) in no), there)
unmarked_else (m ∷ marks) (suc k) zero there = ((λ same. let no : ⊥ = omega (arith, same) in no), there)
unmarked_else (m ∷ marks) (suc k) (suc j) there =
    let rest = unmarked_else marks k j there in ((λ same. rest.0 (omega (arith, same))), rest.1)

unmarked_of : (side : Side) (k j : ℕ) (pages : Remembered) → slice_get (marks_of side (marked k pages)) j ≡ Some false → (j ≢ k) × (slice_get (marks_of side pages) j ≡ Some false)
unmarked_of A k j pages there = unmarked_else pages.marks_a k j there
unmarked_of B k j pages there = unmarked_else pages.marks_b k j there

pages_marked : (side : Side) (k : ℕ) (pages : Remembered) → pages_of side (marked k pages) ≡ pages_of side pages
pages_marked A k pages = refl
pages_marked B k pages = refl

-- if only a marked block differs, all changes are still marked
pub covers_marked : (side : Side) (k : ℕ) (d e : Directory) (pages : Remembered) → Covers d side pages → ((j : ℕ) → j ≢ k → block_of Two e j ≡ block_of Two d j) → Covers e side (marked k pages)
covers_marked side k d e pages covers same = record {
  block = λ j below there.
      let old = unmarked_of side k j pages there in
      ap (λ (ps : List (Option (List ℕ))). slice_get ps j) (pages_marked side k pages) ∙ covers.block j below old.1
      ∙ ap (λ (b : List ℕ). Some (Some b)) (sym (same j old.0));
}

none_unmarked : (j : ℕ) → slice_get (replicate {A = Bool} 1088 true) j ≡ Some false → ⊥
none_unmarked j there = false≢true (sym (stands_same 1088 j true false there))

pub marks_all : (side : Side) (pages : Remembered) → marks_of side (all_marked pages) ≡ replicate 1088 true
marks_all A pages = refl
marks_all B pages = refl

pub pages_all : (side : Side) (pages : Remembered) → pages_of side (all_marked pages) ≡ pages_of side pages
pages_all A pages = refl
pages_all B pages = refl

-- marks don't affect what is remembered
pub remembers_same : (old new : Remembered) (blocks : List (List ℕ)) → KeepsPages old new → Remembers old blocks → Remembers new blocks
remembers_same old new blocks same was = record {
  block = λ side k page there. was.block side k page (ap (λ (ps : List (Option (List ℕ))). slice_get ps k) (sym (same_pages_of side old new same)) ∙ there);
}

pub covers_all : (side : Side) (d : Directory) (pages : Remembered) → Covers d side (all_marked pages)
covers_all side d pages = record {
  block = λ j below there. absurd (none_unmarked j (ap (λ (ms : List Bool). slice_get ms j) (sym (marks_all side pages)) ∙ there));
}

nothing_there : (side : Side) (k : ℕ) (page : List ℕ) → slice_get (pages_of side nothing) k ≡ Some (Some page) → slice_get (replicate {A = Option (List ℕ)} 1088 None) k ≡ Some (Some page)
nothing_there A k page there = there
nothing_there B k page there = there

pub none_remembered : (side : Side) (k : ℕ) (page : List ℕ) → slice_get (pages_of side nothing) k ≡ Some (Some page) → ⊥
none_remembered side k page there = none-some page (stands_same 1088 k None (Some page) (nothing_there side k page there))

-- if nothing is remembered, every remembered block is on the disc
pub remembers_nothing : (pages : Remembered) (blocks : List (List ℕ)) → pages ≡ nothing → Remembers pages blocks
remembers_nothing pages blocks is = subst (λ (p : Remembered). Remembers p blocks) (sym is) (record {
  block = λ side k page there. absurd (none_remembered side k page there);
})

-- BLOCK BY BLOCK whether a slot is covered
module _ (d : Directory) (side : Side) (pages : Remembered) where
  -- the first n blocks are covered
  abbrev pub CoversFirst : ℕ → Type 0
  CoversFirst n = (j : ℕ) → j < n → slice_get (marks_of side pages) j ≡ Some false → slice_get (pages_of side pages) j ≡ Some (Some (block_of Two d j))

  one_more : (n : ℕ) → CoversFirst n → (slice_get (marks_of side pages) n ≡ Some false → slice_get (pages_of side pages) n ≡ Some (Some (block_of Two d n))) → CoversFirst (n + 1)
  one_more n first here j below there =
      elim (cases_lt j n) [
        | inl less ↦ first j less there
        | inr reached ↦
            let same : n ≡ j = omega arith in
            subst (λ (i : ℕ). slice_get (pages_of side pages) i ≡ Some (Some (block_of Two d i))) same
            (here (subst (λ (i : ℕ). slice_get (marks_of side pages) i ≡ Some false) (sym same) there))
      ]

  -- a block with a mark
  pub marked_more : (n : ℕ) → slice_get (marks_of side pages) n ≡ Some true → CoversFirst n → CoversFirst (n + 1)
  marked_more n is first =
      one_more n first (λ there. absurd (false≢true (sym (same_Some true false (sym is ∙ there)))))

  -- a block that is remembered
  pub remembered_more : (n : ℕ) → is_remembered (pages_of side pages) n (block_of Two d n) ≡ true → CoversFirst n → CoversFirst (n + 1)
  remembered_more n is first = one_more n first (λ there. is_remembered-true (pages_of side pages) n (block_of Two d n) is)

  pub covers_whole : (n : ℕ) → 1088 ≤ n → CoversFirst n → Covers d side pages
  covers_whole n all first = record { block = λ j below there. first j (omega arith) there }

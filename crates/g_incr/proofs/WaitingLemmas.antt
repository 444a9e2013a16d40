-- What waits ahead of each file of a plan, and the version that has a block of content.
-- serves: content
use Rattle.std.proofs.Common.{◌≡◌, ◌⊎◌, inl, inr, ℕ, ◌+◌, ◌-◌, ◌*◌, ◌<◌, ◌≤◌, true, false, List, [], ◌∷◌, ◌++◌, length, take, drop, get_or, sym, ◌∙◌, ap, arith, leb, slice_get, subst, Bool}
use denote.Ref.{Bor}
use denote.Param.Members.{Mut}
use Rattle.std.specs.Fn.{Called, ComputesKey}
use Rattle.std.specs.List.Sorted.{IsNonDecreasingBy, IsPartitionPoint, IsPartitionedBy}
use Rattle.std.proofs.lemmas.Bool.{cases_Bool, cases_lt, cond-false, cond-true, leb-false, leb-true}
use Rattle.std.proofs.lemmas.List.{append-nil, take-append-drop, take-take, take_all, take_at, take_more}
use Rattle.std.proofs.lemmas.List.Sorted.{IsPartitionPoint-from_clause, IsPartitionedBy-leb}
use Rattle.std.proofs.lemmas.List.Elements.{filter-append}
use Rattle.std.proofs.lemmas.List.Sums.{sum_by-append, sum_by-cons}
use Rattle.std.proofs.lemmas.Option.{get_or_from_slice_get}
use Rattle.g_base.specs.Block.{blocks_for}
use Rattle.g_entry.specs.declared.file_rec.FileRec.{FileRec}
use Rattle.g_incr.specs.declared.waiting.Ahead.{Ahead}
use Rattle.g_incr.specs.WaitingFiles.{AreAhead, IsAhead}
use Rattle.g_incr.specs.Plan.{blocks_of, waiting, waits}
use Rattle.g_incr.proofs.ListLemmas.{split_at, get_seam, get_some}
use Rattle.g_incr.proofs.PieceLemmas.{IsVersionAt}

waits_one : (r : FileRec) → waits r ≡ true → waiting (r ∷ []) ≡ r ∷ []
waits_one r is = cond-true (waits r) (r ∷ []) [] is

keeps_one : (r : FileRec) → waits r ≡ false → waiting (r ∷ []) ≡ []
keeps_one r is = cond-false (waits r) (r ∷ []) [] is

-- the first i files and one more
waiting_more : (files : List FileRec) (i : ℕ) (r : FileRec) → i < length files → r ≡ get_or files i r → waiting (take (i + 1) files) ≡ waiting (take i files) ++ waiting (r ∷ [])
waiting_more files i r within is =
    ap waiting (take_more files i r within) ∙ filter-append waits (take i files) (get_or files i r ∷ []) ∙ ap (λ (s : FileRec). waiting (take i files) ++ waiting (s ∷ [])) (sym is)

pub ahead_keeps : (files : List FileRec) (i : ℕ) (a : Ahead) (r : FileRec) → i < length files → r ≡ get_or files i r → waits r ≡ false → IsAhead files i a → IsAhead files (i + 1) a
ahead_keeps files i a r within is wait so =
    let more = waiting_more files i r within is ∙ ap (λ (l : List FileRec). waiting (take i files) ++ l) (keeps_one r wait) ∙ append-nil (waiting (take i files)) in
    let few = so.few in
    let most = so.most in
    record { versions = so.versions ∙ ap length (sym more); few = omega arith; blocks = so.blocks ∙ ap blocks_of (sym more); most = omega arith }

-- THE SEARCH
blocks_rise : (files : List FileRec) (i j : ℕ) → i ≤ j → blocks_of (waiting (take i files)) ≤ blocks_of (waiting (take j files))
blocks_rise files i j le =
    let front = take j files in
    let split : waiting front ≡ waiting (take i files) ++ waiting (drop i front) =
    ap waiting (sym (take-append-drop i front)) ∙ filter-append waits (take i front) (drop i front) ∙ ap (λ (l : List FileRec). waiting l ++ waiting (drop i front)) (take-take i j files le) in
    let sum = ap blocks_of split ∙ sum_by-append (λ (s : FileRec). blocks_for s.len) (waiting (take i files)) (waiting (drop i front)) in
    omega (arith, sum)

pub ahead_rises : (files : List FileRec) (n : ℕ) (all : List Ahead) → AreAhead files n all → IsNonDecreasingBy (λ (a : Ahead). a.blocks) all
ahead_rises files n all so i j d le within =
    let long = so.long in
    let low = (so.each i d (omega arith)).blocks in
    let high = (so.each j d (omega arith)).blocks in
    let rise = blocks_rise files i j le in
    omega (arith, low, high, rise)

-- The version that has the block, if that many blocks are ahead of it.
version_found : (files : List FileRec) (offset i part : ℕ) (a : Ahead) (r : FileRec) → i < length files → r ≡ get_or files i r → waits r ≡ true → part < blocks_for r.len → IsAhead files i a → offset ≡ a.blocks + part
    → IsVersionAt files offset a.versions part
version_found files offset i part a r within is wait below so sum =
    let front = waiting (take i files) in
    let back = waiting (drop (i + 1) files) in
    let whole : waiting files ≡ front ++ (r ∷ back) =
    ap waiting (split_at files i r within is) ∙ filter-append waits (take i files) (r ∷ drop (i + 1) files) ∙ ap (λ (l : List FileRec). front ++ l) (cond-true (waits r) (r ∷ back) back wait) in
    record {
      version = r;
      there = ap (slice_get (waiting files)) so.versions ∙ ap (λ (l : List FileRec). slice_get l (length front)) whole ∙ get_seam front r back;
      within = below;
      at = sum ∙ ap (λ (m : ℕ). m + part) (so.blocks ∙ ap blocks_of (sym (ap (take a.versions) whole ∙ take_at front (r ∷ back) a.versions (sym so.versions))));
    }

file_there : (files : List FileRec) (i : ℕ) → i < length files → (r : FileRec) × (r ≡ get_or files i r)
file_there files i within =
    let (r, is) = get_some files i within in
    (r, sym (get_or_from_slice_get files i r r is))

-- The file before position j has at most this many blocks ahead of it, and the version with the block at this offset is
-- found from it.
pub record IsBehind (files : List FileRec) (all : List Ahead) (offset j : ℕ) : Type 0 where
  pub some : 1 ≤ j
  pub within : j ≤ length files
  pub low : (d : Ahead) → (get_or all (j - 1) d).blocks ≤ offset
  pub found : (d : Ahead) → IsVersionAt files offset (get_or all (j - 1) d).versions (offset - (get_or all (j - 1) d).blocks)

module _ (files : List FileRec) (all : List Ahead) (offset : ℕ) (so : AreAhead files (length files + 1) all) where
  -- The file with at most this many blocks ahead of it, if the next file has more.
  file_found : (i : ℕ) (a b : Ahead) (r : FileRec) → i < length files → r ≡ get_or files i r → IsAhead files i a → IsAhead files (i + 1) b → a.blocks ≤ offset → offset < b.blocks
      → IsVersionAt files offset a.versions (offset - a.blocks)
  file_found i a b r within is here next low high = by_waiting (cases_Bool (waits r))
    where
      by_waiting : (waits r ≡ true) ⊎ (waits r ≡ false) → IsVersionAt files offset a.versions (offset - a.blocks)
      by_waiting (inl wait) =
          let more = ap blocks_of (waiting_more files i r within is ∙ ap (λ (l : List FileRec). waiting (take i files) ++ l) (waits_one r wait))
          ∙ sum_by-append (λ (s : FileRec). blocks_for s.len) (waiting (take i files)) (r ∷ []) in
          let one = sum_by-cons (λ (s : FileRec). blocks_for s.len) r [] in
          let blocks = here.blocks in
          let behind = next.blocks in
          version_found files offset i (offset - a.blocks) a r within is wait (omega (arith, more, one, blocks, behind, low, high)) here (omega (arith, low))
      by_waiting (inr wait) =
          let same = (ahead_keeps files i a r within is wait here).blocks in
          let behind = next.blocks in
          let no : ⊥ = omega (arith, same, behind, low, high) in absurd no

  pub behind_found : (j : ℕ) → offset < blocks_of (waiting files) → j ≤ length all → IsPartitionPoint (λ (a : Ahead). leb a.blocks offset ≡ true) (λ (a : Ahead). leb a.blocks offset ≡ false) all j
      → IsBehind files all offset j
  behind_found j below most (front, back) =
      let long = so.long in
      let none : Ahead = record { versions = 0; blocks = 0 } in
      let first = (so.each 0 none (omega arith)).most in
      let last = (so.each (length files) none (omega arith)).blocks ∙ ap (λ (l : List FileRec). blocks_of (waiting l)) (take_all (length files) files (omega arith)) in
      let some : 1 ≤ j = by_first (cases_lt 0 j) first in
      let within : j ≤ length files = by_last (cases_lt (length files) j) last in
      let next : (j - 1) + 1 ≡ j = omega (arith, some) in
      let low : (d : Ahead) → (get_or all (j - 1) d).blocks ≤ offset = λ d. leb-true _ _ (front (j - 1) d (omega arith) (omega (arith, some))) in
      record {
        some = some;
        within = within;
        low = low;
        found = λ d.
            let place : j - 1 < length files = omega (arith, some, within) in
            let (r, is) = file_there files (j - 1) place in
            file_found (j - 1) (get_or all (j - 1) d) (get_or all j d) r place is (so.each (j - 1) d (omega (arith, place)))
            (subst (λ (m : ℕ). IsAhead files m (get_or all j d)) (sym next) (so.each j d (omega (arith, within))))
            (low d) (leb-false _ _ (back j d (omega arith) (omega (arith, within, long))));
      }
    where
      by_first : (0 < j) ⊎ (j ≤ 0) → (get_or all 0 (record { versions = 0; blocks = 0 })).blocks ≤ 128 * 0 → 1 ≤ j
      by_first (inl is) first = omega (arith, is)
      by_first (inr is) first =
          let long = so.long in
          let high = leb-false _ _ (back 0 (record { versions = 0; blocks = 0 }) is (omega (arith, long))) in
          let no : ⊥ = omega (arith, first, high) in absurd no

      by_last : (length files < j) ⊎ (j ≤ length files) → (get_or all (length files) (record { versions = 0; blocks = 0 })).blocks ≡ blocks_of (waiting files) → j ≤ length files
      by_last (inl is) last =
          let low = leb-true _ _ (front (length files) (record { versions = 0; blocks = 0 }) (omega arith) is) in
          let no : ⊥ = omega (arith, last, low, below) in absurd no
      by_last (inr is) last = is

-- from the clause of `partition_point` over these counts
pub search_found : {F : Type 0} {g : Mut F (Bor Ahead × Unit {0}) Bool} {f : F} (files : List FileRec) (all items : List Ahead) (offset j : ℕ) → all ≡ items → AreAhead files (length files + 1) items
    → offset < blocks_of (waiting files) → j ≤ length all
    → ((q : Ahead → Bool) → ComputesKey g q f → IsPartitionedBy q all → IsPartitionPoint (λ (a : Ahead). q a ≡ true) (λ (a : Ahead). q a ≡ false) all j)
    → ((a : Bor Ahead × Unit {0}) (r : Bool) (f' : F) → Called g f a r f' → (r ≡ leb a.0.now.blocks offset) × (f' ≡ f))
    → IsBehind files items offset j
search_found {g = g} {f = f} files all items offset j same so below most clause calls =
    subst (λ (l : List Ahead). IsBehind files l offset j) same
    (let here = subst (AreAhead files (length files + 1)) (sym same) so in
    let parted = IsPartitionedBy-leb (λ (a : Ahead). a.blocks) all offset (ahead_rises files (length files + 1) all here) in
    behind_found files all offset here j below most (IsPartitionPoint-from_clause (λ (a : Ahead). leb a.blocks offset) {g = g} {f = f} all j clause parted calls))

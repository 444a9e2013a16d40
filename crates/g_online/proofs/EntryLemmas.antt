-- What is computed from each file and its copy, when the lists of records and of copies change.
-- serves: BringStepLemmas, CloseNoteLemmas, ContentLemmas, EraseLemmas, FileLemmas, PutLemmas, crates above
use Rattle.std.proofs.Common.{◌≡◌, ◌≢◌, ℕ, zero, suc, ◌<◌, ◌==◌, Bool, true, List, [], ◌∷◌, ◌++◌, map, filter, Option, Some, All, AllPairs, refl, sym, ◌∙◌, ap, inl, inr, arith, if◌then◌else◌, not, cond}
use Rattle.std.specs.Prelude.{nat_lt, Contains}
use Rattle.std.proofs.lemmas.Bool.{cases_Bool, cases_order, cond-false, cond-true, eq-eqb, ne_eqb, lt-ltb, le-ltb, true≢false}
use Rattle.std.proofs.lemmas.List.{map-append}
use Rattle.std.proofs.lemmas.List.Elements.{All-head, All-tail, All-weaker, filter_passes}
use Rattle.g_copy.specs.declared.copy.DiscCopy.{DiscCopy}
use Rattle.g_entry.specs.declared.file_rec.FileRec.{FileRec}
use Rattle.g_dirs.specs.Directory.{FileEntry, copy_at}
use Rattle.g_online.specs.Copies.{with_copy_at, without_copy}
use Rattle.g_tree.specs.State.{with_file as tree_with_file, without_file as tree_without_file}
use Rattle.g_online.proofs.CopyLemmas.{Copies, copy_at-passing, copy_at-put, copy_at-put_other}

-- WHAT IS COMPUTED from each file, which has the file's number
module _ {X : Type 0} (make : FileEntry → X) (number : X → ℕ) (number_is : (e : FileEntry) → number (make e) ≡ e.0.number) where
  abbrev pub one : Copies → FileRec → X
  one online r = let e : FileEntry = (r, copy_at online r.number) in make e

  abbrev pub made : List FileRec → Copies → List X
  made files online = map (one online) files

  -- their numbers distinguish them
  made-passing : (p : ℕ → Bool) (files : List FileRec) (online : Copies) → made (filter (λ r. p r.number) files) online ≡ filter (λ x. p (number x)) (made files online)
  made-passing p [] online = refl
  made-passing p (r ∷ files) online =
      let x = one online r in
      let kept = filter (λ s. p s.number) files in
      let rest = filter (λ y. p (number y)) (made files online) in
      let left : filter (λ y. p (number y)) (x ∷ made files online) ≡ cond (p r.number) (x ∷ rest) rest =
      ap (λ (n : ℕ). cond (p n) (x ∷ rest) rest) (number_is (r, copy_at online r.number)) in
      elim (cases_Bool (p r.number)) as (λ _. made (filter (λ s. p s.number) (r ∷ files)) online ≡ filter (λ y. p (number y)) (x ∷ made files online)) [
        | inl is ↦ ap (λ (l : List FileRec). made l online) (cond-true (p r.number) (r ∷ kept) kept is)
            ∙ ap (λ (l : List X). x ∷ l) (made-passing p files online) ∙ sym (left ∙ cond-true (p r.number) (x ∷ rest) rest is)
        | inr is ↦ ap (λ (l : List FileRec). made l online) (cond-false (p r.number) (r ∷ kept) kept is)
            ∙ made-passing p files online ∙ sym (left ∙ cond-false (p r.number) (x ∷ rest) rest is)
      ]

  -- files whose copies stay
  pub made-kept : (files : List FileRec) (old new : Copies) → All (λ r. copy_at new r.number ≡ copy_at old r.number) files → made files new ≡ made files old
  made-kept [] old new same = refl
  made-kept (r ∷ files) old new same =
      let P : FileRec → Type 0 = λ s. copy_at new s.number ≡ copy_at old s.number in
      ap (λ (o : Option DiscCopy). let e : FileEntry = (r, o) in make e ∷ made files new) (All-head P r files same)
      ∙ ap (λ (l : List X). one old r ∷ l) (made-kept files old new (All-tail P r files same))

  made-passing_kept : (p : ℕ → Bool) (files : List FileRec) (old new : Copies) → ((n : ℕ) → p n ≡ true → copy_at new n ≡ copy_at old n)
      → made (filter (λ r. p r.number) files) new ≡ filter (λ x. p (number x)) (made files old)
  made-passing_kept p files old new same =
      made-kept (filter (λ r. p r.number) files) old new
      (All-weaker (λ (r : FileRec). p r.number ≡ true) (λ (r : FileRec). copy_at new r.number ≡ copy_at old r.number) (λ r is. same r.number is) (filter (λ r. p r.number) files) (filter_passes (λ r. p r.number) files))
      ∙ made-passing p files old

  -- each for itself
  pub made-each : (files : List FileRec) (old new : Copies) (change : X → X) → ((r : FileRec) → one new r ≡ change (one old r)) → made files new ≡ map change (made files old)
  made-each [] old new change each = refl
  made-each (r ∷ files) old new change each =
      ap (λ (x : X). x ∷ made files new) (each r) ∙ ap (λ (l : List X). change (one old r) ∷ l) (made-each files old new change each)

  -- A FILE IS TAKEN OUT
  pub made-erased : (n : ℕ) (files : List FileRec) (online : Copies) → made (tree_without_file n files) (without_copy n online) ≡ filter (λ x. not (number x == n)) (made files online)
  made-erased n files online = made-passing_kept (λ m. not (m == n)) files online (without_copy n online) (λ k is. copy_at-passing (λ m. not (m == n)) online k is)

  -- A FILE IS INSERTED, with its copy
  pub made-put : (rec : FileRec) (copy : DiscCopy) (files : List FileRec) (online : Copies)
      → made (tree_with_file rec files) (with_copy_at (rec.number, copy) online)
      ≡ filter (λ x. nat_lt (number x) rec.number) (made files online) ++ (let e : FileEntry = (rec, Some copy) in make e) ∷ filter (λ x. nat_lt rec.number (number x)) (made files online)
  made-put rec copy files online =
      let new = with_copy_at (rec.number, copy) online in
      let n = rec.number in
      let below = filter (λ s. nat_lt s.number n) files in
      let above = filter (λ s. nat_lt n s.number) files in
      let x : X = let e : FileEntry = (rec, Some copy) in make e in
      let low : made below new ≡ filter (λ y. nat_lt (number y) n) (made files online) =
      made-passing_kept (λ m. nat_lt m n) files online new (λ m is. copy_at-put_other n copy online m (λ same. true≢false (sym is ∙ ap (λ (k : ℕ). nat_lt k n) same ∙ le-ltb n n (omega arith)))) in
      let high : made above new ≡ filter (λ y. nat_lt n (number y)) (made files online) =
      made-passing_kept (λ m. nat_lt n m) files online new (λ m is. copy_at-put_other n copy online m (λ same. true≢false (sym is ∙ ap (λ (k : ℕ). nat_lt n k) same ∙ le-ltb n n (omega arith)))) in
      map-append (one new) below (rec ∷ above)
      ∙ ap (λ (l : List X). l ++ made (rec ∷ above) new) low
      ∙ ap (λ (o : Option DiscCopy). let e : FileEntry = (rec, o) in filter (λ y. nat_lt (number y) n) (made files online) ++ make e ∷ made above new) (copy_at-put n copy online)
      ∙ ap (λ (l : List X). filter (λ y. nat_lt (number y) n) (made files online) ++ x ∷ l) high

-- THE RECORD OF A FILE IS CHANGED: a record in the place of the one of its number
abbrev pub set_one : FileRec → FileRec → FileRec
set_one rec r = if r.number == rec.number then rec else r

set_here : (rec r : FileRec) → r.number ≡ rec.number → set_one rec r ≡ rec
set_here rec r same = cond-true (r.number == rec.number) rec r (eq-eqb r.number rec.number same)

set_other : (rec r : FileRec) → r.number ≢ rec.number → set_one rec r ≡ r
set_other rec r other = cond-false (r.number == rec.number) rec r (ne_eqb r.number rec.number other)

abbrev numbers : List FileRec → List ℕ
numbers files = map (λ r. r.number) files

rest_rises : (r : FileRec) (files : List FileRec) → AllPairs (λ r s. r.number < s.number) (r ∷ files) → AllPairs (λ r s. r.number < s.number) files
rest_rises r files rising i j d before inside = rising (suc i) (suc j) d (omega arith) (omega arith)

first_below : (r : FileRec) (files : List FileRec) → AllPairs (λ r s. r.number < s.number) (r ∷ files) → All (λ s. r.number < s.number) files
first_below r files rising k d inside = rising 0 (suc k) d (omega arith) (omega arith)

-- files that are all above a number
none_below : (n : ℕ) (files : List FileRec) → All (λ s. n < s.number) files → filter (λ s. nat_lt s.number n) files ≡ []
none_below n [] above = refl
none_below n (r ∷ files) above =
    let P : FileRec → Type 0 = λ s. n < s.number in
    let first : n < r.number = All-head P r files above in
    cond-false (nat_lt r.number n) (r ∷ filter (λ s. nat_lt s.number n) files) (filter (λ s. nat_lt s.number n) files) (le-ltb r.number n (omega arith)) ∙ none_below n files (All-tail P r files above)

all_above : (n : ℕ) (files : List FileRec) → All (λ s. n < s.number) files → filter (λ s. nat_lt n s.number) files ≡ files
all_above n [] above = refl
all_above n (r ∷ files) above =
    let P : FileRec → Type 0 = λ s. n < s.number in
    cond-true (nat_lt n r.number) (r ∷ filter (λ s. nat_lt n s.number) files) (filter (λ s. nat_lt n s.number) files) (lt-ltb n r.number (All-head P r files above))
    ∙ ap (λ (l : List FileRec). r ∷ l) (all_above n files (All-tail P r files above))

none_set : (rec : FileRec) (files : List FileRec) → All (λ s. rec.number < s.number) files → map (set_one rec) files ≡ files
none_set rec [] above = refl
none_set rec (r ∷ files) above =
    let P : FileRec → Type 0 = λ s. rec.number < s.number in
    let first : rec.number < r.number = All-head P r files above in
    ap (λ (s : FileRec). s ∷ map (set_one rec) files) (set_other rec r (λ same. omega (arith, same)))
    ∙ ap (λ (l : List FileRec). r ∷ l) (none_set rec files (All-tail P r files above))

behind : (r : FileRec) (files : List FileRec) (n : ℕ) → Contains (numbers (r ∷ files)) n → r.number ≢ n → Contains (numbers files) n
behind r files n (zero, inside, is) other = absurd (other is)
behind r files n (suc k, inside, is) other = (k, omega arith, is)

above_contained : (m n : ℕ) (files : List FileRec) → All (λ s. m < s.number) files → Contains (numbers files) n → m < n
above_contained m n [] above (k, inside, is) = let no : ⊥ = omega (arith, inside) in absurd no
above_contained m n (r ∷ files) above (zero, inside, is) = let first : m < r.number = All-head (λ s. m < s.number) r files above in omega (arith, is)
above_contained m n (r ∷ files) above (suc k, inside, is) = above_contained m n files (All-tail (λ s. m < s.number) r files above) (k, omega arith, is)

pub put-set : (rec : FileRec) (files : List FileRec) → AllPairs (λ r s. r.number < s.number) files → Contains (numbers files) rec.number → tree_with_file rec files ≡ map (set_one rec) files
put-set rec [] rising (k, inside, is) = let no : ⊥ = omega (arith, inside) in absurd no
put-set rec (r ∷ files) rising there =
    let n = rec.number in
    let low = filter (λ s. nat_lt s.number n) files in
    let high = filter (λ s. nat_lt n s.number) files in
    let firsts : All (λ s. r.number < s.number) files = first_below r files rising in
    elim (cases_order r.number n) as (λ _. tree_with_file rec (r ∷ files) ≡ map (set_one rec) (r ∷ files)) [
      | inl same ↦
          let above : All (λ s. n < s.number) files = All-weaker (λ (s : FileRec). r.number < s.number) (λ (s : FileRec). n < s.number) (λ s less. omega (arith, less, same)) files firsts in
          ap (λ (l : List FileRec). l ++ rec ∷ filter (λ s. nat_lt n s.number) (r ∷ files)) (cond-false (nat_lt r.number n) (r ∷ low) low (le-ltb r.number n (omega (arith, same))) ∙ none_below n files above)
          ∙ ap (λ (l : List FileRec). rec ∷ l) (cond-false (nat_lt n r.number) (r ∷ high) high (le-ltb n r.number (omega (arith, same))) ∙ all_above n files above)
          ∙ sym (ap (λ (s : FileRec). s ∷ map (set_one rec) files) (set_here rec r same) ∙ ap (λ (l : List FileRec). rec ∷ l) (none_set rec files above))
      | inr (inl less) ↦
          let other : r.number ≢ n = λ same. omega (arith, same, less) in
          ap (λ (l : List FileRec). l ++ rec ∷ filter (λ s. nat_lt n s.number) (r ∷ files)) (cond-true (nat_lt r.number n) (r ∷ low) low (lt-ltb r.number n less))
          ∙ ap (λ (l : List FileRec). r ∷ (low ++ rec ∷ l)) (cond-false (nat_lt n r.number) (r ∷ high) high (le-ltb n r.number (omega (arith, less))))
          ∙ ap (λ (l : List FileRec). r ∷ l) (put-set rec files (rest_rises r files rising) (behind r files n there other))
          ∙ sym (ap (λ (s : FileRec). s ∷ map (set_one rec) files) (set_other rec r other))
      | inr (inr more) ↦
          let other : r.number ≢ n = λ same. omega (arith, same, more) in
          let less = above_contained r.number n files firsts (behind r files n there other) in
          let no : ⊥ = omega (arith, less, more) in absurd no
    ]

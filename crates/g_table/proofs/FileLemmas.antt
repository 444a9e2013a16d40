-- Records with their numbers, and without them.
-- serves: free (least, unused), get, of, put (files, was), set, take (files, was)
use Rattle.std.proofs.Common.{◌≡◌, ℕ, zero, suc, ◌+◌, ◌<◌, ◌==◌, not, List, [], ◌∷◌, ◌++◌, length, filter, find, map, take, get_or, AllPairs, Bool, Option, Some, None, option_map, refl, sym, ◌∙◌, ap, arith, subst, cond, true, false}
use Rattle.std.specs.Prelude.{IfSome, is_some, nat_lt}
use Rattle.std.specs.List.{AllByRecursion}
use Rattle.std.proofs.Math.Seq.{take-suc}
use Rattle.std.proofs.lemmas.Bool.{cond-false, cond-true, le-ltb, lt-ltb}
use Rattle.g_entry.specs.Rules.{AreNumbered}
use Rattle.g_entry.specs.declared.file_rec.FileRec.{FileRec}
use Rattle.g_table.specs.Files.{HaveNumbers, rec_at, with_rec, without_rec}
use Rattle.g_table.specs.Table.{item_at, with_item, without_item}

abbrev pub Records : Type 0
Records = List (ℕ × FileRec)

abbrev pub recs : Records → List FileRec
recs items = map (λ c. c.1) items

-- the records of a filter are those that pass it
filtered : (P : ℕ → Bool) (items : Records) → HaveNumbers items → recs (filter (λ c. P c.0) items) ≡ filter (λ r. P r.number) (recs items)
filtered P [] have = refl
filtered P (c ∷ items) have =
    let rest = filtered P items have.1 in
    by (P c.0) (P c.1.number) (ap P have.0) rest
  where
    by : (t u : Bool) → t ≡ u → recs (filter (λ d. P d.0) items) ≡ filter (λ r. P r.number) (recs items)
        → recs (cond t (c ∷ filter (λ d. P d.0) items) (filter (λ d. P d.0) items)) ≡ cond u (c.1 ∷ filter (λ r. P r.number) (recs items)) (filter (λ r. P r.number) (recs items))
    by true true same rest = ap (λ (l : List FileRec). c.1 ∷ l) rest
    by false false same rest = rest
    by true false same rest = let no : ⊥ = cc in absurd no
    by false true same rest = let no : ⊥ = cc in absurd no

kept : (P : ℕ → Bool) (items : Records) → HaveNumbers items → HaveNumbers (filter (λ c. P c.0) items)
kept P [] have = tt
kept P (c ∷ items) have = by (P c.0) (kept P items have.1)
  where
    by : (t : Bool) → HaveNumbers (filter (λ d. P d.0) items) → HaveNumbers (cond t (c ∷ filter (λ d. P d.0) items) (filter (λ d. P d.0) items))
    by true rest = (have.0, rest)
    by false rest = rest

both : (front behind : Records) → HaveNumbers front → HaveNumbers behind → HaveNumbers (front ++ behind)
both [] behind first second = second
both (c ∷ front) behind first second = (first.0, both front behind first.1 second)

recs_both : (front behind : Records) → recs (front ++ behind) ≡ recs front ++ recs behind
recs_both [] behind = refl
recs_both (c ∷ front) behind = ap (λ (l : List FileRec). c.1 ∷ l) (recs_both front behind)

-- THE RECORD OF A NUMBER
pub rec_is : (items : Records) (n : ℕ) → HaveNumbers items → item_at items n ≡ rec_at (recs items) n
rec_is [] n have = refl
rec_is (c ∷ items) n have = by (c.0 == n) (c.1.number == n) (ap (λ (k : ℕ). k == n) have.0) (rec_is items n have.1)
  where
    by : (t u : Bool) → t ≡ u → item_at items n ≡ rec_at (recs items) n
        → option_map (λ d. d.1) (cond t (Some c) (find (λ d. d.0 == n) items)) ≡ cond u (Some c.1) (rec_at (recs items) n)
    by true true same rest = refl
    by false false same rest = rest
    by true false same rest = let no : ⊥ = cc in absurd no
    by false true same rest = let no : ⊥ = cc in absurd no

-- Adding a record to others, and removing one.
pub with_numbers : (items : Records) (n : ℕ) (r : FileRec) → n ≡ r.number → HaveNumbers items → HaveNumbers (with_item n r items)
with_numbers items n r same have =
    both (filter (λ c. nat_lt c.0 n) items) ((n, r) ∷ filter (λ c. nat_lt n c.0) items) (kept (λ k. nat_lt k n) items have) (same, kept (λ k. nat_lt n k) items have)

pub with_is : (items : Records) (n : ℕ) (r : FileRec) → n ≡ r.number → HaveNumbers items → recs (with_item n r items) ≡ with_rec r (recs items)
with_is items n r same have =
    recs_both (filter (λ c. nat_lt c.0 n) items) ((n, r) ∷ filter (λ c. nat_lt n c.0) items)
    ∙ ap (λ (l : List FileRec). l ++ r ∷ recs (filter (λ c. nat_lt n c.0) items)) (filtered (λ k. nat_lt k n) items have)
    ∙ ap (λ (l : List FileRec). filter (λ s. nat_lt s.number n) (recs items) ++ r ∷ l) (filtered (λ k. nat_lt n k) items have)
    ∙ ap (λ (k : ℕ). filter (λ s. nat_lt s.number k) (recs items) ++ r ∷ filter (λ s. nat_lt k s.number) (recs items)) same

pub without_numbers : (items : Records) (n : ℕ) → HaveNumbers items → HaveNumbers (without_item n items)
without_numbers items n have = kept (λ k. not (k == n)) items have

pub without_is : (items : Records) (n : ℕ) → HaveNumbers items → recs (without_item n items) ≡ without_rec n (recs items)
without_is items n have = filtered (λ k. not (k == n)) items have

-- THE LEAST NUMBER that no record has
rec_in : (items : Records) (files : List FileRec) (n : ℕ) → HaveNumbers items → recs items ≡ files → item_at items n ≡ rec_at files n
rec_in items files n have is = rec_is items n have ∙ ap (λ (l : List FileRec). rec_at l n) is

pub free_unused : (items : Records) (files : List FileRec) (found : Option ℕ) → HaveNumbers items → recs items ≡ files → IfSome found (λ n. (n < 1024) × (item_at items n ≡ None)) → IfSome found (λ n. (n < 1024) × (rec_at files n ≡ None))
free_unused items files None have is unused = tt
free_unused items files (Some n) have is unused = (unused.0, sym (rec_in items files n have is) ∙ unused.1)

pub free_least : (items : Records) (files : List FileRec) (found : Option ℕ) → HaveNumbers items → recs items ≡ files → IfSome found (λ n. (lower : ℕ) → lower < n → is_some (item_at items lower) ≡ true)
    → IfSome found (λ n. (lower : ℕ) → lower < n → is_some (rec_at files lower) ≡ true)
free_least items files None have is least = tt
free_least items files (Some n) have is least = λ lower less. ap is_some (sym (rec_in items files lower have is)) ∙ least lower less

-- A record after those of lower numbers.
low_all : (n : ℕ) (files : List FileRec) → AllByRecursion (λ s. s.number < n) files → filter (λ s. nat_lt s.number n) files ≡ files
low_all n [] lower = refl
low_all n (r ∷ files) lower =
    cond-true (nat_lt r.number n) (r ∷ filter (λ s. nat_lt s.number n) files) (filter (λ s. nat_lt s.number n) files) (lt-ltb r.number n lower.0)
    ∙ ap (λ (l : List FileRec). r ∷ l) (low_all n files lower.1)

high_none : (n : ℕ) (files : List FileRec) → AllByRecursion (λ s. s.number < n) files → filter (λ s. nat_lt n s.number) files ≡ []
high_none n [] lower = refl
high_none n (r ∷ files) lower =
    let first = lower.0 in
    cond-false (nat_lt n r.number) (r ∷ filter (λ s. nat_lt n s.number) files) (filter (λ s. nat_lt n s.number) files) (le-ltb n r.number (omega (arith, first)))
    ∙ high_none n files lower.1

lows : (files : List FileRec) (i : ℕ) (r : FileRec) → AllPairs (λ s t. s.number < t.number) files → i < length files → r ≡ get_or files i r → AllByRecursion (λ s. s.number < r.number) (take i files)
lows [] i r rising inside is = let no : ⊥ = omega (arith, inside) in absurd no
lows (s ∷ files) zero r rising inside is = tt
lows (s ∷ files) (suc i) r rising inside is =
    let first : s.number < (get_or files i r).number = rising 0 (suc i) r (omega arith) inside in
    let rest : AllPairs (λ (s : FileRec) t. s.number < t.number) files = λ j k d before within. rising (suc j) (suc k) d (omega (arith, before)) (omega (arith, within)) in
    (subst (λ (t : FileRec). s.number < t.number) (sym is) first, lows files i r rest (omega (arith, inside)) is)

pub put_last : (files : List FileRec) (i : ℕ) (r : FileRec) → AreNumbered files → i < length files → r ≡ get_or files i r → with_rec r (take i files) ≡ take (i + 1) files
put_last files i r numbered inside is =
    let lower = lows files i r numbered.rising inside is in
    let next : suc i ≡ i + 1 = omega arith in
    ap (λ (l : List FileRec). l ++ r ∷ filter (λ s. nat_lt r.number s.number) (take i files)) (low_all r.number (take i files) lower)
    ∙ ap (λ (l : List FileRec). take i files ++ r ∷ l) (high_none r.number (take i files) lower)
    ∙ ap (λ (s : FileRec). take i files ++ s ∷ []) is ∙ sym (take-suc files i r inside) ∙ ap (λ (n : ℕ). take n files) next

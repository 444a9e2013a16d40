-- Look-ups among copies by file number, and what they find when a copy is inserted or copies are taken out.
-- serves: make_ready (same), read_filestore (ok), BegunLemmas, BringStepLemmas, ChangeLemmas, ContentLemmas, CopiedPlaces, EntryLemmas, NeedLemmas, and 6 more
use Rattle.std.proofs.Common.{◌≡◌, ◌≢◌, ℕ, ◌==◌, Bool, true, false, List, [], ◌∷◌, ◌++◌, find, filter, Option, Some, None, refl, sym, ◌∙◌, ap, inl, inr, arith, if◌then◌else◌, option_map}
use Rattle.std.specs.Prelude.{nat_lt}
use Rattle.std.proofs.lemmas.Bool.{cases_eq, cases_order, eq-eqb, ne_eqb, lt-ltb, le-ltb, true≢false}
use Rattle.g_base.proofs.KeyLemmas.{filter-none, find-filter}
use Rattle.g_copy.specs.declared.copy.DiscCopy.{DiscCopy}
use Rattle.g_dirs.specs.Directory.{copy_at}
use Rattle.g_online.specs.Copies.{with_copy_at}

abbrev pub Copies : Type 0
Copies = List (ℕ × DiscCopy)

pub copy_here : (c : ℕ × DiscCopy) (online : Copies) (n : ℕ) → c.0 ≡ n → copy_at (c ∷ online) n ≡ Some c.1
copy_here c online n same = ap (λ (b : Bool). option_map (λ (d : ℕ × DiscCopy). d.1) (if b then Some c else find (λ d. d.0 == n) online)) (eq-eqb c.0 n same)

pub copy_behind : (c : ℕ × DiscCopy) (online : Copies) (n : ℕ) → c.0 ≢ n → copy_at (c ∷ online) n ≡ copy_at online n
copy_behind c online n other = ap (λ (b : Bool). option_map (λ (d : ℕ × DiscCopy). d.1) (if b then Some c else find (λ d. d.0 == n) online)) (ne_eqb c.0 n other)

-- the copies whose numbers pass
abbrev pub passing : (ℕ → Bool) → Copies → Copies
passing p online = filter (λ c. p c.0) online

-- a number that passes finds what it found
pub copy_at-passing : (p : ℕ → Bool) (online : Copies) (n : ℕ) → p n ≡ true → copy_at (passing p online) n ≡ copy_at online n
copy_at-passing p online n yes_n =
    ap (option_map (λ (c : ℕ × DiscCopy). c.1))
    (find-filter (λ (c : ℕ × DiscCopy). c.0 == n) (λ (c : ℕ × DiscCopy). p c.0) (λ c out. ne_eqb c.0 n (λ same. true≢false (sym yes_n ∙ ap p (sym same) ∙ out))) online)

-- one that doesn't finds none
pub copy_at-failing : (p : ℕ → Bool) (online : Copies) (n : ℕ) → p n ≡ false → copy_at (passing p online) n ≡ None
copy_at-failing p online n no_n =
    ap (option_map (λ (c : ℕ × DiscCopy). c.1))
    (filter-none (λ (c : ℕ × DiscCopy). c.0 == n) (λ (c : ℕ × DiscCopy). p c.0) (λ c is. ne_eqb c.0 n (λ same. true≢false (sym is ∙ ap p same ∙ no_n))) online)

-- one list followed by another
pub copy_at-front : (xs ys : Copies) (n : ℕ) (copy : DiscCopy) → copy_at xs n ≡ Some copy → copy_at (xs ++ ys) n ≡ Some copy
copy_at-front [] ys n copy is = absurd (let no : ⊥ = cc in no)
copy_at-front (c ∷ xs) ys n copy is =
    elim (cases_eq c.0 n) as (λ _. copy_at ((c ∷ xs) ++ ys) n ≡ Some copy) [
      | inl same ↦ copy_here c (xs ++ ys) n same ∙ sym (copy_here c xs n same) ∙ is
      | inr other ↦ copy_behind c (xs ++ ys) n other ∙ copy_at-front xs ys n copy (sym (copy_behind c xs n other) ∙ is)
    ]

pub copy_at-back : (xs ys : Copies) (n : ℕ) → copy_at xs n ≡ None → copy_at (xs ++ ys) n ≡ copy_at ys n
copy_at-back [] ys n is = refl
copy_at-back (c ∷ xs) ys n is =
    elim (cases_eq c.0 n) as (λ _. copy_at ((c ∷ xs) ++ ys) n ≡ copy_at ys n) [
      | inl same ↦ absurd (let here : copy_at (c ∷ xs) n ≡ Some c.1 = copy_here c xs n same in let no : ⊥ = cc in no)
      | inr other ↦ copy_behind c (xs ++ ys) n other ∙ copy_at-back xs ys n (sym (copy_behind c xs n other) ∙ is)
    ]

-- AN INSERTED COPY is found by its number
pub copy_at-put : (n : ℕ) (copy : DiscCopy) (online : Copies) → copy_at (with_copy_at (n, copy) online) n ≡ Some copy
copy_at-put n copy online =
    copy_at-back (passing (λ m. nat_lt m n) online) ((n, copy) ∷ passing (λ m. nat_lt n m) online) n (copy_at-failing (λ m. nat_lt m n) online n (le-ltb n n (omega arith)))
    ∙ copy_here (n, copy) (passing (λ m. nat_lt n m) online) n refl

-- and other numbers find what they found
pub copy_at-put_other : (n : ℕ) (copy : DiscCopy) (online : Copies) (m : ℕ) → m ≢ n → copy_at (with_copy_at (n, copy) online) m ≡ copy_at online m
copy_at-put_other n copy online m other =
    let front = passing (λ k. nat_lt k n) online in
    let back = passing (λ k. nat_lt n k) online in
    let behind : copy_at ((n, copy) ∷ back) m ≡ copy_at back m = copy_behind (n, copy) back m (λ same. other (sym same)) in
    elim (cases_order m n) as (λ _. copy_at (with_copy_at (n, copy) online) m ≡ copy_at online m) [
      | inl same ↦ absurd (other same)
      | inr (inl less) ↦
          let kept : copy_at front m ≡ copy_at online m = copy_at-passing (λ k. nat_lt k n) online m (lt-ltb m n less) in
          let none : copy_at back m ≡ None = copy_at-failing (λ k. nat_lt n k) online m (le-ltb n m (omega arith)) in
          by_found (copy_at online m) kept none behind
      | inr (inr more) ↦
          copy_at-back front ((n, copy) ∷ back) m (copy_at-failing (λ k. nat_lt k n) online m (le-ltb m n (omega arith)))
          ∙ behind ∙ copy_at-passing (λ k. nat_lt n k) online m (lt-ltb n m more)
    ]
  where
    by_found : (o : Option DiscCopy) → copy_at (passing (λ k. nat_lt k n) online) m ≡ o → copy_at (passing (λ k. nat_lt n k) online) m ≡ None
        → copy_at ((n, copy) ∷ passing (λ k. nat_lt n k) online) m ≡ copy_at (passing (λ k. nat_lt n k) online) m
        → copy_at (with_copy_at (n, copy) online) m ≡ o
    by_found None kept none behind = copy_at-back (passing (λ k. nat_lt k n) online) ((n, copy) ∷ passing (λ k. nat_lt n k) online) m kept ∙ behind ∙ none
    by_found (Some found) kept none behind = copy_at-front (passing (λ k. nat_lt k n) online) ((n, copy) ∷ passing (λ k. nat_lt n k) online) m found kept

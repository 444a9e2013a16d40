-- Copies in order of number, moved from the end of a list to the front of a table.
-- serves: put_all
use Rattle.std.proofs.Common.{◌≡◌, ℕ, suc, ◌<◌, [], ◌∷◌, ◌++◌, All, AllPairs, refl, sym, ◌∙◌, ap, subst, arith}
use Rattle.g_copy.specs.declared.copy.DiscCopy.{DiscCopy}
use Rattle.g_table.specs.Table.{with_item}
use Rattle.g_table.proofs.TableLemmas.{in_front}
use Rattle.g_dirs.proofs.CopyLemmas.{Copies, CopiesAbove, copies_from}

-- the last of the copies in the list precedes those in the table
last_below : (front : Copies) (c : ℕ × DiscCopy) (behind : Copies) → AllPairs (λ c d. c.0 < d.0) (front ++ c ∷ behind) → CopiesAbove c.0 behind
last_below [] c behind rising = (copies_from (c ∷ behind) rising).0
last_below (d ∷ front) c behind rising = last_below front c behind (λ i j e before inside. rising (suc i) (suc j) e (omega arith) (omega arith))

last_of : (P : ℕ × DiscCopy → Type 0) (front : Copies) (c : ℕ × DiscCopy) (behind : Copies) → All P (front ++ c ∷ behind) → P c
last_of P [] c behind all = all 0 c (omega arith)
last_of P (d ∷ front) c behind all = last_of P front c behind (λ k e inside. all (suc k) e (omega (arith, inside)))

one_behind : (front : Copies) (c : ℕ × DiscCopy) (behind : Copies) → (front ++ c ∷ []) ++ behind ≡ front ++ c ∷ behind
one_behind [] c behind = refl
one_behind (d ∷ front) c behind = ap (λ (l : Copies). d ∷ l) (one_behind front c behind)

pair_is : (c : ℕ × DiscCopy) (n : ℕ) (copy : DiscCopy) → n ≡ c.0 → copy ≡ c.1 → (let pair : ℕ × DiscCopy = (n, copy) in pair ≡ c)
pair_is (m, other) n copy same_number same_copy = λ i. (same_number i, same_copy i)

-- ONE MORE copy moves from the end of the list into the table
module _ (copies left rest table : Copies) (c : ℕ × DiscCopy) (split : left ++ table ≡ copies) (popped : left ≡ rest ++ c ∷ []) where
  parts : rest ++ c ∷ table ≡ copies
  parts = sym (one_behind rest c table) ∙ ap (λ (l : Copies). l ++ table) (sym popped) ∙ split

  pub number_below : All (λ d. d.0 < 1024) copies → (n : ℕ) → n ≡ c.0 → n < 1024
  number_below below n is =
      let its : c.0 < 1024 = last_of (λ d. d.0 < 1024) rest c table (subst (All (λ (d : ℕ × DiscCopy). d.0 < 1024)) (sym parts) below) in
      omega (arith, its, is)

  pub moved_on : AllPairs (λ d e. d.0 < e.0) copies → (n : ℕ) (copy : DiscCopy) → n ≡ c.0 → copy ≡ c.1 → (new : Copies) → new ≡ with_item n copy table → rest ++ new ≡ copies
  moved_on rising n copy same_number same_copy new is =
      ap (λ (l : Copies). rest ++ l)
      (is ∙ ap (λ (pair : ℕ × DiscCopy). with_item pair.0 pair.1 table) (pair_is c n copy same_number same_copy)
      ∙ in_front c table (last_below rest c table (subst (AllPairs (λ (d : ℕ × DiscCopy) e. d.0 < e.0)) (sym parts) rising)))
      ∙ parts

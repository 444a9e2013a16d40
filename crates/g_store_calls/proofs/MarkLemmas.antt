-- Marked users stay marked.
-- serves: AddLemmas, BudgetLemmas, EraseLemmas, SetLemmas, VersionLemmas
use Rattle.std.proofs.Common.{◌≡◌, ℕ, true, List, [], ◌∷◌, Option, Some, None, sym, ◌∙◌, ap, inl, inr, subst}
use Rattle.std.specs.Prelude.{◌⊎◌, IfSome}
use Rattle.std.proofs.lemmas.Bool.{cases_eq}
use Rattle.g_incr.specs.Layout.{holds}
use Rattle.g_disc_contents.specs.Contents.{with_number}
use Rattle.g_store_meaning.specs.Directories.{Grows}
use Rattle.g_store_meaning.specs.Staying.{OnlyGrow}
use Rattle.g_store_meaning.specs.StoreInvariant.{DumpFacts, StoreFacts}
use Rattle.g_laws_store.specs.Calls.{marked}
use Rattle.g_laws_store.proofs.UserLemmas.{apart_any, has_new}

-- one more
pub grows_with : (n : ℕ) (numbers : List ℕ) → Grows numbers (with_number n numbers)
grows_with n numbers m is = by_case (cases_eq m n)
  where
    by_case : (m ≡ n) ⊎ (m ≡ n → ⊥) → holds (with_number n numbers) m ≡ true
    by_case (inl same) = subst (λ (k : ℕ). holds (with_number n numbers) k ≡ true) (sym same) (has_new n numbers)
    by_case (inr other) = apart_any n m numbers other ∙ is

pub grows_all : (ns numbers : List ℕ) → Grows numbers (marked ns numbers)
grows_all [] numbers m is = is
grows_all (n ∷ ns) numbers m is = grows_with n (marked ns numbers) m (grows_all ns numbers m is)

-- a marked user is changed, and touched if a dump is open
open_grows : (ns : List ℕ) (touched now : List ℕ) (dump : Option DumpFacts) → IfSome dump (λ d. now ≡ marked ns touched) → IfSome dump (λ d. Grows touched now)
open_grows ns touched now None is = tt
open_grows ns touched now (Some d) is = λ m has. ap (λ (l : List ℕ). holds l m) is ∙ grows_all ns touched m has

pub only_grow : (s : StoreFacts) (ns changed touched : List ℕ) → changed ≡ marked ns s.online.changed → IfSome s.dump (λ d. touched ≡ marked ns s.online.touched) → OnlyGrow s changed touched
only_grow s ns changed touched is open_is = record {
  grows = λ m has. ap (λ (l : List ℕ). holds l m) is ∙ grows_all ns s.online.changed m has;
  grows_open = open_grows ns s.online.touched touched s.dump open_is;
}

-- the first of them is
pub has_first : (n : ℕ) (ns numbers : List ℕ) → holds (marked (n ∷ ns) numbers) n ≡ true
has_first n ns numbers = has_new n (marked ns numbers)

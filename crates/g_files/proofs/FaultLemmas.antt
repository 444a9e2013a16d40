-- Causes of failures, from call to call.
-- serves: cut_and_sync (cause), cut_at (cause), finish (cause), finish_all, flush (cause), sync (cause), sync_once (cause), write_whole, crates above
use Rattle.std.proofs.Common.{◌≡◌, ℕ, ◌+◌, ◌<◌, ◌≤◌, ◌⊎◌, true≢false, List, Result, Ok, Err, OnErr, ap, arith, get_or, inl, inr, is_err, length, subst, sym}
use Rattle.std.specs.Prelude.{sum_by}
use Rattle.std.specs.Result.{result_and}
use Rattle.std.proofs.Math.ListN.{set}
use Rattle.std.proofs.lemmas.List.Sums.{get_or-le-sum_by, sum_by-set}
use Rattle.g_base.specs.Counts.{Rose}
use Rattle.g_base.proofs.CountLemmas.{Rose-behind, Rose-before, Rose-later}
use Rattle.g_io.specs.Streams.{CountsFault}
use Rattle.g_files.specs.Faults.{FailsByFault}

-- a single call
pub counted : {T E : Type 0} (r : Result T E) (a b : ℕ) → CountsFault r a b → FailsByFault r a b
counted (Ok x) a b is = record { later = omega (arith, is); rose = tt }
counted (Err e) a b is = record { later = Rose-later is; rose = is }

-- the same failure, under another name
pub fails_so : {T E U G : Type 0} (r : Result T E) (s : Result U G) (a b : ℕ) → is_err r ≡ is_err s → FailsByFault r a b → FailsByFault s a b
fails_so (Ok x) (Ok y) a b same is = record { later = is.later; rose = tt }
fails_so (Err e) (Err f) a b same is = record { later = is.later; rose = is.rose }
fails_so (Ok x) (Err f) a b same is = absurd (true≢false (sym same))
fails_so (Err e) (Ok y) a b same is = absurd (true≢false same)

-- after calls that succeeded, perhaps after some that failed
pub fails_after : {T E : Type 0} (r : Result T E) (a b c : ℕ) → a ≤ b → FailsByFault r b c → FailsByFault r a c
fails_after (Ok x) a b c first is = record { later = let more = is.later in omega (arith, first, more); rose = tt }
fails_after (Err e) a b c first is = record { later = let more = is.later in omega (arith, first, more); rose = Rose-behind first is.rose }

-- n calls wrote at least n bytes, or one of them failed
pub tried_more : (calls done count a b c : ℕ) → (calls ≤ done) ⊎ Rose a b → 0 < count → c ≡ b → (calls + 1 ≤ done + count) ⊎ Rose a c
tried_more calls done count a b c (inl few) some same = inl (omega (arith, few, some))
tried_more calls done count a b c (inr rose) some same = inr (subst (Rose a) (sym same) rose)

-- what follows from the cause of an error
on_err_then : {T E : Type 0} {P Q : Type 0} (r : Result T E) → (P → Q) → OnErr r P → OnErr r Q
on_err_then (Ok x) f is = tt
on_err_then (Err e) f is = f is

-- a part of a sum rose, and no part fell
pub sum_rose : (a a' b b' : ℕ) → Rose a a' → b ≤ b' → Rose (a + b) (a' + b')
sum_rose a a' b b' rose more = let is = rose.more in record { more = omega (arith, is, more) }

pub rose_sum : (a a' b b' : ℕ) → a ≤ a' → Rose b b' → Rose (a + b) (a' + b')
rose_sum a a' b b' more rose = let is = rose.more in record { more = omega (arith, is, more) }

-- one of several files had its calls, and the others none
pub fails_among : {A T E : Type 0} (f : A → ℕ) (xs : List A) (i : ℕ) (was now : A) → i < length xs → was ≡ get_or xs i was → (r : Result T E)
    → FailsByFault r (f was) (f now) → FailsByFault r (sum_by f xs) (sum_by f (set xs i now))
fails_among f xs i was now within is r call =
    let same = sum_by-set f xs i now was within in
    let here = ap f is in
    let part = get_or-le-sum_by f xs i was within in
    let more = call.later in record {
      later = omega (arith, same, here, more);
      rose = on_err_then r (λ rose. let up = rose.more in record { more = omega (arith, same, here, part, up) }) call.rose;
    }

-- two calls, of which the first error is returned
pub and_fails : {T U E : Type 0} (r : Result T E) (s : Result U E) (a b c : ℕ) → FailsByFault r a b → FailsByFault s b c → FailsByFault (result_and r s) a c
and_fails (Ok x) s a b c first is = fails_after s a b c first.later is
and_fails (Err e) s a b c first is = record { later = let one = first.later in let more = is.later in omega (arith, one, more); rose = Rose-before first.rose is.later }

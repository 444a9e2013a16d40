-- What follows under a result.
-- serves: free_file (least, unused), is_allowed, is_ninth, listing, listing_of
use Rattle.std.proofs.Common.{◌≡◌, ◌↔◌, Bool, true, false, Option, Some, None, IfSome, Result, Ok, Err, IfOk, refl, sym, true≢false}

pub ok_then : {A E : Type 0} (r : Result A E) {P Q : A → Type 0} → ((x : A) → P x → Q x) → IfOk r P → IfOk r Q
ok_then (Ok x) f p = f x p
ok_then (Err e) f p = tt

pub some_then : {A : Type 0} (o : Option A) {P Q : A → Type 0} → ((x : A) → P x → Q x) → IfSome o P → IfSome o Q
some_then (Some x) f p = f x p
some_then None f p = tt

-- two tests that hold together are one
pub same_tests : (a b : Bool) → ((a ≡ true) ↔ (b ≡ true)) → a ≡ b
same_tests true true both = refl
same_tests true false both = absurd (true≢false (sym (both.0 refl)))
same_tests false true both = absurd (true≢false (sym (both.1 refl)))
same_tests false false both = refl

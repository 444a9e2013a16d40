-- Accounts: the place of a user's account, and what ended jobs leave of it.
-- serves: account_for, charge, end (kept, settled), has_account, left_for, place_for, searched, NumberLemmas, OpeningLemmas, RowLemmas, and 2 more
use Rattle.std.proofs.Common.{◌≡◌, ◌+◌, ◌-◌, ◌<◌, ◌∙◌, ◌++◌, ◌∷◌, [], Bool, List, None, Option, Some, ap, append-nil, arith, cond, drop, false, find, get_or, is_some, length, refl, slice_get, subst, suc, sum_by, sym, take, take_all, true, true≢false, unwrap_or, zero, ℕ}
use Rattle.std.specs.Option.{option_map, option_or}
use Rattle.std.proofs.lemmas.Bool.{cond_both, false≢true}
use Rattle.std.proofs.lemmas.List.{drop_all, take_more}
use Rattle.std.proofs.lemmas.List.Elements.{filter_more}
use Rattle.std.proofs.lemmas.List.Folds.{find-append}
use Rattle.std.proofs.lemmas.List.Sums.{sum_by-append, sum_by_push}
use Rattle.std.proofs.lemmas.Option.{none-some, same_Some}
use Rattle.std.proofs.lemmas.Slice.Eq.{bytes_eq-Decides}
use Rattle.g_name.specs.Order.{same_text}
use Rattle.g_job_table.specs.Accounts.{AreKept, KeepAccounts, charged, kept_for, left_behind, less}
use Rattle.g_job_table.specs.Keeping.{IsLeft, IsPlaceFor, empty_for, less_held}
use Rattle.g_job_table.specs.declared.account.Account.{Account}
use Rattle.g_job.specs.State.{JobState}
use Rattle.g_run_model.specs.Accounts.{Opened, Spent, account_of, jobs_of, money_left, settled, time_left}
use Rattle.g_run_model.specs.Lines.{no_account}

pub same_eq : (a b : List ℕ) → same_text a b ≡ true → a ≡ b
same_eq a b is = (bytes_eq-Decides a b).0 is

pub same_refl : (a : List ℕ) → same_text a a ≡ true
same_refl a = (bytes_eq-Decides a a).1 refl

pub apart : (a b u : List ℕ) → same_text a b ≡ false → same_text a u ≡ true → same_text b u ≡ false
apart a b u other is =
    elim (same_text b u) as (λ t. same_text b u ≡ t → t ≡ false) [
      | true ↦ λ e. absurd (false≢true (sym other ∙ ap (λ (t : List ℕ). same_text t b) (same_eq a u is ∙ sym (same_eq b u e)) ∙ same_refl b))
      | false ↦ λ e. refl
    ] refl

pub cond_none : {X : Type 0} (b : Bool) (x : X) (o : Option X) → cond b (Some x) o ≡ None → (b ≡ false) × (o ≡ None)
cond_none true x o e = absurd (none-some x (sym e))
cond_none false x o e = (refl, e)

-- no item passes so far, and the next one doesn't
pub find_more : {X : Type 0} (p : X → Bool) (xs : List X) (i : ℕ) (x : X) → i < length xs → x ≡ get_or xs i x → find p (take i xs) ≡ None → p x ≡ false → find p (take (i + 1) xs) ≡ None
find_more p xs i x within is none fails =
    ap (find p) (take_more xs i x within ∙ ap (λ y. take i xs ++ y ∷ []) (sym is)) ∙ find-append p (take i xs) (x ∷ [])
    ∙ ap (λ o. option_or o (cond (p x) (Some x) None)) none ∙ ap (λ b. cond b (Some x) None) fails

-- an item that a look-up finds passes
pub find_passes : {X : Type 0} (p : X → Bool) (xs : List X) (x : X) → find p xs ≡ Some x → p x ≡ true
find_passes p [] x e = absurd (none-some x e)
find_passes p (y ∷ xs) x e =
    cond_both (p y) (Some y) (find p xs) (λ o. o ≡ Some x → p x ≡ true) (λ passes here. subst (λ z. p z ≡ true) (same_Some y x here) passes)
    (λ fails later. find_passes p xs x later) e

-- the account at a place is the first of the user's if none before it is the user's
pub IsPlaceFor-first : (kept : List Account) (user : List ℕ) (place : ℕ) (a : Account) → kept_for (take place kept) user ≡ None → slice_get kept place ≡ Some a → same_text a.user user ≡ true
    → IsPlaceFor kept user place
IsPlaceFor-first [] user place a none there named = absurd (none-some a there)
IsPlaceFor-first (b ∷ kept) user zero a none there named =
    let same : b ≡ a = same_Some b a there in
    let named' : same_text b.user user ≡ true = ap (λ (x : Account). same_text x.user user) same ∙ named in
    record {
      account = b;
      there = refl;
      named = named';
      found = ap (λ (t : Bool). cond t (Some b) (kept_for kept user)) named';
      charge = λ j is. ap (λ (t : Bool). cond t (less j b ∷ kept) (b ∷ charged j kept)) (ap (λ (u : List ℕ). same_text b.user u) is ∙ named');
    }
IsPlaceFor-first (b ∷ kept) user (suc place) a none there named =
    let (other, before) = cond_none (same_text b.user user) b (kept_for (take place kept) user) none in
    let rest = IsPlaceFor-first kept user place a before there named in
    record {
      account = rest.account;
      there = rest.there;
      named = rest.named;
      found = ap (λ (t : Bool). cond t (Some b) (kept_for kept user)) other ∙ rest.found;
      charge = λ j is.
          ap (λ (t : Bool). cond t (less j b ∷ kept) (b ∷ charged j kept)) (ap (λ (u : List ℕ). same_text b.user u) is ∙ other) ∙ ap (λ ks. b ∷ ks) (rest.charge j is);
    }

-- no account is charged
pub charged-none : (j : JobState) (kept : List Account) → kept_for kept j.user ≡ None → charged j kept ≡ kept
charged-none j [] none = refl
charged-none j (a ∷ kept) none =
    let (other, before) = cond_none (same_text a.user j.user) a (kept_for kept j.user) none in
    ap (λ (t : Bool). cond t (less j a ∷ kept) (a ∷ charged j kept)) other ∙ ap (λ ks. a ∷ ks) (charged-none j kept before)

module _ {X : Type 0} (f : X → X) where
  taken_hit : (a j : Bool) (x : X) (rest : Option X) → a ≡ j → cond a (Some (f x)) rest ≡ cond j (option_map f (cond a (Some x) rest)) (cond a (Some x) rest)
  taken_hit true true x rest e = refl
  taken_hit true false x rest e = absurd (true≢false e)
  taken_hit false true x rest e = absurd (false≢true e)
  taken_hit false false x rest e = refl

  taken_miss : (a j : Bool) (x : X) (rest new : Option X) → (a ≡ true → j ≡ false) → new ≡ cond j (option_map f rest) rest
      → cond a (Some x) new ≡ cond j (option_map f (cond a (Some x) rest)) (cond a (Some x) rest)
  taken_miss true true x rest new unlike e = absurd (true≢false (unlike refl))
  taken_miss true false x rest new unlike e = refl
  taken_miss false true x rest new unlike e = e
  taken_miss false false x rest new unlike e = e

kept-charged : (j : JobState) (kept : List Account) (user : List ℕ) → kept_for (charged j kept) user ≡ cond (same_text j.user user) (option_map (less j) (kept_for kept user)) (kept_for kept user)
kept-charged j [] user = cond_both (same_text j.user user) None None (λ (o : Option Account). None ≡ o) (λ here. refl) (λ other. refl)
kept-charged j (a ∷ kept) user =
    cond_both (same_text a.user j.user) (less j a ∷ kept) (a ∷ charged j kept)
    (λ ks. kept_for ks user ≡ cond (same_text j.user user) (option_map (less j) (kept_for (a ∷ kept) user)) (kept_for (a ∷ kept) user))
    (λ same. taken_hit (less j) (same_text a.user user) (same_text j.user user) a (kept_for kept user) (ap (λ (t : List ℕ). same_text t user) (same_eq a.user j.user same)))
    (λ other. taken_miss (less j) (same_text a.user user) (same_text j.user user) a (kept_for kept user) (kept_for (charged j kept) user) (apart a.user j.user user other) (kept-charged j kept user))

-- an account from which an ended job has taken
abbrev with_spent : JobState → Opened → Opened
with_spent j a = record a { ended = a.ended ++ (record { time = j.used; money = j.used_money }) ∷ [] }

account-settled : (j : JobState) (accounts : List Opened) (user : List ℕ) → account_of (settled j accounts) user ≡ cond (same_text j.user user) (option_map (with_spent j) (account_of accounts user)) (account_of accounts user)
account-settled j [] user = cond_both (same_text j.user user) None None (λ (o : Option Opened). None ≡ o) (λ here. refl) (λ other. refl)
account-settled j (a ∷ accounts) user =
    cond_both (same_text a.user j.user) (with_spent j a ∷ accounts) (a ∷ settled j accounts)
    (λ ks. account_of ks user ≡ cond (same_text j.user user) (option_map (with_spent j) (account_of (a ∷ accounts) user)) (account_of (a ∷ accounts) user))
    (λ same. taken_hit (with_spent j) (same_text a.user user) (same_text j.user user) a (account_of accounts user) (ap (λ (t : List ℕ). same_text t user) (same_eq a.user j.user same)))
    (λ other. taken_miss (with_spent j) (same_text a.user user) (same_text j.user user) a (account_of accounts user) (account_of (settled j accounts) user) (apart a.user j.user user other) (account-settled j accounts user))

minus : (a b c n : ℕ) → n ≡ b + c → a - b - c ≡ a - n
minus a b c n e = omega (arith, e)

left-spent : (j : JobState) (a : Opened) → less j (left_behind a) ≡ left_behind (with_spent j a)
left-spent j a =
    let spent : Spent = record { time = j.used; money = j.used_money } in
    let time = minus a.time (sum_by (λ s. s.time) a.ended) j.used _ (sum_by_push (λ (s : Spent). s.time) a.ended spent) in
    let money = minus a.money (sum_by (λ s. s.money) a.ended) j.used_money _ (sum_by_push (λ (s : Spent). s.money) a.ended spent) in
    (λ i. record { user = a.user; time = time i; money = money i })

both-settled : (j : JobState) (here : Bool) (old : Option Opened) (kept : Option Account) → kept ≡ option_map left_behind old
    → cond here (option_map (less j) kept) kept ≡ option_map left_behind (cond here (option_map (with_spent j) old) old)
both-settled j true None kept e = ap (option_map (less j)) e
both-settled j true (Some a) kept e = ap (option_map (less j)) e ∙ ap (λ (x : Account). Some x) (left-spent j a)
both-settled j false old kept e = e

-- a user who has an account still has it
pub charged-keeps : (j : JobState) (kept : List Account) → KeepAccounts kept (charged j kept)
charged-keeps j kept user some = ap is_some (kept-charged j kept user) ∙ both (same_text j.user user) (kept_for kept user) some
  where
    both : (b : Bool) (o : Option Account) → is_some o ≡ true → is_some (cond b (option_map (less j) o) o) ≡ true
    both b None none = absurd (false≢true none)
    both true (Some a) some = refl
    both false (Some a) some = refl

-- an ended job's account is settled in both
pub AreKept-settled : (j : JobState) (accounts : List Opened) (kept : List Account) → AreKept accounts kept → AreKept (settled j accounts) (charged j kept)
AreKept-settled j accounts kept are user =
    kept-charged j kept user ∙ both-settled j (same_text j.user user) (account_of accounts user) (kept_for kept user) (are user)
    ∙ ap (option_map left_behind) (sym (account-settled j accounts user))

left_by : (old : Option Opened) (kept : Option Account) (jobs : List JobState) (user : List ℕ) (left : Account)
    → ((a : Opened) → old ≡ Some a → a.user ≡ user) → kept ≡ option_map left_behind old
    → left.time ≡ (unwrap_or kept (empty_for user)).time - sum_by (λ j. j.allowance) (jobs_of user jobs)
    → left.money ≡ (unwrap_or kept (empty_for user)).money - sum_by (λ j. j.money) (jobs_of user jobs)
    → (left.time ≡ time_left (unwrap_or old (no_account user)) jobs) × (left.money ≡ money_left (unwrap_or old (no_account user)) jobs)
left_by None kept jobs user left mine e time money = (
  time ∙ ap (λ (k : Option Account). (unwrap_or k (empty_for user)).time - sum_by (λ j. j.allowance) (jobs_of user jobs)) e,
  money ∙ ap (λ (k : Option Account). (unwrap_or k (empty_for user)).money - sum_by (λ j. j.money) (jobs_of user jobs)) e,
)
left_by (Some a) kept jobs user left mine e time money =
    let named : user ≡ a.user = sym (mine a refl) in (
      time ∙ ap (λ (k : Option Account). (unwrap_or k (empty_for user)).time - sum_by (λ j. j.allowance) (jobs_of user jobs)) e
          ∙ ap (λ (u : List ℕ). a.time - sum_by (λ s. s.time) a.ended - sum_by (λ j. j.allowance) (jobs_of u jobs)) named,
      money ∙ ap (λ (k : Option Account). (unwrap_or k (empty_for user)).money - sum_by (λ j. j.money) (jobs_of user jobs)) e
          ∙ ap (λ (u : List ℕ). a.money - sum_by (λ s. s.money) a.ended - sum_by (λ j. j.money) (jobs_of u jobs)) named,
    )

-- what is left in the table is what is left in a world
pub left-world : (accounts : List Opened) (kept : List Account) (jobs : List JobState) (user : List ℕ) (left : Account) → AreKept accounts kept → IsLeft kept jobs user left
    → (left.time ≡ time_left (unwrap_or (account_of accounts user) (no_account user)) jobs) × (left.money ≡ money_left (unwrap_or (account_of accounts user) (no_account user)) jobs)
left-world accounts kept jobs user left are is =
    left_by (account_of accounts user) (kept_for kept user) jobs user left
    (λ a e. same_eq a.user user (find_passes (λ (x : Opened). same_text x.user user) accounts a e)) (are user) is.time is.money

-- without jobs nothing is held
pub IsLeft-none : (kept : List Account) (user : List ℕ) (left : Account) → left ≡ unwrap_or (kept_for kept user) (empty_for user) → IsLeft kept [] user left
IsLeft-none kept user left is = record {
  time = ap (λ (a : Account). a.time) is ∙ sym (minus_nil (unwrap_or (kept_for kept user) (empty_for user)).time);
  money = ap (λ (a : Account). a.money) is ∙ sym (minus_nil (unwrap_or (kept_for kept user) (empty_for user)).money);
}
  where
    minus_nil : (n : ℕ) → n - 0 ≡ n
    minus_nil n = omega arith

held-more : (f : JobState → ℕ) (user : List ℕ) (jobs : List JobState) (i : ℕ) (j : JobState) → i < length jobs → j ≡ get_or jobs i j
    → sum_by f (jobs_of user (take (i + 1) jobs)) ≡ sum_by f (jobs_of user (take i jobs)) + cond (same_text j.user user) (f j) 0
held-more f user jobs i j within is =
    ap (sum_by f) (filter_more (λ (x : JobState). same_text x.user user) jobs i j within)
    ∙ sum_by-append f (jobs_of user (take i jobs)) (cond (same_text (get_or jobs i j).user user) (get_or jobs i j ∷ []) [])
    ∙ ap (λ (n : ℕ). sum_by f (jobs_of user (take i jobs)) + n)
    (ap (λ (x : JobState). sum_by f (cond (same_text x.user user) (x ∷ []) [])) (sym is) ∙ one (same_text j.user user))
  where
    one : (b : Bool) → sum_by f (cond b (j ∷ []) []) ≡ cond b (f j) 0
    one true = omega arith
    one false = refl

less_by : (b : Bool) (held left all so_far now : ℕ) → left ≡ all - so_far → now ≡ so_far + cond b held 0 → cond b (left - held) left ≡ all - now
less_by true held left all so_far now is more = omega (arith, is, more)
less_by false held left all so_far now is more = omega (arith, is, more)

less_parts : (b : Bool) (time money : ℕ) (left : Account)
    → let new : Account = cond b (record left { time = left.time - time; money = left.money - money }) left in
    (new.time ≡ cond b (left.time - time) left.time) × (new.money ≡ cond b (left.money - money) left.money)
less_parts true time money left = (refl, refl)
less_parts false time money left = (refl, refl)

-- one more job holds its allowances
pub IsLeft-more : (kept : List Account) (jobs : List JobState) (i : ℕ) (j : JobState) (user : List ℕ) (left new : Account) → IsLeft kept (take i jobs) user left
    → i < length jobs → j ≡ get_or jobs i j → new ≡ less_held user j left → IsLeft kept (take (i + 1) jobs) user new
IsLeft-more kept jobs i j user left new is_left within is less_is =
    let account = unwrap_or (kept_for kept user) (empty_for user) in
    let parts = less_parts (same_text j.user user) j.allowance j.money left in
    record {
      time = ap (λ (a : Account). a.time) less_is ∙ parts.0
          ∙ less_by (same_text j.user user) j.allowance left.time account.time (sum_by (λ x. x.allowance) (jobs_of user (take i jobs))) _ is_left.time
          (held-more (λ (x : JobState). x.allowance) user jobs i j within is);
      money = ap (λ (a : Account). a.money) less_is ∙ parts.1
          ∙ less_by (same_text j.user user) j.money left.money account.money (sum_by (λ x. x.money) (jobs_of user (take i jobs))) _ is_left.money
          (held-more (λ (x : JobState). x.money) user jobs i j within is);
    }

-- an account by its parts
pub account_is : (a : Account) (user : List ℕ) (time money : ℕ) → user ≡ a.user → time ≡ a.time → money ≡ a.money
    → let new : Account = record { user = user; time = time; money = money } in new ≡ a
account_is a user time money named times moneys = λ i. record { user = named i; time = times i; money = moneys i }

-- an account that is at a place is found
pub kept-some : (kept : List Account) (user : List ℕ) (place : ℕ) (a : Account) → slice_get kept place ≡ Some a → same_text a.user user ≡ true → true ≡ is_some (kept_for kept user)
kept-some [] user place a there named = absurd (none-some a there)
kept-some (b ∷ kept) user zero a there named =
    let named' : same_text b.user user ≡ true = ap (λ (x : Account). same_text x.user user) (same_Some b a there) ∙ named in
    sym (ap (λ (t : Bool). is_some (cond t (Some b) (kept_for kept user))) named')
kept-some (b ∷ kept) user (suc place) a there named =
    cond_both (same_text b.user user) (Some b) (kept_for kept user) (λ o. true ≡ is_some o) (λ here. refl) (λ other. kept-some kept user place a there named)

length-charged : (j : JobState) (kept : List Account) → length (charged j kept) ≡ length kept
length-charged j [] = refl
length-charged j (a ∷ kept) =
    cond_both (same_text a.user j.user) (less j a ∷ kept) (a ∷ charged j kept) (λ ks. length ks ≡ suc (length kept)) (λ here. refl)
    (λ other. ap (λ (n : ℕ). suc n) (length-charged j kept))

-- accounts that were charged in place
pub charged-whole : (j : JobState) (kept : List Account) (len : ℕ) → len ≡ length kept → take len (charged j kept ++ drop (length (charged j kept)) kept) ≡ charged j kept
charged-whole j kept len is =
    let same = length-charged j kept in
    ap (λ rest. take len (charged j kept ++ rest)) (drop_all (length (charged j kept)) kept (omega (arith, same)))
    ∙ ap (λ xs. take len xs) (append-nil (charged j kept)) ∙ take_all len (charged j kept) (omega (arith, same, is))

-- Accounts that open, compared with those of a world.
-- serves: open_accounts (all, opened), open_each, crates above
use Rattle.std.proofs.Common.{◌≡◌, ◌+◌, ◌-◌, ◌<◌, ◌∙◌, ◌++◌, ◌||◌, ◌∷◌, [], Bool, List, None, Option, Some, ap, arith, cond, false, filter, find, get_or, is_some, length, map, not, refl, sym, take, true, ℕ}
use Rattle.std.specs.Option.{option_map, option_or}
use Rattle.std.proofs.lemmas.Bool.{cond_both, false≢true}
use Rattle.std.proofs.lemmas.List.{take_more}
use Rattle.std.proofs.lemmas.List.Folds.{find-append}
use Rattle.std.proofs.lemmas.Option.{none-some, same_Some}
use Rattle.g_name.specs.Order.{same_text}
use Rattle.g_entry.specs.declared.user_rec.UserRec.{UserRec}
use Rattle.g_plain.specs.PlainTree.{UserRow}
use Rattle.g_store_model.specs.State.{State}
use Rattle.g_job_table.specs.Accounts.{AreKept, HaveAccounts, HaveRows, kept_for, left_behind, record_budgets, row_budgets}
use Rattle.g_job_table.specs.Keeping.{Opens, opening, user_in}
use Rattle.g_job_table.specs.declared.account.Account.{Account}
use Rattle.g_job_table.proofs.AccountLemmas.{cond_none, find_passes, same_eq}
use Rattle.g_run_model.specs.Accounts.{Opened, account_of, has_account, opened_of, rows_of, with_new}

module _ {X Y : Type 0} (f : X → Y) where
  or_push : (old : Option Y) (seen : Option X) (t : Bool) (u : X)
      → option_or (option_or old (option_map f seen)) (cond t (Some (f u)) None) ≡ option_or old (option_map f (option_or seen (cond t (Some u) None)))
  or_push (Some o) seen t u = refl
  or_push None (Some p) t u = refl
  or_push None None true u = refl
  or_push None None false u = refl

  or_stays : (old : Option Y) (seen : Option X) (t : Bool) (u : X) → (t ≡ true → is_some (option_or old (option_map f seen)) ≡ true)
      → option_or old (option_map f seen) ≡ option_or old (option_map f (option_or seen (cond t (Some u) None)))
  or_stays (Some o) seen t u some = refl
  or_stays None (Some p) t u some = refl
  or_stays None None true u some = absurd (false≢true (some refl))
  or_stays None None false u some = refl

  or_some : (o : Option Y) (seen : Option X) → is_some seen ≡ true → is_some (option_or o (option_map f seen)) ≡ true
  or_some (Some y) seen some = refl
  or_some None (Some x) some = refl
  or_some None None some = absurd (false≢true some)

  or_same : (o : Option Y) (seen : Option X) → (is_some seen ≡ true → is_some o ≡ true) → o ≡ option_or o (option_map f seen)
  or_same (Some y) seen has = refl
  or_same None (Some x) has = absurd (false≢true (has refl))
  or_same None None has = refl

user_in-more : (users : List UserRec) (i : ℕ) (u : UserRec) (user : List ℕ) → i < length users → u ≡ get_or users i u
    → user_in (take (i + 1) users) user ≡ option_or (user_in (take i users) user) (cond (same_text u.user user) (Some u) None)
user_in-more users i u user within is =
    ap (λ us. user_in us user) (take_more users i u within ∙ ap (λ (r : UserRec). take i users ++ r ∷ []) (sym is))
    ∙ find-append (λ (r : UserRec). same_text r.user user) (take i users) (u ∷ [])

-- the next user has an account
pub Opens-has : (old now : List Account) (users : List UserRec) (i : ℕ) (u : UserRec) → Opens old (take i users) now → i < length users → u ≡ get_or users i u
    → is_some (kept_for now u.user) ≡ true → Opens old (take (i + 1) users) now
Opens-has old now users i u opens within is has user =
    opens user
    ∙ or_stays opening (kept_for old user) (user_in (take i users) user) (same_text u.user user) u
    (λ same. ap is_some (sym (opens user)) ∙ ap (λ (n : List ℕ). is_some (kept_for now n)) (sym (same_eq u.user user same)) ∙ has)
    ∙ ap (λ (o : Option UserRec). option_or (kept_for old user) (option_map opening o)) (sym (user_in-more users i u user within is))

-- the next user gets one
pub Opens-push : (old now : List Account) (users : List UserRec) (i : ℕ) (u : UserRec) → Opens old (take i users) now → i < length users → u ≡ get_or users i u
    → Opens old (take (i + 1) users) (now ++ opening u ∷ [])
Opens-push old now users i u opens within is user =
    find-append (λ (a : Account). same_text a.user user) now (opening u ∷ [])
    ∙ ap (λ (o : Option Account). option_or o (cond (same_text u.user user) (Some (opening u)) None)) (opens user)
    ∙ or_push opening (kept_for old user) (user_in (take i users) user) (same_text u.user user) u
    ∙ ap (λ (o : Option UserRec). option_or (kept_for old user) (option_map opening o)) (sym (user_in-more users i u user within is))

-- a user without an account isn't among those who have one
none_has : (accounts : List Opened) (user : List ℕ) → account_of accounts user ≡ None → has_account accounts user ≡ false
none_has [] user none = refl
none_has (a ∷ accounts) user none =
    let (other, before) = cond_none (same_text a.user user) a (account_of accounts user) none in
    ap (λ (t : Bool). t || has_account accounts user) other ∙ none_has accounts user before

map_cond : (b : Bool) (e : List ℕ × UserRow) (rest : Option (List ℕ × UserRow)) (new : Option Opened) → new ≡ option_map opened_of rest
    → cond b (Some (opened_of e)) new ≡ option_map opened_of (cond b (Some e) rest)
map_cond true e rest new is = refl
map_cond false e rest new is = is

new_rows : (accounts : List Opened) (rows : List (List ℕ × UserRow)) (user : List ℕ) → account_of accounts user ≡ None
    → account_of (map opened_of (filter (λ e. not (has_account accounts e.0)) rows)) user ≡ option_map opened_of (find (λ e. same_text e.0 user) rows)
new_rows accounts [] user none = refl
new_rows accounts (e ∷ rows) user none =
    let rest = new_rows accounts rows user none in
    cond_both (not (has_account accounts e.0)) (e ∷ filter (λ d. not (has_account accounts d.0)) rows) (filter (λ d. not (has_account accounts d.0)) rows)
    (λ ds. account_of (map opened_of ds) user ≡ option_map opened_of (find (λ d. same_text d.0 user) (e ∷ rows)))
    (λ fresh. map_cond (same_text e.0 user) e (find (λ d. same_text d.0 user) rows) _ rest)
    (λ old. rest ∙ ap (λ (t : Bool). option_map opened_of (cond t (Some e) (find (λ d. same_text d.0 user) rows))) (sym (other old)))
  where
    other : not (has_account accounts e.0) ≡ false → same_text e.0 user ≡ false
    other old =
        elim (same_text e.0 user) as (λ t. same_text e.0 user ≡ t → t ≡ false) [
          | true ↦ λ is. absurd (false≢true (sym old ∙ ap not (ap (λ (n : List ℕ). has_account accounts n) (same_eq e.0 user is) ∙ none_has accounts user none)))
          | false ↦ λ is. refl
        ] refl

minus_none : (n : ℕ) → n - 0 ≡ n
minus_none n = omega arith

opened-left : (e : List ℕ × UserRow) → left_behind (opened_of e) ≡ record { user = e.0; time = e.1.time; money = e.1.money }
opened-left e = (λ i. record { user = e.0; time = minus_none e.1.time i; money = minus_none e.1.money i })

-- a user's row and record open the same account
same_opening : (user : List ℕ) (row : Option (List ℕ × UserRow)) (r : Option UserRec)
    → ((e : List ℕ × UserRow) → row ≡ Some e → e.0 ≡ user) → ((u : UserRec) → r ≡ Some u → u.user ≡ user)
    → option_map record_budgets r ≡ option_map row_budgets row → option_map left_behind (option_map opened_of row) ≡ option_map opening r
same_opening user None None mine yours same = refl
same_opening user None (Some u) mine yours same = absurd (none-some (record_budgets u) (sym same))
same_opening user (Some e) None mine yours same = absurd (none-some (row_budgets e) same)
same_opening user (Some e) (Some u) mine yours same =
    let budgets : record_budgets u ≡ row_budgets e = same_Some (record_budgets u) (row_budgets e) same in
    let names : e.0 ≡ u.user = mine e refl ∙ sym (yours u refl) in
    ap (λ (a : Account). Some a)
    (opened-left e ∙ (λ i. record { user = names i; time = (sym budgets i).0; money = (sym budgets i).1 }))

both-opened : (old : Option Opened) (kept : Option Account) (new : Option Opened) (r : Option UserRec) → kept ≡ option_map left_behind old
    → (old ≡ None → option_map left_behind new ≡ option_map opening r) → option_or kept (option_map opening r) ≡ option_map left_behind (option_or old new)
both-opened (Some a) kept new r e f = ap (λ (k : Option Account). option_or k (option_map opening r)) e
both-opened None kept new r e f = ap (λ (k : Option Account). option_or k (option_map opening r)) e ∙ sym (f refl)

-- the accounts that open are those that open in a world
pub AreKept-opened : (s : State) (accounts : List Opened) (old new : List Account) (users : List UserRec) → HaveRows users (rows_of s) → AreKept accounts old → Opens old users new
    → AreKept (with_new s accounts) new
AreKept-opened s accounts old new users rows are opens user =
    let more = map opened_of (filter (λ e. not (has_account accounts e.0)) (rows_of s)) in
    opens user
    ∙ both-opened (account_of accounts user) (kept_for old user) (account_of more user) (user_in users user) (are user)
    (λ none.
    ap (option_map left_behind) (new_rows accounts (rows_of s) user none)
    ∙ same_opening user (find (λ e. same_text e.0 user) (rows_of s)) (user_in users user)
    (λ e is. same_eq e.0 user (find_passes (λ (d : List ℕ × UserRow). same_text d.0 user) (rows_of s) e is))
    (λ u is. same_eq u.user user (find_passes (λ (r : UserRec). same_text r.user user) users u is)) (rows user))
    ∙ ap (option_map left_behind) (sym (find-append (λ (a : Opened). same_text a.user user) accounts more))

-- after the opening each user has an account
pub Opens-all : (old new : List Account) (users : List UserRec) → Opens old users new → HaveAccounts users new
Opens-all old new users opens user some = ap is_some (opens user) ∙ or_some opening (kept_for old user) (user_in users user) some

-- if each user has an account, none opens
pub none_opens : (s : State) (accounts : List Opened) (kept : List Account) (users : List UserRec) → HaveAccounts users kept → HaveRows users (rows_of s) → AreKept accounts kept
    → AreKept (with_new s accounts) kept
none_opens s accounts kept users all rows are = AreKept-opened s accounts kept kept users rows are (λ user. or_same opening (kept_for kept user) (user_in users user) (all user))

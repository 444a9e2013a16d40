-- The stored accounts, and those of a world.
use Rattle.std.specs.Prelude.{◌≡◌, ℕ, ◌-◌, true, List, [], ◌∷◌, Option, find, is_some, sum_by, if◌then◌else◌}
use Rattle.std.specs.Option.{option_map}
use Rattle.g_name.specs.Order.{same_text}
use Rattle.g_entry.specs.declared.user_rec.UserRec.{UserRec}
use Rattle.g_plain.specs.PlainTree.{UserRow}
use Rattle.g_job.specs.State.{JobState}
use Rattle.g_run_model.specs.Accounts.{Opened, account_of}
use Rattle.g_job_table.specs.declared.account.Account.{Account}

-- What a user's ended jobs have left of the opening TIME and MONEY.
abbrev pub left_behind : Opened → Account
left_behind a = record {
  user = a.user;
  time = a.time - sum_by (λ s. s.time) a.ended;
  money = a.money - sum_by (λ s. s.money) a.ended;
}

-- The account of a user.
abbrev pub kept_for : List Account → List ℕ → Option Account
kept_for kept user = find (λ a. same_text a.user user) kept

-- THE ACCOUNTS ARE THOSE OF A WORLD: each user has what the user's ended jobs have left, or has no account in either.
abbrev pub AreKept : List Opened → List Account → Type 0
AreKept accounts kept = (user : List ℕ) → kept_for kept user ≡ option_map left_behind (account_of accounts user)

-- The account less the TIME and MONEY that an ended job used.
abbrev pub less : JobState → Account → Account
less j a = record a { time = a.time - j.used; money = a.money - j.used_money }

-- The accounts after an ended job was charged to the first account of its user.
abbrev pub charged : JobState → List Account → List Account
charged j [] = []
charged j (a ∷ kept) = if same_text a.user j.user then less j a ∷ kept else a ∷ charged j kept

-- The budgets of TIME and MONEY in a user's row.
abbrev pub row_budgets : List ℕ × UserRow → ℕ × ℕ
row_budgets e = (e.1.time, e.1.money)

-- The budgets of TIME and MONEY in a user's record.
abbrev pub record_budgets : UserRec → ℕ × ℕ
record_budgets r = (r.time, r.money)

-- These records and these rows have the same users, with the same budgets of TIME and MONEY.
abbrev pub HaveRows : List UserRec → List (List ℕ × UserRow) → Type 0
HaveRows users rows = (user : List ℕ)
    → option_map record_budgets (find (λ r. same_text r.user user) users) ≡ option_map row_budgets (find (λ e. same_text e.0 user) rows)

-- Each of these users has an account.
abbrev pub HaveAccounts : List UserRec → List Account → Type 0
HaveAccounts users kept = (user : List ℕ) → is_some (find (λ r. same_text r.user user) users) ≡ true → is_some (kept_for kept user) ≡ true

-- Each user with an account still has one.
abbrev pub KeepAccounts : List Account → List Account → Type 0
KeepAccounts old new = (user : List ℕ) → is_some (kept_for old user) ≡ true → is_some (kept_for new user) ≡ true

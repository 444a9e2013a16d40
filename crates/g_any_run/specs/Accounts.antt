-- The accounts of users, as sums.
use Rattle.std.specs.Prelude.{if◌then◌else◌, ℕ, ◌-◌, Bool, not, List, [], ◌∷◌, ◌++◌, map, filter, sum_by, find, Option, unwrap_or}
use Rattle.std.specs.List.{list_any}
use Rattle.std.specs.Option.{option_map}
use Rattle.std.specs.FinMap.{entries}
use Rattle.g_name.specs.Order.{same_text}
use Rattle.g_plain.specs.PlainTree.{Tree, UserRow}
use Rattle.g_any_run.specs.Jobs.{Jobs}
use Rattle.g_store_model.specs.State.{State}

-- The amounts of TIME and of MONEY that were spent.
pub record Spent : Type 0 where
  pub time : ℕ
  pub money : ℕ

-- A user's accounts since the system came up: the opening balances, and what each ended job has used.
pub record Opened : Type 0 where
  pub user : List ℕ
  pub time : ℕ
  pub money : ℕ
  pub ended : List Spent

-- The tree of a state, if it holds a filestore.
abbrev pub tree_of : State → Option Tree
tree_of s = option_map (λ k. k.tree) s.holding

-- The users of a state, by name.
abbrev pub rows_of : State → List (List ℕ × UserRow)
rows_of s = unwrap_or (option_map (λ t. entries t.users) (tree_of s)) []

-- Whether the state has a user of this name.
abbrev pub knows_user : State → List ℕ → Bool
knows_user s user = list_any (λ e. same_text e.0 user) (rows_of s)

-- The new account of a user, with the user's budgets.
abbrev pub opened_of : List ℕ × UserRow → Opened
opened_of e = record { user = e.0; time = e.1.time; money = e.1.money; ended = [] }

-- Whether the user has an account.
abbrev pub has_account : List Opened → List ℕ → Bool
has_account accounts user = list_any (λ a. same_text a.user user) accounts

-- Each user who has no account yet gets one, with the current budgets.
abbrev pub with_new : State → List Opened → List Opened
with_new s accounts = accounts ++ map opened_of (filter (λ e. not (has_account accounts e.0)) (rows_of s))

-- The account of the user, if there is one.
abbrev pub account_of : List Opened → List ℕ → Option Opened
account_of accounts user = find (λ a. same_text a.user user) accounts

module _ {J W : Type 0} (jobs : Jobs J W) where
  -- The unfinished jobs of the user.
  abbrev pub jobs_of : List ℕ → List J → List J
  jobs_of user crew = filter (λ j. same_text (jobs.user j) user) crew

  -- The balance: the opening balance, less what the ended jobs have used, less the allowances of the unfinished ones.
  abbrev pub time_left : Opened → List J → ℕ
  time_left a crew = a.time - sum_by (λ s. s.time) a.ended - sum_by jobs.time (jobs_of a.user crew)

  -- The balance of MONEY, computed in the same way.
  abbrev pub money_left : Opened → List J → ℕ
  money_left a crew = a.money - sum_by (λ s. s.money) a.ended - sum_by jobs.money (jobs_of a.user crew)

  -- The accounts after the job has ended: what it has used is noted in its user's account.
  abbrev pub settled : J → List Opened → List Opened
  settled j [] = []
  settled j (a ∷ accounts) =
      if same_text a.user (jobs.user j) then record a { ended = a.ended ++ (record { time = jobs.used j; money = jobs.used_money j }) ∷ [] } ∷ accounts
      else a ∷ settled j accounts

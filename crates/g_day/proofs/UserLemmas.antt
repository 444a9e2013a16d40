-- The users of a store, as the state that it represents has them.
-- serves: JobLemmas, crates above
use Rattle.std.proofs.Common.{◌≡◌, ℕ, false, List, refl, sym, ◌∙◌, ap, subst}
use Rattle.std.specs.Prelude.{is_some}
use Rattle.std.specs.FinMap as finmap
use Rattle.g_tree.specs.Records.{users_by_name}
use Rattle.g_store_model.specs.State.{State}
use Rattle.g_store_meaning.specs.Reading.{StandsForState}
use Rattle.g_store_meaning.specs.StoreInvariant.{StoreFacts}
use Rattle.g_disc_contents.specs.Contents.{recs_in}
use Rattle.g_store_calls.proofs.SeenLemmas.{seen}
use Rattle.g_run_model.specs.Accounts.{knows_user, rows_of}
use Rattle.g_job_table.specs.Accounts.{HaveRows}
use Rattle.g_job_table.proofs.RowLemmas.{knows_is, rows_have}

module _ (s : StoreFacts) (unspent : s.spent ≡ false) (u : State) (here : StandsForState s u) where
  pub have_rows : HaveRows s.online.contents.users (rows_of u)
  have_rows =
      let is = seen s u unspent here in
      subst (λ (t : State). HaveRows s.online.contents.users (rows_of t)) (sym is.state_is)
      (rows_have s.online.contents.users (recs_in s.online.contents) (λ r. is.view.text r.stamp) s.online.contents.head.next_stamp)

  pub user_known : (user : List ℕ) → knows_user u user ≡ is_some (finmap.get (users_by_name s.online.contents.users) user)
  user_known user =
      let is = seen s u unspent here in
      ap (λ (t : State). knows_user t user) is.state_is
      ∙ knows_is s.online.contents.users (recs_in s.online.contents) (λ r. is.view.text r.stamp) s.online.contents.head.next_stamp user

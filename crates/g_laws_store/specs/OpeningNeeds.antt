-- What the opening of a dump takes from the state: the versions that wait, by stamp, and the number of blocks that it
-- needs.
use Rattle.std.specs.Prelude.{◌≡◌, ℕ, List, All, Some}
use Rattle.g_entry.specs.declared.user_rec.UserRec.{UserRec}
use Rattle.g_disc_contents.specs.Contents.{Contents}
use Rattle.g_disc_contents.specs.Facts.{Pin}
use Rattle.g_incr.specs.Layout.{Dump}
use Rattle.g_incr.specs.Plan.{Plan, first_content, needs, waiting as waiting_files}
use Rattle.g_store_model.specs.DumpSteps.{dump_needs, waiting}
use Rattle.g_store_meaning.specs.Reading.{holding_of, users_not_in, waiting_of}
use Rattle.g_store_meaning.specs.StoreInvariant.{ArePinned}
use Rattle.g_laws_store.specs.Dumping.{AreDumpable, IsPlanOf}
use Rattle.g_laws_store.specs.Rooms.{HasLength}

-- The plan is that of these contents, and the pins are its versions that wait.
pub record AreOpened (text : ℕ → List ℕ) (shelf : ℕ → List Dump) (changed : List ℕ) (c : Contents) (plan : Plan) (pins : List Pin) : Type 0 where
  pub dumpable : AreDumpable changed c
  pub planned : IsPlanOf shelf changed c plan
  pub pinned : ArePinned plan.serial (first_content plan) (waiting_files plan.files) pins
  pub long : All (HasLength text) c.files

-- The versions that the pins have are those that wait by the state, and the plan needs as many blocks as the state says.
pub record OpeningTakes : Type 0 where
  pub waits : (text : ℕ → List ℕ) (shelf : ℕ → List Dump) (changed : List ℕ) (c : Contents) (plan : Plan) (pins : List Pin) (kept : List UserRec)
      → AreOpened text shelf changed c plan pins → waiting_of (Some pins) ≡ waiting (holding_of text kept c)
  pub needs : (text : ℕ → List ℕ) (shelf : ℕ → List Dump) (changed : List ℕ) (c : Contents) (plan : Plan) (pins : List Pin)
      → AreOpened text shelf changed c plan pins → dump_needs (holding_of text (users_not_in changed c.users) c) ≡ needs plan

-- A filestore is never lost: a store that holds one still does after any run, including all failures; and so do its
-- devices.
use Rattle.std.specs.Prelude.{◌≡◌, ℕ, true, List, Option, Some, is_some}
use Rattle.std.specs.Fn.{Shared}
use denote.Ref.{Bor}
use Rattle.g_rules.specs.declared.tariff.Charge.{Charge}
use Rattle.g_rules.specs.declared.tariff.Usage.{Usage}
use Rattle.g_disc_contents.specs.Contents.{Contents, Holds}
use Rattle.g_rules.specs.declared.rule.Standing.{Standing}
use Rattle.g_script.specs.declared.operator.Timed.{Timed}
use Rattle.g_store_model.specs.State.{State}
use Rattle.g_run_model.specs.Devices.{Devices, StandFor}
use Rattle.g_run_model.specs.Moves.{Move, Run}
use Rattle.g_run_model.specs.Top.{RunOf}
use Rattle.g_run_model.specs.World.{World}

-- The disc exposes its contents, which are a filestore.
pub record HasFilestore (d : Devices) : Type 0 where
  pub blocks : List (List ℕ)
  pub contents : Contents
  pub held : d.disc.held ≡ Some blocks
  pub holds : Holds blocks contents

-- The state holds a filestore.
abbrev pub HoldsOne : State → Type 0
HoldsOne s = is_some s.holding ≡ true

module _ {F U : Type 0} (tariffs : Shared F (Bor Usage × Unit {0}) Charge) (tariff : F) (rules : Shared U (Bor Standing × Unit {0}) ℕ) (rule : U) where
  -- If the store holds a filestore at the beginning of a run, it does at the end.
  abbrev pub FilestoresStay : Type 0
  FilestoresStay = (w last : World) (moves : List Move) → HoldsOne w.store → Run tariffs tariff rules rule w moves last → HoldsOne last.store

  -- If the disc holds a filestore at the beginning of a run, it does at the end.
  abbrev pub DevicesKeepFilestores : Type 0
  DevicesKeepFilestores = (lines : List Timed) (bad : Option ℕ) (s : State) (old new : Devices) (moves : List Move) (last : World) → StandFor old s → HasFilestore old
      → RunOf tariffs tariff rules rule lines bad s old new moves last → HasFilestore new

-- A disc that holds a filestore still holds one after the run, even if it was cut short.
-- serves: george (stands)
use Rattle.std.proofs.Common.{◌≡◌, ℕ, false, List, Option, Some, None, ap}
use Rattle.std.specs.Fn.{Shared}
use denote.Ref.{Bor}
use Rattle.g_rules.specs.declared.tariff.Charge.{Charge}
use Rattle.g_rules.specs.declared.tariff.Usage.{Usage}
use Rattle.g_rules.specs.declared.rule.Standing.{Standing}
use Rattle.g_script.specs.declared.operator.Timed.{Timed}
use Rattle.g_store_meaning.specs.Meaning.{told_reels}
use Rattle.g_laws_store.proofs.StateLemmas.{have_states}
use Rattle.g_store_model.specs.State.{State}
use Rattle.g_run_model.proofs.StandLemmas.{stands_as}
use Rattle.g_run_model.specs.Devices.{Devices, StandFor}
use Rattle.g_laws_runs.specs.Filestores.{HasFilestore}
use Rattle.g_laws_runs.proofs.FilestoreLemmas.{devices_keep}
use Rattle.g_day.specs.System.{BelongTogether}
use Rattle.g_day.specs.declared.progress.Failure.{Failure}
use Rattle.g_run.specs.Top.{EndsBy}

-- the state that such devices represent
pub state_there : (d : Devices) → BelongTogether d → HasFilestore d → (s : State) × StandFor d s
state_there d both has =
    let (s, reads) = have_states.devices d.disc.size d.disc.held (told_reels d.rack) (Some has.contents)
    (record { are = (has.blocks, has.held, has.holds); none = λ no. absurd (let never : ⊥ = cc in never) }) both.belong in
    (s, stands_as d s (record { told = both.told; belong = both.belong; reads = reads }))

module _ {F U : Type 0} (tariffs : Shared F (Bor Usage × Unit {0}) Charge) (tariff : F) (rules : Shared U (Bor Standing × Unit {0}) ℕ) (rule : U) where
  pub keeps_filestore : (failure : Option Failure) (lines : List Timed) (bad : Option ℕ) (old new : Devices) (before after : Option (List ℕ))
      → EndsBy tariffs tariff rules rule failure lines bad old new before after → BelongTogether old → HasFilestore old → HasFilestore new
  keeps_filestore None lines bad old new before after ends both has =
      let (s, stand) = state_there old both has in
      let e = ends s stand in devices_keep tariffs tariff rules rule lines bad s old new e.moves e.last stand has e.run_of
  keeps_filestore (Some failure) lines bad old new before after ends both has =
      let (s, stand) = state_there old both has in
      let e = ends s stand in devices_keep tariffs tariff rules rule lines bad s old new e.moves e.last stand has e.run_of

-- What the next run begins on after a power loss.
-- serves: next_run_begins
use Rattle.std.proofs.Common.{◌⊎◌, ℕ, List, Option, inl, inr}
use Rattle.std.specs.Fn.{Shared}
use denote.Ref.{Bor}
use Rattle.g_rules.specs.declared.tariff.Usage.{Usage}
use Rattle.g_rules.specs.declared.tariff.Charge.{Charge}
use Rattle.g_rules.specs.declared.rule.Standing.{Standing}
use Rattle.g_laws_power.proofs.DeviceLemmas.{left_is_safe}
use Rattle.g_run_model.proofs.StandLemmas.{stands_as}
use Rattle.g_laws_losses.specs.NextRun.{NextRunBegins, after_loss}

pub next_run_begins : {F U : Type 0} (tariffs : Shared F (Bor Usage × Unit {0}) Charge) (tariff : F) (rules : Shared U (Bor Standing × Unit {0}) ℕ) (rule : U) → NextRunBegins tariffs tariff rules rule
next_run_begins tariffs tariff rules rule lines bad s old new before after run safe blocks rack left = (
  left_is_safe new.disc new.rack blocks rack safe left,
  elim (run.left blocks rack left) [
    | inl here ↦ let can = safe.left blocks rack left in
        inl (record {
          left = here.0;
          may = here.1;
          state = here.2.state;
          like = here.2.like;
          stands = stands_as (after_loss blocks rack new) here.2.state (record { told = can.told; belong = can.belong; reads = here.2.stands });
        })
    | inr before_it ↦ inr before_it
  ],
)

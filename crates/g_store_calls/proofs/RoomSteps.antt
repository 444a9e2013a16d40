-- The step of a call that takes room on the disc, if files are taken off for it: done, refused for lack of room, or
-- stopped.
-- serves: VersionLemmas
use Rattle.std.proofs.Common.{◌≡◌, ℕ, ◌<◌, ◌≤◌, Bool, true, false, List, None, Ok, Err, refl, ap}
use Rattle.std.specs.Prelude.{◌||◌, ◌&&◌, not}
use Rattle.std.proofs.lemmas.Bool.{le-ltb, lt-ltb}
use Rattle.g_plain.specs.declared.calls.StoreCall.{StoreCall}
use Rattle.g_plain.specs.declared.calls.StoreReply.{StoreReply}
use Rattle.g_plain.specs.declared.faults.StoreFault.TheVariants.{DiscFull, Stopped}
use Rattle.g_plain.specs.PlainStep.{fault_of, reply_to}
use Rattle.g_store_model.specs.State.{Holding, State, is_mounted}
use Rattle.g_store_model.specs.CallStep.{CallStep, Cut, IsUnjam, LeftByRefusal, Plain, after_call, brings_now, early, is_offline, need, reel_of, room_until, writes}
use Rattle.g_store_calls.proofs.StepLemmas.{late_full, late_stops, no_early, no_late, step_late, step_made}

module _ (u : State) (k : Holding) (who : List ℕ) (call : StoreCall) (until : ℕ) (unjam : IsUnjam u k who call until) (granted : fault_of k.tree who call ≡ None)
    (waits : (is_offline u k who call && not (is_mounted u (reel_of u k who call))) ≡ false) where
  abbrev there : ℕ
  there = room_until u k who call until

  abbrev wanted : ℕ
  wanted = need u k who call

  plain_early : early u k who call Plain ≡ None
  plain_early = no_early u k who call Plain granted waits refl

  cut_early : early u k who call Cut ≡ None
  cut_early = no_early u k who call Cut granted waits refl

  pub step_roomy : wanted ≤ there → (reply : StoreReply) (new : State) → reply ≡ reply_to k.tree who call → new ≡ after_call u k who call until → CallStep u k who call Plain (Ok reply) new
  step_roomy enough reply new replied after =
      step_made u k who call Plain reply until new plain_early unjam (no_late u k who call Plain until (le-ltb there wanted enough) refl refl) replied after

  pub step_full : there < wanted → CallStep u k who call Plain (Err (DiscFull wanted there)) u
  step_full short = step_late u k who call Plain (DiscFull wanted there) until u plain_early unjam (late_full u k who call Plain until (lt-ltb there wanted short)) refl

  pub step_stopped : wanted ≤ there → writes call ≡ true → (new : State) → LeftByRefusal u k who call Cut until Stopped new → CallStep u k who call Cut (Err Stopped) new
  step_stopped enough write new left =
      step_late u k who call Cut Stopped until new cut_early unjam
      (late_stops u k who call Cut until (le-ltb there wanted enough) refl (ap (λ (b : Bool). b || brings_now u k who call) write)) left

-- The step of a call, from what its tests say: a refusal before room is computed, a later one, or the call is done.
-- serves: AppendLemmas, BackLemmas, CalmLemmas, RecordLemmas, RoomSteps
use Rattle.std.proofs.Common.{◌≡◌, ℕ, Bool, true, false, List, [], ◌∷◌, Option, Some, None, Result, Ok, Err, refl, sym, ap, arith, subst}
use Rattle.std.specs.Prelude.{◌&&◌, ◌||◌, MatchOption, is_some, nat_lt, not, unwrap_or}
use Rattle.std.proofs.lemmas.Bool.{le-ltb}
use Rattle.g_plain.specs.declared.calls.StoreCall.{StoreCall}
use Rattle.g_plain.specs.declared.calls.StoreReply.{StoreReply}
use Rattle.g_plain.specs.declared.faults.StoreFault.{StoreFault}
use Rattle.g_plain.specs.declared.faults.StoreFault.TheVariants.{DiscFull, DiscReadFault, Stopped, TapeReadFault, WaitTape}
use Rattle.g_plain.specs.PlainStep.{fault_of, first_fault, reply_to}
use Rattle.g_store_model.specs.State.{Holding, State, is_mounted}
use Rattle.g_store_model.specs.CallStep.{CallStep, IsUnjam, LeftByRefusal, Outcome, Planned, after_call, brings_now, early, is_cut, is_disc_read, is_offline, is_tape_read, late, len_of, need, reel_of, room_until, version_read, wants_bytes, writes}

module _ (u : State) (k : Holding) (who : List ℕ) (call : StoreCall) (o : Outcome) where
  -- the tests: it waits; its read of tape failed; too little room; its read of the disc failed; a write failed
  abbrev pub waits : Bool
  waits = is_offline u k who call && not (is_mounted u (reel_of u k who call))

  abbrev pub reads_tape : Bool
  reads_tape = is_tape_read o && is_offline u k who call

  abbrev pub lacks_room : ℕ → Bool
  lacks_room until = nat_lt (room_until u k who call until) (need u k who call)

  abbrev pub reads_disc : Bool
  reads_disc = is_disc_read o && wants_bytes call && not (is_offline u k who call) && nat_lt 0 (len_of u k who call (version_read k.tree who call))

  abbrev pub is_stopped : Bool
  is_stopped = is_cut o && (writes call || brings_now u k who call)

  abbrev earlier : Option StoreFault → Bool → Bool → Option StoreFault
  earlier f w r = first_fault ((is_some f, unwrap_or f Stopped) ∷ (w, WaitTape (reel_of u k who call)) ∷ (r, TapeReadFault) ∷ [])

  abbrev later : ℕ → Bool → Bool → Bool → Option StoreFault
  later until l r c = first_fault ((l, DiscFull (need u k who call) (room_until u k who call until)) ∷ (r, DiscReadFault) ∷ (c, Stopped) ∷ [])

  pub no_early : fault_of k.tree who call ≡ None → waits ≡ false → reads_tape ≡ false → early u k who call o ≡ None
  no_early granted going kept = λ i. earlier (granted i) (going i) (kept i)

  -- for a file on the disc, by a call that needs no room
  pub here_early : fault_of k.tree who call ≡ None → is_offline u k who call ≡ false → is_tape_read o ≡ false → early u k who call o ≡ None
  here_early granted here kept = no_early granted (ap (λ (b : Bool). b && not (is_mounted u (reel_of u k who call))) here) (ap (λ (b : Bool). b && is_offline u k who call) kept)

  pub none_lacks : need u k who call ≡ 0 → lacks_room 0 ≡ false
  none_lacks none = le-ltb (room_until u k who call 0) (need u k who call) (omega (arith, none))

  pub early_waits : fault_of k.tree who call ≡ None → waits ≡ true → early u k who call o ≡ Some (WaitTape (reel_of u k who call))
  early_waits granted waiting = λ i. earlier (granted i) (waiting i) reads_tape

  pub early_reads : fault_of k.tree who call ≡ None → waits ≡ false → reads_tape ≡ true → early u k who call o ≡ Some TapeReadFault
  early_reads granted going failed = λ i. earlier (granted i) (going i) (failed i)

  pub no_late : (until : ℕ) → lacks_room until ≡ false → reads_disc ≡ false → is_stopped ≡ false → late u k who call o until ≡ None
  no_late until roomy kept going = λ i. later until (roomy i) (kept i) (going i)

  pub late_full : (until : ℕ) → lacks_room until ≡ true → late u k who call o until ≡ Some (DiscFull (need u k who call) (room_until u k who call until))
  late_full until lacking = λ i. later until (lacking i) reads_disc is_stopped

  pub late_reads : (until : ℕ) → lacks_room until ≡ false → reads_disc ≡ true → late u k who call o until ≡ Some DiscReadFault
  late_reads until roomy failed = λ i. later until (roomy i) (failed i) is_stopped

  pub late_stops : (until : ℕ) → lacks_room until ≡ false → reads_disc ≡ false → is_stopped ≡ true → late u k who call o until ≡ Some Stopped
  late_stops until roomy kept stopped = λ i. later until (roomy i) (kept i) (stopped i)

  -- THE STEPS
  pub step_early : (fault : StoreFault) → early u k who call o ≡ Some fault → CallStep u k who call o (Err fault) u
  step_early fault is =
      subst (λ (e : Option StoreFault). MatchOption e (Planned u k who call o (Err fault) u) (λ g. (◌≡◌ {A = Result StoreReply StoreFault} (Err fault) (Err g)) × (u ≡ u))) (sym is) (refl, refl)

  pub step_late : (fault : StoreFault) (until : ℕ) (new : State) → early u k who call o ≡ None → IsUnjam u k who call until → late u k who call o until ≡ Some fault
      → LeftByRefusal u k who call o until fault new → CallStep u k who call o (Err fault) new
  step_late fault until new granted unjam is left =
      subst (λ (e : Option StoreFault). MatchOption e (Planned u k who call o (Err fault) new) (λ g. (◌≡◌ {A = Result StoreReply StoreFault} (Err fault) (Err g)) × (new ≡ u))) (sym granted)
      (record {
        until = until;
        unjam = unjam;
        step = subst (λ (e : Option StoreFault). MatchOption e ((◌≡◌ {A = Result StoreReply StoreFault} (Err fault) (Ok (reply_to k.tree who call))) × (new ≡ after_call u k who call until))
            (λ g. (◌≡◌ {A = Result StoreReply StoreFault} (Err fault) (Err g)) × LeftByRefusal u k who call o until g new)) (sym is) (refl, left);
      })

  pub step_made : (reply : StoreReply) (until : ℕ) (new : State) → early u k who call o ≡ None → IsUnjam u k who call until → late u k who call o until ≡ None
      → reply ≡ reply_to k.tree who call → new ≡ after_call u k who call until → CallStep u k who call o (Ok reply) new
  step_made reply until new granted unjam is replied after =
      subst (λ (e : Option StoreFault). MatchOption e (Planned u k who call o (Ok reply) new) (λ g. (◌≡◌ {A = Result StoreReply StoreFault} (Ok reply) (Err g)) × (new ≡ u))) (sym granted)
      (record {
        until = until;
        unjam = unjam;
        step = subst (λ (e : Option StoreFault). MatchOption e ((◌≡◌ {A = Result StoreReply StoreFault} (Ok reply) (Ok (reply_to k.tree who call))) × (new ≡ after_call u k who call until))
            (λ g. (◌≡◌ {A = Result StoreReply StoreFault} (Ok reply) (Err g)) × LeftByRefusal u k who call o until g new)) (sym is) (ap Ok replied, after);
      })

-- The step of a call that reads a file: of one that isn't on the disc, at each of its exits, and if the disc's read failed.
-- serves: BroughtLemmas, HereLemmas, TapeLemmas
use Rattle.std.proofs.Common.{◌≡◌, ℕ, ◌<◌, ◌≤◌, Bool, true, false, List, [], ◌∷◌, Option, None, Result, Ok, Err, refl, sym, ap, subst}
use Rattle.std.specs.Prelude.{◌&&◌, MatchOption, is_some, nat_lt, not, unwrap_or}
use Rattle.std.proofs.lemmas.Bool.{le-ltb, lt-ltb, or_right}
use Rattle.g_plain.specs.declared.calls.StoreCall.{StoreCall}
use Rattle.g_plain.specs.declared.calls.StoreReply.{StoreReply}
use Rattle.g_plain.specs.declared.faults.StoreFault.{StoreFault}
use Rattle.g_plain.specs.declared.faults.StoreFault.TheVariants.{DiscFull, DiscReadFault, Stopped, TapeReadFault, WaitTape}
use Rattle.g_plain.specs.PlainStep.{fault_of, first_fault, reply_to}
use Rattle.g_store_model.specs.State.{Holding, State, is_mounted}
use Rattle.g_store_model.specs.CallStep.{CallStep, Cut, DiscRead, IsUnjam, LeftByRefusal, Outcome, Plain, Planned, TapeRead, after_call, brings_now, early, is_cut, is_disc_read, is_offline, is_tape_read, late, len_of, need, reel_of, room_until, version_read, wants_bytes, writes}
use Rattle.g_store_calls.proofs.CalmLemmas.{nothing_unjammed}
use Rattle.g_store_calls.proofs.StepLemmas.{here_early, late_reads, none_lacks, step_late}

module _ (u : State) (k : Holding) (who : List ℕ) (call : StoreCall) (granted : fault_of k.tree who call ≡ None) where
  abbrev serial : ℕ
  serial = reel_of u k who call

  abbrev Stays : Result StoreReply StoreFault → StoreFault → Type 0
  Stays answer g = (answer ≡ Err g) × (u ≡ u)

  -- OF A FILE THAT ISN'T ON THE DISC
  module _ (off : is_offline u k who call ≡ true) where
    early_is : (out : Outcome) (m : Bool) → is_mounted u serial ≡ m → early u k who call out ≡ first_fault ((not m, WaitTape serial) ∷ (is_tape_read out && true, TapeReadFault) ∷ [])
    early_is out m is = λ i. first_fault (
        (is_some (granted i), unwrap_or (granted i) Stopped)
        ∷ (off i && not (is i), WaitTape serial)
        ∷ (is_tape_read out && off i, TapeReadFault)
        ∷ [])

    pub step_waits : is_mounted u serial ≡ false → CallStep u k who call Plain (Err (WaitTape serial)) u
    step_waits away =
        subst (λ (e : Option StoreFault). MatchOption e (Planned u k who call Plain (Err (WaitTape serial)) u) (Stays (Err (WaitTape serial)))) (sym (early_is Plain false away)) (refl, refl)

    module _ (mounted : is_mounted u serial ≡ true) where
      pub step_unread : CallStep u k who call TapeRead (Err TapeReadFault) u
      step_unread =
          subst (λ (e : Option StoreFault). MatchOption e (Planned u k who call TapeRead (Err TapeReadFault) u) (Stays (Err TapeReadFault))) (sym (early_is TapeRead true mounted)) (refl, refl)

      module _ (does : brings_now u k who call ≡ true) (until : ℕ) (unjam : IsUnjam u k who call until) where
        abbrev needs : ℕ
        needs = need u k who call

        abbrev room : ℕ
        room = room_until u k who call until

        late_is : (out : Outcome) (b : Bool) → nat_lt room needs ≡ b
            → late u k who call out until
            ≡ first_fault ((b, DiscFull needs room) ∷ (is_disc_read out && wants_bytes call && not true && nat_lt 0 (len_of u k who call (version_read k.tree who call)), DiscReadFault) ∷ (is_cut out && true, Stopped) ∷ [])
        late_is out b is = λ i. first_fault (
            (is i, DiscFull needs room)
            ∷ (is_disc_read out && wants_bytes call && not (off i) && nat_lt 0 (len_of u k who call (version_read k.tree who call)), DiscReadFault)
            ∷ (is_cut out && or_right (writes call) (brings_now u k who call) does i, Stopped)
            ∷ [])

        abbrev Ends : Outcome → Result StoreReply StoreFault → State → Option StoreFault → Type 0
        Ends out answer new e = MatchOption e ((answer ≡ Ok (reply_to k.tree who call)) × (new ≡ after_call u k who call until))
            (λ g. (answer ≡ Err g) × LeftByRefusal u k who call out until g new)

        planned : (out : Outcome) (answer : Result StoreReply StoreFault) (new : State) → early u k who call out ≡ None → Ends out answer new (late u k who call out until)
            → CallStep u k who call out answer new
        planned out answer new none ends =
            subst (λ (e : Option StoreFault). MatchOption e (Planned u k who call out answer new) (λ g. (answer ≡ Err g) × (new ≡ u))) (sym none)
            (record { until = until; unjam = unjam; step = ends })

        pub step_full : room < needs → CallStep u k who call Plain (Err (DiscFull needs room)) u
        step_full less =
            planned Plain (Err (DiscFull needs room)) u (early_is Plain true mounted)
            (subst (Ends Plain (Err (DiscFull needs room)) u) (sym (late_is Plain true (lt-ltb room needs less))) (refl, refl))

        module _ (fits : needs ≤ room) where
          pub step_back : (reply : StoreReply) (new : State) → reply ≡ reply_to k.tree who call → new ≡ after_call u k who call until → CallStep u k who call Plain (Ok reply) new
          step_back reply new replied after =
              planned Plain (Ok reply) new (early_is Plain true mounted) (subst (Ends Plain (Ok reply) new) (sym (late_is Plain false (le-ltb room needs fits))) (ap Ok replied, after))

          pub step_cut : (new : State) → LeftByRefusal u k who call Cut until Stopped new → CallStep u k who call Cut (Err Stopped) new
          step_cut new left =
              planned Cut (Err Stopped) new (early_is Cut true mounted) (subst (Ends Cut (Err Stopped) new) (sym (late_is Cut false (le-ltb room needs fits))) (refl, left))

  -- OF A FILE ON THE DISC, whose read failed
  module _ (on : is_offline u k who call ≡ false) (none : need u k who call ≡ 0) (wants : wants_bytes call ≡ true) (filled : 0 < len_of u k who call (version_read k.tree who call)) where
    pub step_unread_disc : CallStep u k who call DiscRead (Err DiscReadFault) u
    step_unread_disc =
        step_late u k who call DiscRead DiscReadFault 0 u (here_early u k who call DiscRead granted on refl) (nothing_unjammed u k who call on none)
        (late_reads u k who call DiscRead 0 (none_lacks u k who call DiscRead none)
        (λ i. wants i && not (on i) && lt-ltb 0 (len_of u k who call (version_read k.tree who call)) filled i)) refl

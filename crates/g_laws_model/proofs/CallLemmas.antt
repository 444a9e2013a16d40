-- The step of a call, and the simpler definition of it, are equivalent.
-- serves: lib
use Rattle.std.proofs.Common.{◌≡◌, ℕ, ◌+◌, ◌<◌, ◌≤◌, List, [], ◌∷◌, ◌++◌, Option, Some, None, refl, sym, ◌∙◌, ap, subst, inl, inr, arith}
use Rattle.std.specs.Prelude.{◌⊎◌, ◌↔◌, Bool, true, false, nat_lt, nat_le, ◌&&◌, ◌||◌, not, Result, Ok, Err, MatchOption, is_some, option_map, unwrap_or, if◌then◌else◌}
use Rattle.std.proofs.lemmas.Bool.{eq-eqb, false≢true, le-leb, leb-false, leb-true, lt-leb}
use Rattle.g_plain.specs.declared.calls.StoreCall.{StoreCall}
use Rattle.g_plain.specs.declared.calls.StoreReply.{StoreReply}
use Rattle.g_plain.specs.declared.faults.StoreFault.{StoreFault}
use Rattle.g_plain.specs.declared.faults.StoreFault.TheVariants.{DiscFull, DiscReadFault, Stopped, TapeReadFault, WaitTape}
use Rattle.g_plain.specs.PlainStep.{fault_of, first_fault, reply_to}
use Rattle.g_store_model.specs.State.{Holding, State, is_candidate, is_mounted, is_taken, place_at, room, taken_blocks, taken_offline}
use Rattle.g_store_model.specs.CallStep.{IsUnjam, LeftByRefusal, Outcome, Planned, after_call, after_unjam, commits, down, is_cut, is_disc_read, is_offline, is_tape_read, late, len_of, need, reel_of, room_until, touched_by, version_read, wants_bytes}
use Rattle.g_laws_model.specs.Calls.{CallsAreSimple, UnjamsTake, candidates, done, held, is_among, offline, room_with, taken, taken_first, writes_now}
use Rattle.g_laws_model.specs.Refusals.{Goes, IsCutAt, first_of, when}
use Rattle.g_laws_model.proofs.FrontLemmas.{Found, IsEnough, below, find_shortest, is_shortest}
use Rattle.g_laws_model.proofs.TakenLemmas.{all_under, among_taken, candidates_rise, same_offline, same_room, under_is_all}

-- The early refusals, for any refusals after them.
early_ways : (P : Type 0) (rest : List (Option StoreFault)) (cut : Bool) (reply : StoreReply) (s : State) (between : List State) (after : State) (answer : Result StoreReply StoreFault) (new : State)
    → (P ↔ Goes (first_of rest) cut reply s between after answer new) → (f : Option StoreFault) (b c : Bool) (w : StoreFault)
    → MatchOption (first_fault ((is_some f, unwrap_or f Stopped) ∷ (b, w) ∷ (c, TapeReadFault) ∷ [])) P (λ fault. (answer ≡ Err fault) × (new ≡ s))
    ↔ Goes (first_of (f ∷ when b w ∷ when c TapeReadFault ∷ rest)) cut reply s between after answer new
early_ways P rest cut reply s between after answer new ways (Some f) b c w = ((λ x. x), (λ x. x))
early_ways P rest cut reply s between after answer new ways None true c w = ((λ x. x), (λ x. x))
early_ways P rest cut reply s between after answer new ways None false true w = ((λ x. x), (λ x. x))
early_ways P rest cut reply s between after answer new ways None false false w = ways

-- what is the same of versions and of a number below which they are taken
record IsAs (s : State) (k : Holding) (stamps : List ℕ) (until : ℕ) : Type 0 where
  there : (stamp : ℕ) → is_among stamp stamps ≡ is_taken k until stamp
  room_is : room_with s k stamps ≡ room s k + taken_blocks k until
  offline_is : offline stamps k ≡ taken_offline until k

-- WHAT IS TAKEN
module _ (s : State) (k : Holding) (who : List ℕ) (call : StoreCall) where
  abbrev enough : List ℕ → Bool
  enough stamps = nat_le (need s k who call) (room_with s k stamps)

  as_below : (until : ℕ) → IsAs s k (below until (candidates k)) until
  as_below until = record { there = among_taken k until; room_is = same_room s k until; offline_is = same_offline k until }

  enough_to : (until : ℕ) → (need s k who call ≤ room_until s k who call until) ⊎ ((stamp : ℕ) → is_candidate (place_at k.places stamp) ≡ true → stamp < until) → IsEnough enough until (candidates k)
  enough_to until (inl le) = inl (le-leb (need s k who call) (room_with s k (below until (candidates k))) (subst (λ (n : ℕ). need s k who call ≤ n) (sym (same_room s k until)) le))
  enough_to until (inr all) = inr (all_under k until all)

  enough_from : (until : ℕ) → IsEnough enough until (candidates k) → (need s k who call ≤ room_until s k who call until) ⊎ ((stamp : ℕ) → is_candidate (place_at k.places stamp) ≡ true → stamp < until)
  enough_from until (inl is) = inl (subst (λ (n : ℕ). need s k who call ≤ n) (same_room s k until) (leb-true (need s k who call) (room_with s k (below until (candidates k))) is))
  enough_from until (inr under) = inr (under_is_all k until under)

  taken_is : (until : ℕ) → IsUnjam s k who call until → below until (candidates k) ≡ taken s k who call
  taken_is until unjam =
      is_shortest enough until 0 (candidates k) (candidates_rise k) (enough_to until unjam.enough)
      (λ lower ge less. lt-leb (need s k who call) (room_with s k (below lower (candidates k))) (subst (λ (n : ℕ). n < need s k who call) (sym (same_room s k lower)) (unjam.least lower less)))

  -- some stamp unjams
  found_unjam : (found : Found enough 0 (candidates k)) → IsUnjam s k who call found.until
  found_unjam found = record {
    enough = enough_from found.until found.enough_is;
    least = λ lower less. subst (λ (n : ℕ). n < need s k who call) (same_room s k lower)
        (leb-false (need s k who call) (room_with s k (below lower (candidates k))) (found.least lower (let low : 0 ≤ lower = omega arith in low) less));
  }

pub unjams_take : UnjamsTake
unjams_take = record {
  takes = λ s k who call until unjam. subst (λ (stamps : List ℕ). ((stamp : ℕ) → is_taken k until stamp ≡ is_among stamp stamps) × (taken_offline until k ≡ offline stamps k)) (taken_is s k who call until unjam)
      ((λ stamp. sym (among_taken k until stamp)), sym (same_offline k until));
  some = λ s k who call. let found = find_shortest (enough s k who call) 0 (candidates k) (candidates_rise k) in (found.until, found_unjam s k who call found);
}

module _ (s : State) (k : Holding) (who : List ℕ) (call : StoreCall) (o : Outcome) (answer : Result StoreReply StoreFault) (new : State) where
  abbrev behind : Holding → State
  behind h = if writes_now s k who call then record (commits s (held s k who call h)) { open_dump = option_map (touched_by s k who call) s.open_dump } else s

  done_is : (stamps : List ℕ) (until : ℕ) → IsAs s k stamps until → done s k who call stamps ≡ after_call s k who call until
  done_is stamps until as_it = ap behind as_it.offline_is

  -- A CUT leaves the same
  cut_to : (stamps : List ℕ) (until : ℕ) → IsAs s k stamps until
      → (new ≡ down s) ⊎ ((((stamp : ℕ) × (is_taken k until stamp ≡ true)) × (new ≡ down (after_unjam s k who call until))) ⊎ (new ≡ down (after_call s k who call until)))
      → IsCutAt (s ∷ taken_first s k stamps ++ done s k who call stamps ∷ []) new
  cut_to [] until as_it (inl e) = inl e
  cut_to [] until as_it (inr (inl ((stamp, is), e))) = absurd (false≢true (as_it.there stamp ∙ is))
  cut_to [] until as_it (inr (inr e)) = inr (inl (e ∙ ap down (sym (done_is [] until as_it))))
  cut_to (x ∷ xs) until as_it (inl e) = inl e
  cut_to (x ∷ xs) until as_it (inr (inl (some, e))) = inr (inl (e ∙ ap (λ (h : Holding). down (commits s h)) (sym as_it.offline_is)))
  cut_to (x ∷ xs) until as_it (inr (inr e)) = inr (inr (inl (e ∙ ap down (sym (done_is (x ∷ xs) until as_it)))))

  cut_from : (stamps : List ℕ) (until : ℕ) → IsAs s k stamps until → IsCutAt (s ∷ taken_first s k stamps ++ done s k who call stamps ∷ []) new
      → (new ≡ down s) ⊎ ((((stamp : ℕ) × (is_taken k until stamp ≡ true)) × (new ≡ down (after_unjam s k who call until))) ⊎ (new ≡ down (after_call s k who call until)))
  cut_from [] until as_it (inl e) = inl e
  cut_from [] until as_it (inr (inl e)) = inr (inr (e ∙ ap down (done_is [] until as_it)))
  cut_from [] until as_it (inr (inr none)) = absurd none
  cut_from (x ∷ xs) until as_it (inl e) = inl e
  cut_from (x ∷ xs) until as_it (inr (inl e)) =
      inr (inl ((x, sym (as_it.there x) ∙ ap (λ (b : Bool). b || is_among x xs) (eq-eqb x x refl)), e ∙ ap (λ (h : Holding). down (commits s h)) as_it.offline_is))
  cut_from (x ∷ xs) until as_it (inr (inr (inl e))) = inr (inr (e ∙ ap down (done_is (x ∷ xs) until as_it)))
  cut_from (x ∷ xs) until as_it (inr (inr (inr none))) = absurd none

  -- THE LATE REFUSALS
  abbrev Late : ℕ → Bool → Bool → Bool → ℕ → Type 0
  Late until is_full read cut left =
      MatchOption (first_fault ((is_full, DiscFull (need s k who call) left) ∷ (read, DiscReadFault) ∷ (cut, Stopped) ∷ [])) ((answer ≡ Ok (reply_to k.tree who call)) × (new ≡ after_call s k who call until))
      (λ fault. (answer ≡ Err fault) × LeftByRefusal s k who call o until fault new)

  abbrev Later : List ℕ → Bool → Bool → Bool → ℕ → Type 0
  Later stamps is_full read cut left =
      Goes (first_of (when is_full (DiscFull (need s k who call) left) ∷ when read DiscReadFault ∷ [])) cut (reply_to k.tree who call) s (taken_first s k stamps) (done s k who call stamps) answer new

  late_ways : (stamps : List ℕ) (until : ℕ) → IsAs s k stamps until → (is_full read cut : Bool) (left : ℕ) → Late until is_full read cut left ↔ Later stamps is_full read cut left
  late_ways stamps until as_it true read cut left = ((λ x. x), (λ x. x))
  late_ways stamps until as_it false true cut left = ((λ x. x), (λ x. x))
  late_ways stamps until as_it false false true left = ((λ x. (x.0, cut_to stamps until as_it x.1)), (λ x. (x.0, cut_from stamps until as_it x.1)))
  late_ways stamps until as_it false false false left = ((λ x. (x.0, x.1 ∙ sym (done_is stamps until as_it))), (λ x. (x.0, x.1 ∙ done_is stamps until as_it)))

  abbrev reads_disc : Bool
  reads_disc = is_disc_read o && wants_bytes call && not (is_offline s k who call) && nat_lt 0 (len_of s k who call (version_read k.tree who call))

  abbrev LaterWith : List ℕ → Type 0
  LaterWith stamps = Later stamps (nat_lt (room_with s k stamps) (need s k who call)) reads_disc (is_cut o && writes_now s k who call) (room_with s k stamps)

  at_until : (stamps : List ℕ) (until : ℕ) → IsAs s k stamps until
      → MatchOption (late s k who call o until) ((answer ≡ Ok (reply_to k.tree who call)) × (new ≡ after_call s k who call until)) (λ fault. (answer ≡ Err fault) × LeftByRefusal s k who call o until fault new)
      ↔ LaterWith stamps
  at_until stamps until as_it =
      subst (λ (n : ℕ). Late until (nat_lt (room_until s k who call until) (need s k who call)) reads_disc (is_cut o && writes_now s k who call) (room_until s k who call until)
      ↔ Later stamps (nat_lt n (need s k who call)) reads_disc (is_cut o && writes_now s k who call) n) (sym as_it.room_is)
      (late_ways stamps until as_it (nat_lt (room_until s k who call until) (need s k who call)) reads_disc (is_cut o && writes_now s k who call) (room_until s k who call until))

  planned_to : Planned s k who call o answer new → LaterWith (taken s k who call)
  planned_to p = subst LaterWith (taken_is s k who call p.until p.unjam) ((at_until (below p.until (candidates k)) p.until (as_below s k who call p.until)).0 p.step)

  planned_from : LaterWith (taken s k who call) → Planned s k who call o answer new
  planned_from it =
      let found = find_shortest (enough s k who call) 0 (candidates k) (candidates_rise k) in
      let until = found.until in
      record {
        until = until;
        unjam = found_unjam s k who call found;
        step = (at_until (below until (candidates k)) until (as_below s k who call until)).1 (subst LaterWith (sym found.is) it);
      }

pub calls_are_simple : CallsAreSimple
calls_are_simple s k who call o answer new =
    early_ways (Planned s k who call o answer new)
    (when (nat_lt (room_with s k (taken s k who call)) (need s k who call)) (DiscFull (need s k who call) (room_with s k (taken s k who call))) ∷ when (reads_disc s k who call o answer new) DiscReadFault ∷ [])
    (is_cut o && writes_now s k who call) (reply_to k.tree who call) s (taken_first s k (taken s k who call)) (done s k who call (taken s k who call)) answer new
    (planned_to s k who call o answer new, planned_from s k who call o answer new)
    (fault_of k.tree who call) (is_offline s k who call && not (is_mounted s (reel_of s k who call))) (is_tape_read o && is_offline s k who call) (WaitTape (reel_of s k who call))

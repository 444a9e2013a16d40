-- How an append is answered if nothing is written.
-- serves: AppendCallLemmas, AppendedLemmas
use Rattle.std.proofs.Common.{◌≡◌, ◌≢◌, ℕ, ◌+◌, ◌<◌, ◌≤◌, Bool, true, false, List, length, Option, Some, None, Result, Err, refl, sym, ◌∙◌, ap, arith, inl, inr, subst}
use Rattle.std.specs.Prelude.{◌&&◌, nat_lt, not}
use Rattle.std.proofs.lemmas.Bool.{le-ltb, lt-ltb}
use Rattle.std.proofs.lemmas.List.Elements.{All-contains}
use Rattle.std.proofs.lemmas.Option.{same_Some}
use Rattle.g_base.specs.Block.{blocks_for}
use Rattle.g_name.specs.declared.full.Full.{Full}
use Rattle.g_name.specs.declared.path.Path.{Path}
use Rattle.g_entry.specs.declared.file_rec.TapeCopy.{TapeCopy}
use Rattle.g_tape.specs.Rack.{Rack, is_mounted as is_on, reel}
use Rattle.g_tape.specs.Reel.{Reel}
use Rattle.g_plain.specs.declared.calls.StoreCall.{StoreCall}
use Rattle.g_plain.specs.declared.calls.StoreCall.TheVariants.{Append}
use Rattle.g_plain.specs.declared.calls.StoreReply.{StoreReply}
use Rattle.g_plain.specs.declared.faults.StoreFault.{StoreFault}
use Rattle.g_plain.specs.declared.faults.StoreFault.TheVariants.{DiscFull, DiscReadFault, NoCopy, NoMemory, TapeReadFault, WaitTape}
use Rattle.g_plain.specs.PlainStep.{fault_of}
use Rattle.g_plain.specs.PlainTree.{FileRow, file_row, input_name}
use Rattle.g_tree.specs.Records.{IsRecords, full_of}
use Rattle.g_disc_contents.specs.Contents.{File, recs_in}
use Rattle.g_disc_contents.specs.Facts.{OnlineFacts}
use Rattle.g_store_model.specs.State.{Holding, State, is_mounted}
use Rattle.g_store_model.specs.CallStep.{CallStep, DiscRead, IsUnjam, Outcome, Plain, TapeRead, is_offline, len_of, need, reel_of, room_until, version_read}
use Rattle.g_store_meaning.specs.Answers.{Answers, Belongs, IsLostCopy, IsStore, Told, WantsCopy}
use Rattle.g_store_meaning.specs.Meaning.{told_reels}
use Rattle.g_store_meaning.specs.Reading.{AllTold, HasText, IsView, View, state_up}
use Rattle.g_store_meaning.specs.StoreInvariant.{StoreFacts}
use Rattle.g_laws_store.specs.Rooms.{held_in}
use Rattle.g_laws_store.specs.UnjamPlan.{ArePlanned, IsUnjamPlan}
use Rattle.g_laws_store.proofs.UnjamLemmas.{unjam_is}
use Rattle.g_retrieve.specs.Retrieval.{IsNowhere, IsOnTape}
use Rattle.g_retrieve.specs.Invariant.{HasLostCopy, IsOver}
use Rattle.g_retrieve.proofs.HeldLemmas.{is_lost}
use Rattle.g_store_calls.specs.Answering.{KeepsPlan, with_devices}
use Rattle.g_store_calls.specs.Appending.{IsAtHand, IsAway, IsFor}
use Rattle.g_store_calls.specs.Asking.{HasAsked}
use Rattle.g_store_calls.proofs.AskedLemmas.{planned, prepared}
use Rattle.g_store_calls.proofs.QuietLemmas.{asked_for, leads_read, quietly, stands_read}
use Rattle.g_store_calls.proofs.SeenLemmas.{seen}
use Rattle.g_store_calls.proofs.StepLemmas.{early_reads, early_waits, lacks_room, late_full, late_reads, no_early, reads_disc, step_early, step_late, waits}
use Rattle.g_store_calls.proofs.WantLemmas.{Wants, granted_in, len_in, mounted_in_state, offline_in, reads_is, reel_in, row_in}

and_false : (b : Bool) → (b && false) ≡ false
and_false true = refl
and_false false = refl

-- numbers that are the same
lacks_by : (n m r x : ℕ) → n ≡ m → r ≡ x → r < m → x < n
lacks_by n m r x one two less = omega (arith, one, two, less)

fits_by : (n m r x : ℕ) → n ≡ m → r ≡ x → m ≤ r → n ≤ x
fits_by n m r x one two most = omega (arith, one, two, most)

-- IN THE STATE of a view
module _ (s : StoreFacts) (unspent : s.spent ≡ false) (store : IsStore s) (keeps : KeepsPlan s.dump) (who : List ℕ) (path : Path) (bytes : List ℕ) (f : File)
    (wants : Wants s.online who (Append path bytes) f) where
  abbrev o : OnlineFacts
  o = s.online

  abbrev reels : List Reel
  reels = told_reels s.rack

  abbrev call : StoreCall
  call = Append path bytes

  abbrev records : IsRecords o.contents.users (recs_in o.contents)
  records = (prepared s unspent store keeps).records

  abbrev up : View → State
  up v = state_up v reels o s.dump

  abbrev k : View → Holding
  k v = held_in v o

  module _ (v : View) (right : IsView o.disc.held reels o.contents v) where
    pub long_here : length (v.text f.rec.stamp) ≡ f.rec.len
    long_here = (All-contains (λ (g : File). HasText (AllTold o.disc.held reels) (v.text g.rec.stamp) v.dumps g) o.contents.files f right.files wants.there).len

    pub named_here : input_name (k v).tree who path ≡ full_of o.contents.users f.rec
    named_here = same_Some (input_name (k v).tree who path) (full_of o.contents.users f.rec) (reads_is v reels o s.dump who call f records wants)

    pub need_here : need (up v) (k v) who call ≡ blocks_for (f.rec.len + length bytes)
    need_here =
        ap (λ (n : Full). blocks_for (length (file_row (k v).tree n).bytes + length bytes)) named_here
        ∙ ap (λ (row : FileRow). blocks_for (length row.bytes + length bytes)) (row_in v reels o s.dump who call f records wants)
        ∙ ap (λ (n : ℕ). blocks_for (n + length bytes)) long_here

    pub offline_here : is_offline (up v) (k v) who call ≡ not f.online
    offline_here = offline_in v reels o s.dump who call f records wants

    mounted_here : (c : TapeCopy) → IsAway f c → is_mounted (up v) (reel_of (up v) (k v) who call) ≡ is_on (reel c.serial s.rack.reels)
    mounted_here c away = mounted_in_state v s.rack o s.dump who call f c records wants away.copy

    pub going : (outcome : Outcome) → IsAtHand f s.rack → waits (up v) (k v) who call outcome ≡ false
    going outcome (inl online) = ap (λ (b : Bool). b && not (is_mounted (up v) (reel_of (up v) (k v) who call))) (offline_here ∙ ap not online)
    going outcome (inr (c, away, on)) =
        ap (λ (b : Bool). is_offline (up v) (k v) who call && not b) (mounted_here c away ∙ on) ∙ and_false (is_offline (up v) (k v) who call)

    waiting : (outcome : Outcome) (c : TapeCopy) → IsAway f c → is_on (reel c.serial s.rack.reels) ≡ false → waits (up v) (k v) who call outcome ≡ true
    waiting outcome c away off = λ i. (offline_here ∙ ap not away.offline) i && not ((mounted_here c away ∙ off) i)

    pub granted_here : fault_of (held_in v o).tree who (Append path bytes) ≡ None
    granted_here = granted_in v reels o s.dump who call f records wants right

    plan_here : ArePlanned v o s.dump
    plan_here = planned v o s.dump reels (prepared s unspent store keeps) right

    -- a plan for it is the step's
    module _ (take : List ℕ) (room : ℕ) (plan : IsUnjamPlan (blocks_for (f.rec.len + length bytes)) o take room) where
      pub plan_needs : IsUnjamPlan (need (up v) (k v) who call) o take room
      plan_needs = subst (λ (n : ℕ). IsUnjamPlan n o take room) (sym need_here) plan

      pub unjam_here : IsUnjam (up v) (k v) who call plan_needs.until
      unjam_here = unjam_is.step_is v reels o s.dump who call take room plan_here plan_needs

      pub room_here : room ≡ room_until (up v) (k v) who call plan_needs.until
      room_here = unjam_is.reached v reels o s.dump who call (need (up v) (k v) who call) take room plan_here plan_needs

      pub roomy_here : (outcome : Outcome) → blocks_for (f.rec.len + length bytes) ≤ room → lacks_room (up v) (k v) who call outcome plan_needs.until ≡ false
      roomy_here outcome fits =
          le-ltb (room_until (up v) (k v) who call plan_needs.until) (need (up v) (k v) who call)
          (fits_by (need (up v) (k v) who call) (blocks_for (f.rec.len + length bytes)) room (room_until (up v) (k v) who call plan_needs.until) need_here room_here fits)

    -- THE STEPS of the refusals
    step_waits : (c : TapeCopy) (serial : ℕ) → IsAway f c → serial ≡ c.serial → is_on (reel c.serial s.rack.reels) ≡ false → CallStep (up v) (k v) who call Plain (Err (WaitTape serial)) (up v)
    step_waits c serial away same off =
        step_early (up v) (k v) who call Plain (WaitTape serial)
        (early_waits (up v) (k v) who call Plain granted_here (waiting Plain c away off)
        ∙ ap (λ (n : ℕ). let x : Option StoreFault = Some (WaitTape n) in x) (reel_in v reels o s.dump who call f records wants c away.copy ∙ sym same))

    step_unread : (c : TapeCopy) → IsAway f c → is_on (reel c.serial s.rack.reels) ≡ true → CallStep (up v) (k v) who call TapeRead (Err TapeReadFault) (up v)
    step_unread c away on =
        step_early (up v) (k v) who call TapeRead TapeReadFault
        (early_reads (up v) (k v) who call TapeRead granted_here (going TapeRead (inr (c, away, on))) (offline_here ∙ ap not away.offline))

    step_lacks : (wanted room : ℕ) → IsAtHand f s.rack → wanted ≡ blocks_for (f.rec.len + length bytes) → room < wanted → IsFor f bytes o room
        → CallStep (up v) (k v) who call Plain (Err (DiscFull wanted room)) (up v)
    step_lacks wanted room hand same short (take, plan) =
        let until : ℕ = (plan_needs take room plan).until in
        let needs : need (up v) (k v) who call ≡ wanted = need_here ∙ sym same in
        let reached = room_here take room plan in
        let lacking : lacks_room (up v) (k v) who call Plain until ≡ true =
        lt-ltb (room_until (up v) (k v) who call until) (need (up v) (k v) who call)
        (lacks_by (need (up v) (k v) who call) wanted room (room_until (up v) (k v) who call until) needs reached short) in
        step_late (up v) (k v) who call Plain (DiscFull wanted room) until (up v) (no_early (up v) (k v) who call Plain granted_here (going Plain hand) refl) (unjam_here take room plan)
        (late_full (up v) (k v) who call Plain until lacking ∙ (λ i. let x : Option StoreFault = Some (DiscFull (needs i) (sym reached i)) in x)) refl

    step_failed : f.online ≡ true → 0 < f.rec.len → (room : ℕ) → blocks_for (f.rec.len + length bytes) ≤ room → IsFor f bytes o room → CallStep (up v) (k v) who call DiscRead (Err DiscReadFault) (up v)
    step_failed online filled room fits (take, plan) =
        let until : ℕ = (plan_needs take room plan).until in
        let here : is_offline (up v) (k v) who call ≡ false = offline_here ∙ ap not online in
        let some : nat_lt 0 (len_of (up v) (k v) who call (version_read (k v).tree who call)) ≡ true =
        ap (λ (n : ℕ). nat_lt 0 n) (len_in v reels o s.dump who call f records wants long_here) ∙ lt-ltb 0 f.rec.len filled in
        let failed : reads_disc (up v) (k v) who call DiscRead ≡ true = (λ i. not (here i) && some i) in
        step_late (up v) (k v) who call DiscRead DiscReadFault until (up v) (no_early (up v) (k v) who call DiscRead granted_here (going DiscRead (inl online)) refl) (unjam_here take room plan)
        (late_reads (up v) (k v) who call DiscRead until (roomy_here take room plan DiscRead fits) failed) refl

    wants_copy : (c : TapeCopy) (name : Full) (serial : ℕ) → IsAway f c → name ≡ full_of o.contents.users f.rec → serial ≡ c.serial → is_on (reel c.serial s.rack.reels) ≡ true
        → WantsCopy (up v) who call name serial
    wants_copy c name serial away named same on = record {
      held = k v;
      holds = refl;
      granted = granted_here;
      reads = reads_is v reels o s.dump who call f records wants ∙ ap (λ (n : Full). let x : Option Full = Some n in x) (sym named);
      offline = offline_here ∙ ap not away.offline;
      reel = reel_in v reels o s.dump who call f records wants c away.copy ∙ sym same;
      mounted = ap (λ (n : ℕ). is_mounted (up v) n) (same ∙ sym (reel_in v reels o s.dump who call f records wants c away.copy)) ∙ mounted_here c away ∙ on;
    }

  -- HOW IT IS ANSWERED
  module _ (new : OnlineFacts) (after : Rack) where
    abbrev AskedFor : StoreFault → Type 0
    AskedFor fault =
        HasAsked (◌≡◌ {A = Result StoreReply StoreFault} (Err fault) (Err DiscReadFault)) (◌≡◌ {A = Result StoreReply StoreFault} (Err fault) (Err TapeReadFault)) o new s.rack after

    no_lost : (fault : StoreFault) → ((full : Full) (serial : ℕ) → fault ≢ NoCopy full serial) → (full : Full) (serial : ℕ)
        → ◌≡◌ {A = Result StoreReply StoreFault} (Err fault) (Err (NoCopy full serial)) → IsLostCopy s full serial
    no_lost fault other full serial is = absurd (other full serial (let same : fault ≡ NoCopy full serial = cc in same))

    never : (fault : StoreFault) → ((full : Full) (serial : ℕ) → fault ≢ NoCopy full serial) → Told s → Belongs s → (full : Full) (serial : ℕ)
        → ◌≡◌ {A = Result StoreReply StoreFault} (Err fault) (Err (NoCopy full serial)) → ⊥
    never fault other told belongs full serial is = other full serial (let same : fault ≡ NoCopy full serial = cc in same)

    pub starved : HasAsked ⊥ ⊥ o new s.rack after → Answers s who call (Err NoMemory) (with_devices new after s)
    starved asked =
        let quiet : AskedFor NoMemory = asked_for (λ no. absurd no) (λ is. let no : ⊥ = cc in no) (λ no. absurd no) (λ is. let no : ⊥ = cc in no) asked in
        quietly s new after who call (Err NoMemory) unspent store quiet (λ is. let no : ⊥ = cc in no) (λ u here. stands_read s new after _ _ unspent store quiet u here)
        (no_lost NoMemory (λ full serial is. let no : ⊥ = cc in no)) (never NoMemory (λ full serial is. let no : ⊥ = cc in no))

    pub waits_answer : (serial : ℕ) → HasAsked ⊥ ⊥ o new s.rack after → (c : TapeCopy) → IsAway f c → serial ≡ c.serial → is_on (reel c.serial s.rack.reels) ≡ false
        → Answers s who call (Err (WaitTape serial)) (with_devices new after s)
    waits_answer serial asked c away same off =
        let quiet : AskedFor (WaitTape serial) = asked_for (λ no. absurd no) (λ is. let no : ⊥ = cc in no) (λ no. absurd no) (λ is. let no : ⊥ = cc in no) asked in
        quietly s new after who call (Err (WaitTape serial)) unspent store quiet (λ is. let no : ⊥ = cc in no)
        (λ u here. leads_read s new after _ _ unspent store quiet who call (Err (WaitTape serial)) Plain tt u here (λ v right. step_waits v right c serial away same off) (λ v right. tt))
        (no_lost (WaitTape serial) (λ full n is. let no : ⊥ = cc in no)) (never (WaitTape serial) (λ full n is. let no : ⊥ = cc in no))

    pub unread_answer : HasAsked ⊥ (Unit {0}) o new s.rack after → (c : TapeCopy) → IsAway f c → is_on (reel c.serial s.rack.reels) ≡ true
        → Answers s who call (Err TapeReadFault) (with_devices new after s)
    unread_answer asked c away on =
        let quiet : AskedFor TapeReadFault = asked_for (λ no. absurd no) (λ is. let no : ⊥ = cc in no) (λ it. refl) (λ is. tt) asked in
        quietly s new after who call (Err TapeReadFault) unspent store quiet (λ is. let no : ⊥ = cc in no)
        (λ u here. leads_read s new after _ _ unspent store quiet who call (Err TapeReadFault) TapeRead (asked.rose tt) u here (λ v right. step_unread v right c away on) (λ v right. tt))
        (no_lost TapeReadFault (λ full serial is. let no : ⊥ = cc in no)) (never TapeReadFault (λ full serial is. let no : ⊥ = cc in no))

    pub full_answer : (wanted room : ℕ) → HasAsked ⊥ ⊥ o new s.rack after → IsAtHand f s.rack → wanted ≡ blocks_for (f.rec.len + length bytes) → room < wanted → IsFor f bytes o room
        → Answers s who call (Err (DiscFull wanted room)) (with_devices new after s)
    full_answer wanted room asked hand same short plan =
        let quiet : AskedFor (DiscFull wanted room) = asked_for (λ no. absurd no) (λ is. let no : ⊥ = cc in no) (λ no. absurd no) (λ is. let no : ⊥ = cc in no) asked in
        quietly s new after who call (Err (DiscFull wanted room)) unspent store quiet (λ is. let no : ⊥ = cc in no)
        (λ u here. leads_read s new after _ _ unspent store quiet who call (Err (DiscFull wanted room)) Plain tt u here (λ v right. step_lacks v right wanted room hand same short plan) (λ v right. tt))
        (no_lost (DiscFull wanted room) (λ full serial is. let no : ⊥ = cc in no)) (never (DiscFull wanted room) (λ full serial is. let no : ⊥ = cc in no))

    pub failed_answer : HasAsked (Unit {0}) ⊥ o new s.rack after → f.online ≡ true → 0 < f.rec.len → (room : ℕ) → blocks_for (f.rec.len + length bytes) ≤ room → IsFor f bytes o room
        → Answers s who call (Err DiscReadFault) (with_devices new after s)
    failed_answer asked online filled room fits plan =
        let quiet : AskedFor DiscReadFault = asked_for (λ it. refl) (λ is. tt) (λ no. absurd no) (λ is. let no : ⊥ = cc in no) asked in
        quietly s new after who call (Err DiscReadFault) unspent store quiet (λ is. let no : ⊥ = cc in no)
        (λ u here. leads_read s new after _ _ unspent store quiet who call (Err DiscReadFault) DiscRead (asked.disc.rose tt) u here (λ v right. step_failed v right online filled room fits plan) (λ v right. tt))
        (no_lost DiscReadFault (λ full serial is. let no : ⊥ = cc in no)) (never DiscReadFault (λ full serial is. let no : ⊥ = cc in no))

    pub lost_answer : (name : Full) (serial : ℕ) → HasAsked ⊥ ⊥ o new s.rack after → name ≡ full_of o.contents.users f.rec → (c : TapeCopy) → IsAway f c → serial ≡ c.serial → IsNowhere c f.rec.len s.rack
        → Answers s who call (Err (NoCopy name serial)) (with_devices new after s)
    lost_answer name serial asked named c away same nowhere =
        let quiet : AskedFor (NoCopy name serial) = asked_for (λ no. absurd no) (λ is. let no : ⊥ = cc in no) (λ no. absurd no) (λ is. let no : ⊥ = cc in no) asked in
        quietly s new after who call (Err (NoCopy name serial)) unspent store quiet (λ is. let no : ⊥ = cc in no)
        (λ u here.
        let sn = seen s u unspent here in
        (stands_read s new after _ _ unspent store quiet u here, subst (λ (t : State). WantsCopy t who call name serial) (sym sn.state_is) (wants_copy sn.view sn.is c name serial away named same nowhere.mounted)))
        (λ full n is.
        let one : name ≡ full = cc in
        let two : serial ≡ n = cc in
        subst (λ (m : ℕ). IsLostCopy s full m) two (subst (λ (x : Full). IsLostCopy s x serial) one (lost.copy s here_over)))
        (λ told belongs full n is. lost.never s here_over told belongs)
      where
        away_at : IsOnTape f.rec.number o f c
        away_at = record { there = wants.there; number_is = refl; offline = away.offline; copy = away.copy }

        here_over : IsOver o s.rack s
        here_over = record { online_is = refl; rack_is = refl; unspent = unspent }

        lost : HasLostCopy f c name serial o s.rack
        lost = is_lost f.rec.number o s.rack f c name serial away_at named same nowhere

-- A store whose tapes were read, and in which nothing else has changed; and a call that needs a file whose bytes are only
-- on tape: it waits, its reel can't be read, its copy is lost, or the disc has no room for it.
-- serves: BroughtLemmas, FetchLemmas, HereLemmas
use Rattle.std.proofs.Common.{◌≡◌, ℕ, ◌<◌, ◌≤◌, Bool, true, false, List, Some, None, Result, Err, refl, sym, ◌∙◌, ap, arith, inl, inr, subst}
use Rattle.std.specs.Prelude.{◌⊎◌, not, if◌then◌else◌}
use Rattle.std.proofs.lemmas.Bool.{and_from, false≢true}
use Rattle.std.proofs.lemmas.List.Elements.{All-contains}
use Rattle.g_base.specs.Block.{blocks_for}
use Rattle.g_base.specs.Counts.{Rose}
use Rattle.g_disc.proofs.CallLemmas.{Causes-none}
use Rattle.g_name.specs.declared.full.Full.{Full}
use Rattle.g_entry.specs.declared.file_rec.TapeCopy.{TapeCopy}
use Rattle.g_tape.specs.Rack.{Rack, is_mounted as is_on, reel}
use Rattle.g_tape.specs.Reads.{OnlyReads}
use Rattle.g_plain.specs.declared.calls.StoreCall.{StoreCall}
use Rattle.g_plain.specs.declared.calls.StoreReply.{StoreReply}
use Rattle.g_plain.specs.declared.faults.StoreFault.{StoreFault}
use Rattle.g_plain.specs.declared.faults.StoreFault.TheVariants.{DiscFull, DiscReadFault, NoCopy, NoMemory, Stopped, TapeReadFault, WaitTape}
use Rattle.g_plain.specs.PlainStep.{fault_of}
use Rattle.g_tree.specs.Records.{IsRecords}
use Rattle.g_disc_contents.specs.Contents.{File, recs_in}
use Rattle.g_disc_contents.specs.Facts.{OnlineFacts}
use Rattle.g_store_model.specs.State.{Holding, State, is_mounted}
use Rattle.g_store_model.specs.CallStep.{CallStep, IsUnjam, Outcome, Plain, TapeRead, brings, brings_now, is_offline, len_of, need, new_blocks, reel_of, room_until, version_read}
use Rattle.g_store_meaning.specs.Answers.{Answers, Belongs, From, IsAnswered, IsLostCopy, IsStore, Leads, Raised, Steps, Told, WantsCopy}
use Rattle.g_store_meaning.specs.Meaning.{told_reels}
use Rattle.g_store_meaning.specs.Reading.{AllTold, HasText, IsView, StandsForState, View, state_up}
use Rattle.g_store_meaning.specs.StoreInvariant.{StoreFacts}
use Rattle.g_store_meaning.proofs.ViewLemmas.{reads_keep_state}
use Rattle.g_laws_store.specs.Rooms.{held_in}
use Rattle.g_laws_store.specs.UnjamPlan.{ArePlanned, IsUnjamPlan, room_until as plan_room}
use Rattle.g_laws_store.proofs.UnjamLemmas.{unjam_is}
use Rattle.g_migrate.proofs.MigrationLemmas.{rules_here}
use Rattle.g_retrieve.specs.Invariant.{HasLostCopy, IsOver, KeepsDevices}
use Rattle.g_retrieve.proofs.KeepsLemmas.{keeps_same}
use Rattle.g_store_calls.specs.Answering.{KeepsPlan, with_devices}
use Rattle.g_store_calls.proofs.AskedLemmas.{IsPrepared, planned, prepared}
use Rattle.g_store_calls.proofs.BackLemmas.{step_full, step_unread, step_waits}
use Rattle.g_store_calls.proofs.SeenLemmas.{seen}
use Rattle.g_store_calls.proofs.SurvivalLemmas.{stays_durable}
use Rattle.g_store_calls.proofs.WantLemmas.{Wants, granted_in, len_in, mounted_in_state, offline_in, reads_is, reel_in}

-- THE STORE with its tapes read
pub over_itself : (s : StoreFacts) → s.spent ≡ false → IsOver s.online s.rack s
over_itself s unspent = record { online_is = refl; rack_is = refl; unspent = unspent }

module _ (s : StoreFacts) (after : Rack) (who : List ℕ) (call : StoreCall) (unspent : s.spent ≡ false) (store : IsStore s) (only : OnlyReads s.rack after) where
  abbrev then_ : StoreFacts
  then_ = with_devices s.online after s

  live : s.online.live ≡ true
  live = store.live unspent

  same : record s { rack = after } ≡ then_
  same = λ i. let t : StoreFacts = record s { rack = after; spent = (unspent ∙ sym (ap not live)) i } in t

  pub stays : (u : State) → StandsForState s u → StandsForState then_ u
  stays u here = subst (λ (t : StoreFacts). StandsForState t u) same (reads_keep_state s after u only here)

  keeps : KeepsDevices s.online s.online s.rack after
  keeps = keeps_same s.online s.rack after live only

  module _ (answer : Result StoreReply StoreFault) where
    pub from_here : (u : State) → StandsForState s u → Steps u s who call answer then_ → From u s who call answer then_
    from_here u here steps = record { before = u; stands = here; told = λ t. refl; steps = steps }

    -- what it answered is no fault of the disc
    pub read_answers : (answer ≡ Err DiscReadFault → ⊥) → (answer ≡ Err Stopped → ⊥) → (answer ≡ Err TapeReadFault → Rose s.rack.read_faults after.read_faults)
        → ((answer ≡ Err TapeReadFault → ⊥) → after.read_faults ≡ s.rack.read_faults)
        → ((full : Full) (serial : ℕ) → answer ≡ Err (NoCopy full serial) → IsLostCopy s full serial × (Told s → Belongs s → ⊥))
        → ((Told s → Belongs s) → (u : State) → StandsForState s u → From u s who call answer then_) → Answers s who call answer then_
    read_answers disc stop rose kept lost step = record {
      step = step;
      cause = record { disc = Causes-none s.online.disc disc stop; tapes = only; tape_read = rose; tape_read_only = kept; writes = λ fault is isnt. refl };
      keeps = keeps.store s (over_itself s unspent) store;
      told = keeps.told s (over_itself s unspent);
      belongs = λ t b. keeps.belongs s (over_itself s unspent) store t b;
      lost = λ full serial is. (lost full serial is).0;
      no_copy = λ t b full serial is. (lost full serial is).1 t b;
      dump = λ isnt. refl;
      spent = (λ is. absurd (false≢true (sym (ap not live) ∙ is)), λ is. absurd (stop is));
      survives = stays_durable (IsAnswered s who call answer) s then_ (ap not live) (λ durable. durable);
    }

  pub starved_then : after.read_faults ≡ s.rack.read_faults → Answers s who call (Err NoMemory) then_
  starved_then kept =
      read_answers (Err NoMemory) (λ is. let no : ⊥ = cc in no) (λ is. let no : ⊥ = cc in no) (λ is. absurd (let no : ⊥ = cc in no)) (λ isnt. kept) (λ full serial is. absurd (let no : ⊥ = cc in no))
      (λ belongs u here. from_here (Err NoMemory) u here (stays u here))

-- A PLAN is the step's, for a call that brings this file back
unfoldable pub replanned : (m n : ℕ) (o : OnlineFacts) (take : List ℕ) (room : ℕ) → m ≡ n → IsUnjamPlan n o take room → IsUnjamPlan m o take room
replanned m n o take room same is = record {
  until = is.until;
  from = is.from;
  all = is.all;
  once = is.once;
  room_is = is.room_is;
  enough = by_room is.enough;
  least = λ lower less. subst (λ (x : ℕ). plan_room o lower < x) (sym same) (is.least lower less);
}
  where
    by_room : {A : Type 0} → (n ≤ room) ⊎ A → (m ≤ room) ⊎ A
    by_room (inl le) = inl (subst (λ (x : ℕ). x ≤ room) (sym same) le)
    by_room (inr all) = inr all

module _ (s : StoreFacts) (who : List ℕ) (call : StoreCall) (f : File) (c : TapeCopy) (records : IsRecords s.online.contents.users (recs_in s.online.contents)) (wants : Wants s.online who call f)
    (offline : f.online ≡ false) (copy : f.rec.tape ≡ Some c) (v : View) (right : IsView s.online.disc.held (told_reels s.rack) s.online.contents v) where
  abbrev u : State
  u = state_up v (told_reels s.rack) s.online s.dump

  abbrev k : Holding
  k = held_in v s.online

  pub off_here : is_offline u k who call ≡ true
  off_here = offline_in v (told_reels s.rack) s.online s.dump who call f records wants ∙ ap not offline

  pub serial_here : reel_of u k who call ≡ c.serial
  serial_here = reel_in v (told_reels s.rack) s.online s.dump who call f records wants c copy

  pub mounted_here : is_mounted u (reel_of u k who call) ≡ is_on (reel c.serial s.rack.reels)
  mounted_here = mounted_in_state v s.rack s.online s.dump who call f c records wants copy

  pub len_here : len_of u k who call (version_read k.tree who call) ≡ f.rec.len
  len_here =
      len_in v (told_reels s.rack) s.online s.dump who call f records wants
      (All-contains (λ (g : File). HasText (AllTold s.online.disc.held (told_reels s.rack)) (v.text g.rec.stamp) v.dumps g) s.online.contents.files f right.files wants.there).len

  module _ (brings_it : brings call ≡ true) where
    pub brings_here : brings_now u k who call ≡ true
    brings_here = and_from (brings call) (is_offline u k who call) brings_it off_here

    pub need_here : need u k who call ≡ blocks_for f.rec.len
    need_here =
        ap (λ (b : Bool). if b then blocks_for (len_of u k who call (version_read k.tree who call)) else new_blocks k.tree who call) brings_here ∙ ap blocks_for len_here

    module _ (is : IsPrepared s.online s.dump) (take : List ℕ) (room : ℕ) (plan : IsUnjamPlan (blocks_for f.rec.len) s.online take room) where
      pub are_here : ArePlanned v s.online s.dump
      are_here = planned v s.online s.dump (told_reels s.rack) is right

      unfoldable pub plan_here : IsUnjamPlan (need u k who call) s.online take room
      plan_here = replanned (need u k who call) (blocks_for f.rec.len) s.online take room need_here plan

      pub unjam_here : IsUnjam u k who call plan.until
      unfolding plan_here replanned
      unjam_here = unjam_is.step_is v (told_reels s.rack) s.online s.dump who call take room are_here plan_here

      pub room_here : room ≡ room_until u k who call plan.until
      room_here = unjam_is.reached v (told_reels s.rack) s.online s.dump who call (blocks_for f.rec.len) take room are_here plan

-- the refusals for a file that is only on tape
module _ (s : StoreFacts) (after : Rack) (who : List ℕ) (call : StoreCall) (f : File) (c : TapeCopy) (unspent : s.spent ≡ false) (store : IsStore s) (only : OnlyReads s.rack after)
    (wants : Wants s.online who call f) (offline : f.online ≡ false) (copy : f.rec.tape ≡ Some c) where
  abbrev read : StoreFacts
  read = with_devices s.online after s

  abbrev up : View → State
  up v = state_up v (told_reels s.rack) s.online s.dump

  abbrev held : View → Holding
  held v = held_in v s.online

  abbrev IsSeen : View → Type 0
  IsSeen v = IsView s.online.disc.held (told_reels s.rack) s.online.contents v

  records : IsRecords s.online.contents.users (recs_in s.online.contents)
  records = (rules_here s.online (store.live unspent) store.tied).records

  leads_read : (out : Outcome) (fault : StoreFault) → Raised out s read → ((v : View) → IsSeen v → CallStep (up v) (held v) who call out (Err fault) (up v))
      → (u : State) → StandsForState s u → Leads u s read who call (Err fault)
  leads_read out fault raised step u here =
      let sn = seen s u unspent here in record {
        after = u;
        left = stays s after who call unspent store only u here;
        held = held sn.view;
        holds = ap (λ (t : State). t.holding) sn.state_is;
        outcome = out;
        raised = raised;
        step = subst (λ (t : State). CallStep t (held sn.view) who call out (Err fault) t) (sym sn.state_is) (step sn.view sn.is);
        did = tt;
      }

  granted_at : (v : View) → IsSeen v → fault_of (held v).tree who call ≡ None
  granted_at v right = granted_in v (told_reels s.rack) s.online s.dump who call f records wants right

  pub waits_then : is_on (reel c.serial s.rack.reels) ≡ false → after.read_faults ≡ s.rack.read_faults → Answers s who call (Err (WaitTape c.serial)) read
  waits_then away kept =
      read_answers s after who call unspent store only (Err (WaitTape c.serial)) (λ is. let no : ⊥ = cc in no) (λ is. let no : ⊥ = cc in no) (λ is. absurd (let no : ⊥ = cc in no)) (λ isnt. kept)
      (λ full serial is. absurd (let no : ⊥ = cc in no))
      (λ belongs u here. from_here s after who call unspent store only (Err (WaitTape c.serial)) u here
      (leads_read Plain (WaitTape c.serial) tt
      (λ v right.
      subst (λ (n : ℕ). CallStep (up v) (held v) who call Plain (Err (WaitTape n)) (up v)) (serial_here s who call f c records wants offline copy v right)
      (step_waits (up v) (held v) who call (granted_at v right) (off_here s who call f c records wants offline copy v right)
      (mounted_here s who call f c records wants offline copy v right ∙ away))) u here))

  module _ (mounted : is_on (reel c.serial s.rack.reels) ≡ true) where
    mounted_at : (v : View) → IsSeen v → is_mounted (up v) (reel_of (up v) (held v) who call) ≡ true
    mounted_at v right = mounted_here s who call f c records wants offline copy v right ∙ mounted

    pub unread_then : Rose s.rack.read_faults after.read_faults → Answers s who call (Err TapeReadFault) read
    unread_then rose =
        read_answers s after who call unspent store only (Err TapeReadFault) (λ is. let no : ⊥ = cc in no) (λ is. let no : ⊥ = cc in no) (λ is. rose) (λ isnt. absurd (isnt refl))
        (λ full serial is. absurd (let no : ⊥ = cc in no))
        (λ belongs u here. from_here s after who call unspent store only (Err TapeReadFault) u here
        (leads_read TapeRead TapeReadFault rose
        (λ v right. step_unread (up v) (held v) who call (granted_at v right) (off_here s who call f c records wants offline copy v right) (mounted_at v right)) u here))

    module _ (plan : KeepsPlan s.dump) (brings_it : brings call ≡ true) (take : List ℕ) (room : ℕ) (is : IsUnjamPlan (blocks_for f.rec.len) s.online take room) where
      pub full_then : room < blocks_for f.rec.len → after.read_faults ≡ s.rack.read_faults → Answers s who call (Err (DiscFull (blocks_for f.rec.len) room)) read
      full_then less kept =
          read_answers s after who call unspent store only (Err (DiscFull (blocks_for f.rec.len) room)) (λ no_read. let no : ⊥ = cc in no) (λ no_stop. let no : ⊥ = cc in no)
          (λ no_read. absurd (let no : ⊥ = cc in no)) (λ isnt. kept) (λ full serial no_copy. absurd (let no : ⊥ = cc in no))
          (λ belongs u here. from_here s after who call unspent store only (Err (DiscFull (blocks_for f.rec.len) room)) u here
          (leads_read Plain (DiscFull (blocks_for f.rec.len) room) tt
          (λ v right.
          let needs = need_here s who call f c records wants offline copy v right brings_it in
          let reached = room_here s who call f c records wants offline copy v right brings_it (prepared s unspent store plan) take room is in
          subst (λ (g : StoreFault). CallStep (up v) (held v) who call Plain (Err g) (up v)) (λ i. DiscFull (needs i) (sym reached i))
          (step_full (up v) (held v) who call (granted_at v right) (off_here s who call f c records wants offline copy v right) (mounted_at v right)
          (brings_here s who call f c records wants offline copy v right brings_it) is.until
          (unjam_here s who call f c records wants offline copy v right brings_it (prepared s unspent store plan) take room is)
          (omega (arith, less, needs, reached)))) u here))

  -- a copy that is lost
  wants_copy : (name : Full) (serial : ℕ) → HasLostCopy f c name serial s.online s.rack → (u : State) → StandsForState s u → WantsCopy u who call name serial
  wants_copy name serial lost u here =
      let sn = seen s u unspent here in
      let v = sn.view in
      let at = serial_here s who call f c records wants offline copy v sn.is ∙ sym lost.serial_is in
      subst (λ (t : State). WantsCopy t who call name serial) (sym sn.state_is)
      (record {
        held = held v;
        holds = refl;
        granted = granted_at v sn.is;
        reads = reads_is v (told_reels s.rack) s.online s.dump who call f records wants ∙ ap Some (sym lost.name_is);
        offline = off_here s who call f c records wants offline copy v sn.is;
        reel = at;
        mounted = ap (λ (n : ℕ). is_mounted (up v) n) (sym at) ∙ mounted_here s who call f c records wants offline copy v sn.is ∙ lost.nowhere.mounted;
      })

  lost_by : (name full : Full) (serial n : ℕ) → HasLostCopy f c name serial s.online s.rack → ◌≡◌ {A = Result StoreReply StoreFault} (Err (NoCopy name serial)) (Err (NoCopy full n))
      → IsLostCopy s full n × (Told s → Belongs s → ⊥)
  lost_by name full serial n lost is =
      let one : name ≡ full = cc in
      let two : serial ≡ n = cc in (
        subst (λ (x : Full). IsLostCopy s x n) one (subst (λ (x : ℕ). IsLostCopy s name x) two (lost.copy s (over_itself s unspent))),
        λ t b. lost.never s (over_itself s unspent) t b,
      )

  pub lost_then : (name : Full) (serial : ℕ) → HasLostCopy f c name serial s.online s.rack → after.read_faults ≡ s.rack.read_faults → Answers s who call (Err (NoCopy name serial)) read
  lost_then name serial lost kept =
      read_answers s after who call unspent store only (Err (NoCopy name serial)) (λ is. let no : ⊥ = cc in no) (λ is. let no : ⊥ = cc in no) (λ is. absurd (let no : ⊥ = cc in no)) (λ isnt. kept)
      (λ full n is. lost_by name full serial n lost is)
      (λ belongs u here. from_here s after who call unspent store only (Err (NoCopy name serial)) u here (stays s after who call unspent store only u here, wants_copy name serial lost u here))

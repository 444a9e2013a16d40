-- A call that needs a file which is on the disc: its bytes are read there, or no device is used.
-- serves: FetchLemmas
use Rattle.std.proofs.Common.{◌≡◌, ℕ, ◌<◌, Bool, true, false, List, length, None, Ok, Err, refl, sym, ◌∙◌, ap, arith, inl, subst}
use Rattle.std.specs.Prelude.{◌||◌, not, if◌then◌else◌}
use Rattle.std.specs.Option.{ForSome}
use Rattle.std.proofs.lemmas.Bool.{and_right, false≢true, or_from}
use Rattle.std.proofs.lemmas.List.Elements.{All-contains}
use Rattle.g_base.specs.Block.{blocks_for}
use Rattle.g_base.specs.Counts.{Rose}
use Rattle.g_tape.proofs.ReadLemmas.{nothing_read}
use Rattle.g_plain.specs.declared.calls.StoreCall.{StoreCall}
use Rattle.g_plain.specs.declared.calls.StoreReply.{StoreReply}
use Rattle.g_plain.specs.declared.faults.StoreFault.TheVariants.{DiscReadFault}
use Rattle.g_plain.specs.PlainStep.{fault_of, reply_to}
use Rattle.g_plain.specs.PlainTree.{Tree}
use Rattle.g_tree.specs.Records.{IsRecords}
use Rattle.g_disc_contents.specs.Contents.{File, recs_in}
use Rattle.g_disc_contents.specs.Facts.{IsTied, OnlineFacts}
use Rattle.g_store_model.specs.State.{Holding, State}
use Rattle.g_store_model.specs.CallStep.{CallStep, DiscRead, Plain, brings, brings_now, is_offline, len_of, need, new_blocks, version_read, wants_bytes, writes}
use Rattle.g_store_meaning.specs.Answers.{Answers, Belongs, Did, IsAnswered, IsStore, Leads, Told}
use Rattle.g_store_meaning.specs.Meaning.{told_reels}
use Rattle.g_store_meaning.specs.Reading.{HasText, IsOpenView, IsView, StandsForState, View, state_up}
use Rattle.g_store_meaning.specs.StoreInvariant.{StoreFacts}
use Rattle.g_store_meaning.proofs.StayLemmas.{dump_stays_open}
use Rattle.g_laws_store.proofs.CallLemmas.{calls_go_by_step}
use Rattle.g_laws_store.specs.Rooms.{held_in}
use Rattle.g_migrate.proofs.MigrationLemmas.{rules_here}
use Rattle.g_store_calls.specs.Answering.{KeepsPlan, with_devices}
use Rattle.g_store_calls.proofs.AskedLemmas.{has_bytes, met}
use Rattle.g_store_calls.proofs.BackLemmas.{step_unread_disc}
use Rattle.g_store_calls.proofs.CalmLemmas.{step_done}
use Rattle.g_store_calls.proofs.SeenLemmas.{Seen, seen, stands}
use Rattle.g_store_calls.proofs.SurvivalLemmas.{stays_durable}
use Rattle.g_store_calls.proofs.TapeLemmas.{read_answers, stays}
use Rattle.g_store_calls.proofs.WantLemmas.{Wants, granted_in, len_in, offline_in}
use Rattle.g_laws_store.proofs.TiedLemmas.{moved}
use Rattle.g_store_calls.proofs.QuietLemmas.{faults_cause}

-- THE FILESTORE after a read of the disc that failed
abbrev pub with_faults : OnlineFacts → ℕ → OnlineFacts
with_faults o n = record o { disc = record o.disc { read_faults = n } }

module _ (s : StoreFacts) (who : List ℕ) (call : StoreCall) (f : File) (unspent : s.spent ≡ false) (store : IsStore s) (wants : Wants s.online who call f) (online : f.online ≡ true)
    (quiet : writes call ≡ false) (none : (t : Tree) → new_blocks t who call ≡ 0) where
  abbrev o : OnlineFacts
  o = s.online

  abbrev up : View → State
  up v = state_up v (told_reels s.rack) o s.dump

  abbrev held : View → Holding
  held v = held_in v o

  abbrev IsSeen : View → Type 0
  IsSeen v = IsView o.disc.held (told_reels s.rack) o.contents v

  abbrev then_ : StoreFacts
  then_ = with_devices o s.rack s

  records : IsRecords o.contents.users (recs_in o.contents)
  records = (rules_here o (store.live unspent) store.tied).records

  on_at : (v : View) → is_offline (up v) (held v) who call ≡ false
  on_at v = offline_in v (told_reels s.rack) o s.dump who call f records wants ∙ ap not online

  brings_none : (v : View) → brings_now (up v) (held v) who call ≡ false
  brings_none v = and_right (brings call) (is_offline (up v) (held v) who call) (on_at v)

  need_none : (v : View) → need (up v) (held v) who call ≡ 0
  need_none v =
      ap (λ (b : Bool). if b then blocks_for (len_of (up v) (held v) who call (version_read (held v).tree who call)) else new_blocks (held v).tree who call) (brings_none v) ∙ none (held v).tree

  still_at : (v : View) → (writes call || brings_now (up v) (held v) who call) ≡ false
  still_at v = or_from (writes call) (brings_now (up v) (held v) who call) quiet (brings_none v)

  granted_at : (v : View) → IsSeen v → fault_of (held v).tree who call ≡ None
  granted_at v right = granted_in v (told_reels s.rack) o s.dump who call f records wants right

  did : (v : View) → Did (up v) (held v) who call s then_
  did v =
      let nothing = need_none v in record {
        wrote = record { count = 0; are = inl (refl, still_at v); blocks = 0; commits = (refl, refl); writes = record { exactly = λ less. omega (arith, nothing) } };
        read = λ is. absurd (false≢true (sym (on_at v) ∙ is));
      }

  leads_here : (v : View) → IsSeen v → (reply : StoreReply) → reply ≡ reply_to (held v).tree who call → StandsForState then_ (up v) → Leads (up v) s then_ who call (Ok reply)
  leads_here v right reply replied left = record {
    after = up v;
    left = left;
    held = held v;
    holds = refl;
    outcome = Plain;
    raised = tt;
    step = step_done (up v) (held v) who call (on_at v) (need_none v) reply (up v) (granted_at v right) replied (calls_go_by_step.tells v (told_reels s.rack) o s.dump who call 0 (still_at v));
    did = did v;
  }

  -- a view whose state gives the reply
  pub record Replies (reply : StoreReply) (u : State) : Type 0 where
    pub view : View
    pub is : IsSeen view
    pub opens : IsOpenView (told_reels s.rack) view o s.dump
    pub told : Told s → up view ≡ u
    pub replied : reply ≡ reply_to (held view).tree who call

  pub done_here : (reply : StoreReply) → ((Told s → Belongs s) → (u : State) → StandsForState s u → Replies reply u) → Answers s who call (Ok reply) then_
  done_here reply replies =
      read_answers s s.rack who call unspent store (nothing_read s.rack) (Ok reply) (λ is. let no : ⊥ = cc in no) (λ is. let no : ⊥ = cc in no) (λ is. absurd (let no : ⊥ = cc in no)) (λ isnt. refl)
      (λ full serial is. absurd (let no : ⊥ = cc in no))
      (λ belongs u here.
      let r = replies belongs u here in
      let stands_now = stands s (up r.view) unspent (record { view = r.view; is = r.is; opens = r.opens; state_is = refl }) in
      record {
        before = up r.view;
        stands = stands_now;
        told = r.told;
        steps = leads_here r.view r.is reply r.replied (stays s s.rack who call unspent store (nothing_read s.rack) (up r.view) stands_now);
      })

  -- for anything that the store's own view says
  pub replies_plainly : (reply : StoreReply) → ((v : View) → IsSeen v → reply ≡ reply_to (held v).tree who call) → (u : State) → StandsForState s u → Replies reply u
  replies_plainly reply replied u here =
      let sn = seen s u unspent here in record { view = sn.view; is = sn.is; opens = sn.opens; told = λ t. sym sn.state_is; replied = replied sn.view sn.is }

  -- with the bytes that were read
  module _ (plan : KeepsPlan s.dump) (text : List ℕ) (long : length text ≡ f.rec.len) (bytes : ForSome f.bytes (λ b. text ≡ b)) where
    held_text : ForSome f.bytes (λ b. b ≡ text)
    held_text b some = sym (bytes b some)

    known_text : Told s → (v : View) → IsSeen v → v.text f.rec.stamp ≡ text
    known_text told v right =
        let (b, some) = has_bytes s unspent store told f wants.there online in
        let has = All-contains (λ (g : File). HasText (Told s) (v.text g.rec.stamp) v.dumps g) o.contents.files f right.files wants.there in
        sym (has.bytes b some) ∙ sym (bytes b some)

    pub replies_bytes : (reply : List ℕ → StoreReply) → ((v : View) → IsSeen v → reply (v.text f.rec.stamp) ≡ reply_to (held v).tree who call) → (Told s → Belongs s)
        → (u : State) → StandsForState s u → Replies (reply text) u
    replies_bytes reply replied belongs u here =
        let m = met s unspent store plan f text wants.there long held_text belongs known_text u here in
        let a = m.asks in
        record { view = a.view; is = a.is; opens = a.opens; told = a.told; replied = ap reply (sym m.text_is) ∙ replied a.view a.is }

  -- A READ OF THE DISC FAILED
  module _ (wants_them : wants_bytes call ≡ true) (filled : 0 < f.rec.len) (n : ℕ) (rose : Rose o.disc.read_faults n) (tied : IsTied (with_faults o n)) where
    abbrev failed : StoreFacts
    failed = with_devices (with_faults o n) s.rack s

    stands_failed : (u : State) → StandsForState s u → StandsForState failed u
    stands_failed u here =
        let sn = seen s u unspent here in
        let t : StoreFacts = record s { online = with_faults o n } in
        let right : Seen t u = record { view = sn.view; is = sn.is; opens = record { is = sn.opens.is }; state_is = sn.state_is } in
        subst (λ (b : Bool). StandsForState (record t { spent = b }) u) (unspent ∙ sym (ap not (store.live unspent))) (stands t u unspent right)

    leads_failed : (u : State) → StandsForState s u → Leads u s failed who call (Err DiscReadFault)
    leads_failed u here =
        let sn = seen s u unspent here in
        let v = sn.view in
        let has = All-contains (λ (g : File). HasText (Told s) (v.text g.rec.stamp) v.dumps g) o.contents.files f sn.is.files wants.there in
        let long = len_in v (told_reels s.rack) o s.dump who call f records wants has.len in
        record {
          after = u;
          left = stands_failed u here;
          held = held v;
          holds = ap (λ (t : State). t.holding) sn.state_is;
          outcome = DiscRead;
          raised = rose;
          step = subst (λ (t : State). CallStep t (held v) who call DiscRead (Err DiscReadFault) t) (sym sn.state_is)
              (step_unread_disc (up v) (held v) who call (granted_at v sn.is) (on_at v) (need_none v) wants_them (omega (arith, filled, long)));
          did = tt;
        }

    belongs_failed : Belongs s → Belongs failed
    belongs_failed was = record {
      devices = was.devices;
      up = λ up_then. let (text, shelf, shelved, is_up) = was.up unspent in (text, shelf, shelved, moved text shelf s (with_faults o n) o.contents refl refl is_up);
    }

    pub failed_here : Answers s who call (Err DiscReadFault) failed
    failed_here = record {
      step = λ belongs u here. record { before = u; stands = here; told = λ t. refl; steps = leads_failed u here };
      cause = record {
        disc = faults_cause o.disc n (λ isnt. absurd (isnt refl)) (λ is. rose) (λ is. let no : ⊥ = cc in no);
        tapes = nothing_read s.rack;
        tape_read = λ is. absurd (let no : ⊥ = cc in no);
        tape_read_only = λ isnt. refl;
        writes = λ fault is isnt. refl;
      };
      keeps = record {
        tied = tied;
        live = λ up_then. store.live unspent;
        open_dump = λ up_then. dump_stays_open s.dump o (with_faults o n) s.rack s.rack refl refl refl refl (store.open_dump unspent);
        pins = λ up_then no_dump. store.pins unspent no_dump;
      };
      told = λ t. t;
      belongs = λ t was. belongs_failed was;
      lost = λ full serial is. absurd (let no : ⊥ = cc in no);
      no_copy = λ t was full serial is. let no : ⊥ = cc in no;
      dump = λ isnt. refl;
      spent = (λ is. absurd (false≢true (sym (ap not (store.live unspent)) ∙ is)), λ is. absurd (let no : ⊥ = cc in no));
      survives = stays_durable (IsAnswered s who call (Err DiscReadFault)) s failed (ap not (store.live unspent)) (λ durable. durable);
    }

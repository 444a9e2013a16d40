-- A store whose devices were only read represents what it represented, and preserves its invariant.
-- serves: AppendLemmas, AppendPartLemmas, AppendedLemmas, HereLemmas
use Rattle.std.proofs.Common.{◌≡◌, ℕ, Bool, true, false, List, Result, Err, refl, sym, ◌∙◌, ap, subst}
use Rattle.std.specs.Prelude.{OnOk, not}
use Rattle.std.proofs.lemmas.Bool.{false≢true}
use Rattle.g_base.specs.Counts.{Rose}
use Rattle.g_disc.specs.Disc.{Causes, DiscState}
use Rattle.g_disc.proofs.CallLemmas.{ReadsByCause-for, stands_later}
use Rattle.g_name.specs.declared.full.Full.{Full}
use Rattle.g_tape.specs.Rack.{Rack}
use Rattle.g_tape.specs.Reel.{Reel}
use Rattle.g_plain.specs.declared.calls.StoreCall.{StoreCall}
use Rattle.g_plain.specs.declared.calls.StoreReply.{StoreReply}
use Rattle.g_plain.specs.declared.faults.StoreFault.{StoreFault}
use Rattle.g_plain.specs.declared.faults.StoreFault.TheVariants.{DiscReadFault, NoCopy, Stopped, TapeReadFault}
use Rattle.g_disc_contents.specs.Facts.{IsTied, OnlineFacts}
use Rattle.g_store_model.specs.State.{State}
use Rattle.g_store_model.specs.CallStep.{CallStep, Outcome}
use Rattle.g_store_meaning.specs.Answers.{Answers, Belongs, Did, IsAnswered, IsLostCopy, IsStore, Leads, Raised, Steps, Told}
use Rattle.g_store_meaning.specs.Meaning.{told_reels}
use Rattle.g_store_meaning.specs.Reading.{IsOpenView, IsView, ReelsTold, StandsForState, View, state_up}
use Rattle.g_store_meaning.specs.StoreInvariant.{IsUp, StoreFacts}
use Rattle.g_store_meaning.proofs.StayLemmas.{dump_stays_open}
use Rattle.g_laws_store.specs.Rooms.{held_in}
use Rattle.g_retrieve.specs.Invariant.{IsOver}
use Rattle.g_retrieve.proofs.KeepsLemmas.{keeps_same}
use Rattle.g_store_calls.specs.Answering.{with_devices}
use Rattle.g_store_calls.specs.Asking.{HasAsked}
use Rattle.g_store_calls.proofs.SeenLemmas.{Seen, seen, stands}
use Rattle.g_store_calls.proofs.SurvivalLemmas.{stays_durable}
use Rattle.g_laws_store.proofs.TiedLemmas.{moved}

module _ (s : StoreFacts) (new : OnlineFacts) (after : Rack) (disc_fault tape_fault : Type 0) (unspent : s.spent ≡ false) (store : IsStore s)
    (asked : HasAsked disc_fault tape_fault s.online new s.rack after) where
  abbrev o : OnlineFacts
  o = s.online

  -- the disc but for its count of failed reads
  disc_is : new.disc ≡ record o.disc { read_faults = new.disc.read_faults }
  disc_is = λ i.
      let d : DiscState = record {
        held = asked.disc.held i;
        size = asked.disc.size i;
        read_faults = new.disc.read_faults;
        write_faults = asked.disc.write_faults i;
        writes = asked.disc.writes i;
        fuse = asked.disc.fuse i;
        arms = asked.disc.arms i;
        volatile = asked.disc.volatile i;
        dropped = asked.disc.dropped i;
      } in d

  abbrev pub read_online : OnlineFacts
  read_online = record o { disc = record o.disc { read_faults = new.disc.read_faults } }

  pub online_is : new ≡ read_online
  online_is = asked.same ∙ ap (λ (d : DiscState). let x : OnlineFacts = record o { disc = d } in x) disc_is

  pub live_then : new.live ≡ true
  live_then = ap (λ (x : OnlineFacts). x.live) online_is ∙ store.live unspent

  -- the store after the reads
  abbrev pub read_store : StoreFacts
  read_store = record s { online = read_online; rack = after; spent = false }

  pub devices_are : with_devices new after s ≡ read_store
  devices_are = λ i. let t : StoreFacts = record s { online = online_is i; rack = after; spent = ap not live_then i } in t

  pub stands_read : (u : State) → StandsForState s u → StandsForState read_store u
  stands_read u here =
      let sn = seen s u unspent here in
      let right : Seen read_store u = record {
        view = sn.view;
        is = subst (λ (rs : List Reel). IsView o.disc.held rs o.contents sn.view) (sym asked.only.reels) sn.is;
        opens = subst (λ (rs : List Reel). IsOpenView rs sn.view read_online s.dump) (sym asked.only.reels) (record { is = sn.opens.is });
        state_is = sn.state_is ∙ ap (λ (rs : List Reel). state_up sn.view rs read_online s.dump) (sym asked.only.reels);
      } in
      stands read_store u refl right

  over : IsOver o s.rack s
  over = record { online_is = refl; rack_is = refl; unspent = unspent }

  pub store_read : IsStore read_store
  store_read =
      let was = (keeps_same o s.rack after (store.live unspent) asked.only).store s over store in
      record {
        tied = subst IsTied online_is asked.tied;
        live = λ up. store.live unspent;
        open_dump = λ up. dump_stays_open s.dump o read_online after after refl refl refl refl (was.open_dump (ap not (store.live unspent)));
        pins = λ up none. store.pins unspent none;
      }

  pub told_read : Told s → Told read_store
  told_read told = record { disc = told.disc; each = subst ReelsTold (sym asked.only.reels) told.each }

  pub belongs_read : Told s → Belongs s → Belongs read_store
  belongs_read told was =
      let then_ = (keeps_same o s.rack after (store.live unspent) asked.only).belongs s over store told was in
      record {
        devices = then_.devices;
        up = λ up.
            let (text, shelf, shelved, is_up) = then_.up (ap not (store.live unspent)) in (
              text,
              shelf,
              shelved,
              subst (λ (b : Bool). IsUp text shelf (record s { online = read_online; rack = after; spent = b })) (ap not (store.live unspent))
                  (moved text shelf (with_devices o after s) read_online o.contents refl refl is_up),
            );
      }

  -- the step after the reads, at a view of the store
  pub leads_read : (who : List ℕ) (call : StoreCall) (answer : Result StoreReply StoreFault) (outcome : Outcome) → Raised outcome s read_store → (u : State) → StandsForState s u
      → ((v : View) → IsView o.disc.held (told_reels s.rack) o.contents v → (let up : State = state_up v (told_reels s.rack) o s.dump in CallStep up (held_in v o) who call outcome answer up))
      → ((v : View) → IsView o.disc.held (told_reels s.rack) o.contents v → (let up : State = state_up v (told_reels s.rack) o s.dump in OnOk answer (Did up (held_in v o) who call s read_store)))
      → Leads u s read_store who call answer
  leads_read who call answer outcome raised u here step did =
      let is = seen s u unspent here in record {
        after = u;
        left = stands_read u here;
        held = held_in is.view o;
        holds = ap (λ (t : State). t.holding) is.state_is;
        outcome = outcome;
        raised = raised;
        step = subst (λ (t : State). CallStep t (held_in is.view o) who call outcome answer t) (sym is.state_is) (step is.view is.is);
        did = subst (λ (t : State). OnOk answer (Did t (held_in is.view o) who call s read_store)) (sym is.state_is) (did is.view is.is);
      }

-- the same reads, for whom they failed
pub asked_for : {P Q R S : Type 0} {old new : OnlineFacts} {before after : Rack} → (P → R) → (R → P) → (Q → S) → (S → Q) → HasAsked P Q old new before after → HasAsked R S old new before after
asked_for there back there' back' asked = record {
  disc = ReadsByCause-for there back asked.disc;
  same = asked.same;
  tied = asked.tied;
  only = asked.only;
  kept = λ no. asked.kept (λ q. no (there' q));
  rose = λ s. asked.rose (back' s);
}

-- only the count of failed reads changes
pub faults_cause : {P Q : Type 0} (x : DiscState) (n : ℕ) → ((P → ⊥) → n ≡ x.read_faults) → (P → Rose x.read_faults n) → (Q → ⊥) → Causes P Q x (record x { read_faults = n })
faults_cause x n kept rose never = record {
  size = refl;
  arms = refl;
  later = stands_later refl;
  reads_kept = kept;
  reads_rose = rose;
  writes_kept = λ no. refl;
  writes_rose = λ is. absurd (never is);
}

-- HOW IT IS ANSWERED where the devices were read and nothing was written
pub quietly : (s : StoreFacts) (new : OnlineFacts) (after : Rack) (who : List ℕ) (call : StoreCall) (answer : Result StoreReply StoreFault) (unspent : s.spent ≡ false) (store : IsStore s)
    (asked : HasAsked (answer ≡ Err DiscReadFault) (answer ≡ Err TapeReadFault) s.online new s.rack after) → (answer ≡ Err Stopped → ⊥)
    → ((u : State) → StandsForState s u → Steps u s who call answer (read_store s new after (answer ≡ Err DiscReadFault) (answer ≡ Err TapeReadFault) unspent store asked))
    → ((full : Full) (serial : ℕ) → answer ≡ Err (NoCopy full serial) → IsLostCopy s full serial)
    → (Told s → Belongs s → (full : Full) (serial : ℕ) → answer ≡ Err (NoCopy full serial) → ⊥)
    → Answers s who call answer (with_devices new after s)
quietly s new after who call answer unspent store asked going steps lost never =
    let d : Type 0 = answer ≡ Err DiscReadFault in
    let t : Type 0 = answer ≡ Err TapeReadFault in
    subst (λ (x : StoreFacts). Answers s who call answer x) (sym (devices_are s new after d t unspent store asked))
    (record {
      step = λ belong u here. record { before = u; stands = here; told = λ is. refl; steps = steps u here };
      cause = record {
        disc = faults_cause s.online.disc new.disc.read_faults asked.disc.kept asked.disc.rose going;
        tapes = asked.only;
        tape_read = asked.rose;
        tape_read_only = asked.kept;
        writes = λ fault is isnt. refl;
      };
      keeps = store_read s new after d t unspent store asked;
      told = told_read s new after d t unspent store asked;
      belongs = belongs_read s new after d t unspent store asked;
      lost = lost;
      no_copy = never;
      dump = λ isnt. refl;
      spent = (λ is. absurd (false≢true is), λ is. absurd (going is));
      survives = stays_durable (IsAnswered s who call answer) s (read_store s new after d t unspent store asked) refl (λ durable. durable);
    })

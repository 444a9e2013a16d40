-- RESTORE, as the filestore answered.
-- serves: restore (ok, refused), StartedLemmas
use Rattle.std.proofs.Common.{◌≡◌, ◌≢◌, ℕ, ◌≤◌, true, false, List, [], ◌∷◌, Option, Some, None, Result, Ok, Err, is_some, refl, sym, ◌∙◌, ap, subst, inl, inr}
use Rattle.std.specs.Prelude.{◌⊎◌, ◌↔◌, All, Contains, IfSome, MatchOption, not}
use Rattle.std.specs.Option.{ForSome}
use Rattle.std.specs.List.{list_all}
use Rattle.g_base.specs.Counts.{Rose}
use Rattle.g_base.specs.ToldContent.{Changes}
use Rattle.g_disc.specs.Disc.{Causes, DiscState, StayDurable}
use Rattle.g_disc.specs.Durable.{MayLeave, PowerLossLeaves}
use Rattle.g_tape.specs.Rack.{Rack}
use Rattle.g_tape.specs.Reads.{OnlyReads}
use Rattle.g_tape.specs.Reel.{Reel}
use Rattle.g_plain.specs.PlainStep.{first_fault}
use Rattle.g_plain.specs.declared.faults.StoreFault.{StoreFault}
use Rattle.g_plain.specs.declared.faults.StoreFault.TheVariants.{DiscReadFault, LostCopy, LostDirectory, NoDump, NoMemory, RackNotMounted, Stopped, TapeReadFault}
use Rattle.g_dirs.specs.Durable.{IsDiscSafe}
use Rattle.g_disc_contents.specs.Contents.{Contents, Holds}
use Rattle.g_disc_contents.specs.Facts.{IsTied, OnlineFacts, Pin}
use Rattle.g_incr.specs.Layout.{Dump}
use Rattle.g_incr.specs.Plan.{dump_of}
use Rattle.g_shelf.specs.CompletedDumps.{AreShelved, all_dumps}
use Rattle.g_shelf.specs.LastDump.{first_unmounted}
use Rattle.g_online.specs.Beginning.{AsBeforeOr, HasMade, HoldsAsBefore}
use Rattle.g_store_model.specs.State as state
use Rattle.g_store_model.specs.CallStep.{Cut, DiscRead, Outcome, Plain, TapeRead, down}
use Rattle.g_store_model.specs.Rising as rising
use Rattle.g_store_meaning.specs.Answers.{Belongs}
use Rattle.g_store_meaning.specs.Belonging.{Belong, BelongWith, DiscBelongs, RackBelongs}
use Rattle.g_store_meaning.specs.Meaning.{told_reels}
use Rattle.g_store_meaning.specs.Reading.{AllTold, DevicesStandFor, HasText, ReelsTold, dumped_of, holding_of, state_down}
use Rattle.g_store_meaning.specs.StoreInvariant.{IsReady, KeepsDirectories, StoreFacts, content_in}
use Rattle.g_store_meaning.specs.Surviving.{disc_left}
use Rattle.g_store_meaning.proofs.ViewLemmas.{reads_keep_state}
use Rattle.g_restore.specs.Losses.{LostIsNamed}
use Rattle.g_restore.specs.Reels.{AreOnReels}
use Rattle.g_restore.specs.Restoration.{IsOfDisc, IsOfReels, IsRestored, KeepsBelonging, NothingIsLost}
use Rattle.g_restore.proofs.BelongLemmas.{belongs_stopped}
use Rattle.g_restore.proofs.ReelLemmas.{all_of_reels}
use Rattle.g_store_calls.proofs.BehindLemmas.{told_then as told_back}
use Rattle.g_store.specs.Making.{LeadsDown, LeavesDevices, RefusesRestore, Restored, StepsDown}
use Rattle.g_store.proofs.MakeLemmas.{Stood, before_stands, changes_left, down_again, moved, new_down, new_stands, stood, store_made, store_of, told_then, unkept}
use Rattle.g_store.proofs.RestoreLemmas.{RestoredAt, all_none, by_dumped, early, first_down, held_is, is_there, restored_at, right, stands_there, steps, belongs as belongs_before, texts_are, there, v}

module _ (disc : DiscState) (rack after : Rack) (only : OnlyReads rack after) where
  abbrev reels : List Reel
  reels = told_reels rack

  abbrev now_reels : List Reel
  now_reels = told_reels after

  on_reels : (P : List Reel → Type 0) → P reels → P now_reels
  on_reels P is = subst P (sym only.reels) is

  -- what belongs together still does after reads
  read_up : (s : StoreFacts) → s.rack ≡ rack → Belongs s → Belongs (record s { rack = after })
  read_up s at was = record {
    devices = subst (λ (k : Rack). Belong s.online.disc.held k → Belong s.online.disc.held after) (sym at) (λ is. on_reels (BelongWith s.online.disc.held) is) was.devices;
    up = λ unspent.
        let (text, shelf, shelved, up) = was.up unspent in
        let same : told_reels s.rack ≡ now_reels = ap told_reels at ∙ sym only.reels in (
          text,
          shelf,
          subst (AreShelved shelf) same shelved,
          record {
            rack = subst (λ (rs : List Reel). RackBelongs text (all_dumps shelf rs)) same up.rack;
            disc = subst (λ (rs : List Reel). DiscBelongs text shelf rs s.online.contents) same up.disc;
            quiet = subst (λ (rs : List Reel). (d : Dump) → Contains (all_dumps shelf rs) d → d.number ≤ s.online.contents.head.last_dump) same up.quiet;
            directories = subst (λ (rs : List Reel). KeepsDirectories s.online.changed s.online.contents (all_dumps shelf rs)) same up.directories;
            open_dump = subst
                (λ (rs : List Reel).
                IfSome s.dump (λ d. (pins : List Pin) → s.online.pins ≡ Some pins → ForSome (content_in pins) (λ content. IsReady text shelf rs s.online (dump_of d.plan content)))) same up.open_dump;
          },
        );
  }

  -- MADE
  module _ (number : ℕ) (made : Contents) (o : OnlineFacts) (is : IsRestored reels disc.held number made) (has : HasMade made disc o) (tied : IsTied o)
      (kept : after.read_faults ≡ rack.read_faults) (mounted : first_unmounted rack.reels ≡ None) (named : LostIsNamed reels (Ok number)) where
    at_of : (told : AllTold disc.held reels) (belong : Belong disc.held rack) → RestoredAt (all_dumps belong.shelf reels) disc.held number made
    at_of told belong = restored_at reels disc.held number made belong.shelf told.each belong.shelved is

    pub restored_is : Restored disc rack number (store_of o after)
    restored_is = record {
      makes = record {
        running = refl;
        no_dump = refl;
        untouched = has.begun.touched;
        unkept = unkept o has.begun;
        keeps = store_made o has.begun after tied;
        causes = has.causes;
        tapes = only;
        tape_read = kept;
        wrote = has.wrote;
        told = λ told. on_reels (AllTold o.disc.held) (told_back o.disc.held disc.held reels (sym has.told) told);
        step = λ told belong s devices.
            let (u, up, step) = steps disc rack told belong number made (at_of told belong) mounted o has tied s devices in
            (u, reads_keep_state (store_of o rack) after u only up, step);
        belongs = λ told belong. read_up (store_of o rack) refl (belongs_before disc rack told belong number made (at_of told belong) mounted o has tied);
      };
      durable = has.durable;
      mounted = mounted;
      lost = named;
      holds = subst (IsRestored reels disc.held number) (sym has.contents) is;
    }

  -- REFUSED
  module _ (now : DiscState) (size : now.size ≡ disc.size) where
    stays : now.held ≡ disc.held → (s : state.State) → DevicesStandFor disc.size disc.held reels s → DevicesStandFor now.size now.held now_reels s
    stays held s devices = on_reels (λ rs. DevicesStandFor now.size now.held rs s) (moved disc.size now.size disc.held now.held reels s size held devices)

    abbrev Down : StoreFault → state.State → Type 0
    Down fault s = LeadsDown rising.RestoreStep s disc rack fault now after

    first_is : (s : state.State) → DevicesStandFor disc.size disc.held reels s → state.first_reel (λ r. not r.mounted) s.reels ≡ first_unmounted rack.reels
    first_is s devices = ap (λ (t : state.State). state.first_reel (λ r. not r.mounted) t.reels) devices.state_is ∙ first_down devices.view.shelf rack.reels

    at_once : (fault : StoreFault) (out : Outcome) (s : state.State) → rising.restore_early s out ≡ Some fault → rising.RestoreStep s out (Err fault) s
    at_once fault out s is =
        subst (λ (r : Option StoreFault). MatchOption r (rising.Restores s s.dumped out (Err fault) s) (λ f. (let a : Result ℕ StoreFault = Err fault in a ≡ Err f) × (s ≡ s))) (sym is) (refl, refl)

    unmounted_down : (n : ℕ) → now.held ≡ disc.held → first_unmounted rack.reels ≡ Some n → (s : state.State) → DevicesStandFor disc.size disc.held reels s → Down (RackNotMounted n) s
    unmounted_down n held first s devices = record {
      after = s;
      left = stays held s devices;
      outcome = Plain;
      raised = tt;
      step = at_once (RackNotMounted n) Plain s
          (ap (λ (o : Option ℕ). first_fault (rising.fault_from RackNotMounted o ∷ (false, TapeReadFault) ∷ (list_all rising.has_none s.reels, NoDump) ∷ [])) (first_is s devices ∙ first));
    }

    unread_down : now.held ≡ disc.held → Rose rack.read_faults after.read_faults → first_unmounted rack.reels ≡ None → (s : state.State) → DevicesStandFor disc.size disc.held reels s → Down TapeReadFault s
    unread_down held rose first s devices = record {
      after = s;
      left = stays held s devices;
      outcome = TapeRead;
      raised = rose;
      step = at_once TapeReadFault TapeRead s
          (ap (λ (o : Option ℕ). first_fault (rising.fault_from RackNotMounted o ∷ (true, TapeReadFault) ∷ (list_all rising.has_none s.reels, NoDump) ∷ [])) (first_is s devices ∙ first));
    }

    none_down : now.held ≡ disc.held → AreOnReels reels [] → AllTold disc.held reels → first_unmounted rack.reels ≡ None → (s : state.State) → DevicesStandFor disc.size disc.held reels s → Down NoDump s
    none_down held on told first s devices =
        let nothing : all_dumps devices.view.shelf reels ≡ [] = sym (all_of_reels reels [] devices.view.shelf told.each devices.rack.shelved on) in
        let rows : list_all rising.has_none s.reels ≡ true = ap (λ (t : state.State). list_all rising.has_none t.reels) devices.state_is ∙ all_none devices.view.shelf reels nothing in
        record {
          after = s;
          left = stays held s devices;
          outcome = Plain;
          raised = tt;
          step = at_once NoDump Plain s
              (λ i. first_fault (rising.fault_from RackNotMounted ((first_is s devices ∙ first) i) ∷ (false, TapeReadFault) ∷ (rows i, NoDump) ∷ []));
        }

    -- if there is a tree
    module _ (number : ℕ) (made : Contents) (is : IsRestored reels disc.held number made) (mounted : first_unmounted rack.reels ≡ None) (told : AllTold disc.held reels) (belong : Belong disc.held rack) where
      at : RestoredAt (all_dumps belong.shelf reels) disc.held number made
      at = restored_at reels disc.held number made belong.shelf told.each belong.shelved is

      gate_down : now.held ≡ disc.held → Rose disc.read_faults now.read_faults → (s : state.State) → DevicesStandFor disc.size disc.held reels s → Down DiscReadFault s
      gate_down held rose s devices = record {
        after = s;
        left = stays held s devices;
        outcome = DiscRead;
        raised = rose;
        step = subst (λ (x : state.State). rising.RestoreStep x DiscRead (Err DiscReadFault) x) (sym (is_there disc rack told belong number made at s devices))
            (by_dumped disc rack told belong number made at mounted devices.contents DiscRead (early disc rack told belong number made at mounted devices.contents false) (Err DiscReadFault)
            (there disc rack told belong number made at devices.contents) (refl, refl));
      }

      module _ (changes : Changes (AsBeforeOr made) disc.held now.held) (rose : Rose disc.write_faults now.write_faults) (s : state.State) (devices : DevicesStandFor disc.size disc.held reels s) where
        abbrev here : state.State
        here = there disc rack told belong number made at devices.contents

        leads_to : (end : state.State) → DevicesStandFor now.size now.held reels end
            → (end ≡ down here) ⊎ (end ≡ down (rising.coming_up here (rising.restored (dumped_of belong.text at.directory)))) → Down Stopped s
        leads_to end left which = record {
          after = end;
          left = on_reels (λ rs. DevicesStandFor now.size now.held rs end) left;
          outcome = Cut;
          raised = rose;
          step = subst (λ (x : state.State). rising.RestoreStep x Cut (Err Stopped) end) (sym (is_there disc rack told belong number made at s devices))
              (by_dumped disc rack told belong number made at mounted devices.contents Cut (early disc rack told belong number made at mounted devices.contents false) (Err Stopped) end (refl, which));
        }

        stop_down : Stood disc now reels made changes size → Down Stopped s
        stop_down stood_at = by_one stood_at.one
          where
            by_one : HoldsAsBefore stood_at.before stood_at.after ⊎ Holds stood_at.after made → Down Stopped s
            by_one (inl same) =
                let standing = stands_there disc rack told belong number made at s devices in
                leads_to here (before_stands disc now reels made changes size stood_at same here standing) (inl (down_again disc.size disc.held reels here standing))
            by_one (inr holds) =
                leads_to (state_down (v disc rack told belong number made at) reels now.size (Some made))
                (new_stands disc now reels made changes size stood_at holds (v disc rack told belong number made at) (right disc rack told belong number made at)
                (subst (λ (x : Contents). All (λ f. HasText (AllTold now.held reels) (belong.text f.rec.stamp) (all_dumps belong.shelf reels) f) x.files) (sym at.made_is)
                (texts_are (all_dumps belong.shelf reels) disc.held at.directory belong.text (AllTold now.held reels) (belong.rack.records at.directory))))
                (inr (new_down disc now reels made changes size (v disc rack told belong number made at) devices.contents (rising.restored (dumped_of belong.text at.directory))
                (ap (λ (x : Contents). holding_of belong.text [] x) at.made_is ∙ held_is (all_dumps belong.shelf reels) disc.held at.directory belong.text)))

        pub stopped_down : Down Stopped s
        stopped_down = stop_down (stood disc now reels made changes size told)

-- ALL REFUSALS
pub record HasRefused (disc : DiscState) (rack after : Rack) (fault : StoreFault) (now : DiscState) : Type 0 where
  pub stopped : fault ≡ Stopped → (number : ℕ) × (contents : Contents) × IsRestored (told_reels rack) disc.held number contents × Changes (AsBeforeOr contents) disc.held now.held
      × (IsDiscSafe disc → PowerLossLeaves (AsBeforeOr contents) disc now)
  pub safe : IsDiscSafe disc → IsDiscSafe now
  pub durable : fault ≢ Stopped → StayDurable disc now
  pub unread : fault ≡ DiscReadFault → (number : ℕ) × (contents : Contents) × IsRestored (told_reels rack) disc.held number contents
  pub unmounted : (serial : ℕ) → (fault ≡ RackNotMounted serial) ↔ (first_unmounted rack.reels ≡ Some serial)
  pub none : fault ≡ NoDump → AreOnReels (told_reels rack) []
  pub lost : (let answer : Result ℕ StoreFault = Err fault in LostIsNamed (told_reels rack) answer)
  pub reads : OnlyReads rack after
  pub kept : (fault ≡ TapeReadFault → ⊥) → after.read_faults ≡ rack.read_faults
  pub rose : fault ≡ TapeReadFault → Rose rack.read_faults after.read_faults
  pub same : fault ≢ Stopped → (now.held ≡ disc.held) × (now.writes ≡ disc.writes)
  pub causes : Causes (fault ≡ DiscReadFault) (fault ≡ Stopped) disc now
  pub only : IsOfReels fault ⊎ IsOfDisc fault
  pub belongs : KeepsBelonging disc.held rack now.held after
  pub found : ReelsTold (told_reels rack) → Belong disc.held rack → (let answer : Result ℕ StoreFault = Err fault in NothingIsLost answer)

-- where another refusal came, every reel is mounted
all_mounted : (fault : StoreFault) (first : Option ℕ) → ((n : ℕ) → fault ≢ RackNotMounted n) → ((serial : ℕ) → (fault ≡ RackNotMounted serial) ↔ (first ≡ Some serial)) → first ≡ None
all_mounted fault None other is = refl
all_mounted fault (Some n) other is = absurd (other n ((is n).1 refl))

module _ (disc : DiscState) (rack after : Rack) where
  steps_down : (fault : StoreFault) (now : DiscState) → HasRefused disc rack after fault now → IsOfReels fault ⊎ IsOfDisc fault → AllTold disc.held (told_reels rack) → Belong disc.held rack
      → (s : state.State) → DevicesStandFor disc.size disc.held (told_reels rack) s → StepsDown rising.RestoreStep s disc rack fault now after
  steps_down (RackNotMounted n) now said of told belong s devices =
      unmounted_down disc rack after said.reads now said.causes.size n (said.same (λ e. let no : ⊥ = cc in no)).0 ((said.unmounted n).0 refl) s devices
  steps_down TapeReadFault now said of told belong s devices =
      unread_down disc rack after said.reads now said.causes.size (said.same (λ e. let no : ⊥ = cc in no)).0 (said.rose refl)
      (all_mounted TapeReadFault (first_unmounted rack.reels) (λ n e. let no : ⊥ = cc in no) said.unmounted) s devices
  steps_down NoDump now said of told belong s devices =
      none_down disc rack after said.reads now said.causes.size (said.same (λ e. let no : ⊥ = cc in no)).0 (said.none refl) told
      (all_mounted NoDump (first_unmounted rack.reels) (λ n e. let no : ⊥ = cc in no) said.unmounted) s devices
  steps_down (LostDirectory user) now said of told belong s devices = absurd (said.found told.each belong)
  steps_down (LostCopy full serial) now said of told belong s devices = absurd (said.found told.each belong)
  steps_down NoMemory now said of told belong s devices = stays disc rack after said.reads now said.causes.size (said.same (λ e. let no : ⊥ = cc in no)).0 s devices
  steps_down DiscReadFault now said of told belong s devices =
      let (number, made, is) = said.unread refl in
      gate_down disc rack after said.reads now said.causes.size number made is (all_mounted DiscReadFault (first_unmounted rack.reels) (λ n e. let no : ⊥ = cc in no) said.unmounted) told belong
      (said.same (λ e. let no : ⊥ = cc in no)).0 (said.causes.reads_rose refl) s devices
  steps_down Stopped now said of told belong s devices =
      let (number, made, is, changes, survives) = said.stopped refl in
      stopped_down disc rack after said.reads now said.causes.size number made is (all_mounted Stopped (first_unmounted rack.reels) (λ n e. let no : ⊥ = cc in no) said.unmounted) told belong
      changes (said.causes.writes_rose refl) s devices
  steps_down fault now said (inl never) told belong s devices = absurd never
  steps_down fault now said (inr never) told belong s devices = absurd never

  tells_same : (now : DiscState) → OnlyReads rack after → now.held ≡ disc.held → AllTold disc.held (told_reels rack) → AllTold now.held (told_reels after)
  tells_same now only held told = on_reels disc rack after only (AllTold now.held) (record { disc = ap is_some held ∙ told.disc; each = told.each })

  quiet : (fault : StoreFault) (now : DiscState) → HasRefused disc rack after fault now → fault ≢ Stopped → AllTold disc.held (told_reels rack) → AllTold now.held (told_reels after)
  quiet fault now said other told = tells_same now said.reads (said.same other).0 told

  tells : (fault : StoreFault) (now : DiscState) → HasRefused disc rack after fault now → IsOfReels fault ⊎ IsOfDisc fault → AllTold disc.held (told_reels rack) → AllTold now.held (told_reels after)
  tells Stopped now said of told =
      let (number, made, is, changes, survives) = said.stopped refl in on_reels disc rack after said.reads (AllTold now.held) (told_then disc now (told_reels rack) made changes said.causes.size told)
  tells (RackNotMounted n) now said of told = quiet (RackNotMounted n) now said (λ e. let no : ⊥ = cc in no) told
  tells TapeReadFault now said of told = quiet TapeReadFault now said (λ e. let no : ⊥ = cc in no) told
  tells NoDump now said of told = quiet NoDump now said (λ e. let no : ⊥ = cc in no) told
  tells (LostDirectory user) now said of told = quiet (LostDirectory user) now said (λ e. let no : ⊥ = cc in no) told
  tells (LostCopy full serial) now said of told = quiet (LostCopy full serial) now said (λ e. let no : ⊥ = cc in no) told
  tells NoMemory now said of told = quiet NoMemory now said (λ e. let no : ⊥ = cc in no) told
  tells DiscReadFault now said of told = quiet DiscReadFault now said (λ e. let no : ⊥ = cc in no) told
  tells fault now said (inl never) told = absurd never
  tells fault now said (inr never) told = absurd never

  -- whatever a power loss leaves after a failed write
  left_by : (now : DiscState) → HasRefused disc rack after Stopped now → (blocks left : List (List ℕ)) → disc.held ≡ Some blocks → IsDiscSafe disc → MayLeave now left
      → LeavesDevices (Belong disc.held rack) rising.RestoreStep disc rack Stopped (disc_left left now) after
  left_by now said blocks left was is_safe may =
      let (number, made, is, changes, survives) = said.stopped refl in
      let changes_to = changes_left (AsBeforeOr made) disc blocks left was (survives is_safe blocks was left may) in record {
        step = λ told belong s devices.
            stopped_down disc rack after said.reads (disc_left left now) said.causes.size number made is
            (all_mounted Stopped (first_unmounted rack.reels) (λ n e. let no : ⊥ = cc in no) said.unmounted) told belong changes_to (said.causes.writes_rose refl) s devices;
        belongs = λ told was. belongs_stopped disc.held (Some left) rack after number made said.reads is changes_to told.each was;
      }

  survives_by : (fault : StoreFault) (now : DiscState) → HasRefused disc rack after fault now → fault ≡ Stopped → IsDiscSafe disc
      → PowerLossLeaves (λ _ left. LeavesDevices (Belong disc.held rack) rising.RestoreStep disc rack fault (disc_left left now) after) disc now
  survives_by fault now said is =
      subst
      (λ (f : StoreFault). HasRefused disc rack after f now → IsDiscSafe disc
      → PowerLossLeaves (λ _ left. LeavesDevices (Belong disc.held rack) rising.RestoreStep disc rack f (disc_left left now) after) disc now) (sym is)
      (λ stop is_safe blocks was left may. left_by now stop blocks left was is_safe may) said

  pub restore_refused : (fault : StoreFault) (now : DiscState) → HasRefused disc rack after fault now → RefusesRestore disc rack fault now after
  restore_refused fault now said = record {
    refuses = record {
      causes = said.causes;
      tapes = said.reads;
      tape_read = said.rose;
      tape_read_only = said.kept;
      held = λ other. (said.same other).0;
      writes = λ other. (said.same other).1;
      durable = said.durable;
      told = tells fault now said said.only;
      step = λ told belong s devices. steps_down fault now said said.only told belong s devices;
      belongs = λ told was. said.belongs told.each was;
      survives = survives_by fault now said;
    };
    safe = said.safe;
    unmounted = said.unmounted;
    lost = said.lost;
    none = said.none;
    found = said.found;
    unread = said.unread;
    stopped = said.stopped;
    only = said.only;
  }

-- a restore that is answered has every reel mounted
pub none_unmounted : {A : Type 0} (reply : A) (first : Option ℕ) → ((serial : ℕ) → (let answer : Result A StoreFault = Ok reply in answer ≡ Err (RackNotMounted serial)) ↔ (first ≡ Some serial)) → first ≡ None
none_unmounted reply None is = refl
none_unmounted reply (Some n) is = let e = (is n).1 refl in (let no : ⊥ = cc in absurd no)

pub same_refusal : {A : Type 0} (a b : StoreFault) → (let x : Result A StoreFault = Err a in x ≡ Err b) → a ≡ b
same_refusal a b is = cc

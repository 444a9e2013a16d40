-- FORMAT: the store that it creates, and what a refusal leaves.
-- serves: format (ok, refused)
use Rattle.std.proofs.Common.{◌≡◌, ◌≢◌, ℕ, Bool, true, false, List, [], ◌∷◌, Option, Some, None, Ok, Err, is_some, refl, sym, ◌∙◌, ap, arith, subst, inl, inr}
use Rattle.std.specs.Prelude.{◌⊎◌, All, Contains, map}
use Rattle.std.proofs.lemmas.List.Elements.{All-nil}
use Rattle.std.proofs.lemmas.Option.{none-some, same_Some}
use Rattle.g_base.specs.ToldContent.{Changes}
use Rattle.g_disc.specs.Disc.{Causes, DiscState, StayDurable}
use Rattle.g_disc.specs.Durable.{PowerLossLeaves}
use Rattle.g_disc.proofs.CallLemmas.{Causes-for, Causes-none}
use Rattle.g_entry.specs.declared.file_rec.FileRec.{FileRec}
use Rattle.g_entry.specs.declared.head.Head.{Head}
use Rattle.g_entry.specs.declared.user_rec.UserRec.{UserRec}
use Rattle.g_tape.specs.Rack.{AreReels, Rack}
use Rattle.g_tape.specs.Reel.{Reel}
use Rattle.g_tape.proofs.ReadLemmas.{nothing_read}
use Rattle.g_plain.specs.PlainTree.{formatted}
use Rattle.g_plain.specs.PlainStep.{first_fault}
use Rattle.g_plain.specs.declared.faults.StoreFault.{StoreFault}
use Rattle.g_plain.specs.declared.faults.StoreFault.TheVariants.{DiscReadFault, NoMemory, RackNotEmpty, Stopped, TapeReadFault}
use Rattle.g_tree.specs.Records.{tree_of}
use Rattle.g_dirs.specs.Durable.{IsDiscSafe}
use Rattle.g_disc_contents.specs.Contents.{Contents, File, Holds, recs_in}
use Rattle.g_disc_contents.specs.Facts.{IsTied, OnlineFacts}
use Rattle.g_incr.specs.Layout.{Dump}
use Rattle.g_shelf.specs.CompletedDumps.{AreShelved, all_dumps}
use Rattle.g_online.specs.Faults.{store_fault_of}
use Rattle.g_online.specs.declared.fault.OnlineFault.{OnlineFault}
use Rattle.g_online.specs.declared.fault.OnlineFault.TheVariants as online
use Rattle.g_online.specs.Beginning.{AsBeforeOr, HasMade, HoldsAsBefore, first_contents, first_file}
use Rattle.g_store_model.specs.State as state
use Rattle.g_store_model.specs.CallStep.{Cut, DiscRead, Plain, down}
use Rattle.g_store_model.specs.DumpSteps.{Event}
use Rattle.g_store_model.specs.Rising.{FormatStep, coming_up, fault_from}
use Rattle.g_store_meaning.specs.Belonging.{Belong, BelongWith, DiscBelongs}
use Rattle.g_store_meaning.specs.Meaning.{told_reels}
use Rattle.g_store_meaning.specs.Reading.{AllTold, DevicesStandFor, HasText, IsView, StandsForState, View, holding_of, names_of, places_of, state_down, state_up, tree_by}
use Rattle.g_store_meaning.specs.Surviving.{disc_left}
use Rattle.g_store_meaning.proofs.ChangeLemmas.{format_belongs}
use Rattle.g_store_calls.proofs.BehindLemmas.{rack_seen, told_then as told_back}
use Rattle.g_store.specs.Making.{Formats, IsNew, LeadsDown, LeavesDevices, Refuses, RefusesFormat, StepsDown, new_holding}
use Rattle.g_store.specs.Refusing.{first_used}
use Rattle.g_store.proofs.EmptyLemmas.{all_blank, blank_shelf, first_row, no_dump_at_all}
use Rattle.g_store.proofs.MakeLemmas.{Stood, before_belongs, before_stands, belongs_made, causes_left, changes_left, down_again, moved, new_belongs, new_down, new_stands, stands_up, stood, store_made, store_of, told_then, unkept, up_is}

abbrev pub first_head : Head
first_head = record { next_stamp = 1; last_dump = 0; intent = None }

module _ (disc : DiscState) (users : List UserRec) (files : List FileRec) (none : files ≡ []) (whole : (bytes : FileRec → List ℕ) → tree_of users files bytes 1 ≡ formatted) where
  abbrev pub c : Contents
  c = first_contents (is_some disc.held) first_head users files

  files_none : c.files ≡ []
  files_none = ap (λ (rs : List FileRec). map (first_file (is_some disc.held)) rs) none

  recs_none : recs_in c ≡ files
  recs_none = ap (λ (fs : List File). map (λ (f : File). f.rec) fs) files_none ∙ sym none

  c_is : c ≡ record { head = first_head; users = users; files = [] }
  c_is = ap (λ (fs : List File). let x : Contents = record { head = first_head; users = users; files = fs } in x) files_none

  held_is : IsNew c
  held_is text =
      λ i.
      let h : state.Holding = record {
        tree = (ap (λ (rs : List FileRec). tree_by text users rs 1) recs_none ∙ whole (λ (r : FileRec). text r.stamp)) i;
        places = places_of (files_none i);
        last = 0;
        intent = None;
        kept = names_of [];
      } in h

  no_files : (P : File → Type 0) (x : Contents) → x ≡ c → All P x.files
  no_files P x is = subst (All P) (sym (ap (λ (y : Contents). y.files) is ∙ files_none)) (All-nil P)

  module _ (rack : Rack) (are : AreReels rack.reels) (empty : first_used rack.reels ≡ None) where
    abbrev reels : List Reel
    reels = told_reels rack

    free : (v : View) (was : Option Contents) (size : ℕ) (a b : Bool)
        → first_fault (fault_from RackNotEmpty (state.first_reel (λ r. r.used) (state_down v reels size was).reels) ∷ (a, DiscReadFault) ∷ (b, Stopped) ∷ []) ≡ first_fault ((a, DiscReadFault) ∷ (b, Stopped) ∷ [])
    free v was size a b =
        ap (λ (o : Option ℕ). first_fault (fault_from RackNotEmpty o ∷ (a, DiscReadFault) ∷ (b, Stopped) ∷ [])) (first_row v.shelf rack.reels ∙ empty)

    no_dumps : (shelf : ℕ → List Dump) → AllTold disc.held reels → AreShelved shelf reels → all_dumps shelf reels ≡ []
    no_dumps shelf told shelved = no_dump_at_all shelf reels (all_blank rack.reels are empty) told.each shelved

    -- MADE
    module _ (o : OnlineFacts) (made : HasMade c disc o) (tied : IsTied o) where
      seen_by : (v : View) (s : state.State) (devices : DevicesStandFor disc.size disc.held reels s) → IsView o.disc.held reels o.contents devices.view
      seen_by v s devices = record {
        rack = rack_seen disc.held o.disc.held reels devices.view made.told devices.rack;
        files = no_files (λ f. HasText (AllTold o.disc.held reels) (devices.view.text f.rec.stamp) devices.view.dumps f) o.contents made.contents;
      }

      steps : (s : state.State) → DevicesStandFor disc.size disc.held reels s → (u : state.State) × StandsForState (store_of o rack) u × FormatStep s Plain (Ok tt) u
      steps s devices =
          let v = devices.view in
          let u = state_up v reels o None in (
            u,
            stands_up o made.begun disc rack v devices.contents made.causes.size u (seen_by v s devices) refl,
            subst (λ (t : state.State). FormatStep t Plain (Ok tt) u) (sym devices.state_is)
                (subst (λ (r : Option StoreFault). Event r tt (state_down v reels disc.size devices.contents) (coming_up (state_down v reels disc.size devices.contents) new_holding) (Ok tt) u)
                (sym (free v devices.contents disc.size false false))
                (refl, up_is o made.begun disc rack v devices.contents made.causes.size new_holding (ap (holding_of v.text []) made.contents ∙ held_is v.text))),
          )

      pub formatted_is : Formats disc rack (store_of o rack)
      formatted_is = record {
        makes = record {
          running = refl;
          no_dump = refl;
          untouched = made.begun.touched;
          unkept = unkept o made.begun;
          keeps = store_made o made.begun rack tied;
          causes = made.causes;
          tapes = nothing_read rack;
          tape_read = refl;
          wrote = made.wrote;
          told = λ told. told_back o.disc.held disc.held reels (sym made.told) told;
          step = λ told given s devices. steps s devices;
          belongs = λ told given.
              let shelf : ℕ → List Dump = λ serial. [] in
              let shelved = blank_shelf reels (all_blank rack.reels are empty) in
              let nothing = no_dumps shelf told shelved in
              let (on_rack, on_disc) = format_belongs (λ stamp. []) shelf reels users 1 nothing in
              belongs_made o made.begun rack tied (λ stamp. []) shelf shelved on_rack (subst (DiscBelongs (λ stamp. []) shelf reels) (sym (made.contents ∙ c_is)) on_disc)
              (λ d there. let (i, inside, is) = subst (λ (ds : List Dump). Contains ds d) nothing there in let no : ⊥ = omega (arith, inside) in absurd no);
        };
        durable = made.durable;
        empty = empty;
        holds = λ text. ap (holding_of text []) made.contents ∙ held_is text;
      }

    -- STOPPED
    module _ (now : DiscState) (causes : Causes ⊥ (Unit {0}) disc now) (changes : Changes (AsBeforeOr c) disc.held now.held) where
      leads : AllTold disc.held reels → (s : state.State) → DevicesStandFor disc.size disc.held reels s → LeadsDown FormatStep s disc rack Stopped now rack
      leads told s devices = by_case (stood disc now reels c changes causes.size told)
        where
          v : View
          v = devices.view

          leads_to : (end : state.State) → DevicesStandFor now.size now.held reels end → (end ≡ down s) ⊎ (end ≡ down (coming_up s new_holding)) → LeadsDown FormatStep s disc rack Stopped now rack
          leads_to end left which = record {
            after = end;
            left = left;
            outcome = Cut;
            raised = causes.writes_rose tt;
            step = subst (λ (r : Option StoreFault). Event r tt s (coming_up s new_holding) (Err Stopped) end)
                (sym (ap (λ (t : state.State). first_fault (fault_from RackNotEmpty (state.first_reel (λ r. r.used) t.reels) ∷ (false, DiscReadFault) ∷ (true, Stopped) ∷ [])) devices.state_is
                ∙ free devices.view devices.contents disc.size false true))
                (refl, which);
          }

          by_case : Stood disc now reels c changes causes.size → LeadsDown FormatStep s disc rack Stopped now rack
          by_case there = by_one there.one
            where
              by_one : HoldsAsBefore there.before there.after ⊎ Holds there.after c → LeadsDown FormatStep s disc rack Stopped now rack
              by_one (inl same) = leads_to s (before_stands disc now reels c changes causes.size there same s devices) (inl (down_again disc.size disc.held reels s devices))
              by_one (inr holds) =
                  leads_to (state_down devices.view reels now.size (Some c))
                  (new_stands disc now reels c changes causes.size there holds devices.view devices.rack
                  (no_files (λ f. HasText (AllTold now.held reels) (devices.view.text f.rec.stamp) devices.view.dumps f) c refl))
                  (inr (new_down disc now reels c changes causes.size devices.view devices.contents new_holding (held_is devices.view.text)
                  ∙ ap (λ (t : state.State). down (coming_up t new_holding)) (sym devices.state_is)))

      goes_on : AllTold disc.held reels → Belong disc.held rack → Belong now.held rack
      goes_on told was = by_case (stood disc now reels c changes causes.size told)
        where
          by_case : Stood disc now reels c changes causes.size → BelongWith now.held reels
          by_case there = by_one there.one
            where
              by_one : HoldsAsBefore there.before there.after ⊎ Holds there.after c → BelongWith now.held reels
              by_one (inl same) = before_belongs disc now reels c changes causes.size there same was
              by_one (inr holds) =
                  let (on_rack, on_disc) = format_belongs was.text was.shelf reels users 1 (no_dumps was.shelf told was.shelved) in
                  new_belongs disc now reels c changes causes.size there holds was.text was.shelf was.shelved on_rack (subst (DiscBelongs was.text was.shelf reels) (sym c_is) on_disc)

    module _ (now : DiscState) (causes : Causes ⊥ (Unit {0}) disc now) (changes : Changes (AsBeforeOr c) disc.held now.held) (safe : IsDiscSafe disc → IsDiscSafe now)
        (survives : IsDiscSafe disc → PowerLossLeaves (AsBeforeOr c) disc now) where
      -- whatever a power loss leaves then
      left_by : (blocks left : List (List ℕ)) → disc.held ≡ Some blocks → AsBeforeOr c blocks left → LeavesDevices (Unit {0}) FormatStep disc rack Stopped (disc_left left now) rack
      left_by blocks left was one =
          let changes_to = changes_left (AsBeforeOr c) disc blocks left was one in
          let causes_to = causes_left left causes in
          record { step = λ told given s devices. leads (disc_left left now) causes_to changes_to told s devices; belongs = goes_on (disc_left left now) causes_to changes_to }

      pub cut_is : RefusesFormat disc rack Stopped now rack
      cut_is = record {
        refuses = record {
          causes = Causes-for (λ no. absurd no) (λ is. (let no : ⊥ = cc in no)) (λ _. refl) (λ _. tt) causes;
          tapes = nothing_read rack;
          tape_read = λ is. absurd (let no : ⊥ = cc in no);
          tape_read_only = λ _. refl;
          held = λ no. absurd (no refl);
          writes = λ no. absurd (no refl);
          durable = λ no. absurd (no refl);
          told = told_then disc now reels c changes causes.size;
          step = λ told given s devices. leads now causes changes told s devices;
          belongs = goes_on now causes changes;
          survives = λ is disc_safe blocks was left may. left_by blocks left was (survives disc_safe blocks was left may);
        };
        safe = safe;
        full = λ serial. (λ is. absurd (let no : ⊥ = cc in no), λ is. absurd (none-some serial (sym empty ∙ is)));
        stopped = λ is. (c, held_is, changes, survives);
        only = tt;
      }

-- REFUSED, and nothing has changed
module _ (disc now : DiscState) (rack : Rack) (held : now.held ≡ disc.held) (writes : now.writes ≡ disc.writes) (durable : StayDurable disc now) (safe : IsDiscSafe disc → IsDiscSafe now) where
  abbrev on_tape : List Reel
  on_tape = told_reels rack

  quietly : (fault : StoreFault) → fault ≢ TapeReadFault → fault ≢ Stopped → Causes (fault ≡ DiscReadFault) (fault ≡ Stopped) disc now
      → ((s : state.State) → DevicesStandFor disc.size disc.held on_tape s → StepsDown FormatStep s disc rack fault now rack) → Refuses (Unit {0}) FormatStep disc rack fault now rack
  quietly fault other going causes steps = record {
    causes = causes;
    tapes = nothing_read rack;
    tape_read = λ is. absurd (other is);
    tape_read_only = λ _. refl;
    held = λ _. held;
    writes = λ _. writes;
    durable = λ _. durable;
    told = λ told. record { disc = ap is_some held ∙ told.disc; each = told.each };
    step = λ told given s devices. steps s devices;
    belongs = λ told was. subst (λ (h : Option (List (List ℕ))). Belong h rack) (sym held) was;
    survives = λ is. absurd (going is);
  }

  pub memory_is : Causes (NoMemory ≡ DiscReadFault) (NoMemory ≡ Stopped) disc now → first_used rack.reels ≡ None → RefusesFormat disc rack NoMemory now rack
  memory_is causes empty = record {
    refuses = quietly NoMemory (λ e. let no : ⊥ = cc in no) (λ e. let no : ⊥ = cc in no) causes (λ s devices. moved disc.size now.size disc.held now.held on_tape s causes.size held devices);
    safe = safe;
    full = λ serial. (λ is. absurd (let no : ⊥ = cc in no), λ is. absurd (none-some serial (sym empty ∙ is)));
    stopped = λ is. absurd (let no : ⊥ = cc in no);
    only = tt;
  }

  rows_are : (s : state.State) → DevicesStandFor disc.size disc.held on_tape s → state.first_reel (λ r. r.used) s.reels ≡ first_used rack.reels
  rows_are s devices = ap (λ (t : state.State). state.first_reel (λ r. r.used) t.reels) devices.state_is ∙ first_row devices.view.shelf rack.reels

  pub unread_is : Causes (DiscReadFault ≡ DiscReadFault) (DiscReadFault ≡ Stopped) disc now → first_used rack.reels ≡ None → RefusesFormat disc rack DiscReadFault now rack
  unread_is causes empty = record {
    refuses = quietly DiscReadFault (λ e. let no : ⊥ = cc in no) (λ e. let no : ⊥ = cc in no) causes
        (λ s devices. record {
          after = s;
          left = moved disc.size now.size disc.held now.held on_tape s causes.size held devices;
          outcome = DiscRead;
          raised = causes.reads_rose refl;
          step = subst (λ (r : Option StoreFault). Event r tt s (coming_up s new_holding) (Err DiscReadFault) s)
              (sym (ap (λ (o : Option ℕ). first_fault (fault_from RackNotEmpty o ∷ (true, DiscReadFault) ∷ (false, Stopped) ∷ [])) (rows_are s devices ∙ empty))) (refl, refl);
        });
    safe = safe;
    full = λ serial. (λ is. absurd (let no : ⊥ = cc in no), λ is. absurd (none-some serial (sym empty ∙ is)));
    stopped = λ is. absurd (let no : ⊥ = cc in no);
    only = tt;
  }

  pub full_is : (n : ℕ) → Causes (RackNotEmpty n ≡ DiscReadFault) (RackNotEmpty n ≡ Stopped) disc now → first_used rack.reels ≡ Some n → RefusesFormat disc rack (RackNotEmpty n) now rack
  full_is n causes used = record {
    refuses = quietly (RackNotEmpty n) (λ e. let no : ⊥ = cc in no) (λ e. let no : ⊥ = cc in no) causes
        (λ s devices. record {
          after = s;
          left = moved disc.size now.size disc.held now.held on_tape s causes.size held devices;
          outcome = Plain;
          raised = tt;
          step = subst (λ (r : Option StoreFault). Event r tt s (coming_up s new_holding) (Err (RackNotEmpty n)) s)
              (sym (ap (λ (o : Option ℕ). first_fault (fault_from RackNotEmpty o ∷ (false, DiscReadFault) ∷ (false, Stopped) ∷ [])) (rows_are s devices ∙ used))) (refl, refl);
        });
    safe = safe;
    full = λ serial. (λ is. used ∙ ap (λ (m : ℕ). let o : Option ℕ = Some m in o) (let same : n ≡ serial = cc in same), λ is. ap RackNotEmpty (same_Some n serial (sym used ∙ is)));
    stopped = λ is. absurd (let no : ⊥ = cc in no);
    only = tt;
  }

pub nothing_caused : (disc : DiscState) (fault : StoreFault) → fault ≢ DiscReadFault → fault ≢ Stopped → Causes (fault ≡ DiscReadFault) (fault ≡ Stopped) disc disc
nothing_caused disc fault read stop = Causes-none disc read stop

-- as the filestore answered
pub not_empty : (disc : DiscState) (rack : Rack) (n : ℕ) → Some n ≡ first_used rack.reels → RefusesFormat disc rack (RackNotEmpty n) disc rack
not_empty disc rack n used =
    full_is disc disc rack refl refl (λ k is. is) (λ is_safe. is_safe) n (nothing_caused disc (RackNotEmpty n) (λ e. let no : ⊥ = cc in no) (λ e. let no : ⊥ = cc in no)) (sym used)

pub record HasRefused (made : Contents) (disc now : DiscState) (fault : OnlineFault) : Type 0 where
  pub stopped : fault ≡ online.Stopped → Changes (AsBeforeOr made) disc.held now.held
  pub same : fault ≢ online.Stopped → (now.held ≡ disc.held) × (now.writes ≡ disc.writes)
  pub causes : Causes (fault ≡ online.ReadFault) (fault ≡ online.Stopped) disc now
  pub durable : fault ≢ online.Stopped → StayDurable disc now
  pub safe : IsDiscSafe disc → IsDiscSafe now
  pub survives : fault ≡ online.Stopped → IsDiscSafe disc → PowerLossLeaves (AsBeforeOr made) disc now
  pub only : (fault ≡ online.ReadFault) ⊎ ((fault ≡ online.Stopped) ⊎ (fault ≡ online.NoMemory))

module _ (disc : DiscState) (users : List UserRec) (files : List FileRec) (none : files ≡ []) (whole : (bytes : FileRec → List ℕ) → tree_of users files bytes 1 ≡ formatted) (rack : Rack) (are : AreReels rack.reels)
    (empty : None ≡ first_used rack.reels) (now : DiscState) where
  abbrev made : Contents
  made = first_contents (is_some disc.held) first_head users files

  abbrev Says : OnlineFault → Type 0
  Says fault = HasRefused made disc now fault → RefusesFormat disc rack (store_fault_of fault) now rack

  unread_said : Says online.ReadFault
  unread_said said =
      let both = said.same (λ e. let no : ⊥ = cc in no) in
      unread_is disc now rack both.0 both.1 (said.durable (λ e. let no : ⊥ = cc in no)) said.safe
      (Causes-for (λ _. refl) (λ _. refl) (λ e. absurd (let no : ⊥ = cc in no)) (λ is. absurd (let no : ⊥ = cc in no)) said.causes) (sym empty)

  stop_said : Says online.Stopped
  stop_said said =
      cut_is disc users files none whole rack are (sym empty) now
      (Causes-for (λ e. (let no : ⊥ = cc in no)) (λ no. absurd no) (λ _. tt) (λ _. refl) said.causes) (said.stopped refl) said.safe (said.survives refl)

  memory_said : Says online.NoMemory
  memory_said said =
      let both = said.same (λ e. let no : ⊥ = cc in no) in
      memory_is disc now rack both.0 both.1 (said.durable (λ e. let no : ⊥ = cc in no)) said.safe
      (Causes-for (λ e. absurd (let no : ⊥ = cc in no)) (λ is. absurd (let no : ⊥ = cc in no)) (λ e. absurd (let no : ⊥ = cc in no)) (λ is. absurd (let no : ⊥ = cc in no)) said.causes) (sym empty)

  pub format_refused : (fault : OnlineFault) → Says fault
  format_refused fault said = by_case said.only
    where
      by_case : (fault ≡ online.ReadFault) ⊎ ((fault ≡ online.Stopped) ⊎ (fault ≡ online.NoMemory)) → RefusesFormat disc rack (store_fault_of fault) now rack
      by_case (inl is) = subst Says (sym is) unread_said said
      by_case (inr (inl is)) = subst Says (sym is) stop_said said
      by_case (inr (inr is)) = subst Says (sym is) memory_said said

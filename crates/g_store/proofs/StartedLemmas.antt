-- START: the store that it creates, and what a refusal leaves.
-- serves: start (ok, refused)
use Rattle.std.proofs.Common.{◌≡◌, ◌≢◌, ℕ, ◌+◌, Bool, true, false, List, [], ◌∷◌, Option, Some, None, Ok, Err, is_some, refl, sym, ◌∙◌, ap, arith, subst, inl, inr}
use Rattle.std.specs.Prelude.{◌⊎◌, ◌<◌, IfSome, map, if◌then◌else◌}
use Rattle.std.specs.Option.{ForSome, option_map}
use Rattle.std.proofs.lemmas.Option.{same_Some}
use Rattle.g_base.specs.Counts.{Rose, RoseBy}
use Rattle.g_disc.specs.Disc.{Causes, DiscState, StayDurable}
use Rattle.g_disc.specs.Durable.{MayLeave}
use Rattle.g_disc.proofs.CallLemmas.{Causes-for, stands_later, then_later}
use Rattle.g_entry.specs.declared.head.Intent.{Intent}
use Rattle.g_entry.specs.declared.file_rec.FileRec.{FileRec}
use Rattle.g_entry.specs.declared.user_rec.UserRec.{UserRec}
use Rattle.g_tape.specs.Rack.{Rack, is_mounted, reel}
use Rattle.g_tape.specs.Reads.{OnlyReads}
use Rattle.g_tape.specs.Reel.{Reel}
use Rattle.g_tape.proofs.ReadLemmas.{nothing_read}
use Rattle.g_plain.specs.declared.faults.StoreFault.{StoreFault}
use Rattle.g_plain.specs.declared.faults.StoreFault.TheVariants.{DiscReadFault, MountFirst, NoFilestore, NoMemory, Stopped, TapeReadFault}
use Rattle.g_plain.specs.PlainStep.{first_fault}
use Rattle.g_dirs.specs.Durable.{IsDiscSafe}
use Rattle.g_dirs.proofs.Surviving.{safe_stays}
use Rattle.g_disc_contents.specs.Contents.{Contents, Holds, recs_in}
use Rattle.g_disc_contents.specs.Facts.{IsTied, OnlineFacts}
use Rattle.g_disc_contents.proofs.HoldLemmas.{holds_one}
use Rattle.g_online.specs.Faults.{store_fault_of}
use Rattle.g_online.specs.declared.fault.OnlineFault.{OnlineFault}
use Rattle.g_online.specs.declared.fault.OnlineFault.TheVariants as online
use Rattle.g_online.specs.Beginning.{HasLoaded, IsBegun, SecuresAndReads}
use Rattle.g_online.specs.Change.{changed, unjammed}
use Rattle.g_online.specs.Outcomes.{AfterStop, HasChanged, HasStopped}
use Rattle.g_shelf.specs.CompletedDumps.{AreShelved, all_dumps}
use Rattle.g_store_model.specs.State as state
use Rattle.g_store_model.specs.CallStep.{Cut, DiscRead, Outcome, Plain, TapeRead, down}
use Rattle.g_store_model.specs.DumpSteps.{Event}
use Rattle.g_store_model.specs.Rising.{StartStep, Starts, adopted, coming_up, dump_adopted, fault_from, is_completed, unmounted_reel}
use Rattle.g_store_meaning.specs.Answers.{Belongs}
use Rattle.g_store_meaning.specs.Belonging.{Belong, BelongWith, DiscBelongs, RackBelongs}
use Rattle.g_store_meaning.specs.Laws.{IsQuiet, closed}
use Rattle.g_store_meaning.specs.Meaning.{told_reels}
use Rattle.g_store_meaning.specs.Surviving.{disc_left}
use Rattle.g_store_meaning.specs.Reading.{AllTold, DevicesStandFor, IsView, StandsForState, holding_of, names_of, state_down, state_up}
use Rattle.g_store_meaning.proofs.ViewLemmas.{reads_keep_state}
use Rattle.g_laws_store.proofs.StateLemmas.{is_view}
use Rattle.g_dumper.proofs.ShelfLemmas.{told_is}
use Rattle.g_store_calls.proofs.BehindLemmas.{told_then}
use Rattle.g_store.specs.Making.{Begun, LeadsDown, LeavesDevices, Refuses, RefusesStart, StepsDown}
use Rattle.g_store.specs.Starting.{HasNamed, IsIntent, NamesNone, TakesOver, adoption, copies_named}
use Rattle.g_store.proofs.AdoptLemmas.{adopt_then}
use Rattle.g_store.proofs.MakeLemmas.{belongs_made, causes_left, down_again, moved, stands_up, store_made, store_of, unkept, up_is}
use Rattle.g_store.proofs.RestoredLemmas.{same_refusal}
use Rattle.g_store.proofs.StartLemmas as start

-- the counts, after the reads of a load and what followed them
counted : (read stop late : Type 0) (a b c : DiscState) → (read → ⊥) → (stop → late) → (late → stop) → SecuresAndReads ⊥ a b → Causes ⊥ late b c → Causes read stop a c
counted read stop late a b c never to back one two = record {
  size = two.size ∙ one.size;
  arms = two.arms ∙ one.arms;
  later = then_later (stands_later one.writes) two.later;
  reads_kept = λ no. two.reads_kept (λ x. x) ∙ one.kept (λ x. x);
  reads_rose = λ is. absurd (never is);
  writes_kept = λ no. two.writes_kept (λ is. no (back is)) ∙ one.write_faults;
  writes_rose = λ is. subst (λ (n : ℕ). Rose n c.write_faults) one.write_faults (two.writes_rose (to is));
}

-- IF NOTHING WAS WRITTEN
module _ (disc now : DiscState) (rack after : Rack) (only : OnlyReads rack after) (size : now.size ≡ disc.size) (held : now.held ≡ disc.held) (writes : now.writes ≡ disc.writes) (durable : StayDurable disc now) where
  stays : (s : state.State) → DevicesStandFor disc.size disc.held (told_reels rack) s → DevicesStandFor now.size now.held (told_reels after) s
  stays s devices =
      subst (λ (rs : List Reel). DevicesStandFor now.size now.held rs s) (sym only.reels)
      (moved disc.size now.size disc.held now.held (told_reels rack) s size held devices)

  unchanged : (fault : StoreFault) → fault ≢ Stopped → Causes (fault ≡ DiscReadFault) (fault ≡ Stopped) disc now → (fault ≡ TapeReadFault → Rose rack.read_faults after.read_faults)
      → ((fault ≡ TapeReadFault → ⊥) → after.read_faults ≡ rack.read_faults)
      → (AllTold disc.held (told_reels rack) → Belong disc.held rack → (s : state.State) → DevicesStandFor disc.size disc.held (told_reels rack) s → StepsDown StartStep s disc rack fault now after)
      → Refuses (Belong disc.held rack) StartStep disc rack fault now after
  unchanged fault going causes rose kept steps = record {
    causes = causes;
    tapes = only;
    tape_read = rose;
    tape_read_only = kept;
    held = λ other. held;
    writes = λ other. writes;
    durable = λ other. durable;
    told = λ told. subst (AllTold now.held) (sym only.reels) (record { disc = ap is_some held ∙ told.disc; each = told.each });
    step = steps;
    belongs = λ told was. subst (BelongWith now.held) (sym only.reels) (subst (λ (h : Option (List (List ℕ))). BelongWith h (told_reels rack)) (sym held) was);
    survives = λ is. absurd (going is);
  }

-- LOADING REFUSED
read_step : (s : state.State) (h : Option state.Holding) → Starts s h DiscRead (Err DiscReadFault) s
read_step s None = (refl, refl)
read_step s (Some k) = (refl, refl)

module _ (disc : DiscState) (rack : Rack) where
  no_files : ForSome disc.held (λ blocks. (c : Contents) → Holds blocks c → ⊥) → (s : state.State) → DevicesStandFor disc.size disc.held (told_reels rack) s → StartStep s Plain (Err NoFilestore) s
  no_files none s devices = subst (λ (h : Option state.Holding). Starts s h Plain (Err NoFilestore) s) (sym (nothing devices.contents devices.state_is devices.is)) (refl, refl)
    where
      nothing : (o : Option Contents) → s ≡ state_down devices.view (told_reels rack) disc.size o
          → IfSome o (λ c. (blocks : List (List ℕ)) × (disc.held ≡ Some blocks) × Holds blocks c × IsView disc.held (told_reels rack) c devices.view) → s.holding ≡ None
      nothing None is seen = ap (λ (t : state.State). t.holding) is
      nothing (Some c) is (blocks, was, has, view) = absurd (none blocks was c has)

  module _ (now : DiscState) where
    abbrev Refused : OnlineFault → Type 0
    Refused fault = SecuresAndReads (fault ≡ online.ReadFault) disc now → (fault ≡ online.NoFilestore → ForSome disc.held (λ blocks. (c : Contents) → Holds blocks c → ⊥))
        → RefusesStart disc rack (store_fault_of fault) now rack

    by_reads : (fault : StoreFault) (read : Type 0) → (fault ≡ DiscReadFault → read) → (read → fault ≡ DiscReadFault) → fault ≢ Stopped → SecuresAndReads read disc now
        → Causes (fault ≡ DiscReadFault) (fault ≡ Stopped) disc now
    by_reads fault read to back other reads = record {
      size = reads.size;
      arms = reads.arms;
      later = stands_later reads.writes;
      reads_kept = λ no. reads.kept (λ is. no (back is));
      reads_rose = λ is. reads.rose (to is);
      writes_kept = λ no. reads.write_faults;
      writes_rose = λ is. absurd (other is);
    }

    unread : Refused online.ReadFault
    unread reads none = record {
      refuses = unchanged disc now rack rack (nothing_read rack) reads.size reads.held reads.writes reads.durable DiscReadFault (λ e. let no : ⊥ = cc in no)
          (by_reads DiscReadFault (online.ReadFault ≡ online.ReadFault) (λ e. refl) (λ e. refl) (λ e. let no : ⊥ = cc in no) reads) (λ e. let no : ⊥ = cc in absurd no) (λ no. refl)
          (λ told belong s devices. record {
            after = s;
            left = stays disc now rack rack (nothing_read rack) reads.size reads.held reads.writes reads.durable s devices;
            outcome = DiscRead;
            raised = reads.rose refl;
            step = read_step s s.holding;
          });
      safe = λ is_safe. safe_stays disc now reads.held reads.durable is_safe;
      first = λ serial e. let no : ⊥ = cc in absurd no;
      none = λ e. let no : ⊥ = cc in absurd no;
      named = λ serial e. let no : ⊥ = cc in absurd no;
      stopped = λ e. let no : ⊥ = cc in absurd no;
      only = tt;
    }

    unfounded : Refused online.NoFilestore
    unfounded reads none = record {
      refuses = unchanged disc now rack rack (nothing_read rack) reads.size reads.held reads.writes reads.durable NoFilestore (λ e. let no : ⊥ = cc in no)
          (by_reads NoFilestore (online.NoFilestore ≡ online.ReadFault) (λ e. let no : ⊥ = cc in absurd no) (λ e. let no : ⊥ = cc in absurd no) (λ e. let no : ⊥ = cc in no) reads)
          (λ e. let no : ⊥ = cc in absurd no) (λ no. refl)
          (λ told belong s devices. record {
            after = s;
            left = stays disc now rack rack (nothing_read rack) reads.size reads.held reads.writes reads.durable s devices;
            outcome = Plain;
            raised = tt;
            step = no_files (none refl) s devices;
          });
      safe = λ is_safe. safe_stays disc now reads.held reads.durable is_safe;
      first = λ serial e. let no : ⊥ = cc in absurd no;
      none = λ e. none refl;
      named = λ serial e. let no : ⊥ = cc in absurd no;
      stopped = λ e. let no : ⊥ = cc in absurd no;
      only = tt;
    }

    starved : Refused online.NoMemory
    starved reads none = record {
      refuses = unchanged disc now rack rack (nothing_read rack) reads.size reads.held reads.writes reads.durable NoMemory (λ e. let no : ⊥ = cc in no)
          (by_reads NoMemory (online.NoMemory ≡ online.ReadFault) (λ e. let no : ⊥ = cc in absurd no) (λ e. let no : ⊥ = cc in absurd no) (λ e. let no : ⊥ = cc in no) reads)
          (λ e. let no : ⊥ = cc in absurd no) (λ no. refl)
          (λ told belong s devices. stays disc now rack rack (nothing_read rack) reads.size reads.held reads.writes reads.durable s devices);
      safe = λ is_safe. safe_stays disc now reads.held reads.durable is_safe;
      first = λ serial e. let no : ⊥ = cc in absurd no;
      none = λ e. let no : ⊥ = cc in absurd no;
      named = λ serial e. let no : ⊥ = cc in absurd no;
      stopped = λ e. let no : ⊥ = cc in absurd no;
      only = tt;
    }

    pub load_refused : (fault : OnlineFault) → (fault ≡ online.ReadFault) ⊎ ((fault ≡ online.NoFilestore) ⊎ (fault ≡ online.NoMemory)) → Refused fault
    load_refused fault (inl is) = subst Refused (sym is) unread
    load_refused fault (inr (inl is)) = subst Refused (sym is) unfounded
    load_refused fault (inr (inr is)) = subst Refused (sym is) starved

-- LOADED
module _ (disc : DiscState) (rack : Rack) (o : OnlineFacts) (loaded : HasLoaded disc o) (after : Rack) (only : OnlyReads rack after) where
  abbrev holds : ForSome disc.held (λ blocks. Holds blocks o.contents)
  holds = loaded.holds

  -- the store that comes up
  module _ (new : OnlineFacts) (begun : IsBegun new) (tied : IsTied new) (size : new.disc.size ≡ disc.size) (told : AllTold disc.held (told_reels rack)) (belong : Belong disc.held rack)
      (on_disc : DiscBelongs belong.text belong.shelf (told_reels rack) new.contents) where
    abbrev there : state.State
    there = start.there disc rack told belong o.contents holds

    abbrev k : state.Holding
    k = start.k disc rack told belong o.contents holds

    comes_up : (reply : Option ℕ) → unmounted_reel there k.intent ≡ None → option_map (λ (d : state.Dumped). d.number) (dump_adopted there k) ≡ reply
        → holding_of belong.text [] new.contents ≡ record (adopted (dump_adopted there k) k) { kept = names_of [] }
        → (s : state.State) → DevicesStandFor disc.size disc.held (told_reels rack) s → (u : state.State) × StandsForState (store_of new after) u × StartStep s Plain (Ok reply) u
    comes_up reply free reply_is held s devices =
        let v = start.v disc rack told belong o.contents holds in
        let u = state_up v (told_reels rack) new None in
        let view : IsView new.disc.held (told_reels rack) new.contents v = is_view new.disc.held (told_reels rack) belong.text belong.shelf belong.shelved belong.rack None new.contents on_disc in (
          u,
          reads_keep_state (store_of new rack) after u only (stands_up new begun disc rack v (Some o.contents) size u view refl),
          subst (λ (x : state.State). StartStep x Plain (Ok reply) u) (sym (start.is_there disc rack told belong o.contents holds s devices))
              (subst
              (λ (r : Option StoreFault).
              Event r (option_map (λ (d : state.Dumped). d.number) (dump_adopted there k)) there (coming_up there (adopted (dump_adopted there k) k)) (Ok reply) u)
              (sym (start.refuses_with there k None false false free))
              (ap Ok (sym reply_is), up_is new begun disc rack v (Some o.contents) size (adopted (dump_adopted there k) k) held)),
        )

    belongs_up : IsQuiet belong.shelf (told_reels rack) new.contents → Belongs (store_of new after)
    belongs_up quiet =
        belongs_made new begun after tied belong.text belong.shelf (subst (AreShelved belong.shelf) (sym only.reels) belong.shelved)
        (subst (λ (rs : List Reel). RackBelongs belong.text (all_dumps belong.shelf rs)) (sym only.reels) belong.rack)
        (subst (λ (rs : List Reel). DiscBelongs belong.text belong.shelf rs new.contents) (sym only.reels) on_disc)
        (subst (λ (rs : List Reel). IsQuiet belong.shelf rs new.contents) (sym only.reels) quiet)

  tells : (new : OnlineFacts) → is_some new.disc.held ≡ is_some o.disc.held → AllTold disc.held (told_reels rack) → AllTold new.disc.held (told_reels after)
  tells new same told =
      subst (AllTold new.disc.held) (sym only.reels) (told_then new.disc.held disc.held (told_reels rack) (ap is_some (sym loaded.reads.held) ∙ sym same) told)

  -- NOTHING IS ADOPTED
  record AdoptsNothing (told : AllTold disc.held (told_reels rack)) (belong : Belong disc.held rack) : Type 0 where
    free : unmounted_reel (start.there disc rack told belong o.contents holds) (start.k disc rack told belong o.contents holds).intent ≡ None
    none : dump_adopted (start.there disc rack told belong o.contents holds) (start.k disc rack told belong o.contents holds) ≡ None
    quiet : IsQuiet belong.shelf (told_reels rack) o.contents

  abbrev NamesNothing : Option Intent → Type 0
  NamesNothing intent = IfSome intent (λ i. (is_mounted (reel i.serial rack.reels) ≡ true) × NamesNone i rack)

  nothing_by : (intent : Option Intent) → o.contents.head.intent ≡ intent → NamesNothing intent → (told : AllTold disc.held (told_reels rack)) (belong : Belong disc.held rack) → AdoptsNothing told belong
  nothing_by None is nothing told belong = record {
    free = start.no_reel disc rack told belong o.contents holds is;
    none = start.no_dump disc rack told belong o.contents holds is;
    quiet = start.quiet_here disc rack told belong o.contents holds is;
  }
  nothing_by (Some i) is (mounted, nothing) told belong = record {
    free = start.reel_up disc rack told belong o.contents holds i is mounted;
    none = start.none_adopted disc rack told belong o.contents holds i is mounted nothing;
    quiet = start.quiet_still disc rack told belong o.contents holds i is mounted nothing;
  }

  mounted_by : (intent : Option Intent) → NamesNothing intent → IfSome intent (λ i. is_mounted (reel i.serial rack.reels) ≡ true)
  mounted_by None nothing = tt
  mounted_by (Some i) (mounted, nothing) = mounted

  module _ (tied : IsTied o) (kept : after.read_faults ≡ rack.read_faults) (nothing : NamesNothing o.contents.head.intent) where
    adopts_nothing : (told : AllTold disc.held (told_reels rack)) (belong : Belong disc.held rack) → AdoptsNothing told belong
    adopts_nothing told belong = nothing_by o.contents.head.intent refl nothing told belong

    begun_as_it_was : Begun disc rack None (store_of o after)
    begun_as_it_was = record {
      makes = record {
        running = refl;
        no_dump = refl;
        untouched = loaded.begun.touched;
        unkept = unkept o loaded.begun;
        keeps = store_made o loaded.begun after tied;
        causes = record {
          size = loaded.reads.size;
          arms = loaded.reads.arms;
          later = stands_later loaded.reads.writes;
          reads_kept = λ no. loaded.reads.kept (λ x. x);
          reads_rose = λ is. absurd is;
          writes_kept = λ no. loaded.reads.write_faults;
          writes_rose = λ is. absurd is;
        };
        tapes = only;
        tape_read = kept;
        wrote = record {
          found = o.layout;
          unknown = loaded.unknown;
          gate = loaded.gate;
          blocks = 0;
          commits = (refl, refl);
          writes = subst (RoseBy 0 disc.writes) (sym loaded.reads.writes) (record { exactly = λ less. omega arith });
        };
        told = tells o refl;
        step = λ told belong s devices.
            let is = adopts_nothing told belong in
            let on_disc = start.disc_belongs disc rack told belong o.contents holds in
            comes_up o loaded.begun tied loaded.reads.size told belong on_disc None is.free (ap (option_map (λ (d : state.Dumped). d.number)) is.none)
            (ap (λ (d : Option state.Dumped). let h : state.Holding = record (adopted d (holding_of belong.text [] o.contents)) { kept = names_of [] } in h) (sym is.none)) s devices;
        belongs = λ told belong.
            belongs_up o loaded.begun tied loaded.reads.size told belong (start.disc_belongs disc rack told belong o.contents holds) (adopts_nothing told belong).quiet;
      };
      durable = loaded.durable;
      intent = mounted_by o.contents.head.intent nothing;
      loaded = (o, loaded, record { same = refl; none = nothing });
    }

  -- THE DUMP OF THE INTENT IS ADOPTED
  module _ (i : Intent) (intent : IsIntent o rack true i) (files : List FileRec) (named : HasNamed i rack files) where
    abbrev adopts_it : Contents
    adopts_it = closed i.number (copies_named (recs_in o.contents) files) o.contents

    then_is : (told : Bool) → changed told (is_some o.pins) (adoption i.number files o) o.contents ≡ adopts_it
    then_is told = adopt_then told (is_some o.pins) i.number (copies_named (recs_in o.contents) files) o.contents (ap is_some loaded.begun.pins)

    on_disc : (told : AllTold disc.held (told_reels rack)) (belong : Belong disc.held rack) → DiscBelongs belong.text belong.shelf (told_reels rack) adopts_it
    on_disc told belong = start.belongs_after disc rack told belong o.contents holds i intent.is intent.mounted_is files named

    module _ (new : OnlineFacts) (tied : IsTied new) (told_same : is_some new.disc.held ≡ is_some o.disc.held) (counts : Causes ⊥ ⊥ o.disc new.disc) (kept : after.read_faults ≡ rack.read_faults)
        (done : HasChanged (adoption i.number files o) o new) where
      contents_are : new.contents ≡ adopts_it
      contents_are = done.contents ∙ then_is (is_some o.disc.held)

      begun_then : IsBegun new
      begun_then = record {
        live = done.live;
        pins = done.pins ∙ loaded.begun.pins;
        touched = done.touched ∙ ap (λ (b : Bool). if b then o.touched else []) (ap is_some loaded.begun.pins);
        changed = done.changed ∙ loaded.begun.changed ∙ ap (λ (x : Contents). map (λ (u : UserRec). u.number) x.users) (sym contents_are);
      }

      all_causes : Causes ⊥ ⊥ disc new.disc
      all_causes = counted ⊥ ⊥ ⊥ disc o.disc new.disc (λ x. x) (λ x. x) (λ x. x) loaded.reads counts

      belongs_new : (told : AllTold disc.held (told_reels rack)) (belong : Belong disc.held rack) → DiscBelongs belong.text belong.shelf (told_reels rack) new.contents
      belongs_new told belong = subst (DiscBelongs belong.text belong.shelf (told_reels rack)) (sym contents_are) (on_disc told belong)

      begun_with : Begun disc rack (Some i.number) (store_of new after)
      begun_with = record {
        makes = record {
          running = refl;
          no_dump = refl;
          untouched = begun_then.touched;
          unkept = unkept new begun_then;
          keeps = store_made new begun_then after tied;
          causes = all_causes;
          tapes = only;
          tape_read = kept;
          wrote = record {
            found = o.layout;
            unknown = loaded.unknown;
            gate = loaded.gate;
            blocks = done.blocks;
            commits = done.commits;
            writes = subst (λ (n : ℕ). RoseBy done.blocks n new.disc.writes) loaded.reads.writes
                (subst (λ (n : ℕ). RoseBy n o.disc.writes new.disc.writes) (let n : 0 + done.blocks ≡ done.blocks = omega arith in n) done.writes);
          };
          told = tells new told_same;
          step = λ told belong s devices.
              comes_up new begun_then tied all_causes.size told belong (belongs_new told belong) (Some i.number)
              (start.reel_up disc rack told belong o.contents holds i intent.is intent.mounted_is)
              (start.number_adopted disc rack told belong o.contents holds i intent.is intent.mounted_is files named)
              (ap (holding_of belong.text []) contents_are ∙ start.held_after disc rack told belong o.contents holds i intent.is intent.mounted_is files named) s devices;
          belongs = λ told belong.
              belongs_up new begun_then tied all_causes.size told belong (belongs_new told belong)
              (subst (IsQuiet belong.shelf (told_reels rack)) (sym contents_are) (start.quiet_after disc rack told belong o.contents holds i intent.is intent.mounted_is files named));
        };
        durable = λ blocks was is_safe. done.durable (loaded.durable blocks was is_safe);
        intent = subst (λ (x : Contents). IfSome x.head.intent (λ j. is_mounted (reel j.serial rack.reels) ≡ true)) (sym contents_are) tt;
        loaded = (o, loaded, (record { intent = i; is = intent; files = files; found = named; leaves = done }, refl));
      }

    -- OR THAT IS STOPPED
    module _ (now : OnlineFacts) (told_same : is_some now.disc.held ≡ is_some o.disc.held) (counts : Causes ⊥ (Unit {0}) o.disc now.disc) (kept : after.read_faults ≡ rack.read_faults)
        (stops : ForSome now.disc.held (AfterStop (adoption i.number files o) o)) where
      cut_causes : Causes (Stopped ≡ DiscReadFault) (Stopped ≡ Stopped) disc now.disc
      cut_causes = counted (Stopped ≡ DiscReadFault) (Stopped ≡ Stopped) (Unit {0}) disc o.disc now.disc (λ e. let no : ⊥ = cc in no) (λ e. tt) (λ x. refl) loaded.reads counts

      -- the disc holds what it held, or what was to be
      left_either : (blocks : List (List ℕ)) → now.disc.held ≡ Some blocks → Holds blocks o.contents ⊎ Holds blocks adopts_it
      left_either blocks was = by_case (stops blocks was).one
        where
          by_case : Holds blocks o.contents ⊎ (((0 < 0) × Holds blocks (unjammed (is_some o.pins) (adoption i.number files o) o.contents)) ⊎ Holds blocks (changed true (is_some o.pins) (adoption i.number files o) o.contents))
              → Holds blocks o.contents ⊎ Holds blocks adopts_it
          by_case (inl same) = inl same
          by_case (inr (inl (less, mid))) = absurd (omega (arith, less))
          by_case (inr (inr made)) = inr (subst (Holds blocks) (then_is true) made)

      module _ (told : AllTold disc.held (told_reels rack)) (belong : Belong disc.held rack) where
        abbrev here : state.State
        here = start.there disc rack told belong o.contents holds

        abbrev held : state.Holding
        held = start.k disc rack told belong o.contents holds

        abbrev Left : state.State → Type 0
        Left end = DevicesStandFor now.disc.size now.disc.held (told_reels rack) end × ((end ≡ down here) ⊎ (end ≡ down (coming_up here (adopted (dump_adopted here held) held))))

        resized : state_down (start.v disc rack told belong o.contents holds) (told_reels rack) now.disc.size (Some adopts_it) ≡ down (coming_up here (adopted (dump_adopted here held) held))
        resized =
            λ j.
            let s : state.State = record {
              up = false;
              size = cut_causes.size j;
              holding = Some (start.held_after disc rack told belong o.contents holds i intent.is intent.mounted_is files named j);
              reels = here.reels;
              dumped = here.dumped;
              open_dump = None;
            } in s

        left_end : (blocks : List (List ℕ)) → now.disc.held ≡ Some blocks → (end : state.State) × Left end
        left_end blocks was = by_case (left_either blocks was)
          where
            by_case : Holds blocks o.contents ⊎ Holds blocks adopts_it → (end : state.State) × Left end
            by_case (inl same) =
                let on = start.disc_belongs disc rack told belong o.contents holds in
                let sized : state_down (start.v disc rack told belong o.contents holds) (told_reels rack) now.disc.size (Some o.contents) ≡ here =
                ap (λ (n : ℕ). state_down (start.v disc rack told belong o.contents holds) (told_reels rack) n (Some o.contents)) cut_causes.size in
                let left = subst (DevicesStandFor now.disc.size now.disc.held (told_reels rack)) sized (start.stands_with disc rack told belong o.contents holds now.disc o.contents blocks was same on) in
                (here, (left, inl (down_again disc.size disc.held (told_reels rack) here (start.stands_there disc rack told belong o.contents holds))))
            by_case (inr made) =
                let left = start.stands_with disc rack told belong o.contents holds now.disc adopts_it blocks was made (on_disc told belong) in
                (state_down (start.v disc rack told belong o.contents holds) (told_reels rack) now.disc.size (Some adopts_it), (left, inr resized))

        leads : (s : state.State) → DevicesStandFor disc.size disc.held (told_reels rack) s → LeadsDown StartStep s disc rack Stopped now.disc after
        leads s devices =
            let (blocks, was) = told_is now.disc.held (told_same ∙ ap is_some loaded.reads.held ∙ told.disc) in
            let (end, both) = left_end blocks was in
            record {
              after = end;
              left = subst (λ (rs : List Reel). DevicesStandFor now.disc.size now.disc.held rs end) (sym only.reels) both.0;
              outcome = Cut;
              raised = cut_causes.writes_rose refl;
              step = subst (λ (x : state.State). StartStep x Cut (Err Stopped) end) (sym (start.is_there disc rack told belong o.contents holds s devices))
                  (subst
                  (λ (r : Option StoreFault).
                  Event r (option_map (λ (d : state.Dumped). d.number) (dump_adopted here held)) here (coming_up here (adopted (dump_adopted here held) held)) (Err Stopped) end)
                  (sym (start.refuses_with here held None false (is_completed here held.intent) (start.reel_up disc rack told belong o.contents holds i intent.is intent.mounted_is)
                  ∙ ap (λ (b : Bool). first_fault (fault_from MountFirst None ∷ (false, TapeReadFault) ∷ (b, Stopped) ∷ []))
                  (start.completed_here disc rack told belong o.contents holds i intent.is intent.mounted_is files named)))
                  (refl, both.1));
            }

        goes_on : BelongWith now.disc.held (told_reels after)
        goes_on =
            subst (BelongWith now.disc.held) (sym only.reels)
            (record {
              text = belong.text;
              shelf = belong.shelf;
              shelved = belong.shelved;
              rack = belong.rack;
              disc = λ blocks x was has. by_case blocks x has (left_either blocks was);
            })
          where
            by_case : (blocks : List (List ℕ)) (x : Contents) → Holds blocks x → Holds blocks o.contents ⊎ Holds blocks adopts_it → DiscBelongs belong.text belong.shelf (told_reels rack) x
            by_case blocks x has (inl same) =
                subst (DiscBelongs belong.text belong.shelf (told_reels rack)) (holds_one blocks o.contents x same has) (start.disc_belongs disc rack told belong o.contents holds)
            by_case blocks x has (inr made) = subst (DiscBelongs belong.text belong.shelf (told_reels rack)) (holds_one blocks adopts_it x made has) (on_disc told belong)

    module _ (now : OnlineFacts) (told_same : is_some now.disc.held ≡ is_some o.disc.held) (counts : Causes ⊥ (Unit {0}) o.disc now.disc) (kept : after.read_faults ≡ rack.read_faults)
        (stopped : HasStopped (adoption i.number files o) o now) where
      -- whatever a power loss leaves then
      left_by : (blocks left : List (List ℕ)) → disc.held ≡ Some blocks → IsDiscSafe disc → MayLeave now.disc left
          → LeavesDevices (Belong disc.held rack) StartStep disc rack Stopped (disc_left left now.disc) after
      left_by blocks left was is_safe may =
          let at : o.disc.held ≡ Some blocks = loaded.reads.held ∙ was in
          let then_left : OnlineFacts = record now { disc = disc_left left now.disc } in
          let one : AfterStop (adoption i.number files o) o left = (stopped.survives (loaded.durable blocks was is_safe)).1 blocks at left may in
          let stops : ForSome then_left.disc.held (AfterStop (adoption i.number files o) o) =
          λ other is. subst (AfterStop (adoption i.number files o) o) (same_Some left other is) one in
          let told_then : true ≡ is_some o.disc.held = sym (ap is_some at) in record {
            step = λ told belong s devices. leads then_left told_then (causes_left left counts) kept stops told belong s devices;
            belongs = λ told belong. goes_on then_left told_then (causes_left left counts) kept stops told belong;
          }

      cut_is : RefusesStart disc rack Stopped now.disc after
      cut_is = record {
        refuses = record {
          causes = cut_causes now told_same counts kept stopped.holds;
          tapes = only;
          tape_read = λ e. let no : ⊥ = cc in absurd no;
          tape_read_only = λ no. kept;
          held = λ no. absurd (no refl);
          writes = λ no. absurd (no refl);
          durable = λ no. absurd (no refl);
          told = tells now told_same;
          step = λ told belong s devices. leads now told_same counts kept stopped.holds told belong s devices;
          belongs = goes_on now told_same counts kept stopped.holds;
          survives = λ is is_safe blocks was left may. left_by blocks left was is_safe may;
        };
        safe = λ is_safe blocks there.
            let (was, is) = told_is disc.held (sym (ap is_some loaded.reads.held) ∙ sym told_same ∙ ap is_some there) in
            (stopped.survives (loaded.durable was is is_safe)).0 blocks there;
        first = λ serial e. let no : ⊥ = cc in absurd no;
        none = λ e. let no : ⊥ = cc in absurd no;
        named = λ serial e. let no : ⊥ = cc in absurd no;
        stopped = λ e. (o, now, loaded, refl, record { intent = i; is = intent; files = files; found = named; leaves = stopped });
        only = tt;
      }

  -- OR ITS REEL IS IN THE WAY: nothing was written
  module _ (new : OnlineFacts) (same : new ≡ o) (fault : StoreFault) (rose : fault ≡ TapeReadFault → Rose rack.read_faults after.read_faults)
      (kept : (fault ≡ TapeReadFault → ⊥) → after.read_faults ≡ rack.read_faults) (read : fault ≢ DiscReadFault) (stop : fault ≢ Stopped) where
    same_size : new.disc.size ≡ disc.size
    same_size = ap (λ (x : OnlineFacts). x.disc.size) same ∙ loaded.reads.size

    same_disc : new.disc.held ≡ disc.held
    same_disc = ap (λ (x : OnlineFacts). x.disc.held) same ∙ loaded.reads.held

    none_written : new.disc.writes ≡ disc.writes
    none_written = ap (λ (x : OnlineFacts). x.disc.writes) same ∙ loaded.reads.writes

    stay_durable : StayDurable disc new.disc
    stay_durable = subst (λ (x : OnlineFacts). StayDurable disc x.disc) (sym same) loaded.reads.durable

    no_causes : Causes (fault ≡ DiscReadFault) (fault ≡ Stopped) disc new.disc
    no_causes =
        subst (λ (x : OnlineFacts). Causes (fault ≡ DiscReadFault) (fault ≡ Stopped) disc x.disc) (sym same)
        (record {
          size = loaded.reads.size;
          arms = loaded.reads.arms;
          later = stands_later loaded.reads.writes;
          reads_kept = λ no. loaded.reads.kept (λ x. x);
          reads_rose = λ is. absurd (read is);
          writes_kept = λ no. loaded.reads.write_faults;
          writes_rose = λ is. absurd (stop is);
        })

    left_same : (s : state.State) → DevicesStandFor disc.size disc.held (told_reels rack) s → DevicesStandFor new.disc.size new.disc.held (told_reels after) s
    left_same = stays disc new.disc rack after only same_size same_disc none_written stay_durable

    refuses_by : ((told : AllTold disc.held (told_reels rack)) (belong : Belong disc.held rack) (s : state.State) → DevicesStandFor disc.size disc.held (told_reels rack) s
        → StepsDown StartStep s disc rack fault new.disc after) → Refuses (Belong disc.held rack) StartStep disc rack fault new.disc after
    refuses_by steps = unchanged disc new.disc rack after only same_size same_disc none_written stay_durable fault stop no_causes rose kept steps

    stays_safe : IsDiscSafe disc → IsDiscSafe new.disc
    stays_safe is_safe = safe_stays disc new.disc same_disc stay_durable is_safe

  module _ (told : AllTold disc.held (told_reels rack)) (belong : Belong disc.held rack) where
    abbrev at : state.State
    at = start.there disc rack told belong o.contents holds

    abbrev kk : state.Holding
    kk = start.k disc rack told belong o.contents holds

    refused_step : (out : Outcome) (fault : StoreFault) (s : state.State) → DevicesStandFor disc.size disc.held (told_reels rack) s
        → Starts at (Some kk) out (Err fault) at → StartStep s out (Err fault) s
    refused_step out fault s devices step = subst (λ (x : state.State). StartStep x out (Err fault) x) (sym (start.is_there disc rack told belong o.contents holds s devices)) step

    unmounted_step : (i : Intent) → IsIntent o rack false i → Starts at (Some kk) Plain (Err (MountFirst i.serial)) at
    unmounted_step i intent =
        subst
        (λ (r : Option StoreFault).
        Event r (option_map (λ (d : state.Dumped). d.number) (dump_adopted at kk)) at (coming_up at (adopted (dump_adopted at kk) kk)) (Err (MountFirst i.serial)) at)
        (sym (start.refuses_with at kk (Some i.serial) false false (start.reel_first disc rack told belong o.contents holds i intent.is intent.mounted_is)))
        (refl, refl)

    -- no reel of an intent is in the way
    none_down : (intent : Option Intent) → o.contents.head.intent ≡ intent → IfSome intent (λ i. is_mounted (reel i.serial rack.reels) ≡ true) → unmounted_reel at kk.intent ≡ None
    none_down None is up = start.no_reel disc rack told belong o.contents holds is
    none_down (Some i) is up = start.reel_up disc rack told belong o.contents holds i is up

    unread_step : IfSome o.contents.head.intent (λ i. is_mounted (reel i.serial rack.reels) ≡ true) → Starts at (Some kk) TapeRead (Err TapeReadFault) at
    unread_step up =
        subst
        (λ (r : Option StoreFault).
        Event r (option_map (λ (d : state.Dumped). d.number) (dump_adopted at kk)) at (coming_up at (adopted (dump_adopted at kk) kk)) (Err TapeReadFault) at)
        (sym (start.refuses_with at kk None true false (none_down o.contents.head.intent refl up)))
        (refl, refl)

-- AFTER THE DUMP OF THE INTENT WAS ADOPTED
module _ (disc : DiscState) (rack : Rack) (o : OnlineFacts) (loaded : HasLoaded disc o) (new : OnlineFacts) (after : Rack) where
  pub begun_is : (answer : Option ℕ) → TakesOver o rack (Ok answer) new after → Begun disc rack answer (store_of new after)
  begun_is None taken =
      let kept = taken.kept (λ e. let no : ⊥ = cc in no) in
      subst (λ (x : OnlineFacts). Begun disc rack None (store_of x after)) (sym taken.takes.same)
      (begun_as_it_was disc rack o loaded after taken.reads (subst IsTied taken.takes.same taken.tied) kept taken.takes.none)
  begun_is (Some number) taken =
      let (it, number_is) = taken.takes in
      let counts : Causes ⊥ ⊥ o.disc new.disc = Causes-for (λ p. p) (λ p. p) (λ e. absurd (let no : ⊥ = cc in no)) (λ is. absurd is) taken.causes in
      subst (λ (n : ℕ). Begun disc rack (Some n) (store_of new after)) (sym number_is)
      (begun_with disc rack o loaded after taken.reads it.intent it.is it.files it.found new taken.tied taken.told counts (taken.kept (λ e. let no : ⊥ = cc in no)) it.leaves)

  abbrev Says : StoreFault → Type 0
  Says fault = TakesOver o rack (Err fault) new after → RefusesStart disc rack fault new.disc after

  rose_by : (fault : StoreFault) → TakesOver o rack (Err fault) new after → fault ≡ TapeReadFault → Rose rack.read_faults after.read_faults
  rose_by fault taken is = taken.rose (ap Err is)

  kept_by : (fault : StoreFault) → TakesOver o rack (Err fault) new after → (fault ≡ TapeReadFault → ⊥) → after.read_faults ≡ rack.read_faults
  kept_by fault taken never = taken.kept (λ is. never (same_refusal fault TapeReadFault is))

  mount_said : (serial : ℕ) → Says (MountFirst serial)
  mount_said serial taken =
      let (same, i, is, serial_is) = taken.takes in
      let fault = MountFirst serial in
      let read : fault ≢ DiscReadFault = λ e. let no : ⊥ = cc in no in
      let stop : fault ≢ Stopped = λ e. let no : ⊥ = cc in no in
      record {
        refuses = refuses_by disc rack o loaded after taken.reads new same fault (rose_by fault taken) (kept_by fault taken) read stop
            (λ told belong s devices. record {
              after = s;
              left = left_same disc rack o loaded after taken.reads new same fault (rose_by fault taken) (kept_by fault taken) read stop s devices;
              outcome = Plain;
              raised = tt;
              step = refused_step disc rack o loaded after taken.reads told belong Plain fault s devices
                  (subst (λ (n : ℕ). Starts (start.there disc rack told belong o.contents loaded.holds) (Some (start.k disc rack told belong o.contents loaded.holds)) Plain (Err (MountFirst n))
                  (start.there disc rack told belong o.contents loaded.holds)) (sym serial_is) (unmounted_step disc rack o loaded after taken.reads told belong i is));
            });
        safe = stays_safe disc rack o loaded after taken.reads new same fault (rose_by fault taken) (kept_by fault taken) read stop;
        first = λ n e. let at : n ≡ serial = cc in subst (λ (m : ℕ). is_mounted (reel m rack.reels) ≡ false) (sym (at ∙ serial_is)) is.mounted_is;
        none = λ e. let no : ⊥ = cc in absurd no;
        named = λ n e blocks was. let at : n ≡ serial = cc in (o.contents, loaded.holds blocks was, i, is.is, sym (at ∙ serial_is));
        stopped = λ e. let no : ⊥ = cc in absurd no;
        only = tt;
      }

  unread_said : Says TapeReadFault
  unread_said taken =
      let (same, up) = taken.takes in
      let read : TapeReadFault ≢ DiscReadFault = λ e. let no : ⊥ = cc in no in
      let stop : TapeReadFault ≢ Stopped = λ e. let no : ⊥ = cc in no in
      record {
        refuses = refuses_by disc rack o loaded after taken.reads new same TapeReadFault (rose_by TapeReadFault taken) (kept_by TapeReadFault taken) read stop
            (λ told belong s devices. record {
              after = s;
              left = left_same disc rack o loaded after taken.reads new same TapeReadFault (rose_by TapeReadFault taken) (kept_by TapeReadFault taken) read stop s devices;
              outcome = TapeRead;
              raised = taken.rose refl;
              step = refused_step disc rack o loaded after taken.reads told belong TapeRead TapeReadFault s devices (unread_step disc rack o loaded after taken.reads told belong up);
            });
        safe = stays_safe disc rack o loaded after taken.reads new same TapeReadFault (rose_by TapeReadFault taken) (kept_by TapeReadFault taken) read stop;
        first = λ n e. let no : ⊥ = cc in absurd no;
        none = λ e. let no : ⊥ = cc in absurd no;
        named = λ serial e. let no : ⊥ = cc in absurd no;
        stopped = λ e. let no : ⊥ = cc in absurd no;
        only = tt;
      }

  starved_said : Says NoMemory
  starved_said taken =
      let same = taken.takes in
      let read : NoMemory ≢ DiscReadFault = λ e. let no : ⊥ = cc in no in
      let stop : NoMemory ≢ Stopped = λ e. let no : ⊥ = cc in no in
      record {
        refuses = refuses_by disc rack o loaded after taken.reads new same NoMemory (rose_by NoMemory taken) (kept_by NoMemory taken) read stop
            (λ told belong s devices. left_same disc rack o loaded after taken.reads new same NoMemory (rose_by NoMemory taken) (kept_by NoMemory taken) read stop s devices);
        safe = stays_safe disc rack o loaded after taken.reads new same NoMemory (rose_by NoMemory taken) (kept_by NoMemory taken) read stop;
        first = λ n e. let no : ⊥ = cc in absurd no;
        none = λ e. let no : ⊥ = cc in absurd no;
        named = λ serial e. let no : ⊥ = cc in absurd no;
        stopped = λ e. let no : ⊥ = cc in absurd no;
        only = tt;
      }

  cut_said : Says Stopped
  cut_said taken =
      let it = taken.takes in
      let counts : Causes ⊥ (Unit {0}) o.disc new.disc = Causes-for (λ p. p) (λ p. p) (λ _. tt) (λ _. refl) taken.causes in
      cut_is disc rack o loaded after taken.reads it.intent it.is it.files it.found new taken.told counts (kept_by Stopped taken (λ e. let no : ⊥ = cc in no)) it.leaves

  pub start_refused : (fault : StoreFault) → Says fault
  start_refused (MountFirst serial) taken = mount_said serial taken
  start_refused TapeReadFault taken = unread_said taken
  start_refused NoMemory taken = starved_said taken
  start_refused Stopped taken = cut_said taken
  start_refused fault taken = absurd taken.takes

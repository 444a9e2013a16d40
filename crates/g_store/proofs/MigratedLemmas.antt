-- How a store answers a migration.
-- serves: migrate
use Rattle.std.proofs.Common.{◌≡◌, ◌≢◌, ℕ, ◌+◌, Bool, true, false, List, [], ◌∷◌, Option, Some, None, is_some, Result, Ok, Err, refl, sym, ◌∙◌, ap, arith, subst, inl, inr}
use Rattle.std.specs.Prelude.{◌⊎◌, ◌||◌, ◌<◌, ◌↔◌, Contains, IfErr, IfSome, OnErr, is_none, not, if◌then◌else◌}
use Rattle.std.proofs.lemmas.Bool.{false≢true}
use Rattle.std.proofs.lemmas.Option.{none-some}
use Rattle.g_base.specs.Counts.{RoseBy}
use Rattle.g_disc.specs.Disc.{Causes}
use Rattle.g_disc.proofs.CallLemmas.{Causes-for, Causes-none}
use Rattle.g_entry.specs.declared.file_rec.FileRec.{FileRec}
use Rattle.g_entry.specs.declared.file_rec.TapeCopy.{TapeCopy}
use Rattle.g_entry.specs.declared.user_rec.UserRec.{UserRec}
use Rattle.g_tape.specs.Rack.{Rack}
use Rattle.g_tape.proofs.ReadLemmas.{nothing_read}
use Rattle.g_name.specs.declared.full.Full.{Full}
use Rattle.g_name.specs.declared.path.Path.{Path}
use Rattle.g_plain.specs.declared.faults.StoreFault.{StoreFault}
use Rattle.g_plain.specs.declared.faults.StoreFault.TheVariants.{DiscReadFault, NoFile, NoMemory, NoUser, NotDumped, Offline, Stopped, TapeReadFault}
use Rattle.g_plain.specs.PlainStep.{first_fault}
use Rattle.g_plain.specs.PlainTree.{Tree, has_file, has_user, input_name}
use Rattle.g_plain.proofs.Found.{some_of}
use Rattle.g_tree.specs.Records.{ForTree, tree_of}
use Rattle.g_disc_contents.specs.Contents.{Contents, File, Holds, committed, recs_in, taken_off}
use Rattle.g_disc_contents.specs.Facts.{OnlineFacts}
use Rattle.g_online.specs.AllowedChanges.{HasNumber}
use Rattle.g_online.specs.declared.change.Change.TheVariants.{Unload}
use Rattle.g_online.specs.Change.{changed, with_files}
use Rattle.g_online.specs.Outcomes.{HasChanged, HasStopped}
use Rattle.g_store_model.specs.State as state
use Rattle.g_store_model.specs.CallStep.{Cut, Outcome, Plain, commits, down, is_cut, stamp_of}
use Rattle.g_store_model.specs.DumpSteps.{Event, MigrateStep, migrate_refuses}
use Rattle.g_store_meaning.specs.Answers.{Belongs, HasCause, IsStore, Told}
use Rattle.g_store_meaning.specs.Meaning.{told_reels}
use Rattle.g_store_meaning.specs.Reading.{AllTold, DevicesStandFor, IsOpenView, IsView, StandsForState, View, holding_of, state_down, state_up, users_not_in}
use Rattle.g_store_meaning.specs.StoreInvariant.{DumpFacts, IsOpen, StoreFacts}
use Rattle.g_store_meaning.proofs.ViewLemmas.{Stands, back}
use Rattle.g_laws_store.specs.Rooms.{held_in}
use Rattle.g_migrate.specs.Invariant.{KeepsStore, with_online}
use Rattle.g_migrate.specs.Migration.{HasMigrated}
use Rattle.g_migrate.proofs.KeepsLemmas.{keeps_stopped}
use Rattle.g_store.specs.Events.{IsAnsweredBy, IsOfMigration, LeadsBy, Migrates, StepsBy, WroteBy}
use Rattle.g_store.specs.Naming.{IsNamedFile, named_answer, naming_refuses, stops}
use Rattle.g_store.specs.Refusing.{IsExact}
use Rattle.g_store.proofs.EventLemmas.{held_by, leads_same, none_written, refused}
use Rattle.g_store.proofs.MigrateLemmas.{IsFileOf, file_of, down_before, down_behind, name_refused, refusal_is, stamp_is, state_done, tree_in, two_faults, unload_is, view_off}
use Rattle.g_store_calls.proofs.RecordLemmas.{devices_hold}
use Rattle.g_store_calls.proofs.SeenLemmas.{Seen, seen, stands}
use Rattle.g_store_calls.proofs.SurvivalLemmas.{IsStoppedAt, stays_durable, stop_survives}
use Rattle.g_store_calls.proofs.BehindLemmas.{files_seen, told_then}

abbrev pub MigratesBy : Path → state.State → state.Holding → Outcome → Result Full StoreFault → state.State → Type 0
MigratesBy path s k o a n = MigrateStep s k path.user (input_name k.tree [] path) o a n

-- what else holds of a refusal that changes nothing
exact_some : (refusal : Option StoreFault) (t : StoreFacts) (fault : StoreFault) → refusal ≡ Some fault → (let r : Result Full StoreFault = Err fault in IsExact refusal IsOfMigration t r t)
exact_some refusal t fault is = record {
  refused = subst (λ (o : Option StoreFault). IfSome o (λ f. (let r : Result Full StoreFault = Err fault in r ≡ Err f) × (t ≡ t))) (sym is) (refl, refl);
  granted = λ none. absurd (none-some fault (sym none ∙ is));
}

exact_none : (refusal : Option StoreFault) (t new : StoreFacts) (r : Result Full StoreFault) → refusal ≡ None → IfErr r IsOfMigration → IsExact refusal IsOfMigration t r new
exact_none refusal t new r is others = record {
  refused = subst (λ (o : Option StoreFault). IfSome o (λ f. (r ≡ Err f) × (new ≡ t))) (sym is) tt;
  granted = λ _. others;
}

no_cause : (t : StoreFacts) (fault : StoreFault) → fault ≢ DiscReadFault → fault ≢ TapeReadFault → fault ≢ Stopped → (let r : Result Full StoreFault = Err fault in HasCause t t r)
no_cause t fault disc tape stop = record {
  disc = Causes-none t.online.disc (λ is. disc (let same : fault ≡ DiscReadFault = cc in same)) (λ is. stop (let same : fault ≡ Stopped = cc in same));
  tapes = nothing_read t.rack;
  tape_read = λ is. absurd (tape (let same : fault ≡ TapeReadFault = cc in same));
  tape_read_only = λ _. refl;
  writes = λ f is other. refl;
}

stands_spent : (o : OnlineFacts) (dump : Option DumpFacts) (u : state.State) (rack : Rack) → DevicesStandFor o.disc.size o.disc.held (told_reels rack) u
    → StandsForState (record { online = o; rack = rack; dump = dump; spent = true }) u
unfolding Stands
stands_spent o dump u rack is = let devices : Stands true o dump u (told_reels rack) = is in back true o dump u rack devices

one_of_two : (tree : Tree) (path : Path) (fault : StoreFault) → naming_refuses tree path ≡ Some fault → (NoUser ≡ fault) ⊎ (NoFile ≡ fault)
one_of_two tree path fault is =
    two_faults (is_none path.user || not (has_user tree (input_name tree [] path).user)) (not (has_file tree (input_name tree [] path))) fault is

module _ (path : Path) (t : StoreFacts) (unspent : t.spent ≡ false) (keeps : IsStore t) where
  abbrev c : Contents
  c = t.online.contents

  abbrev up : View → state.State
  up v = state_up v (told_reels t.rack) t.online t.dump

  abbrev k : View → state.Holding
  k v = held_in v t.online

  abbrev n : View → Full
  n v = input_name (k v).tree [] path

  abbrev target : View → ℕ → state.State
  target v stamp = commits (up v) (record (k v) { places = state.with_online false stamp (k v).places })

  abbrev behind : View → state.State
  behind v = target v (stamp_of (k v).tree (n v))

  -- which is refused for this reason, for any bytes
  abbrev RefusesAll : StoreFault → Type 0
  RefusesAll fault = (text : ℕ → List ℕ) (kept : List UserRec)
      → migrate_refuses (holding_of text kept c) path.user (input_name (tree_in text c) [] path) Plain ≡ Some fault

  refused_by : (fault : StoreFault) → ((u : state.State) → LeadsBy (MigratesBy path) u t t (Err fault) → StepsBy (MigratesBy path) u t (Err fault) t)
      → WroteBy (λ (full : Full). 1) t (Err fault) t → ((s after : state.State) (full : Full) → Event (Some fault) full s after (Err fault) s)
      → fault ≢ DiscReadFault → fault ≢ TapeReadFault → fault ≢ Stopped → RefusesAll fault → Migrates path t (Err fault) t
  refused_by fault cast wrote event disc tape stop is = record {
    event = refused (MigratesBy path) (λ full. 1) t unspent fault stop keeps
        (λ u here.
        cast u
        (leads_same (MigratesBy path) (λ full. 1) t unspent fault u here
        (λ v. subst (λ (r : Option StoreFault). Event r (n v) (up v) (behind v) (Err fault) (up v)) (sym (is v.text (users_not_in t.online.changed c.users))) (event (up v) (behind v) (n v)))))
        wrote;
    cause = no_cause t fault disc tape stop;
    dump = λ _. refl;
    same = λ _. refl;
    exact = λ text. exact_some _ t fault (is text []);
    done = tt;
    stopped = λ is. absurd (stop (let same : fault ≡ Stopped = cc in same));
  }

  -- the path names no file
  abbrev Unnamed : StoreFault → Type 0
  Unnamed fault = (text : ℕ → List ℕ) → naming_refuses (tree_in text c) path ≡ Some fault

  pub unnamed : (fault : StoreFault) → Unnamed fault → Migrates path t (Err fault) t
  unnamed fault is = by_fault (one_of_two (tree_in (λ stamp. []) c) path fault (is (λ stamp. [])))
    where
      by_fault : (NoUser ≡ fault) ⊎ (NoFile ≡ fault) → Migrates path t (Err fault) t
      by_fault (inl same) =
          subst (λ (f : StoreFault). Unnamed f → Migrates path t (Err f) t) same
          (λ no.
          refused_by NoUser (λ u leads. leads) (none_written t) (λ s after full. (refl, refl)) (λ e. let no : ⊥ = cc in no) (λ e. let no : ⊥ = cc in no) (λ e. let no : ⊥ = cc in no)
          (λ text kept. name_refused c path text kept NoUser Plain (no text))) is
      by_fault (inr same) =
          subst (λ (f : StoreFault). Unnamed f → Migrates path t (Err f) t) same
          (λ no.
          refused_by NoFile (λ u leads. leads) (none_written t) (λ s after full. (refl, refl)) (λ e. let no : ⊥ = cc in no) (λ e. let no : ⊥ = cc in no) (λ e. let no : ⊥ = cc in no)
          (λ text kept. name_refused c path text kept NoFile Plain (no text))) is

  -- THE FILE IS THERE
  module _ (full : Full) (f : File) (is : IsFileOf c path full f) where
    offline : f.online ≡ false → Migrates path t (Err Offline) t
    offline off =
        refused_by Offline (λ u leads. leads) (none_written t) (λ s after full. (refl, refl)) (λ e. let no : ⊥ = cc in no) (λ e. let no : ⊥ = cc in no) (λ e. let no : ⊥ = cc in no)
        (λ text kept. refusal_is c path text kept full f is Plain ∙ (λ i. first_fault ((not (off i), Offline) ∷ (is_none f.rec.tape, NotDumped) ∷ (false, Stopped) ∷ [])))

    undumped : f.online ≡ true → f.rec.tape ≡ None → Migrates path t (Err NotDumped) t
    undumped on none =
        refused_by NotDumped (λ u leads. leads) (none_written t) (λ s after full. (refl, refl)) (λ e. let no : ⊥ = cc in no) (λ e. let no : ⊥ = cc in no) (λ e. let no : ⊥ = cc in no)
        (λ text kept.
        refusal_is c path text kept full f is Plain ∙ (λ i. first_fault ((not (on i), Offline) ∷ (is_none (none i), NotDumped) ∷ (false, Stopped) ∷ [])))

    -- and may be taken off
    module _ (on : f.online ≡ true) (copied : is_none f.rec.tape ≡ false) where
      granted : (out : Outcome) (text : ℕ → List ℕ) (kept : List UserRec)
          → migrate_refuses (holding_of text kept c) path.user (input_name (tree_in text c) [] path) out ≡ first_fault ((is_cut out, Stopped) ∷ [])
      granted out text kept =
          refusal_is c path text kept full f is out ∙ (λ i. first_fault ((not (on i), Offline) ∷ (copied i, NotDumped) ∷ (is_cut out, Stopped) ∷ []))

      forgetful : Migrates path t (Err NoMemory) t
      forgetful = record {
        event = refused (MigratesBy path) (λ full. 1) t unspent NoMemory (λ e. let no : ⊥ = cc in no) keeps (λ u here. here) (none_written t);
        cause = no_cause t NoMemory (λ e. let no : ⊥ = cc in no) (λ e. let no : ⊥ = cc in no) (λ e. let no : ⊥ = cc in no);
        dump = λ _. refl;
        same = λ _. refl;
        exact = λ text. exact_none _ t t (Err NoMemory) (granted Plain text []) (inr refl);
        done = tt;
        stopped = λ is. absurd (let no : ⊥ = cc in no);
      }

      pinned_by : (dump : Option DumpFacts) → t.dump ≡ dump → IfSome dump (λ d. IsOpen d t.online t.rack) → is_some t.online.pins ≡ is_some dump
      pinned_by None none open_is = ap is_some (keeps.pins unspent none)
      pinned_by (Some d) some open_is = ap is_some open_is.pinned

      pinned : is_some t.online.pins ≡ is_some t.dump
      pinned = pinned_by t.dump refl (keeps.open_dump unspent)

      abbrev e : Contents
      e = with_files (taken_off (f.rec.number ∷ []) c.files) c

      committed_files : (b : Bool) → (committed b e).files ≡ taken_off (f.rec.number ∷ []) c.files
      committed_files true = refl
      committed_files false = refl

      module _ (new : OnlineFacts) (same : is_some new.disc.held ≡ is_some t.online.disc.held) (size : new.disc.size ≡ t.online.disc.size) (keep : KeepsStore t.online new) where
        abbrev held_new : Option (List (List ℕ))
        held_new = new.disc.held

        back_to : AllTold held_new (told_reels t.rack) → Told t
        back_to told = told_then t.online.disc.held held_new (told_reels t.rack) same told

        told_on : Told t → AllTold held_new (told_reels t.rack)
        told_on told = told_then held_new t.online.disc.held (told_reels t.rack) (sym same) told

        -- by one commit
        module _ (done : HasChanged (Unload (f.rec.number ∷ [])) t.online new) where
          abbrev after : StoreFacts
          after = record t { online = new; spent = false }

          kept_after : (P : StoreFacts → Type 0) → P (with_online new t) → P after
          kept_after P was = subst (λ (b : Bool). P (record t { online = new; spent = not b })) done.live was

          contents_are : new.contents ≡ committed (is_some t.online.pins) e
          contents_are = done.contents ∙ unload_is (is_some t.online.disc.held) (is_some t.online.pins) (f.rec.number ∷ []) c

          touched_by : (dump : Option DumpFacts) → IfSome dump (λ d. IsOpen d t.online t.rack) → IfSome dump (λ d. new.touched ≡ t.online.touched)
          touched_by None open_is = tt
          touched_by (Some d) open_is = done.touched ∙ ap (λ (b : Bool). if b then t.online.touched else []) (ap is_some open_is.pinned)

          open_view : (v : View) (dump : Option DumpFacts) → IsOpenView (told_reels t.rack) v t.online dump → IsOpenView (told_reels t.rack) v new dump
          open_view v dump opens = record { is = λ told pins pinned. opens.is (back_to told) pins (sym done.pins ∙ pinned) }

          leads_done : Belongs t → (u : state.State) → StandsForState t u → LeadsBy (MigratesBy path) u t after (Ok full)
          leads_done belongs u here =
              let sn = seen t u unspent here in
              let v = sn.view in
              let end = state_up v (told_reels t.rack) new t.dump in
              let state_is : end ≡ behind v =
              state_done v (told_reels t.rack) t.online t.dump path full f is new pinned contents_are size done.changed done.pins (touched_by t.dump (keeps.open_dump unspent))
              ∙ ap (target v) (sym (stamp_is c path v.text (users_not_in t.online.changed c.users) full f is)) in
              let right : Seen after end = record {
                view = v;
                is = view_off t unspent keeps belongs v sn.is held_new (f.rec.number ∷ []) new.contents same (ap (λ (x : Contents). x.files) contents_are ∙ committed_files (is_some t.online.pins));
                opens = open_view v t.dump sn.opens;
                state_is = refl;
              } in
              record {
                after = end;
                left = stands after end refl right;
                held = k v;
                holds = held_by t u sn;
                outcome = Plain;
                raised = tt;
                step = subst (λ (s : state.State). MigratesBy path s (k v) Plain (Ok full) end) (sym sn.state_is)
                    (subst (λ (r : Option StoreFault). Event r (n v) (up v) (behind v) (Ok full) end) (sym (granted Plain v.text (users_not_in t.online.changed c.users)))
                    (ap Ok (is.name v.text).full_is, state_is));
              }

          pub migrated : Causes ⊥ ⊥ t.online.disc new.disc → Migrates path t (Ok full) after
          migrated causes = record {
            event = record {
              step = λ told belongs u here. leads_done belongs u here;
              wrote = record { blocks = done.blocks; commits = done.commits; writes = (let none : 0 + done.blocks ≡ done.blocks = omega arith in subst (λ (m : ℕ). RoseBy m t.online.disc.writes new.disc.writes) none done.writes) };
              keeps = kept_after IsStore (keep.store t refl unspent keeps);
              told = told_on;
              belongs = λ told was. kept_after Belongs (keep.belongs t refl unspent keeps was);
              spent = (λ is. absurd (false≢true is), λ is. absurd (let no : ⊥ = cc in no));
              survives = stays_durable (IsAnsweredBy (MigratesBy path) t (Ok full)) t after refl done.durable;
            };
            cause = record {
              disc = Causes-for (λ no. absurd no) (λ is. (let no : ⊥ = cc in no)) (λ no. absurd no) (λ is. (let no : ⊥ = cc in no)) causes;
              tapes = nothing_read t.rack;
              tape_read = λ is. absurd (let no : ⊥ = cc in no);
              tape_read_only = λ _. refl;
              writes = λ fault is other. absurd (let no : ⊥ = cc in no);
            };
            dump = λ _. refl;
            same = tt;
            exact = λ text. exact_none _ t after (Ok full) (granted Plain text []) tt;
            done = record { number = f.rec.number; named = is.named; leaves = done };
            stopped = λ is. absurd (let no : ⊥ = cc in no);
          }

        -- stopped
        module _ (stopped : HasStopped (Unload (f.rec.number ∷ [])) t.online new) where
          abbrev spent : StoreFacts
          spent = record t { online = new; spent = true }

          kept_spent : (P : StoreFacts → Type 0) → P (with_online new t) → P spent
          kept_spent P was = subst (λ (b : Bool). P (record t { online = new; spent = not b })) stopped.live was

          module _ (causes : Causes ⊥ (Unit {0}) t.online.disc new.disc) (belongs : Belongs t) (u : state.State) (here : StandsForState t u) where
            abbrev sn : Seen t u
            sn = seen t u unspent here

            abbrev v : View
            v = sn.view

            leads_by : (x : Contents) (blocks : List (List ℕ)) → held_new ≡ Some blocks → Holds blocks x → IsView held_new (told_reels t.rack) x v
                → (let end = state_down v (told_reels t.rack) new.disc.size (Some x) in (end ≡ down (up v)) ⊎ (end ≡ down (behind v))) → LeadsBy (MigratesBy path) u t spent (Err Stopped)
            leads_by x blocks held holds view which =
                let end = state_down v (told_reels t.rack) new.disc.size (Some x) in
                let devices = devices_hold new.disc.size held_new (told_reels t.rack) end v x blocks held holds view refl in
                record {
                  after = end;
                  left = stands_spent new t.dump end t.rack devices;
                  held = k v;
                  holds = held_by t u sn;
                  outcome = Cut;
                  raised = inl (causes.writes_rose tt);
                  step = subst (λ (s : state.State). MigratesBy path s (k v) Cut (Err Stopped) end) (sym sn.state_is)
                      (subst (λ (r : Option StoreFault). Event r (n v) (up v) (behind v) (Err Stopped) end) (sym (granted Cut v.text (users_not_in t.online.changed c.users))) (refl, which));
                }

            leads_one : (blocks : List (List ℕ)) → held_new ≡ Some blocks
                → Holds blocks c ⊎ (((0 < 0) × Holds blocks (committed (is_some t.online.pins) (with_files (taken_off [] c.files) c))) ⊎ Holds blocks (changed true (is_some t.online.pins) (Unload (f.rec.number ∷ [])) c))
                → LeadsBy (MigratesBy path) u t spent (Err Stopped)
            leads_one blocks held (inl holds) =
                leads_by c blocks held holds (files_seen t.online.disc.held held_new (told_reels t.rack) v c same sn.is)
                (inl (down_before v (told_reels t.rack) t.online t.dump path full f is new pinned size))
            leads_one blocks held (inr (inl (less, mid))) = absurd (omega (arith, less))
            leads_one blocks held (inr (inr holds)) =
                leads_by (committed (is_some t.online.pins) e) blocks held (subst (Holds blocks) (unload_is true (is_some t.online.pins) (f.rec.number ∷ []) c) holds)
                (view_off t unspent keeps belongs v sn.is held_new (f.rec.number ∷ []) (committed (is_some t.online.pins) e) same (committed_files (is_some t.online.pins)))
                (inr (down_behind v (told_reels t.rack) t.online t.dump path full f is new pinned size
                ∙ ap (λ (x : ℕ). down (target v x)) (sym (stamp_is c path v.text (users_not_in t.online.changed c.users) full f is))))

            leads_stopped : Told t → LeadsBy (MigratesBy path) u t spent (Err Stopped)
            leads_stopped told =
                let (blocks, held) = some_of held_new (same ∙ told.disc) in leads_one blocks held (stopped.holds blocks held).one

      -- stopped, with any disc that the failed write may have left
      module _ (new : OnlineFacts) (same : is_some new.disc.held ≡ is_some t.online.disc.held) (size : new.disc.size ≡ t.online.disc.size) (keep : KeepsStore t.online new)
          (stopped : HasStopped (Unload (f.rec.number ∷ [])) t.online new) where
        stopped_is : (x : OnlineFacts) → IsStoppedAt (Unload (f.rec.number ∷ [])) t.online x → IsAnsweredBy (MigratesBy path) t (Err Stopped) (record t { online = x; spent = true })
        stopped_is x at =
            let keep_x = keeps_stopped (f.rec.number ∷ []) t.online x at.stopped at.tied in record {
              step = λ told belongs u here. leads_stopped x at.tells at.size keep_x at.stopped at.causes belongs u here told;
              belongs = λ told was. kept_spent x at.tells at.size keep_x at.stopped Belongs (keep_x.belongs t refl unspent keeps was);
            }

        pub cut : Causes ⊥ (Unit {0}) t.online.disc new.disc → Migrates path t (Err Stopped) (record t { online = new; spent = true })
        cut causes =
            let store_then = keep.store t refl unspent keeps in
            let at : IsStoppedAt (Unload (f.rec.number ∷ [])) t.online new = record { tied = store_then.tied; size = size; tells = same; stopped = stopped; causes = causes } in
            let is_now = stopped_is new at in record {
              event = record {
                step = is_now.step;
                wrote = tt;
                keeps = kept_spent new same size keep stopped IsStore store_then;
                told = λ told. told_then new.disc.held t.online.disc.held (told_reels t.rack) (sym same) told;
                belongs = is_now.belongs;
                spent = (λ _. refl, λ _. refl);
                survives = stop_survives (IsAnsweredBy (MigratesBy path) t (Err Stopped)) (Unload (f.rec.number ∷ [])) t (record t { online = new; spent = true }) refl at stopped_is;
              };
              cause = record {
                disc = Causes-for (λ no. absurd no) (λ is. (let no : ⊥ = cc in no)) (λ _. refl) (λ _. tt) causes;
                tapes = nothing_read t.rack;
                tape_read = λ is. absurd (let no : ⊥ = cc in no);
                tape_read_only = λ _. refl;
                writes = λ fault is other. absurd (other (let it : fault ≡ Stopped = cc in it));
              };
              dump = λ none. absurd (none refl);
              same = λ other. absurd (other refl);
              exact = λ text. exact_none _ t (record t { online = new; spent = true }) (Err Stopped) (granted Plain text []) (inl refl);
              done = tt;
              stopped = λ _. (full, record { number = f.rec.number; named = is.named; leaves = stopped });
            }

-- BY WHAT THE FILESTORE ANSWERED
unnamed_in : (users : List UserRec) (files : List FileRec) (c : Contents) (path : Path) (fault : StoreFault) → users ≡ c.users → files ≡ recs_in c
    → ForTree users files (λ tree. naming_refuses tree path ≡ Some fault) → (text : ℕ → List ℕ) → naming_refuses (tree_in text c) path ≡ Some fault
unnamed_in users files c path fault us fs is text =
    subst (λ (xs : List UserRec). naming_refuses (tree_of xs (recs_in c) (λ (r : FileRec). text r.stamp) c.head.next_stamp) path ≡ Some fault) us
    (subst (λ (xs : List FileRec). naming_refuses (tree_of users xs (λ (r : FileRec). text r.stamp) c.head.next_stamp) path ≡ Some fault) fs (is (λ (r : FileRec). text r.stamp) c.head.next_stamp))

pub path_unnamed : (path : Path) (t : StoreFacts) → t.spent ≡ false → IsStore t → (users : List UserRec) (files : List FileRec) (fault : StoreFault) → users ≡ t.online.contents.users
    → files ≡ recs_in t.online.contents → ForTree users files (λ tree. naming_refuses tree path ≡ Some fault) → Migrates path t (Err fault) t
path_unnamed path t unspent keeps users files fault us fs is = unnamed path t unspent keeps fault (unnamed_in users files t.online.contents path fault us fs is)

named_in : (users : List UserRec) (files : List FileRec) (c : Contents) (path : Path) (number : ℕ) (full : Full) → users ≡ c.users → files ≡ recs_in c
    → IsNamedFile users files path number full → IsNamedFile c.users (recs_in c) path number full
named_in users files c path number full us fs is =
    subst (λ (xs : List UserRec). IsNamedFile xs (recs_in c) path number full) us (subst (λ (xs : List FileRec). IsNamedFile users xs path number full) fs is)

pub number_used : (users : List UserRec) (files : List FileRec) (c : Contents) (path : Path) (number : ℕ) (full : Full) → users ≡ c.users → files ≡ recs_in c
    → IsNamedFile users files path number full → HasNumber c.files number
number_used users files c path number full us fs is =
    let (f, at, found) = file_of c path number full (named_in users files c path number full us fs is) in (f, found.there, at)

-- what the filestore said of the file
pub record Answered (f : File) (r : Result (Unit {0}) StoreFault) : Type 0 where
  pub offline : (r ≡ Err Offline) ↔ (f.online ≡ false)
  pub not_dumped : (r ≡ Err NotDumped) ↔ ((f.online ≡ true) × (f.rec.tape ≡ None))

is_online : (f : File) (r : Result (Unit {0}) StoreFault) → Answered f r → (r ≡ Err Offline → ⊥) → f.online ≡ true
is_online f r is isnt = by_test f.online refl
  where
    by_test : (b : Bool) → f.online ≡ b → f.online ≡ true
    by_test true on = on
    by_test false off = absurd (isnt (is.offline.1 off))

is_copied : (f : File) (r : Result (Unit {0}) StoreFault) → Answered f r → f.online ≡ true → (r ≡ Err NotDumped → ⊥) → is_none f.rec.tape ≡ false
is_copied f r is on isnt = by_copy f.rec.tape refl
  where
    by_copy : (copy : Option TapeCopy) → f.rec.tape ≡ copy → is_none f.rec.tape ≡ false
    by_copy None none = absurd (isnt (is.not_dumped.1 (on, none)))
    by_copy (Some x) some = ap is_none some

module _ (path : Path) (t : StoreFacts) (unspent : t.spent ≡ false) (keeps : IsStore t) (full : Full) (f : File) (is : IsFileOf t.online.contents path full f) (new : OnlineFacts) (keep : KeepsStore t.online new) where
  abbrev IsAnswered : Result (Unit {0}) StoreFault → Type 0
  IsAnswered r = HasMigrated f.rec.number t.online new r × Answered f r

  abbrev Then : Result (Unit {0}) StoreFault → Type 0
  Then r = Migrates path t (named_answer full r) (record t { online = new; spent = stops r })

  unchanged : (fault : StoreFault) → stops (Err fault) ≡ false → new ≡ t.online → Migrates path t (Err fault) t → Then (Err fault)
  unchanged fault quiet same was =
      let whole : t ≡ record t { online = new; spent = stops (Err fault) } = λ i. let s : StoreFacts = record t { online = sym same i; spent = (unspent ∙ sym quiet) i } in s in
      subst (λ (s : StoreFacts). Migrates path t (Err fault) s) whole was

  at_ok : (u : Unit {0}) → IsAnswered (Ok u) → Then (Ok u)
  at_ok u (done, said) =
      let on = is_online f (Ok u) said (λ e. let no : ⊥ = cc in no) in
      let copied = is_copied f (Ok u) said on (λ e. let no : ⊥ = cc in no) in
      migrated path t unspent keeps full f is on copied new done.told done.causes.size keep done.ok
      (Causes-for (λ p. p) (λ p. p) (λ e. absurd (let no : ⊥ = cc in no)) (λ no. absurd no) done.causes)

  at_offline : IsAnswered (Err Offline) → Then (Err Offline)
  at_offline (done, said) = unchanged Offline refl (done.same (λ e. let no : ⊥ = cc in no)) (offline path t unspent keeps full f is (said.offline.0 refl))

  at_undumped : IsAnswered (Err NotDumped) → Then (Err NotDumped)
  at_undumped (done, said) =
      let both = said.not_dumped.0 refl in unchanged NotDumped refl (done.same (λ e. let no : ⊥ = cc in no)) (undumped path t unspent keeps full f is both.0 both.1)

  at_memory : IsAnswered (Err NoMemory) → Then (Err NoMemory)
  at_memory (done, said) =
      let on = is_online f (Err NoMemory) said (λ e. let no : ⊥ = cc in no) in
      let copied = is_copied f (Err NoMemory) said on (λ e. let no : ⊥ = cc in no) in
      unchanged NoMemory refl (done.same (λ e. let no : ⊥ = cc in no)) (forgetful path t unspent keeps full f is on copied)

  at_stop : IsAnswered (Err Stopped) → Then (Err Stopped)
  at_stop (done, said) =
      let on = is_online f (Err Stopped) said (λ e. let no : ⊥ = cc in no) in
      let copied = is_copied f (Err Stopped) said on (λ e. let no : ⊥ = cc in no) in
      cut path t unspent keeps full f is on copied new done.told done.causes.size keep (done.stopped refl)
      (Causes-for (λ p. p) (λ p. p) (λ _. tt) (λ _. refl) done.causes)

  at : (r : Result (Unit {0}) StoreFault) → OnErr r ((r ≡ Err Offline) ⊎ ((r ≡ Err NotDumped) ⊎ ((r ≡ Err Stopped) ⊎ (r ≡ Err NoMemory)))) → IsAnswered r → Then r
  at (Ok u) only both = at_ok u both
  at (Err fault) (inl same) both = subst Then (sym same) (at_offline (subst IsAnswered same both))
  at (Err fault) (inr (inl same)) both = subst Then (sym same) (at_undumped (subst IsAnswered same both))
  at (Err fault) (inr (inr (inl same))) both = subst Then (sym same) (at_stop (subst IsAnswered same both))
  at (Err fault) (inr (inr (inr same))) both = subst Then (sym same) (at_memory (subst IsAnswered same both))

-- what the filestore promised
pub record HasAnswered (o : OnlineFacts) (number : ℕ) (new : OnlineFacts) (r : Result (Unit {0}) StoreFault) : Type 0 where
  pub offline : (f : File) → Contains o.contents.files f → f.rec.number ≡ number → (r ≡ Err Offline) ↔ (f.online ≡ false)
  pub not_dumped : (f : File) → Contains o.contents.files f → f.rec.number ≡ number → (r ≡ Err NotDumped) ↔ ((f.online ≡ true) × (f.rec.tape ≡ None))
  pub migrated : HasMigrated number o new r
  pub keeps : KeepsStore o new
  pub only : OnErr r ((r ≡ Err Offline) ⊎ ((r ≡ Err NotDumped) ⊎ ((r ≡ Err Stopped) ⊎ (r ≡ Err NoMemory))))

pub migrates : (path : Path) (old t : StoreFacts) → t ≡ old → old.spent ≡ false → IsStore t → (users : List UserRec) (files : List FileRec) → users ≡ t.online.contents.users
    → files ≡ recs_in t.online.contents → (number : ℕ) (full : Full) → IsNamedFile users files path number full → (new : OnlineFacts) (r : Result (Unit {0}) StoreFault) → HasAnswered t.online number new r
    → (answer : Result Full StoreFault) → answer ≡ named_answer full r → (spent : Bool) → spent ≡ stops r → Migrates path old answer (record t { online = new; spent = spent })
migrates path old t same unspent keeps users files us fs number full named new r said answer answer_is spent spent_is =
    let (f, numbered, is) = file_of t.online.contents path number full (named_in users files t.online.contents path number full us fs named) in
    let both : HasMigrated f.rec.number t.online new r × Answered f r =
    (subst (λ (m : ℕ). HasMigrated m t.online new r) (sym numbered) said.migrated, record { offline = said.offline f is.there numbered; not_dumped = said.not_dumped f is.there numbered }) in
    let done = at path t (ap (λ (s : StoreFacts). s.spent) same ∙ unspent) keeps full f is new said.keeps r said.only both in
    subst (λ (s : StoreFacts). Migrates path s answer (record t { online = new; spent = spent })) same
    (subst (λ (a : Result Full StoreFault). Migrates path t a (record t { online = new; spent = spent })) (sym answer_is)
    (subst (λ (b : Bool). Migrates path t (named_answer full r) (record t { online = new; spent = b })) (sym spent_is) done))

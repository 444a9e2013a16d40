-- The end of a run, after all its lines, and both devices after it.
-- serves: run_boxed, run_script, taken_down
use Rattle.std.proofs.Common.{◌≡◌, ◌⊎◌, ◌+◌, ◌++◌, ℕ, true, false, List, [], ◌∷◌, Option, Some, None, is_some, append_assoc, append-nil, refl, sym, ◌∙◌, ap, subst, inl, inr, arith}
use Rattle.std.specs.Fn.{Shared}
use denote.Ref.{Bor}
use Rattle.std.proofs.lemmas.Bool.{cases_Bool}
use Rattle.std.proofs.lemmas.Option.{none-some}
use Rattle.g_base.proofs.FuseLemmas.{within_none}
use Rattle.g_rules.specs.declared.tariff.Charge.{Charge}
use Rattle.g_rules.specs.declared.tariff.Usage.{Usage}
use Rattle.g_rules.specs.declared.rule.Standing.{Standing}
use Rattle.g_disc.specs.Disc.{DiscState}
use Rattle.g_io.specs.Streams.{HasPutPart, with_more}
use Rattle.g_job.specs.State.{JobState}
use Rattle.g_script.specs.declared.operator.Timed.{Timed}
use Rattle.g_store_meaning.specs.Meaning.{told_reels}
use Rattle.g_store_meaning.specs.Reading.{DevicesStandFor, StandsForState}
use Rattle.g_store_meaning.specs.Safety.{AreSafe}
use Rattle.g_store_meaning.specs.StoreInvariant.{StoreFacts}
use Rattle.g_store_model.specs.CallStep.{down}
use Rattle.g_store_model.specs.State.{State}
use Rattle.g_store.proofs.ArmLemmas.{spent_stands}
use Rattle.g_laws_power.proofs.DeviceLemmas.{stops_leave_safe}
use Rattle.g_laws_power.proofs.SurvivalLemmas.{store_survives}
use Rattle.g_tape.specs.Rack.{Rack}
use Rattle.g_run_model.proofs.StandLemmas.{read_as, stands_as}
use Rattle.g_run_model.specs.Devices.{AreReadAs, Devices, StandFor}
use Rattle.g_run_model.specs.Moves.{Move, MovesCounted, Over, Run}
use Rattle.g_run_model.specs.Texts.{closing, waiting_files}
use Rattle.g_run_model.specs.Lines.{disc_arms, tape_arms}
use Rattle.g_run_model.specs.Losses.{AsRead, SurvivesLoss}
use Rattle.g_run_model.specs.Top.{AreArmings, EndsShort, RunOf, SurvivesSoFar, numbers_of}
use Rattle.g_run_model.specs.World.{World, closed, is_due, nothing_steps, start}
use Rattle.g_run_model.proofs.ArmLemmas.{in_none}
use Rattle.g_run_model.proofs.CountLemmas.{counted_of, event_none, move_counted, moves_then}
use Rattle.g_run_model.proofs.LossLemmas.{survives_same}
use Rattle.g_run_model.proofs.TickLemmas.{over_move}
use Rattle.g_run_model.proofs.TurnLemmas.{run_append}
use Rattle.g_laws_runs.specs.BeginningAnew.{AreBlank, BeginAnew, NoDiscFault, with_new_disc}
use Rattle.g_job_table.specs.Crew.{CrewState}
use Rattle.g_day.specs.declared.progress.Failure.{Failure}
use Rattle.g_day.specs.declared.progress.Failure.TheVariants as failures
use Rattle.g_day.specs.BeginningAnew.{IsBlank, beside, beside_new}
use Rattle.g_operator.proofs.DownLemmas.{down_same}
use Rattle.g_day.proofs.LabelLemmas.{same_itself}
use Rattle.g_ticks.proofs.KeepLemmas.{kept_itself}
use Rattle.g_day.specs.Losses.{LeftAfter, Never}
use Rattle.g_day.specs.Parts.{Matches, Seen, seen}
use Rattle.g_day.specs.Puts.{FaultCause, HasGrown, Puts, PutsBy}
use Rattle.g_day.specs.System.{BelongTogether, Down, StandsAs, SystemBelongs, SystemFacts, SystemSafe, Up, devices_in, SameDevices}
use Rattle.g_day.proofs.PutLemmas.{grown_then, put_grown, with_more-append, with_more-nil}
use Rattle.g_ticks.proofs.SurvivingLemmas.{left_same}
use Rattle.g_ticks.proofs.TickLemmas.{put_on}
use Rattle.g_run.specs.ScriptEnd.{ClosesBy, DidScript, EndsBeside, TakenDown, both}
use Rattle.g_ticks.specs.Parts.{BeginsBy, DidAll, DumpsKept, IsAtRest, Keeps, LeadsFrom, Misses, PartGoesFrom, PartMisses}
use Rattle.g_run.specs.Top.{EndsBy, HasMissed}
use Rattle.g_run.proofs.AnewLemmas.{blank_devices}
use Rattle.g_run.proofs.TopLemmas.{whole_part}

-- A STATE OF DEVICES is down already
devices_down : (d : Devices) (u : State) → AreReadAs d u → AreReadAs d (down u)
devices_down d u is = subst (λ (s : State). AreReadAs d s) (sym (down_same d u is)) is

-- a store that is up
up_down : (s : StoreFacts) → (is_some s.online.disc.held ≡ true → s.spent ≡ false → (u : State) → StandsForState s u → DevicesStandFor s.online.disc.size s.online.disc.held (told_reels s.rack) (down u))
    → (u : State) → StandsAs (Up s) u → (let d : Devices = record { disc = s.online.disc; rack = s.rack } in AreReadAs d (down u))
up_down s clause u now = by (cases_Bool s.spent)
  where
    by : (s.spent ≡ true) ⊎ (s.spent ≡ false) → (let d : Devices = record { disc = s.online.disc; rack = s.rack } in AreReadAs d (down u))
    by (inl spent) =
        let d : Devices = record { disc = s.online.disc; rack = s.rack } in
        let is : AreReadAs d u = record { told = now.told; belong = now.belongs.devices; reads = spent_stands s spent u now.stands } in devices_down d u is
    by (inr unspent) = record { told = now.told; belong = now.belongs.devices; reads = clause now.told.disc unspent u now.stands }

pub up_taken_down : (s : StoreFacts) → (is_some s.online.disc.held ≡ true → s.spent ≡ false → (u : State) → StandsForState s u → DevicesStandFor s.online.disc.size s.online.disc.held (told_reels s.rack) (down u))
    → (disc : DiscState) (rack : Rack) → disc ≡ s.online.disc → rack ≡ s.rack → TakenDown (Up s) (both disc rack)
up_taken_down s clause disc rack disc_is rack_is =
    subst (λ (r : Rack). TakenDown (Up s) (both disc r)) (sym rack_is)
    (subst (λ (d : DiscState). TakenDown (Up s) (both d s.rack)) (sym disc_is) (record { devices = refl; stands = up_down s clause }))

pub down_taken_down : (d : Devices) → TakenDown (Down d) d
down_taken_down d = record { devices = refl; stands = λ u is. devices_down d u is.1 }

-- with a new disc
pub taken_beside : (f : SystemFacts) (new : Devices) → TakenDown f new → IsBlank f → TakenDown (beside_new f) (with_new_disc new)
taken_beside (Up s) new is blank = absurd blank
taken_beside (Down d) new is blank = subst (λ (x : Devices). TakenDown (Down (with_new_disc d)) (with_new_disc x)) (sym is.devices) (down_taken_down (with_new_disc d))

pub belongs_of : (f : SystemFacts) → SystemBelongs f → BelongTogether (devices_in f)
belongs_of (Up s) is = record { told = is.0; belong = is.1.devices }
belongs_of (Down d) is = is

-- the devices of a safe store are safe
pub safe_of : (f : SystemFacts) → SystemSafe f → AreSafe (devices_in f).disc (devices_in f).rack
safe_of (Up s) is = stops_leave_safe.down s is
safe_of (Down d) is = is

-- a system of which nothing is claimed
never_safe : (f : SystemFacts) → Never f → SystemSafe f
never_safe f never = absurd never

safe_itself : (f : SystemFacts) → SystemSafe f → SystemSafe f
safe_itself f is = is

-- before anything is done
abbrev nobody : CrewState
nobody = record { jobs = []; accounts = []; next_job = 1 }

-- WHAT A POWER LOSS LEAVES of the devices of a system, whether it is up or down
module _ {F U : Type 0} (tariffs : Shared F (Bor Usage × Unit {0}) Charge) (tariff : F) (rules : Shared U (Bor Standing × Unit {0}) ℕ) (rule : U) where
  pub system_left : (w : World) (moves : List Move) (last : World) (old : Devices) (f : SystemFacts) → Run tariffs tariff rules rule w moves last → SystemSafe f → StandsAs f last.store
      → LeftAfter tariffs tariff rules rule w moves last (Down old) f → SurvivesLoss tariffs tariff rules rule w moves last old (devices_in f)
  system_left w moves last old (Down d) ran safe stands left = left
  system_left w moves last old (Up s) ran safe stands left = λ blocks rack lost. inl (
    down last.store,
    AsRead moves [] last (record { split = sym (append-nil moves); led = ran; rest = refl }) refl,
    (store_survives s blocks rack safe lost).1 last.store stands.stands,
  )

module _ {F U : Type 0} (tariffs : Shared F (Bor Usage × Unit {0}) Charge) (tariff : F) (rules : Shared U (Bor Standing × Unit {0}) ℕ) (rule : U)
    (Safe : SystemFacts → Type 0) (sound : (f : SystemFacts) → Safe f → SystemSafe f)
    (lines : List Timed) (bad : Option ℕ) (old : Devices) (f : SystemFacts) (c : CrewState) (count : ℕ) (new : Devices) (down_is : TakenDown f new) where
  abbrev before_all : Seen
  before_all = seen (Down old) nobody 0

  matches_start : (s : State) → AreReadAs old s → Matches (start lines bad s) before_all
  matches_start s stands = record {
    stands = (ap (λ (u : State). u.up) stands.reads.state_is, stands);
    crew = record { jobs = refl; accounts = λ user. refl; next_job = refl };
    count = refl;
  }

  -- what was counted of a run from the start
  counted_from : (s : State) (moves : List Move) (last : World) (added : List ℕ) → LeadsFrom tariffs tariff rules rule Safe (start lines bad s) (Down old) f moves last added
      → MovesCounted moves last.disc_stops last.tape_stops old new
  counted_from s moves last added leads =
      subst (λ (d : Devices). MovesCounted moves last.disc_stops last.tape_stops old d) (sym down_is.devices)
      (subst (λ (ks : List ℕ). MovesCounted moves ks last.tape_stops old (devices_in f)) (sym leads.disc_stops)
      (subst (λ (ks : List ℕ). MovesCounted moves leads.disc_arms ks old (devices_in f)) (sym leads.tape_stops) leads.counted))

  -- what a power loss leaves then
  left_of : (s : State) (moves : List Move) (last : World) → Run tariffs tariff rules rule (start lines bad s) moves last → Safe f → StandsAs f last.store
      → LeftAfter tariffs tariff rules rule (start lines bad s) moves last (Down old) f → SurvivesLoss tariffs tariff rules rule (start lines bad s) moves last old new
  left_of s moves last ran safe stands left =
      subst (λ (d : Devices). SurvivesLoss tariffs tariff rules rule (start lines bad s) moves last old d) (sym down_is.devices)
      (system_left tariffs tariff rules rule (start lines bad s) moves last old f ran (sound f safe) stands left)

  -- CUT SHORT before its end
  record Cut (s : State) (before after : Option (List ℕ)) : Type 0 where
    moves : List Move
    last : World
    run_of : RunOf tariffs tariff rules rule lines bad s old new moves last
    text : HasPutPart before last.text after
    left : Safe (Down old) → SurvivesLoss tariffs tariff rules rule (start lines bad s) moves last old new

  cut_short : (failure : Failure) (before after : Option (List ℕ)) → PartGoesFrom tariffs tariff rules rule Safe IsAtRest lines [] before_all (Some failure) (seen f c count) before after
      → (s : State) → AreReadAs old s → Cut s before after
  cut_short failure before after goes s stands =
      let b = goes (start lines bad s) (matches_start s stands) (record { phase = refl; turn = refl }) refl in record {
        moves = b.moves;
        last = b.next;
        run_of = record {
          run = b.leads.run;
          counted = counted_of b.moves b.next old new (counted_from s b.moves b.next b.added b.leads);
          stands = stands_as new (down b.next.store) (down_is.stands b.next.store b.leads.stands);
        };
        text = subst (λ (t : List ℕ). HasPutPart before t after) (sym b.leads.text) b.put;
        left = λ was. left_of s b.moves b.next b.leads.run (b.leads.safe was) b.leads.stands (b.leads.left was);
      }

  ends_short : (failure : Failure) (before after : Option (List ℕ)) → PartGoesFrom tariffs tariff rules rule Safe IsAtRest lines [] before_all (Some failure) (seen f c count) before after
      → EndsShort tariffs tariff rules rule lines bad old new before after
  ends_short failure before after goes = λ s stands.
      let z = cut_short failure before after goes s (read_as old s stands) in record { moves = z.moves; last = z.last; run_of = z.run_of; text = z.text }

  short_survives : (failure : Failure) (before after : Option (List ℕ)) → PartGoesFrom tariffs tariff rules rule Safe IsAtRest lines [] before_all (Some failure) (seen f c count) before after
      → Safe (Down old) → (s : State) → StandFor old s → SurvivesSoFar tariffs tariff rules rule lines bad s old new before after
  short_survives failure before after goes safe s stands =
      let z = cut_short failure before after goes s (read_as old s stands) in record { moves = z.moves; last = z.last; run_of = z.run_of; text = z.text; left = z.left safe }

  false_true : false ≡ true → ⊥
  false_true e = cc

  due_none : (w : World) (left : List Timed) → left ≡ [] → (let v : World = record w { lines = left } in is_due v ≡ false)
  due_none w left is = ap (λ (ls : List Timed). let v : World = record w { lines = ls } in is_due v) is

  -- nothing steps where no line is left and all is at rest
  nothing_left : (w : World) → w.lines ≡ [] → IsAtRest w → nothing_steps w ≡ true
  nothing_left w none (inl due) = absurd (false_true (sym (due_none w w.lines none) ∙ due))
  nothing_left w none (inr still) = still

  -- THE LAST MOVE
  record Closes (s : State) (before middle : Option (List ℕ)) : Type 0 where
    moves : List Move
    last : World
    added : List ℕ
    run_of : RunOf tariffs tariff rules rule lines bad s old new moves last
    over : last.over ≡ true
    text : last.text ≡ added ++ (waiting_files c.jobs ++ closing bad)
    put : middle ≡ with_more before added
    left : Safe (Down old) → SurvivesLoss tariffs tariff rules rule (start lines bad s) moves last old new

  closes : (before middle : Option (List ℕ)) → PartGoesFrom tariffs tariff rules rule Safe IsAtRest lines [] before_all None (seen f c count) before middle
      → (s : State) → AreReadAs old s → Closes s before middle
  closes before middle goes s stands =
      let a = goes (start lines bad s) (matches_start s stands) (record { phase = refl; turn = refl }) refl in
      let all = run_append tariffs tariff rules rule (start lines bad s) a.moves (Over ∷ []) a.next (closed a.next) a.leads.run
      (over_move tariffs tariff rules rule a.next a.between.phase a.between.turn a.lines (nothing_left a.next a.lines a.rests) a.leads.over) in record {
        moves = a.moves ++ Over ∷ [];
        last = closed a.next;
        added = a.added;
        run_of = record {
          run = all;
          counted = counted_of (a.moves ++ Over ∷ []) (closed a.next) old new (over_counted a.moves a.next a.added s a.leads);
          stands = stands_as new (down a.next.store) (down_is.stands a.next.store a.leads.stands);
        };
        over = refl;
        text = ap (λ (t : List ℕ). (t ++ waiting_files a.next.jobs) ++ closing a.next.bad) a.leads.text
            ∙ append_assoc a.added (waiting_files a.next.jobs) (closing a.next.bad)
            ∙ ap (λ (js : List JobState). a.added ++ (waiting_files js ++ closing a.next.bad)) a.matches.crew.jobs
            ∙ ap (λ (b : Option ℕ). a.added ++ (waiting_files c.jobs ++ closing b)) a.leads.bad;
        put = a.put;
        left = λ was. left_of s (a.moves ++ Over ∷ []) (closed a.next) all (a.leads.safe was) a.leads.stands
            (left_same tariffs tariff rules rule (start lines bad s) a.next (closed a.next) a.moves (Over ∷ []) (Down old) f a.leads.run a.leads.stands
            (λ down. (closed a.next, (a.between.phase, a.between.turn, a.lines, nothing_left a.next a.lines a.rests, a.leads.over, refl), down, down, refl)) (a.leads.left was));
      }
    where
      over_counted : (moves : List Move) (last : World) (added : List ℕ) (s : State) → LeadsFrom tariffs tariff rules rule Safe (start lines bad s) (Down old) f moves last added
          → MovesCounted (moves ++ Over ∷ []) last.disc_stops last.tape_stops old new
      over_counted moves last added s leads =
          subst (λ (ks : List ℕ). MovesCounted (moves ++ Over ∷ []) ks last.tape_stops old new) (append-nil last.disc_stops)
          (subst (λ (ks : List ℕ). MovesCounted (moves ++ Over ∷ []) (last.disc_stops ++ []) ks old new) (append-nil last.tape_stops)
          (moves_then moves (Over ∷ []) last.disc_stops last.tape_stops [] [] old new new (counted_from s moves last added leads) (move_counted Over [] [] new new (event_none new))))

  pub ends_closed : (failure : Option Failure) (before middle after : Option (List ℕ)) → PartGoesFrom tariffs tariff rules rule Safe IsAtRest lines [] before_all None (seen f c count) before middle
      → PutsBy failure (waiting_files c.jobs ++ closing bad) middle after → EndsBy tariffs tariff rules rule failure lines bad old new before after
  ends_closed None before middle after goes put = λ s stands.
      let z = closes before middle goes s (read_as old s stands) in record {
        moves = z.moves;
        last = z.last;
        run_of = z.run_of;
        over = z.over;
        text = put ∙ ap (λ (t : Option (List ℕ)). with_more t (waiting_files c.jobs ++ closing bad)) z.put ∙ with_more-append before z.added (waiting_files c.jobs ++ closing bad)
            ∙ ap (λ (t : List ℕ). with_more before t) (sym z.text);
      }
  ends_closed (Some failure) before middle after goes put = λ s stands.
      let z = closes before middle goes s (read_as old s stands) in record {
        moves = z.moves;
        last = z.last;
        run_of = z.run_of;
        text = subst (λ (t : List ℕ). HasPutPart before t after) (sym z.text) (put_on before middle after z.added (waiting_files c.jobs ++ closing bad) z.put put);
      }

  part_of : (failure : Option Failure) (text : List ℕ) (middle after : Option (List ℕ)) → PutsBy failure text middle after → HasPutPart middle text after
  part_of None text middle after put = whole_part middle after text put
  part_of (Some failure) text middle after put = put

  closed_survives : (failure : Option Failure) (before middle after : Option (List ℕ)) → PartGoesFrom tariffs tariff rules rule Safe IsAtRest lines [] before_all None (seen f c count) before middle
      → PutsBy failure (waiting_files c.jobs ++ closing bad) middle after → Safe (Down old) → (s : State) → StandFor old s → SurvivesSoFar tariffs tariff rules rule lines bad s old new before after
  closed_survives failure before middle after goes put safe s stands =
      let z = closes before middle goes s (read_as old s stands) in record {
        moves = z.moves;
        last = z.last;
        run_of = z.run_of;
        text = subst (λ (t : List ℕ). HasPutPart before t after) (sym z.text)
            (put_on before middle after z.added (waiting_files c.jobs ++ closing bad) z.put (part_of failure (waiting_files c.jobs ++ closing bad) middle after put));
        left = z.left safe;
      }

module _ {F U : Type 0} (tariffs : Shared F (Bor Usage × Unit {0}) Charge) (tariff : F) (rules : Shared U (Bor Standing × Unit {0}) ℕ) (rule : U)
    (lines : List Timed) (bad : Option ℕ) (old : Devices) (f : SystemFacts) (c : CrewState) (count : ℕ) (new : Devices) (down_is : TakenDown f new) where
  abbrev at_start : Seen
  at_start = seen (Down old) nobody 0

  -- what holds of all devices
  belongs_down : (failure : Option Failure) (faults faults' : ℕ) → Keeps lines at_start failure (seen f c count) faults faults' → BelongTogether old → BelongTogether new
  belongs_down failure faults faults' keeps was = subst (λ (d : Devices). BelongTogether d) (sym down_is.devices) (belongs_of f (keeps.belongs was))

  safe_down : (failure : Option Failure) (faults faults' : ℕ) → Keeps lines at_start failure (seen f c count) faults faults' → AreSafe old.disc old.rack → AreSafe new.disc new.rack
  safe_down failure faults faults' keeps was = subst (λ (d : Devices). AreSafe d.disc d.rack) (sym down_is.devices) (safe_of f (keeps.safe was))

  same_down : (failure : Option Failure) (faults faults' : ℕ) → Keeps lines at_start failure (seen f c count) faults faults' → SameDevices old new
  same_down failure faults faults' keeps = subst (λ (d : Devices). SameDevices old d) (sym down_is.devices) keeps.same

  dumps_down : (failure : Option Failure) (faults faults' : ℕ) → Keeps lines at_start failure (seen f c count) faults faults' → BelongTogether old → DumpsKept lines old.rack new.rack
  dumps_down failure faults faults' keeps was = subst (λ (d : Devices). DumpsKept lines old.rack d.rack) (sym down_is.devices) (keeps.dumps was)

  -- STARTING OVER: no FORMAT took effect, one did, or the run passed it by
  unwell_down : (failure : Option Failure) → (failure ≡ None → BeginAnew lines → NoDiscFault old (devices_in f) → ⊥) → BeginAnew lines → failure ≡ None → NoDiscFault old new → ⊥
  unwell_down failure it begin none well = it none begin (subst (λ (d : Devices). NoDiscFault old d) down_is.devices well)

  blank_down : IsBlank f → AreBlank new
  blank_down blank = subst AreBlank (sym down_is.devices) (blank_devices f blank)

  misses_put : (w : World) (before middle after : Option (List ℕ)) → HasGrown middle after → Misses tariffs tariff rules rule w at_start (seen f c count) before middle → Misses tariffs tariff rules rule w at_start (seen f c count) before after
  misses_put w before middle after more m = record {
    moves = m.moves;
    next = m.next;
    added = m.added;
    mid = m.mid;
    leads = m.leads;
    blank = m.blank;
    unwell = m.unwell;
    same = m.same;
    other = m.other;
    text = grown_then (with_more before m.added) middle after m.text more;
  }

  missed_run : (before after : Option (List ℕ)) → PartMisses tariffs tariff rules rule lines at_start (seen f c count) before after → HasMissed tariffs tariff rules rule lines bad old new before after
  missed_run before after misses s stands =
      let m = misses (start lines bad s) (matches_start tariffs tariff rules rule Never never_safe lines bad (with_new_disc old) f c count new down_is s (read_as (with_new_disc old) s stands)) (record { phase = refl; turn = refl }) refl in
      let d = with_new_disc m.mid in record {
        moves = m.moves;
        last = m.next;
        mid = m.mid;
        run_of = record {
          run = m.leads.run;
          counted = counted_of m.moves m.next (with_new_disc old) d (counted_from tariffs tariff rules rule Never never_safe lines bad (with_new_disc old) (Down d) c count d (down_taken_down d) s m.moves m.next m.added m.leads);
          stands = stands_as d (down m.next.store) ((down_taken_down d).stands m.next.store m.leads.stands);
        };
        down = m.leads.stands.0;
        other = m.other;
        blank = m.blank;
        unwell = m.unwell;
        same = subst (λ (x : Devices). SameDevices m.mid x) (sym down_is.devices) m.same;
        text = subst (λ (t : List ℕ). HasGrown (with_more before t) after) (sym m.leads.text) m.text;
      }

  begins_cut : (failure : Failure) (before after : Option (List ℕ))
      → BeginsBy (λ x. PartGoesFrom tariffs tariff rules rule Never IsAtRest lines [] (beside at_start) (Some failure) x before after) lines at_start (Some failure) (seen f c count)
      ⊎ PartMisses tariffs tariff rules rule lines at_start (seen f c count) before after
      → EndsBeside tariffs tariff rules rule (Some failure) lines bad old new before after
      ⊎ (EndsBy tariffs tariff rules rule (Some failure) lines bad (with_new_disc old) new before after ⊎ HasMissed tariffs tariff rules rule lines bad old new before after)
  begins_cut failure before after (inl (inl u)) = inl (record {
    ends = ends_short tariffs tariff rules rule Never never_safe lines bad (with_new_disc old) (beside_new f) c count (with_new_disc new) (taken_beside f new down_is u.blank) failure before after u.goes;
    blank = blank_down u.blank;
    unwell = λ none well. none-some failure (sym none);
  })
  begins_cut failure before after (inl (inr took)) = inr (inl (ends_short tariffs tariff rules rule Never never_safe lines bad (with_new_disc old) f c count new down_is failure before after took))
  begins_cut failure before after (inr missed) = inr (inr (missed_run before after missed))

  begins_closed : (failure : Option Failure) (before middle after : Option (List ℕ)) → PutsBy failure (waiting_files c.jobs ++ closing bad) middle after → BeginAnew lines
      → BeginsBy (λ x. PartGoesFrom tariffs tariff rules rule Never IsAtRest lines [] (beside at_start) None x before middle) lines at_start None (seen f c count)
      ⊎ PartMisses tariffs tariff rules rule lines at_start (seen f c count) before middle
      → EndsBeside tariffs tariff rules rule failure lines bad old new before after
      ⊎ (EndsBy tariffs tariff rules rule failure lines bad (with_new_disc old) new before after ⊎ HasMissed tariffs tariff rules rule lines bad old new before after)
  begins_closed failure before middle after put begin (inl (inl u)) = inl (record {
    ends = ends_closed tariffs tariff rules rule Never never_safe lines bad (with_new_disc old) (beside_new f) c count (with_new_disc new) (taken_beside f new down_is u.blank) failure before middle after u.goes put;
    blank = blank_down u.blank;
    unwell = λ none well. unwell_down None u.unwell begin refl well;
  })
  begins_closed failure before middle after put begin (inl (inr took)) =
      inr (inl (ends_closed tariffs tariff rules rule Never never_safe lines bad (with_new_disc old) f c count new down_is failure before middle after took put))
  begins_closed failure before middle after put begin (inr missed) = inr (inr (missed_run before after (λ w m between is. misses_put w before middle after (put_grown failure (waiting_files c.jobs ++ closing bad) middle after put) (missed w m between is))))

  -- A SCRIPT, cut short before its end
  pub script_short : (failure : Failure) (before after : Option (List ℕ)) (faults faults' : ℕ) → DidAll tariffs tariff rules rule lines at_start (Some failure) (seen f c count) before after faults faults'
      → DidScript tariffs tariff rules rule lines bad old (Some failure) new before after faults faults'
  script_short failure before after faults faults' did = record {
    ends = ends_short tariffs tariff rules rule SystemSafe safe_itself lines bad old f c count new down_is failure before after did.goes;
    survives = short_survives tariffs tariff rules rule SystemSafe safe_itself lines bad old f c count new down_is failure before after did.goes;
    anew = λ begin blank. begins_cut failure before after (did.anew begin blank);
    arms = subst (λ (d : Devices). AreArmings lines ((let g : Option Failure = Some failure in g) ≡ None) old d) (sym down_is.devices) did.keeps.arms;
    same = same_down (Some failure) faults faults' did.keeps;
    belongs = belongs_down (Some failure) faults faults' did.keeps;
    safe = safe_down (Some failure) faults faults' did.keeps;
    dumps = dumps_down (Some failure) faults faults' did.keeps;
    cause = did.keeps.cause;
  }

  -- and one that came to it
  pub script_closed : (failure : Option Failure) (before middle after : Option (List ℕ)) (faults faults1 faults2 : ℕ)
      → DidAll tariffs tariff rules rule lines at_start None (seen f c count) before middle faults faults1
      → Puts failure (waiting_files c.jobs ++ closing bad) middle after faults1 faults2 → DidScript tariffs tariff rules rule lines bad old failure new before after faults faults2
  script_closed failure before middle after faults faults1 faults2 did puts = record {
    ends = ends_closed tariffs tariff rules rule SystemSafe safe_itself lines bad old f c count new down_is failure before middle after did.goes puts.put;
    survives = closed_survives tariffs tariff rules rule SystemSafe safe_itself lines bad old f c count new down_is failure before middle after did.goes puts.put;
    anew = λ begin blank. begins_closed failure before middle after puts.put begin (did.anew begin blank);
    arms = record {
      disc = arms.disc;
      tape = arms.tape;
      all_disc = λ went. arms.all_disc refl;
      all_tape = λ went. arms.all_tape refl;
      disc_since = arms.disc_since;
      tape_since = arms.tape_since;
    };
    same = same_down None faults faults1 did.keeps;
    belongs = belongs_down None faults faults1 did.keeps;
    safe = safe_down None faults faults1 did.keeps;
    dumps = dumps_down None faults faults1 did.keeps;
    cause = subst (λ (n : ℕ). FaultCause failure n faults2) did.keeps.cause puts.cause;
  }
    where
      arms : (let g : Option Failure = None in AreArmings lines (g ≡ None) old new)
      arms = subst (λ (d : Devices). let g : Option Failure = None in AreArmings lines (g ≡ None) old d) (sym down_is.devices) did.keeps.arms

  -- THE END
  pub script_over : (came failure : Option Failure) (before middle after : Option (List ℕ)) (faults faults1 faults2 : ℕ)
      → DidAll tariffs tariff rules rule lines at_start came (seen f c count) before middle faults faults1
      → ClosesBy came (waiting_files c.jobs ++ closing bad) failure middle after faults1 faults2 → DidScript tariffs tariff rules rule lines bad old failure new before after faults faults2
  script_over None failure before middle after faults faults1 faults2 did puts = script_closed failure before middle after faults faults1 faults2 did puts
  script_over (Some came) failure before middle after faults faults1 faults2 did (is, same, still) =
      subst (λ (g : Option Failure). DidScript tariffs tariff rules rule lines bad old g new before after faults faults2) (sym is)
      (subst (λ (t : Option (List ℕ)). DidScript tariffs tariff rules rule lines bad old (Some came) new before t faults faults2) (sym same)
      (subst (λ (n : ℕ). DidScript tariffs tariff rules rule lines bad old (Some came) new before middle faults n) (sym still) (script_short came before middle faults faults1 did)))

-- NOTHING WAS DONE, because memory ran out
module _ {F U : Type 0} (tariffs : Shared F (Bor Usage × Unit {0}) Charge) (tariff : F) (rules : Shared U (Bor Standing × Unit {0}) ℕ) (rule : U) (lines : List Timed) (bad : Option ℕ) where
  none_done : (d : Devices) (before : Option (List ℕ)) → EndsShort tariffs tariff rules rule lines bad d d before before
  none_done d before s stands = record {
    moves = [];
    last = start lines bad s;
    run_of = record { run = refl; counted = counted_of [] (start lines bad s) d d (event_none d); stands = stands_as d (down s) (devices_down d s (read_as d s stands)) };
    text = (0, omega arith, sym (with_more-nil before));
  }

  pub nothing_done : (old new : Devices) (before : Option (List ℕ)) (faults : ℕ) → new ≡ old
      → DidScript tariffs tariff rules rule lines bad old (Some failures.Memory) new before before faults faults
  nothing_done old new before faults same =
      subst (λ (d : Devices). DidScript tariffs tariff rules rule lines bad old (Some failures.Memory) d before before faults faults) (sym same) (record {
        ends = none_done old before;
        survives = λ safe s stands.
            record {
              moves = [];
              last = start lines bad s;
              run_of = record { run = refl; counted = counted_of [] (start lines bad s) old old (event_none old); stands = stands_as old (down s) (devices_down old s (read_as old s stands)) };
              text = (0, omega arith, sym (with_more-nil before));
              left = survives_same tariffs tariff rules rule (start lines bad s) old old (λ blocks rack lost. lost);
            };
        anew = λ begin blank. inl (record { ends = none_done (with_new_disc old) before; blank = blank; unwell = λ none well. none-some failures.Memory (sym none) });
        arms = record {
          disc = within_none (numbers_of disc_arms lines) old.disc.arms old.disc.arms refl;
          tape = within_none (numbers_of tape_arms lines) old.rack.arms old.rack.arms refl;
          all_disc = λ through. absurd (none-some failures.Memory (sym through));
          all_tape = λ through. absurd (none-some failures.Memory (sym through));
          disc_since = in_none old.disc.writes old.disc.writes old.disc.arms old.disc.arms refl;
          tape_since = in_none old.rack.write_faults old.rack.write_faults old.rack.arms old.rack.arms refl;
        };
        same = same_itself old;
        belongs = λ is. is;
        safe = λ is. is;
        dumps = λ is. kept_itself lines old.rack;
        cause = refl;
      })

  -- the same script between equal devices
  pub carried : (old was new now : Devices) (failure came : Option Failure) (before after : Option (List ℕ)) (faults faults' : ℕ) → was ≡ old → now ≡ new → came ≡ failure
      → DidScript tariffs tariff rules rule lines bad was failure new before after faults faults' → DidScript tariffs tariff rules rule lines bad old came now before after faults faults'
  carried old was new now failure came before after faults faults' begins ends fails did =
      subst (λ (d : Devices). DidScript tariffs tariff rules rule lines bad d came now before after faults faults') begins
      (subst (λ (d : Devices). DidScript tariffs tariff rules rule lines bad was came d before after faults faults') (sym ends)
      (subst (λ (f : Option Failure). DidScript tariffs tariff rules rule lines bad was f new before after faults faults') (sym fails) did))

-- devices by disc and rack
pub both_is : (d e : DiscState) (r q : Rack) → d ≡ e → r ≡ q → both d r ≡ both e q
both_is d e r q discs racks = ap (λ (x : DiscState). both x r) discs ∙ ap (λ (x : Rack). both e x) racks

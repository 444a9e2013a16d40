-- Starting over: reels are mounted and devices armed with a new disc as with any other. FORMAT makes of devices for
-- starting over what it makes of a new disc and the same reels, or leaves them as devices for starting over.
-- serves: arm_disc (blank), arm_tape (blank), mount (blank), rise_line (anew), stop_disc_line (anew), stop_tape_line (anew), unmount (blank), and 2 more
use Rattle.std.proofs.Common.{◌≡◌, ◌<◌, ℕ, true, false, Bool, List, [], ◌∷◌, Option, Some, None, map, find, nat_lt, option_map, refl, sym, ◌∙◌, ap, subst, inl, inr}
use Rattle.std.specs.Prelude.{All, Result, Ok, Err, IfOk, codes, replicate, if◌then◌else◌}
use Rattle.std.specs.List.{AllByRecursion}
use Rattle.std.proofs.lemmas.List.Elements.{All-weaker, recursion_from_All}
use Rattle.std.proofs.lemmas.Option.{none-some}
use Rattle.g_disc.specs.Disc.{Causes, DiscState}
use Rattle.g_tape.specs.Rack.{Mounting, Rack, changed}
use Rattle.g_tape.specs.Reads.{unread}
use Rattle.g_tape.specs.Reel.{Reel, with_mounted}
use Rattle.g_tape.specs.declared.fault.TapeFault.{TapeFault}
use Rattle.g_plain.specs.PlainStep.{first_fault}
use Rattle.g_plain.specs.declared.faults.StoreFault.{StoreFault}
use Rattle.g_plain.specs.declared.faults.StoreFault.TheVariants.{DiscReadFault, NoMemory, RackNotEmpty, Stopped}
use Rattle.g_store_meaning.specs.Answers.{Belongs}
use Rattle.g_store_meaning.specs.Meaning.{told_reels}
use Rattle.g_store_meaning.specs.Reading.{AllTold, DevicesStandFor, StandsForState}
use Rattle.g_store_meaning.specs.StoreInvariant.{StoreFacts}
use Rattle.g_laws_store.proofs.StateLemmas.{have_states}
use Rattle.g_store_model.specs.CallStep.{Cut, DiscRead, Plain, down}
use Rattle.g_store_model.specs.DumpSteps.{Event}
use Rattle.g_store_model.specs.Rising.{FormatStep, coming_up, fault_from}
use Rattle.g_store_model.specs.State.{State, first_reel}
use Rattle.g_store.proofs.MountLemmas.{told_after, told_turned, turned}
use Rattle.g_store.specs.Making.{Formats, IsOfFormat, RefusesFormat, StepsDown}
use Rattle.g_store.specs.Refusing.{first_used}
use Rattle.g_script.specs.declared.operator.Operator.{Operator}
use Rattle.g_script.specs.declared.operator.Operator.TheVariants as line
use Rattle.g_run_model.specs.Devices.{AreReadAs, Devices}
use Rattle.g_run_model.specs.Texts.{operator_line}
use Rattle.g_run_model.proofs.StandLemmas.{read_as}
use Rattle.g_run_model.proofs.EventToldLemmas.{format_told}
use Rattle.g_laws_runs.specs.BeginningAnew.{AreBlank, IsFormatted, NoDiscFault, first_holding, is_first, with_new_disc}
use Rattle.g_laws_runs.proofs.AnewLemmas.{formats_anew, no_used_reel}
use Rattle.g_laws_runs.proofs.FreshLemmas.{emptied_stand}
use Rattle.g_job_table.specs.Crew.{CrewState}
use Rattle.g_day.specs.declared.progress.Failure.{Failure}
use Rattle.g_operator.specs.declared.rising.Rise.{Rise}
use Rattle.g_operator.specs.declared.rising.Rise.TheVariants as rise
use Rattle.g_day.specs.BeginningAnew.{AnewLine, GoesFirst, WentAside}
use Rattle.g_day.specs.Losses.{Never}
use Rattle.g_operator.specs.Arming.{disc_armed, tape_armed}
use Rattle.g_day.specs.Opening.{Opens}
use Rattle.g_day.specs.Parts.{DidLineFrom, IsReady, Seen, seen}
use Rattle.g_day.specs.Puts.{Puts}
use Rattle.g_operator.specs.Rising.{MakesNone, Raises, line_of}
use Rattle.g_day.specs.System.{Down, SystemSafe, Up}
use Rattle.g_day.specs.Telling.{TellsFault}
use Rattle.g_operator.proofs.DownLemmas.{down_same}
use Rattle.g_day.proofs.LabelLemmas.{parts_with}
use Rattle.g_day.proofs.LineLemmas.{never_claimed}
use Rattle.g_operator.proofs.RiseLemmas.{CameUp, NotMade, comes_up, format_down, not_made}
use Rattle.g_operator.proofs.SafeLemmas.{all_by}
use Rattle.g_operator.proofs.WayLemmas.{unrisen_line}

-- what a disc counts has its causes, for any contents before and after
causes_beside : {P Q : Type 0} (old new : DiscState) (a b : Option (List (List ℕ))) → Causes P Q old new → Causes P Q (record old { held = a }) (record new { held = b })
causes_beside old new a b is =
    record { size = is.size; arms = is.arms; later = is.later; reads_kept = is.reads_kept; reads_rose = is.reads_rose; writes_kept = is.writes_kept; writes_rose = is.writes_rose }

-- devices for starting over stay so when a reel is mounted or unmounted, or a device armed
blank_rack : (d : Devices) (rack : Rack) → rack ≡ d.rack → AreBlank d → (let e : Devices = record d { rack = rack } in AreBlank e)
blank_rack d rack is blank = subst (λ (r : Rack). let e : Devices = record d { rack = r } in AreBlank e) (sym is) blank

blank_turned : (s : ℕ) (is : Bool) (d : Devices) → AreBlank d → (let e : Devices = record d { rack = changed s (with_mounted is) d.rack } in AreBlank e)
blank_turned s is d blank =
    let reels = told_reels d.rack in
    let now : told_reels (changed s (with_mounted is) d.rack) ≡ turned s is reels = told_turned s is d.rack.reels in
    let blocks = ap (λ (rs : List Reel). map (λ (r : Reel). r.blocks) rs) now ∙ parts_with (λ (r : Reel). r.blocks) s (with_mounted is) (λ r. refl) reels in
    let lens = ap (λ (rs : List Reel). map (λ (r : Reel). r.len) rs) now ∙ parts_with (λ (r : Reel). r.len) s (with_mounted is) (λ r. refl) reels in record {
      told = subst (AllTold d.disc.held) (sym now) (told_after s is d.disc.held reels blank.told);
      emptied = record { reels = all_by (λ (b : Option (List (List ℕ))). b ≡ Some []) (λ (r : Reel). r.blocks) reels (told_reels (changed s (with_mounted is) d.rack)) blocks blank.emptied.reels };
      unused = all_by (λ (n : ℕ). n ≡ 0) (λ (r : Reel). r.len) reels (told_reels (changed s (with_mounted is) d.rack)) lens blank.unused;
    }

pub blank_mounting : (refuses : Option Reel → Option TapeFault) (is : Bool) (s : ℕ) (d : Devices) (answer : Result (Unit {0}) TapeFault) (rack : Rack) → Mounting refuses is s d.rack answer rack → AreBlank d
    → (let e : Devices = record d { rack = rack } in AreBlank e)
blank_mounting refuses is s d (Ok u) rack (free, now) blank = subst (λ (r : Rack). let e : Devices = record d { rack = r } in AreBlank e) (sym now) (blank_turned s is d blank)
blank_mounting refuses is s d (Err fault) rack (why, now) blank = blank_rack d rack now blank

pub blank_disc_armed : (k : ℕ) (d : Devices) → AreBlank d → AreBlank (disc_armed k d)
blank_disc_armed k d blank = record { told = blank.told; emptied = record { reels = blank.emptied.reels }; unused = blank.unused }

pub blank_tape_armed : (k : ℕ) (d : Devices) → AreBlank d → AreBlank (tape_armed k d)
blank_tape_armed k d blank = record { told = blank.told; emptied = record { reels = blank.emptied.reels }; unused = blank.unused }

-- NO REEL IS USED, so FORMAT isn't refused for one
none_used : (reels : List Reel) → AllByRecursion (λ (r : Reel). r.len ≡ 0) (map unread reels) → first_used reels ≡ None
none_used [] all = refl
none_used (r ∷ reels) all =
    ap (λ (n : ℕ). option_map (λ (q : Reel). q.serial) (if nat_lt 0 n then Some r else find (λ (q : Reel). nat_lt 0 q.len) reels)) all.0 ∙ none_used reels all.1

module _ (d : Devices) (blank : AreBlank d) where
  pub unused_first : first_used d.rack.reels ≡ None
  unused_first = none_used d.rack.reels (recursion_from_All (λ (r : Reel). r.len ≡ 0) (told_reels d.rack) blank.unused)

  unused_reels : All (λ (r : Reel). nat_lt 0 r.len ≡ false) (told_reels d.rack)
  unused_reels = All-weaker (λ (r : Reel). r.len ≡ 0) (λ (r : Reel). nat_lt 0 r.len ≡ false) (λ r e. ap (λ (n : ℕ). nat_lt 0 n) e) (told_reels d.rack) blank.unused

  -- FORMAT from a new disc
  module _ (more : 2177 < d.disc.size) (new : StoreFacts) (is : Formats d.disc d.rack new) where
    abbrev new_disc : DiscState
    new_disc = (with_new_disc d).disc

    formatted : IsFormatted d new
    formatted = record {
      running = is.makes.running;
      no_dump = is.makes.no_dump;
      unkept = is.makes.unkept;
      holds = is.holds;
      size = is.makes.causes.size;
      reels = is.makes.tapes.reels;
      unused = unused_reels;
    }

    belongs_now : Belongs new
    belongs_now = is.makes.belongs blank.told tt

    steps : (s : State) → DevicesStandFor d.disc.size new_disc.held (told_reels d.rack) s → (u : State) × StandsForState new u × FormatStep s Plain (Ok tt) u
    steps s reads =
        let there = emptied_stand have_states d more blank.emptied in
        let stands = read_as (with_new_disc d) there.state there.stands in
        let (u, now) = have_states.up new is.makes.running belongs_now is.makes.keeps in
        (u, now, formats_anew d s u new blank.emptied formatted (record { told = stands.told; belong = stands.belong; reads = reads }) now)

    pub came_anew : CameUp (Unit {0}) FormatStep new_disc d.rack tt new
    came_anew = record {
      running = is.makes.running;
      keeps = is.makes.keeps;
      causes = causes_beside d.disc new.online.disc new_disc.held new.online.disc.held is.makes.causes;
      tapes = is.makes.tapes;
      tape_read = is.makes.tape_read;
      told = λ told. is.makes.told blank.told;
      step = λ told given s reads. steps s reads;
      belongs = λ told given. belongs_now;
    }

-- no store is made: refused because of a failed read, or interrupted by a failed write, as it would be with a new disc
read_refused : (s after : State) (m : Option ℕ) → m ≡ None
    → (let answer : Result (Unit {0}) StoreFault = Err DiscReadFault in Event {A = Unit {0}} (first_fault (fault_from RackNotEmpty m ∷ (true, DiscReadFault) ∷ (false, Stopped) ∷ [])) tt s after answer s)
read_refused s after None none = (refl, refl)
read_refused s after (Some serial) none = absurd (none-some serial (sym none))

cut_undone : (s after : State) (m : Option ℕ) → m ≡ None → s ≡ down s
    → (let answer : Result (Unit {0}) StoreFault = Err Stopped in Event {A = Unit {0}} (first_fault (fault_from RackNotEmpty m ∷ (false, DiscReadFault) ∷ (true, Stopped) ∷ [])) tt s after answer s)
cut_undone s after None none is = (refl, inl is)
cut_undone s after (Some serial) none is = absurd (none-some serial (sym none))

module _ (d e : Devices) (more : 2177 < d.disc.size) (blank : AreBlank d) where
  blank_still : (fault : StoreFault) → RefusesFormat d.disc d.rack fault e.disc e.rack → AreBlank e
  blank_still fault is = record {
    told = is.refuses.told blank.told;
    emptied = record { reels = subst (λ (rs : List Reel). All (λ (r : Reel). r.blocks ≡ Some []) rs) (sym is.refuses.tapes.reels) blank.emptied.reels };
    unused = subst (λ (rs : List Reel). All (λ (r : Reel). r.len ≡ 0) rs) (sym is.refuses.tapes.reels) blank.unused;
  }

  abbrev StandsBeside : Devices → State → Type 0
  StandsBeside x s = DevicesStandFor x.disc.size (with_new_disc x).disc.held (told_reels x.rack) s

  stand_beside : (s : State) → StandsBeside d s → AreReadAs (with_new_disc d) s
  stand_beside s reads =
      let there = emptied_stand have_states d more blank.emptied in
      let stands = read_as (with_new_disc d) there.state there.stands in record { told = stands.told; belong = stands.belong; reads = reads }

  left_beside : (fault : StoreFault) → RefusesFormat d.disc d.rack fault e.disc e.rack → (s : State) → StandsBeside d s → StandsBeside e s
  left_beside fault is s reads =
      subst (λ (n : ℕ). DevicesStandFor n (Some (replicate n (replicate 512 0))) (told_reels e.rack) s) (sym is.refuses.causes.size)
      (subst (λ (rs : List Reel). DevicesStandFor d.disc.size (with_new_disc d).disc.held rs s) (sym is.refuses.tapes.reels) reads)

  none_in : (s : State) → StandsBeside d s → first_reel (λ r. r.used) s.reels ≡ None
  none_in s reads = no_used_reel d s blank.emptied (unused_reels d blank) (stand_beside s reads)

  steps_beside : (fault : StoreFault) → IsOfFormat fault → RefusesFormat d.disc d.rack fault e.disc e.rack → (s : State) → StandsBeside d s
      → StepsDown {A = Unit {0}} FormatStep s (with_new_disc d).disc d.rack fault (with_new_disc e).disc e.rack
  steps_beside (RackNotEmpty serial) of is s reads = absurd (none-some serial (sym (unused_first d blank) ∙ (is.full serial).0 refl))
  steps_beside DiscReadFault of is s reads = record {
    after = s;
    left = left_beside DiscReadFault is s reads;
    outcome = DiscRead;
    raised = is.refuses.causes.reads_rose refl;
    step = read_refused s (coming_up s first_holding) (first_reel (λ r. r.used) s.reels) (none_in s reads);
  }
  steps_beside Stopped of is s reads = record {
    after = s;
    left = left_beside Stopped is s reads;
    outcome = Cut;
    raised = is.refuses.causes.writes_rose refl;
    step = cut_undone s (coming_up s first_holding) (first_reel (λ r. r.used) s.reels) (none_in s reads) (sym (down_same (with_new_disc d) s (stand_beside s reads)));
  }
  steps_beside NoMemory of is s reads = left_beside NoMemory is s reads
  steps_beside fault of is s reads = absurd of

  refuses_beside : (fault : StoreFault) → RefusesFormat d.disc d.rack fault e.disc e.rack → NotMade (Unit {0}) FormatStep (with_new_disc d).disc d.rack fault (with_new_disc e).disc e.rack
  refuses_beside fault is = record {
    causes = causes_beside d.disc e.disc (with_new_disc d).disc.held (with_new_disc e).disc.held is.refuses.causes;
    tapes = is.refuses.tapes;
    tape_read = is.refuses.tape_read;
    tape_read_only = is.refuses.tape_read_only;
    told = λ told. record { disc = refl; each = (is.refuses.told blank.told).each };
    step = λ told given s reads. steps_beside fault is.only is s reads;
    belongs = λ told belong.
        let there = emptied_stand have_states e (subst (λ (n : ℕ). 2177 < n) (sym is.refuses.causes.size) more) (blank_still fault is).emptied in
        (read_as (with_new_disc e) there.state there.stands).belong;
  }

-- its line: from a new disc if a store results, and with a new disc if none does
module _ (disc : DiscState) (rack : Rack) (c : CrewState) (count : ℕ) (ready : (let d : Devices = record { disc = disc; rack = rack } in IsReady (Down d) c))
    (failure : Option Failure) (c' : CrewState) (before after : Option (List ℕ)) (faults faults' : ℕ) where
  abbrev devices : Devices
  devices = record { disc = disc; rack = rack }

  risen_format : (new : StoreFacts) → Formats disc rack new → (failure ≡ None → Opens new.online.contents.users c c') → Puts failure (operator_line count (codes "FORMATTED")) before after faults faults'
      → GoesFirst line.Format (seen (Down devices) c count) failure (seen (Up new) c' count) before after faults faults'
  risen_format new is opens puts blank = inr (
      comes_up line.Format (Unit {0}) FormatStep (λ r. codes "FORMATTED") (λ o w next it. it) (λ o d e it. it) refl refl (with_new_disc devices).disc rack c count (λ it. tt) tt new
      (came_anew devices blank ready.0 new is) ready.3 c' Never (λ no. absurd no) failure before after faults faults' opens puts)

  refused_format : (fault : StoreFault) (disc' : DiscState) (rack' : Rack) → IsOfFormat fault → RefusesFormat disc rack fault disc' rack' → TellsFault fault count c failure c' before after faults faults'
      → (let e : Devices = record { disc = disc'; rack = rack' } in failure ≡ None → AreBlank devices → NoDiscFault devices e → ⊥)
  refused_format (RackNotEmpty serial) disc' rack' of is tells none blank well = none-some serial (sym (unused_first devices blank) ∙ (is.full serial).0 refl)
  refused_format DiscReadFault disc' rack' of is tells none blank well = well.no_read (is.refuses.causes.reads_rose refl)
  refused_format Stopped disc' rack' of is tells none blank well = well.no_write (is.refuses.causes.writes_rose refl)
  refused_format NoMemory disc' rack' of is tells none blank well = let (failed, crew, text, still) = tells in let no : ⊥ = cc in no
  refused_format fault disc' rack' of is tells none blank well = of

  unformatted_beside : (fault : StoreFault) (disc' : DiscState) (rack' : Rack) → RefusesFormat disc rack fault disc' rack' → AreBlank devices → TellsFault fault count c failure c' before after faults faults'
      → (let e : Devices = record { disc = disc'; rack = rack' } in
      DidLineFrom Never line.Format (seen (Down (with_new_disc devices)) c count) failure (seen (Down (with_new_disc e)) c' count) before after faults faults')
  unformatted_beside fault disc' rack' is blank tells =
      let e : Devices = record { disc = disc'; rack = rack' } in
      not_made line.Format (Unit {0}) FormatStep (λ r. codes "FORMATTED") (λ o w next it. it) (λ o d e it. it) refl refl (with_new_disc devices).disc rack c count (λ it. tt) fault (with_new_disc e).disc rack'
      (refuses_beside devices e ready.0 blank fault is)
      (λ s o u step. format_told s o (Err fault) u step) (format_down fault) Never (λ no. absurd no) (λ no. absurd no) failure c' before after faults faults' ready tells

  unrisen_format : (fault : StoreFault) (disc' : DiscState) (rack' : Rack) → MakesNone rise.Format disc rack fault disc' rack' → TellsFault fault count c failure c' before after faults faults'
      → (let e : Devices = record { disc = disc'; rack = rack' } in GoesFirst line.Format (seen (Down devices) c count) failure (seen (Down e) c' count) before after faults faults')
  unrisen_format fault disc' rack' (inl (is, same_disc, same_rack)) tells blank = inl (record {
    went = never_claimed SystemSafe line.Format (seen (Down (with_new_disc devices)) c count) _ failure before after faults faults' (unrisen_line (with_new_disc devices).disc rack c count ready failure c' before after faults faults' rise.Format fault
        (with_new_disc (let e : Devices = record { disc = disc'; rack = rack' } in e)).disc rack'
        (inl (is, ap (λ (x : DiscState). let e : Devices = record { disc = x; rack = rack' } in (with_new_disc e).disc) same_disc, same_rack)) tells);
    blank = subst (λ (x : DiscState). let e : Devices = record { disc = x; rack = rack' } in AreBlank e) (sym same_disc) (blank_rack devices rack' same_rack blank);
    unwell = λ none same well.
        let (failed, crew, text, still) = subst (λ (f : StoreFault). TellsFault f count c failure c' before after faults faults') is tells in absurd (let no : ⊥ = cc in no);
  })
  unrisen_format fault disc' rack' (inr is) tells blank = inl (record {
    went = unformatted_beside fault disc' rack' is blank tells;
    blank = blank_still devices (let e : Devices = record { disc = disc'; rack = rack' } in e) ready.0 blank fault is;
    unwell = λ none same well. refused_format fault disc' rack' is.only is tells none blank well;
  })

  -- of the three lines that bring a system up
  pub anew_risen : {E : Type 0} (how : Rise) (new : StoreFacts) (made : Result (List ℕ) E) → Raises how disc rack new made → (failure ≡ None → Opens new.online.contents.users c c')
      → ((what : List ℕ) → IfOk made (λ text. text ≡ what) → Puts failure (operator_line count what) before after faults faults')
      → AnewLine (line_of how) (seen (Down devices) c count) failure (seen (Up new) c' count) before after faults faults'
  anew_risen rise.Format new made (is, text) opens puts = risen_format new is opens (puts (codes "FORMATTED") text)
  anew_risen rise.Start new made is opens puts = tt
  anew_risen rise.Restore new made is opens puts = tt

  pub anew_unrisen : (how : Rise) (fault : StoreFault) (disc' : DiscState) (rack' : Rack) → MakesNone how disc rack fault disc' rack' → TellsFault fault count c failure c' before after faults faults'
      → (let e : Devices = record { disc = disc'; rack = rack' } in AnewLine (line_of how) (seen (Down devices) c count) failure (seen (Down e) c' count) before after faults faults')
  anew_unrisen rise.Format fault disc' rack' is tells = unrisen_format fault disc' rack' is tells
  anew_unrisen rise.Start fault disc' rack' is tells = tt
  anew_unrisen rise.Restore fault disc' rack' is tells = tt

-- a system that is up isn't one for starting over
pub anew_up : (how : Rise) (s : StoreFacts) (c : CrewState) (count : ℕ) (failure : Option Failure) (new : Seen) (before after : Option (List ℕ)) (faults faults' : ℕ)
    → AnewLine (line_of how) (seen (Up s) c count) failure new before after faults faults'
anew_up rise.Format s c count failure new before after faults faults' = λ blank. absurd blank
anew_up rise.Start s c count failure new before after faults faults' = tt
anew_up rise.Restore s c count failure new before after faults faults' = tt

-- THE SAME between equal days
pub same_anew : (what : Operator) (failure : Option Failure) (old old' new new' : Seen) (before after : Option (List ℕ)) (faults faults' : ℕ) → old ≡ old' → new' ≡ new
    → AnewLine what old failure new before after faults faults' → AnewLine what old' failure new' before after faults faults'
same_anew what failure old old' new new' before after faults faults' opens ends did =
    subst (λ (s : Seen). AnewLine what s failure new' before after faults faults') opens
    (subst (λ (s : Seen). AnewLine what old failure s before after faults faults') (sym ends) did)

pub same_aside : {what : Operator} {failure : Option Failure} {old old' new : Seen} {before after : Option (List ℕ)} {faults faults' : ℕ} → old ≡ old'
    → WentAside what old failure new before after faults faults' → WentAside what old' failure new before after faults faults'
same_aside {what = what} {failure = failure} {new = new} {before = before} {after = after} {faults = faults} {faults' = faults'} opens did =
    subst (λ (s : Seen). WentAside what s failure new before after faults faults') opens did

-- any line on devices for starting over
aside_first : (what : Operator) (old : Seen) (failure : Option Failure) (new : Seen) (before after : Option (List ℕ)) (faults faults' : ℕ)
    → (what ≡ line.Format → ⊥) → WentAside what old failure new before after faults faults' → GoesFirst what old failure new before after faults faults'
aside_first what old failure new before after faults faults' isnt went blank = inl (record { went = never_claimed SystemSafe what _ _ failure before after faults faults' went.line; blank = went.blank blank; unwell = λ none same well. isnt same })

pub first_line : (what : Operator) → is_first what ≡ true → (old : Seen) (failure : Option Failure) (new : Seen) (before after : Option (List ℕ)) (faults faults' : ℕ)
    → AnewLine what old failure new before after faults faults' → GoesFirst what old failure new before after faults faults'
first_line line.Format is old failure new before after faults faults' anew = anew
first_line (line.Mount serial) is old failure new before after faults faults' anew =
    aside_first (line.Mount serial) old failure new before after faults faults' (λ e. let no : ⊥ = cc in no) anew
first_line (line.Unmount serial) is old failure new before after faults faults' anew =
    aside_first (line.Unmount serial) old failure new before after faults faults' (λ e. let no : ⊥ = cc in no) anew
first_line (line.StopDisc k) is old failure new before after faults faults' anew =
    aside_first (line.StopDisc k) old failure new before after faults faults' (λ e. let no : ⊥ = cc in no) anew
first_line (line.StopTape k) is old failure new before after faults faults' anew =
    aside_first (line.StopTape k) old failure new before after faults faults' (λ e. let no : ⊥ = cc in no) anew
first_line what is old failure new before after faults faults' anew = absurd (let no : ⊥ = cc in no)

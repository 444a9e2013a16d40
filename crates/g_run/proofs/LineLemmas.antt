-- A line after the ticks that precede it, and lines in sequence.
-- serves: do_lines, next_line, run_lines, NextLemmas
use Rattle.std.proofs.Common.{◌≡◌, ◌⊎◌, ◌≤◌, ◌++◌, ℕ, Bool, true, false, List, [], ◌∷◌, Option, Some, None, is_some, append_assoc, append-nil, refl, sym, ◌∙◌, subst, inl, inr, arith}
use Rattle.std.proofs.lemmas.Option.{none-some}
use Rattle.std.proofs.lemmas.List.Elements.{All-cons, All-head, All-nil, All-pop}
use Rattle.std.specs.Fn.{Shared}
use denote.Ref.{Bor}
use Rattle.g_base.specs.Fuse.{IsArmedBy}
use Rattle.g_base.proofs.FuseLemmas.{within_more}
use Rattle.g_rules.specs.declared.tariff.Charge.{Charge}
use Rattle.g_rules.specs.declared.tariff.Usage.{Usage}
use Rattle.g_rules.specs.declared.rule.Standing.{Standing}
use Rattle.g_io.specs.Streams.{HasPutPart, with_more}
use Rattle.g_script.specs.declared.operator.Timed.{Timed}
use Rattle.g_store_model.specs.CallStep.{Outcome}
use Rattle.g_store_model.specs.State.{State}
use Rattle.g_run_model.specs.Devices.{Devices}
use Rattle.g_run_model.specs.Lines.{LineGives, is_process}
use Rattle.g_run_model.specs.Losses.{MayBeLeft}
use Rattle.g_run_model.specs.Losses as move_loss
use Rattle.g_run_model.specs.Moves.{Move, Run, Step, TakeLine}
use Rattle.g_run_model.specs.Top.{AreArmings}
use Rattle.g_run_model.specs.World.{World}
use Rattle.g_laws_runs.specs.BeginningAnew.{BeginAnew, NoDiscFault, is_first}
use Rattle.g_run_model.proofs.CountLemmas.{move_counted}
use Rattle.g_run_model.proofs.TickLemmas.{line_move}
use Rattle.g_job_table.specs.Numbers.{AreOpen}
use Rattle.g_day.specs.declared.progress.Failure.{Failure}
use Rattle.g_day.specs.BeginningAnew.{AnewLine, IsBlank, IsUntaken, beside, beside_new}
use Rattle.g_day.specs.Losses.{LeftAfter, LineLeft, LineMayLeave, Never, SystemLeaves}
use Rattle.g_day.specs.Losses as line_loss
use Rattle.g_day.specs.Parts.{ArmsBy, DidLine, DidLineFrom, DoesLineFrom, DoesNothingFrom, IsReady, LineGoesFrom, Matches, Seen, disc_arms, tape_arms}
use Rattle.g_day.specs.Puts.{HasGrown}
use Rattle.g_day.specs.System.{Down, IsRunning, SameDevices, SystemFacts, SystemSafe, Up, devices_in}
use Rattle.g_operator.proofs.AnewLemmas.{first_line}
use Rattle.g_day.proofs.LabelLemmas.{same_then}
use Rattle.g_ticks.specs.Tick.{IsBetween}
use Rattle.g_ticks.specs.Parts.{Anything, AreAside, AreDueBy, AreFirst, BeginsBy, BreaksFrom, DidAll, DidLines, DidTicks, GoesFrom, IsAtRest, IsOther, Keeps, LeadsFrom, LinesGo, Misses, NoneTook, PartGoes, PartGoesFrom, PartMisses, turn_of}
use Rattle.g_run.proofs.AnewLemmas.{asides_first, begin_parts, blank_beside, blank_devices, first_head, first_last, first_one, first_well, firsts_parts, format_first, is_format, later_well, none_begin, one_more_line}
use Rattle.g_ticks.proofs.KeepLemmas.{kept_line}
use Rattle.g_run.proofs.LeaveLemmas.{line_leaves}
use Rattle.g_day.proofs.PutLemmas.{grown_then, same_grown, with_more-nil}
use Rattle.g_ticks.proofs.PartLemmas.{arrives_here, goes_then, goes_unclaimed, keeps_more, keeps_then, part_unclaimed}
use Rattle.g_ticks.proofs.SurvivingLemmas.{never_runs, safe_runs}
use Rattle.g_ticks.proofs.UntilLemmas.{keeps_here}

-- what a line arms each device with
line_arms : (next : Timed) (failure : Option Failure) (old new : Devices) → ArmsBy next.what failure old new → AreArmings (next ∷ []) (failure ≡ None) old new
line_arms next failure old new arms = record {
  disc = within_more (disc_arms next.what) [] old.disc.arms new.disc.arms arms.disc;
  tape = within_more (tape_arms next.what) [] old.rack.arms new.rack.arms arms.tape;
  all_disc = λ went. subst (λ (ks : List ℕ). IsArmedBy ks old.disc.arms new.disc.arms) (sym (append-nil (disc_arms next.what))) (arms.all went).0;
  all_tape = λ went. subst (λ (ks : List ℕ). IsArmedBy ks old.rack.arms new.rack.arms) (sym (append-nil (tape_arms next.what))) (arms.all went).1;
  disc_since = arms.disc_since;
  tape_since = arms.tape_since;
}

line_keeps : (next : Timed) (old : Seen) (failure : Option Failure) (new : Seen) (before after : Option (List ℕ)) (faults faults' : ℕ) → DidLine next.what old failure new before after faults faults'
    → AreOpen old.crew.jobs → Keeps (next ∷ []) old failure new faults faults'
line_keeps next old failure new before after faults faults' did still = record {
  ready = λ none. (did.ready, (did.crew none).jobs still);
  numbers = λ none. (did.crew none).numbers;
  arms = line_arms next failure (devices_in old.system) (devices_in new.system) did.arms;
  same = did.same;
  belongs = did.belongs;
  safe = did.safe;
  dumps = λ was. kept_line next (devices_in old.system).rack (devices_in new.system).rack (did.dumps was);
  cause = did.cause;
}

-- THE COUNT after a line: its ticks leave it unchanged, or raise it at most to the line's turn
late_by : (turn most old mid new : ℕ) → turn ≤ most → old ≤ most → new ≡ mid → (mid ≤ turn) ⊎ (mid ≡ old) → new ≤ most
late_by turn most old mid new due few same (inl early) = omega (arith, due, same, early)
late_by turn most old mid new due few same (inr is) = omega (arith, few, same, is)

due_parts : (most : ℕ) (done : List Timed) (next : Timed) → AreDueBy most (done ++ next ∷ []) → AreDueBy most done × (next.turn ≤ most)
due_parts most done next due = All-pop (λ (t : Timed). t.turn ≤ most) (done ++ next ∷ []) done (Some next) refl due

module _ {F U : Type 0} (tariffs : Shared F (Bor Usage × Unit {0}) Charge) (tariff : F) (rules : Shared U (Bor Standing × Unit {0}) ℕ) (rule : U) where
  -- the world before the line's step
  abbrev pub without : List Timed → World → World
  without rest w = record w { lines = rest }

  pub matches_without : (w : World) (rest : List Timed) (s : Seen) → Matches w s → Matches (without rest w) s
  matches_without w rest s m = record {
    stands = m.stands;
    crew = record { jobs = m.crew.jobs; accounts = m.crew.accounts; next_job = m.crew.next_job };
    count = m.count;
  }

  -- what a power loss leaves after the line is what it leaves after the move
  module _ (w : World) (next : Timed) (rest : List Timed) (is : w.lines ≡ next ∷ rest) (between : IsBetween w) (due : IsAtRest w) (o : Outcome) where
    abbrev take : Move
    take = TakeLine (is_process next.what) o

    line_run : (new : World) → LineGives o next.what (without rest w) new → Run tariffs tariff rules rule w (take ∷ []) new
    line_run new gives = line_move tariffs tariff rules rule w next rest o new is between.phase between.turn due gives

    line_step : (new : World) → LineGives o next.what (without rest w) new → Step tariffs tariff rules rule w take new
    line_step new gives = (next, rest, is, between.phase, between.turn, due, refl, gives)

    may_be_left : (new : World) → LineGives o next.what (without rest w) new → (u : State) → LineMayLeave next.what o (without rest w) new u
        → MayBeLeft tariffs tariff rules rule w (take ∷ []) new u
    may_be_left new gives u (line_loss.AsRead same) = move_loss.AsRead (take ∷ []) [] new (record { split = refl; led = line_run new gives; rest = refl }) same
    may_be_left new gives u (line_loss.OtherEnd cut other end same) =
        move_loss.OtherEnd [] [] take w new other refl (record { split = refl; led = line_run new gives; rest = refl }) cut (line_step new gives) (line_step other end) same

    pub line_left : (new : World) → LineGives o next.what (without rest w) new → (old now : SystemFacts) → LineLeft next.what o (without rest w) new old now
        → LeftAfter tariffs tariff rules rule w (take ∷ []) new old now
    line_left new gives old (Up s) leaves = tt
    line_left new gives old (Down d) leaves = λ blocks rack left. elim (leaves blocks rack left) [
      | inl here ↦ inl (here.0, may_be_left new gives here.0 here.1, here.2)
      | inr (down, before) ↦ inr ((new, line_step new gives, down.0, down.1, refl), before)
    ]

  -- nothing was done
  none_left : (w : World) (old new : SystemFacts) → SystemLeaves (λ u. ⊥) (w.store.up ≡ false) old new → LeftAfter tariffs tariff rules rule w [] w old new
  none_left w old (Up s) leaves = tt
  none_left w old (Down d) leaves = λ blocks rack left. elim (leaves blocks rack left) [
    | inl here ↦ absurd here.1
    | inr (down, before) ↦ inr (refl, before)
  ]

  -- the line is a move
  pub line_leads : (Safe : SystemFacts → Type 0) (w : World) (next : Timed) (rest : List Timed) → IsBetween w → IsAtRest w → w.lines ≡ next ∷ rest → (old new : SystemFacts) → (Safe old → Safe new)
      → (added : List ℕ) (d : DoesLineFrom Safe next.what (without rest w) old new added)
      → LeadsFrom tariffs tariff rules rule Safe w old new (TakeLine (is_process next.what) d.outcome ∷ []) d.next added
  line_leads Safe w next rest between due is old new safe added d =
      let left = line_leaves d.outcome next.what (without rest w) d.next d.gives in record {
        disc_arms = disc_arms next.what;
        tape_arms = tape_arms next.what;
        run = line_move tariffs tariff rules rule w next rest d.outcome d.next is between.phase between.turn due d.gives;
        counted = move_counted (TakeLine (is_process next.what) d.outcome) (disc_arms next.what) (tape_arms next.what) (devices_in old) (devices_in new) d.counted;
        stands = d.stands;
        safe = safe;
        left = λ was. line_left w next rest is between due d.outcome d.next d.gives old new (d.left was);
        bad = left.bad;
        over = left.over;
        disc_stops = left.disc_stops;
        tape_stops = left.tape_stops;
        text = d.text;
      }

  line_goes : (Safe : SystemFacts → Type 0) (next : Timed) (rest : List Timed) (old : Seen) (failure : Option Failure) (new : Seen) (before after : Option (List ℕ)) → (Safe old.system → Safe new.system)
      → LineGoesFrom Safe next.what old failure new before after
      → (w : World) → Matches w old → IsBetween w → IsAtRest w → w.lines ≡ next ∷ rest → GoesFrom tariffs tariff rules rule Safe Anything w rest old failure new before after
  line_goes Safe next rest old None new before after safe goes w m between due is =
      let (added, d, matches, put) = goes (without rest w) (matches_without w rest old m) in
      let left = line_leaves d.outcome next.what (without rest w) d.next d.gives in record {
        moves = TakeLine (is_process next.what) d.outcome ∷ [];
        next = d.next;
        added = added;
        leads = line_leads Safe w next rest between due is old.system new.system safe added d;
        matches = matches;
        between = record { phase = left.phase ∙ between.phase; turn = left.turn ∙ between.turn };
        lines = left.lines;
        rests = tt;
        put = put;
      }
  line_goes Safe next rest old (Some failure) new before after safe goes w m between due is = by (goes (without rest w) (matches_without w rest old m))
    where
      by : DoesNothingFrom Safe (without rest w) old.system new.system before after ⊎ ((added : List ℕ) × DoesLineFrom Safe next.what (without rest w) old.system new.system added × HasPutPart before added after)
          → BreaksFrom tariffs tariff rules rule Safe w old.system new.system before after
      by (inl nothing) = record {
        moves = [];
        next = w;
        added = [];
        leads = record {
          disc_arms = [];
          tape_arms = [];
          run = refl;
          counted = nothing.counted;
          stands = nothing.stands;
          safe = safe;
          left = λ was. none_left w old.system new.system (nothing.left was);
          bad = refl;
          over = refl;
          disc_stops = sym (append-nil w.disc_stops);
          tape_stops = sym (append-nil w.tape_stops);
          text = sym (append-nil w.text);
        };
        put = (0, omega arith, nothing.text ∙ sym (with_more-nil before));
      }
      by (inr (added, d, part)) = record {
        moves = TakeLine (is_process next.what) d.outcome ∷ [];
        next = d.next;
        added = added;
        leads = line_leads Safe w next rest between due is old.system new.system safe added d;
        put = part;
      }

  -- after its ticks
  pub behind_ticks : (Safe : SystemFacts → Type 0) → ((f : SystemFacts) → Safe f → IsRunning f) → (next : Timed) (old mid : Seen) (failure : Option Failure) (new : Seen) (before middle after : Option (List ℕ))
      → ((lines : List Timed) → turn_of lines ≡ Some next.turn → PartGoesFrom tariffs tariff rules rule Safe IsAtRest lines lines old None mid before middle)
      → (Safe mid.system → Safe new.system) → LineGoesFrom Safe next.what mid failure new middle after
      → (rest : List Timed) → PartGoesFrom tariffs tariff rules rule Safe Anything ((next ∷ []) ++ rest) rest old failure new before after
  behind_ticks Safe running next old mid failure new before middle after went safe goes rest w m between is =
      let a = went (next ∷ rest) refl w m between is in
      goes_then tariffs tariff rules rule Safe running IsAtRest Anything w (next ∷ rest) rest old mid before middle a failure new after
      (line_goes Safe next rest mid failure new middle after safe goes a.next a.matches a.between a.rests a.lines)

  -- starting over: a FORMAT, or a line that requests nothing of the filestore
  first_done : (next : Timed) (old mid : Seen) (failure : Option Failure) (new : Seen) (before middle after : Option (List ℕ)) (faults1 faults2 : ℕ) → SameDevices (devices_in old.system) (devices_in mid.system)
      → ((lines : List Timed) → turn_of lines ≡ Some next.turn → PartGoesFrom tariffs tariff rules rule Never IsAtRest lines lines (beside old) None (beside mid) before middle)
      → IsUntaken next.what mid failure new middle after faults1 faults2 ⊎ DidLineFrom Never next.what (beside mid) failure new middle after faults1 faults2
      → BeginsBy (λ x. LinesGo tariffs tariff rules rule (next ∷ []) old failure x before after) (next ∷ []) old failure new
  first_done next old mid failure new before middle after faults1 faults2 same went (inl u) = inl (record {
    goes = behind_ticks Never never_runs next (beside old) (beside mid) failure (beside new) before middle after went u.went.safe u.went.goes;
    blank = u.blank;
    unwell = λ none begin well. u.unwell none (is_format next begin) (later_well (devices_in old.system) (devices_in mid.system) (devices_in new.system) same well);
  })
  first_done next old mid failure new before middle after faults1 faults2 same went (inr took) =
      inr (behind_ticks Never never_runs next (beside old) (beside mid) failure new before middle after went took.safe took.goes)

  -- A LINE after its ticks
  pub line_done : (next : Timed) (old mid : Seen) (failure : Option Failure) (new : Seen) (before middle after : Option (List ℕ)) (faults faults1 faults2 : ℕ)
      → DidTicks tariffs tariff rules rule IsAtRest (Some next.turn) old None mid before middle faults faults1 → new.count ≡ mid.count → DidLine next.what mid failure new middle after faults1 faults2
      → AnewLine next.what mid failure new middle after faults1 faults2
      → DidLines tariffs tariff rules rule (next ∷ []) old failure new before after faults faults2
  line_done next old mid failure new before middle after faults faults1 faults2 ticked same did anew = record {
    goes = behind_ticks SystemSafe safe_runs next old mid failure new before middle after ticked.goes did.safe did.goes;
    keeps = keeps_then [] (next ∷ []) old mid failure new faults faults1 faults2 ticked.keeps
        (line_keeps next mid failure new middle after faults1 faults2 did (ticked.keeps.ready refl).1);
    late = λ none most due few. late_by next.turn most old.count mid.count new.count (All-head (λ (t : Timed). t.turn ≤ most) next [] due) few same (ticked.late refl next.turn refl);
    grows = grown_then before middle after ticked.grows did.grows;
    first = λ all blank.
        let (blank_mid, went) = ticked.aside blank in
        first_done next old mid failure new before middle after faults1 faults2 ticked.keeps.same went
        (first_line next.what (first_head next all) mid failure new middle after faults1 faults2 anew blank_mid);
    anew = λ begin blank.
        let (blank_mid, went) = ticked.aside blank in
        inl (first_done next old mid failure new before middle after faults1 faults2 ticked.keeps.same went
        (first_line next.what (format_first next (is_format next begin)) mid failure new middle after faults1 faults2 anew blank_mid));
  }

  -- its ticks failed
  none_took : (next : Timed) (old : Seen) (failure : Failure) (new : Seen) (before after : Option (List ℕ)) (faults faults' : ℕ)
      → DidTicks tariffs tariff rules rule IsAtRest (Some next.turn) old (Some failure) new before after faults faults' → IsBlank old.system
      → BeginsBy (λ x. LinesGo tariffs tariff rules rule (next ∷ []) old (Some failure) x before after) (next ∷ []) old (Some failure) new
  none_took next old failure new before after faults faults' ticked blank =
      let (blank_new, went) = ticked.aside blank in inl (record {
        goes = λ rest w m between is. went (next ∷ rest) refl w m between is;
        blank = blank_new;
        unwell = λ none begin well. none-some failure (sym none);
      })

  pub line_undone : (next : Timed) (old : Seen) (failure : Failure) (new : Seen) (before after : Option (List ℕ)) (faults faults' : ℕ)
      → DidTicks tariffs tariff rules rule IsAtRest (Some next.turn) old (Some failure) new before after faults faults' → DidLines tariffs tariff rules rule (next ∷ []) old (Some failure) new before after faults faults'
  line_undone next old failure new before after faults faults' ticked = record {
    goes = λ rest w m between is. ticked.goes (next ∷ rest) refl w m between is;
    keeps = keeps_more [] (next ∷ []) old failure new faults faults' ticked.keeps;
    late = λ none most due few. absurd (let no : ⊥ = cc in no);
    grows = ticked.grows;
    first = λ all blank. none_took next old failure new before after faults faults' ticked blank;
    anew = λ begin blank. inl (none_took next old failure new before after faults faults' ticked blank);
  }

  -- LINES: none yet
  pub lines_start : (s : Seen) (before : Option (List ℕ)) (faults : ℕ) → IsReady s.system s.crew → AreOpen s.crew.jobs → DidLines tariffs tariff rules rule [] s None s before before faults faults
  lines_start s before faults ready still = record {
    goes = λ rest w m between is. arrives_here tariffs tariff rules rule SystemSafe safe_runs w rest s before m between is;
    keeps = keeps_here s faults ready still;
    late = λ none most due few. few;
    grows = same_grown before before refl;
    first = λ all blank. inl (record {
      goes = λ rest w m between is. arrives_here tariffs tariff rules rule Never never_runs w rest (beside s) before m between is;
      blank = blank;
      unwell = λ none begin well. none_begin begin;
    });
    anew = λ begin blank. absurd (none_begin begin);
  }

  -- what was missed in the first of two parts
  misses_then : (w : World) (s mid new : Seen) (before middle after : Option (List ℕ)) → SameDevices (devices_in mid.system) (devices_in new.system) → HasGrown middle after
      → Misses tariffs tariff rules rule w s mid before middle → Misses tariffs tariff rules rule w s new before after
  misses_then w s mid new before middle after behind more missed = record {
    moves = missed.moves;
    next = missed.next;
    added = missed.added;
    mid = missed.mid;
    leads = missed.leads;
    blank = missed.blank;
    unwell = missed.unwell;
    same = same_then missed.mid (devices_in mid.system) (devices_in new.system) missed.same behind;
    other = missed.other;
    text = grown_then (with_more before missed.added) middle after missed.text more;
  }

  -- two parts in sequence
  both_go : (Safe : SystemFacts → Type 0) → ((f : SystemFacts) → Safe f → IsRunning f) → (done : List Timed) (next : Timed) (s mid : Seen) (failure : Option Failure) (new : Seen) (before middle after : Option (List ℕ))
      → ((rest : List Timed) → PartGoesFrom tariffs tariff rules rule Safe Anything (done ++ rest) rest s None mid before middle)
      → ((rest : List Timed) → PartGoesFrom tariffs tariff rules rule Safe Anything ((next ∷ []) ++ rest) rest mid failure new middle after)
      → (rest : List Timed) → PartGoesFrom tariffs tariff rules rule Safe Anything ((done ++ next ∷ []) ++ rest) rest s failure new before after
  both_go Safe running done next s mid failure new before middle after first one rest w m between is =
      let a = first (next ∷ rest) w m between (is ∙ append_assoc done (next ∷ []) rest) in
      goes_then tariffs tariff rules rule Safe running Anything Anything w (next ∷ rest) rest s mid before middle a failure new after (one rest a.next a.matches a.between a.lines)

  -- starting over
  module _ (done : List Timed) (next : Timed) (s mid : Seen) (failure : Option Failure) (new : Seen) (before middle after : Option (List ℕ))
      (here : SameDevices (devices_in s.system) (devices_in mid.system)) (behind : SameDevices (devices_in mid.system) (devices_in new.system)) (grows : HasGrown middle after)
      (goes : (rest : List Timed) → PartGoes tariffs tariff rules rule Anything ((next ∷ []) ++ rest) rest mid failure new middle after) where
    abbrev SomeBegin : Type 0
    SomeBegin = BeginsBy (λ x. LinesGo tariffs tariff rules rule done s None x before middle) done s None mid

    abbrev OneBegins : Type 0
    OneBegins = BeginsBy (λ x. LinesGo tariffs tariff rules rule (next ∷ []) mid failure x middle after) (next ∷ []) mid failure new

    abbrev AllBegin : Type 0
    AllBegin = BeginsBy (λ x. LinesGo tariffs tariff rules rule (done ++ next ∷ []) s failure x before after) (done ++ next ∷ []) s failure new

    abbrev NoneOfSome : Type 0
    NoneOfSome = NoneTook (λ x. LinesGo tariffs tariff rules rule done s None x before middle) done s None mid

    one_unclaimed : (rest : List Timed) → PartGoesFrom tariffs tariff rules rule Never Anything ((next ∷ []) ++ rest) rest mid failure new middle after
    one_unclaimed rest = part_unclaimed tariffs tariff rules rule SystemSafe Anything ((next ∷ []) ++ rest) rest mid failure new middle after (goes rest)

    then_first : SomeBegin → (IsBlank mid.system → OneBegins) → AllBegin
    then_first (inl u) one = by (one u.blank)
      where
        unwell_by : (failure ≡ None → BeginAnew (next ∷ []) → NoDiscFault (devices_in mid.system) (devices_in new.system) → ⊥) → failure ≡ None → NoDiscFault (devices_in s.system) (devices_in new.system)
            → (AreAside done × BeginAnew (next ∷ [])) ⊎ BeginAnew done → ⊥
        unwell_by it none well (inl (all, begin)) = it none begin (later_well (devices_in s.system) (devices_in mid.system) (devices_in new.system) here well)
        unwell_by it none well (inr begin) = u.unwell refl begin (first_well (devices_in s.system) (devices_in mid.system) (devices_in new.system) behind well)

        by : OneBegins → AllBegin
        by (inl v) = inl (record {
          goes = both_go Never never_runs done next (beside s) (beside mid) failure (beside new) before middle after u.goes v.goes;
          blank = v.blank;
          unwell = λ none begin well. unwell_by v.unwell none well (one_more_line done next begin);
        })
        by (inr took) = inr (both_go Never never_runs done next (beside s) (beside mid) failure new before middle after u.goes took)
    then_first (inr took) one = inr (both_go Never never_runs done next (beside s) mid failure new before middle after took one_unclaimed)

    -- the run reaches a line of another kind
    missed_here : NoneOfSome → BeginAnew done → is_first next.what ≡ false → (rest : List Timed) → PartMisses tariffs tariff rules rule ((done ++ next ∷ []) ++ rest) s new before after
    missed_here u begin isnt rest w m between is =
        let a = u.goes (next ∷ rest) w m between (is ∙ append_assoc done (next ∷ []) rest) in record {
          moves = a.moves;
          next = a.next;
          added = a.added;
          mid = devices_in mid.system;
          leads = subst (λ (f : SystemFacts). LeadsFrom tariffs tariff rules rule Never w (beside_new s.system) f a.moves a.next a.added) (blank_beside mid.system u.blank) a.leads;
          blank = blank_devices mid.system u.blank;
          unwell = u.unwell refl begin;
          same = behind;
          other = subst IsOther (sym a.lines) isnt;
          text = subst (λ (t : Option (List ℕ)). HasGrown t after) a.put grows;
        }

    then_anew : (first : AreFirst done → IsBlank s.system → SomeBegin) → (BeginAnew done → IsBlank s.system → SomeBegin ⊎ ((rest : List Timed) → PartMisses tariffs tariff rules rule (done ++ rest) s mid before middle))
        → (AreFirst (next ∷ []) → IsBlank mid.system → OneBegins) → BeginAnew (done ++ next ∷ []) → IsBlank s.system
        → AllBegin ⊎ ((rest : List Timed) → PartMisses tariffs tariff rules rule ((done ++ next ∷ []) ++ rest) s new before after)
    then_anew first anew one begin blank = by (one_more_line done next begin)
      where
        on : NoneOfSome → BeginAnew done → (b : Bool) → is_first next.what ≡ b → AllBegin ⊎ ((rest : List Timed) → PartMisses tariffs tariff rules rule ((done ++ next ∷ []) ++ rest) s new before after)
        on u had true is = inl (then_first (inl u) (one (first_one next is)))
        on u had false is = inr (missed_here u had is)

        over : BeginAnew done → SomeBegin ⊎ ((rest : List Timed) → PartMisses tariffs tariff rules rule (done ++ rest) s mid before middle)
            → AllBegin ⊎ ((rest : List Timed) → PartMisses tariffs tariff rules rule ((done ++ next ∷ []) ++ rest) s new before after)
        over had (inl (inl u)) = on u had (is_first next.what) refl
        over had (inl (inr took)) = inl (inr (both_go Never never_runs done next (beside s) mid failure new before middle after took one_unclaimed))
        over had (inr missed) = inr (λ rest w m between is. misses_then w s mid new before middle after behind grows (missed (next ∷ rest) w m between (is ∙ append_assoc done (next ∷ []) rest)))

        by : (AreAside done × BeginAnew (next ∷ [])) ⊎ BeginAnew done → AllBegin ⊎ ((rest : List Timed) → PartMisses tariffs tariff rules rule ((done ++ next ∷ []) ++ rest) s new before after)
        by (inl (all, it)) = inl (then_first (first (asides_first done all) blank) (one (first_one next (format_first next (is_format next it)))))
        by (inr had) = over had (anew had blank)

  -- one more
  pub lines_more : (done : List Timed) (next : Timed) (s mid : Seen) (failure : Option Failure) (new : Seen) (before middle after : Option (List ℕ)) (faults faults1 faults2 : ℕ)
      → DidLines tariffs tariff rules rule done s None mid before middle faults faults1 → DidLines tariffs tariff rules rule (next ∷ []) mid failure new middle after faults1 faults2
      → DidLines tariffs tariff rules rule (done ++ next ∷ []) s failure new before after faults faults2
  lines_more done next s mid failure new before middle after faults faults1 faults2 first one = record {
    goes = both_go SystemSafe safe_runs done next s mid failure new before middle after first.goes one.goes;
    keeps = keeps_then done (next ∷ []) s mid failure new faults faults1 faults2 first.keeps one.keeps;
    late = λ none most due few.
        let (before_it, it) = due_parts most done next due in
        one.late none most (All-cons (λ (t : Timed). t.turn ≤ most) next [] it (All-nil (λ (t : Timed). t.turn ≤ most))) (first.late refl most before_it few);
    grows = grown_then before middle after first.grows one.grows;
    first = λ all blank.
        then_first done next s mid failure new before middle after first.keeps.same one.keeps.same one.grows one.goes
        (first.first (firsts_parts done (next ∷ []) all) blank) (one.first (first_one next (first_last done next all)));
    anew = then_anew done next s mid failure new before middle after first.keeps.same one.keeps.same one.grows one.goes first.first first.anew one.first;
  }

  -- a failure ends them
  short_begins : (done more : List Timed) (s : Seen) (failure : Failure) (new : Seen) (before after : Option (List ℕ))
      → BeginsBy (λ x. LinesGo tariffs tariff rules rule done s (Some failure) x before after) done s (Some failure) new
      → BeginsBy (λ x. LinesGo tariffs tariff rules rule (done ++ more) s (Some failure) x before after) (done ++ more) s (Some failure) new
  short_begins done more s failure new before after (inl u) = inl (record {
    goes = λ rest w m between is. u.goes (more ++ rest) w m between (is ∙ append_assoc done more rest);
    blank = u.blank;
    unwell = λ none begin well. none-some failure (sym none);
  })
  short_begins done more s failure new before after (inr took) = inr (λ rest w m between is. took (more ++ rest) w m between (is ∙ append_assoc done more rest))

  pub lines_short : (done more : List Timed) (s : Seen) (failure : Failure) (new : Seen) (before after : Option (List ℕ)) (faults faults' : ℕ)
      → DidLines tariffs tariff rules rule done s (Some failure) new before after faults faults' → DidLines tariffs tariff rules rule (done ++ more) s (Some failure) new before after faults faults'
  lines_short done more s failure new before after faults faults' did = record {
    goes = λ rest w m between is. did.goes (more ++ rest) w m between (is ∙ append_assoc done more rest);
    keeps = keeps_more done more s failure new faults faults' did.keeps;
    late = λ none most due few. absurd (let no : ⊥ = cc in no);
    grows = did.grows;
    first = λ all blank. short_begins done more s failure new before after (did.first (firsts_parts done more all) blank);
    anew = λ begin blank. by blank (begin_parts done more begin);
  }
    where
      over : BeginsBy (λ x. LinesGo tariffs tariff rules rule done s (Some failure) x before after) done s (Some failure) new ⊎ ((rest : List Timed) → PartMisses tariffs tariff rules rule (done ++ rest) s new before after)
          → BeginsBy (λ x. LinesGo tariffs tariff rules rule (done ++ more) s (Some failure) x before after) (done ++ more) s (Some failure) new
          ⊎ ((rest : List Timed) → PartMisses tariffs tariff rules rule ((done ++ more) ++ rest) s new before after)
      over (inl begun) = inl (short_begins done more s failure new before after begun)
      over (inr missed) = inr (λ rest w m between is. missed (more ++ rest) w m between (is ∙ append_assoc done more rest))

      by : IsBlank s.system → AreAside done ⊎ BeginAnew done
          → BeginsBy (λ x. LinesGo tariffs tariff rules rule (done ++ more) s (Some failure) x before after) (done ++ more) s (Some failure) new
          ⊎ ((rest : List Timed) → PartMisses tariffs tariff rules rule ((done ++ more) ++ rest) s new before after)
      by blank (inl all) = inl (short_begins done more s failure new before after (did.first (asides_first done all) blank))
      by blank (inr begin) = over (did.anew begin blank)

  -- where the next one fails they are cut short
  pub lines_cut : (all done rest : List Timed) (next : Timed) (s mid : Seen) (failure : Option Failure) (new : Seen) (before middle after : Option (List ℕ)) (faults faults1 faults2 : ℕ)
      → all ≡ done ++ next ∷ rest → DidLines tariffs tariff rules rule done s None mid before middle faults faults1
      → DidLines tariffs tariff rules rule (next ∷ []) mid failure new middle after faults1 faults2 → (f : Failure) → failure ≡ Some f
      → DidLines tariffs tariff rules rule all s failure new before after faults faults2
  lines_cut all done rest next s mid failure new before middle after faults faults1 faults2 is first one f failed =
      let more = lines_more done next s mid failure new before middle after faults faults1 faults2 first one in
      let cut : DidLines tariffs tariff rules rule (done ++ next ∷ []) s (Some f) new before after faults faults2 =
      subst (λ (g : Option Failure). DidLines tariffs tariff rules rule (done ++ next ∷ []) s g new before after faults faults2) failed more in
      subst (λ (g : Option Failure). DidLines tariffs tariff rules rule all s g new before after faults faults2) (sym failed)
      (subst (λ (ls : List Timed). DidLines tariffs tariff rules rule ls s (Some f) new before after faults faults2) (append_assoc done (next ∷ []) rest ∙ sym is)
      (lines_short (done ++ next ∷ []) rest s f new before after faults faults2 cut))

  -- ALL LINES, and the ticks after them
  pub all_done : (lines : List Timed) (s mid : Seen) (failure : Option Failure) (new : Seen) (before middle after : Option (List ℕ)) (faults faults1 faults2 : ℕ)
      → DidLines tariffs tariff rules rule lines s None mid before middle faults faults1 → DidTicks tariffs tariff rules rule IsAtRest None mid failure new middle after faults1 faults2
      → DidAll tariffs tariff rules rule lines s failure new before after faults faults2
  all_done lines s mid failure new before middle after faults faults1 faults2 first ticked = record {
    goes = λ w m between is.
        let a = first.goes [] w m between (is ∙ sym (append-nil lines)) in
        goes_then tariffs tariff rules rule SystemSafe safe_runs Anything IsAtRest w [] [] s mid before middle a failure new after (ticked.goes [] refl a.next a.matches a.between a.lines);
    keeps = subst (λ (ls : List Timed). Keeps ls s failure new faults faults2) (append-nil lines) (keeps_then lines [] s mid failure new faults faults1 faults2 first.keeps ticked.keeps);
    anew = λ begin blank. by begin (first.anew begin blank);
  }
    where
      by : BeginAnew lines → BeginsBy (λ x. LinesGo tariffs tariff rules rule lines s None x before middle) lines s None mid ⊎ ((rest : List Timed) → PartMisses tariffs tariff rules rule (lines ++ rest) s mid before middle)
          → BeginsBy (λ x. PartGoesFrom tariffs tariff rules rule Never IsAtRest lines [] (beside s) failure x before after) lines s failure new ⊎ PartMisses tariffs tariff rules rule lines s new before after
      by begin (inl (inl u)) =
          let (blank_new, went) = ticked.aside u.blank in inl (inl (record {
            goes = λ w m between is.
                let a = u.goes [] w m between (is ∙ sym (append-nil lines)) in
                goes_then tariffs tariff rules rule Never never_runs Anything IsAtRest w [] [] (beside s) (beside mid) before middle a failure (beside new) after (went [] refl a.next a.matches a.between a.lines);
            blank = blank_new;
            unwell = λ none it well. u.unwell refl it (first_well (devices_in s.system) (devices_in mid.system) (devices_in new.system) ticked.keeps.same well);
          }))
      by begin (inl (inr took)) = inl (inr (λ w m between is.
          let a = took [] w m between (is ∙ sym (append-nil lines)) in
          goes_then tariffs tariff rules rule Never never_runs Anything IsAtRest w [] [] (beside s) mid before middle a failure new after
          (goes_unclaimed tariffs tariff rules rule SystemSafe IsAtRest a.next [] mid failure new middle after (ticked.goes [] refl a.next a.matches a.between a.lines))))
      by begin (inr missed) = inr (λ w m between is. misses_then w s mid new before middle after ticked.keeps.same ticked.grows (missed [] w m between (is ∙ sym (append-nil lines))))

  pub all_short : (lines : List Timed) (s : Seen) (failure : Failure) (new : Seen) (before after : Option (List ℕ)) (faults faults' : ℕ)
      → DidLines tariffs tariff rules rule lines s (Some failure) new before after faults faults' → DidAll tariffs tariff rules rule lines s (Some failure) new before after faults faults'
  all_short lines s failure new before after faults faults' did = record {
    goes = λ w m between is. did.goes [] w m between (is ∙ sym (append-nil lines));
    keeps = did.keeps;
    anew = λ begin blank. by (did.anew begin blank);
  }
    where
      by : BeginsBy (λ x. LinesGo tariffs tariff rules rule lines s (Some failure) x before after) lines s (Some failure) new ⊎ ((rest : List Timed) → PartMisses tariffs tariff rules rule (lines ++ rest) s new before after)
          → BeginsBy (λ x. PartGoesFrom tariffs tariff rules rule Never IsAtRest lines [] (beside s) (Some failure) x before after) lines s (Some failure) new ⊎ PartMisses tariffs tariff rules rule lines s new before after
      by (inl (inl u)) = inl (inl (record {
        goes = λ w m between is. u.goes [] w m between (is ∙ sym (append-nil lines));
        blank = u.blank;
        unwell = λ none begin well. none-some failure (sym none);
      }))
      by (inl (inr took)) = inl (inr (λ w m between is. took [] w m between (is ∙ sym (append-nil lines))))
      by (inr missed) = inr (λ w m between is. missed [] w m between (is ∙ sym (append-nil lines)))

pub none_of : (failure : Option Failure) → is_some failure ≡ false → failure ≡ None
none_of None is = refl
none_of (Some failure) is = absurd (let no : ⊥ = cc in no)

pub some_of : (failure : Option Failure) → is_some failure ≡ true → (f : Failure) × (failure ≡ Some f)
some_of None is = absurd (let no : ⊥ = cc in no)
some_of (Some failure) is = (failure, refl)

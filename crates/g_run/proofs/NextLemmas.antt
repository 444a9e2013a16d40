-- A line that nothing follows: the moves up to it, and its own move as the last one.
-- serves: next_line
use Rattle.std.proofs.Common.{◌≡◌, ◌⊎◌, ◌++◌, ℕ, Bool, List, [], ◌∷◌, Option, Some, None, append_assoc, refl, sym, ◌∙◌, ap, inl, inr}
use Rattle.std.proofs.lemmas.Option.{none-some}
use Rattle.std.specs.Fn.{Shared}
use denote.Ref.{Bor}
use Rattle.g_rules.specs.declared.tariff.Charge.{Charge}
use Rattle.g_rules.specs.declared.tariff.Usage.{Usage}
use Rattle.g_rules.specs.declared.rule.Standing.{Standing}
use Rattle.g_io.specs.Streams.{with_more}
use Rattle.g_script.specs.declared.operator.Timed.{Timed}
use Rattle.g_run_model.specs.Lines.{is_process}
use Rattle.g_run_model.specs.Moves.{Move, TakeLine}
use Rattle.g_run_model.specs.World.{World}
use Rattle.g_day.specs.declared.progress.Failure.{Failure}
use Rattle.g_day.specs.BeginningAnew.{IsBlank, IsUntaken, beside}
use Rattle.g_day.specs.Losses.{Never}
use Rattle.g_day.specs.Parts.{DidLineFrom, LineGoesFrom, Matches, Seen}
use Rattle.g_day.specs.System.{IsRunning, SameDevices, SystemFacts, devices_in}
use Rattle.g_day.proofs.PutLemmas.{with_more-append}
use Rattle.g_ticks.specs.Tick.{IsBetween}
use Rattle.g_ticks.specs.Parts.{Anything, ArrivesFrom, BeginsBy, DidTicks, IsAtRest, PartGoesFrom, turn_of}
use Rattle.g_ticks.proofs.PartLemmas.{leads_then, leads_unclaimed}
use Rattle.g_ticks.proofs.SurvivingLemmas.{never_runs}
use Rattle.g_run.proofs.AnewLemmas.{is_format, later_well}
use Rattle.g_run.proofs.LeaveLemmas.{line_leaves}
use Rattle.g_run.proofs.LineLemmas.{behind_ticks, line_leads, matches_without, without}
use Rattle.g_run.specs.NextLine.{EndsWithLine, HoldsGoFrom}

module _ {F U : Type 0} (tariffs : Shared F (Bor Usage × Unit {0}) Charge) (tariff : F) (rules : Shared U (Bor Standing × Unit {0}) ℕ) (rule : U) where
  -- A LINE, and nothing after it
  held_line : (Safe : SystemFacts → Type 0) (next : Timed) (old new : Seen) (before after : Option (List ℕ)) → (Safe old.system → Safe new.system) → LineGoesFrom Safe next.what old None new before after
      → (w : World) → Matches w old → IsBetween w → IsAtRest w → w.lines ≡ next ∷ [] → (a : ArrivesFrom tariffs tariff rules rule Safe Anything w [] old new before after) × EndsWithLine a.moves
  held_line Safe next old new before after safe goes w m between due is =
      let (added, d, matches, put) = goes (without tariffs tariff rules rule [] w) (matches_without tariffs tariff rules rule w [] old m) in
      let left = line_leaves d.outcome next.what (without tariffs tariff rules rule [] w) d.next d.gives in (
        record {
          moves = TakeLine (is_process next.what) d.outcome ∷ [];
          next = d.next;
          added = added;
          leads = line_leads tariffs tariff rules rule Safe w next [] between due is old.system new.system safe added d;
          matches = matches;
          between = record { phase = left.phase ∙ between.phase; turn = left.turn ∙ between.turn };
          lines = left.lines;
          rests = tt;
          put = put;
        },
        ([], is_process next.what, d.outcome, refl),
      )

  pub holds_done : (Safe : SystemFacts → Type 0) → ((f : SystemFacts) → Safe f → IsRunning f) → (next : Timed) (old mid : Seen) (failure : Option Failure) (new : Seen) (before middle after : Option (List ℕ))
      → ((lines : List Timed) → turn_of lines ≡ Some next.turn → PartGoesFrom tariffs tariff rules rule Safe IsAtRest lines lines old None mid before middle)
      → (Safe mid.system → Safe new.system) → LineGoesFrom Safe next.what mid failure new middle after
      → PartGoesFrom tariffs tariff rules rule Safe Anything (next ∷ []) [] old failure new before after
      → HoldsGoFrom tariffs tariff rules rule Safe next old failure new before after
  holds_done Safe running next old mid None new before middle after went safe goes all = λ w m between is.
      let a = went (next ∷ []) refl w m between is in
      let (b, (front, tape, outcome, last)) = held_line Safe next mid new middle after safe goes a.next a.matches a.between a.rests a.lines in (
        record {
          moves = a.moves ++ b.moves;
          next = b.next;
          added = a.added ++ b.added;
          leads = leads_then tariffs tariff rules rule Safe running w a.next b.next old.system mid.system new.system a.moves b.moves a.added b.added a.leads b.leads;
          matches = b.matches;
          between = b.between;
          lines = b.lines;
          rests = tt;
          put = b.put ∙ ap (λ (t : Option (List ℕ)). with_more t b.added) a.put ∙ with_more-append before a.added b.added;
        },
        (a.moves ++ front, tape, outcome, ap (λ (ms : List Move). a.moves ++ ms) last ∙ sym (append_assoc a.moves front (TakeLine tape outcome ∷ []))),
      )
  holds_done Safe running next old mid (Some failure) new before middle after went safe goes all = λ w m between is. all w m between is

  -- nothing is claimed of it
  pub held_unclaimed : (Safe : SystemFacts → Type 0) (next : Timed) (old : Seen) (failure : Option Failure) (new : Seen) (before after : Option (List ℕ))
      → HoldsGoFrom tariffs tariff rules rule Safe next old failure new before after → HoldsGoFrom tariffs tariff rules rule Never next old failure new before after
  held_unclaimed Safe next old None new before after goes = λ w m between is.
      let (a, last) = goes w m between is in (
        record {
          moves = a.moves;
          next = a.next;
          added = a.added;
          leads = leads_unclaimed tariffs tariff rules rule Safe w old.system new.system a.moves a.next a.added a.leads;
          matches = a.matches;
          between = a.between;
          lines = a.lines;
          rests = a.rests;
          put = a.put;
        },
        last,
      )
  held_unclaimed Safe next old (Some failure) new before after goes = λ w m between is.
      let b = goes w m between is in
      record { moves = b.moves; next = b.next; added = b.added; leads = leads_unclaimed tariffs tariff rules rule Safe w old.system new.system b.moves b.next b.added b.leads; put = b.put }

  -- starting over: a FORMAT, or a line that doesn't use the filestore
  pub first_held : (next : Timed) (old mid : Seen) (failure : Option Failure) (new : Seen) (before middle after : Option (List ℕ)) (faults1 faults2 : ℕ) → SameDevices (devices_in old.system) (devices_in mid.system)
      → ((lines : List Timed) → turn_of lines ≡ Some next.turn → PartGoesFrom tariffs tariff rules rule Never IsAtRest lines lines (beside old) None (beside mid) before middle)
      → IsUntaken next.what mid failure new middle after faults1 faults2 ⊎ DidLineFrom Never next.what (beside mid) failure new middle after faults1 faults2
      → BeginsBy (λ s. HoldsGoFrom tariffs tariff rules rule Never next (beside old) failure s before after) (next ∷ []) old failure new
  first_held next old mid failure new before middle after faults1 faults2 same went (inl u) = inl (record {
    goes = holds_done Never never_runs next (beside old) (beside mid) failure (beside new) before middle after went u.went.safe u.went.goes
        (λ w m between is. behind_ticks tariffs tariff rules rule Never never_runs next (beside old) (beside mid) failure (beside new) before middle after went u.went.safe u.went.goes [] w m between is);
    blank = u.blank;
    unwell = λ none begin well. u.unwell none (is_format next begin) (later_well (devices_in old.system) (devices_in mid.system) (devices_in new.system) same well);
  })
  first_held next old mid failure new before middle after faults1 faults2 same went (inr took) =
      inr (holds_done Never never_runs next (beside old) (beside mid) failure new before middle after went took.safe took.goes
      (λ w m between is. behind_ticks tariffs tariff rules rule Never never_runs next (beside old) (beside mid) failure new before middle after went took.safe took.goes [] w m between is))

  -- its ticks failed
  pub none_held : (next : Timed) (old : Seen) (failure : Failure) (new : Seen) (before after : Option (List ℕ)) (faults faults' : ℕ)
      → DidTicks tariffs tariff rules rule IsAtRest (Some next.turn) old (Some failure) new before after faults faults' → IsBlank old.system
      → BeginsBy (λ s. HoldsGoFrom tariffs tariff rules rule Never next (beside old) (Some failure) s before after) (next ∷ []) old (Some failure) new
  none_held next old failure new before after faults faults' ticked blank =
      let (blank_new, went) = ticked.aside blank in inl (record {
        goes = λ w m between is. went (next ∷ []) refl w m between is;
        blank = blank_new;
        unwell = λ none begin well. none-some failure (sym none);
      })

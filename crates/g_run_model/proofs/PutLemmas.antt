-- EVERY MOVE prints its text in pieces, and what it prints for a terminal's job is what was added to that job's file.
-- serves: terminals_print_their_files
use Rattle.std.proofs.Common.{◌≡◌, ◌<◌, ◌≤◌, ◌+◌, ◌==◌, ◌&&◌, ℕ, Bool, true, false, cond, nat_le, not, List, [], ◌∷◌, ◌++◌, Option, Some, None, Result, Ok, Err, MatchBool, append_assoc, append-nil, codes, refl, sym, ◌∙◌, ap, subst, inl, inr, if◌then◌else◌, eqb-true, ne_eqb, arith}
use Rattle.std.proofs.lemmas.Bool.{leb-false, leb-true}
use Rattle.std.specs.List.{AllByRecursion}
use Rattle.std.specs.Option.{option_map, option_or}
use Rattle.std.specs.Fmt.{decimal}
use Rattle.std.specs.Fn.{Shared}
use denote.Ref.{Bor}
use Rattle.std.proofs.lemmas.List.Folds.{find-append}
use Rattle.g_base.proofs.KeyLemmas.{find-put}
use Rattle.g_rules.specs.declared.tariff.Charge.{Charge}
use Rattle.g_rules.specs.declared.tariff.Usage.{Usage}
use Rattle.g_rules.specs.declared.rule.Standing.{Standing}
use Rattle.g_job.specs.State.{JobState}
use Rattle.g_job.specs.Terminal.{with_stack}
use Rattle.g_rules.specs.declared.turn.Turn.{Turn}
use Rattle.g_rules.specs.declared.turn.Turn.TheVariants as turns
use Rattle.g_lines.specs.Lines.{ended}
use Rattle.g_macro.specs.Holding.{finished, with_typed}
use Rattle.g_macro.specs.Levels.{Stack}
use Rattle.g_monitor.specs.Parts.{full_text}
use Rattle.g_monitor.specs.Refusals.{fault_line}
use Rattle.g_mop.specs.TerminalLines.{shown_at, terminal_name}
use Rattle.g_plain.specs.declared.faults.StoreFault.{StoreFault}
use Rattle.g_plain.specs.declared.faults.StoreFault.TheVariants.{DumpOpen, NotStarted, Running, Stopped}
use Rattle.g_script.specs.declared.operator.Operator.{Operator}
use Rattle.g_script.specs.declared.operator.Operator.TheVariants as line
use Rattle.g_store_model.specs.CallStep.{Outcome, Plain}
use Rattle.g_store_model.specs.DumpSteps.{Completed, Going, Stepped as DumpStepped}
use Rattle.g_store_model.specs.Rising.{FormatStep, RestoreStep, StartStep}
use Rattle.g_store_model.specs.State.{OpenDump, State}
use Rattle.g_run_model.specs.Events.{IsMigration, IsOpening, IsTold, IsProcessing}
use Rattle.g_run_model.specs.Lines.{LineGives, shut_with, at_terminal, changed_at, job_line, job_refusal, line_refused, logged_in, login_refusal, now_stands, open_at, sits_at, taken_in, tells, terminal_job, up_with}
use Rattle.g_run_model.specs.Moves.{Answered, Begin, Dumped, Move, Over, Run, Step, TakeLine, Ticked, TurnOver, dump_told, turn_told}
use Rattle.g_run_model.specs.Terminals.{At, GoesTo, IsLastLine, IsOther, Other, Piece, TerminalsPrint, output_at, text_of_pieces}
use Rattle.g_run_model.specs.Texts.{broken_files, closing, dump_text, job_text, operator_line, put_as, shown, started_text, tape_text, waiting_files, waiting_line, processed_text}
use Rattle.g_run_model.specs.World.{World, closed, job_of, shows, start, with_job, without_job}
use Rattle.g_script.specs.declared.operator.Timed.{Timed}
use Rattle.g_run_model.proofs.CrewLemmas.{AreRising, found_by, found_other, left_none, left_other, no_job, number_of, numbered, rising_filter, rising_push, rising_with}
use Rattle.g_run_model.proofs.PieceLemmas.{Grown, Last, added_is, files_none, files_one, files_others, files_text, its_number, other_number, output_append, pieces_of, text_append, turn_grown}
use Rattle.g_run_model.proofs.TickLemmas.{turn_added, turn_adds}

-- how a number's job continues with what was printed for it at t
abbrev pub GrowsBy : ℕ → ℕ → List Piece → Option JobState → Option JobState → Type 0
GrowsBy number t ps None None = output_at number t ps ≡ []
GrowsBy number t ps None (Some after) = after.terminal ≡ Some t → after.monitor ≡ output_at number t ps
GrowsBy number t ps (Some job) None = job.terminal ≡ Some t → Last (output_at number t ps)
GrowsBy number t ps (Some job) (Some after) = (after.terminal ≡ job.terminal) × (job.terminal ≡ Some t → after.monitor ≡ job.monitor ++ output_at number t ps)

pub record Puts (w new : World) : Type 0 where
  pub pieces : List Piece
  pub text : new.text ≡ w.text ++ text_of_pieces pieces
  pub others : AllByRecursion IsOther pieces
  pub grows : (number t : ℕ) → GrowsBy number t pieces (job_of w number) (job_of new number)
  pub rising : AreRising 0 new.jobs new.next_job
  pub later : w.next_job ≤ new.next_job
  pub gone : (number : ℕ) → number < w.next_job → job_of w number ≡ None → job_of new number ≡ None

rising_is : (jobs new : List JobState) (next next2 : ℕ) → new ≡ jobs → next2 ≡ next → AreRising 0 jobs next → AreRising 0 new next2
rising_is jobs new next next2 same is r = subst (λ (js : List JobState). AreRising 0 js next2) (sym same) (subst (λ (n : ℕ). AreRising 0 jobs n) (sym is) r)

not_later : (next next2 : ℕ) → next2 ≡ next → next ≤ next2
not_later next next2 is = omega (arith, is)

-- a job that is unchanged, or doesn't exist
stays_grown : (number t : ℕ) (ps : List Piece) (o : Option JobState) → output_at number t ps ≡ [] → GrowsBy number t ps o o
stays_grown number t ps None e = e
stays_grown number t ps (Some j) e = (refl, λ at_t. sym (append-nil j.monitor) ∙ ap (λ (x : List ℕ). j.monitor ++ x) (sym e))

same_grown : (number t : ℕ) (ps : List Piece) (o p : Option JobState) → p ≡ o → output_at number t ps ≡ [] → GrowsBy number t ps o p
same_grown number t ps o p is e = subst (λ (x : Option JobState). GrowsBy number t ps o x) (sym is) (stays_grown number t ps o e)

puts_is : (w new v : World) → new ≡ v → Puts w v → Puts w new
puts_is w new v is p = subst (λ (x : World). Puts w x) (sym is) p

puts_none : (w new : World) → AreRising 0 w.jobs w.next_job → new.jobs ≡ w.jobs → new.next_job ≡ w.next_job → new.text ≡ w.text → Puts w new
puts_none w new rising jobs next text = record {
  pieces = [];
  text = text ∙ sym (append-nil w.text);
  others = tt;
  grows = λ number t. same_grown number t [] (job_of w number) (job_of new number) (ap (numbered number) jobs) refl;
  rising = rising_is w.jobs new.jobs w.next_job new.next_job jobs next rising;
  later = not_later w.next_job new.next_job next;
  gone = λ number below none. ap (numbered number) jobs ∙ none;
}

puts_line : (w new : World) (count : ℕ) (what : List ℕ) → AreRising 0 w.jobs w.next_job → new.jobs ≡ w.jobs → new.next_job ≡ w.next_job → new.text ≡ w.text ++ operator_line count what → Puts w new
puts_line w new count what rising jobs next text = record {
  pieces = Other (operator_line count what) ∷ [];
  text = text ∙ ap (λ (x : List ℕ). w.text ++ x) (sym (append-nil (operator_line count what)));
  others = (inl (count, what, refl), tt);
  grows = λ number t. same_grown number t (Other (operator_line count what) ∷ []) (job_of w number) (job_of new number) (ap (numbered number) jobs) refl;
  rising = rising_is w.jobs new.jobs w.next_job new.next_job jobs next rising;
  later = not_later w.next_job new.next_job next;
  gone = λ number below none. ap (numbered number) jobs ∙ none;
}

-- the system goes down
abbrev break_last : JobState → List ℕ
break_last j = codes "BREAK"

gone_grown : (last : JobState → List ℕ) → ((job : JobState) → IsLastLine (last job)) → (number t : ℕ) (x : List ℕ) (jobs : List JobState) (top : ℕ) (o : Option JobState) → AreRising 0 jobs top
    → numbered number jobs ≡ o → GrowsBy number t (Other x ∷ pieces_of last jobs) o None
gone_grown last lasts number t x jobs top None r is = files_none last number t jobs is
gone_grown last lasts number t x jobs top (Some job) r is = λ at_t. ([], last job, lasts job, files_one last number t 0 jobs top job r is at_t)

puts_down : (w new : World) (count : ℕ) (what : List ℕ) → AreRising 0 w.jobs w.next_job → new.jobs ≡ [] → new.next_job ≡ w.next_job → new.text ≡ (w.text ++ operator_line count what) ++ broken_files w.jobs → Puts w new
puts_down w new count what rising jobs next text = record {
  pieces = Other (operator_line count what) ∷ pieces_of break_last w.jobs;
  text = text ∙ append_assoc w.text (operator_line count what) (broken_files w.jobs) ∙ ap (λ (x : List ℕ). w.text ++ (operator_line count what ++ x)) (sym (files_text break_last w.jobs));
  others = (inl (count, what, refl), files_others break_last w.jobs);
  grows = λ number t. subst (λ (js : List JobState). GrowsBy number t (Other (operator_line count what) ∷ pieces_of break_last w.jobs) (job_of w number) (numbered number js)) (sym jobs)
      (gone_grown break_last (λ job. inr (inl refl)) number t (operator_line count what) w.jobs w.next_job (numbered number w.jobs) rising refl);
  rising = subst (λ (js : List JobState). AreRising 0 js new.next_job) (sym jobs) (let low : 0 ≤ new.next_job = omega arith in low);
  later = not_later w.next_job new.next_job next;
  gone = λ number below none. ap (numbered number) jobs;
}

-- lines
up_puts : {R : Type 0} (said : R → List ℕ) (r : Result R StoreFault) (s : State) (w : World) → AreRising 0 w.jobs w.next_job → Puts w (tells (λ x t v. up_with (said x) t v) r s w)
up_puts said (Ok x) s w rising = puts_line w _ w.count (said x) rising refl refl refl
up_puts said (Err Stopped) s w rising = puts_down w _ w.count (codes "SYSTEM STOPPED") rising refl refl refl
up_puts said (Err fault) s w rising = puts_line w _ w.count (codes "REFUSED " ++ fault_line fault) rising refl refl refl

stands_puts : {R : Type 0} (said : R → List ℕ) (r : Result R StoreFault) (s : State) (w : World) → AreRising 0 w.jobs w.next_job → Puts w (tells (λ x t v. now_stands (said x) t v) r s w)
stands_puts said (Ok x) s w rising = puts_line w _ w.count (said x) rising refl refl refl
stands_puts said (Err Stopped) s w rising = puts_down w _ w.count (codes "SYSTEM STOPPED") rising refl refl refl
stands_puts said (Err fault) s w rising = puts_line w _ w.count (codes "REFUSED " ++ fault_line fault) rising refl refl refl

refused_puts : (fault : StoreFault) (w : World) → AreRising 0 w.jobs w.next_job → Puts w (line_refused fault w)
refused_puts fault w rising = puts_line w (line_refused fault w) w.count (codes "REFUSED " ++ fault_line fault) rising refl refl refl

rises_puts : {R : Type 0} (Does : State → Outcome → Result R StoreFault → State → Type 0) (said : R → List ℕ) (o : Outcome) (w new : World) (b : Bool) → AreRising 0 w.jobs w.next_job
    → MatchBool (not b) ((r : Result R StoreFault) × (s : State) × (Does w.store o r s × IsTold o r) × (new ≡ tells (λ x t v. up_with (said x) t v) r s w)) ((o ≡ Plain) × (new ≡ line_refused Running w))
    → Puts w new
rises_puts Does said o w new true rising (plain, is) = puts_is w new _ is (refused_puts Running w rising)
rises_puts Does said o w new false rising (r, s, (does, so), is) = puts_is w new _ is (up_puts said r s w rising)

needs_puts : {R : Type 0} (Does : Result R StoreFault → State → Type 0) (said : R → List ℕ) (o : Outcome) (w new : World) (b : Bool) → AreRising 0 w.jobs w.next_job
    → MatchBool b ((r : Result R StoreFault) × (s : State) × Does r s × (new ≡ tells (λ x t v. now_stands (said x) t v) r s w)) ((o ≡ Plain) × (new ≡ line_refused NotStarted w))
    → Puts w new
needs_puts Does said o w new true rising (r, s, does, is) = puts_is w new _ is (stands_puts said r s w rising)
needs_puts Does said o w new false rising (plain, is) = puts_is w new _ is (refused_puts NotStarted w rising)

shuts_puts : (d : Option OpenDump) (w new : World) → AreRising 0 w.jobs w.next_job → new ≡ shut_with d w → Puts w new
shuts_puts (Some dump) w new rising is = puts_is w new _ is (refused_puts (DumpOpen dump.number) w rising)
shuts_puts None w new rising is = puts_is w new _ is (puts_down w _ w.count (codes "SHUT") rising refl refl refl)

shut_puts : (w new : World) (b : Bool) → AreRising 0 w.jobs w.next_job → new ≡ (if b then shut_with w.store.open_dump w else line_refused NotStarted w) → Puts w new
shut_puts w new true rising shuts = shuts_puts w.store.open_dump w new rising shuts
shut_puts w new false rising is = puts_is w new _ is (refused_puts NotStarted w rising)

-- a job is added after the others
push_some : (number : ℕ) (jobs : List JobState) (job k : JobState) → numbered number jobs ≡ Some k → numbered number (jobs ++ job ∷ []) ≡ Some k
push_some number jobs job k is = find-append (λ (j : JobState). j.number == number) jobs (job ∷ []) ∙ ap (λ (o : Option JobState). option_or o (numbered number (job ∷ []))) is

push_none : (number : ℕ) (jobs : List JobState) (job : JobState) → numbered number jobs ≡ None → numbered number (jobs ++ job ∷ []) ≡ numbered number (job ∷ [])
push_none number jobs job is = find-append (λ (j : JobState). j.number == number) jobs (job ∷ []) ∙ ap (λ (o : Option JobState). option_or o (numbered number (job ∷ []))) is

-- what is printed for a new job: its first line, at a terminal
abbrev coming : Option ℕ → ℕ → List ℕ → List Piece
coming None number monitor = []
coming (Some t) number monitor = At number t monitor ∷ []

coming_text : (o : Option ℕ) (number : ℕ) (monitor : List ℕ) → text_of_pieces (coming o number monitor) ≡ put_as o [] monitor
coming_text None number monitor = refl
coming_text (Some t) number monitor = append-nil (shown_at t monitor)

coming_others : (o : Option ℕ) (number : ℕ) (monitor : List ℕ) → AllByRecursion IsOther (coming o number monitor)
coming_others None number monitor = tt
coming_others (Some t) number monitor = (tt, tt)

coming_apart : (o : Option ℕ) (n number t : ℕ) (monitor : List ℕ) (ps : List Piece) → (n == number) ≡ false → output_at number t (coming o n monitor ++ ps) ≡ output_at number t ps
coming_apart None n number t monitor ps e = refl
coming_apart (Some x) n number t monitor ps e = other_number (Some x) n number t [] monitor ps e

coming_own : (o : Option ℕ) (number t : ℕ) (monitor : List ℕ) (ps : List Piece) → o ≡ Some t → output_at number t (coming o number monitor ++ ps) ≡ monitor ++ output_at number t ps
coming_own o number t monitor ps is = ap (λ (x : Option ℕ). output_at number t (coming x number monitor ++ ps)) is ∙ its_number number t [] monitor ps

puts_job : (w new : World) (count : ℕ) (what : List ℕ) (job : JobState) → AreRising 0 w.jobs w.next_job → job.number ≡ w.next_job → new.jobs ≡ w.jobs ++ job ∷ [] → new.next_job ≡ w.next_job + 1
    → new.text ≡ (w.text ++ operator_line count what) ++ put_as job.terminal [] job.monitor → Puts w new
puts_job w new count what job rising is jobs next text = record {
  pieces = Other (operator_line count what) ∷ (coming job.terminal job.number job.monitor ++ []);
  text = text ∙ append_assoc w.text (operator_line count what) (put_as job.terminal [] job.monitor)
      ∙ ap (λ (x : List ℕ). w.text ++ (operator_line count what ++ x))
      (sym (coming_text job.terminal job.number job.monitor) ∙ sym (ap text_of_pieces (append-nil (coming job.terminal job.number job.monitor))));
  others = (inl (count, what, refl), subst (λ (ps : List Piece). AllByRecursion IsOther ps) (sym (append-nil (coming job.terminal job.number job.monitor))) (coming_others job.terminal job.number job.monitor));
  grows = λ number t. subst (λ (js : List JobState). GrowsBy number t pieces (job_of w number) (numbered number js)) (sym jobs) (grown number t (numbered number w.jobs) refl);
  rising = rising_is (w.jobs ++ job ∷ []) new.jobs (w.next_job + 1) new.next_job jobs next (rising_push 0 w.jobs w.next_job job is rising);
  later = omega (arith, next);
  gone = λ number below none. ap (numbered number) jobs ∙ push_none number w.jobs job none
      ∙ ap (λ (b : Bool). cond b (Some job) None) (ne_eqb job.number number (λ same. let no : ⊥ = omega (arith, is, same, below) in no));
}
  where
    pieces : List Piece
    pieces = Other (operator_line count what) ∷ (coming job.terminal job.number job.monitor ++ [])

    fresh : (number t : ℕ) (b : Bool) → (job.number == number) ≡ b → GrowsBy number t pieces None (cond b (Some job) None)
    fresh number t true e = λ at_t. sym (ap (λ (n : ℕ). output_at number t (coming job.terminal n job.monitor ++ [])) (eqb-true job.number number e) ∙ coming_own job.terminal number t job.monitor [] at_t ∙ append-nil job.monitor)
    fresh number t false e = coming_apart job.terminal job.number number t job.monitor [] e

    grown : (number t : ℕ) (o : Option JobState) → numbered number w.jobs ≡ o → GrowsBy number t pieces o (numbered number (w.jobs ++ job ∷ []))
    grown number t None none = subst (λ (p : Option JobState). GrowsBy number t pieces None p) (sym (push_none number w.jobs job none)) (fresh number t (job.number == number) refl)
    grown number t (Some k) found =
        let below : number < w.next_job = (number_of number 0 w.jobs w.next_job k rising found).1 in
        let apart : (job.number == number) ≡ false = ne_eqb job.number number (λ same. let no : ⊥ = omega (arith, is, same, below) in no) in
        same_grown number t pieces (Some k) (numbered number (w.jobs ++ job ∷ [])) (push_some number w.jobs job k found) (coming_apart job.terminal job.number number t job.monitor [] apart)

job_puts : (name user : List ℕ) (time money : ℕ) (lines : List (List ℕ)) (w : World) (refusal : Option (List ℕ)) → AreRising 0 w.jobs w.next_job → Puts w (job_line refusal (taken_in name user time money lines w) w)
job_puts name user time money lines w None rising =
    puts_job w _ w.count (job_text w.next_job (name ++ codes " IN")) _ rising refl refl refl (sym (append-nil (w.text ++ operator_line w.count (job_text w.next_job (name ++ codes " IN")))))
job_puts name user time money lines w (Some text) rising = puts_line w _ w.count (codes "REFUSED " ++ text) rising refl refl refl

job_by_puts : (name user : List ℕ) (time money : ℕ) (lines : List (List ℕ)) (w : World) (b : Bool) → AreRising 0 w.jobs w.next_job
    → Puts w (if b then job_line (job_refusal w user time money) (taken_in name user time money lines w) w else line_refused NotStarted w)
job_by_puts name user time money lines w true rising = job_puts name user time money lines w (job_refusal w user time money) rising
job_by_puts name user time money lines w false rising = refused_puts NotStarted w rising

login_puts : (t : ℕ) (user : List ℕ) (time : ℕ) (w : World) (refusal : Option (List ℕ)) → AreRising 0 w.jobs w.next_job → Puts w (job_line refusal (logged_in t user time w) w)
login_puts t user time w None rising = puts_job w _ w.count (job_text w.next_job (terminal_name t ++ codes " IN")) (terminal_job w.next_job t user time) rising refl refl refl refl
login_puts t user time w (Some text) rising = puts_line w _ w.count (codes "REFUSED " ++ text) rising refl refl refl

login_by_puts : (t : ℕ) (user : List ℕ) (time : ℕ) (w : World) (b : Bool) → AreRising 0 w.jobs w.next_job → Puts w (if b then job_line (login_refusal w t user time) (logged_in t user time w) w else line_refused NotStarted w)
login_by_puts t user time w true rising = login_puts t user time w (login_refusal w t user time) rising
login_by_puts t user time w false rising = refused_puts NotStarted w rising

-- a job continues as another one of its number
with_found : (after : JobState) (jobs : List JobState) (job : JobState) → numbered after.number jobs ≡ Some job → numbered after.number (with_job after jobs) ≡ Some after
with_found after jobs job is = find-put (λ (j : JobState). j.number) after jobs ∙ ap (option_map (λ (j : JobState). after)) is

changed_puts : (t : ℕ) (change : Stack → Stack) (w : World) (j : Option JobState) → open_at t w.jobs ≡ j → AreRising 0 w.jobs w.next_job → Puts w (changed_at t (with_stack change) j w)
changed_puts t change w None is rising = puts_line w _ w.count _ rising refl refl refl
changed_puts t change w (Some j) is rising = record {
  pieces = [];
  text = sym (append-nil w.text);
  others = tt;
  grows = λ number x. by number x (j.number == number) refl;
  rising = rising_with after 0 w.jobs w.next_job rising;
  later = not_later w.next_job w.next_job refl;
  gone = λ number below none. left number none (j.number == number) refl;
}
  where
    after : JobState
    after = with_stack change j

    here : numbered j.number w.jobs ≡ Some j
    here = (found_by (λ (x : JobState). sits_at t x && x.desk.levels.held) 0 w.jobs w.next_job j rising is).1

    there : numbered j.number (with_job after w.jobs) ≡ Some after
    there = with_found after w.jobs j here

    left : (number : ℕ) → numbered number w.jobs ≡ None → (b : Bool) → (j.number == number) ≡ b → numbered number (with_job after w.jobs) ≡ None
    left number none true e = no_job j (sym none ∙ ap (λ (n : ℕ). numbered n w.jobs) (sym (eqb-true j.number number e)) ∙ here)
    left number none false e = found_other after number e w.jobs ∙ none

    grown : (x : ℕ) (o p : Option JobState) → o ≡ Some j → p ≡ Some after → GrowsBy j.number x [] o p
    grown x o p one two = subst (λ (q : Option JobState). GrowsBy j.number x [] o q) (sym two) (subst (λ (q : Option JobState). GrowsBy j.number x [] q (Some after)) (sym one) (refl, λ at_x. sym (append-nil j.monitor)))

    by : (number x : ℕ) (b : Bool) → (j.number == number) ≡ b → GrowsBy number x [] (numbered number w.jobs) (numbered number (with_job after w.jobs))
    by number x true e = subst (λ (n : ℕ). GrowsBy n x [] (numbered n w.jobs) (numbered n (with_job after w.jobs))) (eqb-true j.number number e) (grown x (numbered j.number w.jobs) (numbered j.number (with_job after w.jobs)) here there)
    by number x false e = same_grown number x [] (numbered number w.jobs) (numbered number (with_job after w.jobs)) (found_other after number e w.jobs) refl

typed_puts : (t : ℕ) (change : Stack → Stack) (w : World) (b : Bool) → AreRising 0 w.jobs w.next_job → Puts w (if b then at_terminal t (with_stack change) w else line_refused NotStarted w)
typed_puts t change w true rising = changed_puts t change w (open_at t w.jobs) refl rising
typed_puts t change w false rising = refused_puts NotStarted w rising

-- A LINE
line_puts : (o : Outcome) (what : Operator) (w new : World) → AreRising 0 w.jobs w.next_job → LineGives o what w new → Puts w new
line_puts o line.Format w new rising gives = rises_puts FormatStep (λ r. codes "FORMATTED") o w new w.store.up rising gives
line_puts o line.Start w new rising gives = rises_puts StartStep started_text o w new w.store.up rising gives
line_puts o line.Restore w new rising gives = rises_puts RestoreStep (λ n. codes "RESTORED FROM DUMP " ++ decimal n) o w new w.store.up rising gives
line_puts o line.Shut w new rising (plain, gives) = shut_puts w new w.store.up rising gives
line_puts o (line.Job name user time money lines) w new rising (plain, is) = puts_is w new _ is (job_by_puts name user time money lines w w.store.up rising)
line_puts o (line.Mount serial) w new rising (r, s, does, is) = puts_is w new _ is (stands_puts (λ _. tape_text serial (codes "MOUNTED")) r s w rising)
line_puts o (line.Unmount serial) w new rising (r, s, does, is) = puts_is w new _ is (stands_puts (λ _. tape_text serial (codes "UNMOUNTED")) r s w rising)
line_puts o (line.Dump serial) w new rising gives = needs_puts (λ r s. IsOpening w.store serial o r s) (λ n. dump_text n (codes "OPENED")) o w new w.store.up rising gives
line_puts o (line.Process serial) w new rising gives = needs_puts (λ r s. IsProcessing w.store serial o r s) (processed_text serial) o w new w.store.up rising gives
line_puts o (line.Migrate path) w new rising gives = needs_puts (λ r s. IsMigration w.store path o r s) (λ full. codes "MIGRATED " ++ full_text full) o w new w.store.up rising gives
line_puts o (line.StopDisc k) w new rising (plain, is) = puts_is w new _ is (puts_line w _ w.count (codes "STOP SET") rising refl refl refl)
line_puts o (line.StopTape k) w new rising (plain, is) = puts_is w new _ is (puts_line w _ w.count (codes "STOP SET") rising refl refl refl)
line_puts o (line.Login t user time) w new rising (plain, is) = puts_is w new _ is (login_by_puts t user time w w.store.up rising)
line_puts o (line.Typed t text) w new rising (plain, is) = puts_is w new _ is (typed_puts t (with_typed text) w w.store.up rising)
line_puts o (line.Logout t) w new rising (plain, is) = puts_is w new _ is (typed_puts t finished w w.store.up rising)

-- a step of the dump
dump_puts : (number : ℕ) (r : Result DumpStepped StoreFault) (s : State) (w : World) → AreRising 0 w.jobs w.next_job → Puts w (dump_told number r s w)
dump_puts number (Ok Going) s w rising = puts_none w _ rising refl refl refl
dump_puts number (Ok (Completed n)) s w rising = puts_line w _ w.count (dump_text n (codes "COMPLETED")) rising refl refl refl
dump_puts number (Err Stopped) s w rising = puts_down w _ w.count (codes "SYSTEM STOPPED") rising refl refl refl
dump_puts number (Err fault) s w rising = puts_line w _ w.count (dump_text number (codes "LOST " ++ fault_line fault)) rising refl refl refl

-- after what was added to the file: the rest of what the end of a turn prints
abbrev rest_ended : Option ℕ → List ℕ → List Piece
rest_ended None whole = Other whole ∷ []
rest_ended (Some t) whole = []

rest_text : (o : Option ℕ) (whole : List ℕ) → text_of_pieces (rest_ended o whole) ≡ put_as o whole []
rest_text None whole = append-nil whole
rest_text (Some t) whole = refl

rest_others : (after : JobState) (o : Option ℕ) → after.terminal ≡ o → AllByRecursion IsOther (rest_ended o after.monitor)
rest_others after None is = (inr (inl (after, [], is, sym (append-nil after.monitor))), tt)
rest_others after (Some t) is = tt

rest_output : (o : Option ℕ) (whole : List ℕ) (number t : ℕ) → output_at number t (rest_ended o whole) ≡ []
rest_output None whole number t = refl
rest_output (Some x) whole number t = refl

abbrev rest_of : ℕ → JobState → Turn → List JobState → List Piece
rest_of count after turns.Broken jobs = Other (operator_line count (codes "SYSTEM STOPPED")) ∷ pieces_of break_last (with_job after jobs)
rest_of count after (turns.Wants serial) jobs = Other (operator_line count (job_text after.number (codes "WANTS TAPE " ++ decimal serial))) ∷ []
rest_of count after (turns.Ran units money) jobs = []
rest_of count after (turns.Ended units money) jobs = rest_ended after.terminal after.monitor

rest_is : (count : ℕ) (after : JobState) (turn : Turn) (jobs : List JobState) → text_of_pieces (rest_of count after turn jobs) ≡ turn_added count after turn jobs
rest_is count after turns.Broken jobs = ap (λ (x : List ℕ). operator_line count (codes "SYSTEM STOPPED") ++ x) (files_text break_last (with_job after jobs))
rest_is count after (turns.Wants serial) jobs = append-nil (operator_line count (job_text after.number (codes "WANTS TAPE " ++ decimal serial)))
rest_is count after (turns.Ran units money) jobs = refl
rest_is count after (turns.Ended units money) jobs = rest_text after.terminal after.monitor

rest_is_other : (count : ℕ) (after : JobState) (turn : Turn) (jobs : List JobState) → AllByRecursion IsOther (rest_of count after turn jobs)
rest_is_other count after turns.Broken jobs = (inl (count, codes "SYSTEM STOPPED", refl), files_others break_last (with_job after jobs))
rest_is_other count after (turns.Wants serial) jobs = (inl (count, job_text after.number (codes "WANTS TAPE " ++ decimal serial), refl), tt)
rest_is_other count after (turns.Ran units money) jobs = tt
rest_is_other count after (turns.Ended units money) jobs = rest_others after after.terminal refl

others_append : (xs ys : List Piece) → AllByRecursion IsOther xs → AllByRecursion IsOther ys → AllByRecursion IsOther (xs ++ ys)
others_append [] ys hx hy = hy
others_append (x ∷ xs) ys hx hy = (hx.0, others_append xs ys hx.1 hy)

-- THE END OF A TURN
module _ (w : World) (job after : JobState) (rising : AreRising 0 w.jobs w.next_job) (here : numbered job.number w.jobs ≡ Some job) where
  abbrev puts_at : (turn : Turn) (added : List ℕ) → List Piece
  puts_at turn added = coming after.terminal job.number added ++ rest_of w.count after turn w.jobs

  -- the jobs afterwards
  abbrev jobs_behind : Turn → List JobState
  jobs_behind turns.Broken = []
  jobs_behind (turns.Wants serial) = with_job after w.jobs
  jobs_behind (turns.Ran units money) = with_job after w.jobs
  jobs_behind (turns.Ended units money) = without_job after.number w.jobs

  told_jobs : (turn : Turn) → (turn_told after turn (shows job after w)).jobs ≡ jobs_behind turn
  told_jobs turns.Broken = refl
  told_jobs (turns.Wants serial) = refl
  told_jobs (turns.Ran units money) = refl
  told_jobs (turns.Ended units money) = refl

  module _ (same : after.number ≡ job.number) where
    here_after : numbered after.number w.jobs ≡ Some job
    here_after = ap (λ (n : ℕ). numbered n w.jobs) same ∙ here

    there : numbered job.number (with_job after w.jobs) ≡ Some after
    there = ap (λ (n : ℕ). numbered n (with_job after w.jobs)) (sym same) ∙ with_found after w.jobs job here_after

    -- another number's job
    apart_files : (number t : ℕ) (x : List ℕ) (o : Option JobState) → numbered number (with_job after w.jobs) ≡ o → GrowsBy number t (Other x ∷ pieces_of break_last (with_job after w.jobs)) o None
    apart_files number t x o is = gone_grown break_last (λ j. inr (inl refl)) number t x (with_job after w.jobs) w.next_job o (rising_with after 0 w.jobs w.next_job rising) is

    apart_rest : (number t : ℕ) (turn : Turn) → (after.number == number) ≡ false → GrowsBy number t (rest_of w.count after turn w.jobs) (numbered number w.jobs) (numbered number (jobs_behind turn))
    apart_rest number t turns.Broken e = apart_files number t (operator_line w.count (codes "SYSTEM STOPPED")) (numbered number w.jobs) (found_other after number e w.jobs)
    apart_rest number t (turns.Wants serial) e = same_grown number t (rest_of w.count after (turns.Wants serial) w.jobs) (numbered number w.jobs) (numbered number (with_job after w.jobs)) (found_other after number e w.jobs) refl
    apart_rest number t (turns.Ran units money) e = same_grown number t [] (numbered number w.jobs) (numbered number (with_job after w.jobs)) (found_other after number e w.jobs) refl
    apart_rest number t (turns.Ended units money) e =
        same_grown number t (rest_ended after.terminal after.monitor) (numbered number w.jobs) (numbered number (without_job after.number w.jobs)) (left_other after.number number e w.jobs) (rest_output after.terminal after.monitor number t)

    -- texts that are printed alike have the same effect
    alike : (number t : ℕ) (ps qs : List Piece) (o p : Option JobState) → output_at number t ps ≡ output_at number t qs → GrowsBy number t qs o p → GrowsBy number t ps o p
    alike number t ps qs None None e h = e ∙ h
    alike number t ps qs None (Some a) e h = λ at_t. h at_t ∙ sym e
    alike number t ps qs (Some j) None e h = λ at_t. subst Last (sym e) (h at_t)
    alike number t ps qs (Some j) (Some a) e h = (h.0, λ at_t. h.1 at_t ∙ ap (λ (x : List ℕ). j.monitor ++ x) (sym e))

    module _ (turn : Turn) (g : Grown job turn after) where
      -- the job's own number
      own_out : (t : ℕ) → job.terminal ≡ Some t → output_at job.number t (puts_at turn g.added) ≡ g.added ++ output_at job.number t (rest_of w.count after turn w.jobs)
      own_out t at_t = coming_own after.terminal job.number t g.added (rest_of w.count after turn w.jobs) (g.terminal ∙ at_t)

      own_on : (t : ℕ) (p : Option JobState) → p ≡ Some after → output_at job.number t (rest_of w.count after turn w.jobs) ≡ [] → GrowsBy job.number t (puts_at turn g.added) (Some job) p
      own_on t p is none = subst (λ (x : Option JobState). GrowsBy job.number t (puts_at turn g.added) (Some job) x) (sym is)
          (g.terminal, λ at_t. g.monitor ∙ ap (λ (x : List ℕ). job.monitor ++ x) (sym (own_out t at_t ∙ ap (λ (x : List ℕ). g.added ++ x) none ∙ append-nil g.added)))

    own : (turn : Turn) (g : Grown job turn after) (t : ℕ) → GrowsBy job.number t (puts_at turn g.added) (Some job) (numbered job.number (jobs_behind turn))
    own turns.Broken g t = λ at_t. (
      g.added,
      codes "BREAK",
      inr (inl refl),
      own_out turns.Broken g t at_t
          ∙ ap (λ (x : List ℕ). g.added ++ x) (files_one break_last job.number t 0 (with_job after w.jobs) w.next_job after (rising_with after 0 w.jobs w.next_job rising) there (g.terminal ∙ at_t)),
    )
    own (turns.Wants serial) g t = own_on (turns.Wants serial) g t (numbered job.number (with_job after w.jobs)) there refl
    own (turns.Ran units money) g t = own_on (turns.Ran units money) g t (numbered job.number (with_job after w.jobs)) there refl
    own (turns.Ended units money) g t =
        subst (λ (x : Option JobState). GrowsBy job.number t (puts_at (turns.Ended units money) g.added) (Some job) x)
        (sym (ap (λ (n : ℕ). numbered job.number (without_job n w.jobs)) same ∙ left_none job.number w.jobs))
        (λ at_t. subst Last
        (sym (own_out (turns.Ended units money) g t at_t ∙ ap (λ (x : List ℕ). g.added ++ x) (rest_output after.terminal after.monitor job.number t) ∙ append-nil g.added)) g.ends)

    grown : (turn : Turn) (g : Grown job turn after) (number t : ℕ) (b : Bool) → (job.number == number) ≡ b
        → GrowsBy number t (puts_at turn g.added) (numbered number w.jobs) (numbered number (jobs_behind turn))
    grown turn g number t true e =
        subst (λ (n : ℕ). GrowsBy n t (puts_at turn g.added) (numbered n w.jobs) (numbered n (jobs_behind turn))) (eqb-true job.number number e)
        (subst (λ (o : Option JobState). GrowsBy job.number t (puts_at turn g.added) o (numbered job.number (jobs_behind turn))) (sym here) (own turn g t))
    grown turn g number t false e =
        alike number t (puts_at turn g.added) (rest_of w.count after turn w.jobs) (numbered number w.jobs) (numbered number (jobs_behind turn))
        (coming_apart after.terminal job.number number t g.added (rest_of w.count after turn w.jobs) e) (apart_rest number t turn (ap (λ (n : ℕ). n == number) same ∙ e))

    jobs_rise : (turn : Turn) → AreRising 0 (jobs_behind turn) w.next_job
    jobs_rise turns.Broken = (let low : 0 ≤ w.next_job = omega arith in low)
    jobs_rise (turns.Wants serial) = rising_with after 0 w.jobs w.next_job rising
    jobs_rise (turns.Ran units money) = rising_with after 0 w.jobs w.next_job rising
    jobs_rise (turns.Ended units money) = rising_filter (λ (j : JobState). not (j.number == after.number)) 0 w.jobs w.next_job rising

    with_left : (number : ℕ) → numbered number w.jobs ≡ None → (b : Bool) → (after.number == number) ≡ b → numbered number (with_job after w.jobs) ≡ None
    with_left number none true e = no_job job (sym none ∙ ap (λ (n : ℕ). numbered n w.jobs) (sym (eqb-true after.number number e)) ∙ here_after)
    with_left number none false e = found_other after number e w.jobs ∙ none

    without_left : (number : ℕ) → numbered number w.jobs ≡ None → (b : Bool) → (after.number == number) ≡ b → numbered number (without_job after.number w.jobs) ≡ None
    without_left number none true e = ap (λ (n : ℕ). numbered n (without_job after.number w.jobs)) (sym (eqb-true after.number number e)) ∙ left_none after.number w.jobs
    without_left number none false e = left_other after.number number e w.jobs ∙ none

    jobs_left : (turn : Turn) (number : ℕ) → numbered number w.jobs ≡ None → numbered number (jobs_behind turn) ≡ None
    jobs_left turns.Broken number none = refl
    jobs_left (turns.Wants serial) number none = with_left number none (after.number == number) refl
    jobs_left (turns.Ran units money) number none = with_left number none (after.number == number) refl
    jobs_left (turns.Ended units money) number none = without_left number none (after.number == number) refl

  told_next : (turn : Turn) → (turn_told after turn (shows job after w)).next_job ≡ w.next_job
  told_next turns.Broken = refl
  told_next (turns.Wants serial) = refl
  told_next (turns.Ran units money) = refl
  told_next (turns.Ended units money) = refl

  pub turn_puts : (turn : Turn) → Grown job turn after → Puts w (turn_told after turn (shows job after w))
  turn_puts turn g = record {
    pieces = puts_at turn g.added;
    text = turn_adds after turn (shows job after w)
        ∙ append_assoc w.text (shown job after) (turn_added w.count after turn w.jobs)
        ∙ ap (λ (x : List ℕ). w.text ++ (x ++ turn_added w.count after turn w.jobs)) (ap (put_as after.terminal []) (added_is job turn after g) ∙ sym (coming_text after.terminal job.number g.added))
        ∙ ap (λ (x : List ℕ). w.text ++ (text_of_pieces (coming after.terminal job.number g.added) ++ x)) (sym (rest_is w.count after turn w.jobs))
        ∙ ap (λ (x : List ℕ). w.text ++ x) (sym (text_append (coming after.terminal job.number g.added) (rest_of w.count after turn w.jobs)));
    others = others_append (coming after.terminal job.number g.added) (rest_of w.count after turn w.jobs) (coming_others after.terminal job.number g.added) (rest_is_other w.count after turn w.jobs);
    grows = λ number t. subst (λ (js : List JobState). GrowsBy number t (puts_at turn g.added) (job_of w number) (numbered number js)) (sym (told_jobs turn)) (grown g.number turn g number t (job.number == number) refl);
    rising = rising_is (jobs_behind turn) (turn_told after turn (shows job after w)).jobs w.next_job (turn_told after turn (shows job after w)).next_job (told_jobs turn) (told_next turn) (jobs_rise g.number turn);
    later = not_later w.next_job (turn_told after turn (shows job after w)).next_job (told_next turn);
    gone = λ number below none. ap (numbered number) (told_jobs turn) ∙ jobs_left g.number turn number none;
  }

-- the end of the run
closed_puts : (w : World) → AreRising 0 w.jobs w.next_job → Puts w (closed w)
closed_puts w rising = record {
  pieces = pieces_of (λ j. waiting_line j.wants) w.jobs ++ Other (closing w.bad) ∷ [];
  text = append_assoc w.text (waiting_files w.jobs) (closing w.bad)
      ∙ ap (λ (x : List ℕ). w.text ++ (x ++ closing w.bad)) (sym (files_text (λ j. waiting_line j.wants) w.jobs))
      ∙ ap (λ (x : List ℕ). w.text ++ (text_of_pieces (pieces_of (λ j. waiting_line j.wants) w.jobs) ++ x)) (sym (append-nil (closing w.bad)))
      ∙ ap (λ (x : List ℕ). w.text ++ x) (sym (text_append (pieces_of (λ j. waiting_line j.wants) w.jobs) (Other (closing w.bad) ∷ [])));
  others = others_append (pieces_of (λ j. waiting_line j.wants) w.jobs) (Other (closing w.bad) ∷ []) (files_others (λ j. waiting_line j.wants) w.jobs) (inr (inr (w.bad, refl)), tt);
  grows = λ number t. by number t (numbered number w.jobs) refl;
  rising = (let low : 0 ≤ w.next_job = omega arith in low);
  later = not_later w.next_job w.next_job refl;
  gone = λ number below none. refl;
}
  where
    pieces : List Piece
    pieces = pieces_of (λ j. waiting_line j.wants) w.jobs ++ Other (closing w.bad) ∷ []

    out : (number t : ℕ) → output_at number t pieces ≡ output_at number t (pieces_of (λ j. waiting_line j.wants) w.jobs)
    out number t = output_append number t (pieces_of (λ j. waiting_line j.wants) w.jobs) (Other (closing w.bad) ∷ []) ∙ append-nil (output_at number t (pieces_of (λ j. waiting_line j.wants) w.jobs))

    by : (number t : ℕ) (o : Option JobState) → numbered number w.jobs ≡ o → GrowsBy number t pieces o None
    by number t None is = out number t ∙ files_none (λ j. waiting_line j.wants) number t w.jobs is
    by number t (Some job) is = λ at_t. ([], waiting_line job.wants, inr (inr (job.wants, refl)), out number t ∙ files_one (λ j. waiting_line j.wants) number t 0 w.jobs w.next_job job rising is at_t)

module _ {F U : Type 0} (tariffs : Shared F (Bor Usage × Unit {0}) Charge) (tariff : F) (rules : Shared U (Bor Standing × Unit {0}) ℕ) (rule : U) where
  with_fields : (w v new : World) → v.jobs ≡ w.jobs → v.next_job ≡ w.next_job → v.text ≡ w.text → Puts v new → Puts w new
  with_fields w v new jobs next text p = record {
    pieces = p.pieces;
    text = p.text ∙ ap (λ (x : List ℕ). x ++ text_of_pieces p.pieces) text;
    others = p.others;
    grows = λ number t. subst (λ (js : List JobState). GrowsBy number t p.pieces (numbered number js) (job_of new number)) jobs (p.grows number t);
    rising = p.rising;
    later = subst (λ (n : ℕ). n ≤ new.next_job) next p.later;
    gone = λ number below none. p.gone number (subst (λ (n : ℕ). number < n) (sym next) below) (ap (numbered number) jobs ∙ none);
  }

  -- EVERY MOVE
  pub step_puts : (w new : World) (move : Move) → AreRising 0 w.jobs w.next_job → Step tariffs tariff rules rule w move new → Puts w new
  step_puts w new (TakeLine tape o) rising (next, rest, lines, between, idle, due, is_tape, gives) =
      with_fields w (record w { lines = rest }) new refl refl refl (line_puts o next.what (record w { lines = rest }) new rising gives)
  step_puts w new (Dumped o) rising (between, idle, undue, dumping, (r, s, step, is)) = puts_is w new _ is (dump_puts _ r s w rising)
  step_puts w new (Begin number) rising (idle, undue, ready, (place, job, chosen, found, named, is)) = puts_is w new _ is (puts_none w _ rising refl refl refl)
  step_puts w new (Answered o) rising (number, call, more, job, answer, s, asks, here, step, real, is) = puts_is w new _ is (puts_none w _ rising refl refl refl)
  step_puts w new (TurnOver number charge) rising (work, job, turn, after, asks, here, priced, ends, is) =
      let own : job.number ≡ number = (number_of number 0 w.jobs w.next_job job rising here).0 in
      let found : numbered job.number w.jobs ≡ Some job = ap (λ (n : ℕ). numbered n w.jobs) own ∙ here in
      let p : Puts w (turn_told after turn (shows job after w)) = turn_puts w job after rising found turn (turn_grown job work charge turn after ends) in
      puts_is w new _ is (record { pieces = p.pieces; text = p.text; others = p.others; grows = p.grows; rising = p.rising; later = p.later; gone = p.gone })
  step_puts w new Ticked rising (idle, done, is) = puts_is w new _ is (puts_none w _ rising refl refl refl)
  step_puts w new Over rising (between, idle, lines, nothing, going, is) = puts_is w new _ is (closed_puts w rising)

  -- what is known after moves from the start: the text in pieces; the file of each terminal's job is printed, and nothing
  -- for jobs of later numbers
  abbrev pub Out : ℕ → ℕ → ℕ → List Piece → Option JobState → Type 0
  Out next number t ps None = next ≤ number → output_at number t ps ≡ []
  Out next number t ps (Some job) = job.terminal ≡ Some t → output_at number t ps ≡ job.monitor

  pub record Known (w : World) (ps : List Piece) : Type 0 where
    pub text : w.text ≡ text_of_pieces ps
    pub others : AllByRecursion IsOther ps
    pub rising : AreRising 0 w.jobs w.next_job
    pub out : (number t : ℕ) → Out w.next_job number t ps (job_of w number)

  came : {P : Type 0} (a : JobState) → (let one : Option JobState = Some a in one ≡ None) → P
  came a is = absurd (let no : ⊥ = cc in no)

  from_above : (next number : ℕ) → (number < next → ⊥) → next ≤ number
  from_above next number not_below = by (nat_le next number) refl
    where
      by : (b : Bool) → nat_le next number ≡ b → next ≤ number
      by true e = leb-true next number e
      by false e = absurd (not_below (leb-false next number e))

  out_on : (next next2 number t : ℕ) (ps qs : List Piece) (o p : Option JobState) → next ≤ next2 → (number < next → o ≡ None → p ≡ None) → ((j : JobState) → o ≡ Some j → number < next)
      → Out next number t ps o → GrowsBy number t qs o p → Out next2 number t (ps ++ qs) p
  out_on next next2 number t ps qs None None later gone below out grows = λ above.
      let far : next ≤ number = omega (arith, later, above) in
      output_append number t ps qs ∙ ap (λ (x : List ℕ). x ++ output_at number t qs) (out far) ∙ grows
  out_on next next2 number t ps qs None (Some a) later gone below out grows = λ at_t.
      output_append number t ps qs ∙ ap (λ (x : List ℕ). x ++ output_at number t qs) (out (from_above next number (λ less. came a (gone less refl)))) ∙ sym (grows at_t)
  out_on next next2 number t ps qs (Some j) None later gone below out grows = λ above.
      let less : number < next = below j refl in
      absurd (let no : ⊥ = omega (arith, later, above, less) in no)
  out_on next next2 number t ps qs (Some j) (Some a) later gone below out grows = λ at_t.
      let was : j.terminal ≡ Some t = sym grows.0 ∙ at_t in
      output_append number t ps qs ∙ ap (λ (x : List ℕ). x ++ output_at number t qs) (out was) ∙ sym (grows.1 was)

  known_on : (w new : World) (ps : List Piece) → Known w ps → (p : Puts w new) → Known new (ps ++ p.pieces)
  known_on w new ps k p = record {
    text = p.text ∙ ap (λ (x : List ℕ). x ++ text_of_pieces p.pieces) k.text ∙ sym (text_append ps p.pieces);
    others = others_append ps p.pieces k.others p.others;
    rising = p.rising;
    out = λ number t. out_on w.next_job new.next_job number t ps p.pieces (job_of w number) (job_of new number) p.later (λ less none. p.gone number less none)
        (λ j found. (number_of number 0 w.jobs w.next_job j k.rising found).1) (k.out number t) (p.grows number t);
  }

  pub run_known : (w last : World) (moves : List Move) (ps : List Piece) → Known w ps → Run tariffs tariff rules rule w moves last → (qs : List Piece) × Known last qs
  run_known w last [] ps k is = (ps, subst (λ (x : World). Known x ps) (sym is) k)
  run_known w last (move ∷ moves) ps k run =
      let p = step_puts w run.0 move k.rising run.1 in
      run_known run.0 last moves (ps ++ p.pieces) (known_on w run.0 ps k p) run.2

  known_start : (lines : List Timed) (bad : Option ℕ) (s : State) → Known (start lines bad s) []
  known_start lines bad s = record { text = refl; others = tt; rising = (let low : 0 ≤ 1 = omega arith in low); out = λ number t above. refl }

  -- a job that is at a terminal now: how it continues
  module _ (number t : ℕ) (job : JobState) where
    abbrev Now : ℕ → Option JobState → List ℕ → List ℕ → Type 0
    Now next (Some a) output more = (a.terminal ≡ Some t) × (output ≡ a.monitor)
    Now next None output more = (number < next) × Last more

    abbrev Follows : World → List Piece → Type 0
    Follows v qs = (more : List ℕ) × (output_at number t qs ≡ job.monitor ++ more) × Now v.next_job (job_of v number) (output_at number t qs) more

    now_on : (next next2 : ℕ) (qs rs : List Piece) (o p : Option JobState) (more : List ℕ) → next ≤ next2 → (number < next → o ≡ None → p ≡ None) → ((j : JobState) → o ≡ Some j → number < next)
        → Now next o (output_at number t qs) more → GrowsBy number t rs o p → Now next2 p (output_at number t (qs ++ rs)) (more ++ output_at number t rs)
    now_on next next2 qs rs (Some a) (Some b) more later gone below h grows = (
      grows.0 ∙ h.0,
      output_append number t qs rs ∙ ap (λ (x : List ℕ). x ++ output_at number t rs) h.1 ∙ sym (grows.1 h.0),
    )
    now_on next next2 qs rs (Some a) None more later gone below h grows =
        let less : number < next = below a refl in
        let end : Last (output_at number t rs) = grows h.0 in
        (omega (arith, later, less), (more ++ end.0, end.1, end.2, ap (λ (x : List ℕ). more ++ x) end.3 ∙ sym (append_assoc more end.0 (ended end.1))))
    now_on next next2 qs rs None (Some b) more later gone below h grows = came b (gone h.0 refl)
    now_on next next2 qs rs None None more later gone below h grows =
        let less : number < next = h.0 in
        (omega (arith, later, less), subst Last (sym (ap (λ (x : List ℕ). more ++ x) grows ∙ append-nil more)) h.1)

    follows_on : (w new : World) (qs : List Piece) → AreRising 0 w.jobs w.next_job → (p : Puts w new) → Follows w qs → Follows new (qs ++ p.pieces)
    follows_on w new qs rising p h = (
      h.0 ++ output_at number t p.pieces,
      output_append number t qs p.pieces ∙ ap (λ (x : List ℕ). x ++ output_at number t p.pieces) h.1 ∙ append_assoc job.monitor h.0 (output_at number t p.pieces),
      now_on w.next_job new.next_job qs p.pieces (job_of w number) (job_of new number) h.0 p.later (λ less none. p.gone number less none)
          (λ j found. (number_of number 0 w.jobs w.next_job j rising found).1) h.2 (p.grows number t),
    )

    follows_to : (next : ℕ) (o : Option JobState) (output more : List ℕ) → Now next o output more → GoesTo o output more
    follows_to next (Some a) output more h = h.1
    follows_to next None output more h = h.1

  -- ALL JOBS that are there now, with the same pieces
  abbrev AllFollow : World → List Piece → World → List Piece → Type 0
  AllFollow w ps v qs = (number t : ℕ) (job : JobState) → job_of w number ≡ Some job → job.terminal ≡ Some t → Follows number t job v qs

  run_follows : (w v last : World) (moves : List Move) (ps qs : List Piece) → Known v qs → AllFollow w ps v qs → Run tariffs tariff rules rule v moves last → (rs : List Piece) × Known last rs × AllFollow w ps last rs
  run_follows w v last [] ps qs k all is = (qs, subst (λ (x : World). Known x qs) (sym is) k, λ number t job found at_t. subst (λ (x : World). Follows number t job x qs) (sym is) (all number t job found at_t))
  run_follows w v last (move ∷ moves) ps qs k all run =
      let p = step_puts v run.0 move k.rising run.1 in
      run_follows w run.0 last moves ps (qs ++ p.pieces) (known_on v run.0 qs k p) (λ number t job found at_t. follows_on number t job v run.0 qs k.rising p (all number t job found at_t)) run.2

  now_at_first : (number t : ℕ) (job : JobState) (next : ℕ) (o : Option JobState) (output : List ℕ) → o ≡ Some job → job.terminal ≡ Some t → output ≡ job.monitor → Now number t job next o output []
  now_at_first number t job next o output found at_t is = subst (λ (x : Option JobState). Now number t job next x output []) (sym found) (at_t, is)

  out_of : (number t : ℕ) (w : World) (ps : List Piece) (job : JobState) → Known w ps → job_of w number ≡ Some job → job.terminal ≡ Some t → output_at number t ps ≡ job.monitor
  out_of number t w ps job k found at_t = subst (λ (o : Option JobState). Out w.next_job number t ps o) found (k.out number t) at_t

  -- EACH TERMINAL'S OUTPUT IS ITS JOB'S FILE
  pub terminals_print : TerminalsPrint tariffs tariff rules rule
  terminals_print lines bad s front back w last first later =
      let here = run_known (start lines bad s) w front [] (known_start lines bad s) first in
      let all : AllFollow w here.0 w here.0 = λ number t job found at_t.
      let is = out_of number t w here.0 job here.1 found at_t in
      ([], is ∙ sym (append-nil job.monitor), now_at_first number t job w.next_job (job_of w number) (output_at number t here.0) found at_t is) in
      let end = run_follows w w last back here.0 here.0 here.1 all later in (
        end.0,
        end.1.text,
        end.1.others,
        λ number t job found at_t.
            let h = end.2 number t job found at_t in
            (h.0, h.1, follows_to number t job last.next_job (job_of last number) (output_at number t end.0) h.0 h.2),
      )

-- THE THREE LINES THAT BRING A SYSTEM UP, by which it is.
-- serves: rise_line (line), AnewLemmas
use Rattle.std.proofs.Common.{◌≡◌, false, ℕ, ◌++◌, List, [], Option, None, refl, sym, subst, inl, inr}
use Rattle.std.specs.Prelude.{Result, IfOk, codes}
use Rattle.std.specs.Fmt.{decimal}
use Rattle.g_disc.specs.Disc.{DiscState}
use Rattle.g_tape.specs.Rack.{Rack}
use Rattle.g_plain.specs.declared.faults.StoreFault.{StoreFault}
use Rattle.g_plain.specs.declared.faults.StoreFault.TheVariants.{NoMemory, Running}
use Rattle.g_store_meaning.specs.StoreInvariant.{StoreFacts}
use Rattle.g_store_model.specs.Rising.{FormatStep, RestoreStep, StartStep}
use Rattle.g_run_model.specs.Devices.{Devices}
use Rattle.g_run_model.specs.Texts.{operator_line, started_text}
use Rattle.g_job_table.specs.Crew.{CrewState}
use Rattle.g_day.specs.declared.progress.Failure.{Failure}
use Rattle.g_operator.specs.declared.rising.Rise.{Rise}
use Rattle.g_operator.specs.declared.rising.Rise.TheVariants as rise
use Rattle.g_day.specs.Opening.{Opens}
use Rattle.g_day.specs.Parts.{DidLine, IsReady, disc_arms, seen, tape_arms}
use Rattle.g_day.specs.Puts.{Puts}
use Rattle.g_operator.specs.Rising.{MakesNone, Raises, RefusesRise, line_of}
use Rattle.g_day.specs.System.{Down, Up}
use Rattle.g_day.specs.Telling.{TellsFault, refusal_text}
use Rattle.g_day.proofs.LineLemmas.{untried_line}
use Rattle.g_operator.proofs.RiseLemmas.{formatted_line, restored_line, running_line, started_line, unformatted_line, unrestored_line, unstarted_line}
use Rattle.g_script.specs.declared.operator.Operator.TheVariants as line

no_disc : (how : Rise) → disc_arms (line_of how) ≡ []
no_disc rise.Format = refl
no_disc rise.Start = refl
no_disc rise.Restore = refl

no_tape : (how : Rise) → tape_arms (line_of how) ≡ []
no_tape rise.Format = refl
no_tape rise.Start = refl
no_tape rise.Restore = refl

-- the system is up
refused_up : (how : Rise) (s : StoreFacts) (c : CrewState) → IsReady (Up s) c → (count : ℕ) (failure : Option Failure) (before after : Option (List ℕ)) (faults faults' : ℕ)
    → Puts failure (refusal_text count Running) before after faults faults' → DidLine (line_of how) (seen (Up s) c count) failure (seen (Up s) c count) before after faults faults'
refused_up rise.Format s c ready count failure before after faults faults' puts =
    running_line line.Format FormatStep (λ r. codes "FORMATTED") (λ o w next it. it) refl refl s c ready count failure before after faults faults' puts
refused_up rise.Start s c ready count failure before after faults faults' puts =
    running_line line.Start StartStep started_text (λ o w next it. it) refl refl s c ready count failure before after faults faults' puts
refused_up rise.Restore s c ready count failure before after faults faults' puts =
    running_line line.Restore RestoreStep (λ n. codes "RESTORED FROM DUMP " ++ decimal n) (λ o w next it. it) refl refl s c ready count failure before after faults faults' puts

pub running_rise : (how : Rise) (s : StoreFacts) (c c' : CrewState) → IsReady (Up s) c → (count : ℕ) (failure : Option Failure) (before after : Option (List ℕ)) (faults faults' : ℕ)
    → TellsFault Running count c failure c' before after faults faults' → DidLine (line_of how) (seen (Up s) c count) failure (seen (Up s) c' count) before after faults faults'
running_rise how s c c' ready count failure before after faults faults' tells =
    let (crew, puts) = tells in
    subst (λ (k : CrewState). DidLine (line_of how) (seen (Up s) c count) failure (seen (Up s) k count) before after faults faults') (sym crew)
    (refused_up how s c ready count failure before after faults faults' puts)

-- a store that was made isn't spent
pub raised_runs : {E : Type 0} (how : Rise) (disc : DiscState) (rack : Rack) (new : StoreFacts) (made : Result (List ℕ) E) → Raises how disc rack new made → new.spent ≡ false
raised_runs rise.Format disc rack new made (is, text) = is.makes.running
raised_runs rise.Start disc rack new made (adopted, is, durable, text) = is.makes.running
raised_runs rise.Restore disc rack new made (number, is, durable, text) = is.makes.running

module _ (disc : DiscState) (rack : Rack) (c : CrewState) (count : ℕ) (ready : (let d : Devices = record { disc = disc; rack = rack } in IsReady (Down d) c))
    (failure : Option Failure) (c' : CrewState) (before after : Option (List ℕ)) (faults faults' : ℕ) where
  -- the system is brought up
  pub risen_line : {E : Type 0} (how : Rise) (new : StoreFacts) (made : Result (List ℕ) E) → Raises how disc rack new made → (failure ≡ None → Opens new.online.contents.users c c')
      → ((what : List ℕ) → IfOk made (λ text. text ≡ what) → Puts failure (operator_line count what) before after faults faults')
      → (let d : Devices = record { disc = disc; rack = rack } in DidLine (line_of how) (seen (Down d) c count) failure (seen (Up new) c' count) before after faults faults')
  risen_line rise.Format new made (is, text) opens puts =
      formatted_line disc rack c count ready failure c' before after faults faults' new is opens (puts (codes "FORMATTED") text)
  risen_line rise.Start new made (adopted, is, durable, text) opens puts =
      started_line disc rack c count ready failure c' before after faults faults' adopted new is durable opens (puts (started_text adopted) text)
  risen_line rise.Restore new made (number, is, durable, text) opens puts =
      restored_line disc rack c count ready failure c' before after faults faults' number new is durable opens (puts (codes "RESTORED FROM DUMP " ++ decimal number) text)

  -- it stays down
  refused_line : (how : Rise) (fault : StoreFault) (disc' : DiscState) (rack' : Rack) → RefusesRise how disc rack fault disc' rack' → TellsFault fault count c failure c' before after faults faults'
      → (let d : Devices = record { disc = disc; rack = rack } in let e : Devices = record { disc = disc'; rack = rack' } in
      DidLine (line_of how) (seen (Down d) c count) failure (seen (Down e) c' count) before after faults faults')
  refused_line rise.Format fault disc' rack' is tells = unformatted_line disc rack c count ready failure c' before after faults faults' fault disc' rack' is tells
  refused_line rise.Start fault disc' rack' (is, durable) tells = unstarted_line disc rack c count ready failure c' before after faults faults' fault disc' rack' is durable tells
  refused_line rise.Restore fault disc' rack' (is, durable) tells = unrestored_line disc rack c count ready failure c' before after faults faults' fault disc' rack' is durable tells

  untried : (how : Rise) (fault : StoreFault) → fault ≡ NoMemory → TellsFault fault count c failure c' before after faults faults'
      → (let d : Devices = record { disc = disc; rack = rack } in DidLine (line_of how) (seen (Down d) c count) failure (seen (Down d) c' count) before after faults faults')
  untried how fault is tells =
      let d : Devices = record { disc = disc; rack = rack } in
      let (failed, crew, text, still) = subst (λ (f : StoreFault). TellsFault f count c failure c' before after faults faults') is tells in
      subst (λ (k : CrewState). DidLine (line_of how) (seen (Down d) c count) failure (seen (Down d) k count) before after faults faults') (sym crew)
      (subst (λ (t : Option (List ℕ)). DidLine (line_of how) (seen (Down d) c count) failure (seen (Down d) c count) before t faults faults') (sym text)
      (subst (λ (n : ℕ). DidLine (line_of how) (seen (Down d) c count) failure (seen (Down d) c count) before before faults n) (sym still)
      (untried_line (line_of how) (no_disc how) (no_tape how) (Down d) (Down d) c count refl ready failure failed before faults)))

  pub unrisen_line : (how : Rise) (fault : StoreFault) (disc' : DiscState) (rack' : Rack) → MakesNone how disc rack fault disc' rack' → TellsFault fault count c failure c' before after faults faults'
      → (let d : Devices = record { disc = disc; rack = rack } in let e : Devices = record { disc = disc'; rack = rack' } in
      DidLine (line_of how) (seen (Down d) c count) failure (seen (Down e) c' count) before after faults faults')
  unrisen_line how fault disc' rack' (inl none) tells =
      let (is, same_disc, same_rack) = none in
      subst (λ (x : DiscState). let d : Devices = record { disc = disc; rack = rack } in let e : Devices = record { disc = x; rack = rack' } in
      DidLine (line_of how) (seen (Down d) c count) failure (seen (Down e) c' count) before after faults faults') (sym same_disc)
      (subst (λ (x : Rack). let d : Devices = record { disc = disc; rack = rack } in let e : Devices = record { disc = disc; rack = x } in
      DidLine (line_of how) (seen (Down d) c count) failure (seen (Down e) c' count) before after faults faults') (sym same_rack)
      (untried how fault is tells))
  unrisen_line how fault disc' rack' (inr is) tells = refused_line how fault disc' rack' is tells

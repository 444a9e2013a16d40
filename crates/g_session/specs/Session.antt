-- How a session ends, with each status, and which faults it has.
use Rattle.std.specs.Prelude.{◌≡◌, ◌⊎◌, ℕ, false, List, [], ◌∷◌, ◌++◌, map, Option, Some, None}
use Rattle.std.specs.Fn.{Shared}
use denote.Ref.{Bor}
use Rattle.g_base.specs.Counts.{Rose}
use Rattle.g_rules.specs.declared.tariff.Charge.{Charge}
use Rattle.g_rules.specs.declared.tariff.Usage.{Usage}
use Rattle.g_console.specs.Transcript.{End, Failed, Request, Transcript, Typed, lines_typed}
use Rattle.g_rules.specs.declared.rule.Standing.{Standing}
use Rattle.g_io.specs.Streams.{with_more}
use Rattle.g_script.specs.Script.{WrittenItem, timed_said}
use Rattle.g_script.specs.declared.operator.Timed.{Timed}
use Rattle.g_store_model.specs.State.{State}
use Rattle.g_run_model.specs.Devices.{Devices}
use Rattle.g_run_model.specs.Losses.{SurvivesLoss}
use Rattle.g_run_model.specs.Top.{RunOf}
use Rattle.g_run_model.specs.World.{start}
use Rattle.g_typing.specs.Typed.{IsTyped, When}
use Rattle.g_laws_runs.specs.BeginningAnew.{AreBlank, BeginAnew, NoDiscFault, is_first, with_new_disc}
use Rattle.g_laws_sessions.specs.Session.{AlwaysAnswers, Comes, Exchanges, IsCutShort, IsOver, Moment, script_of, taken}
use Rattle.g_day.specs.Puts.{HasGrown}
use Rattle.g_day.specs.System.{BelongTogether, SameDevices}
use Rattle.g_run.specs.declared.status.Status.{Status}
use Rattle.g_run.specs.declared.status.Status.TheVariants.{Done, Words, BadScript, ScriptFault, OutputFault, NoMemory, TooLong}

-- a session has neither unknown words nor a script that is too long
abbrev pub IsOfSession : Status → Type 0
IsOfSession Words = ⊥
IsOfSession TooLong = ⊥
IsOfSession status = Unit {0}

-- the last request for a line had this outcome
abbrev pub LastWas : Typed → Transcript → Type 0
LastWas typed t = (before : List Request) × (printed : ℕ) × (t.requests ≡ before ++ record { printed = printed; typed = typed } ∷ [])

module _ {F U : Type 0} (tariffs : Shared F (Bor Usage × Unit {0}) Charge) (tariff : F) (rules : Shared U (Bor Standing × Unit {0}) ℕ) (rule : U) where
  -- HOW A SESSION ENDS, with each status
  abbrev pub EndsSession : Status → State → Devices → Devices → Transcript → Option (List ℕ) → Option (List ℕ) → Type 0
  EndsSession Done s old new t before after = LastWas End t × IsOver tariffs tariff rules rule s old new t before after None
  EndsSession (BadScript k) s old new t before after = LastWas End t × IsOver tariffs tariff rules rule s old new t before after (Some k)
  -- a request failed: the lines before it were done to their end
  EndsSession ScriptFault s old new t before after = LastWas Failed t × ((bad : Option ℕ) × IsOver tariffs tariff rules rule s old new t before after bad)
  EndsSession OutputFault s old new t before after = IsCutShort tariffs tariff rules rule s old new t before after
  EndsSession NoMemory s old new t before after = IsCutShort tariffs tariff rules rule s old new t before after
  EndsSession status s old new t before after = ⊥

  -- WHICH STATE A POWER LOSS LEAVES after a session, with each status. The items that were taken, and perhaps the next one, are a script; its run was
  -- done as far as these moves, and a prefix of what they owe was printed. Whatever a power loss leaves then represents a state that it may leave after
  -- these moves, or one like it.
  abbrev pub SessionSurvives : State → Devices → Devices → Transcript → Option (List ℕ) → Option (List ℕ) → Type 0
  SessionSurvives s old new t before after = (cut : IsCutShort tariffs tariff rules rule s old new t before after)
      × SurvivesLoss tariffs tariff rules rule (start (taken cut.said ++ map timed_said cut.more) None s) cut.moves cut.last old new

-- the counts of faults of console and log rise only with their own statuses; memory may run out after a request failed
abbrev pub SessionCause : Status → ℕ → ℕ → ℕ → ℕ → Type 0
SessionCause ScriptFault old new log log' = Rose old new × (log' ≡ log)
SessionCause OutputFault old new log log' = (Rose old new × (log' ≡ log)) ⊎ ((new ≡ old) × Rose log log')
SessionCause NoMemory old new log log' = ((new ≡ old) ⊎ Rose old new) × (log' ≡ log)
SessionCause status old new log log' = (new ≡ old) × (log' ≡ log)

-- STARTING OVER: a session on devices whose disc may hold anything, and whose reels hold nothing. Which items will be taken isn't known when it
-- begins, so the contract has three cases.
module _ {F U : Type 0} (tariffs : Shared F (Bor Usage × Unit {0}) Charge) (tariff : F) (rules : Shared U (Bor Standing × Unit {0}) ℕ) (rule : U) where
  -- A FORMAT TOOK EFFECT: the session is one from the state of a new disc with the same reels, and disc and rack belong together at its end
  pub record TookFormat (status : Status) (s : State) (old new : Devices) (t : Transcript) (before after : Option (List ℕ)) : Type 0 where
    pub answers : AlwaysAnswers tariffs tariff rules rule s t
    pub ends : EndsSession tariffs tariff rules rule status s (with_new_disc old) new t before after
    pub together : BelongTogether new

  -- the items that were taken in a session that wasn't cut short
  abbrev pub TakenIn : (status : Status) (s : State) (old new : Devices) (t : Transcript) (before after : Option (List ℕ)) → EndsSession tariffs tariff rules rule status s old new t before after → List Timed → Type 0
  TakenIn Done s old new t before after (last, over) lines = lines ≡ taken over.said
  TakenIn (BadScript k) s old new t before after (last, over) lines = lines ≡ taken over.said
  TakenIn ScriptFault s old new t before after (last, (bad, over)) lines = lines ≡ taken over.said
  TakenIn status s old new t before after ends lines = ⊥

  -- NONE DID, and at most MOUNT, UNMOUNT and STOP were taken besides: the session is one with a new disc, and the devices are still blank. If all lines
  -- were done and a FORMAT is among them, the disc counted a failure.
  pub record StaysBlank (status : Status) (s : State) (old new : Devices) (t : Transcript) (before after : Option (List ℕ)) : Type 0 where
    pub answers : AlwaysAnswers tariffs tariff rules rule s t
    pub ends : EndsSession tariffs tariff rules rule status s (with_new_disc old) (with_new_disc new) t before after
    pub blank : AreBlank new
    pub unwell : (lines : List Timed) → TakenIn status s (with_new_disc old) (with_new_disc new) t before after ends lines → BeginAnew lines → NoDiscFault old new → ⊥

  -- NONE DID, and then an item of another kind was typed. Up to it the session is one with a new disc, and the devices were still blank; each FORMAT
  -- before it failed at the disc, which counted it. What that item did is not specified.
  pub record WentElsewhere (s : State) (old new : Devices) (t : Transcript) (before after : Option (List ℕ)) : Type 0 where
    pub said : Exchanges
    pub now : Moment
    pub comes : Comes tariffs tariff rules rule s said now
    pub mid : Devices
    pub run_of : RunOf tariffs tariff rules rule (taken said) None s (with_new_disc old) (with_new_disc mid) now.moves now.world
    pub blank : AreBlank mid
    pub unwell : BeginAnew (taken said) → NoDiscFault old mid → ⊥
    pub same : SameDevices mid new
    pub next : WrittenItem
    pub other : is_first (timed_said next).what ≡ false
    pub when : When
    pub typed : List (List ℕ)
    pub is_typed : IsTyped now.world.count next when typed
    pub lines : (later : List (List ℕ)) × (lines_typed t.requests ≡ now.lines ++ (typed ++ later))
    pub text : (more : List ℕ) × (t.text ≡ now.text ++ more)
    pub log : HasGrown (with_more before (script_of said)) after

  -- HOW A SESSION ON BLANK DEVICES ENDS, with each status
  abbrev pub EndsAnew : Status → State → Devices → Devices → Transcript → Option (List ℕ) → Option (List ℕ) → Type 0
  EndsAnew status s old new t before after = TookFormat status s old new t before after
      ⊎ (StaysBlank status s old new t before after ⊎ WentElsewhere s old new t before after)

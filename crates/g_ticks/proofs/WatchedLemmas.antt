-- A turn on a store that remembers whether it was used is one on the store; if it wasn't used the store is unchanged.
-- serves: goes_on (goes), open_accounts (opens), put_file (goes), turn_of (turn), waits (goes)
use Rattle.std.proofs.Common.{◌≡◌, ◌⊎◌, List, [], ◌∷◌, None, Option, Some, append-nil, arith, false, true, true≢false, inl, inr, refl, sym, ◌∙◌, ap, subst, ℕ}
use Rattle.std.specs.Fn.{Shared}
use denote.Ref.{Bor}
use Rattle.g_rules.specs.declared.tariff.Charge.{Charge}
use Rattle.g_rules.specs.declared.tariff.Usage.{Usage}
use Rattle.g_entry.specs.declared.user_rec.UserRec.{UserRec}
use Rattle.g_job.specs.State.{JobState}
use Rattle.g_rules.specs.declared.turn.Turn.{Turn}
use Rattle.g_job_table.proofs.OpeningLemmas.{none_opens}
use Rattle.g_job_table.specs.Accounts.{HaveAccounts}
use Rattle.g_job_table.specs.Crew.{CrewState}
use Rattle.g_job_table.specs.Turn.{TakesTurn}
use Rattle.g_io.specs.Streams.{with_more}
use Rattle.g_day.specs.declared.progress.Failure.TheVariants.{Memory}
use Rattle.g_day.specs.Opening.{Opens}
use Rattle.g_day.specs.System.{Up}
use Rattle.g_plain.specs.Programs.{Answer, Asks, Call, Gives, RanInPart}
use Rattle.g_plain.specs.Runs.{RanBy}
use Rattle.g_store_meaning.specs.Answers.{Answers}
use Rattle.g_store_meaning.specs.StoreInvariant.{StoreFacts}
use Rattle.g_ticks.proofs.LeftLemmas.{left_up}
use Rattle.g_ticks.specs.Turning.{GoesOn, left_of}
use Rattle.g_ticks.specs.Watch.{AnswersWatched, HaveAll, WatchedFacts}

module _ {A : Type 0} (who : List ℕ) where
  pub ran_on : (old new : WatchedFacts) (asks : Asks A) (told : List Answer) (given : A) → RanBy AnswersWatched who old asks told given new → RanBy Answers who old.running asks told given new.running
  ran_on old new (Gives x) [] given (is, same) = (is, ap (λ (w : WatchedFacts). w.running) same)
  ran_on old new (Gives x) (answer ∷ told) given ran = absurd ran
  ran_on old new (Call call more) [] given ran = absurd ran
  ran_on old new (Call call more) (answer ∷ told) given (mid, (answered, asked), goes, rest) = (mid.running, answered, goes, ran_on mid new (more answer) told given rest)

  pub ran_quiet : (old new : WatchedFacts) (asks : Asks A) (told : List Answer) (given : A) → RanBy AnswersWatched who old asks told given new → new.asked ≡ false → new ≡ old
  ran_quiet old new (Gives x) [] given (is, same) quiet = same
  ran_quiet old new (Gives x) (answer ∷ told) given ran quiet = absurd ran
  ran_quiet old new (Call call more) [] given ran quiet = absurd ran
  ran_quiet old new (Call call more) (answer ∷ told) given (mid, (answered, asked), goes, rest) quiet =
      let same : new ≡ mid = ran_quiet mid new (more answer) told given rest quiet in
      absurd (true≢false (sym asked ∙ ap (λ (w : WatchedFacts). w.asked) (sym same) ∙ quiet))

  pub part_on : (old new : WatchedFacts) (asks : Asks A) → RanInPart AnswersWatched who old asks new → RanInPart Answers who old.running asks new.running
  part_on old new (Gives x) same = ap (λ (w : WatchedFacts). w.running) same
  part_on old new (Call call more) (inl same) = inl (ap (λ (w : WatchedFacts). w.running) same)
  part_on old new (Call call more) (inr (inl (answered, asked))) = inr (inl answered)
  part_on old new (Call call more) (inr (inr (answer, mid, (answered, asked), goes, rest))) = inr (inr (answer, mid.running, answered, goes, part_on mid new (more answer) rest))

module _ {F : Type 0} (tariffs : Shared F (Bor Usage × Unit {0}) Charge) (tariff : F) (job : JobState) (old : WatchedFacts) (turn : Turn) (after : JobState) (new : WatchedFacts) where
  pub takes_on : TakesTurn AnswersWatched tariffs tariff job old turn after new → TakesTurn Answers tariffs tariff job old.running turn after new.running
  takes_on takes = record {
    told = takes.told;
    work = takes.work;
    ran = ran_on job.user old new _ takes.told takes.work takes.ran;
    cause = takes.cause;
    within = takes.within;
    ends = takes.ends;
    spends = takes.spends;
    waited = takes.waited;
    seat = takes.seat;
  }

  pub takes_quiet : TakesTurn AnswersWatched tariffs tariff job old turn after new → new.asked ≡ false → new ≡ old
  takes_quiet takes quiet = ran_quiet job.user old new _ takes.told takes.work takes.ran quiet

-- after a turn that made no call, and changed no account, each user still has one
pub still_all : (old new : WatchedFacts) (c c' : CrewState) → c'.accounts ≡ c.accounts → (new.asked ≡ false → new ≡ old) → HaveAll old c → HaveAll new c'
still_all old new c c' accounts same all quiet =
    let is : new ≡ old = same quiet in
    let before : HaveAccounts old.running.online.contents.users c.accounts = all (ap (λ (w : WatchedFacts). w.asked) (sym is) ∙ quiet) in
    subst (λ (w : WatchedFacts). HaveAccounts w.running.online.contents.users c'.accounts) (sym is)
    ((λ user some. let has = before user some in rw (sym accounts) at has))

-- if each user has one, none opens
pub opens_none : (users : List UserRec) (c : CrewState) → HaveAccounts users c.accounts → Opens users c c
opens_none users c all = record { accounts = λ s accounts rows are. none_opens s accounts c.accounts users all rows are; others = refl }

-- nothing was printed
pub nothing_more : (before : Option (List ℕ)) → before ≡ with_more before []
nothing_more None = refl
nothing_more (Some bytes) = ap (λ (l : List ℕ). let o : Option (List ℕ) = Some l in o) (sym (append-nil bytes))

-- the system after the opening is the one before
pub still_up : (s s' : StoreFacts) → s' ≡ s → s.spent ≡ false → left_of s' ≡ Up s
still_up s s' same running = ap left_of same ∙ left_up s running

-- if memory ran out at the opening nothing was printed
pub goes_nowhere : (s s' : StoreFacts) (text : List ℕ) (c c' : CrewState) (before : Option (List ℕ)) (faults : ℕ) → s' ≡ s → s.spent ≡ false → GoesOn s text c (Some Memory) (left_of s') c' before before faults faults
goes_nowhere s s' text c c' before faults same running = record {
  up = still_up s s' same running;
  opens = λ none. absurd (let no : ⊥ = cc in no);
  put = record { put = (0, omega arith, nothing_more before); cause = refl };
}

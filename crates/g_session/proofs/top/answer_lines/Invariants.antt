-- The lines so far, none of which broke off the session.
use Rattle.std.proofs.Common.{◌≡◌, ◌-◌, ◌≤◌, ℕ, Bool, List, [], Option}
use Rattle.g_console.specs.Transcript.{Transcript}
use Rattle.g_day.specs.Parts.{IsReady}
use Rattle.g_job_table.specs.Numbers.{AreOpen}
use Rattle.g_run_model.specs.Devices.{Devices}
use Rattle.g_script.specs.declared.operator.Timed.{Timed}
use Rattle.g_store_model.specs.State.{State}
use Rattle.g_typing.specs.Reader.{Holds}
use Rattle.g_session.specs.Anew.{StandsAnew}
use Rattle.g_session.specs.Ending.{KeepsMany}
use Rattle.g_session.specs.Parts.{Stands}
use Rattle.g_session.specs.declared.exchange.Course.TheVariants as course
use Rattle.g_session.proofs.top.answer_lines.Given as goal

abbrev pub invariant-lines : goal.invariant-lines
invariant-lines g l = record {
  goes : l.talk.course ≡ course.Goes;
  ready : IsReady l.talk.day.system l.talk.day.crew;
  open_ones : AreOpen l.talk.day.crew.jobs;
  serials : l.talk.serials.items ≡ l.fn.talk.serials.items;
  numbers : l.talk.day.crew.next_job ≤ l.talk.number;
  typed : (lines : List (List ℕ)) × Holds l.talk.day.count lines l.talk.reader;
  keeps : KeepsMany l.fn.talk.day course.Goes l.talk.day;
  faults : g.C.Sink.faults l.console ≡ g.C.Sink.faults l.fn.console;
  log_faults : g.L.Sink.faults l.log ≡ g.L.Sink.faults l.fn.log;
  said : (s : State) (real : Bool) (old : Devices) (done : List Timed) (from : Option Transcript) (log0 : Option (List ℕ))
      → Stands g.F.Fn l.rules.tariff.now g.U.Fn l.rules.weigh.now s real old done l.fn.talk.bad l.fn.talk.day l.fn.talk.reader l.fn.talk.number [] from (g.C.Console.transcript l.fn.console) log0 (g.L.Sink.written l.fn.log)
      → (more : List Timed) × Stands g.F.Fn l.rules.tariff.now g.U.Fn l.rules.weigh.now s real old more l.talk.bad l.talk.day l.talk.reader l.talk.number [] from (g.C.Console.transcript l.console) log0 (g.L.Sink.written l.log);
  anew : (s : State) (old : Devices) (from : Option Transcript) (log0 : Option (List ℕ))
      → StandsAnew g.F.Fn l.rules.tariff.now g.U.Fn l.rules.weigh.now s old l.fn.talk.bad l.fn.talk.day l.fn.talk.reader l.fn.talk.number from (g.C.Console.transcript l.fn.console) log0 (g.L.Sink.written l.fn.log)
      → StandsAnew g.F.Fn l.rules.tariff.now g.U.Fn l.rules.weigh.now s old l.talk.bad l.talk.day l.talk.reader l.talk.number from (g.C.Console.transcript l.console) log0 (g.L.Sink.written l.log);
}

abbrev pub decreases-lines : goal.decreases-lines
decreases-lines g l = 18446744073709551615 - l.talk.number

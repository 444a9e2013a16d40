use Rattle.std.proofs.Common.{List, ℕ, Result, Err, subst, sym}
use Rattle.g_disc.proofs.CallLemmas.{ReadsByCause-for}
use Rattle.g_plain.specs.declared.faults.StoreFault.{StoreFault}
use Rattle.g_store_calls.specs.FetchedBytes.{HasReadDisc}
use Rattle.g_store_calls.proofs.FaultLemmas.{disc_unread}
use Rattle.g_store_calls.proofs.fetching.disc_bytes.Goals as goal

pub returns-in-Ok : goal.returns-in-Ok
returns-in-Ok g c = λ f there at. record {
  text = c.in-Ok.ensures.text f there at;
  same = c.bytes.ensures.same;
  reads = ReadsByCause-for (λ is. let no : ⊥ = cc in absurd no) (λ is. let no : ⊥ = cc in absurd no) c.in-Ok.ensures.reads;
  filled = λ is. let no : ⊥ = cc in absurd no;
  tied = c.bytes.ensures.tied;
  only = tt;
}

pub returns-in-Err : goal.returns-in-Err
returns-in-Err g c = λ f there at.
    subst (λ (e : StoreFault). let r : Result (List ℕ) StoreFault = Err e in HasReadDisc f c.args.online.now c.bytes.new.self r) (sym c.from.ensures)
    (disc_unread f c.args.online.now c.bytes.new.self c.in-Err.fault c.in-Err.ensures.only c.bytes.ensures.same c.in-Err.ensures.reads (λ is. c.in-Err.ensures.filled is f there at) c.bytes.ensures.tied)

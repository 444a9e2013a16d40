-- What is done with a job, from what each of its steps says.
-- serves: carry_out (carried, tied)
use Rattle.std.proofs.Common.{◌≡◌, ℕ, ◌+◌, ◌<◌, true, List, [], map, Option, Some, None, Ok, Err, refl, sym, ◌∙◌, ap, arith, subst, inl, inr, if◌then◌else◌}
use Rattle.std.specs.Prelude.{◌⊎◌, All, Contains, Result, is_some}
use Rattle.g_base.specs.Counts.{RoseBy}
use Rattle.g_entry.specs.declared.file_rec.FileRec.{FileRec}
use Rattle.g_entry.specs.declared.file_rec.TapeCopy.{TapeCopy}
use Rattle.g_entry.specs.declared.head.Intent.{Intent}
use Rattle.g_entry.specs.HeadFields.{IsSerial}
use Rattle.g_tape.specs.Rack.{Rack}
use Rattle.g_tape.specs.Reel.{Reel}
use Rattle.g_plain.specs.declared.faults.StoreFault.{StoreFault}
use Rattle.g_plain.specs.declared.faults.StoreFault.TheVariants as store
use Rattle.g_disc_contents.specs.Contents.{Contents, File, Holds, with_intent}
use Rattle.g_disc_contents.specs.Facts.{IsTied, OnlineFacts}
use Rattle.g_incr.specs.Plan.{Plan, needs}
use Rattle.g_shelf.specs.declared.rack.Listed.{Listed}
use Rattle.g_online.specs.declared.change.Change.TheVariants.{SetIntent}
use Rattle.g_online.specs.declared.fault.OnlineFault.{OnlineFault}
use Rattle.g_online.specs.declared.fault.OnlineFault.TheVariants.{DiscFull, NoMemory, Stopped}
use Rattle.g_online.specs.AllowedChanges.{IsAllowed, KeepsRules}
use Rattle.g_online.specs.Change.{changed, need_of, unjammed}
use Rattle.g_online.specs.Outcomes.{HasChanged, HasStopped, IsApplied, room_for}
use Rattle.g_online.specs.ReadyCopies.{CoverAll, IsAdopting, IsReadyFor, Readied, ready_with, adopted}
use Rattle.g_dumper.specs.Beginning.{intent_of}
use Rattle.g_dumper.proofs.IntentLemmas.{intends, may_intend, intended}
use Rattle.g_process.specs.declared.job.Job.{Job}
use Rattle.g_process.specs.Preparation.{AtBlock, AtCopies, AtIntent, CarriesOut, HasIntended, HasMoved, MayCarry, StoppedIntending, StopsAt, copies_of}
use Rattle.g_process.specs.Progress.{FailedAt, HasWritten, IsReadable, MayWrite, WritesBlocks}
use Rattle.g_process.proofs.BecomeLemmas.{labels_beside, same_mounted, same_serials}
use Rattle.g_disc.proofs.CallLemmas.{Causes-for}

-- WHAT THE INTENT'S COMMIT CHANGES

pub has_intended : (i : Intent) (o new : OnlineFacts) (u : Unit {0}) → o.pins ≡ None → (let r : Result (Unit {0}) OnlineFault = Ok u in IsApplied (SetIntent (Some i)) o new r) → HasIntended i o new
has_intended i o new u none done =
    let ok : HasChanged (SetIntent (Some i)) o new = done.ok in
    record {
      live = ok.live;
      contents = ok.contents ∙ intended (is_some o.disc.held) (is_some o.pins) (Some i) o.contents;
      pins = ok.pins ∙ none;
      changed = ok.changed;
      touched = ok.touched ∙ ap (λ (p : Option _). if is_some p then o.touched else []) none;
      told = done.told;
      blocks = ok.blocks;
      commits = ok.commits;
      writes = subst (λ (n : ℕ). RoseBy n o.disc.writes new.disc.writes) (let n : 0 + ok.blocks ≡ ok.blocks = omega arith in n) ok.writes;
      causes = Causes-for (λ p. p) (λ p. p) (λ is. absurd (let no : ⊥ = cc in no)) (λ no. absurd no) done.causes;
      tied = done.tied;
      durable = ok.durable;
    }

-- it fails only if a write failed
pub stops_alone : (i : Intent) (o new : OnlineFacts) (e : OnlineFault) → (let r : Result (Unit {0}) OnlineFault = Err e in IsApplied (SetIntent (Some i)) o new r) → e ≡ Stopped
stops_alone i o new e done = by_case done.only
  where
    by_case : (e ≡ Stopped) ⊎ ((e ≡ NoMemory) ⊎ (e ≡ DiscFull (need_of (SetIntent (Some i))) (room_for (SetIntent (Some i)) o))) → e ≡ Stopped
    by_case (inl is) = is
    by_case (inr (inl is)) = absurd (done.memory refl (ap (λ (x : OnlineFault). let r : Result (Unit {0}) OnlineFault = Err x in r) is))
    by_case (inr (inr is)) =
        absurd (let less = done.full.0 (ap (λ (x : OnlineFault). let r : Result (Unit {0}) OnlineFault = Err x in r) is) in (let no : ⊥ = omega (arith, less) in no))

pub has_stopped : (i : Intent) (o new : OnlineFacts) (e : OnlineFault) → (let r : Result (Unit {0}) OnlineFault = Err e in IsApplied (SetIntent (Some i)) o new r) → StoppedIntending i o new
has_stopped i o new e done =
    let is : e ≡ Stopped = stops_alone i o new e done in
    let answer = ap (λ (x : OnlineFault). let r : Result (Unit {0}) OnlineFault = Err x in r) is in
    let stopped : HasStopped (SetIntent (Some i)) o new = done.stopped answer in
    record {
      live = stopped.live;
      told = done.told;
      holds = λ blocks held. by_case blocks (stopped.holds blocks held).one;
      survives = λ is. (let (safe, left) = stopped.survives is in (safe, λ had at blocks may. by_case blocks (left had at blocks may).one));
      causes = Causes-for (λ p. p) (λ p. p) (λ _. tt) (λ _. answer) done.causes;
      tied = done.tied;
    }
  where
    by_case : (blocks : List (List ℕ)) → Holds blocks o.contents
        ⊎ (((0 < 0) × Holds blocks (unjammed (is_some o.pins) (SetIntent (Some i)) o.contents)) ⊎ Holds blocks (changed true (is_some o.pins) (SetIntent (Some i)) o.contents))
        → Holds blocks o.contents ⊎ Holds blocks (with_intent (Some i) o.contents)
    by_case blocks (inl was) = inl was
    by_case blocks (inr (inl (less, off))) = absurd (omega (arith, less))
    by_case blocks (inr (inr made)) = inr (subst (Holds blocks) (intended true (is_some o.pins) (Some i) o.contents) made)

-- afterwards the versions can be read as before, and what was prepared is still ready
readable_in : (serial : ℕ) (rack : Rack) (r : FileRec) (o new : OnlineFacts) → new.contents.files ≡ o.contents.files → IsReadable serial o rack r → IsReadable serial new rack r
readable_in serial rack r o new same is = record {
  file = let (f, there, at) = is.file in (f, subst (λ (fs : List File). Contains fs f) (sym same) there, at);
  offline = λ f there named off. is.offline f (subst (λ (fs : List File). Contains fs f) same there) named off;
}

pub may_write_in : (serial : ℕ) (p : Plan) (rs : List FileRec) (o new : OnlineFacts) (rack : Rack) → new.contents.files ≡ o.contents.files → MayWrite serial p rs o rack → MayWrite serial p rs new rack
may_write_in serial p rs o new rack same may = record {
  readable = record { waiting_are = may.readable.waiting_are; each = λ k d within. readable_in serial rack _ o new same (may.readable.each k d within) };
  on = may.on;
  reel_is = may.reel_is;
  mounted = may.mounted;
  room = may.room;
}

pub ready_in : (i : Intent) (last : ℕ) (copies : List (ℕ × TapeCopy)) (ready : Readied) (o new : OnlineFacts) → new.contents ≡ with_intent (Some i) o.contents → IsReadyFor last copies ready o
    → IsReadyFor last copies ready new
ready_in i last copies ready o new same is = record {
  ready_is = is.ready_is ∙ ap (ready_with copies) (sym same);
  covers = subst (CoverAll copies) (sym same) (record { each = is.covers.each });
  rules = subst (λ (c : Contents). KeepsRules (adopted last copies c)) (sym same) is.rules;
}

-- THE EXITS
module _ (job : Job) (o : OnlineFacts) (old : Rack) where
  abbrev the_intent : Intent
  the_intent = intent_of job.writer

  pub blocks_fail : (begun o' : OnlineFacts) (new : Rack) (fault : StoreFault) → HasIntended the_intent o begun
      → (let r : Result (Unit {0}) StoreFault = Err fault in WritesBlocks job.serial job.writer job.versions.items begun old r o' new) → (let r : Result ℕ StoreFault = Err fault in CarriesOut job o old r o' new)
  blocks_fail begun o' new store.Stopped was_intended (same, k, less, mid, so, failed) =
      AtBlock (subst (HasIntended the_intent o) (sym same) was_intended) k less mid
      (subst (λ (x : OnlineFacts). HasWritten job.serial job.writer job.versions.items x k old mid) (sym same) so)
      (subst (λ (x : OnlineFacts). FailedAt job.serial job.writer job.versions.items x k mid new) (sym same) failed)
  blocks_fail begun o' new fault was_intended ended =
      let (k, less, mid, so, fails) = ended in
      record { begun = begun; intended = was_intended; at = k; less = less; mid = mid; written = so; fails = fails }

  pub copies_fail : (begun mid o' : OnlineFacts) (new : Rack) (e : OnlineFault) → HasIntended the_intent o begun → mid ≡ begun → HasWritten job.serial job.writer job.versions.items begun (needs job.writer) old new
      → (let r : Result (Unit {0}) OnlineFault = Err e in IsAdopting job.number (copies_of job o) mid o' r) → (let r : Result ℕ StoreFault = Err store.Stopped in CarriesOut job o old r o' new)
  copies_fail begun mid o' new e was_intended same so adopting =
      AtCopies begun was_intended so
      (subst (λ (r : Result (Unit {0}) OnlineFault). IsAdopting job.number (copies_of job o) begun o' r) adopting.only
      (subst (λ (x : OnlineFacts). let r : Result (Unit {0}) OnlineFault = Err e in IsAdopting job.number (copies_of job o) x o' r) same adopting))

  pub has_moved : (begun mid o' : OnlineFacts) (new : Rack) (u : Unit {0}) → HasIntended the_intent o begun → mid ≡ begun → HasWritten job.serial job.writer job.versions.items begun (needs job.writer) old new
      → (let r : Result (Unit {0}) OnlineFault = Ok u in IsAdopting job.number (copies_of job o) mid o' r) → HasMoved job o old o' new
  has_moved begun mid o' new u was_intended same so adopting = record {
    begun = begun;
    intended = was_intended;
    written = so;
    adopted = subst (λ (x : OnlineFacts). IsAdopting job.number (copies_of job o) x o' (Ok tt)) same adopting;
  }

  pub still_mounted : (begun : OnlineFacts) (k : ℕ) (new : Rack) → HasWritten job.serial job.writer job.versions.items begun k old new → All (λ r. r.mounted ≡ true) old.reels → All (λ r. r.mounted ≡ true) new.reels
  still_mounted begun k new so up = same_mounted old.reels new.reels (labels_beside job.serial so.written old new so.rack) up

  pub still_listed : (begun : OnlineFacts) (k : ℕ) (new : Rack) → HasWritten job.serial job.writer job.versions.items begun k old new
      → map (λ (l : Listed). l.serial) job.lists.items ≡ map (λ (r : Reel). r.serial) old.reels → map (λ (l : Listed). l.serial) job.lists.items ≡ map (λ (r : Reel). r.serial) new.reels
  still_listed begun k new so is = is ∙ sym (same_serials old.reels new.reels (labels_beside job.serial so.written old new so.rack))

  abbrev the_given : Intent
  the_given = record { serial = job.serial; place = 0; number = job.number }

  -- what the intent requires
  pub may_begin : o.live ≡ true → IsTied o → MayCarry o old job → IsAllowed (SetIntent (Some the_given)) o
  may_begin live tied may =
      let serial : job.writer.serial ≡ job.serial = ap (λ (i : Intent). i.serial) may.intent_is in
      let number : job.writer.number ≡ job.number = ap (λ (i : Intent). i.number) may.intent_is in
      let low = may.rules.number in
      may_intend o the_given live tied
      (intends job.serial 0 job.number o.contents.head.last_dump (subst IsSerial serial may.rules.serial) (omega arith) may.number_is (omega (arith, low, number)))

  pub begun_by : (new : OnlineFacts) (u : Unit {0}) → MayCarry o old job → o.pins ≡ None → (let r : Result (Unit {0}) OnlineFault = Ok u in IsApplied (SetIntent (Some the_given)) o new r) → HasIntended the_intent o new
  begun_by new u may none done = subst (λ (i : Intent). HasIntended i o new) (sym may.intent_is) (has_intended the_given o new u none done)

  pub begin_fails : (new : OnlineFacts) (e : OnlineFault) → MayCarry o old job → (let r : Result (Unit {0}) OnlineFault = Err e in IsApplied (SetIntent (Some the_given)) o new r)
      → StopsAt job o old new old
  begin_fails new e may done = AtIntent (subst (λ (i : Intent). StoppedIntending i o new) (sym may.intent_is) (has_stopped the_given o new e done)) refl

  pub may_still : (new : OnlineFacts) → HasIntended the_intent o new → MayCarry o old job → MayWrite job.serial job.writer job.versions.items new old
  may_still new is may = may_write_in job.serial job.writer job.versions.items o new old (ap (λ (c : Contents). c.files) is.contents) may.writable

  pub ready_still : (begun mid : OnlineFacts) → mid ≡ begun → HasIntended the_intent o begun → MayCarry o old job → IsReadyFor job.number (copies_of job o) job.ready mid
  ready_still begun mid same is may =
      subst (IsReadyFor job.number (copies_of job o) job.ready) (sym same) (ready_in the_intent job.number (copies_of job o) job.ready o begun is.contents may.ready)

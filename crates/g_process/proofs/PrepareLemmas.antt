-- How the planning ends, by the catalogue and by what is in memory.
-- serves: planned
use Rattle.std.proofs.Common.{◌≡◌, ℕ, ◌+◌, ◌<◌, ◌≤◌, true, List, [], map, Some, Err, refl, sym, ◌∙◌, ap, subst}
use Rattle.std.specs.Prelude.{All, Result}
use Rattle.std.specs.Option.{ForSome}
use Rattle.g_entry.specs.declared.file_rec.FileRec.{FileRec}
use Rattle.g_entry.specs.declared.head.Intent.{Intent}
use Rattle.g_entry.specs.HeadFields.{IsSerial}
use Rattle.g_tape.specs.Rack.{Rack, reel}
use Rattle.g_tape.specs.Reel.{Reel}
use Rattle.g_tape.proofs.ReadLemmas.{is_reel, reel_after_reads}
use Rattle.g_plain.specs.declared.faults.StoreFault.{StoreFault}
use Rattle.g_plain.specs.declared.faults.StoreFault.TheVariants.{ReelNotFree, TapeFull}
use Rattle.g_plain.proofs.Found.{some_of}
use Rattle.g_tree.specs.Records.{full_of}
use Rattle.g_disc_contents.specs.Facts.{IsTied, OnlineFacts}
use Rattle.g_incr.specs.Plan.{IsPlan, Plan, first_content, needs}
use Rattle.g_shelf.specs.declared.rack.Listed.{Listed}
use Rattle.g_known.specs.ReelNotes.{AreListed}
use Rattle.g_online.specs.ReadyCopies.{IsReadyFor}
use Rattle.g_dumper.specs.Beginning.{intent_of}
use Rattle.g_dumper.proofs.BeginLemmas.{after_reads, reel_named}
use Rattle.g_process.specs.declared.job.Job.{Job}
use Rattle.g_process.specs.Lists.{IsLostIn, IsThere, notes_at}
use Rattle.g_process.specs.ProcessPlan.{copies_from, living, process_plan, versions}
use Rattle.g_process.specs.Preparation.{IsCatalogued, IsJob, IsPrepared, PlansJob}
use Rattle.g_process.specs.Progress.{MayWrite}
use Rattle.g_process.proofs.BecomeLemmas.{labels_reads, same_mounted, same_serials}
use Rattle.g_process.proofs.JobLemmas.{first_lost_is, may_write}
use Rattle.g_process.proofs.ListLemmas.{free_by_list, taken_by_list}
use Rattle.g_process.proofs.PlanLemmas.{process_rules}

module _ (serial : ℕ) (o : OnlineFacts) (old now : Rack) (lists : List Listed) (was : IsCatalogued serial o old now lists) (live : o.live ≡ true) (tied : IsTied o) where
  the_reel : (r : Reel) × (reel serial old.reels ≡ Some r)
  the_reel = some_of (reel serial old.reels) was.granted.there

  pub named : IsSerial serial
  named =
      let (r, at) = the_reel in
      let right = is_reel serial old.reels r was.reels.each at in
      subst IsSerial (reel_named serial old.reels r at) (right.numbered, right.numbered_most)

  pub rules : IsPlan (process_plan serial o)
  rules = process_rules serial o live tied named was.granted.unspent

  -- the reel has a dump
  pub not_free : (notes_at serial lists ≡ [] → ⊥) → (let r : Result Job StoreFault = Err (ReelNotFree serial) in PlansJob serial o old now r)
  not_free some =
      let (r, at) = the_reel in
      (refl, taken_by_list serial old now lists r was.listed at some, was.kept)

  module _ (none : notes_at serial lists ≡ []) where
    -- a copy isn't there
    pub lost_copy : (fault : StoreFault) (files : List FileRec) → files ≡ living o.contents → IsLostIn o lists files fault → (let r : Result Job StoreFault = Err fault in PlansJob serial o old now r)
    lost_copy fault files are lost_in =
        let lost = subst (λ (fs : List FileRec). IsLostIn o lists fs fault) are lost_in in
        let (f, first, same) = first_lost_is serial o old now lists was.listed live tied fault lost in
        let (r, at) = the_reel in
        subst (λ (x : StoreFault). let y : Result Job StoreFault = Err x in PlansJob serial o old now y) (sym lost.fault_is)
        ((f, lost.copy, ap (full_of o.contents.users) (sym same), refl, first), free_by_list serial old now lists r was.listed at none, was.kept)

    -- the dump is too long
    room_before : (room : ℕ) → ForSome (reel serial now.reels) (λ r. room ≡ r.capacity) → ForSome (reel serial old.reels) (λ r. room ≡ r.capacity)
    room_before room is = λ r at.
        let (q, found, same) = after_reads (reel serial now.reels) (reel serial old.reels) r at (reel_after_reads serial old now was.only) in
        is q found ∙ ap (λ (x : Reel). x.capacity) same

    pub too_long : (need room : ℕ) → need ≡ needs (process_plan serial o) → room < need → ForSome (reel serial now.reels) (λ r. room ≡ r.capacity)
        → (let r : Result Job StoreFault = Err (TapeFull need room) in PlansJob serial o old now r)
    too_long need room is less room_is =
        let (r, at) = the_reel in
        (is, less, room_before room room_is, free_by_list serial old now lists r was.listed at none, was.kept)

    -- or all is ready
    pub planned_job : (job : Job) (writer : Plan) (files : List FileRec) (need room : ℕ) → files ≡ living o.contents → writer ≡ process_plan serial o → All (IsThere o lists) files → need ≡ needs writer → need ≤ room
        → ForSome (reel serial now.reels) (λ r. room ≡ r.capacity) → IsJob serial o writer lists job → IsPrepared serial o old now job
    planned_job job writer files need room are is there need_is enough room_is made =
        let plan : job.writer ≡ process_plan serial o = made.writer_is ∙ is in
        let all : All (IsThere o lists) (living o.contents) = subst (All (IsThere o lists)) are there in
        let fits = may_write serial o old now lists was.listed live tied was.reels was.only was.granted none all room room_is (subst (λ (n : ℕ). n ≤ room) (need_is ∙ ap needs is) enough) in
        record {
          serial_is = made.serial_is;
          plan = plan;
          versions_are = made.versions_are;
          listed = subst (AreListed old) (sym made.lists_are) was.listed;
          free = ap (notes_at serial) made.lists_are ∙ none;
          kept = was.kept;
          may = record {
            number_is = made.number_is;
            intent_is =
                ap intent_of plan ∙ ap (λ (n : ℕ). let i : Intent = record { serial = n; place = 0; number = o.contents.head.last_dump + 1 } in i) (sym made.serial_is)
                ∙ ap (λ (n : ℕ). let i : Intent = record { serial = job.serial; place = 0; number = n } in i) (sym made.number_is);
            rules = subst IsPlan (sym plan) rules;
            ready = subst (λ (n : ℕ). IsReadyFor job.number (copies_from n (first_content job.writer) (versions o.contents)) job.ready o) (sym made.serial_is)
                (subst (λ (p : Plan). IsReadyFor job.number (copies_from serial (first_content p) (versions o.contents)) job.ready o) (sym plan) made.ready);
            writable = subst (λ (n : ℕ). MayWrite n job.writer job.versions.items o now) (sym made.serial_is)
                (subst (λ (p : Plan). MayWrite serial p job.versions.items o now) (sym plan)
                (subst (λ (rs : List FileRec). MayWrite serial (process_plan serial o) rs o now) (sym made.versions_are) fits));
            mounted = same_mounted old.reels now.reels (labels_reads old now was.only.reels) was.granted.mounted;
            serials = ap (map (λ (l : Listed). l.serial)) made.lists_are ∙ was.listed.serials ∙ sym (same_serials old.reels now.reels (labels_reads old now was.only.reels));
          };
        }

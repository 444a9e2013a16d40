-- How PROCESS is answered, if something was written.
-- serves: process
use Rattle.std.proofs.Common.{◌≡◌, ◌≢◌, ℕ, zero, suc, ◌+◌, ◌-◌, ◌<◌, ◌≤◌, Bool, true, false, List, [], ◌∷◌, get_or, length, map, take, Option, Some, None, Ok, Err, refl, sym, ◌∙◌, ap, arith, subst, inl, inr, slice_get}
use Rattle.std.specs.Prelude.{All, Contains, Result, is_some, nat_lt, not, ◌&&◌, ◌⊎◌}
use Rattle.std.specs.List.{AllZip}
use Rattle.std.specs.List.Sorted.{IsStrictlyIncreasing}
use Rattle.std.specs.Option.{ForSome}
use Rattle.std.proofs.lemmas.Bool.{eq-eqb}
use Rattle.std.proofs.lemmas.List.Elements.{All-contains, All-head, All-tail, Contains-append_right, Contains-get_or}
use Rattle.std.proofs.lemmas.Option.{none-some, same_Some}
use Rattle.g_base.specs.Block.{IsBlock, blocks_for}
use Rattle.g_base.specs.Counts.{Rose, RoseBy}
use Rattle.g_disc.proofs.CallLemmas.{stands_later, then_later}
use Rattle.g_entry.specs.declared.file_rec.FileRec.{FileRec}
use Rattle.g_entry.specs.declared.file_rec.TapeCopy.{TapeCopy}
use Rattle.g_entry.specs.declared.head.Intent.{Intent}
use Rattle.g_tape.specs.Rack.{AreReels, Rack, reel}
use Rattle.g_tape.specs.Reads.{HasRead, OnlyReads, blocks_in, blocks_of as blocks_at, is_syncable, time_of, unread}
use Rattle.g_tape.specs.Reel.{IsReel, Reel, Remains, left_by}
use Rattle.g_tape.proofs.ReadLemmas.{blocks_after_reads, is_reel, reel_after_reads, then_read}
use Rattle.g_tape.proofs.PlaceLemmas.{reel-found}
use Rattle.g_plain.specs.declared.faults.StoreFault.{StoreFault}
use Rattle.g_plain.specs.declared.faults.StoreFault.TheVariants.{DiscReadFault, Stopped, TapeReadFault}
use Rattle.g_plain.proofs.Found.{some_of}
use Rattle.g_disc_contents.specs.Commits.{Commits}
use Rattle.g_disc_contents.specs.Contents.{Contents, File, Holds, has, with_intent}
use Rattle.g_disc_contents.specs.Durable.{IsDurable, StopsSafely}
use Rattle.g_disc_contents.specs.Facts.{IsTied, Layout, OnlineFacts}
use Rattle.g_incr.specs.Layout.{Dump}
use Rattle.g_incr.specs.Plan.{IsAway, IsPlan, Plan, blocks_of, content_blocks, dump_of, first_content, needs, waiting}
use Rattle.g_online.specs.ReadyCopies.{HasAdopted, adopted}
use Rattle.g_shelf.specs.CompletedDumps.{AreCompleted, AreShelved}
use Rattle.g_shelf.specs.Surviving.{CanSurvive, DumpsSurvive}
use Rattle.g_shelf.proofs.SurvivingLemmas.{durable_dumps, survive_reads}
use Rattle.g_store_meaning.specs.Answers.{Belongs, Told, WroteCommits}
use Rattle.g_store_meaning.specs.Meaning.{told_reels}
use Rattle.g_store_meaning.specs.Reading.{AllTold}
use Rattle.g_store_meaning.specs.StoreInvariant.{IsUp, StoreFacts}
use Rattle.g_store_meaning.specs.Surviving.{AreDumpsSafe}
use Rattle.g_laws_store.specs.ForgottenCopies.{bare_rec}
use Rattle.g_laws_store.proofs.ReleaseLemmas.{one_block_is_none}
use Rattle.g_dumper.specs.Beginning.{intent_of}
use Rattle.g_dumper.specs.Invariant.{spent_with, up_with}
use Rattle.g_dumper.proofs.BeginLemmas.{after_reads, reel_named}
use Rattle.g_dumper.proofs.IntentLemmas.{rules_here}
use Rattle.g_dumper.proofs.KeepLemmas.{store_spent}
use Rattle.g_shelf.specs.declared.rack.Listed.{Listed}
use Rattle.g_laws_store.proofs.WaitingLemmas.{mapped_there}
use Rattle.g_process.specs.declared.job.Job.{Job}
use Rattle.g_process.specs.ProcessPlan.{IsFree, copies_from, process_plan, versions}
use Rattle.g_process.specs.Preparation.{AtBlock, AtCopies, AtIntent, AtRelease, CarriesOut, HasIntended, IsGranted, IsPrepared, Preparing, StopsAt, copies_of}
use Rattle.g_process.specs.NamedCopies.{intended_by, moved_by, process_copies, process_intent}
use Rattle.g_process.specs.Exits.{IsReadBy, Stops}
use Rattle.g_process.specs.Processing.{CutCopies, CutDump, CutIntent, CutRelease, StopLeaves, IsDumped, IsLeftBy, IsOther, IsReleased, HasReadFile, Processes, behind_process, process_refuses}
use Rattle.g_process.specs.Releases.{AreReleased, is_taken, released, taken, zeros}
use Rattle.g_process.specs.Progress.{AreReadable, FailedAt, FailsReading, HasWritten, IsBlockOf, IsSource, filled}
use Rattle.g_process.proofs.BecomeLemmas.{Becomes, all_cons, apart_of, at_name, at_serial, becomes_filled, becomes_left, becomes_read, becomes_released, becomes_then, both_at, label_left, labels, left_name, released_name, times_left, labels_beside, labels_changed, labels_reads, labels_released, same_serials, same_told, zip_labels}
use Rattle.g_process.proofs.ContentLemmas.{all_read, within_content, front_bare}
use Rattle.g_process.proofs.ExitLemmas.{cut_belongs, exit_before, exit_copies, exit_cut, exit_done, exit_intent, exit_mark, exit_read, failed_read, found_itself, held_whole, process_away, left_whole, processed_belongs, stopped_copies, stopped_intent, torn_before, torn_mark}
use Rattle.g_process.proofs.DumpLemmas.{content_at, content_of, one_dump}
use Rattle.g_process.proofs.DoneLemmas.{IsHeldBy, at_this, has_taken, held_left, held_part, part_never, reels_held, reels_left, reels_part, reels_read, two_commits, two_rise}
use Rattle.g_process.proofs.ListLemmas.{free_by_list, noted_at}
use Rattle.g_process.proofs.PlanLemmas.{all_versions}
use Rattle.g_process.proofs.ProcessLemmas.{none_refused, refuses_early, refuses_late, store_up}
use Rattle.g_process.proofs.DurableLemmas.{less_survive}
use Rattle.g_process.proofs.LossLemmas.{loss_before, loss_copies, loss_intent, loss_mark, loss_release}
use Rattle.g_process.proofs.SafeLemmas.{blocks_stay, can_failed, filled_blocks, first_ready, nothing_filled, partial_survives, safe_spent, safe_up, survive_beside, survive_mid, survive_released, whole_durable}
use Rattle.g_process.proofs.ReelLemmas.{blocks_beside, filled_serial, read_later}
use Rattle.g_process.proofs.ReleaseLemmas.{AreApart, times_released}
use Rattle.g_process.proofs.WriteLemmas.{contained, get_map}

module _ (job : Job) (o : OnlineFacts) (old mid : Rack) (live : o.live ≡ true) (pins : o.pins ≡ None) (tied : IsTied o) (are : AreReels old.reels) (only : OnlyReads old mid)
    (granted : IsGranted job.serial o old) (ready : IsPrepared job.serial o old mid job) where
  abbrev serial : ℕ
  serial = job.serial

  abbrev was : StoreFacts
  was = up_with o old None

  abbrev plan : Plan
  plan = job.writer

  abbrev rs : List FileRec
  rs = job.versions.items

  never_refused : (answer : Result ℕ StoreFault) (s : StoreFacts) → (f : StoreFault) → process_refuses serial was ≡ Some f → (answer ≡ Err f) × (s ≡ was)
  never_refused answer s f is = absurd (none-some f (sym (none_refused serial o old granted) ∙ is))

  free : IsFree serial old
  free =
      let (r, at) = some_of (reel serial old.reels) granted.there in
      free_by_list serial old mid job.lists.items r ready.listed at ready.free

  -- serials, capacities, mountings, and whether a reel exposes its contents
  labels_mid : labels mid.reels ≡ labels old.reels
  labels_mid = labels_reads old mid only.reels

  apart_by : (x : Rack) → labels x.reels ≡ labels old.reels → AreApart x.reels
  apart_by x same = apart_of x.reels (subst IsStrictlyIncreasing (sym (same_serials old.reels x.reels same)) are.rising)

  told_by : (o' : OnlineFacts) (new : Rack) → is_some o'.disc.held ≡ is_some o.disc.held → labels new.reels ≡ labels old.reels → AllTold o.disc.held (told_reels old) → AllTold o'.disc.held (told_reels new)
  told_by o' new disc same told = record { disc = disc ∙ told.disc; each = record { each = same_told old.reels new.reels same told.each.each } }

  labels_written : (begun : OnlineFacts) (k : ℕ) (new : Rack) → HasWritten serial plan rs begun k mid new → labels new.reels ≡ labels old.reels
  labels_written begun k new so = labels_beside serial so.written mid new so.rack ∙ labels_mid

  labels_failed : (begun : OnlineFacts) (k : ℕ) (s : ℕ) (x new : Rack) → FailedAt s plan rs begun k x new → labels x.reels ≡ labels old.reels → labels new.reels ≡ labels old.reels
  labels_failed begun k s x new failed same =
      labels_changed s (left_by failed.how k) (label_left failed.how k) failed.mid new (ap (λ (y : Rack). y.reels) failed.rack) ∙ labels_reads x failed.mid failed.reads.reels ∙ same

  become_written : (begun : OnlineFacts) (k : ℕ) (new : Rack) → (so : HasWritten serial plan rs begun k mid new) → Becomes (at_serial serial (filled so.written)) old new
  become_written begun k new so =
      becomes_then (λ r. r) (at_serial serial (filled so.written)) old mid new (becomes_read old mid only.reels) (becomes_filled serial so.written mid new (apart_by mid labels_mid) so.rack)

  -- what the disc names
  intent_is : intent_of plan ≡ process_intent serial o
  intent_is = ready.may.intent_is ∙ ap (λ (n : ℕ). let i : Intent = record { serial = serial; place = 0; number = n } in i) ready.may.number_is

  begun_is : with_intent (Some (intent_of plan)) o.contents ≡ intended_by serial o
  begun_is = ap (λ (i : Intent). with_intent (Some i) o.contents) intent_is

  copies_are : copies_of job o ≡ process_copies serial o
  copies_are = ap (λ (p : Plan). copies_from serial (first_content p) (versions o.contents)) ready.plan

  moved_is : (begun : OnlineFacts) → HasIntended (intent_of plan) o begun → adopted job.number (copies_of job o) begun.contents ≡ moved_by serial o
  moved_is begun intended =
      ap (adopted job.number (copies_of job o)) intended.contents ∙ ap (λ (n : ℕ). adopted n (copies_of job o) o.contents) ready.may.number_is
      ∙ ap (λ (cs : List (ℕ × TapeCopy)). adopted (o.contents.head.last_dump + 1) cs o.contents) copies_are

  holds_either : (begun : OnlineFacts) → HasIntended (intent_of plan) o begun → {held : Option (List (List ℕ))}
      → ForSome held (λ blocks. Holds blocks begun.contents ⊎ Holds blocks (adopted job.number (copies_of job o) begun.contents))
      → ForSome held (λ blocks. Holds blocks (intended_by serial o) ⊎ Holds blocks (moved_by serial o))
  holds_either begun intended either = λ blocks is. by_case blocks (either blocks is)
    where
      by_case : (blocks : List (List ℕ)) → Holds blocks begun.contents ⊎ Holds blocks (adopted job.number (copies_of job o) begun.contents)
          → Holds blocks (intended_by serial o) ⊎ Holds blocks (moved_by serial o)
      by_case blocks (inl was) = inl (subst (Holds blocks) (intended.contents ∙ begun_is) was)
      by_case blocks (inr now) = inr (subst (Holds blocks) (moved_is begun intended) now)

  -- disc and rack still belong together, as the lemmas of the exits need it
  rules_are : IsPlan (process_plan serial o)
  rules_are = subst IsPlan ready.plan ready.may.rules

  the_reel : (r : Reel) × (reel serial old.reels ≡ Some r)
  the_reel = some_of (reel serial old.reels) granted.there

  mounted_on : the_reel.0.mounted ≡ true
  mounted_on = All-contains (λ (r : Reel). r.mounted ≡ true) old.reels the_reel.0 granted.mounted (reel-found serial old.reels the_reel.0 the_reel.1).0

  room_on : needs (process_plan serial o) ≤ the_reel.0.capacity
  room_on =
      let (q, found, same) = after_reads (reel serial mid.reels) (reel serial old.reels) the_reel.0 the_reel.1 (reel_after_reads serial old mid only) in
      let this : q ≡ ready.may.writable.on = same_Some q ready.may.writable.on (sym found ∙ ready.may.writable.reel_is) in
      let room = ready.may.writable.room in
      let need : needs plan ≡ needs (process_plan serial o) = ap needs ready.plan in
      let capacity : ready.may.writable.on.capacity ≡ the_reel.0.capacity = ap (λ (x : Reel). x.capacity) (sym this) ∙ ap (λ (x : Reel). x.capacity) same in
      omega (arith, room, capacity, need)

  readable_are : AreReadable serial (process_plan serial o) (versions o.contents) o mid
  readable_are = subst (λ (qs : List FileRec). AreReadable serial (process_plan serial o) qs o mid) ready.versions_are
      (subst (λ (p : Plan). AreReadable serial p rs o mid) ready.plan ready.may.writable.readable)

  abbrev so_at : (begun : OnlineFacts) (k : ℕ) (m : Rack) → HasWritten serial plan rs begun k mid m → HasWritten serial (process_plan serial o) (versions o.contents) begun k mid m
  so_at begun k m so = record {
    written = so.written;
    long = so.long;
    each = λ j block is. subst (λ (qs : List FileRec). IsBlockOf (process_plan serial o) qs begun mid m j block) ready.versions_are
        (subst (λ (p : Plan). IsBlockOf p rs begun mid m j block) ready.plan (so.each j block is));
    rack = so.rack;
    kept = so.kept;
    durably = so.durably;
  }

  files_at : (begun : OnlineFacts) → HasIntended (intent_of plan) o begun → begun.contents.files ≡ o.contents.files
  files_at begun intended = ap (λ (c : Contents). c.files) intended.contents

  need_is : needs plan ≡ needs (process_plan serial o)
  need_is = ap needs ready.plan

  -- THE DUMPS ARE SAFE: of the other reels, and of this one, which has none yet
  beside_same : (begun : OnlineFacts) (k : ℕ) (m : Rack) → (so : HasWritten serial plan rs begun k mid m) → (n : ℕ) → (n ≡ serial → ⊥) → blocks_at n m ≡ blocks_at n mid
  beside_same begun k m so n apart = blocks_beside serial n so.written mid m (λ e. apart (sym e)) so.rack

  safe_mid : AreDumpsSafe (up_with o old None) → (n : ℕ) → DumpsSurvive n mid
  safe_mid safe = survive_mid o old mid only safe

  partial_dumps : (begun : OnlineFacts) (k : ℕ) (m : Rack) → k < needs plan → (so : HasWritten serial plan rs begun k mid m) → AreDumpsSafe (up_with o old None) → (n : ℕ) → DumpsSurvive n m
  partial_dumps begun k m less so safe =
      survive_beside serial so.written mid m so.durably (beside_same begun k m so) (safe_mid safe) (by so.written refl)
    where
      by : (w : List (List ℕ)) → so.written ≡ w → DumpsSurvive serial m
      by [] is = less_survive serial mid m (so.durably.none (ap (λ (x : List (List ℕ)). length x) is)) (nothing_filled serial so.written mid m is so.rack) (safe_mid safe serial)
      by (b ∷ bs) is =
          let first : slice_get so.written 0 ≡ Some b = ap (λ (x : List (List ℕ)). slice_get x 0) is in
          let some : 0 < length so.written = (let long = ap (λ (x : List (List ℕ)). length x) is in omega (arith, long)) in
          partial_survives serial (process_plan serial o) m so.written b rules_are (process_away serial o) refl refl (so.durably.some some) (filled_blocks serial so.written mid m some so.rack) first
          (first_ready (process_plan serial o) (versions o.contents) begun mid m b ((so_at begun k m so).each 0 b first))
          (let long = so.long in let need = need_is in omega (arith, less, long, need))

  -- a read failed after the intent
  module _ (o' : OnlineFacts) (new : Rack) (tied' : IsTied o') (are_new : AreReels new.reels) where
    after_reading : (f : Reel → Reel) → Becomes (at_serial serial f) old new → AllZip (IsReadBy serial) old.reels new.reels
    after_reading f is = reels_read serial f old new is

    pub fails_disc : (begun : OnlineFacts) (k : ℕ) (m : Rack) → k < needs plan → HasIntended (intent_of plan) o begun → HasWritten serial plan rs begun k mid m → FailsReading DiscReadFault begun o' m new
        → (let r : Result ℕ StoreFault = Err DiscReadFault in Processes serial was r (up_with o' new None))
    fails_disc begun k m less intended so (rose, is, same) = record {
      refused = never_refused (Err DiscReadFault) (up_with o' new None);
      granted = λ _. tt;
      same = λ early. absurd (early tt);
      taken = λ n e. absurd (let no : ⊥ = cc in no);
      lost = λ full n e. absurd (let no : ⊥ = cc in no);
      full = λ need room e. absurd (let no : ⊥ = cc in no);
      done = record {
        contents = inr (ap (λ (x : OnlineFacts). x.contents) is ∙ intended.contents ∙ begun_is);
        changed = ap (λ (x : OnlineFacts). x.changed) is ∙ intended.changed;
        reels = after_reading (filled so.written) (subst (λ (x : Rack). Becomes (at_serial serial (filled so.written)) old x) (sym same) (become_written begun k m so));
      };
      cause = record {
        size = ap (λ (x : OnlineFacts). x.disc.size) is ∙ intended.causes.size;
        later = then_later intended.causes.later (stands_later (ap (λ (x : OnlineFacts). x.disc.writes) is));
        reels = zip_labels old.reels new.reels (ap (λ (x : Rack). labels x.reels) same ∙ labels_written begun k m so);
        disc_arms = ap (λ (x : OnlineFacts). x.disc.arms) is ∙ intended.causes.arms;
        tape_arms = ap (λ (x : Rack). x.arms) same ∙ so.rack.arms ∙ only.arms;
        disc_read = λ _. subst (λ (n : ℕ). Rose n o'.disc.read_faults) (intended.causes.reads_kept (λ no. no)) rose;
        disc_read_only = λ isnt. absurd (isnt refl);
        tape_read = λ e. absurd (let no : ⊥ = cc in no);
        tape_read_only = λ _. ap (λ (x : Rack). x.read_faults) same ∙ so.kept ∙ ready.kept;
        cut = λ e. absurd (let no : ⊥ = cc in no);
        uncut = λ _. (ap (λ (x : OnlineFacts). x.disc.write_faults) is ∙ intended.causes.writes_kept (λ no. no), ap (λ (x : Rack). x.write_faults) same ∙ so.rack.write_faults ∙ only.write_faults);
      };
      wrote = one_commit o' begun intended (ap (λ (x : OnlineFacts). x.layout) is) (ap (λ (x : OnlineFacts). x.disc.writes) is);
      keeps = store_up o' new (ap (λ (x : OnlineFacts). x.live) is ∙ intended.live) (ap (λ (x : OnlineFacts). x.pins) is ∙ intended.pins) tied';
      told = told_by o' new (ap (λ (x : OnlineFacts). is_some x.disc.held) is ∙ intended.told) (ap (λ (x : Rack). labels x.reels) same ∙ labels_written begun k m so);
      spent = (λ e. absurd (let no : ⊥ = cc in no), λ e. absurd (let no : ⊥ = cc in no));
      belongs = λ told is_together.
          let (text, shelf, shelved, up) = is_together.up refl in
          failed_read serial o old mid live tied are only rules_are free the_reel.0 the_reel.1 mounted_on room_on readable_are told text shelf shelved up begun (files_at begun intended) k m (so_at begun k m so) o' new (let need = need_is in omega (arith, less, need)) tied'
          (ap (λ (x : OnlineFacts). x.live) is ∙ intended.live) (ap (λ (x : OnlineFacts). x.contents) is ∙ intended.contents ∙ begun_is) (ap (λ (x : OnlineFacts). x.changed) is ∙ intended.changed)
          (ap (λ (x : Rack). map unread x.reels) same);
      durable = λ unspent durable. subst IsDurable (sym is) (intended.durable durable);
      exit = λ told text shelf shelved up unspent.
          exit_read serial o old mid live tied are only rules_are free the_reel.0 the_reel.1 mounted_on room_on readable_are told text shelf shelved up begun (files_at begun intended) k m (so_at begun k m so) (up_with o' new None) (let need = need_is in omega (arith, less, need))
          (ap (λ (x : OnlineFacts). x.live) is ∙ intended.live) (ap (λ (x : OnlineFacts). x.contents) is ∙ intended.contents ∙ begun_is) (ap (λ (x : OnlineFacts). x.changed) is ∙ intended.changed)
          (ap (λ (x : Rack). map unread x.reels) same);
      dump = λ _. refl;
      dumps = λ told is_together safe. subst (λ (x : Rack). AreDumpsSafe (up_with o' x None)) (sym same) (safe_up o' m (partial_dumps begun k m less so safe));
    }
      where
        one_commit : (x begun : OnlineFacts) → HasIntended (intent_of plan) o begun → x.layout ≡ begun.layout → x.disc.writes ≡ begun.disc.writes → WroteCommits 1 was (up_with x new None)
        one_commit x begun intended layout writes = record {
          blocks = intended.blocks;
          commits = subst (λ (l : Layout). Commits 1 o.layout l intended.blocks) (sym layout) intended.commits;
          writes = subst (λ (n : ℕ). RoseBy intended.blocks o.disc.writes n) (sym writes) intended.writes;
        }

    pub fails_tape : (begun : OnlineFacts) (k : ℕ) (m : Rack) → k < needs plan → HasIntended (intent_of plan) o begun → HasWritten serial plan rs begun k mid m → FailsReading TapeReadFault begun o' m new
        → (let r : Result ℕ StoreFault = Err TapeReadFault in Processes serial was r (up_with o' new None))
    fails_tape begun k m less intended so (rose, same, is) = record {
      refused = never_refused (Err TapeReadFault) (up_with o' new None);
      granted = λ _. tt;
      same = λ early. absurd (early tt);
      taken = λ n e. absurd (let no : ⊥ = cc in no);
      lost = λ full n e. absurd (let no : ⊥ = cc in no);
      full = λ need room e. absurd (let no : ⊥ = cc in no);
      done = record {
        contents = inr (ap (λ (x : OnlineFacts). x.contents) is ∙ intended.contents ∙ begun_is);
        changed = ap (λ (x : OnlineFacts). x.changed) is ∙ intended.changed;
        reels = after_reading (filled so.written) (record { all = ap (λ (x : Rack). map unread x.reels) same ∙ (become_written begun k m so).all });
      };
      cause = record {
        size = ap (λ (x : OnlineFacts). x.disc.size) is ∙ intended.causes.size;
        later = then_later intended.causes.later (stands_later (ap (λ (x : OnlineFacts). x.disc.writes) is));
        reels = zip_labels old.reels new.reels (ap (λ (x : Rack). labels x.reels) same ∙ labels_written begun k m so);
        disc_arms = ap (λ (x : OnlineFacts). x.disc.arms) is ∙ intended.causes.arms;
        tape_arms = ap (λ (x : Rack). x.arms) same ∙ so.rack.arms ∙ only.arms;
        disc_read = λ e. absurd (let no : ⊥ = cc in no);
        disc_read_only = λ _. ap (λ (x : OnlineFacts). x.disc.read_faults) is ∙ intended.causes.reads_kept (λ no. no);
        tape_read = λ _. subst (λ (n : ℕ). Rose n new.read_faults) (so.kept ∙ ready.kept) rose;
        tape_read_only = λ isnt. absurd (isnt refl);
        cut = λ e. absurd (let no : ⊥ = cc in no);
        uncut = λ _. (ap (λ (x : OnlineFacts). x.disc.write_faults) is ∙ intended.causes.writes_kept (λ no. no), ap (λ (x : Rack). x.write_faults) same ∙ so.rack.write_faults ∙ only.write_faults);
      };
      wrote = inr (record {
        blocks = intended.blocks;
        commits = subst (λ (x : OnlineFacts). Commits 1 o.layout x.layout intended.blocks) (sym is) intended.commits;
        writes = subst (λ (x : OnlineFacts). RoseBy intended.blocks o.disc.writes x.disc.writes) (sym is) intended.writes;
      });
      keeps = store_up o' new (ap (λ (x : OnlineFacts). x.live) is ∙ intended.live) (ap (λ (x : OnlineFacts). x.pins) is ∙ intended.pins) tied';
      told = told_by o' new (ap (λ (x : OnlineFacts). is_some x.disc.held) is ∙ intended.told) (ap (λ (x : Rack). labels x.reels) same ∙ labels_written begun k m so);
      spent = (λ e. absurd (let no : ⊥ = cc in no), λ e. absurd (let no : ⊥ = cc in no));
      belongs = λ told is_together.
          let (text, shelf, shelved, up) = is_together.up refl in
          failed_read serial o old mid live tied are only rules_are free the_reel.0 the_reel.1 mounted_on room_on readable_are told text shelf shelved up begun (files_at begun intended) k m (so_at begun k m so) o' new (let need = need_is in omega (arith, less, need)) tied'
          (ap (λ (x : OnlineFacts). x.live) is ∙ intended.live) (ap (λ (x : OnlineFacts). x.contents) is ∙ intended.contents ∙ begun_is) (ap (λ (x : OnlineFacts). x.changed) is ∙ intended.changed)
          (ap (λ (x : Rack). map unread x.reels) same);
      durable = λ unspent durable. subst IsDurable (sym is) (intended.durable durable);
      exit = λ told text shelf shelved up unspent.
          inr (exit_read serial o old mid live tied are only rules_are free the_reel.0 the_reel.1 mounted_on room_on readable_are told text shelf shelved up begun (files_at begun intended) k m (so_at begun k m so) (up_with o' new None) (let need = need_is in omega (arith, less, need))
          (ap (λ (x : OnlineFacts). x.live) is ∙ intended.live) (ap (λ (x : OnlineFacts). x.contents) is ∙ intended.contents ∙ begun_is) (ap (λ (x : OnlineFacts). x.changed) is ∙ intended.changed)
          (ap (λ (x : Rack). map unread x.reels) same));
      dump = λ _. refl;
      dumps = λ told is_together safe.
          let failed : Rack = record m { read_faults = new.read_faults } in
          subst (λ (x : Rack). AreDumpsSafe (up_with o' x None)) (sym same) (safe_up o' failed (partial_dumps begun k m less so safe));
    }

    -- DONE

    -- each block of each version, by the rack before and after
    source_all : (m : Rack) (begun : OnlineFacts) → HasIntended (intent_of plan) o begun → (so : HasWritten serial plan rs begun (needs plan) mid m) → ((s k : ℕ) → time_of s k m ≤ time_of s k new)
        → (i : ℕ) (r : FileRec) → slice_get rs i ≡ Some r → (part : ℕ) → part < blocks_for r.len
        → (block : List ℕ) × (slice_get so.written (1 + length plan.users + length plan.files + (blocks_of (take i (waiting plan.files)) + part)) ≡ Some block) × IsSource o old new r part block
    source_all m begun intended so times i r at part within =
        let (block, is, source) = all_read serial plan rs begun mid m ready.may.writable.readable.waiting_are (needs plan) (omega arith) so i r at part within in (
          block,
          is,
          record {
            online = λ f there named on. source.online f (subst (λ (c : Contents). Contains c.files f) (sym intended.contents) there) named on;
            offline = λ f there named off copy tape.
                let (told, read) = source.offline f (subst (λ (c : Contents). Contains c.files f) (sym intended.contents) there) named off copy tape in
                let first : HasRead copy.serial (copy.first + part) old m = then_read copy.serial (copy.first + part) old mid m only read in (
                  λ blocks known. told blocks (blocks_after_reads copy.serial old mid only ∙ known),
                  read_later copy.serial (copy.first + part) old m new first (times copy.serial (copy.first + part)),
                );
          },
        )

    read_all : (m : Rack) (begun : OnlineFacts) → HasIntended (intent_of plan) o begun → HasWritten serial plan rs begun (needs plan) mid m → AreReleased (taken serial job.lists.items) m new
        → (f : File) → Contains o.contents.files f → HasReadFile was (up_with o' new None) f
    read_all m begun intended so gone f there = λ off copy tape i from to.
        let rules = rules_here o live tied in
        let some : 0 < f.rec.len = omega (arith, from, to) in
        let in_versions = all_versions o.contents f.rec rules.records (mapped_there (λ (x : File). x.rec) o.contents.files f there) some in
        let (n, at) = contained rs f.rec (subst (λ (xs : List FileRec). Contains xs f.rec) (sym ready.versions_are) in_versions) in
        let part : ℕ = i - copy.first in
        let inside : part < blocks_for f.rec.len = omega (arith, from, to) in
        let is : copy.first + part ≡ i = omega (arith, from) in
        let (block, here, source) = source_all m begun intended so (times_released (taken serial job.lists.items) m new gone) n f.rec at part inside in
        subst (λ (k : ℕ). HasRead copy.serial k old new) is (source.offline f there refl off copy tape).1

    -- the dump, if its reel exposes its contents
    plan_away : IsAway plan
    plan_away = subst IsAway (sym ready.plan) (process_away serial o)

    the_dump : (m : Rack) (begun : OnlineFacts) → HasIntended (intent_of plan) o begun → (so : HasWritten serial plan rs begun (needs plan) mid m)
        → ((s k : ℕ) → time_of s k m ≤ time_of s k new) → AllZip (IsHeldBy serial so.written) old.reels new.reels → (blocks : List (List ℕ)) → blocks_at serial new ≡ Some blocks → IsDumped serial was new blocks
    the_dump m begun intended so times held blocks told =
        let (q, found, q_blocks) = reel_told (reel serial new.reels) told in
        let (q_in, named) = reel-found serial new.reels q found in
        let right = is_reel serial new.reels q are_new.each found in
        let is : blocks ≡ so.written = held_at old.reels new.reels held q q_in named blocks q_blocks in
        let whole : All IsBlock so.written = subst (All IsBlock) is (right.whole blocks q_blocks) in
        let one = one_dump serial plan rs begun mid m ready.may.rules plan_away (needs plan) (omega arith) so whole refl (ap (λ (i : Intent). i.serial) ready.may.intent_is) (ap (λ (i : Intent). i.place) ready.may.intent_is) in
        record {
          content = content_of plan so.written;
          completed = subst (λ (bs : List (List ℕ)). AreCompleted serial bs (dump_of (process_plan serial o) (content_of plan so.written) ∷ [])) (sym is)
              (subst (λ (p : Plan). AreCompleted serial so.written (dump_of p (content_of plan so.written) ∷ [])) ready.plan one);
          sources = λ i part r at inside.
              let at_rs : slice_get rs i ≡ Some r = ap (λ (xs : List FileRec). slice_get xs i) ready.versions_are ∙ at in
              let (block, here, source) = source_all m begun intended so times i r at_rs part inside in
              let waits : waiting plan.files ≡ map bare_rec (versions o.contents) = ready.may.writable.readable.waiting_are ∙ ap (map bare_rec) ready.versions_are in
              let front : blocks_of (take i (waiting plan.files)) ≡ blocks_of (take i (versions o.contents)) = ap (λ (xs : List FileRec). blocks_of (take i xs)) waits ∙ front_bare i (versions o.contents) in
              let at_waits : slice_get (waiting plan.files) i ≡ Some (bare_rec r) = ap (λ (xs : List FileRec). slice_get xs i) waits ∙ get_map bare_rec (versions o.contents) i r at in
              let less : blocks_of (take i (waiting plan.files)) + part < content_blocks plan = within_content (waiting plan.files) i part (bare_rec r) at_waits inside in (
                block,
                ap (slice_get (content_of plan so.written)) (let e : blocks_of (take i (versions o.contents)) + part ≡ blocks_of (take i (waiting plan.files)) + part = omega (arith, front) in e)
                    ∙ content_at serial plan rs begun mid m ready.may.rules plan_away (needs plan) (omega arith) so (blocks_of (take i (waiting plan.files)) + part) less ∙ here,
                source,
              );
        }
      where
        reel_told : (x : Option Reel) → blocks_in x ≡ Some blocks → (q : Reel) × (x ≡ Some q) × (q.blocks ≡ Some blocks)
        reel_told None is = absurd (none-some blocks is)
        reel_told (Some q) is = (q, refl, is)

        held_at : (xs ys : List Reel) → AllZip (IsHeldBy serial so.written) xs ys → (q : Reel) → Contains ys q → q.serial ≡ serial → (bs : List (List ℕ)) → q.blocks ≡ Some bs → bs ≡ so.written
        held_at [] [] zip q (i, inside, at) named bs is = absurd (let no : ⊥ = omega (arith, inside) in no)
        held_at [] (y ∷ ys) zip q there named bs is = absurd zip
        held_at (x ∷ xs) [] zip q there named bs is = absurd zip
        held_at (x ∷ xs) (y ∷ ys) (one, zip) q (zero, inside, at) named bs is = one (ap (λ (z : Reel). z.serial) at ∙ named) bs (ap (λ (z : Reel). z.blocks) at ∙ is)
        held_at (x ∷ xs) (y ∷ ys) (one, zip) q (suc i, inside, at) named bs is = held_at xs ys zip q (i, omega (arith, inside), at) named bs is

    -- what the other reels hold
    no_dump_by : (r q : Reel) → IsOther serial old (λ x y. IsReleased y) r q → Contains old.reels r → q.serial ≡ r.serial → ForSome q.blocks (λ blocks. AreCompleted q.serial blocks [])
    no_dump_by r q (apart, inr (had, gone)) there named = λ blocks is. one_block_is_none q.serial blocks (let e = ap (λ (bs : List (List ℕ)). length bs) (gone.block blocks is) in omega (arith, e))
    no_dump_by r q (apart, inl (none, same)) there named = λ blocks is.
        let r_blocks : r.blocks ≡ Some blocks = ap (λ (x : Reel). x.blocks) (sym same) ∙ is in
        let at : reel r.serial old.reels ≡ Some r = found_itself old.reels r (apart_of old.reels are.rising) there in
        let noted = noted_at r.serial old mid job.lists.items r ready.listed at in
        let told : blocks_at r.serial old ≡ Some blocks = ap blocks_in at ∙ r_blocks in
        let completed = noted.found.completed blocks told in
        let empty : noted.dumps ≡ [] = none.none blocks told noted.dumps completed in
        subst (λ (n : ℕ). AreCompleted n blocks []) (sym named) (subst (λ (ds : List Dump). AreCompleted r.serial blocks ds) empty completed)

    abbrev HasNone : Reel → Type 0
    HasNone r = r.serial ≢ serial → ForSome r.blocks (λ blocks. AreCompleted r.serial blocks [])

    none_by : (need : ℕ) (x y : Reel) → IsLeftBy serial need old x y → Contains old.reels x → y.serial ≡ x.serial → HasNone y
    none_by need x y (inl (this, long)) there named apart = absurd (apart (named ∙ this))
    none_by need x y (inr other) there named apart = no_dump_by x y other there named

    none_in : (need : ℕ) (xs ys : List Reel) → AllZip (IsLeftBy serial need old) xs ys → AllZip (λ (x y : Reel). (y.serial ≡ x.serial) × (y.capacity ≡ x.capacity) × (y.mounted ≡ x.mounted)) xs ys
        → ((x : Reel) → Contains xs x → Contains old.reels x) → All HasNone ys
    none_in need [] [] left named among = λ k d inside. absurd (let no : ⊥ = omega (arith, inside) in no)
    none_in need [] (y ∷ ys) left named among = absurd left
    none_in need (x ∷ xs) [] left named among = absurd left
    none_in need (x ∷ xs) (y ∷ ys) (left, lefts) (named, names) among =
        all_cons HasNone y ys (none_by need x y left (among x (0, omega arith, refl)) named.0) (none_in need xs ys lefts names (λ r there. among r (Contains-append_right (x ∷ []) xs r there)))

    other_reels : (need : ℕ) → AllZip (IsLeftBy serial need old) old.reels new.reels → labels new.reels ≡ labels old.reels → All HasNone new.reels
    other_reels need zip same = none_in need old.reels new.reels zip (zip_labels old.reels new.reels same) (λ r there. there)

    -- what was written is complete, if its reel exposes its contents
    whole_by : (w : List (List ℕ)) → AllZip (IsHeldBy serial w) old.reels new.reels → labels new.reels ≡ labels old.reels → AllTold o.disc.held (told_reels old) → All IsBlock w
    whole_by w held same told =
        held_whole serial w old.reels new.reels (zip_whole old.reels new.reels held are_new.each) (zip_labels old.reels new.reels same) (same_told old.reels new.reels same told.each.each) the_reel.0
        (reel-found serial old.reels the_reel.0 the_reel.1).0 (reel_named serial old.reels the_reel.0 the_reel.1)
      where
        zip_whole : (xs ys : List Reel) → AllZip (IsHeldBy serial w) xs ys → All IsReel ys → AllZip (λ (x y : Reel). y.serial ≡ serial → (bs : List (List ℕ)) → y.blocks ≡ Some bs → All IsBlock w) xs ys
        zip_whole [] [] zip all = tt
        zip_whole [] (y ∷ ys) zip all = absurd zip
        zip_whole (x ∷ xs) [] zip all = absurd zip
        zip_whole (x ∷ xs) (y ∷ ys) (one, zip) all =
            (λ named bs is. subst (All IsBlock) (one named bs is) ((All-head IsReel y ys all).whole bs is), zip_whole xs ys zip (All-tail IsReel y ys all))

    -- no release is of the reel that is written
    never_all : has (taken serial job.lists.items) serial ≡ true → ⊥
    never_all is = (has_taken serial serial old mid job.lists.items ready.listed.each is).1 refl

    never_part : (place : ℕ) → has (taken serial (take place job.lists.items)) serial ≡ true → ⊥
    never_part place = part_never serial old mid job.lists.items ready.listed place

    cut_apart : (place : ℕ) (l : Listed) → slice_get job.lists.items place ≡ Some l → is_taken serial l ≡ true → l.serial ≢ serial
    cut_apart place l at is same =
        let e : is_taken serial l ≡ false = ap (λ (b : Bool). not b && nat_lt 0 (length l.notes)) (eq-eqb l.serial serial same) in (let no : ⊥ = cc in no)

    whole_left : (k : ℕ) (m : Rack) (so : HasWritten serial plan rs o' k mid m) (how : Remains) → AllTold o.disc.held (told_reels old)
        → Becomes (at_serial serial (λ r. left_by how k (filled so.written r))) old new → labels new.reels ≡ labels old.reels → All IsBlock so.written
    whole_left k m so how told beside same =
        left_whole serial so.written k so.long how old new beside are_new.each (zip_labels old.reels new.reels same) (same_told old.reels new.reels same told.each.each) the_reel.0
        (reel-found serial old.reels the_reel.0 the_reel.1).0 (reel_named serial old.reels the_reel.0 the_reel.1)

    -- the block that failed is the mark, or one before it
    k_cases : (a b : ℕ) → a ≤ b → (a < b) ⊎ (a ≡ b)
    k_cases zero zero most = inr refl
    k_cases zero (suc b) most = inl (omega arith)
    k_cases (suc a) zero most = absurd (let no : ⊥ = omega (arith, most) in no)
    k_cases (suc a) (suc b) most = more (k_cases a b (omega (arith, most)))
      where
        more : (a < b) ⊎ (a ≡ b) → (suc a < suc b) ⊎ (suc a ≡ suc b)
        more (inl l) = inl (omega (arith, l))
        more (inr e) = inr (ap suc e)

    torn_exits : (told : AllTold o.disc.held (told_reels old)) (text : ℕ → List ℕ) (shelf : ℕ → List Dump) (shelved : AreShelved shelf (told_reels old)) (up : IsUp text shelf (up_with o old None))
        (k : ℕ) (m : Rack) (so : HasWritten serial plan rs o' k mid m) → HasIntended (intent_of plan) o o' → k < needs plan → (failed : FailedAt serial plan rs o' k m new)
        → Becomes (at_serial serial (λ r. left_by failed.how k (filled so.written r))) old new → labels new.reels ≡ labels old.reels → Stops text shelf serial (up_with o old None) (spent_with o' new)
    torn_exits told text shelf shelved up k m so intended less failed beside same = by_place (k_cases (k + 1) (needs (process_plan serial o)) (let need = need_is in omega (arith, less, need)))
      where
        is_block : IsBlockOf (process_plan serial o) (versions o.contents) o' m failed.mid k failed.block
        is_block = subst (λ (qs : List FileRec). IsBlockOf (process_plan serial o) qs o' m failed.mid k failed.block) ready.versions_are
            (subst (λ (p : Plan). IsBlockOf p rs o' m failed.mid k failed.block) ready.plan failed.block_is)

        survive : AreDumpsSafe was → (n : ℕ) → DumpsSurvive n failed.mid
        survive safe n = survive_reads n m failed.mid failed.reads.durable (blocks_after_reads n m failed.mid failed.reads) (partial_dumps o' k m less so safe n)

        by_place : (k + 1 < needs (process_plan serial o)) ⊎ (k + 1 ≡ needs (process_plan serial o)) → Stops text shelf serial (up_with o old None) (spent_with o' new)
        by_place (inl before) =
            exit_before serial o old mid live tied are only rules_are free the_reel.0 the_reel.1 mounted_on room_on readable_are told text shelf shelved up o' (files_at o' intended) k m (so_at o' k m so) (spent_with o' new) failed.how before beside intended.live (intended.contents ∙ begun_is) intended.changed intended.durable
            (λ safe. loss_before serial o old mid live tied are only rules_are free the_reel.0 the_reel.1 mounted_on room_on readable_are told text shelf shelved up o' (files_at o' intended) k m (so_at o' k m so)
            (let need = need_is in omega (arith, less, need)) failed.mid new failed.reads failed.how failed.block is_block (ap (λ (x : Rack). x.reels) failed.rack) failed.durably (survive safe) before)
        by_place (inr last) =
            exit_mark serial o old mid live tied are only rules_are free the_reel.0 the_reel.1 mounted_on room_on readable_are told text shelf shelved up o' (files_at o' intended) k m (so_at o' k m so) (omega (arith, last)) (whole_left k m so failed.how told beside same) (spent_with o' new) failed.how last beside
            intended.live (intended.contents ∙ begun_is) intended.changed intended.durable
            (λ safe. loss_mark serial o old mid live tied are only rules_are free the_reel.0 the_reel.1 mounted_on room_on readable_are told text shelf shelved up o' (files_at o' intended) k m (so_at o' k m so)
            (let need = need_is in omega (arith, less, need)) failed.mid new failed.reads failed.how failed.block is_block (ap (λ (x : Rack). x.reels) failed.rack) failed.durably (survive safe)
            (whole_left k m so failed.how told beside same) last)

    torn_belongs : (told : AllTold o.disc.held (told_reels old)) (text : ℕ → List ℕ) (shelf : ℕ → List Dump) (shelved : AreShelved shelf (told_reels old)) (up : IsUp text shelf (up_with o old None))
        (k : ℕ) (m : Rack) (so : HasWritten serial plan rs o' k mid m) → HasIntended (intent_of plan) o o' → (how : Remains) → k < needs plan
        → Becomes (at_serial serial (λ r. left_by how k (filled so.written r))) old new → labels new.reels ≡ labels old.reels → Belongs (spent_with o' new)
    torn_belongs told text shelf shelved up k m so intended how less beside same = by_place (k_cases (k + 1) (needs (process_plan serial o)) (let need = need_is in omega (arith, less, need)))
      where
        by_place : (k + 1 < needs (process_plan serial o)) ⊎ (k + 1 ≡ needs (process_plan serial o)) → Belongs (spent_with o' new)
        by_place (inl before) =
            torn_before serial o old mid live tied are only rules_are free the_reel.0 the_reel.1 mounted_on room_on readable_are told text shelf shelved up o' (files_at o' intended) k m (so_at o' k m so) o' new how before beside same tied' intended.live (intended.contents ∙ begun_is)
        by_place (inr last) =
            torn_mark serial o old mid live tied are only rules_are free the_reel.0 the_reel.1 mounted_on room_on readable_are told text shelf shelved up o' (files_at o' intended) k m (so_at o' k m so) (omega (arith, last)) (whole_left k m so how told beside same) o' new how last beside same tied' intended.live
            (intended.contents ∙ begun_is)

    -- A STOP
    abbrev TheStop : Type 0
    TheStop = let r : Result ℕ StoreFault = Err Stopped in Processes serial was r (spent_with o' new)

    written_dumps : (begun : OnlineFacts) (k : ℕ) (m : Rack) → (so : HasWritten serial plan rs begun k mid m) → AreDumpsSafe was → (n : ℕ) → (n ≡ serial → ⊥) → DumpsSurvive n m
    written_dumps begun k m so safe n apart = less_survive n mid m (so.durably.others n apart) (beside_same begun k m so n apart) (safe_mid safe n)

    moved_dumps : (begun : OnlineFacts) (m : Rack) → HasWritten serial plan rs begun (needs plan) mid m → AreDumpsSafe was → (n : ℕ) → DumpsSurvive n m
    moved_dumps begun m so safe =
        survive_beside serial so.written mid m so.durably (beside_same begun (needs plan) m so) (safe_mid safe)
        (durable_dumps serial m (whole_durable serial plan rs begun mid m (subst IsPlan (sym ready.plan) rules_are) (subst IsAway (sym ready.plan) (process_away serial o)) so))

    begun_dumps : (begun : OnlineFacts) (k : ℕ) (m : Rack) → (so : HasWritten serial plan rs begun k mid m) → (k ≡ 0) ⊎ (is_syncable serial m ≡ true)
    begun_dumps begun k m so = by k so.long
      where
        by : (i : ℕ) → length so.written ≡ i → (i ≡ 0) ⊎ (is_syncable serial m ≡ true)
        by zero long = inl refl
        by (suc i) long = inr (so.durably.some (omega (arith, long))).syncable

    still_begun : (m x : Rack) → OnlyReads m x → {k : ℕ} → (k ≡ 0) ⊎ (is_syncable serial m ≡ true) → (k ≡ 0) ⊎ (is_syncable serial x ≡ true)
    still_begun m x reads (inl none) = inl none
    still_begun m x reads (inr is) = inr (reads.durable.syncable serial is)

    a_stop : (Told was → Belongs was → Belongs (spent_with o' new)) → (AreDumpsSafe was → (n : ℕ) → CanSurvive n new) → (Told was → (text : ℕ → List ℕ) (shelf : ℕ → List Dump) → AreShelved shelf (told_reels old) → IsUp text shelf was → Stops text shelf serial was (spent_with o' new))
        → StopLeaves serial was (spent_with o' new) → labels new.reels ≡ labels old.reels → is_some o'.disc.held ≡ is_some o.disc.held → o'.disc.size ≡ o.disc.size → o.disc.writes ≤ o'.disc.writes → o'.disc.arms ≡ o.disc.arms
        → new.arms ≡ old.arms → o'.disc.read_faults ≡ o.disc.read_faults → new.read_faults ≡ old.read_faults
        → (Rose o.disc.write_faults o'.disc.write_faults × (new.write_faults ≡ old.write_faults)) ⊎ (Rose old.write_faults new.write_faults × (o'.disc.write_faults ≡ o.disc.write_faults)) → TheStop
    a_stop together can exits reels same told size later disc_arms tape_arms disc_reads tape_reads cut = record {
      refused = never_refused (Err Stopped) (spent_with o' new);
      granted = λ _. tt;
      same = λ early. absurd (early tt);
      taken = λ n e. absurd (let no : ⊥ = cc in no);
      lost = λ full n e. absurd (let no : ⊥ = cc in no);
      full = λ need room e. absurd (let no : ⊥ = cc in no);
      done = reels;
      cause = record {
        size = size;
        later = later;
        reels = zip_labels old.reels new.reels same;
        disc_arms = disc_arms;
        tape_arms = tape_arms;
        disc_read = λ e. absurd (let no : ⊥ = cc in no);
        disc_read_only = λ _. disc_reads;
        tape_read = λ e. absurd (let no : ⊥ = cc in no);
        tape_read_only = λ _. tape_reads;
        cut = λ _. cut;
        uncut = λ isnt. absurd (isnt refl);
      };
      wrote = tt;
      keeps = store_spent o' new tied';
      told = told_by o' new told same;
      spent = (λ _. refl, λ _. refl);
      belongs = together;
      dumps = λ told is_together safe. safe_spent o' new (can safe);
      exit = λ told text shelf shelved up unspent. exits told text shelf shelved up;
      durable = λ unspent. absurd (let no : ⊥ = cc in no);
      dump = λ isnt. absurd (isnt refl);
    }

    pub stops : StopsAt job o mid o' new → TheStop
    stops (AtIntent stopped same) =
        a_stop (λ told is_together. let (text, shelf, shelved, up) = is_together.up refl in
        stopped_intent serial o old mid live tied are only rules_are free the_reel.0 the_reel.1 mounted_on room_on readable_are told text shelf shelved up o' new
        (ap (λ (x : Rack). map unread x.reels) same ∙ only.reels) (subst (λ (i : Intent). ForSome o'.disc.held (λ blocks. Holds blocks o.contents ⊎ Holds blocks (with_intent (Some i) o.contents))) intent_is stopped.holds))
        (λ safe n. subst (CanSurvive n) (sym same) (inl (safe_mid safe n)))
        (λ told text shelf shelved up. exit_intent serial o old mid live tied are only rules_are free the_reel.0 the_reel.1 mounted_on room_on readable_are told text shelf shelved up (spent_with o' new)
        (ap (λ (x : Rack). map unread x.reels) same ∙ only.reels)
        (record {
          now = subst (λ (i : Intent). ForSome o'.disc.held (λ blocks. Holds blocks o.contents ⊎ Holds blocks (with_intent (Some i) o.contents))) intent_is stopped.holds;
          survives = subst (λ (i : Intent). StopsSafely (λ left. Holds left o.contents ⊎ Holds left (with_intent (Some i) o.contents)) o o') intent_is stopped.survives;
        })
        (λ safe. loss_intent serial o old mid live tied are only rules_are free the_reel.0 the_reel.1 mounted_on room_on readable_are told text shelf shelved up new (ap (λ (x : Rack). map unread x.reels) same ∙ only.reels)
        (λ n. subst (DumpsSurvive n) (sym same) (safe_mid safe n))))
        (CutIntent (subst (λ (i : Intent). ForSome o'.disc.held (λ blocks. Holds blocks o.contents ⊎ Holds blocks (with_intent (Some i) o.contents))) intent_is stopped.holds)
        (ap (λ (x : Rack). map unread x.reels) same ∙ only.reels)) (ap (λ (x : Rack). labels x.reels) same ∙ labels_mid)
        stopped.told stopped.causes.size stopped.causes.later stopped.causes.arms (ap (λ (x : Rack). x.arms) same ∙ only.arms) (stopped.causes.reads_kept (λ no. no)) (ap (λ (x : Rack). x.read_faults) same ∙ ready.kept)
        (inl (stopped.causes.writes_rose tt, ap (λ (x : Rack). x.write_faults) same ∙ only.write_faults))
    stops (AtBlock intended k less m so failed) =
        let same_m = labels_written o' k m so in
        let same_f = labels_reads m failed.mid failed.reads.reels ∙ same_m in
        let first = become_written o' k m so in
        let second = becomes_then (at_serial serial (filled so.written)) (λ r. r) old m failed.mid first (becomes_read m failed.mid failed.reads.reels) in
        let third = becomes_left serial k failed.how failed.mid new (apart_by failed.mid same_f) (ap (λ (x : Rack). x.reels) failed.rack) in
        let all = becomes_then (at_serial serial (filled so.written)) (at_serial serial (left_by failed.how k)) old failed.mid new second third in
        let beside = both_at serial (filled so.written) (left_by failed.how k) old new (filled_serial so.written) all in
        a_stop (λ told is_together. let (text, shelf, shelved, up) = is_together.up refl in
        torn_belongs told text shelf shelved up k m so intended failed.how less beside (labels_failed o' k serial m new failed same_m))
        (λ safe. can_failed serial k failed.block failed.mid new failed.how (still_begun m failed.mid failed.reads (begun_dumps o' k m so)) failed.free (left_name failed.how k) (ap (λ (x : Rack). x.reels) failed.rack) failed.durably
        (λ n apart. inl (survive_reads n m failed.mid failed.reads.durable (blocks_after_reads n m failed.mid failed.reads) (written_dumps o' k m so safe n apart))))
        (λ told text shelf shelved up. torn_exits told text shelf shelved up k m so intended less failed beside (labels_failed o' k serial m new failed same_m))
        (CutDump intended.live (intended.contents ∙ begun_is)
        (reels_read serial (λ r. left_by failed.how k (filled so.written r)) old new (both_at serial (filled so.written) (left_by failed.how k) old new (filled_serial so.written) all)))
        (labels_failed o' k serial m new failed same_m) intended.told intended.causes.size intended.causes.later intended.causes.arms
        (ap (λ (x : Rack). x.arms) failed.rack ∙ failed.reads.arms ∙ so.rack.arms ∙ only.arms) (intended.causes.reads_kept (λ no. no))
        (ap (λ (x : Rack). x.read_faults) failed.rack ∙ failed.kept ∙ so.kept ∙ ready.kept)
        (inr (subst (λ (n : ℕ). Rose n new.write_faults) (failed.reads.write_faults ∙ so.rack.write_faults ∙ only.write_faults) failed.rose, intended.causes.writes_kept (λ no. no)))
    stops (AtCopies begun intended so adopting) =
        let all = become_written begun (needs plan) new so in
        let held = reels_held serial (at_serial serial (filled so.written)) so.written old new (let long = so.long in omega (arith, long))
        (at_name serial (filled so.written) (filled_serial so.written)) (at_this serial (filled so.written)) all in
        a_stop (λ told is_together. let (text, shelf, shelved, up) = is_together.up refl in
        stopped_copies serial o old mid live tied are only rules_are free the_reel.0 the_reel.1 mounted_on room_on readable_are told text shelf shelved up begun (files_at begun intended) (needs plan) new (so_at begun (needs plan) new so)
        (let need = need_is in omega (arith, need)) (whole_by so.written held (labels_written begun (needs plan) new so) told) need_is o' (holds_either begun intended adopting.stopped.holds))
        (λ safe n. inl (moved_dumps begun new so safe n))
        (λ told text shelf shelved up. exit_copies serial o old mid live tied are only rules_are free the_reel.0 the_reel.1 mounted_on room_on readable_are told text shelf shelved up begun (files_at begun intended) (needs plan) new (so_at begun (needs plan) new so)
        (let need = need_is in omega (arith, need)) (whole_by so.written held (labels_written begun (needs plan) new so) told) need_is o'
        (record {
          now = holds_either begun intended adopting.stopped.holds;
          survives = λ is.
              let (disc_safe, left) = adopting.stopped.survives (intended.durable is) in (
                disc_safe,
                λ had at blocks may.
                    let (b, there) = some_of begun.disc.held (intended.told ∙ ap (λ (h : Option (List (List ℕ))). is_some h) at) in
                    holds_either begun intended {held = Some blocks} (λ x is_x. subst (λ (y : List (List ℕ)). Holds y begun.contents ⊎ Holds y (adopted job.number (copies_of job o) begun.contents)) (same_Some blocks x is_x) (left b there blocks may)) blocks refl,
              );
        })
        (λ safe. loss_copies serial o old mid live tied are only rules_are free the_reel.0 the_reel.1 mounted_on room_on readable_are told text shelf shelved up begun (files_at begun intended) (needs plan) new (so_at begun (needs plan) new so)
        need_is (whole_by so.written held (labels_written begun (needs plan) new so) told) (moved_dumps begun new so safe)))
        (CutCopies (holds_either begun intended adopting.stopped.holds)
        (the_dump new begun intended so (λ s k. omega arith) (reels_held serial (at_serial serial (filled so.written)) so.written old new (let long = so.long in omega (arith, long))
        (at_name serial (filled so.written) (filled_serial so.written)) (at_this serial (filled so.written)) all))
        (reels_read serial (filled so.written) old new all)) (labels_written begun (needs plan) new so)
        (adopting.told ∙ intended.told) (adopting.causes.size ∙ intended.causes.size) (then_later intended.causes.later adopting.causes.later) (adopting.causes.arms ∙ intended.causes.arms) (so.rack.arms ∙ only.arms)
        (adopting.causes.reads_kept (λ no. no) ∙ intended.causes.reads_kept (λ no. no)) (so.kept ∙ ready.kept)
        (inl (subst (λ (n : ℕ). Rose n o'.disc.write_faults) (intended.causes.writes_kept (λ no. no)) (adopting.causes.writes_rose refl), so.rack.write_faults ∙ only.write_faults))
    stops (AtRelease m moved cut) =
        let so = moved.written in
        let same_m = labels_written moved.begun (needs plan) m so in
        let same_c = labels_released (taken serial (take cut.place job.lists.items)) m cut.mid cut.before ∙ same_m in
        let first = become_written moved.begun (needs plan) m so in
        let second = becomes_then (at_serial serial (filled so.written)) (released (taken serial (take cut.place job.lists.items))) old m cut.mid first (becomes_released (taken serial (take cut.place job.lists.items)) m cut.mid cut.before) in
        let third = becomes_left cut.list.serial 0 cut.how cut.mid new (apart_by cut.mid same_c) (ap (λ (x : Rack). x.reels) cut.rack) in
        let all = becomes_then (λ r. released (taken serial (take cut.place job.lists.items)) (at_serial serial (filled so.written) r)) (at_serial cut.list.serial (left_by cut.how 0)) old cut.mid new second third in
        let put : HasAdopted job.number (copies_of job o) moved.begun o' = moved.adopted.ok in
        let held = reels_held serial (λ r. at_serial cut.list.serial (left_by cut.how 0) (released (taken serial (take cut.place job.lists.items)) (at_serial serial (filled so.written) r))) so.written old new
        (let long = so.long in omega (arith, long))
        (λ r. at_name cut.list.serial (left_by cut.how 0) (left_name cut.how 0) (released (taken serial (take cut.place job.lists.items)) (at_serial serial (filled so.written) r))
        ∙ released_name (taken serial (take cut.place job.lists.items)) (at_serial serial (filled so.written) r) ∙ at_name serial (filled so.written) (filled_serial so.written) r)
        (held_part serial old mid job.lists.items ready.listed so.written cut.place cut.list cut.how cut.at cut.taken_is) all in
        let same_new = labels_changed cut.list.serial (left_by cut.how 0) (label_left cut.how 0) cut.mid new (ap (λ (x : Rack). x.reels) cut.rack) ∙ same_c in
        a_stop (λ told is_together. let (text, shelf, shelved, up) = is_together.up refl in
        cut_belongs serial o old mid live tied are only rules_are free the_reel.0 the_reel.1 mounted_on room_on readable_are told text shelf shelved up moved.begun (files_at moved.begun moved.intended) (needs plan) m (so_at moved.begun (needs plan) m so)
        (let need = need_is in omega (arith, need)) (whole_by so.written held same_new told) need_is (taken serial (take cut.place job.lists.items)) cut.list.serial cut.how cut.mid new cut.before third same_new
        (never_part cut.place) (cut_apart cut.place cut.list cut.at cut.taken_is) o' tied' put.live (put.contents ∙ moved_is moved.begun moved.intended) put.changed)
        (λ safe. can_failed cut.list.serial 0 zeros cut.mid new cut.how (inl refl) cut.free (left_name cut.how 0) (ap (λ (x : Rack). x.reels) cut.rack) cut.failed
        (λ n apart. inl (survive_released (taken serial (take cut.place job.lists.items)) m cut.mid cut.durably (λ x stays. blocks_stay (taken serial (take cut.place job.lists.items)) x m cut.mid cut.before stays)
        (moved_dumps moved.begun m so safe) n)))
        (λ told text shelf shelved up. exit_cut serial o old mid live tied are only rules_are free the_reel.0 the_reel.1 mounted_on room_on readable_are told text shelf shelved up moved.begun (files_at moved.begun moved.intended) (needs plan) m (so_at moved.begun (needs plan) m so)
        (let need = need_is in omega (arith, need)) (whole_by so.written held same_new told) need_is job.lists.items ready.listed (spent_with o' new) same_new put.live (put.contents ∙ moved_is moved.begun moved.intended) put.changed
        cut.place cut.list cut.at cut.taken_is cut.how cut.mid cut.before third (λ is. put.durable (moved.intended.durable is))
        (λ safe. loss_release serial o old mid live tied are only rules_are free the_reel.0 the_reel.1 mounted_on room_on readable_are told text shelf shelved up moved.begun (files_at moved.begun moved.intended) (needs plan) m (so_at moved.begun (needs plan) m so)
        need_is (whole_by so.written held same_new told) (moved_dumps moved.begun m so safe) job.lists.items ready.listed cut.place cut.list cut.at cut.taken_is cut.mid cut.before
        (survive_released (taken serial (take cut.place job.lists.items)) m cut.mid cut.durably (λ x stays. blocks_stay (taken serial (take cut.place job.lists.items)) x m cut.mid cut.before stays)
        (moved_dumps moved.begun m so safe)) cut.how new (ap (λ (x : Rack). x.reels) cut.rack) cut.failed))
        (CutRelease put.live (put.contents ∙ moved_is moved.begun moved.intended)
        (the_dump m moved.begun moved.intended so
        (λ s k. let one = times_released (taken serial (take cut.place job.lists.items)) m cut.mid cut.before s k in
        let two = times_left cut.list.serial 0 cut.how cut.mid new (ap (λ (x : Rack). x.reels) cut.rack) s k in omega (arith, one, two))
        (reels_held serial (λ r. at_serial cut.list.serial (left_by cut.how 0) (released (taken serial (take cut.place job.lists.items)) (at_serial serial (filled so.written) r))) so.written old new
        (let long = so.long in omega (arith, long))
        (λ r. at_name cut.list.serial (left_by cut.how 0) (left_name cut.how 0) (released (taken serial (take cut.place job.lists.items)) (at_serial serial (filled so.written) r))
        ∙ released_name (taken serial (take cut.place job.lists.items)) (at_serial serial (filled so.written) r) ∙ at_name serial (filled so.written) (filled_serial so.written) r)
        (held_part serial old mid job.lists.items ready.listed so.written cut.place cut.list cut.how cut.at cut.taken_is) all))
        (reels_part serial old mid job.lists.items ready.listed so.written cut.place cut.list cut.how new cut.at cut.taken_is all))
        (labels_changed cut.list.serial (left_by cut.how 0) (label_left cut.how 0) cut.mid new (ap (λ (x : Rack). x.reels) cut.rack) ∙ same_c)
        (moved.adopted.told ∙ moved.intended.told) (moved.adopted.causes.size ∙ moved.intended.causes.size) (then_later moved.intended.causes.later moved.adopted.causes.later) (moved.adopted.causes.arms ∙ moved.intended.causes.arms)
        (ap (λ (x : Rack). x.arms) cut.rack ∙ ap (λ (x : Rack). x.arms) cut.before ∙ so.rack.arms ∙ only.arms)
        (moved.adopted.causes.reads_kept (λ no. no) ∙ moved.intended.causes.reads_kept (λ no. no))
        (ap (λ (x : Rack). x.read_faults) cut.rack ∙ ap (λ (x : Rack). x.read_faults) cut.before ∙ so.kept ∙ ready.kept)
        (inr (
          subst (λ (n : ℕ). Rose n new.write_faults) (ap (λ (x : Rack). x.write_faults) cut.before ∙ so.rack.write_faults ∙ only.write_faults) cut.rose,
          moved.adopted.causes.writes_kept (λ e. let no : ⊥ = cc in no) ∙ moved.intended.causes.writes_kept (λ no. no),
        ))

    pub carried : (number : ℕ) → (let r : Result ℕ StoreFault = Ok number in CarriesOut job o mid r o' new) → (let r : Result ℕ StoreFault = Ok number in Processes serial was r (up_with o' new None))
    carried number (named, m, moved, gone, durably) =
        let so = moved.written in
        let same_m = labels_written moved.begun (needs plan) m so in
        let same_new = labels_released (taken serial job.lists.items) m new gone ∙ same_m in
        let first = become_written moved.begun (needs plan) m so in
        let all = becomes_then (at_serial serial (filled so.written)) (released (taken serial job.lists.items)) old m new first (becomes_released (taken serial job.lists.items) m new gone) in
        let put : HasAdopted job.number (copies_of job o) moved.begun o' = moved.adopted.ok in
        let need : needs plan ≡ needs (process_plan serial o) = ap needs ready.plan in
        record {
          refused = never_refused (Ok number) (up_with o' new None);
          granted = λ _. tt;
          same = tt;
          taken = λ n e. absurd (let no : ⊥ = cc in no);
          lost = λ full n e. absurd (let no : ⊥ = cc in no);
          full = λ need room e. absurd (let no : ⊥ = cc in no);
          done = record {
            number_is = named ∙ ready.may.number_is;
            contents = put.contents ∙ moved_is moved.begun moved.intended;
            changed = put.changed;
            free = free;
            fits = λ r at.
                let (q, found, same) = after_reads (reel serial mid.reels) (reel serial old.reels) r at (reel_after_reads serial old mid only) in
                let this : q ≡ ready.may.writable.on = same_Some q ready.may.writable.on (sym found ∙ ready.may.writable.reel_is) in
                let room = ready.may.writable.room in
                let capacity : ready.may.writable.on.capacity ≡ r.capacity = ap (λ (x : Reel). x.capacity) (sym this) ∙ ap (λ (x : Reel). x.capacity) same in
                omega (arith, room, capacity, need);
            dump = the_dump m moved.begun moved.intended so (times_released (taken serial job.lists.items) m new gone)
                (reels_held serial (λ r. released (taken serial job.lists.items) (at_serial serial (filled so.written) r)) so.written old new (let long = so.long in omega (arith, long))
                (λ r. released_name (taken serial job.lists.items) (at_serial serial (filled so.written) r) ∙ at_name serial (filled so.written) (filled_serial so.written) r)
                (held_left serial old mid job.lists.items ready.listed so.written) all);
            others = other_reels (needs (process_plan serial o)) (reels_left serial old mid job.lists.items ready.listed so.written (needs (process_plan serial o)) new (so.long ∙ need) (omega arith) all) same_new;
            reels = reels_left serial old mid job.lists.items ready.listed so.written (needs (process_plan serial o)) new (so.long ∙ need) (omega arith) all;
            read = λ k d within. read_all m moved.begun moved.intended so gone (get_or o.contents.files k d) (Contains-get_or o.contents.files k d within);
          };
          cause = record {
            size = moved.adopted.causes.size ∙ moved.intended.causes.size;
            later = then_later moved.intended.causes.later moved.adopted.causes.later;
            reels = zip_labels old.reels new.reels same_new;
            disc_arms = moved.adopted.causes.arms ∙ moved.intended.causes.arms;
            tape_arms = ap (λ (x : Rack). x.arms) gone ∙ so.rack.arms ∙ only.arms;
            disc_read = λ e. absurd (let no : ⊥ = cc in no);
            disc_read_only = λ _. moved.adopted.causes.reads_kept (λ no. no) ∙ moved.intended.causes.reads_kept (λ no. no);
            tape_read = λ e. absurd (let no : ⊥ = cc in no);
            tape_read_only = λ _. ap (λ (x : Rack). x.read_faults) gone ∙ so.kept ∙ ready.kept;
            cut = λ e. absurd (let no : ⊥ = cc in no);
            uncut = λ _. (moved.adopted.causes.writes_kept (λ e. let no : ⊥ = cc in no) ∙ moved.intended.causes.writes_kept (λ no. no), ap (λ (x : Rack). x.write_faults) gone ∙ so.rack.write_faults ∙ only.write_faults);
          };
          wrote = record {
            blocks = moved.intended.blocks + put.blocks;
            commits = two_commits o.layout moved.begun.layout o'.layout moved.intended.blocks put.blocks moved.intended.commits put.commits;
            writes = two_rise moved.intended.blocks put.blocks o.disc.writes moved.begun.disc.writes o'.disc.writes moved.intended.writes put.writes;
          };
          keeps = store_up o' new put.live put.pins tied';
          told = told_by o' new (moved.adopted.told ∙ moved.intended.told) same_new;
          belongs = λ told is_together.
              let (text, shelf, shelved, up) = is_together.up refl in
              processed_belongs serial o old mid live tied are only rules_are free the_reel.0 the_reel.1 mounted_on room_on readable_are told text shelf shelved up moved.begun (files_at moved.begun moved.intended) (needs plan) m (so_at moved.begun (needs plan) m so)
              (let e = need_is in omega (arith, e)) (whole_by so.written (reels_held serial (λ r. released (taken serial job.lists.items) (at_serial serial (filled so.written) r)) so.written old new (let long = so.long in omega (arith, long))
              (λ r. released_name (taken serial job.lists.items) (at_serial serial (filled so.written) r) ∙ at_name serial (filled so.written) (filled_serial so.written) r)
              (held_left serial old mid job.lists.items ready.listed so.written) all) same_new told) need_is (taken serial job.lists.items) new gone same_new never_all o' tied' put.live
              (put.contents ∙ moved_is moved.begun moved.intended) put.changed;
          durable = λ unspent is. put.durable (moved.intended.durable is);
          exit = λ told text shelf shelved up unspent. (
            named ∙ ready.may.number_is,
            exit_done serial o old mid live tied are only rules_are free the_reel.0 the_reel.1 mounted_on room_on readable_are told text shelf shelved up moved.begun (files_at moved.begun moved.intended) (needs plan) m (so_at moved.begun (needs plan) m so)
                (let e = need_is in omega (arith, e)) (whole_by so.written (reels_held serial (λ r. released (taken serial job.lists.items) (at_serial serial (filled so.written) r)) so.written old new (let long = so.long in omega (arith, long))
                (λ r. released_name (taken serial job.lists.items) (at_serial serial (filled so.written) r) ∙ at_name serial (filled so.written) (filled_serial so.written) r)
                (held_left serial old mid job.lists.items ready.listed so.written) all) same_new told) need_is job.lists.items ready.listed (up_with o' new None) same_new put.live
                (put.contents ∙ moved_is moved.begun moved.intended) put.changed gone,
          );
          spent = (λ e. absurd (let no : ⊥ = cc in no), λ e. absurd (let no : ⊥ = cc in no));
          dump = λ _. refl;
          dumps = λ told is_together safe.
              safe_up o' new (survive_released (taken serial job.lists.items) m new durably (λ n stays. blocks_stay (taken serial job.lists.items) n m new gone stays) (moved_dumps moved.begun m so safe));
        }

    -- for any outcome of the job
    pub answered : (answer : Result ℕ StoreFault) → CarriesOut job o mid answer o' new → Processes serial was answer (behind_process answer o' new)
    answered (Ok number) done = carried number done
    answered (Err Stopped) stopped = stops stopped
    answered (Err DiscReadFault) fails = fails_disc fails.begun fails.at fails.mid fails.less fails.intended fails.written fails.fails
    answered (Err TapeReadFault) fails = fails_tape fails.begun fails.at fails.mid fails.less fails.intended fails.written fails.fails
    answered (Err fault) fails = absurd fails.fails

-- THE EVENT
pub prepared_then : (at : ℕ) (job : Job) (o : OnlineFacts) (old mid : Rack) (live : o.live ≡ true) (pins : o.pins ≡ None) (tied : IsTied o) (are : AreReels old.reels) (only : OnlyReads old mid)
    → (let r : Result Job StoreFault = Ok job in Preparing at o old r mid) → (o' : OnlineFacts) (new : Rack) (tied' : IsTied o') (are_new : AreReels new.reels) (answer : Result ℕ StoreFault)
    → CarriesOut job o mid answer o' new → Processes at (up_with o old None) answer (behind_process answer o' new)
prepared_then at job o old mid live pins tied are only (granted, ready) o' new tied' are_new answer done =
    subst (λ (n : ℕ). Processes n (up_with o old None) answer (behind_process answer o' new)) ready.serial_is
    (answered job o old mid live pins tied are only (subst (λ (n : ℕ). IsGranted n o old) (sym ready.serial_is) granted)
    (subst (λ (n : ℕ). IsPrepared n o old mid job) (sym ready.serial_is) ready) o' new tied' are_new answer done)

pub refused_then : (serial : ℕ) (o : OnlineFacts) (old mid : Rack) (live : o.live ≡ true) (pins : o.pins ≡ None) (tied : IsTied o) (only : OnlyReads old mid) (fault : StoreFault)
    → (let r : Result Job StoreFault = Err fault in Preparing serial o old r mid) → (let r : Result ℕ StoreFault = Err fault in Processes serial (up_with o old None) r (behind_process r o mid))
refused_then serial o old mid live pins tied only fault (inl (is, same)) =
    subst (λ (x : Rack). let r : Result ℕ StoreFault = Err fault in Processes serial (up_with o old None) r (behind_process r o x)) (sym same)
    (refuses_early serial o old mid live pins tied only fault is)
refused_then serial o old mid live pins tied only fault (inr (granted, late)) = refuses_late serial o old mid live pins tied only granted fault late

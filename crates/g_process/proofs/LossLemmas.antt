-- What a power loss leaves of the reels when PROCESS stops at a write of tape.
-- serves: AnswerLemmas, crates above
use Rattle.std.proofs.Common.{◌≡◌, ◌≢◌, ℕ, ◌+◌, ◌<◌, ◌≤◌, ◌==◌, Bool, true, false, List, [], ◌∷◌, ◌++◌, length, take, Option, Some, None, Err, refl, sym, ◌∙◌, ap, arith, subst, inl, inr, option_map, slice_get, if◌then◌else◌}
use Rattle.std.specs.Prelude.{◌⊎◌, ◌&&◌, All, is_some, map, nat_lt, not}
use Rattle.std.specs.Option.{ForSome}
use Rattle.std.proofs.lemmas.Bool.{cases_Bool, cases_order, lt-ltb, ltb-true, ne_eqb}
use Rattle.std.proofs.lemmas.Option.{none-some, same_Some}
use Rattle.g_base.specs.Block.{IsBlock}
use Rattle.g_entry.specs.declared.file_rec.FileRec.{FileRec}
use Rattle.g_tape.specs.declared.fault.TapeFault.TheVariants.{WriteFailed}
use Rattle.g_tape.specs.Durable.{MayBeBegun, WritesDurably}
use Rattle.g_tape.specs.Rack.{AreReels, Rack, changed, reel}
use Rattle.g_tape.specs.Reads.{MayLeave, OnlyReads, blocks_in, blocks_of, unread}
use Rattle.g_tape.specs.Reel.{Reel, Remains, Shortened, Torn, Unchanged, left_by}
use Rattle.g_tape.specs.Risk.{IsSynced}
use Rattle.g_tape.proofs.ReadLemmas.{blocks_after_reads, reel-with_reel}
use Rattle.g_plain.proofs.Found.{some_of}
use Rattle.g_disc_contents.specs.Contents.{Contents, Holds}
use Rattle.g_disc_contents.specs.Facts.{IsTied, OnlineFacts}
use Rattle.g_incr.specs.Layout.{Dump, count_of, dump_blocks, mark_block}
use Rattle.g_incr.specs.Plan.{IsAway, IsPlan, IsReadyAt, Plan, content_blocks, dump_of, first_content, needs, waiting}
use Rattle.g_incr.proofs.PieceLemmas.{at_mark}
use Rattle.g_incr.proofs.PlanLemmas.{length-made}
use Rattle.g_known.specs.ReelNotes.{AreListed}
use Rattle.g_shelf.specs.CompletedDumps.{AreCompleted, AreShelved}
use Rattle.g_shelf.specs.declared.rack.Listed.{Listed}
use Rattle.g_shelf.specs.QuietWrites.{IsBegun, left_in}
use Rattle.g_shelf.specs.Surviving.{DumpsSurvive, IsBegunDurably}
use Rattle.g_shelf.proofs.SurvivalLemmas.{front_stays, mark_synced, other_survives}
use Rattle.g_shelf.proofs.SurvivingLemmas.{all_but_the_mark, begun_reads, front_left}
use Rattle.g_laws_store.proofs.ReleaseLemmas.{one_block_is_none}
use Rattle.g_laws_store.proofs.TiedLemmas.{durable_is_safe, holds_after_loss, holds_now}
use Rattle.g_store_meaning.specs.Meaning.{told_reels}
use Rattle.g_store_meaning.specs.Reading.{AllTold}
use Rattle.g_store_meaning.specs.StoreInvariant.{IsUp, StoreFacts, with_dump}
use Rattle.g_store_meaning.specs.Surviving.{PowerLossLeavesDumps, PowerLossLeavesEither}
use Rattle.g_dumper.proofs.SafeLemmas.{left_shelved, shelved_at}
use Rattle.g_dumper.specs.Invariant.{up_with}
use Rattle.g_process.specs.Exits.{cleared}
use Rattle.g_process.specs.PowerLosses.{LeavesOnDisc, StaysDurable}
use Rattle.g_process.specs.ProcessPlan.{IsFree, process_plan, versions}
use Rattle.g_process.specs.Progress.{AreReadable, HasWritten, IsBlockOf}
use Rattle.g_process.specs.Releases.{AreReleased, is_taken, taken, zeros}
use Rattle.g_process.proofs.BecomeLemmas.{labels_released, left_name, same_serials}
use Rattle.g_process.proofs.BelongLemmas.{without_all}
use Rattle.g_process.proofs.ContentLemmas.{within_content}
use Rattle.g_process.proofs.DumpLemmas.{begun, content_is_long, content_of}
use Rattle.g_process.proofs.DurableLemmas.{other_blocks}
use Rattle.g_process.proofs.EndLemmas.{l_taken, part_below, part_free}
use Rattle.g_process.proofs.ExitLemmas.{cleared_same, header, its_reel, labels_w, none_at, none_here, others_keep, process_away, quiet_m, shelved_released, shelved_same, shelved_with}
use Rattle.g_process.proofs.SafeLemmas.{each_reel, filled_blocks, get_first}
use Rattle.g_process.proofs.WholeLemmas.{none_short}

-- WHERE THE DUMPS SURVIVE, they are what is left
pub leaves_shelf : (shelf : ℕ → List Dump) (rack : Rack) → AreShelved shelf (told_reels rack) → ((n : ℕ) → DumpsSurvive n rack) → (n : ℕ) → PowerLossLeavesDumps n rack (shelf n)
leaves_shelf shelf rack shelved survive n = left_shelved n rack shelf shelved (survive n)

pub either_left : (n : ℕ) (rack : Rack) (one other : List Dump) → PowerLossLeavesDumps n rack one → PowerLossLeavesEither n rack one other
either_left n rack one other leaves blocks at left may = inl (leaves blocks at left may)

pub or_left : (n : ℕ) (rack : Rack) (one other : List Dump) → PowerLossLeavesDumps n rack other → PowerLossLeavesEither n rack one other
or_left n rack one other leaves blocks at left may = inr (leaves blocks at left may)

-- A FAILED WRITE of block k: what its reel had
exposed_before : (how : Remains) (k : ℕ) (o : Option Reel) (blocks : List (List ℕ)) → blocks_in (option_map (left_by how k) o) ≡ Some blocks → (was : List (List ℕ)) × (blocks_in o ≡ Some was) × (left_in how k was ≡ blocks)
exposed_before how k None blocks at = absurd (none-some blocks at)
exposed_before how k (Some r) blocks at = by how r.blocks refl at
  where
    by : (how : Remains) (x : Option (List (List ℕ))) → r.blocks ≡ x → (left_by how k r).blocks ≡ Some blocks → (was : List (List ℕ)) × (blocks_in (Some r) ≡ Some was) × (left_in how k was ≡ blocks)
    by Unchanged None is at = absurd (none-some blocks (sym is ∙ at))
    by Unchanged (Some was) is at = (was, is, same_Some was blocks (sym is ∙ at))
    by Shortened None is at = absurd (none-some blocks (sym (ap (option_map (take k)) is) ∙ at))
    by Shortened (Some was) is at = (was, is, same_Some (take k was) blocks (sym (ap (option_map (take k)) is) ∙ at))
    by (Torn t) None is at = absurd (none-some blocks (sym (ap (option_map (λ (z : List (List ℕ)). take k z ++ t ∷ [])) is) ∙ at))
    by (Torn t) (Some was) is at = (was, is, same_Some (take k was ++ t ∷ []) blocks (sym (ap (option_map (λ (z : List (List ℕ)). take k z ++ t ∷ [])) is) ∙ at))

module _ (s k : ℕ) (block : List ℕ) (how : Remains) (x new : Rack) (reels_are : new.reels ≡ (changed s (left_by how k) x).reels) (failed : WritesDurably s k block x (Err WriteFailed) new) (survive : (n : ℕ) → DumpsSurvive n x) where
  had : (blocks : List (List ℕ)) → blocks_of s new ≡ Some blocks → (was : List (List ℕ)) × (blocks_of s x ≡ Some was) × (left_in how k was ≡ blocks)
  had blocks at = exposed_before how k (reel s x.reels) blocks (sym (ap (λ (rs : List Reel). blocks_in (reel s rs)) reels_are ∙ ap blocks_in (reel-with_reel s (left_by how k) (left_name how k) x.reels)) ∙ at)

  -- the other reels keep their dumps
  pub theirs_left : (n : ℕ) (ds : List Dump) → (n ≡ s → ⊥) → ForSome (blocks_of n x) (λ blocks. AreCompleted n blocks ds) → PowerLossLeavesDumps n new ds
  theirs_left n ds apart completed blocks at =
      let same = other_blocks n s (left_by how k) (left_name how k) apart x new reels_are in
      other_survives n x new (failed.others n apart) same (survive n) blocks at ds (completed blocks (sym same ∙ at)) blocks at

  -- this one may keep them, if that write left nothing
  kept_left : (ds : List Dump) (was left : List (List ℕ)) → blocks_of s x ≡ Some was → AreCompleted s was ds → MayLeave s x left → AreCompleted s left ds
  kept_left ds was left at completed may = survive s was at ds completed was at left (may was at)

  -- A RELEASE, which writes block 0: its reel has its dumps or none
  pub release_left : k ≡ 0 → (ds : List Dump) → ForSome (blocks_of s x) (λ blocks. AreCompleted s blocks ds) → PowerLossLeavesEither s new ds []
  release_left first ds completed blocks at left leaves = by (had blocks at) (failed.failed blocks at left leaves)
    where
      by : (was : List (List ℕ)) × (blocks_of s x ≡ Some was) × (left_in how k was ≡ blocks) → MayLeave s x left ⊎ MayBeBegun s k block x left → AreCompleted s left ds ⊎ AreCompleted s left []
      by (was, there, same) (inl may) = inl (kept_left ds was left there (completed was there) may)
      by (was, there, same) (inr more) = inr (one_block_is_none s left (let short = more.short in omega (arith, short, first)))

  -- A BLOCK OF THE DUMP, on a reel without dumps
  module _ (p : Plan) (w : List (List ℕ)) (rules : IsPlan p) (away : IsAway p) (named : p.serial ≡ s) (place : p.place ≡ 0) (long : length w ≡ k) (first : (b : List ℕ) → slice_get w 0 ≡ Some b → IsReadyAt p 0 b)
      (there : 0 < k → ForSome (blocks_of s x) (λ blocks. blocks ≡ w)) (none : ForSome (blocks_of s x) (λ blocks. AreCompleted s blocks [])) (begun : 0 < k → IsBegunDurably s 0 k x) where
    -- before its mark: the header is durable, or at most one block is left
    pub before_left : k + 1 < needs p → PowerLossLeavesDumps s new []
    before_left less blocks at left leaves = by (had blocks at) (failed.failed blocks at left leaves)
      where
        begun_left : (was : List (List ℕ)) → blocks_of s x ≡ Some was → left_in how k was ≡ blocks → MayBeBegun s k block x left → (v : List (List ℕ)) → v ≡ w → AreCompleted s left []
        begun_left was here same more [] is =
            let none_long : k ≡ 0 = sym long ∙ ap (λ (y : List (List ℕ)). length y) (sym is) in
            one_block_is_none s left (let short = more.short in omega (arith, short, none_long))
        begun_left was here same more (b ∷ bs) is =
            let some : 0 < k = (let e = long in let f = ap (λ (y : List (List ℕ)). length y) is in omega (arith, e, f)) in
            let was_is : was ≡ w = there some was here in
            let at_first : slice_get w 0 ≡ Some b = ap (λ (y : List (List ℕ)). slice_get y 0) (sym is) in
            let durable = failed.front 1 (omega (arith, some)) (begun some).header in
            let size : k ≤ length was = (let e = long in let f = ap (λ (y : List (List ℕ)). length y) was_is in omega (arith, e, f)) in
            let front : take 1 left ≡ take 1 w =
            front_left 1 s new blocks left at durable leaves ∙ ap (take 1) (sym same) ∙ front_stays 1 k how was (omega (arith, some)) size ∙ ap (take 1) was_is in
            none_short s p rules away named place left b (get_first left w b front at_first) (first b at_first) (let short = more.short in omega (arith, short, less))

        by : (was : List (List ℕ)) × (blocks_of s x ≡ Some was) × (left_in how k was ≡ blocks) → MayLeave s x left ⊎ MayBeBegun s k block x left → AreCompleted s left []
        by (was, here, same) (inl may) = kept_left [] was left here (none was here) may
        by (was, here, same) (inr more) = begun_left was here same more w refl

    -- at its mark: it is completed, or none is
    pub mark_left : (d : Dump) → IsBegun s w [] (count_of d + 1) d → d.place + (count_of d + 1) ≡ k → 0 < k → IsSynced k block → PowerLossLeavesEither s new [] (d ∷ [])
    mark_left d whole at_k some synced blocks at left leaves = by (had blocks at) (failed.failed blocks at left leaves)
      where
        by : (was : List (List ℕ)) × (blocks_of s x ≡ Some was) × (left_in how k was ≡ blocks) → MayLeave s x left ⊎ MayBeBegun s k block x left → AreCompleted s left [] ⊎ AreCompleted s left (d ∷ [])
        by (was, here, same) (inl may) = inl (kept_left [] was left here (none was here) may)
        by (was, here, same) (inr more) =
            let was_is : was ≡ w = there some was here in
            let front : take k left ≡ take k w = more.synced synced (inl (begun some).syncable) was here ∙ ap (take k) was_is in
            all_but_the_mark s w left [] d (subst (λ (y : List (List ℕ)). AreCompleted s y []) was_is (none was here)) whole
            (subst (λ (n : ℕ). take n left ≡ take n w) (sym at_k) front) (let short = more.short in omega (arith, short, at_k))

-- THE LAST BLOCK OF THE DUMP is its mark, which is synced
pub last_is_mark : (p : Plan) (rs : List FileRec) (o : OnlineFacts) (old new : Rack) (k : ℕ) (block : List ℕ) (content : List (List ℕ)) → length content ≡ content_blocks p → k + 1 ≡ needs p
    → IsBlockOf p rs o old new k block → IsSynced k block
last_is_mark p rs o old new k block content long last (inl ready) =
    let d : Dump = dump_of p content in
    let files = length-made p.serial 0 (first_content p) p.files in
    let at : k ≡ count_of d + 1 = omega (arith, long, files, last) in
    let mark : slice_get (dump_blocks d) k ≡ Some (mark_block d) = at_mark d k at in
    subst (IsSynced k) (same_Some (mark_block d) block (sym mark ∙ ready.is content long)) (mark_synced k d)
last_is_mark p rs o old new k block content long last (inr (i, part, r, there, stands, source)) =
    let low = within_content (waiting p.files) i part stands.version stands.there stands.within in
    let at = stands.at in
    absurd (let no : ⊥ = omega (arith, low, at, last) in no)

-- RELEASES UP TO A REEL, and with it
not_below : (a b : ℕ) → b ≤ a → nat_lt a b ≡ false
not_below a b most = by (cases_Bool (nat_lt a b))
  where
    by : (nat_lt a b ≡ true) ⊎ (nat_lt a b ≡ false) → nat_lt a b ≡ false
    by (inl is) = absurd (let less = ltb-true a b is in let no : ⊥ = omega (arith, less, most) in no)
    by (inr isnt) = isnt

pub cleared_at : (serial last : ℕ) (shelf : ℕ → List Dump) → last ≢ serial → cleared serial last shelf last ≡ shelf last
cleared_at serial last shelf apart = ap (λ (b : Bool). if b && not (last == serial) then [] else shelf last) (not_below last last (omega arith))

pub cleared_past : (serial last : ℕ) (shelf : ℕ → List Dump) → last ≢ serial → cleared serial (last + 1) shelf last ≡ []
cleared_past serial last shelf apart =
    ap (λ (b : Bool). if b && not (last == serial) then [] else shelf last) (lt-ltb last (last + 1) (omega arith))
    ∙ ap (λ (b : Bool). if not b then [] else shelf last) (ne_eqb last serial apart)

pub cleared_beside : (serial last n : ℕ) (shelf : ℕ → List Dump) → n ≢ last → cleared serial (last + 1) shelf n ≡ cleared serial last shelf n
cleared_beside serial last n shelf apart = by (cases_order n last)
  where
    below : n < last → cleared serial (last + 1) shelf n ≡ cleared serial last shelf n
    below less =
        ap (λ (b : Bool). if b && not (n == serial) then [] else shelf n) (lt-ltb n (last + 1) (omega (arith, less)) ∙ sym (lt-ltb n last less))

    by : (n ≡ last) ⊎ ((n < last) ⊎ (last < n)) → cleared serial (last + 1) shelf n ≡ cleared serial last shelf n
    by (inl same) = absurd (apart same)
    by (inr (inl less)) = below less
    by (inr (inr more)) = ap (λ (b : Bool). if b && not (n == serial) then [] else shelf n) (not_below n (last + 1) (omega (arith, more)) ∙ sym (not_below n last (omega (arith, more))))

-- A STORE WHOSE LIVE BLOCKS ARE DURABLE leaves what it holds
pub live_leaves : (c : Contents) (old new : StoreFacts) → IsTied new.online → new.online.live ≡ true → new.online.contents ≡ c → is_some new.online.disc.held ≡ is_some old.online.disc.held → StaysDurable old new
    → LeavesOnDisc (λ blocks. Holds blocks c) old new
live_leaves c old new tied live are told durable = record {
  now = λ blocks at. subst (Holds blocks) are (holds_now new.online tied live blocks at);
  survives = λ is. (
    durable_is_safe new.online tied live (durable is),
    λ had at left may.
        let (blocks, there) = some_of new.online.disc.held (told ∙ ap (λ (h : Option (List (List ℕ))). is_some h) at) in
        subst (Holds left) are (holds_after_loss new.online tied live (durable is) blocks there left may),
  );
}

-- THE STOPS OF PROCESS
module _ (serial : ℕ) (o : OnlineFacts) (old mid : Rack) (live : o.live ≡ true) (tied : IsTied o) (are : AreReels old.reels) (only : OnlyReads old mid) (rules : IsPlan (process_plan serial o)) (free : IsFree serial old)
    (on : Reel) (on_is : reel serial old.reels ≡ Some on) (mounted : on.mounted ≡ true) (room : needs (process_plan serial o) ≤ on.capacity) (readable : AreReadable serial (process_plan serial o) (versions o.contents) o mid)
    (told : AllTold o.disc.held (told_reels old)) (text : ℕ → List ℕ) (shelf : ℕ → List Dump) (shelved : AreShelved shelf (told_reels old)) (up : IsUp text shelf (up_with o old None)) where
  abbrev plan : Plan
  plan = process_plan serial o

  abbrev rs : List FileRec
  rs = versions o.contents

  no_dumps : shelf serial ≡ []
  no_dumps = none_here serial o old mid live tied are only rules free on on_is mounted room readable told text shelf shelved up

  -- at the intent
  pub loss_intent : (new : Rack) → map unread new.reels ≡ map unread old.reels → ((n : ℕ) → DumpsSurvive n new) → (n : ℕ) → PowerLossLeavesDumps n new (shelf n)
  loss_intent new same survive = leaves_shelf shelf new (subst (AreShelved shelf) (sym same) shelved) survive

  module _ (begun_o : OnlineFacts) (files : begun_o.contents.files ≡ o.contents.files) (k : ℕ) (m : Rack) (so : HasWritten serial plan rs begun_o k mid m) where
    -- at a block
    module _ (less : k < needs plan) (x new : Rack) (reads : OnlyReads m x) (how : Remains) (block : List ℕ) (is_block : IsBlockOf plan rs begun_o m x k block)
        (reels_are : new.reels ≡ (changed serial (left_by how k) x).reels) (failed : WritesDurably serial k block x (Err WriteFailed) new) (survive : (n : ℕ) → DumpsSurvive n x) where
      shelved_x : AreShelved shelf (told_reels x)
      shelved_x = subst (AreShelved shelf) (sym reads.reels) (quiet_m serial o old mid live tied are only rules free on on_is mounted room readable told text shelf shelved up begun_o files k m so less)

      theirs : (n : ℕ) → (n ≡ serial → ⊥) → PowerLossLeavesDumps n new (shelf n)
      theirs n apart = theirs_left serial k block how x new reels_are failed survive n (shelf n) apart (λ blocks at. shelved_at n x shelf blocks shelved_x at)

      none_x : ForSome (blocks_of serial x) (λ blocks. AreCompleted serial blocks [])
      none_x blocks at = subst (AreCompleted serial blocks) no_dumps (shelved_at serial x shelf blocks shelved_x at)

      some_written : 0 < k → 0 < length so.written
      some_written some = let long = so.long in omega (arith, some, long)

      there : 0 < k → ForSome (blocks_of serial x) (λ blocks. blocks ≡ so.written)
      there some blocks at = filled_blocks serial so.written mid m (some_written some) so.rack blocks (sym (blocks_after_reads serial m x reads) ∙ at)

      begun_x : 0 < k → IsBegunDurably serial 0 k x
      begun_x some =
          subst (λ (n : ℕ). IsBegunDurably serial 0 n x) so.long
          (begun_reads serial 0 (length so.written) m x reads.durable (blocks_after_reads serial m x reads) (so.durably.some (some_written some)))

      first : (b : List ℕ) → slice_get so.written 0 ≡ Some b → IsReadyAt plan 0 b
      first = header serial o old mid live tied are only rules free on on_is mounted room readable told text shelf shelved up begun_o files k m so

      pub loss_before : k + 1 < needs plan → (n : ℕ) → PowerLossLeavesDumps n new (shelf n)
      loss_before early =
          each_reel serial (λ n. PowerLossLeavesDumps n new (shelf n))
          (subst (PowerLossLeavesDumps serial new) (sym no_dumps)
          (before_left serial k block how x new reels_are failed survive plan so.written rules (process_away serial o) refl refl so.long first there none_x begun_x early)) theirs

      abbrev made : Dump
      made = dump_of plan (content_of plan so.written)

      abbrev with_it : ℕ → List Dump
      with_it = with_dump (dump_of plan (content_of plan so.written)) shelf

      pub loss_mark : All IsBlock so.written → k + 1 ≡ needs plan → (n : ℕ) → PowerLossLeavesEither n new (shelf n) (with_it n)
      loss_mark whole last = each_reel serial (λ n. PowerLossLeavesEither n new (shelf n) (with_it n)) here beside
        where
          enough : needs plan ≤ k + 1
          enough = omega (arith, last)

          long_content : length (content_of plan so.written) ≡ content_blocks plan
          long_content = content_is_long serial plan rs begun_o mid m rules (process_away serial o) k enough so

          at_k : 0 + (count_of made + 1) ≡ k
          at_k =
              let long = long_content in
              let files_long = length-made serial 0 (first_content plan) plan.files in
              omega (arith, last, long, files_long)

          here : PowerLossLeavesEither serial new (shelf serial) (with_it serial)
          here =
              subst (λ (ds : List Dump). PowerLossLeavesEither serial new ds (with_it serial)) (sym no_dumps)
              (subst (λ (ds : List Dump). PowerLossLeavesEither serial new [] ds)
              (sym (its_reel serial o old mid live tied are only rules free on on_is mounted room readable told text shelf shelved up begun_o files k m so enough whole))
              (mark_left serial k block how x new reels_are failed survive plan so.written rules (process_away serial o) refl refl so.long first there none_x begun_x made
              (begun serial plan rs begun_o mid m rules (process_away serial o) k enough so whole last refl refl) at_k (let e = at_k in omega (arith, e))
              (last_is_mark plan rs begun_o m x k block (content_of plan so.written) long_content last is_block)))

          beside : (n : ℕ) → (n ≡ serial → ⊥) → PowerLossLeavesEither n new (shelf n) (with_it n)
          beside n apart = either_left n new (shelf n) (with_it n) (theirs n apart)

    -- at the new copies, and at a release
    module _ (all : k ≡ needs plan) (whole : All IsBlock so.written) (survive : (n : ℕ) → DumpsSurvive n m) where
      abbrev enough : needs plan ≤ k + 1
      enough = omega (arith, all)

      abbrev with_new : ℕ → List Dump
      with_new = with_dump (dump_of plan (content_of plan so.written)) shelf

      shelved_m : AreShelved with_new (told_reels m)
      shelved_m = shelved_with serial o old mid live tied are only rules free on on_is mounted room readable told text shelf shelved up begun_o files k m so enough whole all

      pub loss_copies : (n : ℕ) → PowerLossLeavesDumps n m (with_new n)
      loss_copies = leaves_shelf with_new m shelved_m survive

      -- the releases before it are durable
      module _ (lists : List Listed) (listed : AreListed old lists) (i : ℕ) (l : Listed) (at : slice_get lists i ≡ Some l) (taken_l : is_taken serial l ≡ true) (x : Rack) (gone : AreReleased (taken serial (take i lists)) m x)
          (survive_x : (n : ℕ) → DumpsSurvive n x) (how : Remains) (new : Rack) (reels_are : new.reels ≡ (changed l.serial (left_by how 0) x).reels)
          (failed : WritesDurably l.serial 0 zeros x (Err WriteFailed) new) where
        abbrev before : List ℕ
        before = taken serial (take i lists)

        apart_l : l.serial ≢ serial
        apart_l = (l_taken serial old mid lists listed are i l at taken_l).1

        -- what the reels had before the failed release
        shelved_gone : AreShelved (cleared serial l.serial with_new) (told_reels x)
        shelved_gone =
            shelved_same old x (without_all before with_new) (cleared serial l.serial with_new) (same_serials old.reels x.reels (labels_released before m x gone ∙ labels_w serial o old mid live tied are only rules free on on_is mounted room readable told text shelf shelved up begun_o files k m so))
            (λ r there. cleared_same before serial l.serial with_new r.serial (part_below serial old mid lists listed are i l at taken_l r.serial)
            (λ less apart isnt.
            others_keep serial o old mid live tied are only rules free on on_is mounted room readable told text shelf shelved up begun_o files k m so enough whole r.serial apart
            ∙ none_at serial o old mid live tied are only rules free on on_is mounted room readable told text shelf shelved up r there (part_free serial old mid lists listed are i l at taken_l r there less apart isnt)))
            (shelved_released before m x with_new gone shelved_m)

        had_x : (n : ℕ) → ForSome (blocks_of n x) (λ blocks. AreCompleted n blocks (cleared serial l.serial with_new n))
        had_x n blocks here = shelved_at n x (cleared serial l.serial with_new) blocks shelved_gone here

        this : PowerLossLeavesEither l.serial new (cleared serial l.serial with_new l.serial) (cleared serial (l.serial + 1) with_new l.serial)
        this = subst (PowerLossLeavesEither l.serial new (cleared serial l.serial with_new l.serial)) (sym (cleared_past serial l.serial with_new apart_l))
            (release_left l.serial 0 zeros how x new reels_are failed survive_x refl (cleared serial l.serial with_new l.serial) (had_x l.serial))

        those : (n : ℕ) → (n ≡ l.serial → ⊥) → PowerLossLeavesEither n new (cleared serial l.serial with_new n) (cleared serial (l.serial + 1) with_new n)
        those n apart = either_left n new (cleared serial l.serial with_new n) (cleared serial (l.serial + 1) with_new n)
            (theirs_left l.serial 0 zeros how x new reels_are failed survive_x n (cleared serial l.serial with_new n) apart (had_x n))

        pub loss_release : (n : ℕ) → PowerLossLeavesEither n new (cleared serial l.serial with_new n) (cleared serial (l.serial + 1) with_new n)
        loss_release = each_reel l.serial (λ n. PowerLossLeavesEither n new (cleared serial l.serial with_new n) (cleared serial (l.serial + 1) with_new n)) this those

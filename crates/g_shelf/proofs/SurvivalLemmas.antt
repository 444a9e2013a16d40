-- The completed dumps survive each write of tape that a dump consists of.
-- serves: crates above
use Rattle.std.proofs.Common.{◌≡◌, ℕ, zero, suc, ◌+◌, ◌<◌, ◌≤◌, List, [], ◌∷◌, ◌++◌, Option, Some, None, Result, Ok, Err, length, take, slice_get, refl, sym, ◌∙◌, ap, subst, inl, inr, arith}
use Rattle.std.specs.Prelude.{◌⊎◌, true, OnOk}
use Rattle.std.specs.Option.{ForSome}
use Rattle.std.proofs.lemmas.List.{take-take, length-take, length-take-le, take-append-le}
use Rattle.g_base.specs.Fields.{padded}
use Rattle.g_tape.specs.declared.fault.TapeFault.{TapeFault}
use Rattle.g_tape.specs.declared.fault.TapeFault.TheVariants.{WriteFailed}
use Rattle.g_tape.specs.Durable.{AfterPowerLoss, HasFront, IsDurable, IsDurableTo, MayBeBegun, WritesDurably}
use Rattle.g_tape.specs.Rack.{Rack, reel, refuses_write}
use Rattle.g_tape.specs.Reads.{LeavesNoMore, MayLeave, blocks_in, blocks_of, is_syncable}
use Rattle.g_tape.specs.Reel.{Reel, Remains, Unchanged, Shortened, Torn}
use Rattle.g_tape.specs.Risk.{IsSynced, Leaves, Risk, risk, syncs}
use Rattle.g_incr.specs.Layout.{Dump, count_of, dump_blocks, header_block, header_fields, mark_block}
use Rattle.g_shelf.specs.CompletedDumps.{AreCompleted, IsNext, end_of}
use Rattle.g_shelf.specs.QuietWrites.{IsBegun, left_in}
use Rattle.g_shelf.specs.Surviving.{CanSurvive, DumpsSurvive, IsBegunDurably, LeavesWithOrWithout}
use Rattle.g_shelf.proofs.QuietLemmas.{quiet_blocks}
use Rattle.g_shelf.proofs.SurvivingLemmas.{all_but_the_mark, all_survive, begun_completes_nothing, durable_dumps, durable_end, front_left, one_block_completes_nothing}

-- THE BLOCKS BEFORE A WRITE are there after it
pub front_stays : (n k : ℕ) (how : Remains) (blocks : List (List ℕ)) → n ≤ k → k ≤ length blocks → take n (left_in how k blocks) ≡ take n blocks
front_stays n k Unchanged blocks low long = refl
front_stays n k Shortened blocks low long = take-take n k blocks low
front_stays n k (Torn block) blocks low long =
    let whole = length-take-le k blocks long in
    take-append-le n (take k blocks) (block ∷ []) (omega (arith, whole, low)) ∙ take-take n k blocks low

-- THE HEADER AND THE MARK ARE SYNCED
pub header_synced : (k : ℕ) (d : Dump) → IsSynced k (header_block d)
unfolding header_fields padded
header_synced k d = inr (_, inl refl)

pub mark_synced : (k : ℕ) (d : Dump) → IsSynced k (mark_block d)
unfolding mark_block padded
mark_synced k d = inr (_, inr refl)

-- WHAT A FAILED WRITE MAY LEAVE: what could have been left before, or what was begun
may_be : (serial : ℕ) (old : Rack) (blocks left : List (List ℕ)) → blocks_of serial old ≡ Some blocks → MayLeave serial old left → Leaves (risk serial old.risks) blocks left
may_be serial old blocks left at may = may blocks at

-- A WRITE OF A BLOCK OF A DUMP, which begins after these completed ones
module _ (serial j : ℕ) (ds : List Dump) (d : Dump) (block : List ℕ) (old new : Rack) (blocks : List (List ℕ)) (at : blocks_of serial old ≡ Some blocks) (all : AreCompleted serial blocks ds)
    (begun : IsBegun serial blocks ds j d) (survive : DumpsSurvive serial old) (durably : 0 < j → IsBegunDurably serial d.place j old)
    (from : d.place ≤ length blocks) (free : refuses_write (d.place + j) (reel serial old.reels) ≡ None) where
  -- as many blocks of it are there
  long_enough : d.place + j ≤ length blocks
  long_enough = by j begun.length
    where
      by : (i : ℕ) → (0 < i → length blocks ≡ d.place + i) → d.place + i ≤ length blocks
      by zero long = omega (arith, from)
      by (suc i) long = (let is = long (omega arith) in omega (arith, is))

  front_before : IsDurableTo d.place serial old
  front_before = subst (λ (n : ℕ). IsDurableTo n serial old) (sym begun.place) (durable_end serial old blocks ds at all survive)

  -- its last durable block
  module _ (how : Remains) (there : blocks_of serial new ≡ Some (left_in how (d.place + j) blocks)) where
    -- what is durable of the blocks before it
    left_front : (n : ℕ) (left : List (List ℕ)) → n ≤ d.place + j → IsDurableTo n serial new → Leaves (risk serial new.risks) (left_in how (d.place + j) blocks) left → take n left ≡ take n blocks
    left_front n left low durable leaves = front_left n serial new (left_in how (d.place + j) blocks) left there durable leaves ∙ front_stays n (d.place + j) how blocks low long_enough

    -- a header that is durable, or one block only: no dump is completed
    quiet_left : (left : List (List ℕ)) → j ≤ count_of d → length left ≤ d.place + j + 1 → Leaves (risk serial new.risks) (left_in how (d.place + j) blocks) left
        → ((n : ℕ) → n ≤ d.place + j → IsDurableTo n serial old → IsDurableTo n serial new) → AreCompleted serial left ds
    quiet_left left early short leaves stays = by_header (cases_zero j)
      where
        cases_zero : (i : ℕ) → (i ≡ 0) ⊎ (0 < i)
        cases_zero zero = inl refl
        cases_zero (suc i) = inr (omega arith)

        by_header : (j ≡ 0) ⊎ (0 < j) → AreCompleted serial left ds
        by_header (inl none) =
            one_block_completes_nothing serial blocks left ds all
            (subst (λ (n : ℕ). take n left ≡ take n blocks) begun.place (left_front d.place left (omega arith) (stays d.place (omega arith) front_before) leaves))
            (let place = begun.place in omega (arith, short, none, place))
        by_header (inr some) =
            begun_completes_nothing serial j blocks left ds d all begun some
            (left_front (d.place + 1) left (omega (arith, some)) (stays (d.place + 1) (omega (arith, some)) (durably some).header) leaves)
            (omega (arith, short, early))

  -- it succeeded
  module _ (there : blocks_of serial new ≡ Some (take (d.place + j) blocks ++ block ∷ [])) (wrote : WritesDurably serial (d.place + j) block old (Ok tt) new) where
    completed_then : j ≤ count_of d → AreCompleted serial (take (d.place + j) blocks ++ block ∷ []) ds
    completed_then early = quiet_blocks serial blocks ds j d (Torn block) all begun early

    pub survive_block : j ≤ count_of d → DumpsSurvive serial new
    survive_block early =
        all_survive serial new (take (d.place + j) blocks ++ block ∷ []) ds there (completed_then early)
        (λ left leaves. quiet_left (Torn block) there left early (wrote.short (take (d.place + j) blocks ++ block ∷ []) there left leaves) leaves wrote.front)

    begins : j ≡ 0 → block ≡ header_block d → IsBegunDurably serial d.place (j + 1) new
    begins none is =
        let synced : IsSynced (d.place + j) block = subst (IsSynced (d.place + j)) (sym is) (header_synced (d.place + j) d) in
        let low : IsDurableTo (d.place + j) serial old = subst (λ (n : ℕ). IsDurableTo n serial old) (let n : d.place ≡ d.place + j = omega (arith, none) in n) front_before in
        let durable : IsDurable serial new = wrote.synced synced (inr low) in
        record {
          header = λ bs here left leaves cs is'. ap (take (d.place + 1)) (durable bs here left leaves ∙ (let both : Some bs ≡ Some cs = sym here ∙ is' in cc));
          short = λ bs here left leaves. (let short = wrote.short bs here left leaves in omega (arith, short));
          syncable = wrote.fresh free low;
        }

    goes_on : 0 < j → IsBegunDurably serial d.place (j + 1) new
    goes_on some = record {
      header = wrote.front (d.place + 1) (omega (arith, some)) (durably some).header;
      short = λ bs here left leaves. (let short = wrote.short bs here left leaves in omega (arith, short));
      syncable = wrote.syncable (durably some).syncable;
    }

    pub begun_block : (j ≡ 0 → block ≡ header_block d) → IsBegunDurably serial d.place (j + 1) new
    begun_block first = by (cases j refl)
      where
        cases : (i : ℕ) → j ≡ i → (j ≡ 0) ⊎ (0 < j)
        cases zero is = inl is
        cases (suc i) is = inr (omega (arith, is))

        by : (j ≡ 0) ⊎ (0 < j) → IsBegunDurably serial d.place (j + 1) new
        by (inl none) = begins none (first none)
        by (inr some) = goes_on some

    -- the mark
    pub survive_mark : 0 < j → block ≡ mark_block d → DumpsSurvive serial new
    survive_mark some is =
        durable_dumps serial new (wrote.synced (subst (IsSynced (d.place + j)) (sym is) (mark_synced (d.place + j) d)) (inl (durably some).syncable))

  -- it failed
  module _ (how : Remains) (there : blocks_of serial new ≡ Some (left_in how (d.place + j) blocks)) (failed : WritesDurably serial (d.place + j) block old (Err WriteFailed) new) where
    pub survive_failed : j ≤ count_of d → DumpsSurvive serial new
    survive_failed early =
        all_survive serial new (left_in how (d.place + j) blocks) ds there (quiet_blocks serial blocks ds j d how all begun early)
        (λ left leaves. by left leaves (failed.failed (left_in how (d.place + j) blocks) there left leaves))
      where
        by : (left : List (List ℕ)) → Leaves (risk serial new.risks) (left_in how (d.place + j) blocks) left → MayLeave serial old left ⊎ MayBeBegun serial (d.place + j) block old left → AreCompleted serial left ds
        by left leaves (inl may) = survive blocks at ds all blocks at left (may blocks at)
        by left leaves (inr more) = quiet_left how there left early more.short leaves failed.front

    pub failed_mark : j ≡ count_of d + 1 → block ≡ mark_block d → LeavesWithOrWithout serial new ds d × (is_syncable serial new ≡ true)
    failed_mark last is = (λ bs here left leaves. by left (failed.failed bs here left leaves), failed.syncable (durably some).syncable)
      where
        some : 0 < j
        some = omega (arith, last)

        synced : IsSynced (d.place + j) block
        synced = subst (IsSynced (d.place + j)) (sym is) (mark_synced (d.place + j) d)

        whole : IsBegun serial blocks ds (count_of d + 1) d
        whole = subst (λ (n : ℕ). IsBegun serial blocks ds n d) last begun

        at_mark : d.place + j ≡ d.place + (count_of d + 1)
        at_mark = ap (λ (n : ℕ). d.place + n) last

        by : (left : List (List ℕ)) → MayLeave serial old left ⊎ MayBeBegun serial (d.place + j) block old left → AreCompleted serial left ds ⊎ AreCompleted serial left (ds ++ d ∷ [])
        by left (inl may) = inl (survive blocks at ds all blocks at left (may blocks at))
        by left (inr more) =
            all_but_the_mark serial blocks left ds d all whole
            (subst (λ (n : ℕ). take n left ≡ take n blocks) at_mark (more.synced synced (inl (durably some).syncable) blocks at))
            (let short = more.short in omega (arith, short, last))

-- THE OTHER REELS
module _ (other : ℕ) (old new : Rack) (risks : risk other new.risks ≡ risk other old.risks) (same : blocks_of other new ≡ blocks_of other old) where
  still : (blocks left : List (List ℕ)) → Leaves (risk other new.risks) blocks left → Leaves (risk other old.risks) blocks left
  still blocks left leaves = subst (λ (o : Option Risk). Leaves o blocks left) risks leaves

  pub other_survives : DumpsSurvive other old → DumpsSurvive other new
  other_survives survive blocks at ds all bs here left leaves = survive blocks (sym same ∙ at) ds all bs (sym same ∙ here) left (still bs left leaves)

  pub other_can : CanSurvive other old → CanSurvive other new
  other_can (inl survive) = inl (other_survives survive)
  other_can (inr able) = inr (ap syncs risks ∙ able)

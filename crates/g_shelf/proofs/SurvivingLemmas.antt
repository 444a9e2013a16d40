-- Which completed dumps a power loss leaves on a reel.
-- serves: power_losses (begun, mark), SurvivalLemmas, crates above
use Rattle.std.proofs.Common.{◌≡◌, ℕ, zero, suc, ◌+◌, ◌-◌, ◌<◌, ◌≤◌, List, [], ◌∷◌, ◌++◌, Option, Some, None, Result, Ok, Err, length, take, drop, slice_get, option_map, refl, sym, ◌∙◌, ap, subst, inl, inr, arith}
use Rattle.std.specs.Prelude.{◌⊎◌, ◌≢◌, true, OnOk}
use Rattle.std.specs.Option.{ForSome}
use Rattle.std.proofs.Math.Seq.{take-add}
use Rattle.std.proofs.lemmas.Bool.{cases_lt}
use Rattle.std.proofs.lemmas.List.{drop-take, take-take, take_all, take-append-drop, length-take, length-drop, length-append}
use Rattle.g_tape.specs.declared.fault.TapeFault.{TapeFault}
use Rattle.g_tape.specs.declared.fault.TapeFault.TheVariants.{WriteFailed}
use Rattle.g_tape.specs.Durable.{AfterPowerLoss, IsDurable, IsDurableTo}
use Rattle.g_tape.specs.Rack.{AreReels, Rack, Writing, reel, refuses_write}
use Rattle.g_tape.specs.Reads.{LeavesNoMore, MayLeave, OnlyReads, blocks_in, blocks_of, is_syncable}
use Rattle.g_tape.specs.Reel.{Remains, Unchanged, Shortened, Torn}
use Rattle.g_tape.specs.Risk.{IsSynced, Leaves, Risk, risk}
use Rattle.g_tape.proofs.ReadLemmas.{blocks_after_reads}
use Rattle.g_incr.specs.Layout.{Dump, IsDump, StandsOn, count_of, size_of, ends, dump_blocks, header_block, mark_block}
use Rattle.g_shelf.specs.CompletedDumps.{AreCompleted, AreNext, IsNext, end_behind, end_of, number_behind}
use Rattle.g_shelf.specs.QuietWrites.{IsBegun}
use Rattle.g_shelf.specs.Surviving.{BegunCompletesNothing, CanSurvive, DumpsSurvive, IsBegunDurably, MarkCompletesOne}
use Rattle.g_shelf.proofs.MarkLemmas.{mark_completes}
use Rattle.g_shelf.proofs.OneLemmas.{completed_are_one}
use Rattle.g_shelf.proofs.QuietLemmas.{carried, end-within, first, first_of_dump, first_of_part, no_more, same_count, still_next, within}

-- REELS WITH THE SAME COMPLETED DUMPS begin with the same blocks.
longer_front : (at n : ℕ) (a b : List (List ℕ)) → take at a ≡ take at b → take n (drop at a) ≡ take n (drop at b) → take (at + n) a ≡ take (at + n) b
longer_front at n a b front next = take-add at n a ∙ ap (λ (x : List (List ℕ)). x ++ take n (drop at a)) front ∙ ap (λ (x : List (List ℕ)). take at b ++ x) next ∙ sym (take-add at n b)

same_fronts : (serial at from : ℕ) (a b : List (List ℕ)) (ds : List Dump) → AreNext serial a at from ds → AreNext serial b at from ds → take at a ≡ take at b → take (end_behind at ds) a ≡ take (end_behind at ds) b
same_fronts serial at from a b [] are_a are_b front = front
same_fronts serial at from a b (d ∷ ds) are_a are_b front =
    let here : take (size_of d) (drop d.place a) ≡ take (size_of d) (drop d.place b) = are_a.0.stands.blocks ∙ sym are_b.0.stands.blocks in
    same_fronts serial (ends d) (d.number + 1) a b ds are_a.1 are_b.1
    (longer_front d.place (size_of d) a b (subst (λ (n : ℕ). take n a ≡ take n b) (sym are_a.0.place) front) here)

pub same_front : (serial : ℕ) (a b : List (List ℕ)) (ds : List Dump) → AreCompleted serial a ds → AreCompleted serial b ds → take (end_of ds) a ≡ take (end_of ds) b
same_front serial a b ds are_a are_b = same_fronts serial 0 0 a b ds are_a.are are_b.are refl

-- WHAT COMPLETES NO DUMP: one block behind the dumps
shorter_front : (m n : ℕ) (a b : List (List ℕ)) → m ≤ n → take n a ≡ take n b → take m a ≡ take m b
shorter_front m n a b le same = sym (take-take m n a le) ∙ ap (take m) same ∙ take-take m n b le

pub one_block_completes_nothing : (serial : ℕ) (blocks left : List (List ℕ)) (ds : List Dump) → AreCompleted serial blocks ds → take (end_of ds) left ≡ take (end_of ds) blocks → length left ≤ end_of ds + 1 → AreCompleted serial left ds
one_block_completes_nothing serial blocks left ds all front short = record {
  are = still_next serial blocks left (end_of ds) 0 0 ds front (omega arith)
      (λ e next.
      let long = within left e next.stands in
      let place = next.place in
      let no : ⊥ = omega (arith, long, place, short) in no) all.are;
}

-- and the header of a dump with no block in its mark's place
first_any : (n : ℕ) (xs : List (List ℕ)) → 0 < n → first (take n xs) ≡ first (take 1 xs)
first_any zero xs some = absurd (let no : ⊥ = omega (arith, some) in no)
first_any (suc n) [] some = refl
first_any (suc n) (x ∷ xs) some = refl

header_of : (serial j : ℕ) (blocks : List (List ℕ)) (ds : List Dump) (d : Dump) → IsBegun serial blocks ds j d → 0 < j → first (take 1 (drop d.place blocks)) ≡ header_block d
unfolding dump_blocks
header_of serial zero blocks ds d begun some = absurd (let no : ⊥ = omega (arith, some) in no)
header_of serial (suc j) blocks ds d begun some = ap (λ (x : List (List ℕ)). first (take 1 x)) (begun.blocks some)

pub begun_completes_nothing : BegunCompletesNothing
begun_completes_nothing serial j blocks left ds d all begun some front short =
    let end : end_of ds ≤ d.place + 1 = (let at = begun.place in omega (arith, at)) in
    record {
      are = still_next serial blocks left (end_of ds) 0 0 ds (shorter_front (end_of ds) (d.place + 1) left blocks end front) (omega arith)
          (λ e next.
          let place : e.place ≡ d.place = next.place ∙ sym begun.place in
          let here : take 1 (drop d.place left) ≡ take 1 (drop d.place blocks) = sym (drop-take d.place 1 left) ∙ ap (drop d.place) front ∙ drop-take d.place 1 blocks in
          let same : header_block e ≡ header_block d =
          sym (first_of_dump e)
          ∙ ap first (sym next.stands.blocks ∙ ap (λ (n : ℕ). take (size_of e) (drop n left)) place)
          ∙ first_any (size_of e) (drop d.place left) (omega arith) ∙ ap first here ∙ header_of serial j blocks ds d begun some in
          let count = same_count e d next.stands.rules begun.rules same in
          let long = within left e next.stands in
          let no : ⊥ = omega (arith, count, long, place, short) in no) all.are;
    }

-- ALL OF A DUMP BUT ITS MARK, with or without a block in the mark's place, completes none but this dump.
last_of : (n : ℕ) (left : List (List ℕ)) → n < length left → length left ≤ n + 1 → (b : List ℕ) × (left ≡ take n left ++ b ∷ [])
last_of n left some short = by (drop n left) refl
  where
    long : length (drop n left) ≡ length left - n
    long = length-drop n left

    by : (rest : List (List ℕ)) → drop n left ≡ rest → (b : List ℕ) × (left ≡ take n left ++ b ∷ [])
    by [] is = absurd (let none : length (drop n left) ≡ 0 = ap (λ (x : List (List ℕ)). length x) is in let no : ⊥ = omega (arith, none, long, some) in no)
    by (b ∷ []) is = (b, sym (take-append-drop n left) ∙ ap (λ (x : List (List ℕ)). take n left ++ x) is)
    by (b ∷ c ∷ rest) is =
        absurd (let more : length (drop n left) ≡ suc (suc (length rest)) = ap (λ (x : List (List ℕ)). length x) is in let no : ⊥ = omega (arith, more, long, short) in no)

pub all_but_the_mark : MarkCompletesOne
all_but_the_mark serial blocks left ds d all begun front short = by_length (cases_lt (d.place + (count_of d + 1)) (length left))
  where
    n : ℕ
    n = d.place + (count_of d + 1)

    whole : take (d.place + (count_of d + 1)) blocks ≡ blocks
    whole = take_all (d.place + (count_of d + 1)) blocks (let long = begun.length (omega arith) in omega (arith, long))

    by_length : ((d.place + (count_of d + 1)) < length left) ⊎ (length left ≤ (d.place + (count_of d + 1))) → AreCompleted serial left ds ⊎ AreCompleted serial left (ds ++ d ∷ [])
    by_length (inr few) =
        let same : left ≡ blocks = sym (take_all (d.place + (count_of d + 1)) left few) ∙ front ∙ whole in
        inl (subst (λ (x : List (List ℕ)). AreCompleted serial x ds) (sym same) all)
    by_length (inl more) =
        let (b, is) = last_of (d.place + (count_of d + 1)) left more (omega (arith, short)) in
        let same : left ≡ take (d.place + (count_of d + 1)) blocks ++ b ∷ [] = is ∙ ap (λ (x : List (List ℕ)). x ++ b ∷ []) front in
        subst (λ (x : List (List ℕ)). AreCompleted serial x ds ⊎ AreCompleted serial x (ds ++ d ∷ [])) (sym same) (mark_completes serial blocks ds d (Torn b) all begun)

-- WHAT A RACK LEAVES

-- the completed dumps are durable where they survive
pub durable_end : (serial : ℕ) (rack : Rack) (blocks : List (List ℕ)) (ds : List Dump) → blocks_of serial rack ≡ Some blocks → AreCompleted serial blocks ds → DumpsSurvive serial rack → IsDurableTo (end_of ds) serial rack
durable_end serial rack blocks ds at all survive bs there left leaves more is =
    let one : blocks ≡ more = (let both : Some blocks ≡ Some more = sym at ∙ is in cc) in
    same_front serial left blocks ds (survive blocks at ds all bs there left leaves) all ∙ ap (take (end_of ds)) one

-- what is durable is left
pub front_left : (n serial : ℕ) (rack : Rack) (blocks left : List (List ℕ)) → blocks_of serial rack ≡ Some blocks → IsDurableTo n serial rack → Leaves (risk serial rack.risks) blocks left → take n left ≡ take n blocks
front_left n serial rack blocks left at durable leaves = durable blocks at left leaves blocks at

-- a reel that is durable keeps its dumps
pub durable_dumps : (serial : ℕ) (rack : Rack) → IsDurable serial rack → DumpsSurvive serial rack
durable_dumps serial rack durable blocks at ds all bs there left leaves =
    let one : bs ≡ blocks = (let both : Some bs ≡ Some blocks = sym there ∙ at in cc) in
    subst (λ (x : List (List ℕ)). AreCompleted serial x ds) (sym (durable bs there left leaves ∙ one)) all

-- to show that dumps survive: each thing that may be left has the dumps that the reel has
pub all_survive : (serial : ℕ) (rack : Rack) (blocks : List (List ℕ)) (ds : List Dump) → blocks_of serial rack ≡ Some blocks → AreCompleted serial blocks ds
    → ((left : List (List ℕ)) → Leaves (risk serial rack.risks) blocks left → AreCompleted serial left ds) → DumpsSurvive serial rack
all_survive serial rack blocks ds at all each bs there es other cs here left leaves =
    let one : bs ≡ blocks = (let both : Some bs ≡ Some blocks = sym there ∙ at in cc) in
    let two : cs ≡ blocks = (let both : Some cs ≡ Some blocks = sym here ∙ at in cc) in
    let dumps : ds ≡ es = completed_are_one serial blocks ds es all (subst (λ (x : List (List ℕ)). AreCompleted serial x es) one other) in
    subst (AreCompleted serial left) dumps (each left (subst (λ (x : List (List ℕ)). Leaves (risk serial rack.risks) x left) two leaves))

-- READS
leaves_before : (serial : ℕ) (old new : Rack) (blocks left : List (List ℕ)) → LeavesNoMore old new → blocks_of serial new ≡ blocks_of serial old → blocks_of serial new ≡ Some blocks
    → Leaves (risk serial new.risks) blocks left → Leaves (risk serial old.risks) blocks left
leaves_before serial old new blocks left more same at leaves =
    let here : MayLeave serial new left = λ bs there. subst (λ (x : List (List ℕ)). Leaves (risk serial new.risks) x left) (let both : Some blocks ≡ Some bs = sym at ∙ there in cc) leaves in
    more.leaves serial left here blocks (sym same ∙ at)

after_reads : (P : List (List ℕ) → Type 0) (serial : ℕ) (old new : Rack) → LeavesNoMore old new → blocks_of serial new ≡ blocks_of serial old → AfterPowerLoss serial old P → AfterPowerLoss serial new P
after_reads P serial old new more same all blocks at left leaves = all blocks (sym same ∙ at) left (leaves_before serial old new blocks left more same at leaves)

pub survive_reads : (serial : ℕ) (old new : Rack) → LeavesNoMore old new → blocks_of serial new ≡ blocks_of serial old → DumpsSurvive serial old → DumpsSurvive serial new
survive_reads serial old new more same survive blocks at ds all =
    after_reads (λ left. AreCompleted serial left ds) serial old new more same (survive blocks (sym same ∙ at) ds all)

pub can_reads : (serial : ℕ) (old new : Rack) → LeavesNoMore old new → blocks_of serial new ≡ blocks_of serial old → CanSurvive serial old → CanSurvive serial new
can_reads serial old new more same (inl survive) = inl (survive_reads serial old new more same survive)
can_reads serial old new more same (inr able) = inr (more.syncable serial able)

durable_to_reads : (n serial : ℕ) (old new : Rack) → LeavesNoMore old new → blocks_of serial new ≡ blocks_of serial old → IsDurableTo n serial old → IsDurableTo n serial new
durable_to_reads n serial old new more same durable blocks at left leaves bs there =
    durable blocks (sym same ∙ at) left (leaves_before serial old new blocks left more same at leaves) bs (sym same ∙ there)

pub begun_reads : (serial place j : ℕ) (old new : Rack) → LeavesNoMore old new → blocks_of serial new ≡ blocks_of serial old → IsBegunDurably serial place j old → IsBegunDurably serial place j new
begun_reads serial place j old new more same begun = record {
  header = durable_to_reads (place + 1) serial old new more same begun.header;
  short = after_reads (λ left. length left ≤ place + j) serial old new more same begun.short;
  syncable = more.syncable serial begun.syncable;
}

-- Disc and rack still belong together, wherever PROCESS ends.
-- serves: AnswerLemmas, LossLemmas, crates above
use Rattle.std.proofs.Common.{◌≡◌, ◌≢◌, ℕ, zero, suc, ◌+◌, ◌<◌, ◌≤◌, ◌==◌, Bool, true, false, List, [], ◌∷◌, ◌++◌, drop, get_or, length, map, take, Option, Some, None, refl, sym, ◌∙◌, ap, arith, subst, inl, inr, slice_get, if◌then◌else◌}
use Rattle.std.specs.Prelude.{◌⊎◌, ◌&&◌, ◌||◌, All, Contains, is_some, nat_lt, not, option_map}
use Rattle.std.specs.List.{AllZip}
use Rattle.std.specs.List.Sorted.{IsStrictlyIncreasing}
use Rattle.std.specs.Option.{ForSome}
use Rattle.std.proofs.lemmas.Bool.{cases_Bool, cases_order, cond-false, cond-true, eq-eqb, eqb-true, lt-ltb, ltb-true, ne_eqb}
use Rattle.std.proofs.lemmas.Bool.Decides.{eqb_tells}
use Rattle.std.proofs.lemmas.List.{length-append, length-take, take_all}
use Rattle.std.proofs.lemmas.List.Elements.{All-contains, All-head, All-tail, Contains-get_or}
use Rattle.std.proofs.lemmas.Option.{none-some, same_Some}
use Rattle.g_base.specs.Block.{IsBlock}
use Rattle.g_base.proofs.KeyLemmas.{at_key-itself}
use Rattle.g_entry.specs.declared.file_rec.FileRec.{FileRec}
use Rattle.g_tape.specs.Rack.{AreReels, Rack, reel}
use Rattle.g_tape.specs.Reads.{OnlyReads, blocks_in, unread}
use Rattle.g_tape.specs.Reel.{IsReel, Reel, Remains, Shortened, Torn, Unchanged, ending, left_by}
use Rattle.g_disc_contents.specs.Contents.{Contents, File, Holds, has}
use Rattle.g_disc_contents.specs.Facts.{IsTied, OnlineFacts}
use Rattle.g_disc_contents.specs.Parts.{IsPart}
use Rattle.g_incr.specs.Layout.{Dump, count_of, is_between}
use Rattle.g_incr.specs.Plan.{IsAway, IsPlan, IsReadyAt, Plan, blocks_of, content_blocks, dump_of, first_content, needs, waiting}
use Rattle.g_incr.proofs.PlanLemmas.{length-made}
use Rattle.g_shelf.specs.CompletedDumps.{AreCompleted, AreShelved, all_dumps}
use Rattle.g_shelf.specs.declared.rack.Listed.{Listed}
use Rattle.g_known.specs.ReelNotes.{AreListed}
use Rattle.g_shelf.specs.QuietWrites.{left_in}
use Rattle.g_shelf.proofs.MarkLemmas.{mark_completes}
use Rattle.g_store_meaning.specs.Answers.{Belongs}
use Rattle.g_store_meaning.specs.Belonging.{DiscBelongs, KeepsFile, RackBelongs}
use Rattle.g_store_meaning.specs.Meaning.{told_reels}
use Rattle.g_store_meaning.specs.Reading.{AllTold, ReelsTold}
use Rattle.g_store_meaning.specs.StoreInvariant.{IsUp, StoreFacts, with_dump}
use Rattle.g_laws_store.specs.ForgottenCopies.{bare_rec}
use Rattle.g_laws_store.specs.Releasing.{without_reel}
use Rattle.g_laws_store.proofs.ReleaseLemmas.{one_block_is_none}
use Rattle.g_dumper.specs.Invariant.{spent_with, up_with}
use Rattle.g_dumper.proofs.ShelfLemmas.{reel_there, told_is}
use Rattle.g_dumper.proofs.KeepLemmas.{belongs_spent, belongs_up, without_dump}
use Rattle.g_disc_contents.proofs.HoldLemmas.{holds_one}
use Rattle.g_process.specs.Exits.{AreParts, HasReleased, IsBesideDump, IsClearedBy, IsContentOf, IsLastCut, LacksMark, MayFill, Stops, StopsBefore, StopsCopies, StopsIntent, StopsMark, StopsRelease, StopsUnmarked, cleared}
use Rattle.g_process.specs.PowerLosses.{LeavesEitherShelf, LeavesOnDisc, LeavesShelf, StaysDurable}
use Rattle.g_process.specs.ProcessPlan.{IsFree, IsTaken, living, process_plan, versions}
use Rattle.g_process.specs.NamedCopies.{intended_by, moved_by}
use Rattle.g_process.specs.Releases.{AreReleased, is_taken, released, taken, zeros}
use Rattle.g_process.specs.Progress.{AreReadable, HasWritten, IsBlockOf, IsReadable, filled}
use Rattle.g_process.proofs.BecomeLemmas.{zip_becomes, Becomes, all_cons, apart_of, at_serial, becomes_filled, becomes_read, becomes_released, becomes_then, labels, labels_beside, labels_reads, left_name, same_serials}
use Rattle.g_process.proofs.BelongLemmas.{disc_intended, disc_marked, none_on, ready, shelved_by, up_at, up_intended, up_moved, up_released, without_all}
use Rattle.g_process.proofs.ContentLemmas.{all_read, within_content, front_bare}
use Rattle.g_process.proofs.DumpLemmas.{begun, content_at, content_is_long, content_of, from_drop, from_take, one_dump}
use Rattle.g_process.proofs.PlanLemmas.{plan_files}
use Rattle.g_process.proofs.DoneLemmas.{reels_read, both_true, not_true, or_cases}
use Rattle.g_process.proofs.EndLemmas.{all_above, all_below, all_free, all_zip, beside_zip, l_taken, l_there, left_long, names, part_below, part_free, part_zip, top_of}
use Rattle.g_process.proofs.ReelLemmas.{filled_long, filled_serial}
use Rattle.g_process.proofs.ReleaseLemmas.{AreApart}
use Rattle.g_process.proofs.TextLemmas.{source_part}
use Rattle.g_process.proofs.WholeLemmas.{none_short}
use Rattle.g_process.proofs.WriteLemmas.{element, get_map}
use Rattle.g_laws_store.proofs.TiedLemmas.{devices_belong}

-- the plan doesn't use its own reel's dumps: no record in it names a copy
bare_away : (files : List FileRec) (n from to : ℕ) → All (λ (r : FileRec). is_between n from to r.tape ≡ false) (map bare_rec files)
bare_away [] n from to = λ k d inside. absurd (let no : ⊥ = omega (arith, inside) in no)
bare_away (x ∷ xs) n from to = all_cons (λ (r : FileRec). is_between n from to r.tape ≡ false) (bare_rec x) (map bare_rec xs) refl (bare_away xs n from to)

pub process_away : (serial : ℕ) (o : OnlineFacts) → IsAway (process_plan serial o)
process_away serial o = record {
  each = subst (λ (fs : List FileRec). All (λ (r : FileRec). is_between serial (first_content (process_plan serial o)) (first_content (process_plan serial o) + content_blocks (process_plan serial o)) r.tape ≡ false) fs)
      (sym (plan_files serial o)) (bare_away (living o.contents) serial (first_content (process_plan serial o)) (first_content (process_plan serial o) + content_blocks (process_plan serial o)));
}

-- WHAT A CHANGED REEL HOLDS
from_map : (f : List (List ℕ) → List (List ℕ)) (m : Option (List (List ℕ))) (x : List (List ℕ)) → option_map f m ≡ Some x → (y : List (List ℕ)) × (m ≡ Some y) × (f y ≡ x)
from_map f None x is = absurd (none-some x is)
from_map f (Some y) x is = (y, refl, same_Some (f y) x is)

left_blocks : (how : Remains) (k : ℕ) (b : List ℕ) (bs : List (List ℕ)) (q : Reel) (x : List (List ℕ)) → (left_by how k (filled (b ∷ bs) q)).blocks ≡ Some x → left_in how k (b ∷ bs) ≡ x
left_blocks Unchanged k b bs q x is = (from_map (λ (y : List (List ℕ)). b ∷ bs) q.blocks x is).2
left_blocks Shortened k b bs q x is =
    let (y, at, same) = from_map (take k) (option_map (λ (z : List (List ℕ)). b ∷ bs) q.blocks) x is in
    let (z, told, first) = from_map (λ (z : List (List ℕ)). b ∷ bs) q.blocks y at in
    ap (take k) first ∙ same
left_blocks (Torn t) k b bs q x is =
    let (y, at, same) = from_map (λ (z : List (List ℕ)). take k z ++ t ∷ []) (option_map (λ (z : List (List ℕ)). b ∷ bs) q.blocks) x is in
    let (z, told, first) = from_map (λ (z : List (List ℕ)). b ∷ bs) q.blocks y at in
    ap (λ (z : List (List ℕ)). take k z ++ t ∷ []) first ∙ same

-- a reel whose first write failed has at most one block, or is unchanged
cut_none : (how : Remains) (q : Reel) (n : ℕ) (ds : List Dump) → ds ≡ [] → ForSome q.blocks (λ bs. AreCompleted n bs ds) → ForSome (left_by how 0 q).blocks (λ bs. AreCompleted n bs ds)
cut_none Unchanged q n ds none was = was
cut_none Shortened q n ds none was = λ x is.
    let (y, at, same) = from_map (take 0) q.blocks x is in
    subst (λ (es : List Dump). AreCompleted n x es) (sym none) (one_block_is_none n x (let e = ap (λ (zs : List (List ℕ)). length zs) same in omega (arith, e)))
cut_none (Torn t) q n ds none was = λ x is.
    let (y, at, same) = from_map (λ (z : List (List ℕ)). take 0 z ++ t ∷ []) q.blocks x is in
    subst (λ (es : List Dump). AreCompleted n x es) (sym none) (one_block_is_none n x (let e = ap (λ (zs : List (List ℕ)). length zs) same in omega (arith, e)))

-- the blocks before a failed write stay
in_left : (how : Remains) (w : List (List ℕ)) (b : List ℕ) → slice_get w 0 ≡ Some b → slice_get (left_in how (length w) w) 0 ≡ Some b
in_left how [] b is = absurd (let no : ⊥ = cc in no)
in_left Unchanged (x ∷ xs) b is = is
in_left Shortened (x ∷ xs) b is = is
in_left (Torn t) (x ∷ xs) b is = is

long_left : (how : Remains) (w : List (List ℕ)) → length (left_in how (length w) w) ≤ length w + 1
long_left Unchanged w = omega arith
long_left Shortened w = let cut = length-take (length w) w in omega (arith, cut)
long_left (Torn t) w =
    let cut = length-take (length w) w in
    let more = length-append (take (length w) w) (t ∷ []) in
    omega (arith, cut, more)

-- THE WRITTEN BLOCKS are whole, as the reel that holds them is
pub held_whole : (serial : ℕ) (w : List (List ℕ)) (xs ys : List Reel) → AllZip (λ (x y : Reel). y.serial ≡ serial → (bs : List (List ℕ)) → y.blocks ≡ Some bs → All IsBlock w) xs ys
    → AllZip (λ (x y : Reel). (y.serial ≡ x.serial) × (y.capacity ≡ x.capacity) × (y.mounted ≡ x.mounted)) xs ys → All (λ (r : Reel). is_some r.blocks ≡ true) (map unread ys)
    → (on : Reel) → Contains xs on → on.serial ≡ serial → All IsBlock w
held_whole serial w [] ys zip names told on (i, inside, at) named = absurd (let no : ⊥ = omega (arith, inside) in no)
held_whole serial w (x ∷ xs) [] zip names told on there named = absurd zip
held_whole serial w (x ∷ xs) (y ∷ ys) (one, zip) (name, names) told on (zero, inside, at) named =
    let (bs, is) = some_blocks y.blocks (All-head (λ (r : Reel). is_some r.blocks ≡ true) (unread y) (map unread ys) told) in
    one (name.0 ∙ ap (λ (r : Reel). r.serial) at ∙ named) bs is
  where
    some_blocks : (m : Option (List (List ℕ))) → is_some m ≡ true → (bs : List (List ℕ)) × (m ≡ Some bs)
    some_blocks None is = absurd (let no : ⊥ = cc in no)
    some_blocks (Some bs) is = (bs, refl)
held_whole serial w (x ∷ xs) (y ∷ ys) (one, zip) (name, names) told on (suc i, inside, at) named =
    held_whole serial w xs ys zip names (All-tail (λ (r : Reel). is_some r.blocks ≡ true) (unread y) (map unread ys) told) on (i, omega (arith, inside), at) named

-- also if a write after them failed
still_whole : (how : Remains) (w : List (List ℕ)) → All IsBlock (left_in how (length w) w) → All IsBlock w
still_whole Unchanged w all = all
still_whole Shortened w all = subst (All IsBlock) (take_all (length w) w (omega arith)) all
still_whole (Torn t) w all = front w (subst (λ (v : List (List ℕ)). All IsBlock (v ++ t ∷ [])) (take_all (length w) w (omega arith)) all)
  where
    front : (v : List (List ℕ)) → All IsBlock (v ++ t ∷ []) → All IsBlock v
    front [] more = λ k d inside. absurd (let no : ⊥ = omega (arith, inside) in no)
    front (x ∷ xs) more = all_cons IsBlock x xs (All-head IsBlock x (xs ++ t ∷ []) more) (front xs (All-tail IsBlock x (xs ++ t ∷ []) more))

abbrev IsSameLeft : ℕ → List (List ℕ) → ℕ → Remains → Reel → Reel → Type 0
IsSameLeft serial w k how r q = unread q ≡ at_serial serial (λ x. left_by how k (filled w x)) (unread r)

abbrev IsWholeAt : ℕ → List (List ℕ) → Reel → Reel → Type 0
IsWholeAt serial w r q = q.serial ≡ serial → (bs : List (List ℕ)) → q.blocks ≡ Some bs → All IsBlock w

pub left_whole : (serial : ℕ) (w : List (List ℕ)) (k : ℕ) → length w ≡ k → (how : Remains) (old new : Rack) → Becomes (at_serial serial (λ r. left_by how k (filled w r))) old new → All IsReel new.reels
    → AllZip (λ (x y : Reel). (y.serial ≡ x.serial) × (y.capacity ≡ x.capacity) × (y.mounted ≡ x.mounted)) old.reels new.reels → All (λ (r : Reel). is_some r.blocks ≡ true) (map unread new.reels)
    → (on : Reel) → Contains old.reels on → on.serial ≡ serial → All IsBlock w
left_whole serial w k long how old new is reels names told on there named =
    held_whole serial w old.reels new.reels
    (in_zip old.reels new.reels (zip_becomes (λ r. at_serial serial (λ x. left_by how k (filled w x)) r) old new (IsSameLeft serial w k how) is (λ r q among same. same)) names reels) names told on there named
  where
    by_list : (v : List (List ℕ)) → length v ≡ k → (q : Reel) (bs : List (List ℕ)) → (left_by how k (filled v q)).blocks ≡ Some bs → All IsBlock bs → All IsBlock v
    by_list [] size q bs at all = λ n d inside. absurd (let no : ⊥ = omega (arith, inside) in no)
    by_list (b ∷ rest) size q bs at all =
        still_whole how (b ∷ rest) (subst (All IsBlock) (sym (ap (λ (n : ℕ). left_in how n (b ∷ rest)) size ∙ left_blocks how k b rest q bs at)) all)

    one : (x y : Reel) → IsSameLeft serial w k how x y → y.serial ≡ x.serial → IsReel y → IsWholeAt serial w x y
    one x y same name right = λ at_this bs is.
        let here : unread y ≡ left_by how k (filled w (unread x)) =
        same ∙ cond-true (serial == x.serial) (left_by how k (filled w (unread x))) (unread x) (eq-eqb serial x.serial (sym at_this ∙ name)) in
        by_list w long (unread x) bs (ap (λ (r : Reel). r.blocks) (sym here) ∙ is) (right.whole bs is)

    in_zip : (xs ys : List Reel) → AllZip (IsSameLeft serial w k how) xs ys → AllZip (λ (x y : Reel). (y.serial ≡ x.serial) × (y.capacity ≡ x.capacity) × (y.mounted ≡ x.mounted)) xs ys → All IsReel ys → AllZip (IsWholeAt serial w) xs ys
    in_zip [] [] zip labels all = tt
    in_zip [] (y ∷ ys) zip labels all = absurd zip
    in_zip (x ∷ xs) [] zip labels all = absurd zip
    in_zip (x ∷ xs) (y ∷ ys) (same, zip) (name, labels) all = (one x y same name.0 (All-head IsReel y ys all), in_zip xs ys zip labels (All-tail IsReel y ys all))

-- RELEASES take the dumps off their reels
pub gone_all : (ns : List ℕ) (shelf : ℕ → List Dump) (n : ℕ) → has ns n ≡ true → without_all ns shelf n ≡ []
gone_all [] shelf n is = absurd (let no : ⊥ = cc in no)
gone_all (m ∷ ms) shelf n is = by_first (eqb_tells m n) (gone_all ms shelf n)
  where
    by_first : (((m == n) ≡ true) × (m ≡ n)) ⊎ (((m == n) ≡ false) × (m ≡ n → ⊥)) → (has ms n ≡ true → without_all ms shelf n ≡ []) → without_all (m ∷ ms) shelf n ≡ []
    by_first (inl h) rest = cond-true (n == m) [] (without_all ms shelf n) (eq-eqb n m (sym h.1))
    by_first (inr h) rest =
        cond-false (n == m) [] (without_all ms shelf n) (ne_eqb n m (λ e. h.1 (sym e)))
        ∙ rest (ap (λ (b : Bool). b || has ms n) (sym h.0) ∙ is)

pub stays_all : (ns : List ℕ) (shelf : ℕ → List Dump) (n : ℕ) → has ns n ≡ false → without_all ns shelf n ≡ shelf n
stays_all [] shelf n is = refl
stays_all (m ∷ ms) shelf n is = by_first (eqb_tells m n) (stays_all ms shelf n)
  where
    by_first : (((m == n) ≡ true) × (m ≡ n)) ⊎ (((m == n) ≡ false) × (m ≡ n → ⊥)) → (has ms n ≡ false → without_all ms shelf n ≡ shelf n) → without_all (m ∷ ms) shelf n ≡ shelf n
    by_first (inl h) rest = absurd (let e = ap (λ (b : Bool). b || has ms n) (sym h.0) ∙ is in (let no : ⊥ = cc in no))
    by_first (inr h) rest =
        cond-false (n == m) [] (without_all ms shelf n) (ne_eqb n m (λ e. h.1 (sym e)))
        ∙ rest (ap (λ (b : Bool). b || has ms n) (sym h.0) ∙ is)

pub two_true : (a b : Bool) → a ≡ true → b ≡ true → (a && b) ≡ true
two_true true true x y = refl
two_true true false x y = absurd (let no : ⊥ = cc in no)
two_true false b x y = absurd (let no : ⊥ = cc in no)

-- and those of the reels that are free weren't there
pub cleared_same : (ns : List ℕ) (serial until : ℕ) (w : ℕ → List Dump) (n : ℕ) → (has ns n ≡ true → (n < until) × (n ≢ serial)) → (n < until → n ≢ serial → has ns n ≡ false → w n ≡ [])
    → without_all ns w n ≡ cleared serial until w n
cleared_same ns serial until w n below free = by_has (cases_Bool (has ns n))
  where
    by_test : has ns n ≡ false → ((nat_lt n until && not (n == serial)) ≡ true) ⊎ ((nat_lt n until && not (n == serial)) ≡ false) → w n ≡ cleared serial until w n
    by_test isnt (inl is) =
        let (less, apart) = both_true (nat_lt n until) (not (n == serial)) is in
        free (ltb-true n until less) (λ e. let one = eq-eqb n serial e in (let two = not_true (n == serial) apart in (let no : ⊥ = cc in no))) isnt
        ∙ sym (cond-true (nat_lt n until && not (n == serial)) [] (w n) is)
    by_test isnt (inr is) = sym (cond-false (nat_lt n until && not (n == serial)) [] (w n) is)

    by_has : (has ns n ≡ true) ⊎ (has ns n ≡ false) → without_all ns w n ≡ cleared serial until w n
    by_has (inl yes_is) =
        let (less, apart) = below yes_is in
        gone_all ns w n yes_is
        ∙ sym (cond-true (nat_lt n until && not (n == serial)) [] (w n) (two_true (nat_lt n until) (not (n == serial)) (lt-ltb n until less) (ap not (ne_eqb n serial apart))))
    by_has (inr no_is) = stays_all ns w n no_is ∙ by_test no_is (cases_Bool (nat_lt n until && not (n == serial)))

-- a shelf that has the same for each reel
pub shelved_same : (old new : Rack) (a b : ℕ → List Dump) → map (λ (r : Reel). r.serial) new.reels ≡ map (λ (r : Reel). r.serial) old.reels → ((r : Reel) → Contains old.reels r → a r.serial ≡ b r.serial)
    → AreShelved a (told_reels new) → AreShelved b (told_reels new)
shelved_same old new a b serials same shelved = record {
  each = λ q there. subst (λ (ds : List Dump). ForSome q.blocks (λ bs. AreCompleted q.serial bs ds)) (by_name q (from_map_there new.reels q there)) (shelved.each q there);
}
  where
    from_map_there : (rs : List Reel) (q : Reel) → Contains (map unread rs) q → Contains (map (λ (r : Reel). r.serial) rs) q.serial
    from_map_there [] q (i, inside, is) = absurd (let no : ⊥ = omega (arith, inside) in no)
    from_map_there (x ∷ xs) q (zero, inside, is) = (0, omega arith, ap (λ (r : Reel). r.serial) is)
    from_map_there (x ∷ xs) q (suc i, inside, is) =
        let (j, within, at) = from_map_there xs q (i, omega (arith, inside), is) in
        (suc j, omega (arith, within), at)

    named_in : (rs : List Reel) (n : ℕ) → Contains (map (λ (r : Reel). r.serial) rs) n → (r : Reel) × Contains rs r × (r.serial ≡ n)
    named_in [] n (i, inside, is) = absurd (let no : ⊥ = omega (arith, inside) in no)
    named_in (x ∷ xs) n (zero, inside, is) = (x, (0, omega arith, refl), is)
    named_in (x ∷ xs) n (suc i, inside, is) =
        let (r, (j, within, at), named) = named_in xs n (i, omega (arith, inside), is) in
        (r, (suc j, omega (arith, within), at), named)

    by_name : (q : Reel) → Contains (map (λ (r : Reel). r.serial) new.reels) q.serial → a q.serial ≡ b q.serial
    by_name q there =
        let (r, in_old, named) = named_in old.reels q.serial (subst (λ (ns : List ℕ). Contains ns q.serial) serials there) in
        subst (λ (n : ℕ). a n ≡ b n) named (same r in_old)

-- a reel is found by its serial
pub found_itself : (xs : List Reel) (x : Reel) → AreApart xs → Contains xs x → reel x.serial xs ≡ Some x
found_itself xs x all there = at_key-itself (λ (r : Reel). r.serial) xs x all there

abbrev Keeps : (ℕ → List Dump) → Reel → Type 0
Keeps shelf r = ForSome r.blocks (λ bs. AreCompleted r.serial bs (shelf r.serial))

pub shelved_released : (ns : List ℕ) (m new : Rack) (shelf : ℕ → List Dump) → AreReleased ns m new → AreShelved shelf (told_reels m) → AreShelved (without_all ns shelf) (told_reels new)
shelved_released ns m new shelf is shelved =
    shelved_by (released ns) m new shelf (without_all ns shelf) (becomes_released ns m new is) shelved (λ r there was. by_case r was (has ns r.serial) refl)
  where
    by_case : (r : Reel) → Keeps shelf r → (b : Bool) → has ns r.serial ≡ b → Keeps (without_all ns shelf) (released ns (unread r))
    by_case r was true is_in =
        subst (Keeps (without_all ns shelf)) (sym (cond-true (has ns r.serial) (ending 0 zeros (unread r)) (unread r) is_in)) (λ x told.
        let (y, at, same) = from_map (λ (z : List (List ℕ)). take 0 z ++ zeros ∷ []) r.blocks x told in
        subst (λ (ds : List Dump). AreCompleted r.serial x ds) (sym (gone_all ns shelf r.serial is_in))
        (one_block_is_none r.serial x (let e = ap (λ (zs : List (List ℕ)). length zs) same in omega (arith, e))))
    by_case r was false isnt =
        subst (Keeps (without_all ns shelf)) (sym (cond-false (has ns r.serial) (ending 0 zeros (unread r)) (unread r) isnt))
        (subst (λ (ds : List Dump). ForSome r.blocks (λ bs. AreCompleted r.serial bs ds)) (sym (stays_all ns shelf r.serial isnt)) was)

-- a failed release left the reel unchanged, or deleted its dumps
cut_away : (n : ℕ) (f : Reel → Reel) (m new : Rack) (shelf : ℕ → List Dump) → ((r : Reel) → (f r).serial ≡ r.serial) → ((r : Reel) → ForSome (f r).blocks (λ bs. length bs ≤ 1))
    → Becomes (at_serial n f) m new → AreShelved shelf (told_reels m) → AreShelved (without_reel n shelf) (told_reels new)
cut_away n f m new shelf keeps short is shelved =
    shelved_by (at_serial n f) m new shelf (without_reel n shelf) is shelved (λ r there was. by_case r was (eqb_tells n r.serial))
  where
    by_case : (r : Reel) → Keeps shelf r → (((n == r.serial) ≡ true) × (n ≡ r.serial)) ⊎ (((n == r.serial) ≡ false) × (n ≡ r.serial → ⊥)) → Keeps (without_reel n shelf) (at_serial n f (unread r))
    by_case r was (inl h) =
        subst (Keeps (without_reel n shelf)) (sym (cond-true (n == r.serial) (f (unread r)) (unread r) h.0))
        (λ x told.
        subst (λ (ds : List Dump). AreCompleted (f (unread r)).serial x ds)
        (sym (cond-true ((f (unread r)).serial == n) [] (shelf (f (unread r)).serial) (eq-eqb (f (unread r)).serial n (keeps (unread r) ∙ sym h.1))))
        (one_block_is_none (f (unread r)).serial x (short (unread r) x told)))
    by_case r was (inr h) =
        subst (Keeps (without_reel n shelf)) (sym (cond-false (n == r.serial) (f (unread r)) (unread r) h.0))
        (subst (λ (ds : List Dump). ForSome r.blocks (λ bs. AreCompleted r.serial bs ds)) (sym (cond-false (r.serial == n) [] (shelf r.serial) (ne_eqb r.serial n (λ e. h.1 (sym e))))) was)

abbrev ByCut : Remains → Type 0 → Type 0 → Type 0
ByCut Unchanged kept gone = kept
ByCut Shortened kept gone = gone
ByCut (Torn block) kept gone = gone

pub shelved_by_cut : (n : ℕ) (how : Remains) (m new : Rack) (shelf : ℕ → List Dump) → Becomes (at_serial n (left_by how 0)) m new → AreShelved shelf (told_reels m)
    → ByCut how (AreShelved shelf (told_reels new)) (AreShelved (without_reel n shelf) (told_reels new))
shelved_by_cut n Unchanged m new shelf is shelved = shelved_by (at_serial n (left_by Unchanged 0)) m new shelf shelf is shelved (λ r there was. by_case r was (n == r.serial))
  where
    by_case : (r : Reel) → Keeps shelf r → (b : Bool) → Keeps shelf (if b then unread r else unread r)
    by_case r was true = was
    by_case r was false = was
shelved_by_cut n Shortened m new shelf is shelved =
    cut_away n (left_by Shortened 0) m new shelf (left_name Shortened 0)
    (λ r x told.
    let (y, at, same) = from_map (take 0) r.blocks x told in
    let e = ap (λ (zs : List (List ℕ)). length zs) same in omega (arith, e)) is shelved
shelved_by_cut n (Torn t) m new shelf is shelved =
    cut_away n (left_by (Torn t) 0) m new shelf (left_name (Torn t) 0)
    (λ r x told.
    let (y, at, same) = from_map (λ (z : List (List ℕ)). take 0 z ++ t ∷ []) r.blocks x told in
    let e = ap (λ (zs : List (List ℕ)). length zs) same in omega (arith, e)) is shelved

pub shelved_cut : (n : ℕ) (how : Remains) (m new : Rack) (shelf : ℕ → List Dump) → Becomes (at_serial n (left_by how 0)) m new → AreShelved shelf (told_reels m)
    → AreShelved shelf (told_reels new) ⊎ AreShelved (without_reel n shelf) (told_reels new)
shelved_cut n how m new shelf is shelved = by_how how (shelved_by_cut n how m new shelf is shelved)
  where
    by_how : (how : Remains) → ByCut how (AreShelved shelf (told_reels new)) (AreShelved (without_reel n shelf) (told_reels new))
        → AreShelved shelf (told_reels new) ⊎ AreShelved (without_reel n shelf) (told_reels new)
    by_how Unchanged kept = inl kept
    by_how Shortened gone = inr gone
    by_how (Torn t) gone = inr gone

module _ (serial : ℕ) (o : OnlineFacts) (old mid : Rack) (live : o.live ≡ true) (tied : IsTied o) (are : AreReels old.reels) (only : OnlyReads old mid) (rules : IsPlan (process_plan serial o)) (free : IsFree serial old)
    (on : Reel) (on_is : reel serial old.reels ≡ Some on) (mounted : on.mounted ≡ true) (room : needs (process_plan serial o) ≤ on.capacity) (readable : AreReadable serial (process_plan serial o) (versions o.contents) o mid)
    (told : AllTold o.disc.held (told_reels old)) (text : ℕ → List ℕ) (shelf : ℕ → List Dump) (shelved : AreShelved shelf (told_reels old)) (up : IsUp text shelf (up_with o old None)) where
  abbrev plan : Plan
  plan = process_plan serial o

  abbrev rs : List FileRec
  rs = versions o.contents

  pub none_here : shelf serial ≡ []
  none_here = none_on serial o old live tied rules on on_is free told text shelf shelved up

  up_here : (x : Rack) → labels x.reels ≡ labels old.reels → IsUp text shelf (up_with o x None)
  up_here x same = up_at serial o old live tied rules on on_is free told text shelf shelved up x same

  intended_here : (x : Rack) → labels x.reels ≡ labels old.reels → DiscBelongs text shelf (told_reels x) (intended_by serial o)
  intended_here x same = disc_intended serial o old live tied rules on on_is free told text shelf shelved up x same

  -- a reel without a dump
  pub none_at : (r : Reel) → Contains old.reels r → IsFree r.serial old → shelf r.serial ≡ []
  none_at r there free_r =
      let at : reel r.serial old.reels ≡ Some r = found_itself old.reels r (apart_of old.reels are.rising) there in
      let in_told = reel_there r.serial old.reels r at in
      let (blocks, tells) = told_is r.blocks (All-contains (λ (q : Reel). is_some q.blocks ≡ true) (told_reels old) (unread r) told.each.each in_told) in
      free_r.none blocks (ap blocks_in at ∙ tells) (shelf r.serial) (shelved.each (unread r) in_told blocks tells)

  may_fill : MayFill serial (up_with o old None)
  may_fill = record { rising = are.rising; on = on; reel_is = on_is; mounted = mounted; room = room; free = free; rules = rules }

  pub exit_intent : (end : StoreFacts) → map unread end.rack.reels ≡ map unread old.reels → LeavesOnDisc (λ blocks. Holds blocks o.contents ⊎ Holds blocks (intended_by serial o)) (up_with o old None) end
      → LeavesShelf shelf (up_with o old None) end → Stops text shelf serial (up_with o old None) end
  exit_intent end same either loss = StopsIntent may_fill either same loss

  -- STOPPED AT THE INTENT
  pub stopped_intent : (o' : OnlineFacts) (new : Rack) → map unread new.reels ≡ map unread old.reels → ForSome o'.disc.held (λ blocks. Holds blocks o.contents ⊎ Holds blocks (intended_by serial o))
      → Belongs (spent_with o' new)
  stopped_intent o' new same either =
      let as_was : IsUp text shelf (up_with o new None) = up_here new (labels_reads old new same) in
      let intended : DiscBelongs text shelf (told_reels new) (intended_by serial o) = intended_here new (labels_reads old new same) in
      belongs_spent o' new (record {
        text = text;
        shelf = shelf;
        shelved = subst (AreShelved shelf) (sym same) shelved;
        rack = as_was.rack;
        disc = λ blocks c held holds. one_of as_was.disc intended blocks c holds (either blocks held);
      })
    where
      one_of : DiscBelongs text shelf (told_reels new) o.contents → DiscBelongs text shelf (told_reels new) (intended_by serial o) → (blocks : List (List ℕ)) (c : Contents) → Holds blocks c
          → Holds blocks o.contents ⊎ Holds blocks (intended_by serial o) → DiscBelongs text shelf (told_reels new) c
      one_of was now blocks c holds (inl first) = subst (DiscBelongs text shelf (told_reels new)) (holds_one blocks o.contents c first holds) was
      one_of was now blocks c holds (inr second) = subst (DiscBelongs text shelf (told_reels new)) (holds_one blocks (intended_by serial o) c second holds) now

  -- a reel that is written has its dumps, and every other as it had
  shelved_at : (f : Reel → Reel) (new : Rack) (next : ℕ → List Dump) → Becomes (at_serial serial f) old new → ((r : Reel) → (f r).serial ≡ r.serial) → ((n : ℕ) → n ≢ serial → next n ≡ shelf n)
      → ((q : Reel) → ForSome q.blocks (λ bs. AreCompleted serial bs []) → ForSome (f q).blocks (λ bs. AreCompleted serial bs (next serial))) → AreShelved next (told_reels new)
  shelved_at f new next is keeps others this =
      shelved_by (at_serial serial f) old new shelf next is shelved (λ r there was. by_serial r (eqb_tells serial r.serial) was)
    where
      by_serial : (r : Reel) → (((serial == r.serial) ≡ true) × (serial ≡ r.serial)) ⊎ (((serial == r.serial) ≡ false) × (serial ≡ r.serial → ⊥)) → Keeps shelf r
          → Keeps next (at_serial serial f (unread r))
      by_serial r (inl h) was =
          subst (Keeps next) (sym (cond-true (serial == r.serial) (f (unread r)) (unread r) h.0))
          (subst (λ (n : ℕ). ForSome (f (unread r)).blocks (λ bs. AreCompleted n bs (next n))) (h.1 ∙ sym (keeps (unread r)))
          (this (unread r) (subst (λ (ds : List Dump). ForSome r.blocks (λ bs. AreCompleted serial bs ds)) none_here
          (subst (λ (n : ℕ). ForSome r.blocks (λ bs. AreCompleted n bs (shelf n))) (sym h.1) was))))
      by_serial r (inr h) was =
          subst (Keeps next) (sym (cond-false (serial == r.serial) (f (unread r)) (unread r) h.0))
          (subst (λ (ds : List Dump). ForSome r.blocks (λ bs. AreCompleted r.serial bs ds)) (sym (others r.serial (λ e. h.1 (sym e)))) was)

  -- THE FIRST k BLOCKS
  module _ (begun_o : OnlineFacts) (files : begun_o.contents.files ≡ o.contents.files) (k : ℕ) (m : Rack) (so : HasWritten serial plan rs begun_o k mid m) where
    abbrev w : List (List ℕ)
    w = so.written

    becomes_w : Becomes (at_serial serial (filled so.written)) old m
    becomes_w =
        becomes_then (λ r. r) (at_serial serial (filled so.written)) old mid m (becomes_read old mid only.reels)
        (becomes_filled serial so.written mid m (apart_of mid.reels (subst IsStrictlyIncreasing (sym (same_serials old.reels mid.reels (labels_reads old mid only.reels))) are.rising)) so.rack)

    pub labels_w : labels m.reels ≡ labels old.reels
    labels_w = labels_beside serial so.written mid m so.rack ∙ labels_reads old mid only.reels

    -- the first of them is the header
    pub header : (b : List ℕ) → slice_get so.written 0 ≡ Some b → IsReadyAt plan 0 b
    header b is = by_block (so.each 0 b is)
      where
        by_block : IsBlockOf plan rs begun_o mid m 0 b → IsReadyAt plan 0 b
        by_block (inl first) = first
        by_block (inr (i, part, r, at, stands, source)) = absurd (let place = stands.at in (let no : ⊥ = omega (arith, place) in no))

    -- before the mark there is no dump on the reel, for any outcome of a failed write
    left_none : (how : Remains) → k + 1 < needs plan → (q : Reel) → ForSome q.blocks (λ bs. AreCompleted serial bs []) → ForSome (left_by how k (filled so.written q)).blocks (λ bs. AreCompleted serial bs [])
    left_none how less q was = by_list so.written so.long header
      where
        by_list : (v : List (List ℕ)) → length v ≡ k → ((b : List ℕ) → slice_get v 0 ≡ Some b → IsReadyAt plan 0 b) → ForSome (left_by how k (filled v q)).blocks (λ bs. AreCompleted serial bs [])
        by_list [] long first =
            subst (λ (n : ℕ). ForSome (left_by how n q).blocks (λ bs. AreCompleted serial bs [])) long (cut_none how q serial [] refl was)
        by_list (b ∷ bs) long first = λ x is.
            let same : left_in how (length (b ∷ bs)) (b ∷ bs) ≡ x = left_blocks how (length (b ∷ bs)) b bs q x (ap (λ (n : ℕ). (left_by how n (filled (b ∷ bs) q)).blocks) long ∙ is) in
            let most = long_left how (b ∷ bs) in
            subst (λ (y : List (List ℕ)). AreCompleted serial y []) same
            (none_short serial plan rules (process_away serial o) refl refl (left_in how (length (b ∷ bs)) (b ∷ bs)) b (in_left how (b ∷ bs) b refl) (first b refl) (omega (arith, most, long, less)))

    -- nor without a failed write
    filled_none : k < needs plan → (q : Reel) → ForSome q.blocks (λ bs. AreCompleted serial bs []) → ForSome (filled so.written q).blocks (λ bs. AreCompleted serial bs [])
    filled_none less q was = by_list so.written so.long header
      where
        by_list : (v : List (List ℕ)) → length v ≡ k → ((b : List ℕ) → slice_get v 0 ≡ Some b → IsReadyAt plan 0 b) → ForSome (filled v q).blocks (λ bs. AreCompleted serial bs [])
        by_list [] long first = was
        by_list (b ∷ bs) long first = λ x is.
            let (y, at, same) = from_map (λ (z : List (List ℕ)). b ∷ bs) q.blocks x is in
            subst (λ (z : List (List ℕ)). AreCompleted serial z []) same
            (none_short serial plan rules (process_away serial o) refl refl (b ∷ bs) b refl (first b refl) (omega (arith, long, less)))

    pub quiet_m : k < needs plan → AreShelved shelf (told_reels m)
    quiet_m less = shelved_at (filled so.written) m shelf becomes_w (filled_serial so.written) (λ n apart. refl)
        (λ q was. subst (λ (ds : List Dump). ForSome (filled so.written q).blocks (λ bs. AreCompleted serial bs ds)) (sym none_here) (filled_none less q was))

    pub exit_read : (end : StoreFacts) → k < needs plan → end.online.live ≡ true → end.online.contents ≡ intended_by serial o → end.online.changed ≡ o.changed
        → map unread end.rack.reels ≡ map unread m.reels → LacksMark shelf serial (up_with o old None) end
    exit_read end less live' contents changed same = record {
      may = may_fill;
      live = live';
      contents = contents;
      changed = changed;
      reels = reels_read serial (filled so.written) old end.rack (record { all = same ∙ becomes_w.all });
      shelved = subst (AreShelved shelf) (sym same) (quiet_m less);
    }

    -- A READ FAILED
    pub failed_read : (o' : OnlineFacts) (new : Rack) → k < needs plan → IsTied o' → o'.live ≡ true → o'.contents ≡ intended_by serial o → o'.changed ≡ o.changed → map unread new.reels ≡ map unread m.reels
        → Belongs (up_with o' new None)
    failed_read o' new less tied' live' contents changed same =
        belongs_up text shelf (up_with o' new None) tied' live' (subst (AreShelved shelf) (sym same) (quiet_m less))
        (up_intended serial o old live tied rules on on_is free told text shelf shelved up new (labels_reads m new same ∙ labels_w) o' contents changed)

    -- THE CONTENT
    module _ (enough : needs plan ≤ k + 1) (whole : All IsBlock so.written) where
      abbrev content : List (List ℕ)
      content = content_of plan so.written

      abbrev the_dump : Dump
      the_dump = dump_of plan content

      pub long_content : length content ≡ content_blocks plan
      long_content = content_is_long serial plan rs begun_o mid m rules (process_away serial o) k enough so

      whole_content : All IsBlock content
      whole_content = λ j d inside.
          let x = get_or content j d in
          All-contains IsBlock so.written x whole
          (from_drop (1 + length plan.users + length plan.files) so.written x (from_take (content_blocks plan) (drop (1 + length plan.users + length plan.files) so.written) x (Contains-get_or content j d inside)))

      keeps_mid : All (λ f. KeepsFile (text f.rec.stamp) (all_dumps shelf (told_reels mid)) f) o.contents.files
      keeps_mid = subst (λ (reels : List Reel). All (λ f. KeepsFile (text f.rec.stamp) (all_dumps shelf reels) f) o.contents.files) (sym only.reels) up.disc.files

      lens : All (λ (r : FileRec). length (text r.stamp) ≡ r.len) rs
      lens = λ j d inside.
          let r = get_or rs j d in
          let (f, there, same) = (All-contains (IsReadable serial o mid) rs r readable.each (Contains-get_or rs j d inside)).file in
          let kept = All-contains (λ (g : File). KeepsFile (text g.rec.stamp) (all_dumps shelf (told_reels mid)) g) o.contents.files f keeps_mid there in
          subst (λ (q : FileRec). length (text q.stamp) ≡ q.len) same kept.rec.len

      parts : AreParts text rs content
      parts i part r b at less is =
          let (block, here, source) = all_read serial plan rs begun_o mid m readable.waiting_are k enough so i r at part less in
          let front : blocks_of (take i (waiting plan.files)) ≡ blocks_of (take i rs) = ap (λ (xs : List FileRec). blocks_of (take i xs)) readable.waiting_are ∙ front_bare i rs in
          let at_waits : slice_get (waiting plan.files) i ≡ Some (bare_rec r) = ap (λ (xs : List FileRec). slice_get xs i) readable.waiting_are ∙ get_map bare_rec rs i r at in
          let below : blocks_of (take i (waiting plan.files)) + part < content_blocks plan = within_content (waiting plan.files) i part (bare_rec r) at_waits less in
          let same : b ≡ block = same_Some b block (sym is ∙ ap (slice_get content) (let e : blocks_of (take i rs) + part ≡ blocks_of (take i (waiting plan.files)) + part = omega (arith, front) in e)
          ∙ content_at serial plan rs begun_o mid m rules (process_away serial o) k enough so (blocks_of (take i (waiting plan.files)) + part) below ∙ here) in
          let readable_r = All-contains (IsReadable serial o mid) rs r readable.each (element rs i r at) in
          let it = source_part shelf mid (subst (AreShelved shelf) (sym only.reels) shelved) (subst (λ (reels : List Reel). ReelsTold reels) (sym only.reels) told.each) text serial o begun_o m r part block live tied told.disc files keeps_mid readable_r less source in
          subst (IsPart (text r.stamp) part) (sym same) it.1

      pub its_content : IsContentOf text serial o content
      its_content = record { long = long_content; blocks = whole_content; lens = lens; parts = parts }

      abbrev with_it : ℕ → List Dump
      with_it = with_dump (dump_of (process_plan serial o) (content_of (process_plan serial o) so.written)) shelf

      pub its_reel : with_it serial ≡ the_dump ∷ []
      its_reel = cond-true (serial == serial) (shelf serial ++ the_dump ∷ []) (shelf serial) (eq-eqb serial serial refl) ∙ ap (λ (ds : List Dump). ds ++ the_dump ∷ []) none_here

      pub others_keep : (n : ℕ) → n ≢ serial → with_it n ≡ shelf n
      others_keep n apart = cond-false (n == serial) (shelf n ++ the_dump ∷ []) (shelf n) (ne_eqb n serial apart)

      rack_with : (x : Rack) → labels x.reels ≡ labels old.reels → RackBelongs text (all_dumps with_it (told_reels x))
      rack_with x same =
          (ready serial o old live tied rules on on_is free told text shelf shelved up content long_content whole_content lens parts x same room mounted).rack

      disc_with : (x : Rack) → labels x.reels ≡ labels old.reels → DiscBelongs text with_it (told_reels x) (intended_by serial o)
      disc_with x same = disc_marked serial o old live tied rules on on_is free told text shelf shelved up content long_content whole_content lens parts x same room mounted

      up_with_it : (x : Rack) → labels x.reels ≡ labels old.reels → (o' : OnlineFacts) → o'.contents ≡ moved_by serial o → o'.changed ≡ [] → IsUp text with_it (up_with o' x None)
      up_with_it x same o' contents changed = up_moved serial o old live tied rules on on_is free told text shelf shelved up content long_content whole_content lens parts x same room mounted o' contents changed

      -- THE WHOLE DUMP
      module _ (all : k ≡ needs plan) where
        pub shelved_with : AreShelved with_it (told_reels m)
        shelved_with = shelved_at (filled so.written) m with_it becomes_w (filled_serial so.written) others_keep
            (λ q was. subst (λ (ds : List Dump). ForSome (filled so.written q).blocks (λ bs. AreCompleted serial bs ds)) (sym its_reel) (by_list so.written so.long q refl))
          where
            one : AreCompleted serial so.written (the_dump ∷ [])
            one = one_dump serial plan rs begun_o mid m rules (process_away serial o) k enough so whole all refl refl

            by_list : (v : List (List ℕ)) → length v ≡ k → (q : Reel) → v ≡ so.written → ForSome (filled v q).blocks (λ bs. AreCompleted serial bs (the_dump ∷ []))
            by_list [] long q is = absurd (let no : ⊥ = omega (arith, long, all) in no)
            by_list (b ∷ bs) long q is = λ x told_x.
                let (y, at, same) = from_map (λ (z : List (List ℕ)). b ∷ bs) q.blocks x told_x in
                subst (λ (z : List (List ℕ)). AreCompleted serial z (the_dump ∷ [])) (sym is ∙ same) one

        -- STOPPED AT THE NEW COPIES
        pub stopped_copies : (o' : OnlineFacts) → ForSome o'.disc.held (λ blocks. Holds blocks (intended_by serial o) ⊎ Holds blocks (moved_by serial o)) → Belongs (spent_with o' m)
        stopped_copies o' either =
            let moved : IsUp text with_it (up_with (record o { contents = moved_by serial o; changed = [] }) m None) = up_with_it m labels_w (record o { contents = moved_by serial o; changed = [] }) refl refl in
            belongs_spent o' m (record {
              text = text;
              shelf = with_it;
              shelved = shelved_with;
              rack = rack_with m labels_w;
              disc = λ blocks c held holds. one_of (disc_with m labels_w) moved.disc blocks c holds (either blocks held);
            })
          where
            one_of : DiscBelongs text with_it (told_reels m) (intended_by serial o) → DiscBelongs text with_it (told_reels m) (moved_by serial o) → (blocks : List (List ℕ)) (c : Contents) → Holds blocks c
                → Holds blocks (intended_by serial o) ⊎ Holds blocks (moved_by serial o) → DiscBelongs text with_it (told_reels m) c
            one_of was now blocks c holds (inl first) = subst (DiscBelongs text with_it (told_reels m)) (holds_one blocks (intended_by serial o) c first holds) was
            one_of was now blocks c holds (inr second) = subst (DiscBelongs text with_it (told_reels m)) (holds_one blocks (moved_by serial o) c second holds) now

        pub exit_copies : (o' : OnlineFacts) → LeavesOnDisc (λ blocks. Holds blocks (intended_by serial o) ⊎ Holds blocks (moved_by serial o)) (up_with o old None) (spent_with o' m)
            → LeavesShelf with_it (up_with o old None) (spent_with o' m) → Stops text shelf serial (up_with o old None) (spent_with o' m)
        exit_copies o' either loss = StopsCopies (record {
          may = may_fill;
          content = content;
          has = its_content;
          reels = beside_zip serial (filled so.written) old m becomes_w (λ r. let long = so.long in
              let size = filled_long so.written r (omega (arith, long, all)) in omega (arith, size, long, all));
          shelved = shelved_with;
        }) either loss

        -- after releases
        module _ (lists : List Listed) (listed : AreListed old lists) (end : StoreFacts) (same : labels end.rack.reels ≡ labels old.reels) (live' : end.online.live ≡ true)
            (contents : end.online.contents ≡ moved_by serial o) (changed : end.online.changed ≡ []) where
          exit_released : (ns : List ℕ) (until : ℕ) (cut : Option ℕ) → AreShelved (without_all ns with_it) (told_reels end.rack) → ((n : ℕ) → has ns n ≡ true → (n < until) × (n ≢ serial))
              → ((r : Reel) → Contains old.reels r → r.serial < until → r.serial ≢ serial → has ns r.serial ≡ false → IsFree r.serial old) → IsLastCut serial until old cut
              → AllZip (IsClearedBy serial until cut old) old.reels end.rack.reels → HasReleased text shelf serial (up_with o old None) end
          exit_released ns until cut shelved_ns below free_r last zip = record {
            may = may_fill;
            content = content;
            has = its_content;
            live = live';
            contents = contents;
            changed = changed;
            until = until;
            cut = cut;
            last = last;
            reels = zip;
            shelved = shelved_same old end.rack (without_all ns with_it) (cleared serial until with_it) (same_serials old.reels end.rack.reels same)
                (λ r there. cleared_same ns serial until with_it r.serial (below r.serial) (λ less apart isnt. others_keep r.serial apart ∙ none_at r there (free_r r there less apart isnt))) shelved_ns;
          }

          pub exit_done : AreReleased (taken serial lists) m end.rack → (is : HasReleased text shelf serial (up_with o old None) end) × (is.cut ≡ None) × All (λ r. r.serial < is.until) old.reels
          unfolding exit_released
          exit_done gone =
              let becomes : Becomes (λ r. released (taken serial lists) (at_serial serial (filled so.written) r)) old end.rack =
              becomes_then (at_serial serial (filled so.written)) (released (taken serial lists)) old m end.rack becomes_w (becomes_released (taken serial lists) m end.rack gone) in (
                exit_released (taken serial lists) (top_of (names lists)) None (shelved_released (taken serial lists) m end.rack with_it gone shelved_with) (all_below serial old mid lists listed are)
                    (λ r there less apart isnt. all_free serial old mid lists listed are r there apart isnt) tt
                    (all_zip serial old mid lists listed are so.written end.rack (let long = so.long in omega (arith, long, all)) becomes),
                refl,
                λ j d inside. all_above serial old mid lists listed are (get_or old.reels j d) (Contains-get_or old.reels j d inside),
              )

          stops_released : (ns : List ℕ) (until : ℕ) (cut : Option ℕ) → AreShelved (without_all ns with_it) (told_reels end.rack) → ((n : ℕ) → has ns n ≡ true → (n < until) × (n ≢ serial))
              → ((r : Reel) → Contains old.reels r → r.serial < until → r.serial ≢ serial → has ns r.serial ≡ false → IsFree r.serial old) → IsLastCut serial until old cut
              → AllZip (IsClearedBy serial until cut old) old.reels end.rack.reels → StaysDurable (up_with o old None) end → (last : ℕ) → IsLastCut serial (last + 1) old (Some last)
              → LeavesEitherShelf (cleared serial last with_it) (cleared serial (last + 1) with_it) (up_with o old None) end → Stops text shelf serial (up_with o old None) end
          unfolding exit_released
          stops_released ns until cut shelved_ns below free_r is_last zip durable last interrupted loss =
              StopsRelease (exit_released ns until cut shelved_ns below free_r is_last zip) durable last interrupted loss

          pub exit_cut : (i : ℕ) (l : Listed) → slice_get lists i ≡ Some l → is_taken serial l ≡ true → (how : Remains) (x : Rack) → AreReleased (taken serial (take i lists)) m x
              → Becomes (at_serial l.serial (left_by how 0)) x end.rack → StaysDurable (up_with o old None) end
              → LeavesEitherShelf (cleared serial l.serial with_it) (cleared serial (l.serial + 1) with_it) (up_with o old None) end → Stops text shelf serial (up_with o old None) end
          exit_cut i l at taken_l how x gone cut durable loss =
              by_how how (shelved_by_cut l.serial how x end.rack (without_all (taken serial (take i lists)) with_it) cut (shelved_released (taken serial (take i lists)) m x with_it gone shelved_with)) becomes
            where
              some : 0 < length so.written
              some = let long = so.long in omega (arith, long, all)

              becomes : Becomes (λ r. at_serial l.serial (left_by how 0) (released (taken serial (take i lists)) (at_serial serial (filled so.written) r))) old end.rack
              becomes =
                  becomes_then (λ r. released (taken serial (take i lists)) (at_serial serial (filled so.written) r)) (at_serial l.serial (left_by how 0)) old x end.rack
                  (becomes_then (at_serial serial (filled so.written)) (released (taken serial (take i lists))) old m x becomes_w (becomes_released (taken serial (take i lists)) m x gone)) cut

              is_last : IsLastCut serial (l.serial + 1) old (Some l.serial)
              is_last = (refl, (l_taken serial old mid lists listed are i l at taken_l).1, (l_taken serial old mid lists listed are i l at taken_l).0, l_there serial old mid lists listed are i l at taken_l)

              -- the reel whose release was cut
              with_cut : (other : Remains) → AreShelved (without_reel l.serial (without_all (taken serial (take i lists)) with_it)) (told_reels end.rack)
                  → Becomes (λ r. at_serial l.serial (left_by other 0) (released (taken serial (take i lists)) (at_serial serial (filled so.written) r))) old end.rack → Stops text shelf serial (up_with o old None) end
              with_cut other shelved_l becomes_l =
                  stops_released (l.serial ∷ taken serial (take i lists)) (l.serial + 1) (Some l.serial) shelved_l
                  (λ n is. by_or n (or_cases (l.serial == n) (has (taken serial (take i lists)) n) is))
                  (λ r there less apart isnt. by_place r there less apart isnt (eqb_tells l.serial r.serial))
                  is_last
                  (part_zip serial old mid lists listed are i l at taken_l (l.serial + 1) (Some l.serial) so.written other end.rack (omega arith) (omega arith) some
                  (λ r named. inr (omega (arith, named), inr (subst (λ (n : ℕ). IsTaken n old) (sym named) (l_taken serial old mid lists listed are i l at taken_l).0, inr (ap Some (sym named))))) becomes_l)
                  durable l.serial is_last loss
                where
                  by_or : (n : ℕ) → ((l.serial == n) ≡ true) ⊎ (has (taken serial (take i lists)) n ≡ true) → (n < l.serial + 1) × (n ≢ serial)
                  by_or n (inl here) = let e = eqb-true l.serial n here in (omega (arith, e), subst (λ (x : ℕ). x ≢ serial) e (l_taken serial old mid lists listed are i l at taken_l).1)
                  by_or n (inr more) = let (less, apart) = part_below serial old mid lists listed are i l at taken_l n more in (omega (arith, less), apart)

                  by_place : (r : Reel) → Contains old.reels r → r.serial < l.serial + 1 → r.serial ≢ serial → ((l.serial == r.serial) || has (taken serial (take i lists)) r.serial) ≡ false
                      → (((l.serial == r.serial) ≡ true) × (l.serial ≡ r.serial)) ⊎ (((l.serial == r.serial) ≡ false) × (l.serial ≡ r.serial → ⊥)) → IsFree r.serial old
                  by_place r there less apart isnt (inl h) = absurd (let e = ap (λ (b : Bool). b || has (taken serial (take i lists)) r.serial) (sym h.0) ∙ isnt in (let no : ⊥ = cc in no))
                  by_place r there less apart isnt (inr h) =
                      part_free serial old mid lists listed are i l at taken_l r there (by_order (cases_order r.serial l.serial)) apart
                      (ap (λ (b : Bool). b || has (taken serial (take i lists)) r.serial) (sym h.0) ∙ isnt)
                    where
                      by_order : (r.serial ≡ l.serial) ⊎ ((r.serial < l.serial) ⊎ (l.serial < r.serial)) → r.serial < l.serial
                      by_order (inl e) = absurd (h.1 (sym e))
                      by_order (inr (inl before)) = before
                      by_order (inr (inr behind)) = absurd (let no : ⊥ = omega (arith, behind, less) in no)

              by_how : (other : Remains) → ByCut other (AreShelved (without_all (taken serial (take i lists)) with_it) (told_reels end.rack))
                  (AreShelved (without_reel l.serial (without_all (taken serial (take i lists)) with_it)) (told_reels end.rack))
                  → Becomes (λ r. at_serial l.serial (left_by other 0) (released (taken serial (take i lists)) (at_serial serial (filled so.written) r))) old end.rack
                  → Stops text shelf serial (up_with o old None) end
              by_how Unchanged kept is =
                  stops_released (taken serial (take i lists)) l.serial None kept (part_below serial old mid lists listed are i l at taken_l) (part_free serial old mid lists listed are i l at taken_l) tt
                  (part_zip serial old mid lists listed are i l at taken_l l.serial None so.written Unchanged end.rack (omega arith) (omega arith) some (λ r named. inl (omega (arith, named), refl)) is)
                  durable l.serial is_last loss
              by_how Shortened away is = with_cut Shortened away is
              by_how (Torn block) away is = with_cut (Torn block) away is

        up_without : (ns : List ℕ) (new : Rack) → labels new.reels ≡ labels old.reels → (has ns serial ≡ true → ⊥) → (o' : OnlineFacts) → o'.contents ≡ moved_by serial o → o'.changed ≡ []
            → IsUp text (without_all ns with_it) (up_with o' new None)
        up_without ns new same never o' contents changed =
            without_dump text (without_all ns with_it) new (record o { contents = moved_by serial o; changed = [] }) o' contents changed
            (up_released serial o old live tied rules on on_is free told text shelf shelved up content long_content whole_content lens parts new same room mounted ns never)

        pub processed_belongs : (ns : List ℕ) (new : Rack) → AreReleased ns m new → labels new.reels ≡ labels old.reels → (has ns serial ≡ true → ⊥) → (o' : OnlineFacts) → IsTied o' → o'.live ≡ true
            → o'.contents ≡ moved_by serial o → o'.changed ≡ [] → Belongs (up_with o' new None)
        processed_belongs ns new gone same never o' tied' live' contents changed =
            belongs_up text (without_all ns with_it) (up_with o' new None) tied' live' (shelved_released ns m new with_it gone shelved_with) (up_without ns new same never o' contents changed)

        pub cut_belongs : (ns : List ℕ) (n : ℕ) (how : Remains) (x new : Rack) → AreReleased ns m x → Becomes (at_serial n (left_by how 0)) x new → labels new.reels ≡ labels old.reels
            → (has ns serial ≡ true → ⊥) → n ≢ serial → (o' : OnlineFacts) → IsTied o' → o'.live ≡ true → o'.contents ≡ moved_by serial o → o'.changed ≡ [] → Belongs (spent_with o' new)
        cut_belongs ns n how x new gone cut same never apart o' tied' live' contents changed =
            by_case (shelved_cut n how x new (without_all ns with_it) cut (shelved_released ns m x with_it gone shelved_with))
          where
            devices : (ms : List ℕ) → (has ms serial ≡ true → ⊥) → AreShelved (without_all ms with_it) (told_reels new) → Belongs (spent_with o' new)
            devices ms never_ms shelved_ms =
                let moved : IsUp text (without_all ms with_it) (up_with o' new None) = up_without ms new same never_ms o' contents changed in
                belongs_spent o' new (devices_belong text (without_all ms with_it) (told_reels new) o' tied' live' shelved_ms moved.rack moved.disc)

            by_case : AreShelved (without_all ns with_it) (told_reels new) ⊎ AreShelved (without_reel n (without_all ns with_it)) (told_reels new) → Belongs (spent_with o' new)
            by_case (inl as_was) = devices ns never as_was
            by_case (inr without) =
                devices (n ∷ ns) (λ is. never (sym (ap (λ (b : Bool). b || has ns serial) (ne_eqb n serial apart)) ∙ is)) without

      -- STOPPED AT A BLOCK of the dump, which may be its mark
      at_mark : (how : Remains) → k + 1 ≡ needs plan → AreCompleted serial (left_in how k so.written) [] ⊎ AreCompleted serial (left_in how k so.written) (the_dump ∷ [])
      at_mark how last =
          let long = so.long in
          let long_c = long_content in
          let files_long = length-made serial 0 (first_content plan) plan.files in
          let place : 0 + (count_of the_dump + 1) ≡ k = omega (arith, last, long_c, files_long) in
          subst (λ (n : ℕ). AreCompleted serial (left_in how n so.written) [] ⊎ AreCompleted serial (left_in how n so.written) (the_dump ∷ [])) place
          (mark_completes serial so.written [] the_dump how (empty so.written so.long header) (begun serial plan rs begun_o mid m rules (process_away serial o) k enough so whole last refl refl))
        where
          empty : (v : List (List ℕ)) → length v ≡ k → ((b : List ℕ) → slice_get v 0 ≡ Some b → IsReadyAt plan 0 b) → AreCompleted serial v []
          empty [] long first = one_block_is_none serial [] (omega arith)
          empty (b ∷ bs) long first = none_short serial plan rules (process_away serial o) refl refl (b ∷ bs) b refl (first b refl) (omega (arith, long, last))

      left_some : (how : Remains) → k + 1 ≡ needs plan → (ds : List Dump) → AreCompleted serial (left_in how k so.written) ds → (q : Reel) → ForSome (left_by how k (filled so.written q)).blocks (λ bs. AreCompleted serial bs ds)
      left_some how last ds is q = by_list so.written so.long is
        where
          by_list : (v : List (List ℕ)) → length v ≡ k → AreCompleted serial (left_in how k v) ds → ForSome (left_by how k (filled v q)).blocks (λ bs. AreCompleted serial bs ds)
          by_list [] long completed = absurd (let no : ⊥ = omega (arith, long, last) in no)
          by_list (b ∷ bs) long completed = λ x told_x. subst (λ (y : List (List ℕ)). AreCompleted serial y ds) (left_blocks how k b bs q x told_x) completed

      keeps_name : (how : Remains) (r : Reel) → (left_by how k (filled so.written r)).serial ≡ r.serial
      keeps_name how r = left_name how k (filled so.written r) ∙ filled_serial so.written r

      shelved_none : (new : Rack) (how : Remains) → k + 1 ≡ needs plan → Becomes (at_serial serial (λ r. left_by how k (filled so.written r))) old new → AreCompleted serial (left_in how k so.written) []
          → AreShelved shelf (told_reels new)
      shelved_none new how last is none =
          shelved_at (λ r. left_by how k (filled so.written r)) new shelf is (keeps_name how) (λ n apart. refl)
          (λ q was. left_some how last (shelf serial) (subst (AreCompleted serial (left_in how k so.written)) (sym none_here) none) q)

      shelved_one : (new : Rack) (how : Remains) → k + 1 ≡ needs plan → Becomes (at_serial serial (λ r. left_by how k (filled so.written r))) old new
          → AreCompleted serial (left_in how k so.written) (the_dump ∷ []) → AreShelved with_it (told_reels new)
      shelved_one new how last is one =
          shelved_at (λ r. left_by how k (filled so.written r)) new with_it is (keeps_name how) others_keep
          (λ q was. left_some how last (with_it serial) (subst (AreCompleted serial (left_in how k so.written)) (sym its_reel) one) q)

      pub exit_mark : (end : StoreFacts) (how : Remains) → k + 1 ≡ needs plan → Becomes (at_serial serial (λ r. left_by how k (filled so.written r))) old end.rack
          → end.online.live ≡ true → end.online.contents ≡ intended_by serial o → end.online.changed ≡ o.changed → StaysDurable (up_with o old None) end
          → LeavesEitherShelf shelf with_it (up_with o old None) end → Stops text shelf serial (up_with o old None) end
      exit_mark end how last is live' contents changed durable loss = by_mark (at_mark how last)
        where
          beside : AllZip (IsBesideDump serial) old.reels end.rack.reels
          beside = beside_zip serial (λ r. left_by how k (filled so.written r)) old end.rack is (λ r.
              let long = so.long in
              let some : 0 < k = omega (arith, last) in
              left_long how k (filled so.written r) some (let size = filled_long so.written r (omega (arith, long, some)) in omega (arith, size, long, some)))

          by_mark : AreCompleted serial (left_in how k so.written) [] ⊎ AreCompleted serial (left_in how k so.written) (the_dump ∷ []) → Stops text shelf serial (up_with o old None) end
          by_mark (inl none) = StopsUnmarked (record {
            may = may_fill;
            live = live';
            contents = contents;
            changed = changed;
            reels = reels_read serial (λ r. left_by how k (filled so.written r)) old end.rack is;
            shelved = shelved_none end.rack how last is none;
          }) beside durable content its_content loss
          by_mark (inr one) = StopsMark (record { may = may_fill; content = content; has = its_content; reels = beside; shelved = shelved_one end.rack how last is one }) live' contents durable loss

      pub torn_mark : (o' : OnlineFacts) (new : Rack) (how : Remains) → k + 1 ≡ needs plan → Becomes (at_serial serial (λ r. left_by how k (filled so.written r))) old new → labels new.reels ≡ labels old.reels
          → IsTied o' → o'.live ≡ true → o'.contents ≡ intended_by serial o → Belongs (spent_with o' new)
      torn_mark o' new how last is same tied' live' contents = by_mark (at_mark how last)
        where
          by_mark : AreCompleted serial (left_in how k so.written) [] ⊎ AreCompleted serial (left_in how k so.written) (the_dump ∷ []) → Belongs (spent_with o' new)
          by_mark (inl none) =
              belongs_spent o' new (devices_belong text shelf (told_reels new) o' tied' live' (shelved_none new how last is none) (up_here new same).rack
              (subst (DiscBelongs text shelf (told_reels new)) (sym contents) (intended_here new same)))
          by_mark (inr one) =
              belongs_spent o' new (devices_belong text with_it (told_reels new) o' tied' live' (shelved_one new how last is one) (rack_with new same)
              (subst (DiscBelongs text with_it (told_reels new)) (sym contents) (disc_with new same)))

    -- or a block before it
    quiet_left : (new : Rack) (how : Remains) → k + 1 < needs plan → Becomes (at_serial serial (λ r. left_by how k (filled so.written r))) old new → AreShelved shelf (told_reels new)
    quiet_left new how less is = shelved_at (λ r. left_by how k (filled so.written r)) new shelf is (λ r. left_name how k (filled so.written r) ∙ filled_serial so.written r) (λ n apart. refl)
        (λ q was. subst (λ (ds : List Dump). ForSome (left_by how k (filled so.written q)).blocks (λ bs. AreCompleted serial bs ds)) (sym none_here) (left_none how less q was))

    pub exit_before : (end : StoreFacts) (how : Remains) → k + 1 < needs plan → Becomes (at_serial serial (λ r. left_by how k (filled so.written r))) old end.rack
        → end.online.live ≡ true → end.online.contents ≡ intended_by serial o → end.online.changed ≡ o.changed → StaysDurable (up_with o old None) end → LeavesShelf shelf (up_with o old None) end
        → Stops text shelf serial (up_with o old None) end
    exit_before end how less is live' contents changed durable loss = StopsBefore (record {
      may = may_fill;
      live = live';
      contents = contents;
      changed = changed;
      reels = reels_read serial (λ r. left_by how k (filled so.written r)) old end.rack is;
      shelved = quiet_left end.rack how less is;
    }) durable loss

    pub torn_before : (o' : OnlineFacts) (new : Rack) (how : Remains) → k + 1 < needs plan → Becomes (at_serial serial (λ r. left_by how k (filled so.written r))) old new → labels new.reels ≡ labels old.reels
        → IsTied o' → o'.live ≡ true → o'.contents ≡ intended_by serial o → Belongs (spent_with o' new)
    torn_before o' new how less is same tied' live' contents =
        belongs_spent o' new (devices_belong text shelf (told_reels new) o' tied' live' (quiet_left new how less is) (up_here new same).rack
        (subst (DiscBelongs text shelf (told_reels new)) (sym contents) (intended_here new same)))

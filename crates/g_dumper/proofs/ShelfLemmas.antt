-- The completed dumps of the rack after a write of the next block of an open dump.
-- serves: KeepLemmas, OpeningLemmas, SafeLemmas, crates above
use Rattle.std.proofs.Common.{◌≡◌, ◌≢◌, ℕ, ◌+◌, ◌<◌, ◌≤◌, ◌==◌, true, List, [], ◌∷◌, ◌++◌, get_or, length, map, take, Option, Some, None, refl, sym, ◌∙◌, ap, arith, subst, inl, inr}
use Rattle.std.specs.Prelude.{◌⊎◌, All, Contains, is_some, option_map, slice_get}
use Rattle.std.specs.Option.{ForSome}
use Rattle.std.proofs.lemmas.Bool.{cond-false, cond-true, eq-eqb, ne_eqb}
use Rattle.std.proofs.lemmas.List.Elements.{All-contains, All-head, All-tail, Contains-get_or}
use Rattle.std.proofs.lemmas.Option.{same_Some}
use Rattle.g_tape.specs.Rack.{AreReels, Rack, reel, with_reel}
use Rattle.g_tape.specs.Reads.{unread}
use Rattle.g_tape.specs.Reel.{Reel, Remains, Shortened, Torn, Unchanged, left_by}
use Rattle.g_tape.proofs.ReadLemmas.{is_reel}
use Rattle.g_tape.proofs.PlaceLemmas.{reel-found}
use Rattle.g_disc_contents.specs.Facts.{OnlineFacts}
use Rattle.g_incr.specs.Layout.{Dump, count_of, dump_blocks, mark_block}
use Rattle.g_incr.specs.Plan.{dump_of, first_content, needs, waiting}
use Rattle.g_incr.proofs.PieceLemmas.{at_mark}
use Rattle.g_incr.proofs.PlanLemmas.{length-made}
use Rattle.g_shelf.specs.CompletedDumps.{AreCompleted, AreShelved, number_behind}
use Rattle.g_shelf.specs.QuietWrites.{IsBegun, left_in}
use Rattle.g_shelf.proofs.MarkLemmas.{completed_by_mark, mark_completes}
use Rattle.g_shelf.proofs.QuietLemmas.{quiet_blocks}
use Rattle.g_store_meaning.specs.Meaning.{told_reels}
use Rattle.g_store_meaning.specs.Reading.{ReelsTold}
use Rattle.g_store_meaning.specs.StoreInvariant.{DumpFacts, IsOpen, IsReady, IsUp, content_in, with_dump}
use Rattle.g_laws_store.proofs.UpOneLemmas.{on_all, placed_at_end}
use Rattle.g_laws_store.proofs.WaitingLemmas.{mapped_there}
use Rattle.g_dumper.specs.Invariant.{up_with}
use Rattle.g_dumper.proofs.BeginLemmas.{reel_named}
use Rattle.g_dumper.proofs.NextLemmas.{content_long}
use Rattle.g_dumper.proofs.ReelLemmas.{shelf_after}

-- the reel of a serial is among the exposed reels
pub reel_there : (s : ℕ) (rs : List Reel) (r : Reel) → reel s rs ≡ Some r → Contains (map unread rs) (unread r)
reel_there s rs r is = mapped_there unread rs r (reel-found s rs r is).0

pub told_is : (o : Option (List (List ℕ))) → is_some o ≡ true → (blocks : List (List ℕ)) × (o ≡ Some blocks)
told_is None is = let no : ⊥ = cc in absurd no
told_is (Some blocks) is = (blocks, refl)

-- the numbers after dumps of which none is newer
number_most : (last from : ℕ) (ds : List Dump) → from ≤ last + 1 → All (λ (d : Dump). d.number ≤ last) ds → number_behind from ds ≤ last + 1
number_most last from [] low all = low
number_most last from (d ∷ ds) low all =
    let here = All-head (λ (e : Dump). e.number ≤ last) d ds all in
    number_most last (d.number + 1) ds (omega (arith, here)) (All-tail (λ (e : Dump). e.number ≤ last) d ds all)

-- what a write leaves of the blocks
pub left_blocks : (how : Remains) (k : ℕ) (r : Reel) (was blocks : List (List ℕ)) → r.blocks ≡ Some was → (left_by how k r).blocks ≡ Some blocks → blocks ≡ left_in how k was
left_blocks Unchanged k r was blocks at is = same_Some blocks was (sym is ∙ at)
left_blocks Shortened k r was blocks at is = same_Some blocks (take k was) (sym is ∙ ap (option_map (take k)) at)
left_blocks (Torn block) k r was blocks at is =
    same_Some blocks (take k was ++ block ∷ []) (sym is ∙ ap (option_map (λ (bs : List (List ℕ)). take k bs ++ block ∷ [])) at)

pub left_serial : (how : Remains) (k : ℕ) (r : Reel) → (left_by how k r).serial ≡ r.serial
left_serial Unchanged k r = refl
left_serial Shortened k r = refl
left_serial (Torn block) k r = refl

mapped_some : {A B : Type 0} (f : A → B) (o : Option A) → is_some (option_map f o) ≡ is_some o
mapped_some f None = refl
mapped_some f (Some x) = refl

pub left_told : (how : Remains) (k : ℕ) (r : Reel) → is_some (left_by how k r).blocks ≡ is_some r.blocks
left_told Unchanged k r = refl
left_told Shortened k r = mapped_some (take k) r.blocks
left_told (Torn block) k r = mapped_some (λ (bs : List (List ℕ)). take k bs ++ block ∷ []) r.blocks

-- an open dump of a store that is up, if all reels expose their contents
module _ (d : DumpFacts) (o : OnlineFacts) (old : Rack) (reels : AreReels old.reels) (tell : ReelsTold (told_reels old)) (is : IsOpen d o old) (text : ℕ → List ℕ) (shelf : ℕ → List Dump)
    (shelved : AreShelved shelf (told_reels old)) (up : IsUp text shelf (up_with o old (Some d))) (content : List (List ℕ)) (has : content_in is.pins ≡ Some content) where
  abbrev made : Dump
  made = dump_of d.plan content

  abbrev at : ℕ
  at = d.plan.place + d.done

  pub ready : IsReady text shelf (told_reels old) o made
  ready = up.open_dump is.pins is.pinned content has

  there_on : Contains (told_reels old) (unread is.on)
  there_on = reel_there d.plan.serial old.reels is.on is.reel_is

  named_on : is.on.serial ≡ d.plan.serial
  named_on = reel_named d.plan.serial old.reels is.on is.reel_is

  pub the_blocks : (blocks : List (List ℕ)) × (is.on.blocks ≡ Some blocks)
  the_blocks = told_is is.on.blocks (All-contains (λ (r : Reel). is_some r.blocks ≡ true) (told_reels old) (unread is.on) tell.each there_on)

  pub counts : count_of made + 2 ≡ needs d.plan
  counts =
      let long = content_long d.plan.serial (first_content d.plan) (waiting d.plan.files) is.pins content is.are has in
      let files = length-made d.plan.serial 0 (first_content d.plan) d.plan.files in
      omega (arith, long, files)

  pub now : AreCompleted d.plan.serial the_blocks.0 (shelf d.plan.serial)
  now = subst (λ (n : ℕ). AreCompleted n the_blocks.0 (shelf n)) named_on (shelved.each (unread is.on) there_on the_blocks.0 the_blocks.1)

  lowest : number_behind 0 (shelf d.plan.serial) ≤ d.plan.number
  lowest =
      let all = number_most o.contents.head.last_dump 0 (shelf d.plan.serial) (omega arith)
      (λ k e within.
      let x = get_or (shelf d.plan.serial) k e in
      up.quiet x (on_all shelf (told_reels old) (unread is.on) x there_on (subst (λ (n : ℕ). Contains (shelf n) x) (sym named_on) (Contains-get_or (shelf d.plan.serial) k e within)))) in
      let number = is.number in
      omega (arith, all, number)

  pub begun : IsBegun d.plan.serial the_blocks.0 (shelf d.plan.serial) d.done made
  begun =
      let right = is_reel d.plan.serial old.reels is.on reels.each is.reel_is in
      record {
        rules = ready.rules;
        on = refl;
        place = placed_at_end text shelf (told_reels old) o.contents (record { serial = d.plan.serial; place = d.plan.place; number = d.plan.number }) up.disc up.quiet is.intent;
        number = lowest;
        length = λ some. right.told the_blocks.0 the_blocks.1 ∙ is.length_is some;
        blocks = λ some. is.written some the_blocks.0 the_blocks.1 content has;
      }

  -- what is so of the written reel is so of each that is the written reel
  on_reel : (how : Remains) (dumps : List Dump) → AreCompleted d.plan.serial (left_in how at the_blocks.0) dumps → (r : Reel) → reel d.plan.serial old.reels ≡ Some r
      → ForSome (left_by how at r).blocks (λ blocks. AreCompleted d.plan.serial blocks dumps)
  on_reel how dumps then_completed r here = λ blocks found.
      let same : is.on ≡ r = same_Some is.on r (sym is.reel_is ∙ here) in
      let was : r.blocks ≡ Some the_blocks.0 = ap (λ (x : Reel). x.blocks) (sym same) ∙ the_blocks.1 in
      subst (λ (bs : List (List ℕ)). AreCompleted d.plan.serial bs dumps) (sym (left_blocks how at r the_blocks.0 blocks was found)) then_completed

  -- the other reels' dumps stay, and this one's are with the new dump
  other_reel : (n : ℕ) → (n ≡ d.plan.serial → ⊥) → with_dump made shelf n ≡ shelf n
  other_reel n other = cond-false (n == d.plan.serial) (shelf n ++ made ∷ []) (shelf n) (ne_eqb n d.plan.serial other)

  pub this_reel : with_dump made shelf d.plan.serial ≡ shelf d.plan.serial ++ made ∷ []
  this_reel = cond-true (d.plan.serial == d.plan.serial) (shelf d.plan.serial ++ made ∷ []) (shelf d.plan.serial) (eq-eqb d.plan.serial d.plan.serial refl)

  abbrev ShelvedAs : (ℕ → List Dump) → Remains → Type 0
  ShelvedAs next how = AreShelved next (map unread (with_reel d.plan.serial (left_by how at) old.reels))

  stays : (how : Remains) → AreCompleted d.plan.serial (left_in how at the_blocks.0) (shelf d.plan.serial) → ShelvedAs shelf how
  stays how then_completed =
      shelf_after d.plan.serial (left_by how at) (left_serial how at) shelf shelf (λ n other. refl) old.reels reels shelved (on_reel how (shelf d.plan.serial) then_completed)

  adds : (how : Remains) → AreCompleted d.plan.serial (left_in how at the_blocks.0) (shelf d.plan.serial ++ made ∷ []) → ShelvedAs (with_dump made shelf) how
  adds how then_completed =
      shelf_after d.plan.serial (left_by how at) (left_serial how at) shelf (with_dump made shelf) other_reel old.reels reels shelved
      (subst (λ (ds : List Dump). (r : Reel) → reel d.plan.serial old.reels ≡ Some r → ForSome (left_by how at r).blocks (λ blocks. AreCompleted d.plan.serial blocks ds)) (sym this_reel)
      (on_reel how (shelf d.plan.serial ++ made ∷ []) then_completed))

  -- before the mark nothing changes, whether or not the write failed
  pub quiet_shelf : (how : Remains) → d.done + 1 < needs d.plan → ShelvedAs shelf how
  quiet_shelf how less =
      let sum = counts in
      stays how (quiet_blocks d.plan.serial the_blocks.0 (shelf d.plan.serial) d.done made how now begun (omega (arith, less, sum)))

  -- AT THE MARK the dump is added, or not
  module _ (last : d.done + 1 ≡ needs d.plan) where
    at_count : d.done ≡ count_of made + 1
    at_count = let sum = counts in omega (arith, last, sum)

    begun_last : IsBegun d.plan.serial the_blocks.0 (shelf d.plan.serial) (count_of made + 1) made
    begun_last = subst (λ (j : ℕ). IsBegun d.plan.serial the_blocks.0 (shelf d.plan.serial) j made) at_count begun

    abbrev LeftAs : Remains → List Dump → Type 0
    LeftAs how dumps = AreCompleted d.plan.serial (left_in how at the_blocks.0) dumps

    back_to : (how : Remains) (dumps : List Dump) → AreCompleted d.plan.serial (left_in how (made.place + (count_of made + 1)) the_blocks.0) dumps → LeftAs how dumps
    back_to how dumps then_completed =
        subst (λ (j : ℕ). AreCompleted d.plan.serial (left_in how (d.plan.place + j) the_blocks.0) dumps) (sym at_count) then_completed

    pub cut_shelf : (how : Remains) → ShelvedAs shelf how ⊎ ShelvedAs (with_dump made shelf) how
    cut_shelf how = by_case (mark_completes d.plan.serial the_blocks.0 (shelf d.plan.serial) made how now begun_last)
      where
        by_case : AreCompleted d.plan.serial (left_in how (made.place + (count_of made + 1)) the_blocks.0) (shelf d.plan.serial)
            ⊎ AreCompleted d.plan.serial (left_in how (made.place + (count_of made + 1)) the_blocks.0) (shelf d.plan.serial ++ made ∷ [])
            → ShelvedAs shelf how ⊎ ShelvedAs (with_dump made shelf) how
        by_case (inl same) = inl (stays how (back_to how (shelf d.plan.serial) same))
        by_case (inr more) = inr (adds how (back_to how (shelf d.plan.serial ++ made ∷ []) more))

    pub marked_shelf : (block : List ℕ) → slice_get (dump_blocks made) d.done ≡ Some block → ShelvedAs (with_dump made shelf) (Torn block)
    marked_shelf block next =
        let mark : mark_block made ≡ block = same_Some (mark_block made) block (sym (at_mark made d.done at_count) ∙ next) in
        adds (Torn block) (back_to (Torn block) (shelf d.plan.serial ++ made ∷ [])
        (subst (λ (b : List ℕ). AreCompleted d.plan.serial (left_in (Torn b) (made.place + (count_of made + 1)) the_blocks.0) (shelf d.plan.serial ++ made ∷ [])) mark
        (completed_by_mark d.plan.serial the_blocks.0 (shelf d.plan.serial) made now begun_last)))

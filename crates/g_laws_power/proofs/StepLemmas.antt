-- What a power loss leaves after a step of an open dump.
-- serves: step_losses (safe), StepStateLemmas
use Rattle.std.proofs.Common.{◌≡◌, ℕ, zero, suc, ◌+◌, ◌<◌, ◌==◌, Bool, true, false, List, [], ◌∷◌, ◌++◌, map, Option, Some, None, Result, Err, refl, sym, ◌∙◌, ap, arith, subst, inl, inr}
use Rattle.std.specs.Prelude.{◌⊎◌, All, AllPairs, Contains, IfSome}
use Rattle.std.specs.List.{AllZip}
use Rattle.std.specs.Option.{ForSome}
use Rattle.std.proofs.lemmas.Bool.{cases_eq, cond-false, ne_eqb}
use Rattle.std.proofs.lemmas.List.Elements.{All-contains}
use Rattle.std.proofs.lemmas.List.Kept.{AllPairs-from_increasing}
use Rattle.std.proofs.lemmas.Option.{same_Some}
use Rattle.g_disc.specs.Durable.{MayLeave}
use Rattle.g_tape.specs.Rack.{Rack}
use Rattle.g_tape.specs.Reads.{unread}
use Rattle.g_tape.specs.Reel.{Reel}
use Rattle.g_tape.proofs.PlaceLemmas.{reel-found}
use Rattle.g_plain.specs.declared.faults.StoreFault.{StoreFault}
use Rattle.g_plain.specs.declared.faults.StoreFault.TheVariants.{Stopped}
use Rattle.g_plain.proofs.Found.{some_of}
use Rattle.g_disc_contents.specs.Contents.{Holds}
use Rattle.g_disc_contents.specs.Facts.{OnlineFacts, Pin}
use Rattle.g_disc_contents.proofs.HoldLemmas.{holds_one}
use Rattle.g_incr.specs.Layout.{Dump}
use Rattle.g_incr.specs.Plan.{dump_of}
use Rattle.g_shelf.specs.CompletedDumps.{AreCompleted, AreShelved, all_dumps}
use Rattle.g_shelf.specs.Surviving.{DumpsSurvive}
use Rattle.g_store_model.specs.DumpSteps.{Stepped}
use Rattle.g_store_meaning.specs.Belonging.{BelongWith, DiscBelongs, RackBelongs}
use Rattle.g_store_meaning.specs.Meaning.{told_reels}
use Rattle.g_store_meaning.specs.Safety.{AreSafe, CanBeSafe, IsLeft, IsSafe}
use Rattle.g_store_meaning.specs.StoreInvariant.{DumpFacts, IsReady, IsUp, StoreFacts, content_in, with_dump}
use Rattle.g_store_meaning.specs.Surviving.{PowerLossLeavesEither, with_disc_left}
use Rattle.g_laws_store.proofs.DumpingLemmas.{moved_disc, moved_rack}
use Rattle.g_laws_store.proofs.RecordLemmas.{pairs_head, pairs_tail}
use Rattle.g_dumper.specs.Invariant.{StoppedStepLeaves, StopsAtClosing, StopsAtMark, StopsBeforeMark}
use Rattle.g_store.specs.Dumping.{KeepsDumpsSafe, LeavesAfterStep}
use Rattle.g_store.specs.Events.{IsAnsweredBy, IsStepOfDump, StepsDump}
use Rattle.g_laws_power.specs.Devices.{StepsKeepSafe}
use Rattle.g_laws_power.proofs.LeftLemmas.{belong_left, left_each, serials_in, told_in}
use Rattle.g_laws_power.proofs.SurvivalLemmas.{holds_left, left_is_durable}

-- ONE REEL MAY HAVE EITHER OF TWO LISTS OF DUMPS, the others have one of their own: then so do the shelves
shelved_cons : (shelf : ℕ → List Dump) (q : Reel) (qs : List Reel) → ForSome q.blocks (λ blocks. AreCompleted q.serial blocks (shelf q.serial)) → AreShelved shelf qs → AreShelved shelf (q ∷ qs)
shelved_cons shelf q qs one rest = record { each = by }
  where
    by : (r : Reel) → Contains (q ∷ qs) r → ForSome r.blocks (λ blocks. AreCompleted r.serial blocks (shelf r.serial))
    by r (zero, inside, at) = subst (λ (x : Reel). ForSome x.blocks (λ blocks. AreCompleted x.serial blocks (shelf x.serial))) at one
    by r (suc i, inside, at) = rest.each r (i, omega (arith, inside), at)

abbrev Either : (ℕ → List Dump) → (ℕ → List Dump) → Reel → Type 0
Either shelf more r = ForSome r.blocks (λ blocks. AreCompleted r.serial blocks (shelf r.serial) ⊎ AreCompleted r.serial blocks (more r.serial))

later : (q : Reel) (qs : List Reel) (r : Reel) → Contains qs r → Contains (q ∷ qs) r
later q qs r (i, inside, at) = (suc i, omega (arith, inside), at)

abbrev Below : ℕ → ℕ → Type 0
Below m n = m < n

serial_there : (reels : List Reel) (r : Reel) → Contains reels r → Contains (map (λ (x : Reel). x.serial) reels) r.serial
serial_there [] r (i, inside, at) = absurd (let no : ⊥ = omega (arith, inside) in no)
serial_there (q ∷ qs) r (zero, inside, at) = (0, omega arith, ap (λ (x : Reel). x.serial) at)
serial_there (q ∷ qs) r (suc i, inside, at) =
    let (j, within, is) = serial_there qs r (i, omega (arith, inside), at) in
    (suc j, omega (arith, within), is)

module _ (serial : ℕ) (shelf more : ℕ → List Dump) (others : (n : ℕ) → (n ≡ serial → ⊥) → more n ≡ shelf n) where
  plain : (r : Reel) → (r.serial ≡ serial → ⊥) → Either shelf more r → ForSome r.blocks (λ blocks. AreCompleted r.serial blocks (shelf r.serial))
  plain r apart has blocks at = by (has blocks at)
    where
      by : AreCompleted r.serial blocks (shelf r.serial) ⊎ AreCompleted r.serial blocks (more r.serial) → AreCompleted r.serial blocks (shelf r.serial)
      by (inl is) = is
      by (inr is) = subst (AreCompleted r.serial blocks) (others r.serial apart) is

  added : (r : Reel) → (r.serial ≡ serial → ⊥) → Either shelf more r → ForSome r.blocks (λ blocks. AreCompleted r.serial blocks (more r.serial))
  added r apart has blocks at = subst (AreCompleted r.serial blocks) (sym (others r.serial apart)) (plain r apart has blocks at)

  one_shelf : (rs : List Reel) → AllPairs Below (map (λ (x : Reel). x.serial) rs) → ((r : Reel) → Contains rs r → Either shelf more r) → AreShelved shelf rs ⊎ AreShelved more rs
  one_shelf [] rising each = inl (record { each = λ r (i, inside, at). absurd (let no : ⊥ = omega (arith, inside) in no) })
  one_shelf (q ∷ qs) rising each =
      by (cases_eq q.serial serial)
      (one_shelf qs (pairs_tail Below q.serial (map (λ (x : Reel). x.serial) qs) rising) (λ r there. each r (later q qs r there)))
    where
      here : Either shelf more q
      here = each q (0, omega arith, refl)

      by_first : (q.serial ≡ serial) → (o : Option (List (List ℕ))) → q.blocks ≡ o → AreShelved shelf (q ∷ qs) ⊎ AreShelved more (q ∷ qs)
      by_first same None none =
          inl (shelved_cons shelf q qs (λ blocks at. absurd (let no : ⊥ = cc in no)) (record { each = λ r there. plain r (apart r there) (each r (later q qs r there)) }))
        where
          apart : (r : Reel) → Contains qs r → r.serial ≡ serial → ⊥
          apart r there e =
              let above = All-contains (Below q.serial) (map (λ (x : Reel). x.serial) qs) r.serial (pairs_head Below q.serial (map (λ (x : Reel). x.serial) qs) rising) (serial_there qs r there) in
              let no : ⊥ = omega (arith, above, e, same) in no
      by_first same (Some blocks) some = by_blocks (here blocks some)
        where
          apart : (r : Reel) → Contains qs r → r.serial ≡ serial → ⊥
          apart r there e =
              let above = All-contains (Below q.serial) (map (λ (x : Reel). x.serial) qs) r.serial (pairs_head Below q.serial (map (λ (x : Reel). x.serial) qs) rising) (serial_there qs r there) in
              let no : ⊥ = omega (arith, above, e, same) in no

          by_blocks : AreCompleted q.serial blocks (shelf q.serial) ⊎ AreCompleted q.serial blocks (more q.serial) → AreShelved shelf (q ∷ qs) ⊎ AreShelved more (q ∷ qs)
          by_blocks (inl is) =
              inl (shelved_cons shelf q qs (λ bs at. subst (λ (x : List (List ℕ)). AreCompleted q.serial x (shelf q.serial)) (same_Some blocks bs (sym some ∙ at)) is)
              (record { each = λ r there. plain r (apart r there) (each r (later q qs r there)) }))
          by_blocks (inr is) =
              inr (shelved_cons more q qs (λ bs at. subst (λ (x : List (List ℕ)). AreCompleted q.serial x (more q.serial)) (same_Some blocks bs (sym some ∙ at)) is)
              (record { each = λ r there. added r (apart r there) (each r (later q qs r there)) }))

      by : (q.serial ≡ serial) ⊎ (q.serial ≡ serial → ⊥) → AreShelved shelf qs ⊎ AreShelved more qs → AreShelved shelf (q ∷ qs) ⊎ AreShelved more (q ∷ qs)
      by (inl same) rest = by_first same q.blocks refl
      by (inr apart) (inl rest) = inl (shelved_cons shelf q qs (plain q apart here) rest)
      by (inr apart) (inr rest) = inr (shelved_cons more q qs (added q apart here) rest)

-- the reels of a rack are those of another one
zip_serials : (xs ys : List Reel) → AllZip (λ (o n : Reel). (n.serial ≡ o.serial) × (n.capacity ≡ o.capacity) × (n.mounted ≡ o.mounted)) xs ys
    → map (λ (r : Reel). r.serial) (map unread ys) ≡ map (λ (r : Reel). r.serial) (map unread xs)
zip_serials [] [] zip = refl
zip_serials [] (y ∷ ys) zip = absurd zip
zip_serials (x ∷ xs) [] zip = absurd zip
zip_serials (x ∷ xs) (y ∷ ys) (one, zip) =
    ap (λ (n : ℕ). n ∷ map (λ (r : Reel). r.serial) (map unread ys)) one.0 ∙ ap (λ (ns : List ℕ). x.serial ∷ ns) (zip_serials xs ys zip)

told_serials : (reels : List Reel) → map (λ (r : Reel). r.serial) (map unread reels) ≡ map (λ (r : Reel). r.serial) reels
told_serials [] = refl
told_serials (r ∷ rs) = ap (λ (ns : List ℕ). r.serial ∷ ns) (told_serials rs)

-- the reels that are left are those of the store before the step
pub left_serials : (old new : StoreFacts) → KeepsDumpsSafe old (Err Stopped) new → (blocks : List (List ℕ)) (rack : Rack) → IsLeft new.online.disc new.rack blocks rack
    → map (λ (r : Reel). r.serial) (told_reels rack) ≡ map (λ (r : Reel). r.serial) (told_reels old.rack)
left_serials old new keeps blocks rack left = serials_in new.rack new.rack.reels rack.reels left.reels.reels ∙ zip_serials old.rack.reels new.rack.reels keeps.reels

-- A STOPPED STEP
module _ (old new : StoreFacts) (safe : IsSafe old) (steps : StepsDump old (Err Stopped) new) (keeps : KeepsDumpsSafe old (Err Stopped) new) where
  -- the mark wasn't written, or the dump is durable: the dumps that the reels have survive
  module _ (survive : (n : ℕ) → DumpsSurvive n new.rack) (blocks : List (List ℕ)) (rack : Rack) (left : IsLeft new.online.disc new.rack blocks rack) where
    pub answered : IsAnsweredBy IsStepOfDump old (Err Stopped) (with_disc_left blocks new)
    answered = let (had, at) = some_of old.online.disc.held safe.told.disc in steps.survives.left (steps.spent.1 refl) safe.disc had at blocks left.on_disc

    belong_survive : BelongWith (Some blocks) (told_reels rack)
    belong_survive = belong_left new.rack rack left.reels (steps.told safe.told).each survive (Some blocks) (answered.belongs safe.told safe.belongs).devices

  -- the mark may be left or not
  module _ (shelf : ℕ → List Dump) (d : DumpFacts) (content : List (List ℕ)) (either : (n : ℕ) → PowerLossLeavesEither n new.rack (shelf n) (with_dump (dump_of d.plan content) shelf n))
      (blocks : List (List ℕ)) (rack : Rack) (left : IsLeft new.online.disc new.rack blocks rack) where
    abbrev more : ℕ → List Dump
    more = with_dump (dump_of d.plan content) shelf

    others : (n : ℕ) → (n ≡ d.plan.serial → ⊥) → more n ≡ shelf n
    others n apart = cond-false (n == d.plan.serial) (shelf n ++ dump_of d.plan content ∷ []) (shelf n) (ne_eqb n d.plan.serial apart)

    rising : AllPairs Below (map (λ (r : Reel). r.serial) (told_reels rack))
    rising =
        subst (AllPairs Below) (sym (left_serials old new keeps blocks rack left ∙ told_serials old.rack.reels))
        (AllPairs-from_increasing (map (λ (r : Reel). r.serial) old.rack.reels) keeps.are.rising)

    pub either_shelf : AreShelved shelf (told_reels rack) ⊎ AreShelved more (told_reels rack)
    either_shelf =
        one_shelf d.plan.serial shelf more others (told_reels rack) rising
        (left_each new.rack (λ n bs. AreCompleted n bs (shelf n) ⊎ AreCompleted n bs (more n)) (steps.told safe.told).each either new.rack.reels rack.reels left.reels.reels (λ x there. there))

    -- so disc and reels belong together, with the dump or without it
    module _ (text : ℕ → List ℕ) (up : IsUp text shelf old) (dump_is : old.dump ≡ Some d) (pins : List Pin) (pinned : old.online.pins ≡ Some pins) (has : content_in pins ≡ Some content)
        (same : new.online ≡ old.online) where
      ready : IsReady text shelf (told_reels old.rack) old.online (dump_of d.plan content)
      ready =
          subst (λ (x : Option DumpFacts). IfSome x (λ e. (ps : List Pin) → old.online.pins ≡ Some ps → ForSome (content_in ps) (λ c. IsReady text shelf (told_reels old.rack) old.online (dump_of e.plan c)))) dump_is
          up.open_dump pins pinned content has

      belong_as : (dumps : ℕ → List Dump) → AreShelved dumps (told_reels rack) → RackBelongs text (all_dumps dumps (told_reels old.rack)) → DiscBelongs text dumps (told_reels old.rack) old.online.contents
          → BelongWith (Some blocks) (told_reels rack)
      belong_as dumps shelved on_rack on_disc =
          let reels_are = left_serials old new keeps blocks rack left in
          let holds = holds_left old blocks safe (subst (λ (o : OnlineFacts). MayLeave o.disc blocks) same left.on_disc) in record {
            text = text;
            shelf = dumps;
            shelved = shelved;
            rack = moved_rack (told_reels old.rack) (told_reels rack) reels_are text dumps on_rack;
            disc = λ bs c is held.
                moved_disc (told_reels old.rack) (told_reels rack) reels_are text dumps c
                (subst (DiscBelongs text dumps (told_reels old.rack)) (holds_one bs old.online.contents c (subst (λ (x : List (List ℕ)). Holds x old.online.contents) (same_Some blocks bs is) holds) held) on_disc);
          }

      belong_either : BelongWith (Some blocks) (told_reels rack)
      belong_either = by either_shelf
        where
          by : AreShelved shelf (told_reels rack) ⊎ AreShelved more (told_reels rack) → BelongWith (Some blocks) (told_reels rack)
          by (inl shelved) = belong_as shelf shelved up.rack up.disc
          by (inr shelved) = belong_as more shelved ready.rack ready.disc

  -- WHAT IS LEFT can be safe again
  at_old : (text : ℕ → List ℕ) × (shelf : ℕ → List Dump) × AreShelved shelf (told_reels old.rack) × IsUp text shelf old
  at_old = safe.belongs.up safe.up

  belong_left_by : (text : ℕ → List ℕ) (shelf : ℕ → List Dump) → IsUp text shelf old → LeavesAfterStep shelf old (Err Stopped) new → (blocks : List (List ℕ)) (rack : Rack)
      → IsLeft new.online.disc new.rack blocks rack → BelongWith (Some blocks) (told_reels rack)
  belong_left_by text shelf up after blocks rack left = by after.leaves
    where
      by : StoppedStepLeaves after.dump shelf (with_dump (dump_of after.dump.plan after.content) shelf) old new → BelongWith (Some blocks) (told_reels rack)
      by (StopsBeforeMark less same are) = belong_survive are.survive blocks rack left
      by (StopsAtMark last same either has) = belong_either shelf after.dump after.content either blocks rack left text up after.dump_is after.pins after.pinned after.content_is same
      by (StopsAtClosing last stopped are) = belong_survive are.survive blocks rack left

  pub stopped_belong : (blocks : List (List ℕ)) (rack : Rack) → IsLeft new.online.disc new.rack blocks rack → BelongWith (Some blocks) (told_reels rack)
  stopped_belong blocks rack left =
      let (text, shelf, shelved, up) = at_old in
      belong_left_by text shelf up (keeps.left safe.told text shelf shelved up safe.dumps) blocks rack left

  -- on a rack without blocks no dump is open
  blank_by : (shelf : ℕ → List Dump) → LeavesAfterStep shelf old (Err Stopped) new → All (λ (r : Reel). r.len ≡ 0) new.rack.reels → (n : ℕ) → DumpsSurvive n new.rack
  blank_by shelf after blank n = by after.leaves
    where
      by : StoppedStepLeaves after.dump shelf (with_dump (dump_of after.dump.plan after.content) shelf) old new → DumpsSurvive n new.rack
      by (StopsBeforeMark less same are) = are.survive n
      by (StopsAtMark last same either has) =
          let found = reel-found after.dump.plan.serial new.rack.reels has.on has.is in
          let none = All-contains (λ (r : Reel). r.len ≡ 0) new.rack.reels has.on blank found.0 in
          let some = has.len in
          absurd (let no : ⊥ = omega (arith, none, some) in no)
      by (StopsAtClosing last stopped are) = are.survive n

  now_safe : CanBeSafe new.online.disc new.rack
  now_safe =
      let (text, shelf, shelved, up) = at_old in record {
        told = steps.told safe.told;
        belong = (steps.belongs safe.told safe.belongs).devices;
        disc_safe = steps.survives.safe (steps.spent.1 refl) safe.disc;
        dumps = (keeps.dumps safe.told safe.belongs safe.dumps).can;
        blank = blank_by shelf (keeps.left safe.told text shelf shelved up safe.dumps);
      }

  stopped_safe : AreSafe new.online.disc new.rack
  stopped_safe = record {
    now = now_safe;
    left = λ blocks rack left.
        let durable = left_is_durable new blocks rack left in record {
          told = record { disc = refl; each = record { each = told_in new.rack new.rack.reels rack.reels left.reels.reels } };
          belong = stopped_belong blocks rack left;
          disc_safe = durable.0;
          dumps = λ n. inl (durable.1 n);
          blank = λ none n. durable.1 n;
        };
  }

-- A STEP THAT WASN'T STOPPED
going_safe : (old new : StoreFacts) (answer : Result Stepped StoreFault) → IsSafe old → StepsDump old answer new → KeepsDumpsSafe old answer new → (answer ≡ Err Stopped → ⊥) → IsSafe new
going_safe old new answer safe steps keeps isnt =
    let up = unspent new.spent refl in record {
      told = steps.told safe.told;
      store = steps.keeps;
      up = up;
      belongs = steps.belongs safe.told safe.belongs;
      disc = steps.survives.up up safe.disc;
      dumps = keeps.dumps safe.told safe.belongs safe.dumps;
    }
  where
    unspent : (b : Bool) → new.spent ≡ b → new.spent ≡ false
    unspent true is = absurd (isnt (steps.spent.0 is))
    unspent false is = is

pub steps_keep_safe : StepsKeepSafe
steps_keep_safe = record { safe = going_safe; stopped = λ old new safe steps keeps. stopped_safe old new safe steps keeps }

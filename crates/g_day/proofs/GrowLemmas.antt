-- Completed dumps stay: reads, mounts and arming leave them unchanged, and the step that completes a dump appends it to
-- those of its reel.
-- serves: JobLemmas, LineLemmas, UpLemmas, crates above
use Rattle.std.proofs.Common.{◌≡◌, ◌==◌, ℕ, Bool, true, false, List, [], ◌∷◌, ◌++◌, append-nil, append_assoc, refl, sym, ◌∙◌, ap, subst, inl, inr}
use Rattle.std.specs.Prelude.{Result, Ok, Err, if◌then◌else◌}
use Rattle.std.specs.Option.{ForSome}
use Rattle.g_tape.specs.Rack.{Rack, changed}
use Rattle.g_tape.specs.Reel.{Reel, with_mounted}
use Rattle.g_plain.specs.declared.faults.StoreFault.{StoreFault}
use Rattle.g_plain.specs.declared.faults.StoreFault.TheVariants.{Stopped}
use Rattle.g_incr.specs.Layout.{Dump}
use Rattle.g_incr.specs.Plan.{dump_of}
use Rattle.g_shelf.specs.CompletedDumps.{AreCompleted, AreShelved}
use Rattle.g_store_model.specs.DumpSteps.{Completed, Going, Stepped}
use Rattle.g_store_meaning.specs.Answers.{Belongs, Told}
use Rattle.g_store_meaning.specs.Meaning.{told_reels}
use Rattle.g_store_meaning.specs.StoreInvariant.{StoreFacts, with_dump}
use Rattle.g_store.specs.Dumping.{Adds, KeepsDumps}
use Rattle.g_store.proofs.MountLemmas.{shelved_turned, told_turned}
use Rattle.g_day.specs.System.{DumpsGrow}

-- a shelf that has the same dumps of each reel
shelved_as : (a b : ℕ → List Dump) → ((s : ℕ) → b s ≡ a s) → (reels : List Reel) → AreShelved a reels → AreShelved b reels
shelved_as a b same reels is = record {
  each = λ r there. subst (λ (ds : List Dump). ForSome r.blocks (λ reel. AreCompleted r.serial reel ds)) (sym (same r.serial)) (is.each r there);
}

-- with what is completed besides
abbrev More : (ℕ → List Dump) → List Reel → Type 0
More shelf reels = (more : ℕ → List Dump) × AreShelved (λ s. shelf s ++ more s) reels

none_more : (shelf : ℕ → List Dump) (reels : List Reel) → AreShelved shelf reels → More shelf reels
none_more shelf reels is = (λ s. [], shelved_as shelf (λ s. shelf s ++ []) (λ s. append-nil (shelf s)) reels is)

pub grow_held : (old new : Rack) → told_reels new ≡ told_reels old → DumpsGrow old new
grow_held old new same = record {
  grow = λ shelf is. none_more shelf (told_reels new) (subst (λ (reels : List Reel). AreShelved shelf reels) (sym same) is);
}

pub grow_itself : (r : Rack) → DumpsGrow r r
grow_itself r = grow_held r r refl

pub grow_turned : (s : ℕ) (is : Bool) (r : Rack) → DumpsGrow r (changed s (with_mounted is) r)
grow_turned s is r = record {
  grow = λ shelf shelved.
      none_more shelf (told_reels (changed s (with_mounted is) r))
      (subst (λ (reels : List Reel). AreShelved shelf reels) (sym (told_turned s is r.reels)) (shelved_turned s is shelf (told_reels r) shelved));
}

pub grow_then : (a b c : Rack) → DumpsGrow a b → DumpsGrow b c → DumpsGrow a c
grow_then a b c first later = record {
  grow = λ shelf is.
      let (more, mid) = first.grow shelf is in
      let (most, last) = later.grow (λ s. shelf s ++ more s) mid in (
        λ s. more s ++ most s,
        shelved_as (λ s. (shelf s ++ more s) ++ most s) (λ s. shelf s ++ (more s ++ most s)) (λ s. sym (append_assoc (shelf s) (more s) (most s))) (told_reels c) last,
      );
}

-- THE STEP OF AN OPEN DUMP
abbrev one_dump : Dump → ℕ → List Dump
one_dump d s = if s == d.serial then d ∷ [] else []

one_behind : (d : Dump) (shelf : ℕ → List Dump) (s : ℕ) → shelf s ++ one_dump d s ≡ with_dump d shelf s
one_behind d shelf s = by (s == d.serial)
  where
    by : (b : Bool) → shelf s ++ (if b then d ∷ [] else []) ≡ (if b then shelf s ++ d ∷ [] else shelf s)
    by true = refl
    by false = append-nil (shelf s)

one_more : (d : Dump) (shelf : ℕ → List Dump) (reels : List Reel) → AreShelved (with_dump d shelf) reels → More shelf reels
one_more d shelf reels is = (one_dump d, shelved_as (with_dump d shelf) (λ s. shelf s ++ one_dump d s) (one_behind d shelf) reels is)

adds_more : (answer : Result Stepped StoreFault) (d : Dump) (shelf : ℕ → List Dump) (reels : List Reel) → Adds answer (AreShelved shelf reels) (AreShelved (with_dump d shelf) reels) → More shelf reels
adds_more (Ok Going) d shelf reels is = none_more shelf reels is
adds_more (Ok (Completed number)) d shelf reels is = one_more d shelf reels is
adds_more (Err Stopped) d shelf reels (inl is) = none_more shelf reels is
adds_more (Err Stopped) d shelf reels (inr is) = one_more d shelf reels is
adds_more (Err fault) d shelf reels is = none_more shelf reels is

pub grow_stepped : (old : StoreFacts) (answer : Result Stepped StoreFault) (new : StoreFacts) → KeepsDumps old answer new → Told old → Belongs old → DumpsGrow old.rack new.rack
grow_stepped old answer new keeps told belongs = record {
  grow = λ shelf is.
      let stay = keeps told belongs shelf is in
      adds_more answer (dump_of stay.dump.plan stay.content) shelf (told_reels new.rack) stay.adds;
}

-- Which completed dumps the reels have after a step of the open dump.
-- serves: StepLemmas
use Rattle.std.proofs.Common.{◌≡◌, ℕ, zero, suc, ◌+◌, ◌<◌, List, [], ◌∷◌, ◌++◌, map, Some, Result, Ok, Err, refl, sym, ◌∙◌, ap, arith, subst, inl, inr}
use Rattle.std.specs.Prelude.{◌⊎◌, ◌==◌, Contains, if◌then◌else◌}
use Rattle.std.proofs.lemmas.Bool.{cases_order}
use Rattle.std.proofs.lemmas.List.Elements.{Contains-append_right}
use Rattle.g_base.specs.Fuse.{burnt}
use Rattle.g_tape.specs.Rack.{AreReels, Rack, changed, with_reel}
use Rattle.g_tape.specs.Reads.{unread}
use Rattle.g_tape.specs.Reel.{Reel, Remains, Torn, left_by}
use Rattle.g_plain.specs.declared.faults.StoreFault.{StoreFault}
use Rattle.g_plain.specs.declared.faults.StoreFault.TheVariants.{DiscReadFault, Stopped}
use Rattle.g_disc_contents.specs.Facts.{OnlineFacts}
use Rattle.g_incr.specs.Layout.{Dump}
use Rattle.g_incr.specs.Plan.{dump_of, needs}
use Rattle.g_shelf.specs.CompletedDumps.{AreCompleted, AreShelved}
use Rattle.g_store_model.specs.DumpSteps.{Completed, Going, Stepped}
use Rattle.g_store_meaning.specs.Answers.{Told}
use Rattle.g_store_meaning.specs.Meaning.{told_reels}
use Rattle.g_store_meaning.specs.Reading.{ReelsTold}
use Rattle.g_store_meaning.specs.StoreInvariant.{DumpFacts, IsOpen, IsUp, content_in, with_dump}
use Rattle.g_store_meaning.proofs.OneLemmas.{Agree, shelves_agree}
use Rattle.g_laws_store.proofs.UpOneLemmas.{reel_named}
use Rattle.g_dumper.specs.Invariant.{up_with}
use Rattle.g_dumper.specs.Steps.{FailedWrite, Stepping, WroteBlock}
use Rattle.g_dumper.proofs.KeepLemmas.{same_reels, shelved_then}
use Rattle.g_dumper.proofs.ShelfLemmas.{cut_shelf, marked_shelf, quiet_shelf}
use Rattle.g_store.specs.Dumping.{Adds}

abbrev serials : List Reel → List ℕ
serials reels = map (λ (r : Reel). r.serial) reels

told_serials : (reels : List Reel) → serials (map unread reels) ≡ serials reels
told_serials [] = refl
told_serials (r ∷ rs) = ap (λ (ns : List ℕ). r.serial ∷ ns) (told_serials rs)

serial_in : (reels : List Reel) (r : Reel) → Contains reels r → Contains (serials reels) r.serial
serial_in [] r (i, inside, is) = let no : ⊥ = omega (arith, inside) in absurd no
serial_in (q ∷ qs) r (zero, inside, is) = (0, omega arith, ap (λ (x : Reel). x.serial) is)
serial_in (q ∷ qs) r (suc i, inside, is) = Contains-append_right (q.serial ∷ []) (serials qs) r.serial (serial_in qs r (i, omega (arith, inside), is))

-- WHAT IS SHELVED BY ONE SHELF is so by another of the same reels
module _ (a b : ℕ → List Dump) (old new : List Reel) (same : serials new ≡ serials old) (told : ReelsTold old) (are_a : AreShelved a old) (are_b : AreShelved b old) where
  agree : (r : Reel) → Contains new r → b r.serial ≡ a r.serial
  unfolding Agree
  agree r there =
      let (q, here, at) = reel_named r.serial old (subst (λ (ns : List ℕ). Contains ns r.serial) same (serial_in new r there)) in
      subst (λ (n : ℕ). b n ≡ a n) at (shelves_agree b a old told are_b are_a q here)

  moved : (x y : ℕ → List Dump) → ((r : Reel) → Contains new r → y r.serial ≡ x r.serial) → AreShelved y new → AreShelved x new
  moved x y is are = record { each = λ r there blocks held. subst (AreCompleted r.serial blocks) (is r there) (are.each r there blocks held) }

  same_shelf : AreShelved b new → AreShelved a new
  same_shelf are = moved a b agree are

  more_shelf : (d : Dump) → AreShelved (with_dump d b) new → AreShelved (with_dump d a) new
  more_shelf d are =
      moved (with_dump d a) (with_dump d b) (λ r there. ap (λ (ds : List Dump). let es : List Dump = if r.serial == d.serial then ds ++ d ∷ [] else ds in es) (agree r there)) are

-- after a step
module _ (d : DumpFacts) (o : OnlineFacts) (old : Rack) (reels : AreReels old.reels) (told : Told (up_with o old (Some d))) (text : ℕ → List ℕ) (base : ℕ → List Dump)
    (on_base : AreShelved base (told_reels old)) (up : IsUp text base (up_with o old (Some d))) (is : IsOpen d o old) (content : List (List ℕ)) (has : content_in is.pins ≡ Some content)
    (shelf : ℕ → List Dump) (shelved : AreShelved shelf (told_reels old)) where
  abbrev made : Dump
  made = dump_of d.plan content

  abbrev Same : Rack → Type 0
  Same new = AreShelved shelf (told_reels new)

  abbrev More : Rack → Type 0
  More new = AreShelved (with_dump made shelf) (told_reels new)

  module _ (new : Rack) (how : Remains) (faults : ℕ) (at : new ≡ record (changed d.plan.serial (left_by how (d.plan.place + d.done)) old) { write_faults = faults; fuse = burnt old.fuse; risks = new.risks }) where
    serials_same : serials (told_reels new) ≡ serials (told_reels old)
    serials_same = told_serials new.reels ∙ same_reels d old new how faults at ∙ sym (told_serials old.reels)

    as_before : AreShelved base (told_reels new) → Same new
    as_before are = same_shelf shelf base (told_reels old) (told_reels new) serials_same told.each shelved on_base are

    one_more : AreShelved (with_dump made base) (told_reels new) → More new
    one_more are = more_shelf shelf base (told_reels old) (told_reels new) serials_same told.each shelved on_base made are

    quiet : d.done + 1 < needs d.plan → Same new
    quiet less = as_before (shelved_then d old new how faults at base (quiet_shelf d o old reels told.each is text base on_base up content has how less))

  marked : (new : Rack) → WroteBlock d o.pins old new → d.done + 1 ≡ needs d.plan → More new
  marked new wrote last =
      one_more new (Torn wrote.block) old.write_faults wrote.rack
      (shelved_then d old new (Torn wrote.block) old.write_faults wrote.rack (with_dump made base)
      (marked_shelf d o old reels told.each is text base on_base up content has last wrote.block (wrote.next.is is.pins is.pinned content has)))

  torn : (new : Rack) → FailedWrite d o.pins old new → Same new ⊎ More new
  torn new failed = by_place (cases_order (d.done + 1) (needs d.plan))
    where
      by_cut : AreShelved base (map unread (with_reel d.plan.serial (left_by failed.how (d.plan.place + d.done)) old.reels))
          ⊎ AreShelved (with_dump made base) (map unread (with_reel d.plan.serial (left_by failed.how (d.plan.place + d.done)) old.reels)) → Same new ⊎ More new
      by_cut (inl same) = inl (as_before new failed.how new.write_faults failed.rack (shelved_then d old new failed.how new.write_faults failed.rack base same))
      by_cut (inr more) = inr (one_more new failed.how new.write_faults failed.rack (shelved_then d old new failed.how new.write_faults failed.rack (with_dump made base) more))

      by_place : (d.done + 1 ≡ needs d.plan) ⊎ ((d.done + 1 < needs d.plan) ⊎ (needs d.plan < d.done + 1)) → Same new ⊎ More new
      by_place (inl last) = by_cut (cut_shelf d o old reels told.each is text base on_base up content has last failed.how)
      by_place (inr (inl less)) = inl (quiet new failed.how new.write_faults failed.rack less)
      by_place (inr (inr beyond)) = let within = is.within in absurd (let no : ⊥ = omega (arith, within, beyond) in no)

  pub adds : (d' : DumpFacts) (o' : OnlineFacts) (new : Rack) (answer : Result Stepped StoreFault) → Stepping d o old answer d' o' new → Adds answer (Same new) (More new)
  adds d' o' new (Ok Going) (less, dump_is, same, wrote) = quiet new (Torn wrote.block) old.write_faults wrote.rack less
  adds d' o' new (Ok (Completed n)) (last, number, plan_is, wrote, closing) = marked new wrote last
  adds d' o' new (Err Stopped) (plan_is, inl (failed, same)) = torn new failed
  adds d' o' new (Err Stopped) (plan_is, inr (last, wrote, closing)) = inr (marked new wrote last)
  adds d' o' new (Err DiscReadFault) (dump_is, same, left) = subst (λ (r : Rack). AreShelved shelf (told_reels r)) (sym same) shelved
  adds d' o' new (Err fault) never = absurd never

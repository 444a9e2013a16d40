-- An open dump is open still where its next block was written.
-- serves: write_next (open, step), RulesLemmas, SafeLemmas
use Rattle.std.proofs.Common.{◌≡◌, ℕ, zero, suc, ◌+◌, ◌^◌, ◌<◌, ◌≤◌, List, [], ◌∷◌, ◌++◌, length, take, drop, slice_get, Option, Some, None, Ok, Err, refl, sym, ◌∙◌, ap, arith, subst, inl, inr}
use Rattle.std.specs.Prelude.{Result, option_map}
use Rattle.std.proofs.lemmas.Bool.{cases_lt}
use Rattle.std.proofs.Math.Seq.{take-suc}
use Rattle.std.proofs.lemmas.List.{drop_at, drop-append-le, length-take-le, take_all}
use Rattle.std.proofs.lemmas.Option.{get_or_from_slice_get, none-some, same_Some, slice_get_within}
use Rattle.g_tape.specs.declared.fault.TapeFault.TheVariants.{WriteFailed}
use Rattle.g_tape.specs.Durable.{WritesDurably}
use Rattle.g_tape.specs.Reel.{ending, IsReel, left_by}
use Rattle.g_base.specs.Fuse.{burnt}
use Rattle.g_tape.specs.Rack.{AreReels, Rack, Writing, changed, reel, refuses_write}
use Rattle.g_tape.proofs.ReadLemmas.{is_reel, reel-with_reel}
use Rattle.g_disc_contents.specs.Facts.{OnlineFacts, Pin}
use Rattle.g_incr.specs.Layout.{dump_blocks}
use Rattle.g_incr.specs.Plan.{dump_of, needs}
use Rattle.g_online.specs.declared.fault.OnlineFault.{OnlineFault}
use Rattle.g_online.specs.declared.fault.OnlineFault.TheVariants as online
use Rattle.g_online.specs.Pins.{IsClosing}
use Rattle.g_plain.specs.declared.faults.StoreFault.TheVariants.{Stopped}
use Rattle.g_store_model.specs.DumpSteps.{Completed, Going}
use Rattle.g_store_meaning.specs.StoreInvariant.{DumpFacts, IsOpen, content_in}
use Rattle.g_dumper.specs.Steps.{FailedWrite, IsNextBlock, Stepping, WroteBlock}

-- this many, and one more
take_more : (xs : List (List ℕ)) (n : ℕ) (x : List ℕ) → slice_get xs n ≡ Some x → take (suc n) xs ≡ take n xs ++ x ∷ []
take_more xs n x is = take-suc xs n x (slice_get_within xs n x is) ∙ ap (λ (y : List ℕ). take n xs ++ y ∷ []) (get_or_from_slice_get xs n x x is)

-- a reel that ends with the first blocks of a dump ends with one more
front_grows : (place done : ℕ) (blocks all : List (List ℕ)) (block : List ℕ) → place ≤ length blocks → (0 < done → length blocks ≡ place + done) → (0 < done → drop place blocks ≡ take done all)
    → slice_get all done ≡ Some block → drop place (take (place + done) blocks ++ block ∷ []) ≡ take (done + 1) all
front_grows place zero blocks all block from long are next =
    drop_at (take (place + 0) blocks) (block ∷ []) place (length-take-le (place + 0) blocks (omega (arith, from)) ∙ (let n : place + 0 ≡ place = omega arith in n))
    ∙ sym (take_more all 0 block next)
front_grows place (suc n) blocks all block from long are next =
    let some : 0 < suc n = omega arith in
    let len = long some in
    ap (λ (bs : List (List ℕ)). drop place (bs ++ block ∷ [])) (take_all (place + suc n) blocks (omega (arith, len)))
    ∙ drop-append-le place blocks (block ∷ []) from ∙ ap (λ (bs : List (List ℕ)). bs ++ block ∷ []) (are some)
    ∙ sym (take_more all (suc n) block next) ∙ ap (λ (k : ℕ). take k all) (let k : suc (suc n) ≡ suc n + 1 = omega arith in k)

-- the blocks of a reel that ends there
ended : (k : ℕ) (block : List ℕ) (o : Option (List (List ℕ))) (blocks : List (List ℕ)) → option_map (λ (bs : List (List ℕ)). take k bs ++ block ∷ []) o ≡ Some blocks
    → (was : List (List ℕ)) × (o ≡ Some was) × (blocks ≡ take k was ++ block ∷ [])
ended k block None blocks is = absurd (none-some blocks is)
ended k block (Some was) blocks is = (was, refl, sym (same_Some (take k was ++ block ∷ []) blocks is))

module _ (d : DumpFacts) (o : OnlineFacts) (old : Rack) (reels : AreReels old.reels) (is : IsOpen d o old) where
  the_reel : IsReel is.on
  the_reel = is_reel d.plan.serial old.reels is.on reels.each is.reel_is

  -- a dump lies low on its reel
  pub lies_low : d.plan.place + needs d.plan ≤ 65536
  lies_low = let room = is.room in let sized = the_reel.sized_most in omega (arith, room, sized)

  pub place_fits : d.plan.place + d.done < 2 ^ 32
  place_fits = let low = lies_low in let within = is.within in omega (arith, low, within)

  pub more_fits : d.done + 1 < 2 ^ 32
  more_fits = let low = lies_low in let within = is.within in omega (arith, low, within)

  module _ (new : Rack) (wrote : WroteBlock d o.pins old new) where
    pub reel_then : reel d.plan.serial new.reels ≡ Some (ending (d.plan.place + d.done) wrote.block is.on)
    reel_then =
        ap (λ (r : Rack). reel d.plan.serial r.reels) wrote.rack
        ∙ reel-with_reel d.plan.serial (ending (d.plan.place + d.done) wrote.block) (λ r. refl) old.reels
        ∙ ap (option_map (ending (d.plan.place + d.done) wrote.block)) is.reel_is

    -- the blocks that are written then
    pub grown : (blocks content : List (List ℕ)) → is.on.blocks ≡ Some blocks → content_in is.pins ≡ Some content
        → drop d.plan.place (take (d.plan.place + d.done) blocks ++ wrote.block ∷ []) ≡ take (d.done + 1) (dump_blocks (dump_of d.plan content))
    grown blocks content here told =
        let len = the_reel.told blocks here in
        let from = is.from in
        front_grows d.plan.place d.done blocks (dump_blocks (dump_of d.plan content)) wrote.block (omega (arith, len, from)) (λ some. len ∙ is.length_is some)
        (λ some. is.written some blocks here content told) (wrote.next.is is.pins is.pinned content told)

    pub open_then : d.done + 1 < needs d.plan → IsOpen (record { plan = d.plan; done = d.done + 1 }) o new
    open_then less = record {
      intent = is.intent;
      number = is.number;
      pins = is.pins;
      pinned = is.pinned;
      are = is.are;
      on = ending (d.plan.place + d.done) wrote.block is.on;
      reel_is = reel_then;
      mounted = is.mounted;
      from = omega arith;
      length_is = λ some. omega arith;
      room = is.room;
      within = less;
      written = λ some blocks here content told.
          let (was, at, same) = ended (d.plan.place + d.done) wrote.block is.on.blocks blocks here in
          ap (drop d.plan.place) same ∙ grown was content at told;
    }

-- what the code did, by the numbers that it has besides its writer
pub wrote_by : (d : DumpFacts) (pins : Option (List Pin)) (serial place : ℕ) (block : List ℕ) (old new : Rack) → serial ≡ d.plan.serial → place ≡ d.plan.place → IsNextBlock d pins block
    → Writing serial (place + d.done) block old (Ok tt) new → WritesDurably serial (place + d.done) block old (Ok tt) new → WroteBlock d pins old new
wrote_by d pins serial place block old new serial_is place_is next (free, armed, rack) durably = record {
  block = block;
  next = next;
  rack = rack ∙ ap (λ (s : ℕ). write_at s place) serial_is ∙ ap (write_at d.plan.serial) place_is;
  free =
      subst (λ (p : ℕ). refuses_write (p + d.done) (reel d.plan.serial old.reels) ≡ None) place_is
      (subst (λ (s : ℕ). refuses_write (place + d.done) (reel s old.reels) ≡ None) serial_is free);
  durably =
      subst (λ (p : ℕ). WritesDurably d.plan.serial (p + d.done) block old (Ok tt) new) place_is
      (subst (λ (s : ℕ). WritesDurably s (place + d.done) block old (Ok tt) new) serial_is durably);
}
  where
    write_at : ℕ → ℕ → Rack
    write_at s p = record (changed s (ending (p + d.done) block) old) { fuse = burnt old.fuse; risks = new.risks }

pub failed_by : (d : DumpFacts) (pins : Option (List Pin)) (serial place : ℕ) (block : List ℕ) (old new : Rack) → serial ≡ d.plan.serial → place ≡ d.plan.place → IsNextBlock d pins block
    → Writing serial (place + d.done) block old (Err WriteFailed) new → WritesDurably serial (place + d.done) block old (Err WriteFailed) new → FailedWrite d pins old new
failed_by d pins serial place block old new serial_is place_is next (free, rose, left) durably = record {
  block = block;
  next = next;
  rose = rose;
  how = left.0;
  rack = left.1 ∙ ap (λ (s : ℕ). write_at s place) serial_is ∙ ap (write_at d.plan.serial) place_is;
  free =
      subst (λ (p : ℕ). refuses_write (p + d.done) (reel d.plan.serial old.reels) ≡ None) place_is
      (subst (λ (s : ℕ). refuses_write (place + d.done) (reel s old.reels) ≡ None) serial_is free);
  durably =
      subst (λ (p : ℕ). WritesDurably d.plan.serial (p + d.done) block old (Err WriteFailed) new) place_is
      (subst (λ (s : ℕ). WritesDurably s (place + d.done) block old (Err WriteFailed) new) serial_is durably);
}
  where
    write_at : ℕ → ℕ → Rack
    write_at s p = record (changed s (left_by left.0 (p + d.done)) old) { write_faults = new.write_faults; fuse = burnt old.fuse; risks = new.risks }

pub goes_on : (d : DumpFacts) (o same : OnlineFacts) (old new : Rack) (serial place : ℕ) (block : List ℕ) → AreReels old.reels → IsOpen d o old → same ≡ o → serial ≡ d.plan.serial → place ≡ d.plan.place
    → IsNextBlock d o.pins block → Writing serial (place + d.done) block old (Ok tt) new → WritesDurably serial (place + d.done) block old (Ok tt) new → d.done + 1 < needs d.plan
    → IsOpen (record { plan = d.plan; done = d.done + 1 }) same new
goes_on d o same old new serial place block reels is unchanged serial_is place_is next writing durably less =
    let wrote = wrote_by d o.pins serial place block old new serial_is place_is next writing durably in
    subst (λ (p : OnlineFacts). IsOpen (record { plan = d.plan; done = d.done + 1 }) p new) (sym unchanged) (open_then d o old reels is new wrote less)

-- THE STEP of these answers
pub going_step : (d e after : DumpFacts) (o same : OnlineFacts) (old new : Rack) → d ≡ e → after ≡ record { plan = d.plan; done = d.done + 1 } → same ≡ o → d.done + 1 < needs d.plan → WroteBlock d o.pins old new
    → Stepping e o old (Ok Going) after same new
going_step d e after o same old new is after_is unchanged less wrote = subst (λ (x : DumpFacts). Stepping x o old (Ok Going) after same new) is (less, after_is, unchanged, wrote)

pub last_step : (d e after : DumpFacts) (o same new_facts : OnlineFacts) (old new : Rack) (number : ℕ) → d ≡ e → after.plan ≡ d.plan → same ≡ o → number ≡ d.plan.number → d.done + 1 ≡ needs d.plan
    → WroteBlock d o.pins old new → IsClosing number same new_facts (Ok tt) → Stepping e o old (Ok (Completed number)) after new_facts new
last_step d e after o same new_facts old new number is plan_is unchanged number_is last wrote closing =
    subst (λ (x : DumpFacts). Stepping x o old (Ok (Completed number)) after new_facts new) is
    (last, number_is, plan_is, wrote, subst (λ (p : OnlineFacts). IsClosing number p new_facts (Ok tt)) unchanged closing)

pub stopped_step : (d e after : DumpFacts) (o same new_facts : OnlineFacts) (old new : Rack) (number : ℕ) (fault : OnlineFault) → d ≡ e → after.plan ≡ d.plan → same ≡ o → number ≡ d.plan.number → d.done + 1 ≡ needs d.plan
    → WroteBlock d o.pins old new → IsClosing number same new_facts (Err fault) → Stepping e o old (Err Stopped) after new_facts new
stopped_step d e after o same new_facts old new number fault is plan_is unchanged number_is last wrote closing =
    let stopped : IsClosing number same new_facts (Err online.Stopped) = subst (λ (r : Result (Unit {0}) OnlineFault). IsClosing number same new_facts r) closing.only closing in
    subst (λ (x : DumpFacts). Stepping x o old (Err Stopped) after new_facts new) is
    (plan_is, inr (last, wrote, subst (λ (n : ℕ). IsClosing n o new_facts (Err online.Stopped)) number_is (subst (λ (p : OnlineFacts). IsClosing number p new_facts (Err online.Stopped)) unchanged stopped)))

-- exactly as many blocks as the dump needs are written, if there are no more to write
pub is_last : (d : DumpFacts) (n : ℕ) → n ≡ needs d.plan → d.done < needs d.plan → (d.done + 1 < n → ⊥) → d.done + 1 ≡ needs d.plan
is_last d n is within none = elim (cases_lt (d.done + 1) n) [
  | inl more ↦ absurd (none more)
  | inr few ↦ omega (arith, is, within, few)
]

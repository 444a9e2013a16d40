-- What a power loss leaves of safe devices of which no store was made.
-- serves: refusal_losses, crates above
use Rattle.std.proofs.Common.{◌≡◌, ◌≢◌, ℕ, List, refl, subst}
use Rattle.std.specs.Prelude.{Result}
use Rattle.g_disc.specs.Disc.{DiscState}
use Rattle.g_tape.specs.Rack.{Rack}
use Rattle.g_plain.specs.declared.faults.StoreFault.{StoreFault}
use Rattle.g_plain.specs.declared.faults.StoreFault.TheVariants.{Stopped}
use Rattle.g_plain.proofs.Found.{some_of}
use Rattle.g_shelf.specs.Surviving.{DumpsSurvive}
use Rattle.g_store_model.specs.State.{State}
use Rattle.g_store_model.specs.CallStep.{Outcome}
use Rattle.g_store_meaning.specs.Meaning.{told_reels}
use Rattle.g_store_meaning.specs.Reading.{DevicesStandFor}
use Rattle.g_store_meaning.specs.Safety.{AreSafe, IsLeft}
use Rattle.g_store_meaning.specs.Surviving.{disc_left}
use Rattle.g_store.specs.Making.{LeadsDown, Refuses, StepsDown}
use Rattle.g_laws_power.specs.Refusals.{RefusalLeaves, RefusalsSurvive, StopsDownLike}
use Rattle.g_laws_power.proofs.DeviceLemmas.{format_survives, unwritten}
use Rattle.g_laws_power.proofs.LeftLemmas.{stand_left}

module _ {A : Type 0} {given : Type 0} {by : State → Outcome → Result A StoreFault → State → Type 0} (disc disc' : DiscState) (rack rack' : Rack) (fault : StoreFault) (blocks : List (List ℕ)) (after : Rack) (safe : AreSafe disc rack)
    (refuses : Refuses given by disc rack fault disc' rack') (left : IsLeft disc' rack' blocks after) (is_given : given) (s : State) (stands : DevicesStandFor disc.size disc.held (told_reels rack) s) where
  -- a failed write stopped it
  stops_like : fault ≡ Stopped → ((serial : ℕ) → DumpsSurvive serial rack') → StopsDownLike by s disc'.size blocks after
  stops_like is survive =
      let (had, at) = some_of disc.held safe.now.told.disc in
      let leads : LeadsDown by s disc rack Stopped (disc_left blocks disc') rack' =
      subst (λ (f : StoreFault). StepsDown by s disc rack f (disc_left blocks disc') rack') is ((refuses.survives is safe.now.disc_safe had at blocks left.on_disc).step safe.now.told is_given s stands) in record {
        outcome = leads.outcome;
        after = leads.after;
        step = leads.step;
        stand = stand_left rack' after left.reels (refuses.told safe.now.told).each survive disc'.size blocks leads.after leads.left;
      }

  -- by the refusal
  by_fault : (f : StoreFault) → (f ≢ Stopped → IsLeft disc rack blocks after) → (f ≡ Stopped → StopsDownLike by s disc'.size blocks after) → RefusalLeaves by s disc rack f disc' blocks after
  by_fault Stopped less stops = stops refl
  by_fault f less stops = less (λ is. let no : ⊥ = cc in no)

  refusal_leaves : (fault ≡ Stopped → (serial : ℕ) → DumpsSurvive serial rack') → RefusalLeaves by s disc rack fault disc' blocks after
  refusal_leaves survive = by_fault fault (λ isnt. unwritten disc disc' rack rack' fault refuses isnt blocks after left) (λ is. stops_like is (survive is))

pub refusals_survive : RefusalsSurvive
refusals_survive = record {
  start = λ disc disc' rack rack' fault blocks after safe refuses made left s stands.
      refusal_leaves disc disc' rack rack' fault blocks after safe refuses.refuses left safe.now.belong s stands (λ is serial. made is serial (safe.now.dumps serial));
  restore = λ disc disc' rack rack' fault blocks after safe refuses made left s stands.
      refusal_leaves disc disc' rack rack' fault blocks after safe refuses.refuses left safe.now.belong s stands (λ is serial. made is serial (safe.now.dumps serial));
  format = λ disc disc' rack rack' fault blocks after safe refuses left s stands.
      refusal_leaves disc disc' rack rack' fault blocks after safe refuses.refuses left tt s stands (format_survives disc disc' rack rack' fault safe refuses);
}

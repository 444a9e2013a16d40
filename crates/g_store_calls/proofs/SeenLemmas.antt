-- What a store that is up is seen as: its state is that of a right view.
-- serves: AheadLemmas, AppendLemmas, AskedLemmas, BroughtLemmas, CalmLemmas, HereLemmas, QuietLemmas, RecordLemmas, TapeLemmas, VersionLemmas, crates above
use Rattle.std.proofs.Common.{◌≡◌, Bool, false, Option, sym, subst}
use Rattle.g_store_model.specs.State.{State}
use Rattle.g_disc_contents.specs.Facts.{OnlineFacts}
use Rattle.g_store_meaning.specs.Meaning.{told_reels}
use Rattle.g_store_meaning.specs.Reading.{IsOpenView, IsView, StandsForState, View, state_up}
use Rattle.g_store_meaning.specs.StoreInvariant.{DumpFacts, StoreFacts}
use Rattle.g_store_meaning.proofs.ViewLemmas.{Stands, back, to}

pub record Seen (s : StoreFacts) (u : State) : Type 0 where
  pub view : View
  pub is : IsView s.online.disc.held (told_reels s.rack) s.online.contents view
  pub opens : IsOpenView (told_reels s.rack) view s.online s.dump
  pub state_is : u ≡ state_up view (told_reels s.rack) s.online s.dump

by_spent : (b : Bool) (o : OnlineFacts) (dump : Option DumpFacts) (u : State) (s : StoreFacts) → s.spent ≡ b → StandsForState s u → Stands b s.online s.dump u (told_reels s.rack)
by_spent b o dump u s same is = subst (λ (c : Bool). Stands c s.online s.dump u (told_reels s.rack)) same (to s.spent s.online s.dump u s.rack is)

pub seen : (s : StoreFacts) (u : State) → s.spent ≡ false → StandsForState s u → Seen s u
unfolding Stands
seen s u unspent is =
    let (v, view, opens, same) = by_spent false s.online s.dump u s unspent is in
    record { view = v; is = view; opens = opens; state_is = same }

pub stands : (s : StoreFacts) (u : State) → s.spent ≡ false → Seen s u → StandsForState s u
unfolding Stands
stands s u unspent is =
    let up : Stands false s.online s.dump u (told_reels s.rack) = (is.view, is.is, is.opens, is.state_is) in
    back s.spent s.online s.dump u s.rack (subst (λ (c : Bool). Stands c s.online s.dump u (told_reels s.rack)) (sym unspent) up)

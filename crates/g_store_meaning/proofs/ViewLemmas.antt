-- Reads don't change the meaning of a rack.
-- serves: reads_change_nothing (belong, state), crates above
use Rattle.std.proofs.Common.{◌≡◌, List, Option, sym, subst}
use Rattle.std.specs.Prelude.{Bool, true, false}
use Rattle.g_tape.specs.Reel.{Reel}
use Rattle.g_tape.specs.Rack.{Rack}
use Rattle.g_store_model.specs.State.{State}
use Rattle.g_disc_contents.specs.Facts.{OnlineFacts}
use Rattle.g_store_meaning.specs.Belonging.{BelongWith}
use Rattle.g_store_meaning.specs.Meaning.{told_reels}
use Rattle.g_store_meaning.specs.StoreInvariant.{DumpFacts}
use Rattle.g_store_meaning.specs.Reading.{DevicesStandFor, IsOpenView, IsView, StandsForState, View, state_up}
use Rattle.g_store_meaning.specs.Laws.{ReadsBelong, ReadsKeepState}

pub reads_belong : ReadsBelong
reads_belong held old new only is = subst (BelongWith held) (sym only.reels) is

-- The state that a store represents, by the parts of the store.
unfoldable pub Stands : Bool → OnlineFacts → Option DumpFacts → State → List Reel → Type 0
Stands true o dump u reels = DevicesStandFor o.disc.size o.disc.held reels u
Stands false o dump u reels = (v : View) × IsView o.disc.held reels o.contents v × IsOpenView reels v o dump × (u ≡ state_up v reels o dump)

pub to : (b : Bool) (o : OnlineFacts) (dump : Option DumpFacts) (u : State) (rack : Rack) → StandsForState (record { online = o; rack = rack; dump = dump; spent = b }) u → Stands b o dump u (told_reels rack)
unfolding Stands
to true o dump u rack is = is
to false o dump u rack is = is

pub back : (b : Bool) (o : OnlineFacts) (dump : Option DumpFacts) (u : State) (rack : Rack) → Stands b o dump u (told_reels rack) → StandsForState (record { online = o; rack = rack; dump = dump; spent = b }) u
unfolding Stands
back true o dump u rack is = is
back false o dump u rack is = is

pub reads_keep_state : ReadsKeepState
reads_keep_state s new u only is = back s.spent s.online s.dump u new (subst (Stands s.spent s.online s.dump u) (sym only.reels) (to s.spent s.online s.dump u s.rack is))

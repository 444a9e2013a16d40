-- A device is armed, and nothing changes in what the store means; and the devices taken out of a store represent what it
-- represented.
-- serves: arm_disc (same), arm_tape (same), into_devices (down), LossLemmas, crates above
use Rattle.std.proofs.Common.{◌≡◌, ℕ, Bool, true, false, List, Option, Some, None, is_some, sym, ap, subst, true≢false}
use Rattle.std.specs.Prelude.{IfSome}
use Rattle.std.specs.Option.{ForSome}
use Rattle.g_base.specs.Fuse.{Arms}
use Rattle.g_tape.specs.Rack.{Rack}
use Rattle.g_disc_contents.specs.Facts.{OnlineFacts, Pin}
use Rattle.g_incr.specs.Layout.{Dump}
use Rattle.g_incr.specs.Plan.{dump_of}
use Rattle.g_store_model.specs.State.{State}
use Rattle.g_store_model.specs.CallStep.{down}
use Rattle.g_store_meaning.specs.Answers.{Belongs, IsStore}
use Rattle.g_store_meaning.specs.Meaning.{told_reels}
use Rattle.g_store_meaning.specs.Reading.{DevicesStandFor, StandsForState}
use Rattle.g_store_meaning.specs.StoreInvariant.{DumpFacts, IsReady, IsUp, StoreFacts, content_in}
use Rattle.g_store_meaning.proofs.ViewLemmas.{Stands, back, to}
use Rattle.g_plain.proofs.Found.{some_of}
use Rattle.g_store.specs.Arming.{MeansTheSame}
use Rattle.g_store_calls.proofs.SeenLemmas.{seen}
use Rattle.g_laws_store.proofs.TiedLemmas.{holds_now}

module _ (s : StoreFacts) (f g : Option ℕ) (a b : Arms) where
  abbrev online : OnlineFacts
  online = record s.online { disc = record s.online.disc { fuse = f; arms = a } }

  abbrev rack : Rack
  rack = record s.rack { fuse = g; arms = b }

  abbrev pub armed : StoreFacts
  armed = record s { online = online; rack = rack }

  ready_armed : (text : ℕ → List ℕ) (shelf : ℕ → List Dump) (dump : Option DumpFacts)
      → IfSome dump (λ d. (pins : List Pin) → s.online.pins ≡ Some pins → ForSome (content_in pins) (λ content. IsReady text shelf (told_reels s.rack) s.online (dump_of d.plan content)))
      → IfSome dump (λ d. (pins : List Pin) → s.online.pins ≡ Some pins → ForSome (content_in pins) (λ content. IsReady text shelf (told_reels s.rack) online (dump_of d.plan content)))
  ready_armed text shelf None is = tt
  ready_armed text shelf (Some d) is = λ pins pinned content told.
      let was = is pins pinned content told in record { rules = was.rules; rack = was.rack; disc = was.disc; opening = record { each = was.opening.each } }

  up_armed : (text : ℕ → List ℕ) (shelf : ℕ → List Dump) → IsUp text shelf s → IsUp text shelf armed
  up_armed text shelf up = record {
    rack = up.rack;
    disc = up.disc;
    quiet = up.quiet;
    directories = record { each = up.directories.each; none = up.directories.none };
    open_dump = ready_armed text shelf s.dump up.open_dump;
  }

  belongs_armed : Belongs s → Belongs armed
  belongs_armed was = record {
    devices = was.devices;
    up = λ unspent. let (text, shelf, shelved, up) = was.up unspent in (text, shelf, shelved, up_armed text shelf up);
  }

  stands_armed : (c : Bool) (u : State) → Stands c s.online s.dump u (told_reels s.rack) → Stands c online s.dump u (told_reels s.rack)
  unfolding Stands
  stands_armed true u is = is
  stands_armed false u (v, view, opens, same) = (v, view, record { is = opens.is }, same)

  state_armed : (u : State) → StandsForState s u → StandsForState armed u
  state_armed u is = back s.spent online s.dump u rack (stands_armed s.spent u (to s.spent s.online s.dump u s.rack is))

  pub means_the_same : MeansTheSame s armed
  means_the_same = record { told = λ told. told; belongs = belongs_armed; state = state_armed }

pub disc_armed : (s t : StoreFacts) (f : Option ℕ) (a : Arms) (o : OnlineFacts) → t ≡ s → o ≡ record t.online { disc = record t.online.disc { fuse = f; arms = a } }
    → MeansTheSame s (record t { online = o })
disc_armed s t f a o at is =
    subst (λ (x : StoreFacts). MeansTheSame x (record t { online = o })) at
    (subst (λ (p : OnlineFacts). MeansTheSame t (record t { online = p })) (sym is) (means_the_same t f t.rack.fuse a t.rack.arms))

pub tape_armed : (s t : StoreFacts) (f : Option ℕ) (a : Arms) (r : Rack) → t ≡ s → r ≡ record t.rack { fuse = f; arms = a } → MeansTheSame s (record t { rack = r })
tape_armed s t f a r at is =
    subst (λ (x : StoreFacts). MeansTheSame x (record t { rack = r })) at
    (subst (λ (q : Rack). MeansTheSame t (record t { rack = q })) (sym is) (means_the_same t t.online.disc.fuse f t.online.disc.arms a))

-- THE DEVICES of a store that was up

pub down_stands : (s : StoreFacts) → IsStore s → is_some s.online.disc.held ≡ true → s.spent ≡ false → (u : State) → StandsForState s u
    → DevicesStandFor s.online.disc.size s.online.disc.held (told_reels s.rack) (down u)
down_stands s keeps told unspent u here =
    let is = seen s u unspent here in
    let (blocks, held) = some_of s.online.disc.held told in record {
      view = is.view;
      contents = Some s.online.contents;
      is = (blocks, held, holds_now s.online keeps.tied (keeps.live unspent) blocks held, is.is);
      none = λ no. absurd (true≢false no);
      rack = is.is.rack;
      state_is = ap down is.state_is;
    }

pub spent_stands : (s : StoreFacts) → s.spent ≡ true → (u : State) → StandsForState s u → DevicesStandFor s.online.disc.size s.online.disc.held (told_reels s.rack) u
unfolding Stands
spent_stands s spent u here =
    let is : Stands true s.online s.dump u (told_reels s.rack) =
    subst (λ (c : Bool). Stands c s.online s.dump u (told_reels s.rack)) spent (to s.spent s.online s.dump u s.rack here) in is

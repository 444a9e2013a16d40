-- A store that is made of devices: its invariant, and its state.
-- serves: FormatLemmas, RestoreLemmas, RestoredLemmas, StartedLemmas
use Rattle.std.proofs.Common.{◌≡◌, ℕ, Bool, true, false, List, [], ◌∷◌, Option, Some, None, is_some, refl, sym, ◌∙◌, ap, arith, subst, inl, inr, true≢false}
use Rattle.std.specs.Prelude.{◌⊎◌, ◌==◌, All, Contains, IfSome, filter, map, not, if◌then◌else◌}
use Rattle.std.proofs.lemmas.Bool.{eq-eqb, false≢true, or_left, or_right}
use Rattle.std.proofs.lemmas.List.Elements.{All-contains_itself, All-head, All-tail, All-weaker}
use Rattle.std.proofs.lemmas.Option.{same_Some}
use Rattle.g_base.specs.ToldContent.{Changes}
use Rattle.g_disc.specs.Disc.{Causes, DiscState}
use Rattle.g_entry.specs.declared.user_rec.UserRec.{UserRec}
use Rattle.g_tape.specs.Rack.{Rack}
use Rattle.g_tape.specs.Reel.{Reel}
use Rattle.g_tree.proofs.ListLemmas.{contains_cases}
use Rattle.g_disc_contents.specs.Contents.{Contents, Holds, has}
use Rattle.g_disc_contents.proofs.HoldLemmas.{holds_one}
use Rattle.g_disc_contents.specs.Facts.{IsTied, OnlineFacts}
use Rattle.g_incr.specs.Layout.{Dump}
use Rattle.g_shelf.specs.CompletedDumps.{AreShelved, all_dumps}
use Rattle.g_online.specs.Beginning.{AsBeforeOr, HoldsAsBefore, IsBegun}
use Rattle.g_store_model.specs.State as state
use Rattle.g_store_model.specs.CallStep.{down}
use Rattle.g_store_model.specs.Rising.{coming_up}
use Rattle.g_store_meaning.specs.Answers.{Belongs, IsStore}
use Rattle.g_store_meaning.specs.Belonging.{BelongWith, DiscBelongs, RackBelongs}
use Rattle.g_store_meaning.specs.Laws.{IsQuiet}
use Rattle.g_store_meaning.specs.Meaning.{told_reels}
use Rattle.g_store_meaning.specs.Reading.{AllTold, DevicesStandFor, HasText, IsRackView, IsView, StandsForState, View, holding_of, names_of, row_of, state_down, state_up, users_not_in}
use Rattle.g_store_meaning.specs.StoreInvariant.{StoreFacts}
use Rattle.g_store_meaning.specs.Surviving.{disc_left}
use Rattle.g_plain.proofs.Found.{some_of}
use Rattle.g_store_calls.proofs.SeenLemmas.{stands}
use Rattle.g_store_calls.proofs.BehindLemmas.{files_seen, rack_seen}
use Rattle.g_laws_store.proofs.TiedLemmas.{devices_belong}

abbrev pub store_of : OnlineFacts → Rack → StoreFacts
store_of o rack = record { online = o; rack = rack; dump = None; spent = false }

-- ALL USERS ARE CHANGED
number_in : (us : List UserRec) (u : UserRec) → Contains us u → has (map (λ (w : UserRec). w.number) us) u.number ≡ true
number_in [] u (i, inside, is) = let no : ⊥ = omega (arith, inside) in absurd no
number_in (w ∷ ws) u there = by_case (contains_cases w u ws there) (number_in ws u)
  where
    by_case : (w ≡ u) ⊎ Contains ws u → (Contains ws u → has (map (λ (x : UserRec). x.number) ws) u.number ≡ true) → has (map (λ (x : UserRec). x.number) (w ∷ ws)) u.number ≡ true
    by_case (inl same) rest = or_left (w.number == u.number) (has (map (λ (x : UserRec). x.number) ws) u.number) (eq-eqb w.number u.number (ap (λ (x : UserRec). x.number) same))
    by_case (inr there) rest = or_right (w.number == u.number) (has (map (λ (x : UserRec). x.number) ws) u.number) (rest there)

none_left : (p : UserRec → Bool) (us : List UserRec) → All (λ u. p u ≡ true) us → filter (λ u. not (p u)) us ≡ []
none_left p [] all = refl
none_left p (u ∷ us) all =
    ap (λ (b : Bool). if not b then u ∷ filter (λ w. not (p w)) us else filter (λ w. not (p w)) us) (All-head (λ (w : UserRec). p w ≡ true) u us all)
    ∙ none_left p us (All-tail (λ (w : UserRec). p w ≡ true) u us all)

module _ (o : OnlineFacts) (begun : IsBegun o) where
  changed_all : (u : UserRec) → Contains o.contents.users u → has o.changed u.number ≡ true
  changed_all u there = ap (λ (ns : List ℕ). has ns u.number) begun.changed ∙ number_in o.contents.users u there

  pub unkept : All (λ u. has o.changed u.number ≡ true) o.contents.users
  unkept = All-weaker (Contains o.contents.users) (λ (u : UserRec). has o.changed u.number ≡ true) (λ u there. changed_all u there) o.contents.users (All-contains_itself o.contents.users)

  pub none_kept : users_not_in o.changed o.contents.users ≡ []
  none_kept = none_left (λ u. has o.changed u.number) o.contents.users unkept

  module _ (rack : Rack) (tied : IsTied o) where
    pub store_made : IsStore (store_of o rack)
    store_made = record { tied = tied; live = λ up. begun.live; open_dump = λ up. tt; pins = λ up none. begun.pins }

    pub belongs_made : (text : ℕ → List ℕ) (shelf : ℕ → List Dump) → AreShelved shelf (told_reels rack) → RackBelongs text (all_dumps shelf (told_reels rack))
        → DiscBelongs text shelf (told_reels rack) o.contents → IsQuiet shelf (told_reels rack) o.contents → Belongs (store_of o rack)
    belongs_made text shelf shelved on_rack on_disc quiet = record {
      devices = devices_belong text shelf (told_reels rack) o tied begun.live shelved on_rack on_disc;
      up = λ up. (
        text,
        shelf,
        shelved,
        record {
          rack = on_rack;
          disc = on_disc;
          quiet = quiet;
          directories = record {
            each = λ some u there isnt. absurd (false≢true (sym isnt ∙ changed_all u there));
            none = λ none u there. changed_all u there;
          };
          open_dump = tt;
        },
      );
    }

  -- THE STATE is that of the devices with this held, and up
  module _ (disc : DiscState) (rack : Rack) (v : View) (was : Option Contents) (size : o.disc.size ≡ disc.size) where
    abbrev reels : List Reel
    reels = told_reels rack

    pub up_is : (k : state.Holding) → (let h = holding_of v.text [] o.contents in h ≡ record k { kept = names_of [] }) → state_up v reels o None ≡ coming_up (state_down v reels disc.size was) k
    up_is k held =
        λ i.
        let s : state.State = record {
          up = true;
          size = size i;
          holding = Some ((ap (λ (us : List UserRec). holding_of v.text us o.contents) none_kept ∙ held) i);
          reels = map (row_of v.shelf) reels;
          dumped = (state_down v reels disc.size was).dumped;
          open_dump = None;
        } in s

    pub stands_up : (u : state.State) → IsView o.disc.held reels o.contents v → u ≡ state_up v reels o None → StandsForState (store_of o rack) u
    stands_up u view is =
        stands (store_of o rack) u refl (record { view = v; is = view; opens = record { is = λ told pins pinned. tt }; state_is = is })

-- when devices represent the same state
pub moved : (size now : ℕ) (held then_held : Option (List (List ℕ))) (reels : List Reel) (s : state.State) → now ≡ size → then_held ≡ held → DevicesStandFor size held reels s
    → DevicesStandFor now then_held reels s
moved size now held then_held reels s sizes helds is =
    subst (λ (n : ℕ). DevicesStandFor n then_held reels s) (sym sizes) (subst (λ (h : Option (List (List ℕ))). DevicesStandFor size h reels s) (sym helds) is)

-- a store that is down is what it was
pub down_again : (size : ℕ) (held : Option (List (List ℕ))) (reels : List Reel) (s : state.State) → DevicesStandFor size held reels s → s ≡ down s
down_again size held reels s is = is.state_is ∙ by_contents is.contents ∙ sym (ap down is.state_is)
  where
    by_contents : (c : Option Contents) → state_down is.view reels size c ≡ down (state_down is.view reels size c)
    by_contents None = refl
    by_contents (Some c) = refl

-- A POWER LOSS changes no count of the disc
pub causes_left : {P Q : Type 0} {disc now : DiscState} (left : List (List ℕ)) → Causes P Q disc now → Causes P Q disc (disc_left left now)
causes_left left causes = record {
  size = causes.size;
  arms = causes.arms;
  later = causes.later;
  reads_kept = causes.reads_kept;
  reads_rose = causes.reads_rose;
  writes_kept = causes.writes_kept;
  writes_rose = causes.writes_rose;
}

-- and changes what it holds to what it left
pub changes_left : (R : List (List ℕ) → List (List ℕ) → Type 0) (disc : DiscState) (blocks left : List (List ℕ)) → disc.held ≡ Some blocks → R blocks left → Changes R disc.held (Some left)
changes_left R disc blocks left was one = record {
  told = λ other is. (left, refl, subst (λ (b : List (List ℕ)). R b left) (same_Some blocks other (sym was ∙ is)) one);
  untold = λ is. (let no : ⊥ = cc in absurd no);
}

-- IF IT WAS STOPPED, the disc holds what it held, or the new contents
module _ (disc now : DiscState) (reels : List Reel) (c : Contents) (changes : Changes (AsBeforeOr c) disc.held now.held) (size : now.size ≡ disc.size) where
  pub record Stood : Type 0 where
    pub before : List (List ℕ)
    pub was : disc.held ≡ Some before
    pub after : List (List ℕ)
    pub is : now.held ≡ Some after
    pub one : HoldsAsBefore before after ⊎ Holds after c

  pub stood : AllTold disc.held reels → Stood
  stood told =
      let (before, was) = some_of disc.held told.disc in
      let (after, is, one) = changes.told before was in record { before = before; was = was; after = after; is = is; one = one.one }

  pub told_then : AllTold disc.held reels → AllTold now.held reels
  told_then told = let there = stood told in record { disc = ap is_some there.is; each = told.each }

  told_same : (there : Stood) → is_some now.held ≡ is_some disc.held
  told_same there = ap is_some there.is ∙ sym (ap is_some there.was)

  -- what it held
  pub before_stands : (there : Stood) → HoldsAsBefore there.before there.after → (s : state.State) → DevicesStandFor disc.size disc.held reels s → DevicesStandFor now.size now.held reels s
  before_stands there same s is = record {
    view = is.view;
    contents = is.contents;
    is = by_contents is.contents is.is;
    none = λ no blocks x held holds.
        is.none no there.before x there.was (same.only x (subst (λ (b : List (List ℕ)). Holds b x) (same_Some blocks there.after (sym held ∙ there.is)) holds));
    rack = rack_seen disc.held now.held reels is.view (told_same there) is.rack;
    state_is = is.state_is ∙ ap (λ (n : ℕ). state_down is.view reels n is.contents) (sym size);
  }
    where
      by_contents : (contents : Option Contents) → IfSome contents (λ x. (blocks : List (List ℕ)) × (disc.held ≡ Some blocks) × Holds blocks x × IsView disc.held reels x is.view)
          → IfSome contents (λ x. (blocks : List (List ℕ)) × (now.held ≡ Some blocks) × Holds blocks x × IsView now.held reels x is.view)
      by_contents None seen = tt
      by_contents (Some x) (blocks, held, holds, view) = (
        there.after,
        there.is,
        same.kept x (subst (λ (b : List (List ℕ)). Holds b x) (same_Some blocks there.before (sym held ∙ there.was)) holds),
        files_seen disc.held now.held reels is.view x (told_same there) view,
      )

  pub before_belongs : (there : Stood) → HoldsAsBefore there.before there.after → BelongWith disc.held reels → BelongWith now.held reels
  before_belongs there same was = record {
    text = was.text;
    shelf = was.shelf;
    shelved = was.shelved;
    rack = was.rack;
    disc = λ blocks x held holds.
        was.disc there.before x there.was (same.only x (subst (λ (b : List (List ℕ)). Holds b x) (same_Some blocks there.after (sym held ∙ there.is)) holds));
  }

  -- the new contents
  pub new_stands : (there : Stood) → Holds there.after c → (v : View) → IsRackView disc.held reels v → All (λ f. HasText (AllTold now.held reels) (v.text f.rec.stamp) v.dumps f) c.files
      → DevicesStandFor now.size now.held reels (state_down v reels now.size (Some c))
  new_stands there holds v right files =
      let rack = rack_seen disc.held now.held reels v (told_same there) right in
      record { view = v; contents = Some c; is = (there.after, there.is, holds, record { rack = rack; files = files }); none = λ no. absurd (true≢false no); rack = rack; state_is = refl }

  pub new_belongs : (there : Stood) → Holds there.after c → (text : ℕ → List ℕ) (shelf : ℕ → List Dump) → AreShelved shelf reels → RackBelongs text (all_dumps shelf reels)
      → DiscBelongs text shelf reels c → BelongWith now.held reels
  new_belongs there holds text shelf shelved on_rack on_disc = record {
    text = text;
    shelf = shelf;
    shelved = shelved;
    rack = on_rack;
    disc = λ blocks x held holds_x.
        subst (DiscBelongs text shelf reels) (holds_one there.after c x holds (subst (λ (b : List (List ℕ)). Holds b x) (same_Some blocks there.after (sym held ∙ there.is)) holds_x)) on_disc;
  }

  -- which the step leaves, if the store would have come up with these
  pub new_down : (v : View) (was : Option Contents) (k : state.Holding) → (let h = holding_of v.text [] c in h ≡ record k { kept = names_of [] })
      → state_down v reels now.size (Some c) ≡ down (coming_up (state_down v reels disc.size was) k)
  new_down v was k held =
      λ i.
      let s : state.State = record {
        up = false;
        size = size i;
        holding = Some (held i);
        reels = map (row_of v.shelf) reels;
        dumped = (state_down v reels disc.size was).dumped;
        open_dump = None;
      } in s

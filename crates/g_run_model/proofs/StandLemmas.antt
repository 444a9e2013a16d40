-- What devices represent is what they are read as.
-- serves: DeviceShortLemmas, crates above
use Rattle.std.proofs.Common.{◌≡◌, ℕ, false, List, [], ◌∷◌, Contains, Option, Some, None, refl, sym, ◌∙◌, subst, arith}
use Rattle.std.specs.Prelude.{All, IfSome, is_some, map}
use Rattle.std.specs.Option.{option_map}
use Rattle.std.proofs.lemmas.List.Elements.{All-weaker}
use Rattle.std.proofs.lemmas.Option.{same_Some}
use Rattle.g_tape.specs.Reel.{Reel}
use Rattle.g_disc_contents.specs.Contents.{Contents, File, Holds}
use Rattle.g_disc_contents.proofs.HoldLemmas.{holds_one}
use Rattle.g_incr.specs.Layout.{Dump}
use Rattle.g_shelf.specs.CompletedDumps.{AreShelved, all_dumps}
use Rattle.g_store_model.specs.State.{State}
use Rattle.g_store_meaning.proofs.OneLemmas.{devices_are_one}
use Rattle.g_store_meaning.specs.Belonging.{DiscBelongs, KeepsFile, KeepsRecord, RackBelongs}
use Rattle.g_store_meaning.specs.Meaning.{DumpedDirectory, files_in, told_reels}
use Rattle.g_store_meaning.specs.Reading.{AllTold, HasText, IsRackView, IsView, View, dumped_of, holding_of, row_of}
use Rattle.g_run_model.specs.Devices.{AreReadAs, Devices, HoldsThis, StandFor}

nobody : {P : Type 0} (ds : List Dump) (d : Dump) → ds ≡ [] → Contains ds d → P
nobody [] d none (i, within, is) = absurd (let never : ⊥ = omega (arith, within) in never)
nobody (e ∷ ds) d none there = absurd (let never : ⊥ = cc in never)

-- THE VIEW of texts, dumps and a directory
module _ (held : Option (List (List ℕ))) (reels : List Reel) (text : ℕ → List ℕ) (shelf : ℕ → List Dump) (shelved : AreShelved shelf reels)
    (rack : RackBelongs text (all_dumps shelf reels)) (dumped : Option (DumpedDirectory (all_dumps shelf reels))) (undumped : dumped ≡ None → all_dumps shelf reels ≡ []) where
  abbrev view_of : View
  view_of = record { text = text; shelf = shelf; dumps = all_dumps shelf reels; dumped = dumped; opened = None }

  keeps_dumped : (t : Option (DumpedDirectory (all_dumps shelf reels))) → IfSome t (λ d. All (λ r. KeepsRecord (text r.stamp) (all_dumps shelf reels) r) (files_in d))
  keeps_dumped None = tt
  keeps_dumped (Some t) = rack.records t

  racks : IsRackView held reels view_of
  racks = record {
    shelved = shelved;
    all = refl;
    dumped = λ told. keeps_dumped dumped;
    none = λ told isnt t other keeps. nobody (all_dumps shelf reels) t.last (undumped isnt) t.greatest.there;
  }

  views : (c : Contents) → DiscBelongs text shelf reels c → IsView held reels c view_of
  views c disc = record {
    rack = racks;
    files = All-weaker (λ (f : File). KeepsFile (text f.rec.stamp) (all_dumps shelf reels) f) (λ (f : File). HasText (AllTold held reels) (text f.rec.stamp) (all_dumps shelf reels) f)
        (λ f keeps. record { len = keeps.rec.len; bytes = keeps.bytes; tape = λ told offline. keeps.rec.copy }) c.files disc.files;
  }

  held_by : (contents : Option Contents) → HoldsThis held text shelf reels contents
      → IfSome contents (λ c. (blocks : List (List ℕ)) × (held ≡ Some blocks) × Holds blocks c × IsView held reels c view_of)
  held_by None is = tt
  held_by (Some c) (blocks, at, holds, belongs) = (blocks, at, holds, views c belongs)

-- for any contents of the disc, they belong to the reels
belongs_by : (held : Option (List (List ℕ))) (text : ℕ → List ℕ) (shelf : ℕ → List Dump) (reels : List Reel) (contents : Option Contents) → HoldsThis held text shelf reels contents
    → (blocks : List (List ℕ)) (c : Contents) → held ≡ Some blocks → Holds blocks c → DiscBelongs text shelf reels c
belongs_by held text shelf reels None is blocks c at holds = absurd (is blocks c at holds)
belongs_by held text shelf reels (Some e) (there, is, stands, belongs) blocks c at holds =
    let same : there ≡ blocks = same_Some there blocks (sym is ∙ at) in
    subst (λ (x : Contents). DiscBelongs text shelf reels x) (holds_one blocks e c (subst (λ (b : List (List ℕ)). Holds b e) same stands) holds) belongs

none_by : (held : Option (List (List ℕ))) (text : ℕ → List ℕ) (shelf : ℕ → List Dump) (reels : List Reel) (contents : Option Contents) → HoldsThis held text shelf reels contents
    → is_some contents ≡ false → (blocks : List (List ℕ)) (c : Contents) → held ≡ Some blocks → Holds blocks c → ⊥
none_by held text shelf reels None is isnt = is
none_by held text shelf reels (Some e) is isnt = absurd (let never : ⊥ = cc in never)

pub read_as : (d : Devices) (s : State) → StandFor d s → AreReadAs d s
read_as d s stand = record {
  told = stand.told;
  belong = record {
    text = stand.text;
    shelf = stand.shelf;
    shelved = stand.shelved;
    rack = stand.rack;
    disc = belongs_by d.disc.held stand.text stand.shelf (told_reels d.rack) stand.contents stand.disc;
  };
  reads = record {
    view = view_of d.disc.held (told_reels d.rack) stand.text stand.shelf stand.shelved stand.rack stand.dumped stand.undumped;
    contents = stand.contents;
    is = held_by d.disc.held (told_reels d.rack) stand.text stand.shelf stand.shelved stand.rack stand.dumped stand.undumped stand.contents stand.disc;
    none = none_by d.disc.held stand.text stand.shelf (told_reels d.rack) stand.contents stand.disc;
    rack = racks d.disc.held (told_reels d.rack) stand.text stand.shelf stand.shelved stand.rack stand.dumped stand.undumped;
    state_is = stand.is;
  };
}

-- conversely: for what is read, with the texts and dumps by which disc and rack belong together
abbrev first_dumped : (dumps : List Dump) → ((d : Dump) → Contains dumps d → DumpedDirectory dumps) → Option (DumpedDirectory dumps)
first_dumped [] tree = None
first_dumped (d ∷ ds) tree = Some (tree d (0, omega arith, refl))

none_first : (dumps : List Dump) (tree : (d : Dump) → Contains dumps d → DumpedDirectory dumps) → first_dumped dumps tree ≡ None → dumps ≡ []
none_first [] tree isnt = refl
none_first (d ∷ ds) tree isnt = absurd (let never : ⊥ = cc in never)

module _ (d : Devices) (s : State) (a : AreReadAs d s) where
  disc_by : (contents : Option Contents) → IfSome contents (λ c. (blocks : List (List ℕ)) × (d.disc.held ≡ Some blocks) × Holds blocks c × IsView d.disc.held (told_reels d.rack) c a.reads.view)
      → (is_some contents ≡ false → (blocks : List (List ℕ)) (c : Contents) → d.disc.held ≡ Some blocks → Holds blocks c → ⊥)
      → HoldsThis d.disc.held a.belong.text a.belong.shelf (told_reels d.rack) contents
  disc_by None is none = none refl
  disc_by (Some c) (blocks, at, holds, viewed) none = (blocks, at, holds, a.belong.disc blocks c at holds)

  abbrev state_by : State
  state_by = record {
    up = false;
    size = d.disc.size;
    holding = option_map (holding_of a.belong.text []) a.reads.contents;
    reels = map (row_of a.belong.shelf) (told_reels d.rack);
    dumped = option_map (dumped_of a.belong.text) (first_dumped (all_dumps a.belong.shelf (told_reels d.rack)) a.belong.rack.tree);
    open_dump = None;
  }

  stands_by : StandFor d state_by
  stands_by = record {
    told = a.told;
    text = a.belong.text;
    shelf = a.belong.shelf;
    shelved = a.belong.shelved;
    rack = a.belong.rack;
    contents = a.reads.contents;
    disc = disc_by a.reads.contents a.reads.is a.reads.none;
    dumped = first_dumped (all_dumps a.belong.shelf (told_reels d.rack)) a.belong.rack.tree;
    undumped = none_first (all_dumps a.belong.shelf (told_reels d.rack)) a.belong.rack.tree;
    is = refl;
  }

pub stands_as : (d : Devices) (s : State) → AreReadAs d s → StandFor d s
stands_as d s a =
    let same : s ≡ state_by d s a = devices_are_one d.disc.size d.disc.held (told_reels d.rack) s (state_by d s a) a.told a.belong a.reads (read_as d (state_by d s a) (stands_by d s a)).reads in
    subst (λ (u : State). StandFor d u) (sym same) (stands_by d s a)

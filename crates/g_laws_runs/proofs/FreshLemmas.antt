-- Devices have a state, new ones a state without a filestore.
-- serves: devices_have_one_state (emptied, new, some), AnewLemmas, crates above
use Rattle.std.proofs.Common.{◌≡◌, ℕ, zero, suc, ◌+◌, List, [], ◌∷◌, Contains, map, Option, Some, None, refl, sym, ◌∙◌, ap, subst, arith}
use Rattle.std.specs.Prelude.{All, true, IfSome, drop, is_some, option_map, replicate, slice_get, take}
use Rattle.std.specs.List.{AllByRecursion}
use Rattle.std.proofs.lemmas.List.Elements.{All-contains, All-contains_itself, All-from_recursion, All-weaker, recursion_from_All}
use Rattle.std.proofs.lemmas.List.Sorted.{Contains-permutation, IsPermutation-sym}
use Rattle.g_disc_contents.specs.Contents.{Contents, Holds}
use Rattle.g_dirs.specs.Image.{block_of}
use Rattle.g_base.specs.Fields.{padded}
use Rattle.g_entry.specs.HeadFields.{head_fields}
use Rattle.g_incr.proofs.ListLemmas.{get_drop, get_take}
use Rattle.g_incr.specs.Layout.{Dump, dump_blocks, size_of}
use Rattle.g_shelf.specs.CompletedDumps.{AreCompleted, IsNext, all_dumps}
use Rattle.g_slots.specs.Layout.{gate_side, slot, start_of}
use Rattle.g_slots.specs.declared.side.Side.{Side}
use Rattle.g_store_meaning.specs.Belonging.{BelongWith, RackBelongs}
use Rattle.g_store_meaning.specs.Meaning.{told_reels}
use Rattle.g_store_meaning.specs.Reading.{AllTold, DevicesStandFor, IsView, holding_of}
use Rattle.g_laws_store.specs.States.{AreContents, HaveStates}
use Rattle.g_store_model.specs.State.{Holding, State}
use Rattle.g_tape.specs.Memory.{IsEmptyRack, Memory}
use Rattle.g_tape.specs.Reads.{unread}
use Rattle.g_tape.specs.Reel.{Reel, empty_reel_of}
use Rattle.g_run_model.proofs.StandLemmas.{stands_as}
use Rattle.g_run_model.specs.Devices.{Devices}
use Rattle.g_laws_runs.specs.BeginningAnew.{EmptiedStand, with_new_disc}
use Rattle.g_laws_runs.specs.NewDevices.{NewDevicesStand, NewState, NotStateless}

-- THERE IS A STATE, since there would be one of any contents, and one of none
pub not_stateless : HaveStates → NotStateless
not_stateless have d told belong none = no_contents None (record {
  are = tt;
  none = λ isnt blocks c is holds. no_contents (Some c) (record { are = (blocks, is, holds); none = λ no. absurd (let never : ⊥ = cc in never) });
})
  where
    no_contents : (contents : Option Contents) → AreContents d.disc.held contents → ⊥
    no_contents contents are =
        let (u, reads) = have.devices d.disc.size d.disc.held (told_reels d.rack) contents are belong in
        none u (ap (λ (s : State). s.up) reads.state_is) (stands_as d u (record { told = told; belong = belong; reads = reads }))

-- a disc of zeros holds nothing
of_replicate : (n i : ℕ) (z x : List ℕ) → slice_get (replicate n z) i ≡ Some x → x ≡ z
of_replicate zero i z x e = absurd (let no : ⊥ = cc in no)
of_replicate (suc n) zero z x e = cc
of_replicate (suc n) (suc i) z x e = of_replicate n i z x e

abbrev first_of : List ℕ → ℕ
first_of [] = 1
first_of (x ∷ xs) = x

in_slot : (side : Side) (blocks : List (List ℕ)) (x : List ℕ) → slice_get (slot side blocks) 0 ≡ Some x → slice_get blocks (start_of side + 0) ≡ Some x
unfolding slot
in_slot side blocks x e = sym (get_drop (start_of side) blocks 0) ∙ get_take 1088 (drop (start_of side) blocks) 0 x e

first_is : (n : ℕ) (c : Contents) → (h : Holds (replicate n (replicate 512 0)) c) → first_of (block_of h.stands.format h.directory 0) ≡ 71
unfolding block_of padded head_fields
first_is n c h = refl

nothing_held : (n : ℕ) (c : Contents) → Holds (replicate n (replicate 512 0)) c → ⊥
nothing_held n c h =
    let blocks : List (List ℕ) = replicate n (replicate 512 0) in
    let there = h.stands.image.block 0 (omega arith) in
    let zeros : block_of h.stands.format h.directory 0 ≡ replicate 512 0 =
    of_replicate n (start_of (gate_side blocks) + 0) (replicate 512 0) (block_of h.stands.format h.directory 0) (in_slot (gate_side blocks) blocks (block_of h.stands.format h.directory 0) there) in
    let both : 71 ≡ 0 = sym (first_is n c h) ∙ ap first_of zeros in
    let no : ⊥ = omega (arith, both) in
    no

-- reels without blocks
abbrev pub IsEmptyReel : Reel → Type 0
IsEmptyReel r = r.blocks ≡ Some []

labelled : (labels : List (ℕ × ℕ)) → AllByRecursion IsEmptyReel (map empty_reel_of labels)
labelled [] = tt
labelled (label ∷ labels) = (refl, labelled labels)

unread_empty : (reels : List Reel) → AllByRecursion IsEmptyReel reels → AllByRecursion IsEmptyReel (map unread reels)
unread_empty [] all = tt
unread_empty (r ∷ reels) all = (all.0, unread_empty reels all.1)

racked : (labels : List (ℕ × ℕ)) (m : Memory) → IsEmptyRack labels m → All IsEmptyReel m.rack.reels
racked labels m empty =
    All-weaker (Contains m.rack.reels) IsEmptyReel
    (λ r there. All-contains IsEmptyReel (map empty_reel_of labels) r (All-from_recursion IsEmptyReel (map empty_reel_of labels) (labelled labels))
    (Contains-permutation m.rack.reels (map empty_reel_of labels) r (IsPermutation-sym (map empty_reel_of labels) m.rack.reels empty.reels) there))
    m.rack.reels (All-contains_itself m.rack.reels)

told_empty : (labels : List (ℕ × ℕ)) (m : Memory) → IsEmptyRack labels m → All IsEmptyReel (told_reels m.rack)
told_empty labels m empty = All-from_recursion IsEmptyReel (told_reels m.rack) (unread_empty m.rack.reels (recursion_from_All IsEmptyReel m.rack.reels (racked labels m empty)))

-- they have no dump
drop_none : (n : ℕ) → drop n (let none : List (List ℕ) = [] in none) ≡ []
drop_none zero = refl
drop_none (suc n) = refl

take_none : (n : ℕ) → take n (let none : List (List ℕ) = [] in none) ≡ []
take_none zero = refl
take_none (suc n) = refl

some_blocks : {P : Type 0} (d : Dump) → (let none : List (List ℕ) = [] in none ≡ dump_blocks d) → P
unfolding dump_blocks
some_blocks d e = absurd (let no : ⊥ = cc in no)

pub none_next : (serial : ℕ) (d : Dump) → IsNext serial [] 0 0 d → ⊥
none_next serial d next = some_blocks d (sym (ap (take (size_of d)) (drop_none d.place) ∙ take_none (size_of d)) ∙ next.stands.blocks)

abbrev pub no_dumps : ℕ → List Dump
no_dumps serial = []

pub none_all : (reels : List Reel) → all_dumps no_dumps reels ≡ []
none_all [] = refl
none_all (r ∷ reels) = none_all reels

pub nobody : {P : Type 0} (d : Dump) → (let none : List Dump = [] in Contains none d) → P
nobody d (k, less, is) = absurd (let no : ⊥ = omega (arith, less) in no)

abbrev no_text : ℕ → List ℕ
no_text stamp = []

no_rack : RackBelongs no_text []
no_rack = record {
  apart = λ d e there other number. nobody d there;
  rising = λ d e there other number. nobody d there;
  tree = λ d there. nobody d there;
  records = λ t. nobody t.last t.greatest.there;
}

same_blocks : (x y : List (List ℕ)) → (let one : Option (List (List ℕ)) = Some x in one ≡ Some y) → x ≡ y
same_blocks x y e = cc

belong_empty : (n : ℕ) (reels : List Reel) → All IsEmptyReel reels → BelongWith (Some (replicate n (replicate 512 0))) reels
belong_empty n reels empty = record {
  text = no_text;
  shelf = no_dumps;
  shelved = record {
    each = λ r there x is. subst (λ (b : List (List ℕ)). AreCompleted r.serial b []) (same_blocks [] x (sym (All-contains IsEmptyReel reels r empty there) ∙ is)) (record { are = none_next r.serial });
  };
  rack = subst (λ (ds : List Dump). RackBelongs no_text ds) (sym (none_all reels)) no_rack;
  disc = λ blocks c held holds. absurd (nothing_held n c (subst (λ (b : List (List ℕ)). Holds b c) (sym (same_blocks (replicate n (replicate 512 0)) blocks held)) holds));
}

told_is : (r : Reel) → IsEmptyReel r → is_some r.blocks ≡ true
told_is r e = ap is_some e

all_told : (n : ℕ) (reels : List Reel) → All IsEmptyReel reels → AllTold (Some (replicate n (replicate 512 0))) reels
all_told n reels empty = record { disc = refl; each = record { each = All-weaker IsEmptyReel (λ r. is_some r.blocks ≡ true) told_is reels empty } }

none_holding : (text : ℕ → List ℕ) (contents : Option Contents) → (is_some contents ≡ true → ⊥) → (let none : Option Holding = None in option_map (holding_of text []) contents ≡ none)
none_holding text None isnt = refl
none_holding text (Some c) isnt = absurd (isnt refl)

no_contents : (n : ℕ) (reels : List Reel) (s : State) (reads : DevicesStandFor n (Some (replicate n (replicate 512 0))) reels s) → is_some reads.contents ≡ true → ⊥
no_contents n reels s reads some = by reads.contents some reads.is
  where
    by : (contents : Option Contents) → is_some contents ≡ true → IfSome contents (λ c. (blocks : List (List ℕ)) × (let held : Option (List (List ℕ)) = Some (replicate n (replicate 512 0)) in held ≡ Some blocks) × Holds blocks c × IsView (Some (replicate n (replicate 512 0))) reels c reads.view) → ⊥
    by None some is = let no : ⊥ = cc in no
    by (Some c) some (blocks, held, holds, viewed) = nothing_held n c (subst (λ (b : List (List ℕ)). Holds b c) (sym (same_blocks (replicate n (replicate 512 0)) blocks held)) holds)

-- DEVICES of a disc of zeros and empty reels
module _ (have : HaveStates) where
  stand_new : (n : ℕ) (d : Devices) → d.disc.held ≡ Some (replicate n (replicate 512 0)) → d.disc.size ≡ n → All IsEmptyReel (told_reels d.rack) → NewState d
  stand_new n d held size empty =
      let belong = belong_empty n (told_reels d.rack) empty in
      let (s, reads) = have.devices n (Some (replicate n (replicate 512 0))) (told_reels d.rack) None (record {
        are = tt;
        none = λ isnt blocks c is holds. nothing_held n c (subst (λ (b : List (List ℕ)). Holds b c) (sym (same_blocks (replicate n (replicate 512 0)) blocks is)) holds);
      }) belong in
      record {
        state = s;
        stands = stands_as d s (record {
          told = subst (λ x. AllTold x (told_reels d.rack)) (sym held) (all_told n (told_reels d.rack) empty);
          belong = subst (λ x. BelongWith x (told_reels d.rack)) (sym held) belong;
          reads = subst (λ x. DevicesStandFor d.disc.size x (told_reels d.rack) s) (sym held) (subst (λ x. DevicesStandFor x (Some (replicate n (replicate 512 0))) (told_reels d.rack) s) (sym size) reads);
        });
        holding = ap (λ (x : State). x.holding) reads.state_is ∙ none_holding reads.view.text reads.contents (no_contents n (told_reels d.rack) s reads);
      }

  pub new_devices_stand : NewDevicesStand
  new_devices_stand n labels d more new =
      stand_new n d (ap (λ x. x.held) new.disc) (ap (λ x. x.size) new.disc) (subst (λ x. All IsEmptyReel (told_reels x)) (sym new.rack) (told_empty labels new.memory new.empty))

  pub emptied_stand : EmptiedStand
  emptied_stand d more emptied = stand_new d.disc.size (with_new_disc d) refl refl emptied.reels

-- RESTORE: the store that it creates, and what a refusal leaves.
-- serves: ProcessedStepLemmas, RestoredLemmas
use Rattle.std.proofs.Common.{◌≡◌, ℕ, ◌≤◌, Bool, true, false, List, [], ◌∷◌, ◌++◌, Option, Some, None, Result, Ok, Err, refl, sym, ◌∙◌, ap, arith, subst, get_or}
use Rattle.std.specs.Prelude.{◌==◌, ◌&&◌, All, Contains, IfSome, MatchOption, find, length, map, not, option_map, if◌then◌else◌}
use Rattle.std.specs.List.{list_all}
use Rattle.std.specs.Ordering.{nat_cmp}
use Rattle.std.specs.FinMap.{from_entries}
use Rattle.std.proofs.lemmas.Bool.{and_parts, eqb-true, false≢true}
use Rattle.std.proofs.lemmas.List.Elements.{All-map, All-weaker}
use Rattle.std.proofs.lemmas.Option.{none-some, same_Some}
use Rattle.g_disc.specs.Disc.{DiscState}
use Rattle.g_entry.specs.declared.file_rec.FileRec.{FileRec}
use Rattle.g_tape.specs.Rack.{Rack}
use Rattle.g_tape.specs.Reads.{unread}
use Rattle.g_tape.specs.Reel.{Reel}
use Rattle.g_plain.specs.PlainStep.{first_fault}
use Rattle.g_plain.specs.declared.faults.StoreFault.{StoreFault}
use Rattle.g_plain.specs.declared.faults.StoreFault.TheVariants.{NoDump, RackNotMounted, TapeReadFault}
use Rattle.g_tree.proofs.ListLemmas.{map_of_map}
use Rattle.g_disc_contents.specs.Contents.{Contents, File, Holds}
use Rattle.g_disc_contents.specs.Facts.{IsTied, OnlineFacts}
use Rattle.g_incr.specs.Layout.{Dump}
use Rattle.g_shelf.specs.CompletedDumps.{AreShelved, all_dumps}
use Rattle.g_shelf.specs.LastDump.{first_unmounted}
use Rattle.g_online.specs.Beginning.{HasMade}
use Rattle.g_store_model.specs.State as state
use Rattle.g_store_model.specs.CallStep.{Outcome, Plain}
use Rattle.g_store_model.specs.DumpSteps.{Event}
use Rattle.g_store_model.specs.Rising as rising
use Rattle.g_store_meaning.specs.Answers.{Belongs}
use Rattle.g_store_meaning.specs.Belonging.{Belong, DiscBelongs, KeepsFile, KeepsRecord}
use Rattle.g_store_meaning.specs.Laws.{restored, restored_file}
use Rattle.g_store_meaning.specs.Meaning.{DumpedDirectory, files_in, told_reels}
use Rattle.g_store_meaning.specs.Reading.{AllTold, DevicesStandFor, HasText, IsRackView, IsView, ReelsTold, StandsForState, View, dumped_of, holding_of, names_of, place_of, row_of, shelved_of, state_down, state_up, tree_by}
use Rattle.g_store_meaning.proofs.ChangeLemmas.{restore_belongs}
use Rattle.g_store_meaning.proofs.OneLemmas.{devices_are_one}
use Rattle.g_restore.specs.Restoration.{IsRestored}
use Rattle.g_restore.proofs.ReelLemmas.{all_of_reels}
use Rattle.g_store_calls.proofs.BehindLemmas.{rack_seen}
use Rattle.g_store.proofs.MakeLemmas.{belongs_made, stands_up, store_of, up_is}

-- WHAT THE STATE SEES of the reels
pub first_down : (shelf : ℕ → List Dump) (reels : List Reel) → state.first_reel (λ row. not row.mounted) (map (row_of shelf) (map unread reels)) ≡ first_unmounted reels
first_down shelf [] = refl
first_down shelf (r ∷ rs) = pick r.mounted (first_down shelf rs)
  where
    pick : (b : Bool) → state.first_reel (λ row. not row.mounted) (map (row_of shelf) (map unread rs)) ≡ first_unmounted rs
        → (if not b then Some r.serial else state.first_reel (λ row. not row.mounted) (map (row_of shelf) (map unread rs))) ≡ option_map (λ (q : Reel). q.serial) (if not b then Some r else find (λ (q : Reel). not q.mounted) rs)
    pick true rest = rest
    pick false rest = refl

none_at : (shelf : ℕ → List Dump) (r : Reel) → rising.has_none (row_of shelf r) ≡ true → shelf r.serial ≡ []
none_at shelf r is = by_list (shelf r.serial) is
  where
    by_list : (ds : List Dump) → rising.has_none (record (row_of shelf r) { dumps = map shelved_of ds }) ≡ true → ds ≡ []
    by_list [] is = refl
    by_list (d ∷ ds) is = absurd (false≢true is)

none_in : (shelf : ℕ → List Dump) (reels : List Reel) → list_all rising.has_none (map (row_of shelf) reels) ≡ true → all_dumps shelf reels ≡ []
none_in shelf [] is = refl
none_in shelf (r ∷ rs) is =
    let (here, rest) = and_parts (rising.has_none (row_of shelf r)) (list_all rising.has_none (map (row_of shelf) rs)) is in
    λ i. none_at shelf r here i ++ none_in shelf rs rest i

empty_at : (shelf : ℕ → List Dump) (r : Reel) → shelf r.serial ≡ [] → rising.has_none (row_of shelf r) ≡ true
empty_at shelf r is = ap (λ (ds : List Dump). rising.has_none (record (row_of shelf r) { dumps = map shelved_of ds })) is

pub all_none : (shelf : ℕ → List Dump) (reels : List Reel) → all_dumps shelf reels ≡ [] → list_all rising.has_none (map (row_of shelf) reels) ≡ true
all_none shelf [] is = refl
all_none shelf (r ∷ rs) is =
    let (here, rest) = both_empty (shelf r.serial) (all_dumps shelf rs) is in
    λ i. (empty_at shelf r here i) && (all_none shelf rs rest i)
  where
    both_empty : (a b : List Dump) → a ++ b ≡ [] → (a ≡ []) × (b ≡ [])
    both_empty [] b is = (refl, is)
    both_empty (d ∷ a) b is = let no : ⊥ = cc in absurd no

some_in : (shelf : ℕ → List Dump) (reels : List Reel) (d : Dump) → Contains (all_dumps shelf reels) d → list_all rising.has_none (map (row_of shelf) reels) ≡ false
some_in shelf reels d there = by_test (list_all rising.has_none (map (row_of shelf) reels)) refl
  where
    by_test : (b : Bool) → list_all rising.has_none (map (row_of shelf) reels) ≡ b → list_all rising.has_none (map (row_of shelf) reels) ≡ false
    by_test false is = is
    by_test true is = let (i, inside, at) = subst (λ (ds : List Dump). Contains ds d) (none_in shelf reels is) there in let no : ⊥ = omega (arith, inside) in absurd no

-- THE DIRECTORY of the completed dumps
pub record RestoredAt (dumps : List Dump) (held : Option (List (List ℕ))) (number : ℕ) (made : Contents) : Type 0 where
  pub directory : DumpedDirectory dumps
  pub number_is : number ≡ directory.last.number
  pub made_is : made ≡ restored held directory

pub restored_at : (reels : List Reel) (held : Option (List (List ℕ))) (number : ℕ) (made : Contents) (shelf : ℕ → List Dump) → ReelsTold reels → AreShelved shelf reels → IsRestored reels held number made
    → RestoredAt (all_dumps shelf reels) held number made
restored_at reels held number made shelf told shelved is =
    subst (λ (ds : List Dump). RestoredAt ds held number made) (all_of_reels reels is.dumps shelf told shelved is.are)
    (record { directory = is.directory; number_is = is.number_is; made_is = is.made_is })

recs_of : (held : Option (List (List ℕ))) (rs : List FileRec) → map (λ (f : File). f.rec) (map (restored_file held) rs) ≡ rs
recs_of held [] = refl
recs_of held (r ∷ rs) = ap (λ (xs : List FileRec). r ∷ xs) (recs_of held rs)

-- what the restored contents hold is the dumped tree
module _ (dumps : List Dump) (held : Option (List (List ℕ))) (t : DumpedDirectory dumps) (text : ℕ → List ℕ) where
  pub held_is : holding_of text [] (restored held t) ≡ record (rising.restored (dumped_of text t)) { kept = names_of [] }
  held_is =
      λ i.
      let h : state.Holding = record {
        tree = tree_by text t.last.users (recs_of held (files_in t) i) t.last.next;
        places = from_entries {R = nat_cmp} (map_of_map (λ (f : File). (f.rec.stamp, place_of f)) (restored_file held) (files_in t) i);
        last = t.last.number;
        intent = None;
        kept = names_of [];
      } in h

  text_of : (told : Type 0) (r : FileRec) → KeepsRecord (text r.stamp) dumps r → (b : Bool) → (r.len == 0) ≡ b
      → (let f : File = record { rec = r; online = b; bytes = if b then option_map (λ blocks. []) held else None } in HasText told (text r.stamp) dumps f)
  text_of told r keeps true empty = record {
    len = keeps.len;
    bytes = λ bytes is. nothing held bytes is ∙ sym (none_long (text r.stamp) (keeps.len ∙ eqb-true r.len 0 empty));
    tape = λ told offline. keeps.copy;
  }
    where
      nothing : (h : Option (List (List ℕ))) (bytes : List ℕ) → option_map (λ blocks. []) h ≡ Some bytes → bytes ≡ []
      nothing None bytes is = absurd (none-some bytes is)
      nothing (Some blocks) bytes is = sym (same_Some [] bytes is)

      none_long : (xs : List ℕ) → length xs ≡ 0 → xs ≡ []
      none_long [] is = refl
      none_long (x ∷ xs) is = let no : ⊥ = omega (arith, is) in absurd no
  text_of told r keeps false some = record { len = keeps.len; bytes = λ bytes is. absurd (none-some bytes is); tape = λ told offline. keeps.copy }

  pub texts_are : (told : Type 0) → All (λ r. KeepsRecord (text r.stamp) dumps r) (files_in t) → All (λ f. HasText told (text f.rec.stamp) dumps f) (restored held t).files
  texts_are told keeps =
      All-map (λ (f : File). HasText told (text f.rec.stamp) dumps f) (restored_file held) (files_in t)
      (λ i d inside. let r = get_or (files_in t) i d in text_of told r (keeps i d inside) (r.len == 0) refl)

-- the state that disc and rack represent, by what makes them belong together and by this directory
module _ (disc : DiscState) (rack : Rack) (told : AllTold disc.held (told_reels rack)) (belong : Belong disc.held rack) (number : ℕ) (made : Contents)
    (at : RestoredAt (all_dumps belong.shelf (told_reels rack)) disc.held number made) where
  abbrev reels : List Reel
  reels = told_reels rack

  abbrev t : DumpedDirectory (all_dumps belong.shelf reels)
  t = at.directory

  abbrev pub v : View
  v = record { text = belong.text; shelf = belong.shelf; dumps = all_dumps belong.shelf reels; dumped = Some t; opened = None }

  pub right : IsRackView disc.held reels v
  right = record { shelved = belong.shelved; all = refl; dumped = λ told. belong.rack.records t; none = λ told no. absurd (none-some t (sym no)) }

  abbrev pub there : Option Contents → state.State
  there c = state_down v reels disc.size c

  pub stands_there : (s : state.State) (devices : DevicesStandFor disc.size disc.held reels s) → DevicesStandFor disc.size disc.held reels (there devices.contents)
  stands_there s devices = record { view = v; contents = devices.contents; is = by_contents devices.contents devices.is; none = devices.none; rack = right; state_is = refl }
    where
      by_contents : (contents : Option Contents) → IfSome contents (λ c. (blocks : List (List ℕ)) × (disc.held ≡ Some blocks) × Holds blocks c × IsView disc.held reels c devices.view)
          → IfSome contents (λ c. (blocks : List (List ℕ)) × (disc.held ≡ Some blocks) × Holds blocks c × IsView disc.held reels c v)
      by_contents None is = tt
      by_contents (Some c) (blocks, held, holds, seen) =
          let disc_belongs = belong.disc blocks c held holds in (
            blocks,
            held,
            holds,
            record {
              rack = right;
              files = All-weaker (λ (f : File). KeepsFile (belong.text f.rec.stamp) (all_dumps belong.shelf reels) f)
                  (λ (f : File). HasText (AllTold disc.held reels) (belong.text f.rec.stamp) (all_dumps belong.shelf reels) f)
                  (λ f keeps. record { len = keeps.rec.len; bytes = keeps.bytes; tape = λ told offline. keeps.rec.copy }) c.files disc_belongs.files;
            },
          )

  pub is_there : (s : state.State) (devices : DevicesStandFor disc.size disc.held reels s) → s ≡ there devices.contents
  is_there s devices = devices_are_one disc.size disc.held reels s (there devices.contents) told belong devices (stands_there s devices)

  -- nothing is in the way before the dumped tree
  module _ (mounted : first_unmounted rack.reels ≡ None) where
    pub early : (c : Option Contents) (b : Bool)
        → first_fault (rising.fault_from RackNotMounted (state.first_reel (λ r. not r.mounted) (there c).reels) ∷ (false, TapeReadFault) ∷ (list_all rising.has_none (there c).reels, NoDump) ∷ []) ≡ None
    early c b =
        let some = some_in belong.shelf reels t.last t.greatest.there in
        let up = first_down belong.shelf rack.reels ∙ mounted in
        λ i. first_fault (rising.fault_from RackNotMounted (up i) ∷ (false, TapeReadFault) ∷ (some i, NoDump) ∷ [])

    -- the step is that of the dumped tree
    pub by_dumped : (c : Option Contents) (out : Outcome) → rising.restore_early (there c) out ≡ None → (answer : Result ℕ StoreFault) (u : state.State)
        → Event (rising.restore_late out) t.last.number (there c) (rising.coming_up (there c) (rising.restored (dumped_of belong.text t))) answer u → rising.RestoreStep (there c) out answer u
    by_dumped c out none answer u event =
        subst (λ (r : Option StoreFault). MatchOption r (rising.Restores (there c) (there c).dumped out answer u) (λ fault. (answer ≡ Err fault) × (u ≡ there c))) (sym none) event

    -- MADE
    module _ (o : OnlineFacts) (has_made : HasMade made disc o) (tied : IsTied o) where
      view_of : IsView o.disc.held reels o.contents v
      view_of = record {
        rack = rack_seen disc.held o.disc.held reels v has_made.told right;
        files = subst (λ (x : Contents). All (λ f. HasText (AllTold o.disc.held reels) (belong.text f.rec.stamp) (all_dumps belong.shelf reels) f) x.files) (sym (has_made.contents ∙ at.made_is))
            (texts_are (all_dumps belong.shelf reels) disc.held t belong.text (AllTold o.disc.held reels) (belong.rack.records t));
      }

      pub steps : (s : state.State) → DevicesStandFor disc.size disc.held reels s → (u : state.State) × StandsForState (store_of o rack) u × rising.RestoreStep s Plain (Ok number) u
      steps s devices =
          let c = devices.contents in
          let u = state_up v reels o None in (
            u,
            stands_up o has_made.begun disc rack v c has_made.causes.size u view_of refl,
            subst (λ (x : state.State). rising.RestoreStep x Plain (Ok number) u) (sym (is_there s devices))
                (by_dumped c Plain (early c false) (Ok number) u (
                  ap Ok at.number_is,
                  up_is o has_made.begun disc rack v c has_made.causes.size (rising.restored (dumped_of belong.text t))
                      (ap (holding_of belong.text []) (has_made.contents ∙ at.made_is) ∙ held_is (all_dumps belong.shelf reels) disc.held t belong.text),
                )),
          )

      pub belongs : Belongs (store_of o rack)
      belongs =
          belongs_made o has_made.begun rack tied belong.text belong.shelf belong.shelved belong.rack
          (subst (DiscBelongs belong.text belong.shelf reels) (sym (has_made.contents ∙ at.made_is)) (restore_belongs belong.text belong.shelf reels disc.held t belong.rack))
          (λ d is. subst (λ (x : Contents). d.number ≤ x.head.last_dump) (sym (has_made.contents ∙ at.made_is)) (t.greatest.greatest d is))

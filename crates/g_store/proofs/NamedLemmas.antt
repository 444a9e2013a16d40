-- The dump that an intent names, among those that were read on its reel.
-- serves: find_named (none, some), StartLemmas
use Rattle.std.proofs.Common.{◌≡◌, ℕ, zero, suc, ◌+◌, Bool, true, false, List, [], ◌∷◌, Option, Some, None, refl, sym, ◌∙◌, ap, arith, subst}
use Rattle.std.specs.Prelude.{◌==◌, ◌&&◌, Contains, IfNone, IfSome, find, is_some, map, if◌then◌else◌}
use Rattle.std.specs.List.{list_any}
use Rattle.std.proofs.lemmas.Bool.{and_parts, both_ways, eq-eqb, eqb-true}
use Rattle.std.proofs.lemmas.List.Elements.{Contains-append_right}
use Rattle.g_entry.specs.declared.head.Intent.{Intent}
use Rattle.g_tape.specs.Rack.{Rack}
use Rattle.g_tape.specs.Reads.{OnlyReads, blocks_of}
use Rattle.g_tape.proofs.ReadLemmas.{blocks_after_reads}
use Rattle.g_incr.specs.declared.note.DumpDir.{DumpDir}
use Rattle.g_incr.specs.declared.note.DumpNote.{DumpNote}
use Rattle.g_incr.specs.Layout.{Dump, ends}
use Rattle.g_incr.specs.Reading.{HasNone, IsFound}
use Rattle.g_shelf.specs.CompletedDumps.{AreCompleted, AreNext, IsNext}
use Rattle.g_shelf.specs.FoundDumps.{note_of}
use Rattle.g_known.specs.ReelNotes.{AreFound}
use Rattle.g_shelf.proofs.OneLemmas.{completed_are_one, same_next}
use Rattle.g_store_model.specs.Rising.{is_intended}
use Rattle.g_store_meaning.specs.Reading.{shelved_of}
use Rattle.g_laws_store.proofs.UnjamLemmas.{any_found}
use Rattle.g_laws_store.proofs.UserLemmas.{any_there}
use Rattle.g_laws_store.proofs.WaitingLemmas.{from_mapped, mapped_there}
use Rattle.g_store.specs.Starting.{HasNamed, IsNamed, NamesNone, names}

-- each completed dump lies on the reel
stands_in : (serial : ℕ) (reel : List (List ℕ)) (at from : ℕ) (ds : List Dump) → AreNext serial reel at from ds → (d : Dump) → Contains ds d → IsNext serial reel d.place 0 d
stands_in serial reel at from [] are d (i, within, is) = let no : ⊥ = omega (arith, within) in absurd no
stands_in serial reel at from (e ∷ es) are d (zero, within, is) =
    subst (λ (x : Dump). IsNext serial reel x.place 0 x) is (record { on = are.0.on; place = refl; number = omega arith; stands = are.0.stands })
stands_in serial reel at from (e ∷ es) are d (suc i, within, is) = stands_in serial reel (ends e) (e.number + 1) es are.1 d (i, omega (arith, within), is)

-- the notes determine which of the dumps it is
named_note : (i : Intent) (dumps : List Dump) → list_any (names i) (map note_of dumps) ≡ true → (d : Dump) × IsNamed i dumps d
named_note i dumps is =
    let (n, there, test) = any_found (names i) (map note_of dumps) is in
    let (d, in_dumps, same) = from_mapped note_of dumps n there in
    let (place, number) = and_parts (n.place == i.place) (n.number == i.number) test in (
      d,
      record {
        there = in_dumps;
        place = ap (λ (x : DumpNote). x.place) same ∙ eqb-true n.place i.place place;
        number = ap (λ (x : DumpNote). x.number) same ∙ eqb-true n.number i.number number;
      },
    )

note_named : (i : Intent) (dumps : List Dump) (d : Dump) → IsNamed i dumps d → list_any (names i) (map note_of dumps) ≡ true
note_named i dumps d is =
    any_there (names i) (map note_of dumps) (note_of d) (mapped_there note_of dumps d is.there)
    (λ j. (eq-eqb d.place i.place is.place j) && (eq-eqb d.number i.number is.number j))

module _ (i : Intent) (old mid : Rack) (dumps : List Dump) (found_there : AreFound i.serial dumps old) (notes : List DumpNote) (are : notes ≡ map note_of dumps) where
  these : (blocks : List (List ℕ)) → blocks_of i.serial old ≡ Some blocks → (es : List Dump) → AreCompleted i.serial blocks es → dumps ≡ es
  these blocks told es completed = completed_are_one i.serial blocks dumps es (found_there.completed blocks told) completed

  -- no note is that of the intent
  pub none_noted : list_any (names i) notes ≡ false → NamesNone i old
  none_noted isnt blocks told es completed d is =
      let here : IsNamed i dumps d = subst (λ (ds : List Dump). IsNamed i ds d) (sym (these blocks told es completed)) is in
      both_ways (list_any (names i) notes) isnt (ap (list_any (names i)) are ∙ note_named i dumps d here)

  module _ (only : OnlyReads old mid) where
    told_still : (blocks : List (List ℕ)) → blocks_of i.serial old ≡ Some blocks → blocks_of i.serial mid ≡ Some blocks
    told_still blocks told = blocks_after_reads i.serial old mid only ∙ told

    -- one is named, but no dump lies there when the reel is read again
    none_read : HasNone i.serial i.place mid → NamesNone i old
    none_read none blocks told es completed d is =
        let next = stands_in i.serial blocks 0 0 es completed.are d is.there in
        none blocks (told_still blocks told) d next.on is.place next.stands

    -- one is, and its records were read
    named_read : list_any (names i) notes ≡ true → (dir : DumpDir) → IsFound i.serial i.place mid dir → HasNamed i old dir.files.items
    named_read noted dir found = record {
      dump = found.dump;
      rules = found.rules;
      files_are = found.dir_is.files;
      named = λ blocks told es completed.
          let (d, here) = named_note i dumps (ap (list_any (names i)) (sym are) ∙ noted) in
          let is : IsNamed i es d = subst (λ (ds : List Dump). IsNamed i ds d) (these blocks told es completed) here in
          let next = stands_in i.serial blocks 0 0 es completed.are d is.there in
          let at_d : IsNext i.serial blocks i.place 0 d = record { on = next.on; place = is.place; number = omega arith; stands = next.stands } in
          let at_found : IsNext i.serial blocks i.place 0 found.dump = record { on = found.on; place = found.at; number = omega arith; stands = found.stands blocks (told_still blocks told) } in
          subst (IsNamed i es) (same_next i.serial blocks i.place 0 d found.dump at_d at_found) is;
    }

    -- as the reader answered
    pub some_read : list_any (names i) notes ≡ true → (found : Option DumpDir) → IfSome found (IsFound i.serial i.place mid) → IfSome found (λ dir. HasNamed i old dir.files.items)
    some_read noted None is = tt
    some_read noted (Some dir) is = named_read noted dir is

    pub nothing_there : (found : Option DumpDir) → IfNone found (HasNone i.serial i.place mid) → IfNone found (NamesNone i old)
    nothing_there None is = none_read is
    nothing_there (Some dir) is = tt

-- WHAT THE STATE SEES of it on the reel
seen_by : (i : Intent) (ds : List Dump) (d : Dump) → Contains ds d → is_intended i (shelved_of d) ≡ true → is_some (find (is_intended i) (map shelved_of ds)) ≡ true
seen_by i [] d (k, within, is) test = let no : ⊥ = omega (arith, within) in absurd no
seen_by i (e ∷ es) d (zero, within, is) test =
    ap (λ (b : Bool). is_some (if b then Some (shelved_of e) else find (is_intended i) (map shelved_of es))) (ap (λ (x : Dump). is_intended i (shelved_of x)) is ∙ test)
seen_by i (e ∷ es) d (suc k, within, is) test = by_first (is_intended i (shelved_of e)) (seen_by i es d (k, omega (arith, within), is) test)
  where
    by_first : (b : Bool) → is_some (find (is_intended i) (map shelved_of es)) ≡ true → is_some (if b then Some (shelved_of e) else find (is_intended i) (map shelved_of es)) ≡ true
    by_first true rest = refl
    by_first false rest = rest

pub named_seen : (i : Intent) (ds : List Dump) (d : Dump) → IsNamed i ds d → is_some (find (is_intended i) (map shelved_of ds)) ≡ true
named_seen i ds d is = seen_by i ds d is.there (λ j. (eq-eqb d.place i.place is.place j) && (eq-eqb d.number i.number is.number j))

pub none_seen : (i : Intent) (ds : List Dump) → ((d : Dump) → IsNamed i ds d → ⊥) → is_some (find (is_intended i) (map shelved_of ds)) ≡ false
none_seen i [] none = refl
none_seen i (e ∷ es) none =
    by_first (is_intended i (shelved_of e)) refl
    (none_seen i es (λ d is. none d (record { there = Contains-append_right (e ∷ []) es d is.there; place = is.place; number = is.number })))
  where
    by_first : (b : Bool) → is_intended i (shelved_of e) ≡ b → is_some (find (is_intended i) (map shelved_of es)) ≡ false → is_some (if b then Some (shelved_of e) else find (is_intended i) (map shelved_of es)) ≡ false
    by_first true test rest =
        let (place, number) = and_parts (e.place == i.place) (e.number == i.number) test in
        absurd (none e (record { there = (0, omega arith, refl); place = eqb-true e.place i.place place; number = eqb-true e.number i.number number }))
    by_first false test rest = rest

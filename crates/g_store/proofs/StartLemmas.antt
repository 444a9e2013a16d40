-- START: what it makes of the state that disc and rack represent.
-- serves: StartedLemmas
use Rattle.std.proofs.Common.{◌≡◌, ℕ, ◌+◌, ◌≤◌, Bool, true, false, List, [], ◌∷◌, length, Option, Some, None, is_some, refl, sym, ◌∙◌, ap, arith, subst, inl, inr, true≢false}
use Rattle.std.specs.Prelude.{◌⊎◌, All, Contains, IfSome, find, map, if◌then◌else◌}
use Rattle.std.specs.Option.{ForSome, option_map}
use Rattle.std.specs.Ordering.{nat_cmp}
use Rattle.std.specs.FinMap.{entries, from_entries, from_sorted, get}
use Rattle.std.proofs.lemmas.List.Elements.{All-contains}
use Rattle.std.proofs.lemmas.Option.{none-some, same_Some}
use Rattle.g_name.specs.declared.full.Full.{Full}
use Rattle.g_disc.specs.Disc.{DiscState}
use Rattle.g_entry.specs.declared.file_rec.FileRec.{FileRec}
use Rattle.g_entry.specs.declared.file_rec.TapeCopy.{TapeCopy}
use Rattle.g_entry.specs.declared.head.Intent.{Intent}
use Rattle.g_entry.specs.declared.user_rec.UserRec.{UserRec}
use Rattle.g_tape.specs.Rack.{Rack, is_mounted, reel}
use Rattle.g_tape.specs.Reads.{blocks_in, blocks_of, unread}
use Rattle.g_tape.specs.Reel.{Reel}
use Rattle.g_tape.proofs.ReadLemmas.{reel-unread}
use Rattle.g_plain.specs.PlainTree.{FileRow, Tree}
use Rattle.g_plain.specs.PlainStep.{first_fault}
use Rattle.g_plain.specs.declared.faults.StoreFault.TheVariants.{MountFirst, Stopped, TapeReadFault}
use Rattle.g_tree.specs.Records.{file_row_of, full_of, user_row_of}
use Rattle.g_disc_contents.specs.Contents.{Contents, File, Holds, recs_in, with_copies}
use Rattle.g_incr.specs.Layout.{Dump}
use Rattle.g_shelf.specs.CompletedDumps.{AreCompleted, all_dumps}
use Rattle.g_store_model.specs.State as state
use Rattle.g_store_model.specs.Rising.{adopted, dump_adopted, fault_from, is_completed, is_intended, other_copy, stands_on, unmounted_reel}
use Rattle.g_store_meaning.specs.Belonging.{Belong, DiscBelongs, IsIntended, IsPlaced, KeepsFile}
use Rattle.g_store_meaning.specs.Laws.{HasContent, IsQuiet, closed}
use Rattle.g_store_meaning.specs.Meaning.{DumpedDirectory, IsContent, told_reels}
use Rattle.g_store_meaning.specs.Reading.{AllTold, DevicesStandFor, View, dumped_of, holding_of, names_of, own_of, places_of, row_of, shelved_of, state_down, tree_by}
use Rattle.g_store_meaning.proofs.BelongLemmas.{HasKept}
use Rattle.g_store_meaning.proofs.ChangeLemmas.{closing_belongs}
use Rattle.g_store_meaning.proofs.OneLemmas.{are_right, devices_are_one, is_shelved, on_reel}
use Rattle.g_laws_store.proofs.StateLemmas.{is_view, rack_view, view_by}
use Rattle.g_laws_store.proofs.UpOneLemmas.{on_all}
use Rattle.g_laws_store.proofs.WaitingLemmas.{from_mapped}
use Rattle.g_dumper.proofs.BeginLemmas.{reel_named}
use Rattle.g_dumper.proofs.ShelfLemmas.{reel_there, told_is}
use Rattle.g_store.specs.Starting.{HasNamed, IsNamed, NamesNone, copies_named}
use Rattle.g_store.proofs.GreatestLemmas.{own_kept}
use Rattle.g_store.proofs.MountLemmas.{mounted_by, row_found}
use Rattle.g_store.proofs.NamedLemmas.{named_seen, none_seen}
use Rattle.g_store.proofs.OwnPlaceLemmas.{GoBeside, named_all, own_copies_of, own_places}

-- COPIES change nothing of the tree
abbrev row_by : (ℕ → List ℕ) → List UserRec → FileRec → Full × FileRow
row_by text users r = (full_of users r, file_row_of users (λ s. text s.stamp) r)

rows_copied : (text : ℕ → List ℕ) (users : List UserRec) (copies : List (ℕ × TapeCopy)) (files : List File)
    → map (row_by text users) (map (λ (f : File). f.rec) (with_copies copies files)) ≡ map (row_by text users) (map (λ (f : File). f.rec) files)
rows_copied text users copies [] = refl
rows_copied text users copies (f ∷ fs) = ap (λ (es : List (Full × FileRow)). row_by text users f.rec ∷ es) (rows_copied text users copies fs)

tree_copied : (text : ℕ → List ℕ) (users : List UserRec) (copies : List (ℕ × TapeCopy)) (files : List File) (next : ℕ)
    → tree_by text users (map (λ (f : File). f.rec) (with_copies copies files)) next ≡ tree_by text users (map (λ (f : File). f.rec) files) next
tree_copied text users copies files next =
    ap (λ (es : List (Full × FileRow)). let t : Tree = record { users = from_entries (map (λ (u : UserRec). (u.user, user_row_of users u)) users); files = from_entries es; next = next } in t)
    (rows_copied text users copies files)

-- REFUSALS of a start, by what is in the way
pub refuses_with : (s : state.State) (k : state.Holding) (first : Option ℕ) (a b : Bool) → unmounted_reel s k.intent ≡ first
    → first_fault (fault_from MountFirst (unmounted_reel s k.intent) ∷ (a, TapeReadFault) ∷ (b, Stopped) ∷ []) ≡ first_fault (fault_from MountFirst first ∷ (a, TapeReadFault) ∷ (b, Stopped) ∷ [])
refuses_with s k first a b is = ap (λ (r : Option ℕ). first_fault (fault_from MountFirst r ∷ (a, TapeReadFault) ∷ (b, Stopped) ∷ [])) is

-- disc and rack that expose their contents and belong together, if the disc holds these contents
module _ (disc : DiscState) (rack : Rack) (told : AllTold disc.held (told_reels rack)) (belong : Belong disc.held rack) (c : Contents) (holds : ForSome disc.held (λ blocks. Holds blocks c)) where
  abbrev pub reels : List Reel
  reels = told_reels rack

  abbrev pub dumps : List Dump
  dumps = all_dumps belong.shelf reels

  abbrev pub v : View
  v = view_by belong.text belong.shelf reels belong.rack None

  pub disc_belongs : DiscBelongs belong.text belong.shelf reels c
  disc_belongs = let (blocks, was) = told_is disc.held told.disc in belong.disc blocks c was (holds blocks was)

  -- any disc that holds contents that belong to the rack represents their state
  pub stands_with : (now : DiscState) (x : Contents) (blocks : List (List ℕ)) → now.held ≡ Some blocks → Holds blocks x → DiscBelongs belong.text belong.shelf reels x
      → DevicesStandFor now.size now.held reels (state_down v reels now.size (Some x))
  stands_with now x blocks was has belongs = record {
    view = v;
    contents = Some x;
    is = (blocks, was, has, is_view now.held reels belong.text belong.shelf belong.shelved belong.rack None x belongs);
    none = λ no. absurd (true≢false no);
    rack = rack_view now.held reels belong.text belong.shelf belong.shelved belong.rack None;
    state_is = refl;
  }

  abbrev pub there : state.State
  there = state_down v reels disc.size (Some c)

  abbrev pub k : state.Holding
  k = holding_of belong.text [] c

  pub stands_there : DevicesStandFor disc.size disc.held reels there
  stands_there = let (blocks, was) = told_is disc.held told.disc in stands_with disc c blocks was (holds blocks was) disc_belongs

  pub is_there : (s : state.State) → DevicesStandFor disc.size disc.held reels s → s ≡ there
  is_there s devices = devices_are_one disc.size disc.held reels s there told belong devices stands_there

  -- WITHOUT AN INTENT nothing is in the way
  module _ (none : c.head.intent ≡ None) where
    pub no_reel : unmounted_reel there k.intent ≡ None
    no_reel = ap (unmounted_reel there) none

    pub no_dump : dump_adopted there k ≡ None
    no_dump = ap (λ (i : Option Intent). if is_completed there i then there.dumped else None) none

    pub quiet_here : IsQuiet belong.shelf reels c
    quiet_here d in_all = by_case (disc_belongs.numbers d in_all)
      where
        by_case : (d.number ≤ c.head.last_dump) ⊎ IsIntended c.head.last_dump c.head.intent dumps d → d.number ≤ c.head.last_dump
        by_case (inl le) = le
        by_case (inr is) = absurd (none-some (record { serial = d.serial; place = d.place; number = d.number }) (sym none ∙ is.named))

  -- WITH AN INTENT
  module _ (i : Intent) (is : c.head.intent ≡ Some i) where
    pub placed : IsPlaced belong.shelf reels c.head.last_dump i
    placed = subst (λ (o : Option Intent). IfSome o (IsPlaced belong.shelf reels c.head.last_dump)) is disc_belongs.intent

    pub reel_first : is_mounted (reel i.serial rack.reels) ≡ false → unmounted_reel there k.intent ≡ Some i.serial
    reel_first isnt =
        ap (unmounted_reel there) is
        ∙ ap (λ (b : Bool). let o : Option ℕ = if b then None else Some i.serial in o) (mounted_by belong.shelf i.serial rack.reels ∙ isnt)

    module _ (mounted : is_mounted (reel i.serial rack.reels) ≡ true) where
      pub reel_up : unmounted_reel there k.intent ≡ None
      reel_up =
          ap (unmounted_reel there) is
          ∙ ap (λ (b : Bool). let o : Option ℕ = if b then None else Some i.serial in o) (mounted_by belong.shelf i.serial rack.reels ∙ mounted)

      -- its reel
      record IsReelOf (r : Reel) : Type 0 where
        found : reel i.serial rack.reels ≡ Some r
        serial : r.serial ≡ i.serial
        inside : Contains reels (unread r)

      reel_of : (rs : List Reel) (o : Option Reel) → reel i.serial rs ≡ o → is_mounted o ≡ true → (r : Reel) × (reel i.serial rs ≡ Some r)
      reel_of rs None found up = absurd (true≢false (sym up))
      reel_of rs (Some r) found up = (r, found)

      the_reel : (r : Reel) × IsReelOf r
      the_reel =
          let (r, found) = reel_of rack.reels (reel i.serial rack.reels) refl mounted in
          (r, record { found = found; serial = reel_named i.serial rack.reels r found; inside = reel_there i.serial rack.reels r found })

      -- the completed dumps of its reel
      shelf_is : ForSome (blocks_of i.serial rack) (λ blocks. AreCompleted i.serial blocks (belong.shelf i.serial))
      shelf_is =
          let (r, on) = the_reel in
          λ blocks was.
          subst (λ (n : ℕ). AreCompleted n blocks (belong.shelf n)) on.serial (belong.shelved.each (unread r) on.inside blocks (sym (ap blocks_in on.found) ∙ was))

      shelf_told : (blocks : List (List ℕ)) × (blocks_of i.serial rack ≡ Some blocks)
      shelf_told =
          let (r, on) = the_reel in
          let (blocks, was) = told_is r.blocks (All-contains (λ (q : Reel). is_some q.blocks ≡ true) reels (unread r) told.each.each on.inside) in
          (blocks, ap blocks_in on.found ∙ was)

      row_is : state.reel_at i.serial there.reels ≡ Some (row_of belong.shelf (unread the_reel.0))
      row_is = row_found belong.shelf i.serial reels ∙ ap (option_map (row_of belong.shelf)) (reel-unread i.serial rack.reels ∙ ap (option_map unread) the_reel.1.found)

      completed_is : is_completed there k.intent ≡ is_some (find (is_intended i) (map shelved_of (belong.shelf i.serial)))
      completed_is =
          ap (is_completed there) is ∙ ap (stands_on i) row_is
          ∙ ap (λ (n : ℕ). is_some (find (is_intended i) (map shelved_of (belong.shelf n)))) the_reel.1.serial

      -- it names no completed dump
      module _ (nothing : NamesNone i rack) where
        none_here : (d : Dump) → IsNamed i (belong.shelf i.serial) d → ⊥
        none_here = let (blocks, was) = shelf_told in nothing blocks was (belong.shelf i.serial) (shelf_is blocks was)

        pub none_adopted : dump_adopted there k ≡ None
        none_adopted =
            ap (λ (b : Bool). let o : Option state.Dumped = if b then there.dumped else None in o) (completed_is ∙ none_seen i (belong.shelf i.serial) none_here)

        pub quiet_still : IsQuiet belong.shelf reels c
        quiet_still d in_all = by_case (disc_belongs.numbers d in_all)
          where
            by_case : (d.number ≤ c.head.last_dump) ⊎ IsIntended c.head.last_dump c.head.intent dumps d → d.number ≤ c.head.last_dump
            by_case (inl le) = le
            by_case (inr it) =
                let same : i ≡ record { serial = d.serial; place = d.place; number = d.number } = same_Some i (record { serial = d.serial; place = d.place; number = d.number }) (sym is ∙ it.named) in
                let on = on_reel belong.shelf reels d in_all in
                let serial = (is_shelved belong.shelf reels told.each belong.shelved d on.reel on.there on.on).0 in
                let here : Contains (belong.shelf i.serial) d =
                subst (λ (n : ℕ). Contains (belong.shelf n) d) (sym serial ∙ sym (ap (λ (j : Intent). j.serial) same)) on.on in
                absurd (none_here d (record { there = here; place = sym (ap (λ (j : Intent). j.place) same); number = sym (ap (λ (j : Intent). j.number) same) }))

      -- it names one
      module _ (files : List FileRec) (named : HasNamed i rack files) where
        abbrev pub d : Dump
        d = named.dump

        here : IsNamed i (belong.shelf i.serial) d
        here = let (blocks, was) = shelf_told in named.named blocks was (belong.shelf i.serial) (shelf_is blocks was)

        in_all : Contains dumps d
        in_all =
            let (r, on) = the_reel in
            on_all belong.shelf reels (unread r) d on.inside (subst (λ (n : ℕ). Contains (belong.shelf n) d) (sym on.serial) here.there)

        -- so it is the dump of greatest number
        pub record IsGiven (t : DumpedDirectory dumps) : Type 0 where
          pub dumped : v.dumped ≡ Some t
          pub last : t.last ≡ d

        numbered : d.number ≡ c.head.last_dump + 1
        numbered = here.number ∙ placed.number

        last_is : (t : DumpedDirectory dumps) → t.last ≡ d
        last_is t = belong.rack.apart t.last d t.greatest.there in_all (by_case (disc_belongs.numbers t.last t.greatest.there))
          where
            by_case : (t.last.number ≤ c.head.last_dump) ⊎ IsIntended c.head.last_dump c.head.intent dumps t.last → t.last.number ≡ d.number
            by_case (inl le) = let up = t.greatest.greatest d in_all in let n = numbered in let no : ⊥ = omega (arith, le, up, n) in absurd no
            by_case (inr it) = it.number ∙ sym numbered

        pub given : (t : DumpedDirectory dumps) × IsGiven t
        given = by_dumped v.dumped refl
          where
            by_dumped : (o : Option (DumpedDirectory dumps)) → v.dumped ≡ o → (t : DumpedDirectory dumps) × IsGiven t
            by_dumped (Some t) it = (t, record { dumped = it; last = last_is t })
            by_dumped None it =
                let t = belong.rack.tree d in_all in
                absurd ((rack_view disc.held reels belong.text belong.shelf belong.shelved belong.rack None).none told it t belong.text (belong.rack.records t))

        abbrev pub t : DumpedDirectory dumps
        t = given.0

        files_are : files ≡ t.last.files
        files_are = named.files_are ∙ ap (λ (x : Dump). x.files) (sym given.1.last)

        abbrev pub copies : List (ℕ × TapeCopy)
        copies = copies_named (recs_in c) files

        abbrev pub after : Contents
        after = closed i.number copies c

        -- its records have the texts of their stamps
        kept : All (HasKept belong.text dumps) files
        kept =
            subst (All (HasKept belong.text dumps)) (sym files_are)
            (own_kept belong.text dumps belong.rack t ((are_right belong.shelf reels told.each belong.shelved).rules t.last t.greatest.there))

        contents_are : All (HasContent belong.text dumps) copies
        contents_are =
            named_all (HasContent belong.text dumps) (recs_in c) files
            (λ r copy in_files spared tape.
            subst (λ (o : Option TapeCopy). IfSome o (λ x. IsContent dumps x (belong.text r.stamp))) tape (All-contains (HasKept belong.text dumps) files r kept in_files).copy)

        number_is : t.last.number ≡ i.number
        number_is = ap (λ (x : Dump). x.number) given.1.last ∙ here.number

        pub belongs_after : DiscBelongs belong.text belong.shelf reels after
        belongs_after =
            subst (λ (n : ℕ). DiscBelongs belong.text belong.shelf reels (closed n copies c)) here.number
            (closing_belongs belong.text belong.shelf reels c d copies disc_belongs in_all numbered contents_are)

        pub quiet_after : IsQuiet belong.shelf reels after
        quiet_after e in_e = let le = t.greatest.greatest e in_e in let n = number_is in omega (arith, le, n)

        -- the state adopts it
        pub completed_here : is_completed there k.intent ≡ true
        completed_here = completed_is ∙ named_seen i (belong.shelf i.serial) d here

        pub adopts : dump_adopted there k ≡ Some (dumped_of belong.text t)
        adopts =
            ap (λ (b : Bool). let o : Option state.Dumped = if b then there.dumped else None in o) completed_here
            ∙ ap (option_map (dumped_of belong.text)) given.1.dumped

        pub number_adopted : option_map (λ (x : state.Dumped). x.number) (dump_adopted there k) ≡ Some i.number
        number_adopted =
            ap (option_map (λ (x : state.Dumped). x.number)) adopts ∙ ap (λ (n : ℕ). let o : Option ℕ = Some n in o) number_is

        -- a record of a file's stamp has its length
        beside : GoBeside (recs_in c) files
        beside =
            let rules = (are_right belong.shelf reels told.each belong.shelved).rules t.last t.greatest.there in
            subst (GoBeside (recs_in c)) (sym files_are)
            (record {
              apart = rules.files.stamps;
              empty = rules.files.empty;
              same = λ r s in_files in_recs stamp.
                  let (f, in_c, rec) = from_mapped (λ (g : File). g.rec) c.files s in_recs in
                  let of_r = All-contains (HasKept belong.text dumps) t.last.files r (subst (All (HasKept belong.text dumps)) files_are kept) in_files in
                  let of_f = All-contains (λ (g : File). KeepsFile (belong.text g.rec.stamp) dumps g) c.files f disc_belongs.files in_c in
                  sym of_r.len ∙ ap (λ (n : ℕ). length (belong.text n)) (stamp ∙ ap (λ (x : FileRec). x.stamp) (sym rec)) ∙ of_f.rec.len ∙ ap (λ (x : FileRec). x.len) rec;
            })

        places_are : places_of (with_copies copies c.files)
            ≡ from_sorted {R = nat_cmp} (map (λ (e : ℕ × state.Place). (e.0, other_copy (get (own_of t.last) e.0) e.1)) (entries k.places))
        places_are =
            own_places c.files files beside
            ∙ ap (λ (fs : List FileRec). from_sorted {R = nat_cmp} (map (λ (e : ℕ × state.Place). (e.0, other_copy (get (from_entries {R = nat_cmp} (own_copies_of fs)) e.0) e.1)) (entries k.places))) files_are

        -- which is what the disc holds then
        held_named : holding_of belong.text [] after ≡ record (adopted (Some (dumped_of belong.text t)) k) { kept = names_of [] }
        held_named =
            λ j.
            let h : state.Holding = record {
              tree = tree_copied belong.text c.users copies c.files c.head.next_stamp j;
              places = places_are j;
              last = (sym number_is) j;
              intent = None;
              kept = names_of [];
            } in h

        pub held_after : holding_of belong.text [] after ≡ record (adopted (dump_adopted there k) k) { kept = names_of [] }
        held_after = held_named ∙ ap (λ (o : Option state.Dumped). let h : state.Holding = record (adopted o k) { kept = names_of [] } in h) (sym adopts)

-- The rules of the rack, for the dumps in memory and for the dumps themselves.
-- serves: judge_rack (judged), missing, HeadLemmas, MissingLemmas, OutlookLemmas
use Rattle.std.proofs.Common.{◌≡◌, ◌⊎◌, inl, inr, ℕ, ◌<◌, ◌≤◌, List, [], length, map, Result, Err, sym, ◌∙◌, ap, arith, subst, All}
use Rattle.std.specs.Prelude.{Contains, IsPermutation}
use Rattle.std.proofs.lemmas.List.{get_or-map, length-map}
use Rattle.std.proofs.lemmas.List.Sorted.{Contains-permutation, IsPermutation-sym}
use Rattle.g_entry.specs.declared.file_rec.FileRec.{FileRec}
use Rattle.g_name.specs.declared.full.Full.{Full}
use Rattle.g_tape.specs.Reel.{Reel}
use Rattle.g_plain.specs.declared.faults.StoreFault.{StoreFault}
use Rattle.g_plain.specs.declared.faults.StoreFault.TheVariants as store
use Rattle.g_incr.specs.Layout.{Dump, ends}
use Rattle.g_shelf.specs.CompletedDumps.{all_dumps}
use Rattle.g_store_meaning.proofs.OneLemmas.{Apart, are_right}
use Rattle.g_restore.specs.declared.directory.Dumped.{Dumped}
use Rattle.g_restore.specs.declared.dumps.Found.{Found}
use Rattle.g_restore.specs.KnownDumps.{AreKnown, Known, known, known_of}
use Rattle.g_restore.specs.Losses.{AreApart, HasPlace, IsFirstLost, IsLostDirectory, NamesLost}
use Rattle.g_restore.specs.Steps.{IsFolded}
use Rattle.g_restore.proofs.KnownLemmas.{at_place, known_at, no_dumps, place_of}
use Rattle.g_look.specs.declared.broken.Broken.{Broken}
use Rattle.g_look.specs.declared.broken.Broken.TheVariants.{Twice, Falls, LostDirectory, LostCopy}
use Rattle.g_look.specs.declared.broken.DumpAt.{DumpAt}
use Rattle.g_look.specs.Rules.{BreaksRack, IsDumpAt, at_of, rule_of}
use Rattle.g_look.specs.SeenDumps.{HaveNoTwins, IsFalling, IsFirstOfRack, IsRackPassed, IsSeen, IsTwice, NoneFalls, SamePlace, at_found}
use Rattle.g_look.proofs.FitLemmas.{same_files}
use Rattle.g_look.proofs.LostLemmas.{not_both}
use Rattle.g_look.proofs.PairLemmas.{le_cases}

-- the place of a dump in memory
at_known : Known → DumpAt
at_known k = record { number = k.note.number; serial = k.serial; place = k.note.place; next_stamp = k.note.next_stamp }

pub told_at : (f : Found) (d : Dump) → known f ≡ known_of d → at_of d ≡ at_found f
unfolding at_known
told_at f d same = ap at_known (sym same)

module _ (found : List Found) (dumps : List Dump) (are : AreKnown found dumps) where
  -- the dump of a record in memory, and the record in memory of a dump
  pub record HasDump (f : Found) : Type 0 where
    pub dump : Dump
    pub there : Contains dumps dump
    pub same : known f ≡ known_of dump

  pub dump_of : (f : Found) → Contains found f → HasDump f
  dump_of f (k, within, at) =
      let (d, in_d, at_d, known_d) = known_at found dumps are.same k within in
      record { dump = d; there = in_d; same = ap known (sym at) ∙ known_d f }

  pub record HasFound (d : Dump) : Type 0 where
    pub one : Found
    pub there : Contains found one
    pub same : known one ≡ known_of d

  pub found_of : (d : Dump) → Contains dumps d → HasFound d
  found_of d in_d =
      let (k, within, f, at_f, known_f) = place_of found dumps are.same d in_d in
      record { one = f; there = (k, within, at_f); same = known_f }

  pub is_at : (f : Found) (a : DumpAt) (has : HasDump f) → at_found f ≡ a → IsDumpAt dumps a has.dump
  is_at f a has told = record { there = has.there; told = told_at f has.dump has.same ∙ told }

  -- FOR THE DUMPS THAT ARE PRINTED, in any order
  module _ (ats : List DumpAt) (moved : IsPermutation (map at_found found) ats) where
    pub found_at : (a : DumpAt) → Contains ats a → (f : Found) × Contains found f × (at_found f ≡ a)
    found_at a in_a =
        let (k, within, here) = Contains-permutation ats (map at_found found) a (IsPermutation-sym (map at_found found) ats moved) in_a in
        let long = length-map found at_found in
        let inside : k < length found = omega (arith, within, long) in
        let (f, at_f) = at_place found k inside in (
          f,
          (k, inside, at_f),
          ap at_found (sym at_f) ∙ sym (get_or-map at_found found k f a inside) ∙ here,
        )

    pub printed : (f : Found) → Contains found f → Contains ats (at_found f)
    printed f (k, within, here) =
        Contains-permutation (map at_found found) ats (at_found f) moved
        (k, (let long = length-map found at_found in omega (arith, within, long)), get_or-map at_found found k f (at_found f) within ∙ ap at_found here)

    pub dump_at : (a : DumpAt) → Contains ats a → (d : Dump) × IsDumpAt dumps a d
    dump_at a in_a =
        let (f, in_f, told) = found_at a in_a in
        let d = dump_of f in_f in
        (d.dump, is_at f a d told)

    -- RULE 1
    pub breaks_twice : (b : Broken) → IsTwice ats b → BreaksRack dumps b
    breaks_twice (Twice a b) (in_a, in_b, twin) =
        let (same, apart) = twin in
        let (d, is_d) = dump_at a in_a in
        let (e, is_e) = dump_at b in_b in (
          d,
          e,
          is_d,
          is_e,
          ap (λ (x : DumpAt). x.number) is_d.told ∙ sym same ∙ ap (λ (x : DumpAt). x.number) (sym is_e.told),
          λ one. apart (same_place a b (sym is_d.told ∙ ap at_of one ∙ is_e.told)),
        )
      where
        same_place : (x y : DumpAt) → x ≡ y → SamePlace x y
        same_place x y is = record { serial = ap (λ (z : DumpAt). z.serial) (sym is); place = ap (λ (z : DumpAt). z.place) (sym is) }
    breaks_twice other is = absurd is

    -- RULE 2
    pub breaks_falling : (b : Broken) → IsFalling ats b → BreaksRack dumps b
    breaks_falling (Falls a b) (in_a, in_b, lower) =
        let (d, is_d) = dump_at a in_a in
        let (e, is_e) = dump_at b in_b in
        let number_d : d.number ≡ a.number = ap (λ (x : DumpAt). x.number) is_d.told in
        let number_e : e.number ≡ b.number = ap (λ (x : DumpAt). x.number) is_e.told in
        let next_d : d.next ≡ a.next_stamp = ap (λ (x : DumpAt). x.next_stamp) is_d.told in
        let next_e : e.next ≡ b.next_stamp = ap (λ (x : DumpAt). x.next_stamp) is_e.told in
        let le = lower.number in
        let less = lower.next in
        (d, e, is_d, is_e, omega (arith, le, number_d, number_e), omega (arith, less, next_d, next_e))
    breaks_falling other is = absurd is

    pub rises : AreApart dumps → NoneFalls ats → (d e : Dump) → Contains dumps d → Contains dumps e → d.number ≤ e.number → d.next ≤ e.next
    rises apart none d e in_d in_e le = by_order (le_cases d.number e.number le)
      where
        by_order : (d.number < e.number) ⊎ (d.number ≡ e.number) → d.next ≤ e.next
        by_order (inr same) = let one : d.next ≡ e.next = ap (λ (x : Dump). x.next) (apart d e in_d in_e same) in omega (arith, one)
        by_order (inl less) =
            let f = found_of d in_d in
            let g = found_of e in_e in
            let number_d : f.one.dir.note.number ≡ d.number = ap (λ (k : Known). k.note.number) f.same in
            let number_e : g.one.dir.note.number ≡ e.number = ap (λ (k : Known). k.note.number) g.same in
            let next_d : f.one.dir.note.next_stamp ≡ d.next = ap (λ (k : Known). k.note.next_stamp) f.same in
            let next_e : g.one.dir.note.next_stamp ≡ e.next = ap (λ (k : Known). k.note.next_stamp) g.same in
            let up = none (at_found f.one) (at_found g.one) (printed f.one f.there) (printed g.one g.there) (omega (arith, less, number_d, number_e)) in
            omega (arith, up, next_d, next_e)

-- two of one number at one place are one
pub are_apart : (reels : List Reel) (shelf : ℕ → List Dump) (found : List Found) (ats : List DumpAt) → IsPermutation (map at_found found) ats → IsSeen reels shelf found → HaveNoTwins ats
    → AreApart (all_dumps shelf reels)
unfolding Apart
are_apart reels shelf found ats moved seen none d e in_d in_e number =
    let dumps : List Dump = all_dumps shelf reels in
    let f = found_of found dumps seen.known d in_d in
    let g = found_of found dumps seen.known e in_e in
    let number_d : f.one.dir.note.number ≡ d.number = ap (λ (k : Known). k.note.number) f.same in
    let number_e : g.one.dir.note.number ≡ e.number = ap (λ (k : Known). k.note.number) g.same in
    let in_f = printed found dumps seen.known ats moved f.one f.there in
    let in_g = printed found dumps seen.known ats moved g.one g.there in
    let same = none (at_found f.one) (at_found g.one) in_f in_g (number_e ∙ sym number ∙ sym number_d) in
    let serial : d.serial ≡ e.serial = ap (λ (k : Known). k.serial) (sym f.same) ∙ sym same.serial ∙ ap (λ (k : Known). k.serial) g.same in
    let place : d.place ≡ e.place = ap (λ (k : Known). k.note.place) (sym f.same) ∙ sym same.place ∙ ap (λ (k : Known). k.note.place) g.same in
    by_place d e place ((are_right shelf reels seen.told seen.shelved).two d e in_d in_e serial)
  where
    by_place : (d e : Dump) → d.place ≡ e.place → (d ≡ e) ⊎ ((ends d ≤ e.place) ⊎ (ends e ≤ d.place)) → d ≡ e
    by_place d e place (inl same) = same
    by_place d e place (inr (inl before)) = absurd (let no : ⊥ = omega (arith, place, before) in no)
    by_place d e place (inr (inr before)) = absurd (let no : ⊥ = omega (arith, place, before) in no)

pub moved_as : (found : List Found) (items slice : List DumpAt) → slice ≡ items → IsPermutation (map at_found found) items → IsPermutation (map at_found found) slice
moved_as found items slice is moved = subst (IsPermutation (map at_found found)) (sym is) moved

-- THE FIRST RULE
no_rule_0 : (e : Broken) → 1 ≤ rule_of e
no_rule_0 (Twice a b) = omega arith
no_rule_0 other = omega arith

no_rule_1 : (dumps : List Dump) → AreApart dumps → (e : Broken) → BreaksRack dumps e → 2 ≤ rule_of e
no_rule_1 dumps apart (Twice a b) (d, e, in_d, in_e, same, other) = absurd (other (apart d e in_d.there in_e.there same))
no_rule_1 dumps apart other is = omega arith

abbrev Rises : List Dump → Type 0
Rises dumps = (d e : Dump) → Contains dumps d → Contains dumps e → d.number ≤ e.number → d.next ≤ e.next

no_rule_2 : (dumps : List Dump) → AreApart dumps → Rises dumps → (e : Broken) → BreaksRack dumps e → 3 ≤ rule_of e
no_rule_2 dumps apart up (Twice a b) (d, e, in_d, in_e, same, other) = absurd (other (apart d e in_d.there in_e.there same))
no_rule_2 dumps apart up (Falls a b) (d, e, in_d, in_e, le, less) =
    let next = up d e in_d.there in_e.there le in
    absurd (let no : ⊥ = omega (arith, next, less) in no)
no_rule_2 dumps apart up other is = omega arith

no_rule_3 : (dumps : List Dump) → AreApart dumps → Rises dumps → ((user : List ℕ) → IsLostDirectory dumps user → ⊥) → (e : Broken) → BreaksRack dumps e → 4 ≤ rule_of e
no_rule_3 dumps apart up none (LostDirectory user) is = absurd (none user is)
no_rule_3 dumps apart up none (Twice a b) (d, e, in_d, in_e, same, other) = absurd (other (apart d e in_d.there in_e.there same))
no_rule_3 dumps apart up none (Falls a b) (d, e, in_d, in_e, le, less) =
    let next = up d e in_d.there in_e.there le in
    absurd (let no : ⊥ = omega (arith, next, less) in no)
no_rule_3 dumps apart up none other is = omega arith

module _ (found : List Found) (ats : List DumpAt) (moved : IsPermutation (map at_found found) ats) where
  pub first_twice : (b : Broken) → IsTwice ats b → (reels : List Reel) (shelf : ℕ → List Dump) → IsSeen reels shelf found → IsFirstOfRack (all_dumps shelf reels) b
  first_twice (Twice a b) is reels shelf seen = record { breaks = breaks_twice found (all_dumps shelf reels) seen.known ats moved (Twice a b) is; first = λ e breaks. no_rule_0 e }
  first_twice other is reels shelf seen = absurd is

  module _ (no_twin : HaveNoTwins ats) where
    pub first_falling : (b : Broken) → IsFalling ats b → (reels : List Reel) (shelf : ℕ → List Dump) → IsSeen reels shelf found → IsFirstOfRack (all_dumps shelf reels) b
    first_falling (Falls a b) is reels shelf seen = record {
      breaks = breaks_falling found (all_dumps shelf reels) seen.known ats moved (Falls a b) is;
      first = no_rule_1 (all_dumps shelf reels) (are_apart reels shelf found ats moved seen no_twin);
    }
    first_falling other is reels shelf seen = absurd is

    module _ (no_lower : NoneFalls ats) where
      pub first_directory : (result : Result Dumped StoreFault) (user : List ℕ) → result ≡ Err (store.LostDirectory user)
          → ((dumps : List Dump) → AreKnown found dumps → AreApart dumps → NamesLost dumps result)
          → (reels : List Reel) (shelf : ℕ → List Dump) → IsSeen reels shelf found → IsFirstOfRack (all_dumps shelf reels) (LostDirectory user)
      first_directory result user is lost reels shelf seen =
          let dumps : List Dump = all_dumps shelf reels in
          let apart = are_apart reels shelf found ats moved seen no_twin in
          record {
            breaks = subst (NamesLost dumps) is (lost dumps seen.known apart);
            first = no_rule_2 dumps apart (rises found dumps seen.known ats moved apart no_lower);
          }

      pub first_copy : (result : Result Dumped StoreFault) (full : Full) (serial : ℕ) → result ≡ Err (store.LostCopy full serial)
          → ((dumps : List Dump) → AreKnown found dumps → AreApart dumps → NamesLost dumps result)
          → (reels : List Reel) (shelf : ℕ → List Dump) → IsSeen reels shelf found → IsFirstOfRack (all_dumps shelf reels) (LostCopy full serial)
      first_copy result full serial is lost reels shelf seen =
          let dumps : List Dump = all_dumps shelf reels in
          let apart = are_apart reels shelf found ats moved seen no_twin in
          let named : IsFirstLost dumps full serial = subst (NamesLost dumps) is (lost dumps seen.known apart) in
          record {
            breaks = named;
            first = no_rule_3 dumps apart (rises found dumps seen.known ats moved apart no_lower) (λ user. not_both dumps apart full serial user named);
          }

      pub passed_some : (made : Dumped) (files : List FileRec) → files ≡ made.files.items → ((dumps : List Dump) → AreKnown found dumps → IsFolded dumps made)
          → (reels : List Reel) (shelf : ℕ → List Dump) → IsSeen reels shelf found → IsRackPassed (all_dumps shelf reels) files
      passed_some made files are folds reels shelf seen =
          let dumps : List Dump = all_dumps shelf reels in
          let apart = are_apart reels shelf found ats moved seen no_twin in
          let folded = folds dumps seen.known in
          let t = folded.directory in
          record {
            fits = record {
              apart = apart;
              rising = rises found dumps seen.known ats moved apart no_lower;
              tree = λ d in_d. t;
              places = λ u. subst (All (HasPlace dumps)) (same_files dumps apart t u) folded.places;
            };
            files_are = λ u. same_files dumps apart u t ∙ sym folded.files_are ∙ sym are;
            given = λ r in_r. t;
          }

      pub passed_none : (result : Result Dumped StoreFault) → result ≡ Err store.NoDump → (result ≡ Err store.NoDump → found ≡ [])
          → (reels : List Reel) (shelf : ℕ → List Dump) → IsSeen reels shelf found → IsRackPassed (all_dumps shelf reels) []
      passed_none result is empty reels shelf seen =
          let dumps : List Dump = all_dumps shelf reels in
          let none : dumps ≡ [] = no_dumps found dumps seen.known.same (empty is) in
          let apart = are_apart reels shelf found ats moved seen no_twin in
          record {
            fits = record {
              apart = apart;
              rising = rises found dumps seen.known ats moved apart no_lower;
              tree = λ d in_d. absurd (nothing d (subst (λ (ds : List Dump). Contains ds d) none in_d));
              places = λ t. absurd (nothing t.last (subst (λ (ds : List Dump). Contains ds t.last) none t.greatest.there));
            };
            files_are = λ t. absurd (nothing t.last (subst (λ (ds : List Dump). Contains ds t.last) none t.greatest.there));
            given = λ r (i, within, at). absurd (let no : ⊥ = omega (arith, within) in no);
          }
        where
          nothing : (d : Dump) → Contains [] d → ⊥
          nothing d (i, within, at) = let no : ⊥ = omega (arith, within) in no

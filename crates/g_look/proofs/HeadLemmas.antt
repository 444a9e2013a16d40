-- The rules 5 to 9, for the dumps in memory and for the dumps themselves.
-- serves: capacity_of, end_upto, judge_head (none, some), judge_intent (none, some), length_of, CheckedLemmas, CompareLemmas, CopyLemmas, and 7 more
use Rattle.std.proofs.Common.{◌≡◌, ◌≢◌, ◌⊎◌, inl, inr, ℕ, zero, suc, ◌+◌, ◌<◌, ◌≤◌, Bool, true, false, cond, ◌&&◌, List, [], ◌∷◌, ◌++◌, length, filter, map, take, Option, Some, None, Result, Ok, Err, refl, sym, ◌∙◌, ap, arith, subst, All}
use Rattle.std.specs.Prelude.{option_map, ◌==◌, AllPairs, Contains, IfNone, IfSome, get_or, if◌then◌else◌, is_some, nat_le}
use Rattle.std.proofs.lemmas.Bool.{cond-false, cond-true, eq-eqb, ne_eqb}
use Rattle.std.proofs.lemmas.List.{get_or-map, get_or_default, length-map, take_more}
use Rattle.std.proofs.lemmas.List.Elements.{All-contains, filter-append}
use Rattle.g_base.proofs.KeyLemmas.{AreApart-pairs, at_key-itself, find-some}
use Rattle.g_entry.specs.declared.head.Head.{Head}
use Rattle.g_entry.specs.declared.head.Intent.{Intent}
use Rattle.g_entry.specs.HeadFields.{IsHead, IsIntent}
use Rattle.g_tape.specs.declared.fault.TapeFault.{TapeFault}
use Rattle.g_tape.specs.declared.fault.TapeFault.TheVariants as tape
use Rattle.g_tape.specs.Rack.{Rack, reel, refuses_unmount, told_of}
use Rattle.g_tape.specs.Reads.{blocks_in, blocks_of, unread}
use Rattle.g_tape.specs.Reel.{Reel}
use Rattle.g_tape.proofs.PlaceLemmas.{reel-found}
use Rattle.g_tape.proofs.ReadLemmas.{reel-unread}
use Rattle.g_tree.proofs.ListLemmas.{contains_cases, contains_first, contains_more, pairs_first, pairs_rest}
use Rattle.g_disc_contents.specs.Contents.{Contents}
use Rattle.g_incr.specs.Layout.{Dump, StandsOn, count_of, ends}
use Rattle.g_shelf.specs.CompletedDumps.{AreNext, all_dumps, end_behind, end_of}
use Rattle.g_shelf.proofs.QuietLemmas.{within}
use Rattle.g_store_meaning.specs.Belonging.{IsIntended, IsPlaced}
use Rattle.g_store_meaning.specs.Meaning.{told_reels}
use Rattle.g_store_meaning.proofs.OneLemmas.{is_shelved, on_reel}
use Rattle.g_restore.specs.declared.dumps.Found.{Found}
use Rattle.g_restore.specs.KnownDumps.{Known, known, known_of}
use Rattle.g_look.specs.declared.broken.Broken.{Broken}
use Rattle.g_look.specs.declared.broken.Broken.TheVariants.{Twice, Falls, LostDirectory, LostCopy, TooNew, LastMissing, TooFar, NoReel, Misplaced, NoCopy, Lengths, Bytes}
use Rattle.g_look.specs.declared.broken.DumpAt.{DumpAt}
use Rattle.g_look.specs.Heads.{EndsLow, HasNumber, HeadFits, IsFirstOfHead, IsIntentBroken, IsIntentPlaced, IsKnown, IsNamed, IsOff, IsTooFar, IsTooNew, end_upto, end_with}
use Rattle.g_look.specs.Judging.{IsFirstOfDisc}
use Rattle.g_look.specs.Rules.{BreaksDisc, rule_of}
use Rattle.g_look.specs.SeenDumps.{IsSeen, IsShort, OtherSerial}
use Rattle.g_look.proofs.RackLemmas.{dump_of, found_of, is_at}

-- THE DUMPS OF ONE SERIAL among all
abbrev pub is_on : ℕ → Dump → Bool
is_on serial d = d.serial == serial

keep_all : (serial : ℕ) (ds : List Dump) → ((d : Dump) → Contains ds d → d.serial ≡ serial) → filter (is_on serial) ds ≡ ds
keep_all serial [] each = refl
keep_all serial (d ∷ ds) each =
    cond-true (d.serial == serial) (d ∷ filter (is_on serial) ds) (filter (is_on serial) ds) (eq-eqb d.serial serial (each d (contains_first d ds)))
    ∙ ap (λ (es : List Dump). d ∷ es) (keep_all serial ds (λ e there. each e (contains_more d e ds there)))

keep_none : (serial : ℕ) (ds : List Dump) → ((d : Dump) → Contains ds d → d.serial ≢ serial) → filter (is_on serial) ds ≡ []
keep_none serial [] each = refl
keep_none serial (d ∷ ds) each =
    cond-false (d.serial == serial) (d ∷ filter (is_on serial) ds) (filter (is_on serial) ds) (ne_eqb d.serial serial (each d (contains_first d ds)))
    ∙ keep_none serial ds (λ e there. each e (contains_more d e ds there))

-- each dump of a shelf has the serial of its reel
abbrev HaveSerials : (ℕ → List Dump) → List Reel → Type 0
HaveSerials shelf reels = (r : Reel) → Contains reels r → (d : Dump) → Contains (shelf r.serial) d → d.serial ≡ r.serial

none_on : (shelf : ℕ → List Dump) (serial : ℕ) (reels : List Reel) → HaveSerials shelf reels → ((r : Reel) → Contains reels r → r.serial ≢ serial) → filter (is_on serial) (all_dumps shelf reels) ≡ []
none_on shelf serial [] have other = refl
none_on shelf serial (r ∷ rs) have other =
    filter-append (is_on serial) (shelf r.serial) (all_dumps shelf rs)
    ∙ ap (λ (ds : List Dump). ds ++ filter (is_on serial) (all_dumps shelf rs))
    (keep_none serial (shelf r.serial) (λ d there same. other r (contains_first r rs) (sym (have r (contains_first r rs) d there) ∙ same)))
    ∙ none_on shelf serial rs (λ q there. have q (contains_more r q rs there)) (λ q there. other q (contains_more r q rs there))

append_none : (ds es : List Dump) → es ≡ [] → ds ++ es ≡ ds
append_none [] es none = none
append_none (d ∷ ds) es none = ap (λ (xs : List Dump). d ∷ xs) (append_none ds es none)

on_serial : (shelf : ℕ → List Dump) (reels : List Reel) → HaveSerials shelf reels → AllPairs OtherSerial reels → (r : Reel) → Contains reels r
    → filter (is_on r.serial) (all_dumps shelf reels) ≡ shelf r.serial
on_serial shelf [] have apart r (i, inside, is) = absurd (let no : ⊥ = omega (arith, inside) in no)
on_serial shelf (q ∷ qs) have apart r (zero, inside, is) =
    let same : q.serial ≡ r.serial = ap (λ (x : Reel). x.serial) is in
    filter-append (is_on r.serial) (shelf q.serial) (all_dumps shelf qs)
    ∙ ap (λ (ds : List Dump). ds ++ filter (is_on r.serial) (all_dumps shelf qs)) (keep_all r.serial (shelf q.serial) (λ d there. have q (contains_first q qs) d there ∙ same))
    ∙ append_none (shelf q.serial) (filter (is_on r.serial) (all_dumps shelf qs))
    (none_on shelf r.serial qs (λ p there. have p (contains_more q p qs there))
    (λ p there other. All-contains (OtherSerial q) qs p (pairs_first OtherSerial q qs apart) there (same ∙ sym other)))
    ∙ ap shelf same
on_serial shelf (q ∷ qs) have apart r (suc i, inside, is) =
    let there : Contains qs r = (i, omega (arith, inside), is) in
    let other : q.serial ≢ r.serial = All-contains (OtherSerial q) qs r (pairs_first OtherSerial q qs apart) there in
    filter-append (is_on r.serial) (shelf q.serial) (all_dumps shelf qs)
    ∙ ap (λ (ds : List Dump). ds ++ filter (is_on r.serial) (all_dumps shelf qs))
    (keep_none r.serial (shelf q.serial) (λ d in_d same. other (sym (have q (contains_first q qs) d in_d) ∙ same)))
    ∙ on_serial shelf qs (λ p in_p. have p (contains_more q p qs in_p)) (pairs_rest OtherSerial q qs apart) r there

pub seen_on : (reels : List Reel) (shelf : ℕ → List Dump) (found : List Found) → IsSeen reels shelf found → (r : Reel) → Contains reels r → filter (is_on r.serial) (all_dumps shelf reels) ≡ shelf r.serial
seen_on reels shelf found seen = on_serial shelf reels (λ r there d on. (is_shelved shelf reels seen.told seen.shelved d r there on).0) seen.apart

-- ENDS
abbrev known_end : Known → ℕ
known_end k = k.note.place + k.note.count + 2

abbrev known_with : ℕ → ℕ → ℕ → Known → ℕ
known_with serial last end k = if (k.serial == serial) && nat_le k.note.number last then known_end k else end

known_upto : ℕ → ℕ → ℕ → List Known → ℕ
known_upto serial last end [] = end
known_upto serial last end (k ∷ ks) = known_upto serial last (known_with serial last end k) ks

upto_known : (serial last end : ℕ) (found : List Found) → end_upto serial last end found ≡ known_upto serial last end (map known found)
unfolding known_upto
upto_known serial last end [] = refl
upto_known serial last end (f ∷ fs) = upto_known serial last (end_with serial last end f) fs

abbrev pub up_to : ℕ → Dump → Bool
up_to last d = nat_le d.number last

-- the end, from the dumps of a serial up to a number
one_end : (serial last end : ℕ) (d : Dump) (ks : List Known) (on : List Dump) → ((e : ℕ) → known_upto serial last e ks ≡ end_behind e (filter (up_to last) on))
    → (a b : Bool) → nat_le d.number last ≡ b
    → known_upto serial last (cond (a && b) (known_end (known_of d)) end) ks ≡ end_behind end (filter (up_to last) (cond a (d ∷ on) on))
one_end serial last end d ks on rest false b is = rest end
one_end serial last end d ks on rest true true is =
    let same : known_end (known_of d) ≡ ends d = omega arith in
    ap (λ (e : ℕ). known_upto serial last e ks) same ∙ rest (ends d)
    ∙ ap (end_behind end) (sym (cond-true (nat_le d.number last) (d ∷ filter (up_to last) on) (filter (up_to last) on) is))
one_end serial last end d ks on rest true false is =
    rest end ∙ ap (end_behind end) (sym (cond-false (nat_le d.number last) (d ∷ filter (up_to last) on) (filter (up_to last) on) is))

ends_taken : (serial last end : ℕ) (ds : List Dump) → known_upto serial last end (map known_of ds) ≡ end_behind end (filter (up_to last) (filter (is_on serial) ds))
unfolding known_upto
ends_taken serial last end [] = refl
ends_taken serial last end (d ∷ ds) =
    one_end serial last end d (map known_of ds) (filter (is_on serial) ds) (λ e. ends_taken serial last e ds) (d.serial == serial) (nat_le d.number last) refl

pub end_is : (reels : List Reel) (shelf : ℕ → List Dump) (found : List Found) → IsSeen reels shelf found → (r : Reel) → Contains reels r → (last : ℕ)
    → end_upto r.serial last 0 found ≡ end_of (filter (up_to last) (shelf r.serial))
end_is reels shelf found seen r there last =
    upto_known r.serial last 0 found ∙ ap (known_upto r.serial last 0) seen.known.same
    ∙ ends_taken r.serial last 0 (all_dumps shelf reels)
    ∙ ap (λ (ds : List Dump). end_behind 0 (filter (up_to last) ds)) (seen_on reels shelf found seen r there)

-- a loop over them
pub upto_more : (serial last end : ℕ) (fs : List Found) (f : Found) → end_upto serial last end (fs ++ f ∷ []) ≡ end_with serial last (end_upto serial last end fs) f
upto_more serial last end [] f = refl
upto_more serial last end (g ∷ gs) f = upto_more serial last (end_with serial last end g) gs f

pub upto_step : (serial last end now i : ℕ) (found : List Found) (f : Found) → i < length found → f ≡ get_or found i f → (All EndsLow found → end ≡ end_upto serial last 0 (take i found))
    → (EndsLow f → now ≡ end_with serial last end f) → All EndsLow found → now ≡ end_upto serial last 0 (take (i + 1) found)
upto_step serial last end now i found f inside at so is low =
    is (subst EndsLow (sym at) (low i f inside)) ∙ ap (λ (e : ℕ). end_with serial last e f) (so low) ∙ sym (upto_more serial last 0 (take i found) f)
    ∙ ap (end_upto serial last 0) (ap (λ (x : Found). take i found ++ x ∷ []) at ∙ sym (take_more found i f inside))

-- ENDS ARE NUMBERS OF BLOCKS
pub stands_in : (serial : ℕ) (reel : List (List ℕ)) (at from : ℕ) (ds : List Dump) (d : Dump) → AreNext serial reel at from ds → Contains ds d → StandsOn reel d
stands_in serial reel at from [] d are (i, inside, is) = absurd (let no : ⊥ = omega (arith, inside) in no)
stands_in serial reel at from (e ∷ es) d are (zero, inside, is) = subst (StandsOn reel) is are.0.stands
stands_in serial reel at from (e ∷ es) d are (suc i, inside, is) = stands_in serial reel (ends e) (e.number + 1) es d are.1 (i, omega (arith, inside), is)

pub told_blocks : (blocks : Option (List (List ℕ))) → is_some blocks ≡ true → (bs : List (List ℕ)) × (blocks ≡ Some bs)
told_blocks None told = absurd (let no : ⊥ = cc in no)
told_blocks (Some bs) told = (bs, refl)

pub low_end : (reels : List Reel) (shelf : ℕ → List Dump) (found : List Found) → IsSeen reels shelf found → (d : Dump) → Contains (all_dumps shelf reels) d → ends d ≤ 65536
low_end reels shelf found seen d there =
    let on = on_reel shelf reels d there in
    let (bs, is) = told_blocks on.reel.blocks (All-contains (λ (r : Reel). is_some r.blocks ≡ true) reels on.reel seen.told.each on.there) in
    let are = seen.shelved.each on.reel on.there bs is in
    let inside = within bs d (stands_in on.reel.serial bs 0 0 (shelf on.reel.serial) d are.are on.on) in
    let short = All-contains IsShort reels on.reel seen.short on.there bs is in
    omega (arith, inside, short)

pub low_ends : (reels : List Reel) (shelf : ℕ → List Dump) (found : List Found) → IsSeen reels shelf found → All EndsLow found
low_ends reels shelf found seen = All-from_contains found each
  where
    All-from_contains : (fs : List Found) → ((f : Found) → Contains fs f → EndsLow f) → All EndsLow fs
    All-from_contains fs each k f inside = each (get_or fs k f) (k, inside, get_or_default fs k (get_or fs k f) f inside)

    each : (f : Found) → Contains found f → EndsLow f
    each f there =
        let d = dump_of found (all_dumps shelf reels) seen.known f there in
        let place : f.dir.note.place ≡ d.dump.place = ap (λ (k : Known). k.note.place) d.same in
        let count : f.dir.note.count ≡ count_of d.dump = ap (λ (k : Known). k.note.count) d.same in
        let low = low_end reels shelf found seen d.dump d.there in
        omega (arith, place, count, low)

-- RULES 5 TO 7
module _ (reels : List Reel) (shelf : ℕ → List Dump) (found : List Found) (seen : IsSeen reels shelf found) (head : Head) (is_head : IsHead head) where
  abbrev dumps : List Dump
  dumps = all_dumps shelf reels

  abbrev Known5 : Type 0
  Known5 = (f : Found) → Contains found f → IsKnown head f

  abbrev Stamps7 : Type 0
  Stamps7 = (f : Found) → Contains found f → f.dir.note.next_stamp ≤ head.next_stamp

  -- the intent has the number after the last one
  named_next : (i : Intent) → head.intent ≡ Some i → i.number ≡ head.last_dump + 1
  named_next i is = (subst (λ (o : Option Intent). IfSome o (IsIntent head.last_dump)) is is_head.intent).number

  intent_is : (i : Intent) (d : Dump) → i.serial ≡ d.serial → i.place ≡ d.place → i.number ≡ d.number → i ≡ record { serial = d.serial; place = d.place; number = d.number }
  intent_is i d serial place number =
      let x : Intent = record { serial = i.serial; place = i.place; number = i.number } in
      let y : Intent = record { serial = d.serial; place = d.place; number = d.number } in
      let same : x ≡ y = cc in same

  number_upto : Known5 → (e : Dump) → Contains dumps e → e.number ≤ head.last_dump + 1
  number_upto known5 e there =
      let g = found_of found dumps seen.known e there in
      let number : g.one.dir.note.number ≡ e.number = ap (λ (k : Known). k.note.number) g.same in
      by_known g.one number (known5 g.one g.there) head.intent refl
    where
      by_known : (g : Found) → g.dir.note.number ≡ e.number → IsKnown head g → (o : Option Intent) → head.intent ≡ o → e.number ≤ head.last_dump + 1
      by_known g number (inl le) o is = omega (arith, number, le)
      by_known g number (inr named) None is = absurd (subst (λ (o : Option Intent). IsNamed o g) is named)
      by_known g number (inr named) (Some i) is =
          let it = subst (λ (o : Option Intent). IsNamed o g) is named in
          let next = named_next i is in
          let same = it.2 in
          omega (arith, number, next, same)

  numbers5 : Known5 → (d : Dump) → Contains dumps d → (d.number ≤ head.last_dump) ⊎ IsIntended head.last_dump head.intent dumps d
  numbers5 known5 d there =
      let f = found_of found dumps seen.known d there in
      by_known f.one f.same (known5 f.one f.there) head.intent refl
    where
      by_known : (f : Found) → known f ≡ known_of d → IsKnown head f → (o : Option Intent) → head.intent ≡ o → (d.number ≤ head.last_dump) ⊎ IsIntended head.last_dump head.intent dumps d
      by_known f same (inl le) o is =
          let number : f.dir.note.number ≡ d.number = ap (λ (k : Known). k.note.number) same in
          inl (omega (arith, number, le))
      by_known f same (inr named) None is = absurd (subst (λ (o : Option Intent). IsNamed o f) is named)
      by_known f same (inr named) (Some i) is =
          let it = subst (λ (o : Option Intent). IsNamed o f) is named in
          let number : f.dir.note.number ≡ d.number = ap (λ (k : Known). k.note.number) same in
          let next = named_next i is in
          let same_number = it.2 in
          let number_is : d.number ≡ head.last_dump + 1 = omega (arith, number, next, same_number) in
          inr (record {
            number = number_is;
            named = is ∙ ap (λ (x : Intent). Some x) (intent_is i d (it.0 ∙ ap (λ (k : Known). k.serial) same) (it.1 ∙ ap (λ (k : Known). k.note.place) same) (it.2 ∙ number));
            latest = λ e in_e on. let most = number_upto known5 e in_e in omega (arith, most, number_is);
          })

  stamps7 : Stamps7 → (d : Dump) → Contains dumps d → d.next ≤ head.next_stamp
  stamps7 low d there =
      let f = found_of found dumps seen.known d there in
      let next : f.one.dir.note.next_stamp ≡ d.next = ap (λ (k : Known). k.note.next_stamp) f.same in
      let le = low f.one f.there in
      omega (arith, next, le)

  last6 : HasNumber found head.last_dump → (d : Dump) × Contains dumps d × (d.number ≡ head.last_dump)
  last6 has =
      let d = dump_of found dumps seen.known has.one has.there in
      (d.dump, d.there, ap (λ (k : Known). k.note.number) (sym d.same) ∙ has.number_is)

  -- WHAT BREAKS A RULE
  module _ (c : Contents) (here : c.head ≡ head) where
    first5 : (b : Broken) → IsTooNew found head b → IsFirstOfDisc shelf reels c b
    first5 (TooNew a last) (f, in_f, told, last_is, new) =
        let d = dump_of found dumps seen.known f in_f in
        let number : f.dir.note.number ≡ d.dump.number = ap (λ (k : Known). k.note.number) d.same in
        let newer = new.newer in
        record {
          breaks = (
            d.dump,
            is_at found dumps seen.known f a d told,
            last_is ∙ ap (λ (h : Head). h.last_dump) (sym here),
            omega (arith, last_is, newer, number),
            λ intended. new.other (subst (λ (o : Option Intent). IsNamed o f) (sym intended.named ∙ ap (λ (h : Head). h.intent) here)
                (ap (λ (k : Known). k.serial) (sym d.same), ap (λ (k : Known). k.note.place) (sym d.same), sym number)),
          );
          first = λ e is. least e is;
        }
      where
        least : (e : Broken) → BreaksDisc shelf reels c e → 5 ≤ rule_of e
        least (Twice a b) is = absurd is
        least (Falls a b) is = absurd is
        least (LostDirectory user) is = absurd is
        least (LostCopy full serial) is = absurd is
        least other is = omega arith
    first5 other is = absurd is

    abbrev Numbers : Type 0
    Numbers = (d : Dump) → Contains dumps d → (d.number ≤ head.last_dump) ⊎ IsIntended head.last_dump head.intent dumps d

    not5 : Numbers → (a : DumpAt) (last : ℕ) → BreaksDisc shelf reels c (TooNew a last) → ⊥
    not5 numbers a last (d, at, last_is, newer, other) = by_number (numbers d at.there)
      where
        by_number : (d.number ≤ head.last_dump) ⊎ IsIntended head.last_dump head.intent dumps d → ⊥
        by_number (inl le) =
            let same : last ≡ head.last_dump = last_is ∙ ap (λ (h : Head). h.last_dump) here in
            let no : ⊥ = omega (arith, le, newer, same) in no
        by_number (inr intended) = other (subst (λ (h : Head). IsIntended h.last_dump h.intent dumps d) (sym here) intended)

    first6 : Numbers → 0 < head.last_dump → (HasNumber found head.last_dump → ⊥) → IsFirstOfDisc shelf reels c (LastMissing head.last_dump)
    first6 numbers some none = record {
      breaks = (
        ap (λ (h : Head). h.last_dump) (sym here),
        some,
        λ d there is. let f = found_of found dumps seen.known d there in
            none (record { one = f.one; there = f.there; number_is = ap (λ (k : Known). k.note.number) f.same ∙ is }),
      );
      first = least;
    }
      where
        least : (e : Broken) → BreaksDisc shelf reels c e → 6 ≤ rule_of e
        least (TooNew a last) is = absurd (not5 numbers a last is)
        least (Twice a b) is = absurd is
        least (Falls a b) is = absurd is
        least (LostDirectory user) is = absurd is
        least (LostCopy full serial) is = absurd is
        least other is = omega arith

    abbrev HasLast : Type 0
    HasLast = 0 < head.last_dump → (d : Dump) × Contains dumps d × (d.number ≡ head.last_dump)

    not6 : HasLast → (last : ℕ) → BreaksDisc shelf reels c (LastMissing last) → ⊥
    not6 has last (last_is, some, none) =
        let same : last ≡ head.last_dump = last_is ∙ ap (λ (h : Head). h.last_dump) here in
        let (d, there, is) = has (omega (arith, some, same)) in
        none d there (is ∙ sym same)

    first7 : Numbers → HasLast → (b : Broken) → IsTooFar found head.next_stamp b → IsFirstOfDisc shelf reels c b
    first7 numbers has (TooFar a next) (f, in_f, told, next_is, less) =
        let d = dump_of found dumps seen.known f in_f in
        let stamp : f.dir.note.next_stamp ≡ d.dump.next = ap (λ (k : Known). k.note.next_stamp) d.same in
        record {
          breaks = (d.dump, is_at found dumps seen.known f a d told, next_is ∙ ap (λ (h : Head). h.next_stamp) (sym here), omega (arith, next_is, less, stamp));
          first = least;
        }
      where
        least : (e : Broken) → BreaksDisc shelf reels c e → 7 ≤ rule_of e
        least (TooNew a last) is = absurd (not5 numbers a last is)
        least (LastMissing last) is = absurd (not6 has last is)
        least (Twice a b) is = absurd is
        least (Falls a b) is = absurd is
        least (LostDirectory user) is = absurd is
        least (LostCopy full serial) is = absurd is
        least other is = omega arith
    first7 numbers has other is = absurd is

    abbrev Stamps : Type 0
    Stamps = (d : Dump) → Contains dumps d → d.next ≤ head.next_stamp

    not7 : Stamps → (a : DumpAt) (next : ℕ) → BreaksDisc shelf reels c (TooFar a next) → ⊥
    not7 stamps a next (d, at, next_is, less) =
        let le = stamps d at.there in
        let same : next ≡ head.next_stamp = next_is ∙ ap (λ (h : Head). h.next_stamp) here in
        let no : ⊥ = omega (arith, le, same, less) in no

    -- RULES 8 AND 9
    least8 : Numbers → HasLast → Stamps → (e : Broken) → BreaksDisc shelf reels c e → 8 ≤ rule_of e
    least8 numbers has stamps (TooNew a last) is = absurd (not5 numbers a last is)
    least8 numbers has stamps (LastMissing last) is = absurd (not6 has last is)
    least8 numbers has stamps (TooFar a next) is = absurd (not7 stamps a next is)
    least8 numbers has stamps (Twice a b) is = absurd is
    least8 numbers has stamps (Falls a b) is = absurd is
    least8 numbers has stamps (LostDirectory user) is = absurd is
    least8 numbers has stamps (LostCopy full serial) is = absurd is
    least8 numbers has stamps other is = omega arith

    not8 : (i : Intent) → head.intent ≡ Some i → (r : Reel) → Contains reels r → r.serial ≡ i.serial → (serial : ℕ) → BreaksDisc shelf reels c (NoReel serial) → ⊥
    not8 i is r there on serial (j, at, serial_is, none) =
        let same : j ≡ i = let both : Some j ≡ Some i = sym at ∙ ap (λ (h : Head). h.intent) here ∙ is in cc in
        none (serial_in reels r there (on ∙ ap (λ (x : Intent). x.serial) (sym same) ∙ serial_is))
      where
        serial_in : (rs : List Reel) (r : Reel) → Contains rs r → r.serial ≡ serial → Contains (map (λ q. q.serial) rs) serial
        serial_in rs r (k, inside, at_k) on =
            let long = length-map rs (λ (q : Reel). q.serial) in
            (k, omega (arith, long, inside), get_or-map (λ (q : Reel). q.serial) rs k r serial inside ∙ ap (λ (q : Reel). q.serial) at_k ∙ on)

    first8 : Numbers → HasLast → Stamps → (i : Intent) → head.intent ≡ Some i → (b : Broken) → IsIntentBroken found reels i head.last_dump b → IsFirstOfDisc shelf reels c b
    first8 numbers has stamps i is (NoReel serial) (serial_is, none) = record {
      breaks = (i, ap (λ (h : Head). h.intent) here ∙ is, sym serial_is, λ there. let (r, in_r, on) = named_reel reels serial there in none r in_r (on ∙ serial_is));
      first = least8 numbers has stamps;
    }
      where
        named_reel : (rs : List Reel) (serial : ℕ) → Contains (map (λ q. q.serial) rs) serial → (r : Reel) × Contains rs r × (r.serial ≡ serial)
        named_reel [] serial (k, inside, at) = absurd (let no : ⊥ = omega (arith, inside) in no)
        named_reel (q ∷ qs) serial (zero, inside, at) = (q, contains_first q qs, at)
        named_reel (q ∷ qs) serial (suc k, inside, at) =
            let (r, there, on) = named_reel qs serial (k, omega (arith, inside), at) in
            (r, contains_more q r qs there, on)
    first8 numbers has stamps i is (Misplaced serial place end) (serial_is, place_is, (r, in_r, on), end_here, other) = record {
      breaks = (
        i,
        ap (λ (h : Head). h.intent) here ∙ is,
        sym serial_is,
        sym place_is,
        end_here ∙ ends_there ∙ ap (λ (n : ℕ). end_of (filter (λ d. nat_le d.number n) (shelf serial))) (ap (λ (h : Head). h.last_dump) (sym here)),
        λ same. other (sym place_is ∙ same),
      );
      first = least;
    }
      where
        ends_there : end_upto i.serial head.last_dump 0 found ≡ end_of (filter (λ d. nat_le d.number head.last_dump) (shelf serial))
        ends_there =
            ap (λ (n : ℕ). end_upto n head.last_dump 0 found) (sym on) ∙ end_is reels shelf found seen r in_r head.last_dump
            ∙ ap (λ (n : ℕ). end_of (filter (λ d. nat_le d.number head.last_dump) (shelf n))) (on ∙ sym serial_is)

        least : (e : Broken) → BreaksDisc shelf reels c e → 9 ≤ rule_of e
        least (NoReel other_serial) broken = absurd (not8 i is r in_r on other_serial broken)
        least (TooNew a last) broken = absurd (not5 numbers a last broken)
        least (LastMissing last) broken = absurd (not6 has last broken)
        least (TooFar a next) broken = absurd (not7 stamps a next broken)
        least (Twice a b) broken = absurd broken
        least (Falls a b) broken = absurd broken
        least (LostDirectory user) broken = absurd broken
        least (LostCopy full s) broken = absurd broken
        least other broken = omega arith
    first8 numbers has stamps i is other broken = absurd broken

  -- NONE IS BROKEN
  placed : (i : Intent) → head.intent ≡ Some i → IsIntentPlaced found reels i head.last_dump → IsPlaced shelf reels head.last_dump i
  placed i is at =
      let (r, there, on) = at.reel in
      record {
        reel = serial_among reels r i.serial there on;
        number = named_next i is;
        place =
            at.place ∙ ap (λ (n : ℕ). end_upto n head.last_dump 0 found) (sym on) ∙ end_is reels shelf found seen r there head.last_dump
            ∙ ap (λ (n : ℕ). end_of (filter (λ d. nat_le d.number head.last_dump) (shelf n))) on;
      }
    where
      serial_among : (rs : List Reel) (r : Reel) (serial : ℕ) → Contains rs r → r.serial ≡ serial → Contains (map (λ q. q.serial) rs) serial
      serial_among rs r serial (k, inside, at_k) on =
          let long = length-map rs (λ (q : Reel). q.serial) in
          (k, omega (arith, long, inside), get_or-map (λ (q : Reel). q.serial) rs k r serial inside ∙ ap (λ (q : Reel). q.serial) at_k ∙ on)

  pub head_fits : Known5 → (0 < head.last_dump → HasNumber found head.last_dump) → Stamps7 → IfSome head.intent (IsPlaced shelf reels head.last_dump) → HeadFits shelf reels head
  head_fits known5 has low intent = record { numbers = numbers5 known5; has_last = λ some. last6 (has some); stamps = stamps7 low; intent = intent }

  pub fits_nowhere : Known5 → (0 < head.last_dump → HasNumber found head.last_dump) → Stamps7 → head.intent ≡ None → HeadFits shelf reels head
  fits_nowhere known5 has low is = head_fits known5 has low (subst (λ (o : Option Intent). IfSome o (IsPlaced shelf reels head.last_dump)) (sym is) tt)

  pub fits_placed : Known5 → (0 < head.last_dump → HasNumber found head.last_dump) → Stamps7 → (i : Intent) → head.intent ≡ Some i → IsIntentPlaced found reels i head.last_dump → HeadFits shelf reels head
  fits_placed known5 has low i is at = head_fits known5 has low (subst (λ (o : Option Intent). IfSome o (IsPlaced shelf reels head.last_dump)) (sym is) (placed i is at))

  -- THE FACT behind each of them
  pub breaks5 : (b : Broken) → IsTooNew found head b → IsFirstOfHead shelf reels head b
  breaks5 b is c here = first5 c here b is

  pub breaks6 : Known5 → (last : ℕ) → (last ≡ head.last_dump) × (0 < head.last_dump) × (HasNumber found head.last_dump → ⊥) → IsFirstOfHead shelf reels head (LastMissing last)
  breaks6 known5 last (is, some, none) = subst (λ (n : ℕ). IsFirstOfHead shelf reels head (LastMissing n)) (sym is) (λ c here. first6 c here (numbers5 known5) some none)

  pub breaks7 : Known5 → (0 < head.last_dump → HasNumber found head.last_dump) → (b : Broken) → IsTooFar found head.next_stamp b → IsFirstOfHead shelf reels head b
  breaks7 known5 has b is c here = first7 c here (numbers5 known5) (λ some. last6 (has some)) b is

  pub breaks8 : Known5 → (0 < head.last_dump → HasNumber found head.last_dump) → Stamps7 → (i : Intent) → head.intent ≡ Some i → (b : Broken) → IsIntentBroken found reels i head.last_dump b
      → IsFirstOfHead shelf reels head b
  breaks8 known5 has low i is b broken c here = first8 c here (numbers5 known5) (λ some. last6 (has some)) (stamps7 low) i is b broken

-- what the laws of the records require of a head
module _ (reels : List Reel) (shelf : ℕ → List Dump) (c : Contents) (fits : HeadFits shelf reels c.head) where
  abbrev dumps_of : List Dump
  dumps_of = all_dumps shelf reels

  pub none_of_head : (e : Broken) → BreaksDisc shelf reels c e → 10 ≤ rule_of e
  none_of_head (TooNew a last) (d, at, last_is, newer, other) = absurd (by_number (fits.numbers d at.there))
    where
      by_number : (d.number ≤ c.head.last_dump) ⊎ IsIntended c.head.last_dump c.head.intent dumps_of d → ⊥
      by_number (inl le) = let no : ⊥ = omega (arith, le, newer, last_is) in no
      by_number (inr intended) = other intended
  none_of_head (LastMissing last) (last_is, some, none) =
      let (d, there, is) = fits.has_last (omega (arith, some, last_is)) in
      absurd (none d there (is ∙ sym last_is))
  none_of_head (TooFar a next) (d, at, next_is, less) =
      let le = fits.stamps d at.there in
      absurd (let no : ⊥ = omega (arith, le, next_is, less) in no)
  none_of_head (NoReel serial) (i, at, serial_is, none) =
      let placed = subst (λ (o : Option Intent). IfSome o (IsPlaced shelf reels c.head.last_dump)) at fits.intent in
      absurd (none (subst (λ (n : ℕ). Contains (map (λ r. r.serial) reels) n) serial_is placed.reel))
  none_of_head (Misplaced serial place end) (i, at, serial_is, place_is, end_at, other) =
      let placed = subst (λ (o : Option Intent). IfSome o (IsPlaced shelf reels c.head.last_dump)) at fits.intent in
      absurd (other (sym place_is ∙ placed.place ∙ ap (λ (n : ℕ). end_of (filter (λ d. nat_le d.number c.head.last_dump) (shelf n))) serial_is ∙ sym end_at))
  none_of_head (NoCopy full copy) is = omega arith
  none_of_head (Lengths full stamp len dumped) is = omega arith
  none_of_head (Bytes full stamp one other) is = omega arith
  none_of_head other is = absurd is

-- THE REEL OF AN INTENT
pub off_place : (found : List Found) (reels : List Reel) (i : Intent) (last end : ℕ) (b : Broken) → IsOff i end b → end ≡ end_upto i.serial last 0 found → (r : Reel) × Contains reels r × (r.serial ≡ i.serial)
    → IsIntentBroken found reels i last b
off_place found reels i last end (Misplaced serial place at) (serial_is, place_is, at_is, other) is there =
    (serial_is, place_is, there, at_is ∙ is, λ same. other (same ∙ at_is))
off_place found reels i last end other never is there = absurd never

-- the rack's answer for a serial
not_ok : (e : TapeFault) (n : ℕ) → (let r : Result ℕ TapeFault = Err e in r ≡ Ok n) → ⊥
not_ok e n is = cc

same_ok : (m n : ℕ) → (let r : Result ℕ TapeFault = Ok m in r ≡ Ok n) → m ≡ n
same_ok m n is = cc

module _ (number : Reel → ℕ) where
  told_none : (rs : List Reel) (serial : ℕ) (e : TapeFault) → Err e ≡ told_of number (reel serial rs) → (r : Reel) → Contains rs r → r.serial ≡ serial → ⊥
  told_none rs serial e is r there on = by (reel serial rs) is (find-some (λ (q : Reel). serial == q.serial) rs r there (eq-eqb serial r.serial (sym on)))
    where
      by : (o : Option Reel) → Err e ≡ told_of number o → is_some o ≡ true → ⊥
      by None is some = cc
      by (Some q) is some = not_ok e (number q) is

told_some : (rs : List Reel) (serial n : ℕ) → Ok n ≡ told_of (λ r. r.len) (reel serial rs) → (r : Reel) × Contains rs r × (r.serial ≡ serial)
told_some rs serial n is = by (reel serial rs) refl is
  where
    by : (o : Option Reel) → reel serial rs ≡ o → Ok n ≡ told_of (λ r. r.len) o → (r : Reel) × Contains rs r × (r.serial ≡ serial)
    by None at is = absurd (let no : ⊥ = cc in no)
    by (Some q) at is = let (there, on) = reel-found serial rs q at in (q, there, on)

unread_there : (rs : List Reel) (r : Reel) → Contains (map unread rs) r → (q : Reel) × Contains rs q × (unread q ≡ r)
unread_there [] r (i, inside, at) = absurd (let no : ⊥ = omega (arith, inside) in no)
unread_there (q ∷ qs) r there = by_place (contains_cases (unread q) r (map unread qs) there) (unread_there qs r)
  where
    by_place : (unread q ≡ r) ⊎ Contains (map unread qs) r → (Contains (map unread qs) r → (p : Reel) × Contains qs p × (unread p ≡ r)) → (p : Reel) × Contains (q ∷ qs) p × (unread p ≡ r)
    by_place (inl is) more = (q, contains_first q qs, is)
    by_place (inr behind) more = let (p, there_p, is) = more behind in (p, contains_more q p qs there_p, is)

there_unread : (rs : List Reel) (q : Reel) → Contains rs q → Contains (map unread rs) (unread q)
there_unread rs q (i, inside, at) = let long = length-map rs unread in (i, omega (arith, long, inside), get_or-map unread rs i q (unread q) inside ∙ ap unread at)

pub no_number : (number : Reel → ℕ) (rack : Rack) (serial : ℕ) (e : TapeFault) → Err e ≡ told_of number (reel serial rack.reels) → (r : Reel) → Contains (told_reels rack) r → r.serial ≡ serial → ⊥
no_number number rack serial e is r there on =
    let (q, there_q, same) = unread_there rack.reels r there in
    told_none number rack.reels serial e is q there_q (ap (λ (x : Reel). x.serial) same ∙ on)

pub no_reel : (rack : Rack) (serial : ℕ) (e : TapeFault) → Err e ≡ told_of (λ r. r.len) (reel serial rack.reels) → (r : Reel) → Contains (told_reels rack) r → r.serial ≡ serial → ⊥
no_reel rack serial e is r there on = no_number (λ q. q.len) rack serial e is r there on

-- a reel that can't be unmounted because it isn't in the rack
pub isnt_there : (o : Option Reel) → refuses_unmount o ≡ Some tape.NoTape → Err tape.NoTape ≡ told_of (λ r. r.len) o
isnt_there None is = refl
isnt_there (Some q) is = absurd (by_mount q.mounted is)
  where
    by_mount : (b : Bool) → cond b None (Some tape.NotMounted) ≡ Some tape.NoTape → ⊥
    by_mount true wrong = cc
    by_mount false wrong = cc

pub is_reel : (rack : Rack) (serial n : ℕ) → Ok n ≡ told_of (λ r. r.len) (reel serial rack.reels) → (r : Reel) × Contains (told_reels rack) r × (r.serial ≡ serial)
is_reel rack serial n is =
    let (q, there, on) = told_some rack.reels serial n is in
    (unread q, there_unread rack.reels q there, on)

-- the blocks of a reel in the rack
found_there : (serial : ℕ) (r : Reel) → r.serial ≡ serial → (rs : List Reel) → AllPairs OtherSerial (map unread rs) → Contains (map unread rs) r → (q : Reel) × (reel serial rs ≡ Some q) × (unread q ≡ r)
found_there serial r on rs apart there =
    let among : reel r.serial (map unread rs) ≡ Some r = at_key-itself (λ (x : Reel). x.serial) (map unread rs) r (AreApart-pairs (λ (x : Reel). x.serial) (map unread rs) apart) there in
    by (reel serial rs) refl (sym (reel-unread serial rs) ∙ ap (λ (n : ℕ). reel n (map unread rs)) (sym on) ∙ among)
  where
    by : (o : Option Reel) → reel serial rs ≡ o → option_map unread o ≡ Some r → (q : Reel) × (reel serial rs ≡ Some q) × (unread q ≡ r)
    by None at is = absurd (let no : ⊥ = cc in no)
    by (Some q) at is =
        let both : Some (unread q) ≡ Some r = is in
        let same : unread q ≡ r = cc in
        (q, at, same)

pub blocks_there : (rack : Rack) (serial : ℕ) (r : Reel) → AllPairs OtherSerial (told_reels rack) → Contains (told_reels rack) r → r.serial ≡ serial → blocks_of serial rack ≡ r.blocks
blocks_there rack serial r apart there on = let (q, at, is) = found_there serial r on rack.reels apart there in ap blocks_in at ∙ ap (λ (x : Reel). x.blocks) is

-- and so is the rack's answer
module _ (number : Reel → ℕ) (same : (q : Reel) → number (unread q) ≡ number q) where
  pub number_there : (rack : Rack) (serial n : ℕ) → AllPairs OtherSerial (told_reels rack) → Ok n ≡ told_of number (reel serial rack.reels) → (r : Reel) → Contains (told_reels rack) r → r.serial ≡ serial → n ≡ number r
  number_there rack serial n apart is r there on =
      let (q, at, here) = found_there serial r on rack.reels apart there in
      same_ok n (number q) (is ∙ ap (told_of number) at) ∙ sym (same q) ∙ ap number here

-- THE RESULTS of the parts, combined
pub intent_some : (found : List Found) (reels : List Reel) (i : Intent) (last end : ℕ) (o : Option Broken) → (All EndsLow found → end ≡ end_upto i.serial last 0 found)
    → (r : Reel) × Contains reels r × (r.serial ≡ i.serial) → IfSome o (IsOff i end) → IfSome o (λ b. All EndsLow found → IsIntentBroken found reels i last b)
intent_some found reels i last end None is there off = tt
intent_some found reels i last end (Some b) is there off = λ low. off_place found reels i last end b off (is low) there

pub intent_none : (found : List Found) (reels : List Reel) (i : Intent) (last end : ℕ) (o : Option Broken) → (All EndsLow found → end ≡ end_upto i.serial last 0 found)
    → (r : Reel) × Contains reels r × (r.serial ≡ i.serial) → IfNone o (i.place ≡ end) → IfNone o (All EndsLow found → IsIntentPlaced found reels i last)
intent_none found reels i last end None is there same = λ low. record { reel = there; place = same ∙ is low }
intent_none found reels i last end (Some b) is there same = tt

module _ (reels : List Reel) (found : List Found) (head : Head) (is_head : IsHead head) (known5 : (f : Found) → Contains found f → IsKnown head f) (has : 0 < head.last_dump → HasNumber found head.last_dump)
    (low7 : (f : Found) → Contains found f → f.dir.note.next_stamp ≤ head.next_stamp) (i : Intent) (is : head.intent ≡ Some i) where
  pub intent_first : (o : Option Broken) → IfSome o (λ b. All EndsLow found → IsIntentBroken found reels i head.last_dump b)
      → IfSome o (λ b. (shelf : ℕ → List Dump) → IsSeen reels shelf found → IsFirstOfHead shelf reels head b)
  intent_first None broken = tt
  intent_first (Some b) broken = λ shelf seen. breaks8 reels shelf found seen head is_head known5 has low7 i is b (broken (low_ends reels shelf found seen))

  pub intent_fits : (o : Option Broken) → IfNone o (All EndsLow found → IsIntentPlaced found reels i head.last_dump) → IfNone o ((shelf : ℕ → List Dump) → IsSeen reels shelf found → HeadFits shelf reels head)
  intent_fits None at = λ shelf seen. fits_placed reels shelf found seen head is_head known5 has low7 i is (at (low_ends reels shelf found seen))
  intent_fits (Some b) at = tt

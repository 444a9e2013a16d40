-- What became of the reels and of the disc, if something was written.
-- serves: AnswerLemmas, EndLemmas, ExitLemmas
use Rattle.std.proofs.Common.{◌≡◌, ◌≢◌, ℕ, zero, suc, ◌+◌, ◌<◌, ◌==◌, Bool, true, false, List, [], ◌∷◌, ◌++◌, length, map, take, Option, Some, None, refl, sym, ◌∙◌, ap, arith, subst, inl, inr, slice_get, option_map, if◌then◌else◌, eq-eqb}
use Rattle.std.specs.Prelude.{◌⊎◌, ◌&&◌, ◌||◌, All, Contains, filter, nat_lt, not}
use Rattle.std.specs.List.{AllZip}
use Rattle.std.specs.Option.{ForSome}
use Rattle.std.proofs.lemmas.Bool.{cases_Bool, cond-false, cond-true, ltb-false, ltb-true, ne_eqb}
use Rattle.std.proofs.lemmas.Bool.Decides.{eqb_tells}
use Rattle.std.proofs.lemmas.List.Elements.{All-head, All-tail}
use Rattle.std.proofs.lemmas.Option.{none-some, same_Some}
use Rattle.g_base.specs.Counts.{RoseBy}
use Rattle.g_tape.specs.Rack.{Rack}
use Rattle.g_tape.specs.Reads.{unread}
use Rattle.g_tape.specs.Reel.{Reel, Remains, Unchanged, Shortened, Torn, ending, left_by}
use Rattle.g_disc_contents.specs.Commits.{Commits}
use Rattle.g_disc_contents.specs.Contents.{has}
use Rattle.g_disc_contents.specs.Facts.{Layout}
use Rattle.g_incr.specs.declared.note.DumpNote.{DumpNote}
use Rattle.g_incr.specs.Layout.{Dump}
use Rattle.g_shelf.specs.declared.rack.Listed.{Listed}
use Rattle.g_shelf.specs.FoundDumps.{note_of}
use Rattle.g_known.specs.ReelNotes.{AreListed, IsListed}
use Rattle.g_shelf.proofs.OneLemmas.{completed_are_one}
use Rattle.g_laws_store.proofs.WaitingLemmas.{mapped_there}
use Rattle.g_process.specs.ProcessPlan.{IsFree, IsTaken}
use Rattle.g_process.specs.Exits.{IsReadBy}
use Rattle.g_process.specs.Processing.{IsCutBy, IsLeftBy, IsReleased}
use Rattle.g_process.specs.Releases.{is_taken, released, taken, zeros}
use Rattle.g_process.specs.Progress.{filled}
use Rattle.g_process.proofs.BecomeLemmas.{Becomes, at_serial, zip_becomes}
use Rattle.g_process.proofs.ReelLemmas.{filled_long, filled_serial}

-- WHICH REELS ARE TAKEN AND WHICH ARE FREE, by the lists
dumps_there : (l : Listed) (dumps : List Dump) → l.notes ≡ map note_of dumps → nat_lt 0 (length l.notes) ≡ true → dumps ≡ [] → ⊥
dumps_there l dumps are some none =
    let long : length l.notes ≡ 0 = ap (λ (ns : List DumpNote). length ns) (are ∙ ap (map note_of) none) in
    let less = ltb-true 0 (length l.notes) some in
    let no : ⊥ = omega (arith, long, less) in no

no_dumps : (l : Listed) (dumps : List Dump) → l.notes ≡ map note_of dumps → nat_lt 0 (length l.notes) ≡ false → dumps ≡ []
no_dumps l [] are none = refl
no_dumps l (d ∷ ds) are none =
    absurd (let long : length l.notes ≡ suc (length (map note_of ds)) = ap (λ (ns : List DumpNote). length ns) are in (let low = ltb-false 0 (length l.notes) none in (let no : ⊥ = omega (arith, long, low) in no)))

pub both_true : (a b : Bool) → (a && b) ≡ true → (a ≡ true) × (b ≡ true)
both_true true true is = (refl, refl)
both_true true false is = absurd (let no : ⊥ = cc in no)
both_true false b is = absurd (let no : ⊥ = cc in no)

pub not_true : (b : Bool) → not b ≡ true → b ≡ false
not_true true is = absurd (let no : ⊥ = cc in no)
not_true false is = refl

list_taken : (serial : ℕ) (old mid : Rack) (l : Listed) → IsListed old l → is_taken serial l ≡ true → IsTaken l.serial old × (l.serial ≢ serial)
list_taken serial old mid l is taken_is =
    let (apart, some) = both_true (not (l.serial == serial)) (nat_lt 0 (length l.notes)) taken_is in (
      record {
        some = λ blocks told dumps completed none.
            dumps_there l is.dumps is.notes_are some (completed_are_one l.serial blocks is.dumps dumps (is.found.completed blocks told) completed ∙ none);
      },
      λ same. let e = eq-eqb l.serial serial same in (let f = not_true (l.serial == serial) apart in (let no : ⊥ = cc in no)),
    )

list_free : (serial : ℕ) (old mid : Rack) (l : Listed) → IsListed old l → is_taken serial l ≡ false → l.serial ≢ serial → IsFree l.serial old
list_free serial old mid l is taken_is apart = record {
  none = λ blocks told dumps completed.
      completed_are_one l.serial blocks dumps is.dumps completed (is.found.completed blocks told) ∙ no_dumps l is.dumps is.notes_are (by_test (nat_lt 0 (length l.notes)) taken_is);
}
  where
    by_test : (b : Bool) → (not (l.serial == serial) && b) ≡ false → b ≡ false
    by_test b no_is = by_both b (ap (λ (x : Bool). not x && b) (sym (ne_eqb l.serial serial apart)) ∙ no_is)
      where
        by_both : (b : Bool) → (true && b) ≡ false → b ≡ false
        by_both true is = is
        by_both false is = refl

taken_yes : (serial : ℕ) (l : Listed) (ls : List Listed) → is_taken serial l ≡ true → taken serial (l ∷ ls) ≡ l.serial ∷ taken serial ls
taken_yes serial l ls is = ap (map (λ (x : Listed). x.serial)) (cond-true (is_taken serial l) (l ∷ filter (is_taken serial) ls) (filter (is_taken serial) ls) is)

taken_no : (serial : ℕ) (l : Listed) (ls : List Listed) → is_taken serial l ≡ false → taken serial (l ∷ ls) ≡ taken serial ls
taken_no serial l ls is = ap (map (λ (x : Listed). x.serial)) (cond-false (is_taken serial l) (l ∷ filter (is_taken serial) ls) (filter (is_taken serial) ls) is)

pub or_cases : (a b : Bool) → (a || b) ≡ true → (a ≡ true) ⊎ (b ≡ true)
or_cases true b is = inl refl
or_cases false b is = inr is

pub has_taken : (serial n : ℕ) (old mid : Rack) (ls : List Listed) → All (IsListed old) ls → has (taken serial ls) n ≡ true → IsTaken n old × (n ≢ serial)
has_taken serial n old mid [] all is = absurd (let no : ⊥ = cc in no)
has_taken serial n old mid (l ∷ ls) all is = by_test (cases_Bool (is_taken serial l)) (λ it. has_taken serial n old mid ls (All-tail (IsListed old) l ls all) it)
  where
    by_test : (is_taken serial l ≡ true) ⊎ (is_taken serial l ≡ false) → (has (taken serial ls) n ≡ true → IsTaken n old × (n ≢ serial)) → IsTaken n old × (n ≢ serial)
    by_test (inl yes_is) rest = by_or (eqb_tells l.serial n) (sym (ap (λ (ns : List ℕ). has ns n) (taken_yes serial l ls yes_is)) ∙ is)
      where
        by_or : (((l.serial == n) ≡ true) × (l.serial ≡ n)) ⊎ (((l.serial == n) ≡ false) × (l.serial ≡ n → ⊥)) → ((l.serial == n) || has (taken serial ls) n) ≡ true → IsTaken n old × (n ≢ serial)
        by_or (inl h) it = subst (λ (m : ℕ). IsTaken m old × (m ≢ serial)) h.1 (list_taken serial old mid l (All-head (IsListed old) l ls all) yes_is)
        by_or (inr h) it = rest (ap (λ (b : Bool). b || has (taken serial ls) n) (sym h.0) ∙ it)
    by_test (inr no_is) rest = rest (sym (ap (λ (ns : List ℕ). has ns n) (taken_no serial l ls no_is)) ∙ is)

pub has_free : (serial n : ℕ) (old mid : Rack) (ls : List Listed) → All (IsListed old) ls → Contains (map (λ (l : Listed). l.serial) ls) n → n ≢ serial → has (taken serial ls) n ≡ false → IsFree n old
has_free serial n old mid [] all (i, within, at) apart is = absurd (let no : ⊥ = omega (arith, within) in no)
has_free serial n old mid (l ∷ ls) all there apart is = by_test (cases_Bool (is_taken serial l)) there (λ it at. has_free serial n old mid ls (All-tail (IsListed old) l ls all) at apart it)
  where
    by_test : (is_taken serial l ≡ true) ⊎ (is_taken serial l ≡ false) → Contains (map (λ (x : Listed). x.serial) (l ∷ ls)) n
        → (has (taken serial ls) n ≡ false → Contains (map (λ (x : Listed). x.serial) ls) n → IsFree n old) → IsFree n old
    by_test (inl yes_is) it rest = by_or (eqb_tells l.serial n) it (sym (ap (λ (ns : List ℕ). has ns n) (taken_yes serial l ls yes_is)) ∙ is)
      where
        by_or : (((l.serial == n) ≡ true) × (l.serial ≡ n)) ⊎ (((l.serial == n) ≡ false) × (l.serial ≡ n → ⊥)) → Contains (map (λ (x : Listed). x.serial) (l ∷ ls)) n
            → ((l.serial == n) || has (taken serial ls) n) ≡ false → IsFree n old
        by_or (inl h) at none = absurd (let e = ap (λ (b : Bool). b || has (taken serial ls) n) (sym h.0) ∙ none in (let no : ⊥ = cc in no))
        by_or (inr h) (zero, within, at) none = absurd (h.1 at)
        by_or (inr h) (suc i, within, at) none = rest (ap (λ (b : Bool). b || has (taken serial ls) n) (sym h.0) ∙ none) (i, omega (arith, within), at)
    by_test (inr no_is) (zero, within, at) rest =
        subst (λ (m : ℕ). IsFree m old) at (list_free serial old mid l (All-head (IsListed old) l ls all) no_is (λ e. apart (sym at ∙ e)))
    by_test (inr no_is) (suc i, within, at) rest = rest (sym (ap (λ (ns : List ℕ). has ns n) (taken_no serial l ls no_is)) ∙ is) (i, omega (arith, within), at)

-- a front of the lists has no others
pub front_taken : (serial n i : ℕ) (ls : List Listed) → has (taken serial (take i ls)) n ≡ true → has (taken serial ls) n ≡ true
front_taken serial n zero ls is = absurd (let no : ⊥ = cc in no)
front_taken serial n (suc i) [] is = absurd (let no : ⊥ = cc in no)
front_taken serial n (suc i) (l ∷ ls) is = by_test (cases_Bool (is_taken serial l)) (λ it. front_taken serial n i ls it)
  where
    or_right : (a b : Bool) → b ≡ true → (a || b) ≡ true
    or_right true b is = refl
    or_right false b is = is

    by_test : (is_taken serial l ≡ true) ⊎ (is_taken serial l ≡ false) → (has (taken serial (take i ls)) n ≡ true → has (taken serial ls) n ≡ true) → has (taken serial (l ∷ ls)) n ≡ true
    by_test (inl yes_is) rest =
        ap (λ (ns : List ℕ). has ns n) (taken_yes serial l ls yes_is)
        ∙ by_or (or_cases (l.serial == n) (has (taken serial (take i ls)) n) (sym (ap (λ (ns : List ℕ). has ns n) (taken_yes serial l (take i ls) yes_is)) ∙ is))
      where
        by_or : ((l.serial == n) ≡ true) ⊎ (has (taken serial (take i ls)) n ≡ true) → ((l.serial == n) || has (taken serial ls) n) ≡ true
        by_or (inl here) = ap (λ (b : Bool). b || has (taken serial ls) n) here
        by_or (inr more) = or_right (l.serial == n) (has (taken serial ls) n) (rest more)
    by_test (inr no_is) rest =
        ap (λ (ns : List ℕ). has ns n) (taken_no serial l ls no_is) ∙ rest (sym (ap (λ (ns : List ℕ). has ns n) (taken_no serial l (take i ls) no_is)) ∙ is)

pub one_taken : (serial : ℕ) (ls : List Listed) (i : ℕ) (l : Listed) → slice_get ls i ≡ Some l → is_taken serial l ≡ true → has (taken serial ls) l.serial ≡ true
one_taken serial [] i l at is = absurd (let no : ⊥ = cc in no)
one_taken serial (x ∷ xs) zero l at is =
    let same : x ≡ l = same_Some x l at in
    ap (λ (ns : List ℕ). has ns l.serial) (taken_yes serial x xs (ap (is_taken serial) same ∙ is))
    ∙ ap (λ (b : Bool). b || has (taken serial xs) l.serial) (eq-eqb x.serial l.serial (ap (λ (y : Listed). y.serial) same))
one_taken serial (x ∷ xs) (suc i) l at is = by_test (cases_Bool (is_taken serial x)) (one_taken serial xs i l at is)
  where
    or_right : (a b : Bool) → b ≡ true → (a || b) ≡ true
    or_right true b is = refl
    or_right false b is = is

    by_test : (is_taken serial x ≡ true) ⊎ (is_taken serial x ≡ false) → has (taken serial xs) l.serial ≡ true → has (taken serial (x ∷ xs)) l.serial ≡ true
    by_test (inl yes_is) rest = ap (λ (ns : List ℕ). has ns l.serial) (taken_yes serial x xs yes_is) ∙ or_right (x.serial == l.serial) (has (taken serial xs) l.serial) rest
    by_test (inr no_is) rest = ap (λ (ns : List ℕ). has ns l.serial) (taken_no serial x xs no_is) ∙ rest

-- REEL BY REEL
released_block : (o : Option (List (List ℕ))) → ForSome (option_map (λ (bs : List (List ℕ)). take 0 bs ++ zeros ∷ []) o) (λ blocks. blocks ≡ zeros ∷ [])
released_block None = λ blocks is. absurd (none-some blocks is)
released_block (Some bs) = λ blocks is. sym (same_Some (zeros ∷ []) blocks is)

pub is_released_by : (r q : Reel) → unread q ≡ ending 0 zeros (unread r) → IsReleased q
is_released_by r q is = record {
  len = ap (λ (x : Reel). x.len) is;
  block = subst (λ (o : Option (List (List ℕ))). ForSome o (λ blocks. blocks ≡ zeros ∷ [])) (sym (ap (λ (x : Reel). x.blocks) is)) (released_block r.blocks);
}

pub at_other : (s : ℕ) (f : Reel → Reel) (r : Reel) → (s ≡ r.serial → ⊥) → at_serial s f r ≡ r
at_other s f r apart = cond-false (s == r.serial) (f r) r (ne_eqb s r.serial apart)

pub at_this : (s : ℕ) (f : Reel → Reel) (r : Reel) → s ≡ r.serial → at_serial s f r ≡ f r
at_this s f r same = cond-true (s == r.serial) (f r) r (eq-eqb s r.serial same)

-- what a filled reel holds, if it exposes it
abbrev pub IsHeldBy : ℕ → List (List ℕ) → Reel → Reel → Type 0
IsHeldBy serial w r q = q.serial ≡ serial → (blocks : List (List ℕ)) → q.blocks ≡ Some blocks → blocks ≡ w

filled_blocks : (v : List (List ℕ)) (r : Reel) → 0 < length v → (filled v r).blocks ≡ option_map (λ (bs : List (List ℕ)). v) r.blocks
filled_blocks [] r some = absurd (let no : ⊥ = omega (arith, some) in no)
filled_blocks (b ∷ bs) r some = refl

held_in : (v blocks : List (List ℕ)) (x : Option (List (List ℕ))) → option_map (λ (bs : List (List ℕ)). v) x ≡ Some blocks → blocks ≡ v
held_in v blocks None is = absurd (none-some blocks is)
held_in v blocks (Some bs) is = sym (same_Some v blocks is)

-- a failed read leaves the other reels
pub reels_read : (serial : ℕ) (f : Reel → Reel) (old new : Rack) → Becomes (at_serial serial f) old new → AllZip (IsReadBy serial) old.reels new.reels
reels_read serial f old new is = zip_becomes (at_serial serial f) old new (IsReadBy serial) is (λ r q there same.
    elim (eqb_tells serial r.serial) [
      | inl h ↦ inl (sym h.1)
      | inr h ↦ inr (same ∙ at_other serial f (unread r) h.1)
    ])

module _ (serial : ℕ) (old mid : Rack) (lists : List Listed) (listed : AreListed old lists) where
  abbrev ss : List ℕ
  ss = taken serial lists

  on_list : (r : Reel) → Contains old.reels r → Contains (map (λ (l : Listed). l.serial) lists) r.serial
  on_list r there = subst (λ (ns : List ℕ). Contains ns r.serial) (sym listed.serials) (mapped_there (λ (x : Reel). x.serial) old.reels r there)

  never_this : has ss serial ≡ true → ⊥
  never_this is = (has_taken serial serial old mid lists listed.each is).1 refl

  -- all are released
  pub reels_left : (w : List (List ℕ)) (need : ℕ) (new : Rack) → length w ≡ need → 0 < need → Becomes (λ r. released ss (at_serial serial (filled w) r)) old new → AllZip (IsLeftBy serial need old) old.reels new.reels
  reels_left w need new long some is = zip_becomes (λ r. released ss (at_serial serial (filled w) r)) old new (IsLeftBy serial need old) is (λ r q there same. by_reel r q there same (eqb_tells serial r.serial))
    where
      by_reel : (r q : Reel) → Contains old.reels r → unread q ≡ released ss (at_serial serial (filled w) (unread r))
          → (((serial == r.serial) ≡ true) × (serial ≡ r.serial)) ⊎ (((serial == r.serial) ≡ false) × (serial ≡ r.serial → ⊥)) → IsLeftBy serial need old r q
      by_reel r q there same (inl h) =
          let this : unread q ≡ released ss (filled w (unread r)) = same ∙ ap (released ss) (at_this serial (filled w) (unread r) h.1) in
          let named : (filled w (unread r)).serial ≡ serial = filled_serial w (unread r) ∙ sym h.1 in
          let kept : released ss (filled w (unread r)) ≡ filled w (unread r) = not_in (has ss (filled w (unread r)).serial) (λ e. never_this (subst (λ (n : ℕ). has ss n ≡ true) named e)) in
          inl (sym h.1, ap (λ (x : Reel). x.len) (this ∙ kept) ∙ filled_long w (unread r) (omega (arith, long, some)) ∙ long)
        where
          not_in : (b : Bool) → (b ≡ true → ⊥) → (if b then ending 0 zeros (filled w (unread r)) else filled w (unread r)) ≡ filled w (unread r)
          not_in true never = absurd (never refl)
          not_in false never = refl
      by_reel r q there same (inr h) =
          let other : unread q ≡ released ss (unread r) = same ∙ ap (released ss) (at_other serial (filled w) (unread r) h.1) in
          by_has other (cases_Bool (has ss r.serial))
        where
          by_has : unread q ≡ released ss (unread r) → (has ss r.serial ≡ true) ⊎ (has ss r.serial ≡ false) → IsLeftBy serial need old r q
          by_has other (inl yes_is) =
              inr (
                (λ e. h.1 (sym e)),
                inr (
                  (has_taken serial r.serial old mid lists listed.each yes_is).0,
                  is_released_by r q (other ∙ cond-true (has ss r.serial) (ending 0 zeros (unread r)) (unread r) yes_is),
                ),
              )
          by_has other (inr no_is) =
              inr (
                (λ e. h.1 (sym e)),
                inl (
                  has_free serial r.serial old mid lists listed.each (on_list r there) (λ e. h.1 (sym e)) no_is,
                  other ∙ cond-false (has ss r.serial) (ending 0 zeros (unread r)) (unread r) no_is,
                ),
              )

  -- one of them couldn't be
  left_twice : (how : Remains) (r : Reel) → (other : Remains) × (left_by how 0 (ending 0 zeros r) ≡ left_by other 0 r)
  left_twice Unchanged r = (Torn zeros, refl)
  left_twice Shortened r = (Shortened, ap (λ (o : Option (List (List ℕ))). let x : Reel = record r { len = 0; blocks = o } in x) (cut r.blocks))
    where
      cut : (o : Option (List (List ℕ))) → option_map (take 0) (option_map (λ (bs : List (List ℕ)). take 0 bs ++ zeros ∷ []) o) ≡ option_map (take 0) o
      cut None = refl
      cut (Some bs) = refl
  left_twice (Torn block) r = (Torn block, ap (λ (o : Option (List (List ℕ))). let x : Reel = record r { len = 1; blocks = o } in x) (torn r.blocks))
    where
      torn : (o : Option (List (List ℕ))) → option_map (λ (bs : List (List ℕ)). take 0 bs ++ block ∷ []) (option_map (λ (bs : List (List ℕ)). take 0 bs ++ zeros ∷ []) o)
          ≡ option_map (λ (bs : List (List ℕ)). take 0 bs ++ block ∷ []) o
      torn None = refl
      torn (Some bs) = refl

  left_unread : (how : Remains) (k : ℕ) (r : Reel) → left_by how k (unread r) ≡ unread (left_by how k r)
  left_unread Unchanged k r = refl
  left_unread Shortened k r = refl
  left_unread (Torn block) k r = refl

  pub reels_part : (w : List (List ℕ)) (i : ℕ) (l : Listed) (how : Remains) (new : Rack) → slice_get lists i ≡ Some l → is_taken serial l ≡ true
      → Becomes (λ r. at_serial l.serial (left_by how 0) (released (taken serial (take i lists)) (at_serial serial (filled w) r))) old new → AllZip (IsCutBy serial old) old.reels new.reels
  reels_part w i l how new at taken_is is =
      zip_becomes (λ r. at_serial l.serial (left_by how 0) (released part (at_serial serial (filled w) r))) old new (IsCutBy serial old) is (λ r q there same. by_reel r q there same (eqb_tells serial r.serial))
    where
      part : List ℕ
      part = taken serial (take i lists)

      by_reel : (r q : Reel) → Contains old.reels r → unread q ≡ at_serial l.serial (left_by how 0) (released (taken serial (take i lists)) (at_serial serial (filled w) (unread r)))
          → (((serial == r.serial) ≡ true) × (serial ≡ r.serial)) ⊎ (((serial == r.serial) ≡ false) × (serial ≡ r.serial → ⊥)) → IsCutBy serial old r q
      by_reel r q there same (inl h) = inl (sym h.1)
      by_reel r q there same (inr h) =
          by_has (same ∙ ap (λ (x : Reel). at_serial l.serial (left_by how 0) (released (taken serial (take i lists)) x)) (at_other serial (filled w) (unread r) h.1))
          (cases_Bool (has ss r.serial)) (cases_Bool (has (taken serial (take i lists)) r.serial)) (eqb_tells l.serial r.serial)
        where
          apart : r.serial ≡ serial → ⊥
          apart e = h.1 (sym e)

          taken_here : has ss r.serial ≡ true → IsTaken r.serial old
          taken_here yes_is = (has_taken serial r.serial old mid lists listed.each yes_is).0

          by_has : unread q ≡ at_serial l.serial (left_by how 0) (released (taken serial (take i lists)) (unread r)) → (has ss r.serial ≡ true) ⊎ (has ss r.serial ≡ false)
              → (has (taken serial (take i lists)) r.serial ≡ true) ⊎ (has (taken serial (take i lists)) r.serial ≡ false)
              → (((l.serial == r.serial) ≡ true) × (l.serial ≡ r.serial)) ⊎ (((l.serial == r.serial) ≡ false) × (l.serial ≡ r.serial → ⊥)) → IsCutBy serial old r q
          by_has now (inr free) (inl some) at_l = absurd (let e = front_taken serial r.serial i lists some in (let no : ⊥ = cc in no))
          by_has now (inr free) none (inl e) = absurd (let f = subst (λ (n : ℕ). has ss n ≡ true) e.1 (one_taken serial lists i l at taken_is) in (let no : ⊥ = cc in no))
          by_has now (inr free) (inr none) (inr e) =
              let there_is : released (taken serial (take i lists)) (unread r) ≡ unread r = cond-false (has (taken serial (take i lists)) r.serial) (ending 0 zeros (unread r)) (unread r) none in
              inr (
                apart,
                inl (
                  has_free serial r.serial old mid lists listed.each (on_list r there) apart free,
                  now ∙ ap (at_serial l.serial (left_by how 0)) there_is ∙ at_other l.serial (left_by how 0) (unread r) e.1,
                ),
              )
          by_has now (inl some) (inr none) (inl e) =
              let there_is : released (taken serial (take i lists)) (unread r) ≡ unread r = cond-false (has (taken serial (take i lists)) r.serial) (ending 0 zeros (unread r)) (unread r) none in
              inr (apart, inr (taken_here some, inr (inr (how, now ∙ ap (at_serial l.serial (left_by how 0)) there_is ∙ at_this l.serial (left_by how 0) (unread r) e.1 ∙ left_unread how 0 r))))
          by_has now (inl some) (inr none) (inr e) =
              let there_is : released (taken serial (take i lists)) (unread r) ≡ unread r = cond-false (has (taken serial (take i lists)) r.serial) (ending 0 zeros (unread r)) (unread r) none in
              inr (apart, inr (taken_here some, inl (now ∙ ap (at_serial l.serial (left_by how 0)) there_is ∙ at_other l.serial (left_by how 0) (unread r) e.1)))
          by_has now (inl some) (inl gone) (inr e) =
              let there_is : released (taken serial (take i lists)) (unread r) ≡ ending 0 zeros (unread r) = cond-true (has (taken serial (take i lists)) r.serial) (ending 0 zeros (unread r)) (unread r) gone in
              inr (apart, inr (taken_here some, inr (inl (is_released_by r q (now ∙ ap (at_serial l.serial (left_by how 0)) there_is ∙ at_other l.serial (left_by how 0) (ending 0 zeros (unread r)) e.1)))))
          by_has now (inl some) (inl gone) (inl e) =
              let there_is : released (taken serial (take i lists)) (unread r) ≡ ending 0 zeros (unread r) = cond-true (has (taken serial (take i lists)) r.serial) (ending 0 zeros (unread r)) (unread r) gone in
              let (other, as_other) = left_twice how (unread r) in
              inr (apart, inr (taken_here some, inr (inr (other, now ∙ ap (at_serial l.serial (left_by how 0)) there_is ∙ at_this l.serial (left_by how 0) (ending 0 zeros (unread r)) e.1 ∙ as_other ∙ left_unread other 0 r))))

  -- and the reel of the dump holds what was written
  not_in : (w : List (List ℕ)) (r : Reel) (part : List ℕ) → (has part serial ≡ true → ⊥) → serial ≡ r.serial → released part (filled w r) ≡ filled w r
  not_in w r part never named =
      by_has (has part (filled w r).serial) (λ e. never (subst (λ (n : ℕ). has part n ≡ true) (filled_serial w r ∙ sym named) e))
    where
      by_has : (b : Bool) → (b ≡ true → ⊥) → (if b then ending 0 zeros (filled w r) else filled w r) ≡ filled w r
      by_has true absent = absurd (absent refl)
      by_has false absent = refl

  pub part_never : (i : ℕ) → has (taken serial (take i lists)) serial ≡ true → ⊥
  part_never i is = never_this (front_taken serial serial i lists is)

  pub held_left : (w : List (List ℕ)) (r : Reel) → serial ≡ r.serial → released ss (at_serial serial (filled w) r) ≡ filled w r
  held_left w r named = ap (released ss) (at_this serial (filled w) r named) ∙ not_in w r ss never_this named

  pub held_part : (w : List (List ℕ)) (i : ℕ) (l : Listed) (how : Remains) → slice_get lists i ≡ Some l → is_taken serial l ≡ true → (r : Reel) → serial ≡ r.serial
      → at_serial l.serial (left_by how 0) (released (taken serial (take i lists)) (at_serial serial (filled w) r)) ≡ filled w r
  held_part w i l how at taken_is r named =
      ap (λ (x : Reel). at_serial l.serial (left_by how 0) (released (taken serial (take i lists)) x)) (at_this serial (filled w) r named)
      ∙ ap (at_serial l.serial (left_by how 0)) (not_in w r (taken serial (take i lists)) (part_never i) named)
      ∙ at_other l.serial (left_by how 0) (filled w r) (λ e.
      never_this (subst (λ (n : ℕ). has ss n ≡ true) (e ∙ filled_serial w r ∙ sym named) (one_taken serial lists i l at taken_is)))

-- what a reel holds that was filled last
pub reels_held : (serial : ℕ) (F : Reel → Reel) (w : List (List ℕ)) (old new : Rack) → 0 < length w → ((r : Reel) → (F r).serial ≡ r.serial) → ((r : Reel) → serial ≡ r.serial → F r ≡ filled w r)
    → Becomes F old new → AllZip (IsHeldBy serial w) old.reels new.reels
reels_held serial F w old new some keeps fills is = zip_becomes F old new (IsHeldBy serial w) is (λ r q there same named blocks told.
    let here : serial ≡ (unread r).serial = sym named ∙ ap (λ (x : Reel). x.serial) same ∙ keeps (unread r) in
    held_in w blocks r.blocks (sym (filled_blocks w (unread r) some) ∙ sym (ap (λ (x : Reel). x.blocks) (same ∙ fills (unread r) here)) ∙ told))

-- TWO COMMITS
pub two_rise : (m n a b c : ℕ) → RoseBy m a b → RoseBy n b c → RoseBy (m + n) a c
two_rise m n a b c one two = record {
  exactly = λ low.
      let x = one.exactly (omega (arith, low)) in
      let y = two.exactly (omega (arith, low, x)) in
      omega (arith, x, y);
}

pub two_commits : (a b c : Layout) (m n : ℕ) → Commits 1 a b m → Commits 1 b c n → Commits 2 a c (m + n)
two_commits a b c m n (mid, x, y, done, (same, none), sum) two =
    (mid, x, n, done, subst (λ (l : Layout). Commits 1 l c n) same two, (let e : m + n ≡ x + n = omega (arith, none, sum) in e))

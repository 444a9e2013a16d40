-- The rows of the state after PROCESS: of the reel that was written, and of those that were released.
-- serves: MovedLemmas, ProcessedStepLemmas
use Rattle.std.proofs.Common.{◌≡◌, ◌≢◌, ℕ, suc, ◌+◌, ◌<◌, ◌≤◌, ◌==◌, Bool, true, false, List, [], ◌∷◌, ◌++◌, map, Option, Some, None, refl, sym, ◌∙◌, ap, arith, subst, inl, inr}
use Rattle.std.specs.Prelude.{◌⊎◌, ◌&&◌, AllPairs, Contains, if◌then◌else◌, nat_lt, not}
use Rattle.std.specs.List.{AllZip}
use Rattle.std.proofs.lemmas.Bool.{cond-false, cond-true, eq-eqb, le-ltb, lt-ltb, ne_eqb}
use Rattle.std.proofs.lemmas.Bool.Decides.{eqb_tells}
use Rattle.std.proofs.lemmas.List.{map-append}
use Rattle.std.proofs.lemmas.Option.{none-some, same_Some}
use Rattle.g_base.proofs.KeyLemmas.{AreApart-rising, change_key-map}
use Rattle.g_tape.specs.Rack.{Rack, reel}
use Rattle.g_tape.specs.Reads.{unread}
use Rattle.g_tape.specs.Reel.{Reel}
use Rattle.g_incr.specs.Layout.{Dump}
use Rattle.g_store_model.specs.State as state
use Rattle.g_store_model.specs.DumpSteps.{with_shelved, with_used}
use Rattle.g_store_model.specs.Process.{released_before}
use Rattle.g_store_model.specs.Rising.{has_none}
use Rattle.g_store_meaning.specs.Reading.{row_of, shelved_of}
use Rattle.g_store_meaning.specs.StoreInvariant.{with_dump}
use Rattle.g_process.specs.Exits.{IsBesideDump, IsClearedBy, IsReadBy, cleared}
use Rattle.g_process.specs.ProcessPlan.{IsFree, IsTaken}
use Rattle.g_process.proofs.ExitLemmas.{found_itself, two_true}
use Rattle.g_process.proofs.ReleaseLemmas.{AreApart}

-- a reel isn't below a bound that leaves it out
pub no_and : (a b : Bool) → b ≡ false → (a && b) ≡ false
no_and true false is = refl
no_and false false is = refl
no_and a true is = absurd (let no : ⊥ = cc in no)

pub below_this : (serial until : ℕ) → (nat_lt serial until && not (serial == serial)) ≡ false
below_this serial until = no_and (nat_lt serial until) (not (serial == serial)) (ap not (eq-eqb serial serial refl))

abbrev Below : ℕ → ℕ → Type 0
Below m n = m < n

abbrev serials : List Reel → List ℕ
serials reels = map (λ (r : Reel). r.serial) reels

abbrev names : List state.ReelRow → List ℕ
names rows = map (λ (r : state.ReelRow). r.serial) rows

abbrev pub rows : (ℕ → List Dump) → List Reel → List state.ReelRow
rows shelf reels = map (row_of shelf) (map unread reels)

-- ONE ROW CHANGED, as a map
abbrev pub at_row : ℕ → (state.ReelRow → state.ReelRow) → state.ReelRow → state.ReelRow
at_row n g r = if n == r.serial then g r else r

with_as_map : (n : ℕ) (g : state.ReelRow → state.ReelRow) (rs : List state.ReelRow) → AllPairs Below (names rs) → state.with_reel n g rs ≡ map (at_row n g) rs
with_as_map n g rs rising =
    change_key-map (λ (r : state.ReelRow). r.serial) n g (at_row n g)
    (λ r is. sym (cond-true (n == r.serial) (g r) r (eq-eqb n r.serial (sym is)))) (λ r off. sym (cond-false (n == r.serial) (g r) r (ne_eqb n r.serial (λ is. off (sym is))))) rs
    (AreApart-rising (λ (r : state.ReelRow). r.serial) rs rising)

row_names : (shelf : ℕ → List Dump) (xs : List Reel) → names (rows shelf xs) ≡ serials xs
row_names shelf [] = refl
row_names shelf (x ∷ xs) = ap (λ (ns : List ℕ). x.serial ∷ ns) (row_names shelf xs)

map_names : (f : state.ReelRow → state.ReelRow) → ((r : state.ReelRow) → (f r).serial ≡ r.serial) → (rs : List state.ReelRow) → names (map f rs) ≡ names rs
map_names f keeps [] = refl
map_names f keeps (r ∷ rs) = ap (λ (n : ℕ). n ∷ names (map f rs)) (keeps r) ∙ ap (λ (ns : List ℕ). r.serial ∷ ns) (map_names f keeps rs)

map_twice : (f g : state.ReelRow → state.ReelRow) (rs : List state.ReelRow) → map f (map g rs) ≡ map (λ (r : state.ReelRow). f (g r)) rs
map_twice f g [] = refl
map_twice f g (r ∷ rs) = ap (λ (xs : List state.ReelRow). f (g r) ∷ xs) (map_twice f g rs)

zip_rows : (G : state.ReelRow → state.ReelRow) (shelf next : ℕ → List Dump) (xs ys : List Reel) → AllZip (λ r q. row_of next (unread q) ≡ G (row_of shelf (unread r))) xs ys
    → rows next ys ≡ map G (rows shelf xs)
zip_rows G shelf next [] [] zip = refl
zip_rows G shelf next [] (y ∷ ys) zip = absurd zip
zip_rows G shelf next (x ∷ xs) [] zip = absurd zip
zip_rows G shelf next (x ∷ xs) (y ∷ ys) (one, zip) =
    ap (λ (r : state.ReelRow). r ∷ rows next ys) one ∙ ap (λ (rs : List state.ReelRow). G (row_of shelf (unread x)) ∷ rs) (zip_rows G shelf next xs ys zip)

-- reel by reel
abbrev pub IsLabelled : Reel → Reel → Type 0
IsLabelled o n = (n.serial ≡ o.serial) × (n.capacity ≡ o.capacity) × (n.mounted ≡ o.mounted)

zip_with : (P R : Reel → Reel → Type 0) (xs ys : List Reel) → ((r q : Reel) → Contains xs r → Contains ys q → IsLabelled r q → P r q → R r q) → AllZip IsLabelled xs ys → AllZip P xs ys → AllZip R xs ys
zip_with P R [] [] make labels zip = tt
zip_with P R [] (y ∷ ys) make labels zip = absurd zip
zip_with P R (x ∷ xs) [] make labels zip = absurd zip
zip_with P R (x ∷ xs) (y ∷ ys) make (label, labels) (one, zip) = (
  make x y (0, omega arith, refl) (0, omega arith, refl) label one,
  zip_with P R xs ys (λ r q in_xs in_ys. make r q (later x xs r in_xs) (later y ys q in_ys)) labels zip,
)
  where
    later : (z : Reel) (zs : List Reel) (r : Reel) → Contains zs r → Contains (z ∷ zs) r
    later z zs r (i, within, is) = (suc i, omega (arith, within), is)

-- A ROW by its parts
row_by : ℕ → ℕ → Bool → Bool → List state.Shelved → state.ReelRow
row_by serial capacity mounted used dumps = record { serial = serial; capacity = capacity; mounted = mounted; used = used; dumps = dumps }

abbrev pub used_in : Option Reel → Bool
used_in None = false
used_in (Some r) = nat_lt 0 r.len

module _ (serial : ℕ) (old new : Rack) (rising : AllPairs Below (serials old.reels)) (apart : AreApart new.reels) (labels : AllZip IsLabelled old.reels new.reels) (shelf : ℕ → List Dump) where
  row_rising : AllPairs Below (names (rows shelf old.reels))
  row_rising = subst (AllPairs Below) (sym (row_names shelf old.reels)) rising

  -- a reel's row, if it has its labels still
  row_is : (next : ℕ → List Dump) (r q : Reel) → IsLabelled r q → (b : Bool) → nat_lt 0 q.len ≡ b → (dumps : List state.Shelved) → map shelved_of (next r.serial) ≡ dumps
      → row_of next (unread q) ≡ record { serial = r.serial; capacity = r.capacity; mounted = r.mounted; used = b; dumps = dumps }
  unfolding row_by
  row_is next r q label b used dumps are =
      λ i. row_by (label.0 i) (label.1 i) (label.2 i) (used i) ((ap (λ (n : ℕ). map shelved_of (next n)) label.0 ∙ are) i)

  used_there : (q : Reel) → Contains new.reels q → (n : ℕ) → q.serial ≡ n → nat_lt 0 q.len ≡ used_in (reel n new.reels)
  used_there q there n named = sym (ap used_in (ap (λ (m : ℕ). reel m new.reels) (sym named) ∙ found_itself new.reels q apart there))

  -- NO DUMP MORE on the reel that was written
  abbrev pub used_now : Bool
  used_now = used_in (reel serial new.reels)

  pub rows_read : AllZip (IsReadBy serial) old.reels new.reels → rows shelf new.reels ≡ state.with_reel serial (with_used used_now) (rows shelf old.reels)
  rows_read zip =
      zip_rows (at_row serial (with_used used_now)) shelf shelf old.reels new.reels
      (zip_with (IsReadBy serial) (λ r q. row_of shelf (unread q) ≡ at_row serial (with_used used_now) (row_of shelf (unread r))) old.reels new.reels
      (λ r q in_old in_new label one. by_serial r q in_new label one (eqb_tells serial r.serial)) labels zip)
      ∙ sym (with_as_map serial (with_used used_now) (rows shelf old.reels) row_rising)
    where
      by_serial : (r q : Reel) → Contains new.reels q → IsLabelled r q → IsReadBy serial r q → (((serial == r.serial) ≡ true) × (serial ≡ r.serial)) ⊎ (((serial == r.serial) ≡ false) × (serial ≡ r.serial → ⊥))
          → row_of shelf (unread q) ≡ at_row serial (with_used used_now) (row_of shelf (unread r))
      by_serial r q in_new label one (inl h) =
          row_is shelf r q label used_now (used_there q in_new serial (label.0 ∙ sym h.1)) (map shelved_of (shelf r.serial)) refl
          ∙ sym (cond-true (serial == r.serial) (with_used used_now (row_of shelf (unread r))) (row_of shelf (unread r)) h.0)
      by_serial r q in_new label (inl this) (inr h) = absurd (h.1 (sym this))
      by_serial r q in_new label (inr same) (inr h) = ap (row_of shelf) same ∙ sym (cond-false (serial == r.serial) (with_used used_now (row_of shelf (unread r))) (row_of shelf (unread r)) h.0)

  -- the new dump lies on it
  module _ (made : Dump) (named : made.serial ≡ serial) (x : state.Shelved) (shelved : shelved_of made ≡ x) where
    abbrev marks : state.ReelRow → state.ReelRow
    marks r = with_used true (with_shelved x r)

    dumps_with : (n : ℕ) → n ≡ serial → map shelved_of (with_dump made shelf n) ≡ map shelved_of (shelf n) ++ x ∷ []
    dumps_with n is =
        ap (map shelved_of) (cond-true (n == made.serial) (shelf n ++ made ∷ []) (shelf n) (eq-eqb n made.serial (is ∙ sym named)))
        ∙ map-append shelved_of (shelf n) (made ∷ []) ∙ ap (λ (s : state.Shelved). map shelved_of (shelf n) ++ s ∷ []) shelved

    others_same : (n : ℕ) → (n ≡ serial → ⊥) → with_dump made shelf n ≡ shelf n
    others_same n other = cond-false (n == made.serial) (shelf n ++ made ∷ []) (shelf n) (ne_eqb n made.serial (λ e. other (e ∙ named)))

    same_row : (next : ℕ → List Dump) (r q : Reel) → unread q ≡ unread r → next r.serial ≡ shelf r.serial → row_of next (unread q) ≡ row_of shelf (unread r)
    unfolding row_by
    same_row next r q same is = ap (row_of next) same ∙ ap (λ (ds : List Dump). row_by r.serial r.capacity r.mounted (nat_lt 0 r.len) (map shelved_of ds)) is

    pub rows_marked : AllZip (IsBesideDump serial) old.reels new.reels → rows (with_dump made shelf) new.reels ≡ state.with_reel serial marks (rows shelf old.reels)
    rows_marked zip =
        zip_rows (at_row serial marks) shelf (with_dump made shelf) old.reels new.reels
        (zip_with (IsBesideDump serial) (λ r q. row_of (with_dump made shelf) (unread q) ≡ at_row serial marks (row_of shelf (unread r))) old.reels new.reels
        (λ r q in_old in_new label one. by_case r q label one) labels zip)
        ∙ sym (with_as_map serial marks (rows shelf old.reels) row_rising)
      where
        by_case : (r q : Reel) → IsLabelled r q → IsBesideDump serial r q → row_of (with_dump made shelf) (unread q) ≡ at_row serial marks (row_of shelf (unread r))
        by_case r q label (inl (this, some)) =
            row_is (with_dump made shelf) r q label true (lt-ltb 0 q.len some) (map shelved_of (shelf r.serial) ++ x ∷ []) (dumps_with r.serial this)
            ∙ sym (cond-true (serial == r.serial) (marks (row_of shelf (unread r))) (row_of shelf (unread r)) (eq-eqb serial r.serial (sym this)))
        by_case r q label (inr (other, same)) =
            same_row (with_dump made shelf) r q same (others_same r.serial other)
            ∙ sym (cond-false (serial == r.serial) (marks (row_of shelf (unread r))) (row_of shelf (unread r)) (ne_eqb serial r.serial (λ e. other (sym e))))

    -- AND REELS ARE RELEASED, up to a serial
    module _ (until : ℕ) (cut : Option ℕ) (none_at : (r : Reel) → Contains old.reels r → IsFree r.serial old → shelf r.serial ≡ [])
        (some_at : (r : Reel) → Contains old.reels r → IsTaken r.serial old → (shelf r.serial ≡ [] → ⊥) × (0 < r.len)) where
      abbrev next : ℕ → List Dump
      next = cleared serial until (with_dump made shelf)

      abbrev frees : state.ReelRow → state.ReelRow
      frees r = released_before serial until (at_row serial marks r)

      first_no : (a b : Bool) → a ≡ false → (a && b) ≡ false
      first_no false b is = refl
      first_no true b is = absurd (let no : ⊥ = cc in no)

      here_next : (n : ℕ) → n ≡ serial → next n ≡ with_dump made shelf n
      here_next n is = cond-false (nat_lt n until && not (n == serial)) [] (with_dump made shelf n) (no_and (nat_lt n until) (not (n == serial)) (ap not (eq-eqb n serial is)))

      above_next : (n : ℕ) → until ≤ n → (n ≡ serial → ⊥) → next n ≡ shelf n
      above_next n most other =
          cond-false (nat_lt n until && not (n == serial)) [] (with_dump made shelf n) (first_no (nat_lt n until) (not (n == serial)) (le-ltb n until most)) ∙ others_same n other

      below_next : (n : ℕ) → n < until → (n ≡ serial → ⊥) → next n ≡ []
      below_next n less other =
          cond-true (nat_lt n until && not (n == serial)) [] (with_dump made shelf n) (two_true (nat_lt n until) (not (n == serial)) (lt-ltb n until less) (ap not (ne_eqb n serial other)))

      -- a row with dumps or without
      none_row : (r : Reel) → shelf r.serial ≡ [] → has_none (row_of shelf (unread r)) ≡ true
      none_row r is = ap (λ (ds : List Dump). has_none (row_of (λ n. ds) (unread r))) is

      some_row : (r : Reel) (ds : List Dump) → shelf r.serial ≡ ds → (ds ≡ [] → ⊥) → has_none (row_of shelf (unread r)) ≡ false
      some_row r [] is isnt = absurd (isnt refl)
      some_row r (d ∷ ds) is isnt = ap (λ (es : List Dump). has_none (row_of (λ n. es) (unread r))) is

      as_was : (r : Reel) → (r.serial ≡ serial → ⊥) → at_row serial marks (row_of shelf (unread r)) ≡ row_of shelf (unread r)
      as_was r other = cond-false (serial == r.serial) (marks (row_of shelf (unread r))) (row_of shelf (unread r)) (ne_eqb serial r.serial (λ e. other (sym e)))

      frees_kept : (r : Reel) → (r.serial ≡ serial → ⊥) → (nat_lt r.serial until && not (r.serial == serial) && not (has_none (row_of shelf (unread r)))) ≡ false
          → frees (row_of shelf (unread r)) ≡ row_of shelf (unread r)
      frees_kept r other isnt =
          ap (released_before serial until) (as_was r other)
          ∙ cond-false (nat_lt r.serial until && not (r.serial == serial) && not (has_none (row_of shelf (unread r)))) (without_dumps (row_of shelf (unread r))) (row_of shelf (unread r)) isnt
        where
          without_dumps : state.ReelRow → state.ReelRow
          without_dumps row = record row { dumps = [] }

      frees_gone : (r : Reel) → (r.serial ≡ serial → ⊥) → r.serial < until → (shelf r.serial ≡ [] → ⊥) → 0 < r.len
          → frees (row_of shelf (unread r)) ≡ record { serial = r.serial; capacity = r.capacity; mounted = r.mounted; used = true; dumps = [] }
      unfolding row_by
      frees_gone r other less some long =
          ap (released_before serial until) (as_was r other)
          ∙ cond-true (nat_lt r.serial until && not (r.serial == serial) && not (has_none (row_of shelf (unread r)))) (row_by r.serial r.capacity r.mounted (nat_lt 0 r.len) []) (row_of shelf (unread r))
          (two_true (nat_lt r.serial until && not (r.serial == serial)) (not (has_none (row_of shelf (unread r))))
          (two_true (nat_lt r.serial until) (not (r.serial == serial)) (lt-ltb r.serial until less) (ap not (ne_eqb r.serial serial other)))
          (ap not (some_row r (shelf r.serial) refl some)))
          ∙ ap (λ (b : Bool). row_by r.serial r.capacity r.mounted b []) (lt-ltb 0 r.len long)

      -- the reel of the new dump
      this_row : (r q : Reel) → IsLabelled r q → r.serial ≡ serial → 0 < q.len → row_of next (unread q) ≡ frees (row_of shelf (unread r))
      this_row r q label this some =
          row_is next r q label true (lt-ltb 0 q.len some) (map shelved_of (shelf r.serial) ++ x ∷ []) (ap (map shelved_of) (here_next r.serial this) ∙ dumps_with r.serial this)
          ∙ sym (ap (released_before serial until) (cond-true (serial == r.serial) (marks (row_of shelf (unread r))) (row_of shelf (unread r)) (eq-eqb serial r.serial (sym this)))
          ∙ cond-false (nat_lt r.serial until && not (r.serial == serial) && not (has_none (marks (row_of shelf (unread r))))) (record (marks (row_of shelf (unread r))) { dumps = [] }) (marks (row_of shelf (unread r)))
          (first_no (nat_lt r.serial until && not (r.serial == serial)) (not (has_none (marks (row_of shelf (unread r)))))
          (no_and (nat_lt r.serial until) (not (r.serial == serial)) (ap not (eq-eqb r.serial serial this)))))

      -- a reel that is unchanged
      kept_row : (r q : Reel) → (r.serial ≡ serial → ⊥) → unread q ≡ unread r → (until ≤ r.serial) ⊎ ((r.serial < until) × (shelf r.serial ≡ [])) → row_of next (unread q) ≡ frees (row_of shelf (unread r))
      kept_row r q other same (inl most) =
          same_row next r q same (above_next r.serial most other)
          ∙ sym (frees_kept r other (first_no (nat_lt r.serial until && not (r.serial == serial)) (not (has_none (row_of shelf (unread r)))) (first_no (nat_lt r.serial until) (not (r.serial == serial)) (le-ltb r.serial until most))))
      kept_row r q other same (inr (less, none)) =
          same_row next r q same (below_next r.serial less other ∙ sym none)
          ∙ sym (frees_kept r other (no_and (nat_lt r.serial until && not (r.serial == serial)) (not (has_none (row_of shelf (unread r)))) (ap not (none_row r none))))

      -- one that was released, with a block or without one
      gone_row : (r q : Reel) → IsLabelled r q → (r.serial ≡ serial → ⊥) → r.serial < until → (b : Bool) → nat_lt 0 q.len ≡ b
          → row_of next (unread q) ≡ record { serial = r.serial; capacity = r.capacity; mounted = r.mounted; used = b; dumps = [] }
      gone_row r q label other less b used = row_is next r q label b used [] (ap (map shelved_of) (below_next r.serial less other))

      frees_names : (r : state.ReelRow) → (frees r).serial ≡ r.serial
      frees_names r = by_both (serial == r.serial)
        where
          by_test : (b : Bool) (row : state.ReelRow) → (if b then record row { dumps = [] } else row).serial ≡ row.serial
          by_test true row = refl
          by_test false row = refl

          by_both : (b : Bool) → (released_before serial until (if b then marks r else r)).serial ≡ r.serial
          by_both true = by_test (nat_lt (marks r).serial until && not ((marks r).serial == serial) && not (has_none (marks r))) (marks r)
          by_both false = by_test (nat_lt r.serial until && not (r.serial == serial) && not (has_none r)) r

      freed_rows : map frees (rows shelf old.reels) ≡ map (released_before serial until) (state.with_reel serial marks (rows shelf old.reels))
      freed_rows =
          sym (map_twice (released_before serial until) (at_row serial marks) (rows shelf old.reels))
          ∙ ap (map (released_before serial until)) (sym (with_as_map serial marks (rows shelf old.reels) row_rising))

      -- no release was cut
      pub rows_cleared : cut ≡ None → AllZip (IsClearedBy serial until cut old) old.reels new.reels → rows next new.reels ≡ map (released_before serial until) (state.with_reel serial marks (rows shelf old.reels))
      rows_cleared none zip =
          zip_rows frees shelf next old.reels new.reels
          (zip_with (IsClearedBy serial until cut old) (λ r q. row_of next (unread q) ≡ frees (row_of shelf (unread r))) old.reels new.reels
          (λ r q in_old in_new label one. by_case r q in_old label one) labels zip)
          ∙ freed_rows
        where
          by_case : (r q : Reel) → Contains old.reels r → IsLabelled r q → IsClearedBy serial until cut old r q → row_of next (unread q) ≡ frees (row_of shelf (unread r))
          by_case r q in_old label (inl (this, some)) = this_row r q label this some
          by_case r q in_old label (inr (other, inl (most, same))) = kept_row r q other same (inl most)
          by_case r q in_old label (inr (other, inr (less, inl (free, same)))) = kept_row r q other same (inr (less, none_at r in_old free))
          by_case r q in_old label (inr (other, inr (less, inr (taken, inl some)))) =
              gone_row r q label other less true (lt-ltb 0 q.len some) ∙ sym (frees_gone r other less (some_at r in_old taken).0 (some_at r in_old taken).1)
          by_case r q in_old label (inr (other, inr (less, inr (taken, inr is)))) = absurd (none-some r.serial (sym none ∙ is))

      -- the last one was
      pub rows_cut : (n : ℕ) → cut ≡ Some n → until ≡ n + 1 → n ≢ serial → IsTaken n old → AllZip (IsClearedBy serial until cut old) old.reels new.reels
          → rows next new.reels ≡ state.with_reel n (with_used (used_in (reel n new.reels))) (map (released_before serial until) (state.with_reel serial marks (rows shelf old.reels)))
      rows_cut n cut_is until_is apart_n taken_n zip =
          zip_rows (λ r. at_row n cuts (frees r)) shelf next old.reels new.reels
          (zip_with (IsClearedBy serial until cut old) (λ r q. row_of next (unread q) ≡ at_row n cuts (frees (row_of shelf (unread r)))) old.reels new.reels
          (λ r q in_old in_new label one. by_name r q in_old in_new label one (eqb_tells n r.serial)) labels zip)
          ∙ sym (map_twice (at_row n cuts) frees (rows shelf old.reels))
          ∙ sym (with_as_map n cuts (map frees (rows shelf old.reels)) (subst (AllPairs Below) (sym (map_names frees frees_names (rows shelf old.reels))) row_rising))
          ∙ ap (state.with_reel n cuts) freed_rows
        where
          cuts : state.ReelRow → state.ReelRow
          cuts = with_used (used_in (reel n new.reels))

          named_n : (r : Reel) → (n == r.serial) ≡ true → at_row n cuts (frees (row_of shelf (unread r))) ≡ cuts (frees (row_of shelf (unread r)))
          named_n r is = cond-true (n == (frees (row_of shelf (unread r))).serial) (cuts (frees (row_of shelf (unread r)))) (frees (row_of shelf (unread r))) (ap (λ (m : ℕ). n == m) (frees_names (row_of shelf (unread r))) ∙ is)

          not_n : (r : Reel) → (n == r.serial) ≡ false → at_row n cuts (frees (row_of shelf (unread r))) ≡ frees (row_of shelf (unread r))
          not_n r isnt = cond-false (n == (frees (row_of shelf (unread r))).serial) (cuts (frees (row_of shelf (unread r)))) (frees (row_of shelf (unread r))) (ap (λ (m : ℕ). n == m) (frees_names (row_of shelf (unread r))) ∙ isnt)

          other_case : (r q : Reel) → Contains old.reels r → IsLabelled r q → (n ≡ r.serial → ⊥) → IsClearedBy serial until cut old r q → row_of next (unread q) ≡ frees (row_of shelf (unread r))
          other_case r q in_old label isnt (inl (this, some)) = this_row r q label this some
          other_case r q in_old label isnt (inr (other, inl (most, same))) = kept_row r q other same (inl most)
          other_case r q in_old label isnt (inr (other, inr (less, inl (free, same)))) = kept_row r q other same (inr (less, none_at r in_old free))
          other_case r q in_old label isnt (inr (other, inr (less, inr (taken, inl some)))) =
              gone_row r q label other less true (lt-ltb 0 q.len some) ∙ sym (frees_gone r other less (some_at r in_old taken).0 (some_at r in_old taken).1)
          other_case r q in_old label isnt (inr (other, inr (less, inr (taken, inr is)))) = absurd (isnt (same_Some n r.serial (sym cut_is ∙ is)))

          by_name : (r q : Reel) → Contains old.reels r → Contains new.reels q → IsLabelled r q → IsClearedBy serial until cut old r q
              → (((n == r.serial) ≡ true) × (n ≡ r.serial)) ⊎ (((n == r.serial) ≡ false) × (n ≡ r.serial → ⊥)) → row_of next (unread q) ≡ at_row n cuts (frees (row_of shelf (unread r)))
          by_name r q in_old in_new label one (inr h) = other_case r q in_old label h.1 one ∙ sym (not_n r h.0)
          by_name r q in_old in_new label one (inl h) =
              let taken = subst (λ (m : ℕ). IsTaken m old) h.1 taken_n in
              let other : r.serial ≡ serial → ⊥ = λ e. apart_n (h.1 ∙ e) in
              let less : r.serial < until = (let e = h.1 in omega (arith, e, until_is)) in
              gone_row r q label other less (used_in (reel n new.reels)) (used_there q in_new n (label.0 ∙ sym h.1))
              ∙ ap cuts (sym (frees_gone r other less (some_at r in_old taken).0 (some_at r in_old taken).1))
              ∙ sym (named_n r h.0)

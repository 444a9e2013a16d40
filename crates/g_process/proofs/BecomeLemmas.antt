-- What became of each reel, but for reads; and that serials, capacities and mountings never change.
-- serves: release, AnswerLemmas, BelongLemmas, CarryLemmas, DoneLemmas, EndLemmas, ExitLemmas, LossLemmas, PrepareLemmas, ProcessLemmas, crates above
use Rattle.std.proofs.Common.{◌≡◌, ℕ, zero, suc, ◌≤◌, ◌==◌, Bool, true, false, List, [], ◌∷◌, ◌++◌, map, take, Option, Some, None, refl, sym, ◌∙◌, ap, arith, inl, inr, option_map, if◌then◌else◌, eq-eqb}
use Rattle.std.specs.Prelude.{All, Contains, is_some}
use Rattle.std.specs.List.{AllZip}
use Rattle.std.specs.List.Sorted.{IsStrictlyIncreasing}
use Rattle.std.proofs.lemmas.Bool.{cond-false, cond-true, ne_eqb}
use Rattle.std.proofs.lemmas.Bool.Decides.{eqb_tells}
use Rattle.std.proofs.lemmas.List.Elements.{All-head, All-tail}
use Rattle.std.proofs.lemmas.List.Kept.{AllPairs-from_increasing}
use Rattle.g_base.proofs.KeyLemmas.{AreApart-rising, change_key-map, map-change_same}
use Rattle.g_tape.specs.Rack.{Rack, changed, reel, with_reel}
use Rattle.g_tape.specs.Reads.{count_at, time_of, times_in, unread}
use Rattle.g_tape.specs.Reel.{Reel, Remains, Shortened, Torn, Unchanged, ending, left_by}
use Rattle.g_disc_contents.specs.Contents.{has}
use Rattle.g_process.specs.Releases.{AreReleased, released, zeros}
use Rattle.g_process.specs.Progress.{IsBeside, filled}
use Rattle.g_process.proofs.ReelLemmas.{times_changed, unread_filled}
use Rattle.g_process.proofs.ReleaseLemmas.{AreApart}

-- LABELS
abbrev pub label : Reel → ℕ × ℕ × Bool × Bool
label r = (r.serial, r.capacity, r.mounted, is_some r.blocks)

abbrev pub labels : List Reel → List (ℕ × ℕ × Bool × Bool)
labels rs = map label rs

labels_unread : (rs : List Reel) → labels (map unread rs) ≡ labels rs
labels_unread [] = refl
labels_unread (r ∷ rs) = ap (λ (ls : List (ℕ × ℕ × Bool × Bool)). label r ∷ ls) (labels_unread rs)

pub labels_with : (s : ℕ) (f : Reel → Reel) → ((r : Reel) → label (f r) ≡ label r) → (rs : List Reel) → labels (with_reel s f rs) ≡ labels rs
labels_with s f same rs = map-change_same (λ (r : Reel). s == r.serial) f label same rs

mapped_some : (f : List (List ℕ) → List (List ℕ)) (o : Option (List (List ℕ))) → is_some (option_map f o) ≡ is_some o
mapped_some f None = refl
mapped_some f (Some x) = refl

pub label_filled : (w : List (List ℕ)) (r : Reel) → label (filled w r) ≡ label r
label_filled [] r = refl
label_filled (b ∷ bs) r = ap (λ (t : Bool). (r.serial, r.capacity, r.mounted, t)) (mapped_some (λ (x : List (List ℕ)). b ∷ bs) r.blocks)

pub label_left : (how : Remains) (k : ℕ) (r : Reel) → label (left_by how k r) ≡ label r
label_left Unchanged k r = refl
label_left Shortened k r = ap (λ (t : Bool). (r.serial, r.capacity, r.mounted, t)) (mapped_some (take k) r.blocks)
label_left (Torn block) k r = ap (λ (t : Bool). (r.serial, r.capacity, r.mounted, t)) (mapped_some (λ (bs : List (List ℕ)). take k bs ++ block ∷ []) r.blocks)

label_released : (ss : List ℕ) (r : Reel) → label (released ss r) ≡ label r
label_released ss r = by_case (has ss r.serial)
  where
    by_case : (b : Bool) → label (if b then ending 0 zeros r else r) ≡ label r
    by_case true = ap (λ (t : Bool). (r.serial, r.capacity, r.mounted, t)) (mapped_some (λ (bs : List (List ℕ)). take 0 bs ++ zeros ∷ []) r.blocks)
    by_case false = refl

labels_map : (f : Reel → Reel) → ((r : Reel) → label (f r) ≡ label r) → (rs : List Reel) → labels (map f rs) ≡ labels rs
labels_map f same [] = refl
labels_map f same (r ∷ rs) = ap (λ (l : ℕ × ℕ × Bool × Bool). l ∷ labels (map f rs)) (same r) ∙ ap (λ (ls : List (ℕ × ℕ × Bool × Bool)). label r ∷ ls) (labels_map f same rs)

pub labels_reads : (old new : Rack) → map unread new.reels ≡ map unread old.reels → labels new.reels ≡ labels old.reels
labels_reads old new same = sym (labels_unread new.reels) ∙ ap labels same ∙ labels_unread old.reels

pub labels_beside : (s : ℕ) (w : List (List ℕ)) (old new : Rack) → IsBeside (changed s (filled w) old) new → labels new.reels ≡ labels old.reels
labels_beside s w old new so = sym (labels_unread new.reels) ∙ ap labels so.reels ∙ labels_unread (with_reel s (filled w) old.reels) ∙ labels_with s (filled w) (label_filled w) old.reels

pub labels_changed : (s : ℕ) (f : Reel → Reel) → ((r : Reel) → label (f r) ≡ label r) → (old new : Rack) → new.reels ≡ with_reel s f old.reels → labels new.reels ≡ labels old.reels
labels_changed s f same old new is = ap labels is ∙ labels_with s f same old.reels

pub labels_released : (ss : List ℕ) (old new : Rack) → AreReleased ss old new → labels new.reels ≡ labels old.reels
labels_released ss old new is = ap (λ (x : Rack). labels x.reels) is ∙ labels_map (released ss) (label_released ss) old.reels

pub zip_labels : (xs ys : List Reel) → labels ys ≡ labels xs → AllZip (λ (o n : Reel). (n.serial ≡ o.serial) × (n.capacity ≡ o.capacity) × (n.mounted ≡ o.mounted)) xs ys
zip_labels [] [] same = tt
zip_labels [] (y ∷ ys) same = absurd (let no : ⊥ = cc in no)
zip_labels (x ∷ xs) [] same = absurd (let no : ⊥ = cc in no)
zip_labels (x ∷ xs) (y ∷ ys) same =
    let here : label y ≡ label x = cc in
    let rest : labels ys ≡ labels xs = cc in
    ((ap (λ (l : ℕ × ℕ × Bool × Bool). l.0) here, ap (λ (l : ℕ × ℕ × Bool × Bool). l.1) here, ap (λ (l : ℕ × ℕ × Bool × Bool). l.2) here), zip_labels xs ys rest)

-- so those of the one are those of the other
serials_of : (rs : List Reel) → map (λ (r : Reel). r.serial) rs ≡ map (λ (l : ℕ × ℕ × Bool × Bool). l.0) (labels rs)
serials_of [] = refl
serials_of (r ∷ rs) = ap (λ (ns : List ℕ). r.serial ∷ ns) (serials_of rs)

pub same_serials : (xs ys : List Reel) → labels ys ≡ labels xs → map (λ (r : Reel). r.serial) ys ≡ map (λ (r : Reel). r.serial) xs
same_serials xs ys same = serials_of ys ∙ ap (map (λ (l : ℕ × ℕ × Bool × Bool). l.0)) same ∙ sym (serials_of xs)

pub all_cons : {X : Type 0} (P : X → Type 0) (x : X) (xs : List X) → P x → All P xs → All P (x ∷ xs)
all_cons P x xs one all zero d within = one
all_cons P x xs one all (suc k) d within = all k d (omega (arith, within))

pub same_mounted : (xs ys : List Reel) → labels ys ≡ labels xs → All (λ r. r.mounted ≡ true) xs → All (λ r. r.mounted ≡ true) ys
same_mounted xs [] same all = λ k d within. absurd (let no : ⊥ = omega (arith, within) in no)
same_mounted [] (y ∷ ys) same all = absurd (let no : ⊥ = cc in no)
same_mounted (x ∷ xs) (y ∷ ys) same all =
    let here : label y ≡ label x = cc in
    let rest : labels ys ≡ labels xs = cc in
    all_cons (λ (r : Reel). r.mounted ≡ true) y ys (ap (λ (l : ℕ × ℕ × Bool × Bool). l.2) here ∙ All-head (λ r. r.mounted ≡ true) x xs all)
    (same_mounted xs ys rest (All-tail (λ r. r.mounted ≡ true) x xs all))

-- and what exposes its contents still does
pub same_told : (xs ys : List Reel) → labels ys ≡ labels xs → All (λ r. is_some r.blocks ≡ true) (map unread xs) → All (λ r. is_some r.blocks ≡ true) (map unread ys)
same_told xs [] same all = λ k d within. absurd (let no : ⊥ = omega (arith, within) in no)
same_told [] (y ∷ ys) same all = absurd (let no : ⊥ = cc in no)
same_told (x ∷ xs) (y ∷ ys) same all =
    let here : label y ≡ label x = cc in
    let rest : labels ys ≡ labels xs = cc in
    all_cons (λ (r : Reel). is_some r.blocks ≡ true) (unread y) (map unread ys)
    (ap (λ (l : ℕ × ℕ × Bool × Bool). l.3) here ∙ All-head (λ r. is_some r.blocks ≡ true) (unread x) (map unread xs) all)
    (same_told xs ys rest (All-tail (λ r. is_some r.blocks ≡ true) (unread x) (map unread xs) all))

-- no two reels have one serial
pub apart_of : (rs : List Reel) → IsStrictlyIncreasing (map (λ (r : Reel). r.serial) rs) → AreApart rs
apart_of rs rising = AreApart-rising (λ (r : Reel). r.serial) rs (AllPairs-from_increasing (map (λ (r : Reel). r.serial) rs) rising)

-- WHAT BECOMES of each reel, but for reads
abbrev pub at_serial : ℕ → (Reel → Reel) → Reel → Reel
at_serial s f r = if s == r.serial then f r else r

pub record Becomes (F : Reel → Reel) (old new : Rack) : Type 0 where
  pub all : map unread new.reels ≡ map (λ r. F (unread r)) old.reels

map_twice : (f g : Reel → Reel) (rs : List Reel) → map f (map g rs) ≡ map (λ (r : Reel). f (g r)) rs
map_twice f g [] = refl
map_twice f g (r ∷ rs) = ap (λ (xs : List Reel). f (g r) ∷ xs) (map_twice f g rs)

map_each : (f g : Reel → Reel) → ((r : Reel) → f r ≡ g r) → (rs : List Reel) → map f rs ≡ map g rs
map_each f g same [] = refl
map_each f g same (r ∷ rs) = ap (λ (x : Reel). x ∷ map f rs) (same r) ∙ ap (λ (xs : List Reel). g r ∷ xs) (map_each f g same rs)

pub becomes_then : (F G : Reel → Reel) (a b c : Rack) → Becomes F a b → Becomes G b c → Becomes (λ r. G (F r)) a c
becomes_then F G a b c one two = record {
  all = two.all ∙ sym (map_twice G unread b.reels) ∙ ap (map G) one.all ∙ map_twice G (λ (r : Reel). F (unread r)) a.reels;
}

pub becomes_read : (old new : Rack) → map unread new.reels ≡ map unread old.reels → Becomes (λ r. r) old new
becomes_read old new same = record { all = same }

with_as_map : (s : ℕ) (f : Reel → Reel) (rs : List Reel) → AreApart rs → with_reel s f rs ≡ map (at_serial s f) rs
with_as_map s f rs apart =
    change_key-map (λ (r : Reel). r.serial) s f (at_serial s f)
    (λ r is. sym (cond-true (s == r.serial) (f r) r (eq-eqb s r.serial (sym is)))) (λ r off. sym (cond-false (s == r.serial) (f r) r (ne_eqb s r.serial (λ is. off (sym is))))) rs apart

at_unread : (s : ℕ) (f : Reel → Reel) → ((r : Reel) → unread (f r) ≡ f (unread r)) → (r : Reel) → unread (at_serial s f r) ≡ at_serial s f (unread r)
at_unread s f same r = by_case (s == r.serial)
  where
    by_case : (b : Bool) → unread (if b then f r else r) ≡ (if b then f (unread r) else unread r)
    by_case true = same r
    by_case false = refl

pub becomes_changed : (s : ℕ) (f : Reel → Reel) (old new : Rack) → AreApart old.reels → ((r : Reel) → unread (f r) ≡ f (unread r)) → map unread new.reels ≡ map unread (with_reel s f old.reels)
    → Becomes (at_serial s f) old new
becomes_changed s f old new apart same is = record {
  all = is ∙ ap (map unread) (with_as_map s f old.reels apart) ∙ map_twice unread (at_serial s f) old.reels ∙ map_each (λ (r : Reel). unread (at_serial s f r)) (λ (r : Reel). at_serial s f (unread r)) (at_unread s f same) old.reels;
}

pub becomes_filled : (s : ℕ) (w : List (List ℕ)) (old new : Rack) → AreApart old.reels → IsBeside (changed s (filled w) old) new → Becomes (at_serial s (filled w)) old new
becomes_filled s w old new apart so = becomes_changed s (filled w) old new apart (unread_filled w) so.reels

left_unread : (how : Remains) (k : ℕ) (r : Reel) → unread (left_by how k r) ≡ left_by how k (unread r)
left_unread Unchanged k r = refl
left_unread Shortened k r = refl
left_unread (Torn block) k r = refl

pub becomes_left : (s k : ℕ) (how : Remains) (old new : Rack) → AreApart old.reels → new.reels ≡ with_reel s (left_by how k) old.reels → Becomes (at_serial s (left_by how k)) old new
becomes_left s k how old new apart is = becomes_changed s (left_by how k) old new apart (left_unread how k) (ap (map unread) is)

released_unread : (ss : List ℕ) (r : Reel) → unread (released ss r) ≡ released ss (unread r)
released_unread ss r = by_case (has ss r.serial)
  where
    by_case : (b : Bool) → unread (if b then ending 0 zeros r else r) ≡ (if b then ending 0 zeros (unread r) else unread r)
    by_case true = refl
    by_case false = refl

pub becomes_released : (ss : List ℕ) (old new : Rack) → AreReleased ss old new → Becomes (released ss) old new
becomes_released ss old new is = record {
  all = ap (λ (x : Rack). map unread x.reels) is ∙ map_twice unread (released ss) old.reels ∙ map_each (λ (r : Reel). unread (released ss r)) (λ (r : Reel). released ss (unread r)) (released_unread ss) old.reels;
}

-- reel by reel
pub zip_becomes : (F : Reel → Reel) (old new : Rack) (P : Reel → Reel → Type 0) → Becomes F old new → ((r q : Reel) → Contains old.reels r → unread q ≡ F (unread r) → P r q) → AllZip P old.reels new.reels
zip_becomes F old new P is make = by_lists old.reels new.reels is.all (λ r q there same. make r q there same)
  where
    by_lists : (xs ys : List Reel) → map unread ys ≡ map (λ (r : Reel). F (unread r)) xs → ((r q : Reel) → Contains xs r → unread q ≡ F (unread r) → P r q) → AllZip P xs ys
    by_lists [] [] same one = tt
    by_lists [] (y ∷ ys) same one = absurd (let no : ⊥ = cc in no)
    by_lists (x ∷ xs) [] same one = absurd (let no : ⊥ = cc in no)
    by_lists (x ∷ xs) (y ∷ ys) same one =
        let here : unread y ≡ F (unread x) = cc in
        let rest : map unread ys ≡ map (λ (r : Reel). F (unread r)) xs = cc in
        (one x y (0, omega arith, refl) here, by_lists xs ys rest (λ r q there is. one r q (later r there) is))
      where
        later : (r : Reel) → Contains xs r → Contains (x ∷ xs) r
        later r (i, within, at) = (suc i, omega (arith, within), at)

-- the same reel changed twice
pub both_at : (s : ℕ) (g f : Reel → Reel) (old new : Rack) → ((r : Reel) → (g r).serial ≡ r.serial) → Becomes (λ r. at_serial s f (at_serial s g r)) old new → Becomes (at_serial s (λ r. f (g r))) old new
both_at s g f old new keeps is = record { all = is.all ∙ map_each (λ (r : Reel). at_serial s f (at_serial s g (unread r))) (λ (r : Reel). at_serial s (λ x. f (g x)) (unread r)) (λ r. one (unread r)) old.reels }
  where
    one : (r : Reel) → at_serial s f (at_serial s g r) ≡ at_serial s (λ x. f (g x)) r
    one r =
        elim (eqb_tells s r.serial) [
          | inl h ↦
              ap (at_serial s f) (cond-true (s == r.serial) (g r) r h.0) ∙ cond-true (s == (g r).serial) (f (g r)) (g r) (eq-eqb s (g r).serial (h.1 ∙ sym (keeps r)))
              ∙ sym (cond-true (s == r.serial) (f (g r)) r h.0)
          | inr h ↦ ap (at_serial s f) (cond-false (s == r.serial) (g r) r h.0) ∙ cond-false (s == r.serial) (f r) r h.0 ∙ sym (cond-false (s == r.serial) (f (g r)) r h.0)
        ]

-- names and counts of reads stay
pub at_name : (s : ℕ) (f : Reel → Reel) → ((r : Reel) → (f r).serial ≡ r.serial) → (r : Reel) → (at_serial s f r).serial ≡ r.serial
at_name s f keeps r = by_case (s == r.serial)
  where
    by_case : (b : Bool) → (if b then f r else r).serial ≡ r.serial
    by_case true = keeps r
    by_case false = refl

pub left_name : (how : Remains) (k : ℕ) (r : Reel) → (left_by how k r).serial ≡ r.serial
left_name how k r = ap (λ (l : ℕ × ℕ × Bool × Bool). l.0) (label_left how k r)

pub released_name : (ss : List ℕ) (r : Reel) → (released ss r).serial ≡ r.serial
released_name ss r = ap (λ (l : ℕ × ℕ × Bool × Bool). l.0) (label_released ss r)

left_times : (how : Remains) (k : ℕ) (r : Reel) → (left_by how k r).times_read ≡ r.times_read
left_times Unchanged k r = refl
left_times Shortened k r = refl
left_times (Torn block) k r = refl

pub times_left : (s k : ℕ) (how : Remains) (old new : Rack) → new.reels ≡ with_reel s (left_by how k) old.reels → (t n : ℕ) → time_of t n old ≤ time_of t n new
times_left s k how old new is t n =
    let same : time_of t n new ≡ time_of t n old =
    ap (λ (rs : List Reel). count_at n (times_in (reel t rs))) is ∙ ap (count_at n) (times_changed s t (left_by how k) (left_name how k) (left_times how k) old.reels) in
    omega (arith, same)

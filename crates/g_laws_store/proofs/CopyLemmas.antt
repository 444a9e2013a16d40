-- Looking up copies by stamp.
-- serves: AdoptLemmas, OpenedLemmas, OwnLemmas, crates above
use Rattle.std.proofs.Common.{◌≡◌, ℕ, zero, suc, ◌+◌, ◌≤◌, Bool, cond, List, [], ◌∷◌, ◌++◌, Option, Some, None, refl, sym, ◌∙◌, ap, arith, subst, inl, inr}
use Rattle.std.specs.Prelude.{◌⊎◌, ◌==◌, All, AllPairs, Contains}
use Rattle.std.specs.List.{flat_map}
use Rattle.std.specs.Ordering.{nat_cmp, eq_by_cmp}
use Rattle.std.specs.Cmp.{eq_by_cmp_equiv}
use Rattle.std.specs.FinMap.{find, nat_cmp-IsAntisymmetric}
use Rattle.std.proofs.lemmas.Bool.{cases_eq, cond-false, cond-true, eq-eqb, ne_eqb}
use Rattle.std.proofs.lemmas.Cmp.{nat_cmp_total}
use Rattle.std.proofs.lemmas.List.Elements.{All-contains, All-head, All-tail}
use Rattle.std.proofs.lemmas.List.Sums.{sum_by-cons}
use Rattle.g_base.specs.Block.{blocks_for}
use Rattle.g_entry.specs.declared.file_rec.FileRec.{FileRec}
use Rattle.g_entry.specs.declared.file_rec.TapeCopy.{TapeCopy}
use Rattle.g_plain.proofs.Found.{apart_is}
use Rattle.g_disc_contents.specs.Contents.{copy_of}
use Rattle.g_disc_contents.specs.Facts.{Pin}
use Rattle.g_incr.specs.Plan.{blocks_of, numbered_from}
use Rattle.g_store_model.specs.State.{copy_entry}
use Rattle.g_store_meaning.specs.StoreInvariant.{ArePinned}
use Rattle.g_laws_store.proofs.PinLemmas.{OtherStamp, pairs}
use Rattle.g_laws_store.proofs.RecordLemmas.{pairs_head, pairs_tail}

-- COPIES of elements that have one or none
abbrev pub copies_by : {A : Type 0} → (A → ℕ) → (A → Option TapeCopy) → List A → List (ℕ × TapeCopy)
copies_by key value xs = flat_map (λ x. copy_entry (key x) (value x)) xs

skip : (q n : ℕ) (o : Option TapeCopy) (rest : List (ℕ × TapeCopy)) → (n ≡ q → ⊥) → find nat_cmp q (copy_entry n o ++ rest) ≡ find nat_cmp q rest
skip q n None rest isnt = refl
skip q n (Some c) rest isnt =
    ap (λ (b : Bool). cond b (Some c) (find nat_cmp q rest)) (apart_is nat_cmp_total nat_cmp-IsAntisymmetric q n (λ e. isnt (sym e)))

hit : (q n : ℕ) (c : TapeCopy) (rest : List (ℕ × TapeCopy)) → n ≡ q → find nat_cmp q (copy_entry n (Some c) ++ rest) ≡ Some c
hit q n c rest is =
    ap (λ (b : Bool). cond b (Some c) (find nat_cmp q rest)) (ap (λ (m : ℕ). eq_by_cmp nat_cmp q m) is ∙ (eq_by_cmp_equiv nat_cmp_total).refl q)

find_none : {A : Type 0} (key : A → ℕ) (value : A → Option TapeCopy) (xs : List A) (q : ℕ) → All (λ y. key y ≡ q → value y ≡ None) xs → find nat_cmp q (copies_by key value xs) ≡ None
find_none key value [] q all = refl
find_none {A} key value (y ∷ ys) q all = by_key (cases_eq (key y) q) (find_none key value ys q (All-tail (λ z. key z ≡ q → value z ≡ None) y ys all))
  where
    by_key : (key y ≡ q) ⊎ (key y ≡ q → ⊥) → find nat_cmp q (copies_by key value ys) ≡ None → find nat_cmp q (copies_by key value (y ∷ ys)) ≡ None
    by_key (inl is) rest =
        ap (λ (o : Option TapeCopy). find nat_cmp q (copy_entry (key y) o ++ copies_by key value ys)) (All-head (λ z. key z ≡ q → value z ≡ None) y ys all is) ∙ rest
    by_key (inr isnt) rest = skip q (key y) (value y) (copies_by key value ys) isnt ∙ rest

find_some : {A : Type 0} (key : A → ℕ) (value : A → Option TapeCopy) (xs : List A) (q : ℕ) (c : TapeCopy) (x : A) → Contains xs x → key x ≡ q
    → All (λ y. key y ≡ q → value y ≡ Some c) xs → find nat_cmp q (copies_by key value xs) ≡ Some c
find_some key value [] q c x (i, within, is) same all = let no : ⊥ = omega (arith, within) in absurd no
find_some {A} key value (y ∷ ys) q c x there same all =
    by_key (cases_eq (key y) q) (λ other. find_some key value ys q c x (later there other) same (All-tail (λ z. key z ≡ q → value z ≡ Some c) y ys all))
  where
    later : Contains (y ∷ ys) x → (key y ≡ q → ⊥) → Contains ys x
    later (zero, within, is) other = absurd (other (ap key is ∙ same))
    later (suc i, within, is) other = (i, omega (arith, within), is)

    by_key : (key y ≡ q) ⊎ (key y ≡ q → ⊥) → ((key y ≡ q → ⊥) → find nat_cmp q (copies_by key value ys) ≡ Some c) → find nat_cmp q (copies_by key value (y ∷ ys)) ≡ Some c
    by_key (inl is) rest =
        ap (λ (o : Option TapeCopy). find nat_cmp q (copy_entry (key y) o ++ copies_by key value ys)) (All-head (λ z. key z ≡ q → value z ≡ Some c) y ys all is)
        ∙ hit q (key y) c (copies_by key value ys) is
    by_key (inr isnt) rest = skip q (key y) (value y) (copies_by key value ys) isnt ∙ rest isnt

-- the copy of the element of a key, if all of that key agree
pub find_copy : {A : Type 0} (key : A → ℕ) (value : A → Option TapeCopy) (xs : List A) (q : ℕ) (o : Option TapeCopy) (x : A) → Contains xs x → key x ≡ q
    → All (λ y. key y ≡ q → value y ≡ o) xs → find nat_cmp q (copies_by key value xs) ≡ o
find_copy key value xs q None x there same all = find_none key value xs q all
find_copy key value xs q (Some c) x there same all = find_some key value xs q c x there same all

pub no_copy_of : {A : Type 0} (key : A → ℕ) (value : A → Option TapeCopy) (xs : List A) (q : ℕ) → All (λ y. key y ≡ q → ⊥) xs → find nat_cmp q (copies_by key value xs) ≡ None
no_copy_of key value xs q all = find_none key value xs q (λ i d within same. absurd (all i d within same))

-- copies don't depend on numbers
pub numbered_copies : (n : ℕ) (rs : List FileRec) → copies_by (λ (r : FileRec). r.stamp) (λ (r : FileRec). r.tape) (numbered_from n rs) ≡ copies_by (λ (r : FileRec). r.stamp) (λ (r : FileRec). r.tape) rs
numbered_copies n [] = refl
numbered_copies n (r ∷ rs) = ap (λ (cs : List (ℕ × TapeCopy)). copy_entry r.stamp r.tape ++ cs) (numbered_copies (n + 1) rs)

pub same_flat : {A : Type 0} (f g : A → List (ℕ × TapeCopy)) → ((x : A) → f x ≡ g x) → (xs : List A) → flat_map f xs ≡ flat_map g xs
same_flat f g same [] = refl
same_flat f g same (x ∷ xs) = ap (λ (cs : List (ℕ × TapeCopy)). cs ++ flat_map f xs) (same x) ∙ ap (λ (cs : List (ℕ × TapeCopy)). g x ++ cs) (same_flat f g same xs)

-- the copy that is noted for a version that waits, within this many blocks
pub record HasCopy (serial from : ℕ) (ws : List FileRec) (pins : List Pin) (r : FileRec) (old : Option TapeCopy) : Type 0 where
  pub first : ℕ
  pub is : copy_of (pairs pins) r.stamp old ≡ Some (record { serial = serial; first = first })
  pub low : from ≤ first
  pub high : first + blocks_for r.len ≤ from + blocks_of ws

pub copy_in : (serial from : ℕ) (ws : List FileRec) (pins : List Pin) → ArePinned serial from ws pins → AllPairs OtherStamp ws → (r : FileRec) → Contains ws r → (old : Option TapeCopy)
    → HasCopy serial from ws pins r old
copy_in serial from [] pins are apart r (i, within, is) old = let no : ⊥ = omega (arith, within) in absurd no
copy_in serial from (w ∷ ws) pins (pin, rest, same, stamp, len, copy, blocks, more) apart r (zero, within, is) old =
    let sum = sum_by-cons (λ (x : FileRec). blocks_for x.len) w ws in
    let size : blocks_for w.len ≡ blocks_for r.len = ap (λ (x : FileRec). blocks_for x.len) is in
    subst (λ (ps : List Pin). HasCopy serial from (w ∷ ws) ps r old) (sym same) (record {
      first = from;
      is = cond-true (pin.stamp == r.stamp) (Some pin.copy) (copy_of (pairs rest) r.stamp old) (eq-eqb pin.stamp r.stamp (stamp ∙ ap (λ (x : FileRec). x.stamp) is))
          ∙ ap (λ (c : TapeCopy). let o : Option TapeCopy = Some c in o) copy;
      low = omega arith;
      high = omega (arith, sum, size);
    })
copy_in serial from (w ∷ ws) pins (pin, rest, same, stamp, len, copy, blocks, more) apart r (suc i, within, is) old =
    let there : Contains ws r = (i, omega (arith, within), is) in
    let found = copy_in serial (from + blocks_for w.len) ws rest more (pairs_tail OtherStamp w ws apart) r there old in
    let other = All-contains (OtherStamp w) ws r (pairs_head OtherStamp w ws apart) there in
    let sum = sum_by-cons (λ (x : FileRec). blocks_for x.len) w ws in
    let low = found.low in
    let high = found.high in
    subst (λ (ps : List Pin). HasCopy serial from (w ∷ ws) ps r old) (sym same) (record {
      first = found.first;
      is = cond-false (pin.stamp == r.stamp) (Some pin.copy) (copy_of (pairs rest) r.stamp old) (ne_eqb pin.stamp r.stamp (λ e. other (sym stamp ∙ e))) ∙ found.is;
      low = omega (arith, low);
      high = omega (arith, high, sum);
    })

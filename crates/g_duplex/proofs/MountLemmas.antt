-- What is known of paired reels without mounting them, and their mounting.
-- serves: capacity, length, mount, mounted, read, secure, unmount, write
use Rattle.std.proofs.Common.{◌≡◌, ℕ, List, [], ◌∷◌, Bool, true, false, ◌==◌, Option, Some, None, Result, Ok, Err, if◌then◌else◌, map, refl, sym, subst, ap, ◌∙◌, inl, inr, ◌⊎◌}
use Rattle.std.proofs.lemmas.Bool.{ne_eqb}
use Rattle.std.proofs.lemmas.Bool.Decides.{eqb_tells}
use Rattle.g_base.proofs.KeyLemmas.{change-same}
use Rattle.g_tape.specs.declared.fault.TapeFault.{TapeFault}
use Rattle.g_tape.specs.declared.fault.TapeFault.TheVariants.{NoTape, NotMounted}
use Rattle.g_tape.specs.Reel.{Reel, with_mounted}
use Rattle.g_tape.specs.Rack.{Mounting, Rack, changed, is_mounted, reel, refuses_mount, refuses_unmount, told_of, with_reel}
use Rattle.g_tape.specs.Risk.{Risk}
use Rattle.g_duplex.specs.Twins.{DoAgree, are_up, leader, of_leader, pair_reel}
use Rattle.g_duplex.specs.Pair.{ArePaired, Pair, lost_of, pair_reels, pair_risks, shown, standing}
use Rattle.g_duplex.specs.Calls.{Answer, PairMounts, PairUnmounts}
use Rattle.g_duplex.specs.declared.twin.Twin.TheVariants.{First, Second}
use Rattle.g_duplex.specs.declared.twin.Standing.{Standing}
use Rattle.g_duplex.specs.declared.twin.Standing.TheVariants.{Level, Apart, Lost}
use Rattle.g_duplex.proofs.PairLemmas.{AreAt, at_of, at_standing, labels_kept, pair_changed, paired_changed, same_standings, seen_at}
use Rattle.g_duplex.proofs.PlaceLemmas.{long_standings, lost_same}
use Rattle.g_duplex.proofs.RiskLemmas.{risks_mounted}

-- A serial that the rack doesn't have.
pub none_seen : (s : ℕ) (ts : List Standing) (xs ys : List Reel) → ArePaired ts xs ys → reel s xs ≡ None → (reel s ys ≡ None) × (reel s (pair_reels ts xs ys) ≡ None)
none_seen s [] [] [] paired is = (refl, refl)
none_seen s [] [] (b ∷ ys) paired is = absurd paired
none_seen s [] (a ∷ xs) ys paired is = absurd paired
none_seen s (t ∷ ts) [] ys paired is = absurd paired
none_seen s (t ∷ ts) (a ∷ xs) [] paired is = absurd paired
none_seen s (t ∷ ts) (a ∷ xs) (b ∷ ys) (twins, rest) is =
    elim (eqb_tells s a.serial) [
      | inl here ↦ let never : Some a ≡ None = rw here.0 at is in absurd (cc)
      | inr apart ↦
          let apart' : (s == b.serial) ≡ false = ne_eqb s b.serial (λ e. apart.1 (e ∙ sym twins.serial)) in
          let others = none_seen s ts xs ys rest (rw apart.0 at is) in
          (rw apart' others.0, rw apart.0 others.1)
    ]

some_one : (o : Option Reel) → (o ≡ None) ⊎ ((x : Reel) × (o ≡ Some x))
some_one None = inl refl
some_one (Some x) = inr (x, refl)

-- The numbers that are known without mounting a reel.
module _ (s : ℕ) (ts : List Standing) (xs ys : List Reel) (paired : ArePaired ts xs ys) where
  pub none_standing_seen : standing s xs ts ≡ None → reel s (pair_reels ts xs ys) ≡ None
  none_standing_seen is =
      elim (some_one (reel s xs)) [
        | inl none ↦ (none_seen s ts xs ys paired none).1
        | inr (a, there) ↦
            let (t, b, twins, at) = at_of s a ts xs ys paired there in
            let never : Some t ≡ None = sym at.standing ∙ is in
            absurd (cc)
      ]

  pub up_seen : (t : Standing) → standing s xs ts ≡ Some t → is_mounted (reel s (pair_reels ts xs ys)) ≡ are_up t (is_mounted (reel s xs)) (is_mounted (reel s ys))
  up_seen t is =
      let (a, b, twins, at) = at_standing s t ts xs ys paired is in
      ap is_mounted (seen_at s t a b ts xs ys paired at)
      ∙ sym (ap (λ (o : Option Reel). are_up t (is_mounted o) (is_mounted (reel s ys))) at.first ∙ ap (λ (o : Option Reel). are_up t a.mounted (is_mounted o)) at.second)

  pub room_seen : told_of (λ (r : Reel). r.capacity) (reel s (pair_reels ts xs ys)) ≡ told_of (λ (r : Reel). r.capacity) (reel s xs)
  room_seen =
      elim (some_one (reel s xs)) [
        | inl none ↦ ap (told_of (λ (r : Reel). r.capacity)) ((none_seen s ts xs ys paired none).1 ∙ sym none)
        | inr (a, there) ↦
            let (t, b, twins, at) = at_of s a ts xs ys paired there in
            ap (told_of (λ (r : Reel). r.capacity)) (seen_at s t a b ts xs ys paired at) ∙ sym (ap (told_of (λ (r : Reel). r.capacity)) there)
      ]

  -- the length that is seen is that of the rack that leads
  long_by : (t : Standing) (rs : List Reel) (of : Reel → Reel → Reel) → standing s xs ts ≡ Some t → ((a b : Reel) → AreAt s t a b ts xs ys → reel s rs ≡ Some (of a b))
      → ((a b : Reel) → of_leader t a b ≡ of a b) → told_of (λ (r : Reel). r.len) (reel s (pair_reels ts xs ys)) ≡ told_of (λ (r : Reel). r.len) (reel s rs)
  long_by t rs of is there leads =
      let (a, b, twins, at) = at_standing s t ts xs ys paired is in
      ap (told_of (λ (r : Reel). r.len)) (seen_at s t a b ts xs ys paired at) ∙ ap (λ (r : Reel). let x : Result ℕ TapeFault = Ok r.len in x) (leads a b)
      ∙ sym (ap (told_of (λ (r : Reel). r.len)) (there a b at))

  pub long_first : (t : Standing) → standing s xs ts ≡ Some t → ((a b : Reel) → of_leader t a b ≡ a)
      → told_of (λ (r : Reel). r.len) (reel s (pair_reels ts xs ys)) ≡ told_of (λ (r : Reel). r.len) (reel s xs)
  long_first t is leads = long_by t xs (λ a b. a) is (λ a b at. at.first) leads

  pub long_second : (t : Standing) → standing s xs ts ≡ Some t → ((a b : Reel) → of_leader t a b ≡ b)
      → told_of (λ (r : Reel). r.len) (reel s (pair_reels ts xs ys)) ≡ told_of (λ (r : Reel). r.len) (reel s ys)
  long_second t is leads = long_by t ys (λ a b. b) is (λ a b at. at.second) leads

-- MOUNTING
seen_mounted : (is : Bool) (t : Standing) (a b : Reel) → pair_reel t (with_mounted is a) (with_mounted is b) ≡ with_mounted is (pair_reel t a b)
seen_mounted true Level a b = refl
seen_mounted true (Apart k) a b = refl
seen_mounted true (Lost First) a b = refl
seen_mounted true (Lost Second) a b = refl
seen_mounted false Level a b = refl
seen_mounted false (Apart k) a b = refl
seen_mounted false (Lost First) a b = refl
seen_mounted false (Lost Second) a b = refl

agree_mounted : (is : Bool) (t : Standing) (a b : Reel) → DoAgree t a b → DoAgree t (with_mounted is a) (with_mounted is b)
agree_mounted is Level a b agree = agree
agree_mounted is (Apart k) a b agree = agree
agree_mounted is (Lost twin) a b agree = tt

module _ (is : Bool) (s : ℕ) (ts : List Standing) (xs ys : List Reel) (paired : ArePaired ts xs ys) where
  mounted_seen : pair_reels ts (with_reel s (with_mounted is) xs) (with_reel s (with_mounted is) ys) ≡ with_reel s (with_mounted is) (pair_reels ts xs ys)
  mounted_seen =
      subst (λ (us : List Standing). pair_reels us (with_reel s (with_mounted is) xs) (with_reel s (with_mounted is) ys) ≡ with_reel s (with_mounted is) (pair_reels ts xs ys))
      (same_standings s xs ts (long_standings ts xs ys paired))
      (pair_changed s (with_mounted is) (with_mounted is) (with_mounted is) (λ (t : Standing). t) ts xs ys paired (λ t a b twins at. seen_mounted is t a b))

  pub paired_mounted : ArePaired ts (with_reel s (with_mounted is) xs) (with_reel s (with_mounted is) ys)
  paired_mounted =
      subst (λ (us : List Standing). ArePaired us (with_reel s (with_mounted is) xs) (with_reel s (with_mounted is) ys))
      (same_standings s xs ts (long_standings ts xs ys paired))
      (paired_changed s (with_mounted is) (with_mounted is) (λ (t : Standing). t) ts xs ys paired (λ t a b twins at. record {
        serial = twins.serial;
        capacity = twins.capacity;
        agree = agree_mounted is t a b twins.agree;
      }))

-- the rack that is seen then
mounted_shown : (is : Bool) (s : ℕ) (p : Pair) (first' second' : Rack) → pair_reels p.standings first'.reels second'.reels ≡ with_reel s (with_mounted is) (shown p).reels
    → first'.risks ≡ p.first.risks → second'.risks ≡ p.second.risks → shown (record p { first = first'; second = second' }) ≡ changed s (with_mounted is) (shown p)
mounted_shown is s p first' second' reels one two =
    ap (λ (rs : List Reel). let r : Rack = record (shown p) { reels = rs; risks = pair_risks p.standings rs first'.risks second'.risks } in r) reels
    ∙ ap (λ (ks : List Risk). let r : Rack = record (changed s (with_mounted is) (shown p)) { risks = ks } in r)
    (ap (λ (ks : List Risk). pair_risks p.standings (with_reel s (with_mounted is) (shown p).reels) ks second'.risks) one
    ∙ ap (pair_risks p.standings (with_reel s (with_mounted is) (shown p).reels) p.first.risks) two
    ∙ risks_mounted is s p.standings (shown p).reels p.first.risks p.second.risks)

mount_there : (o : Option Reel) (x : Reel) (fault : TapeFault) → o ≡ Some x → refuses_mount o ≡ Some fault → ⊥
mount_there o x fault there is = let never : None ≡ Some fault = sym (ap refuses_mount there) ∙ is in cc

mount_of : (o : Option Reel) → refuses_mount o ≡ None → (x : Reel) × (o ≡ Some x)
mount_of None is = absurd (cc)
mount_of (Some x) is = (x, refl)

mount_none : (o : Option Reel) (fault : TapeFault) → refuses_mount o ≡ Some fault → (o ≡ None) × (fault ≡ NoTape)
mount_none None fault is = let e : Some NoTape ≡ Some fault = is in (refl, cc)
mount_none (Some x) fault is = let e : None ≡ Some fault = is in absurd (cc)

mount_seen : (s : ℕ) (p : Pair) (a : Reel) → ArePaired p.standings p.first.reels p.second.reels → reel s p.first.reels ≡ Some a → (b : Reel) × (x : Reel) × (reel s p.second.reels ≡ Some b) × (reel s (shown p).reels ≡ Some x)
mount_seen s p a paired there =
    let (t, b, twins, at) = at_of s a p.standings p.first.reels p.second.reels paired there in
    (b, pair_reel t a b, at.second, seen_at s t a b p.standings p.first.reels p.second.reels paired at)

-- a mount that both took, or the second didn't, which is never
pub pair_mounts : (s : ℕ) (p : Pair) (first' second' : Rack) (u : Unit {0}) (result : Answer) → ArePaired p.standings p.first.reels p.second.reels
    → Mounting refuses_mount true s p.first (Ok u) first' → Mounting refuses_mount true s p.second result second'
    → PairMounts s p result (record p { first = first'; second = second' }) × ArePaired p.standings first'.reels second'.reels
pair_mounts s p first' second' u (Ok v) paired one two =
    let (a, there) = mount_of (reel s p.first.reels) one.0 in
    let (b, x, there', seen) = mount_seen s p a paired there in
    let reels : pair_reels p.standings first'.reels second'.reels ≡ with_reel s (with_mounted true) (shown p).reels =
    ap (λ (r : Rack). pair_reels p.standings r.reels second'.reels) one.1
    ∙ ap (λ (r : Rack). pair_reels p.standings (with_reel s (with_mounted true) p.first.reels) r.reels) two.1
    ∙ mounted_seen true s p.standings p.first.reels p.second.reels paired in
    let still : ArePaired p.standings first'.reels second'.reels =
    subst (λ (r : Rack). ArePaired p.standings r.reels second'.reels) (sym one.1)
    (subst (λ (r : Rack). ArePaired p.standings (with_reel s (with_mounted true) p.first.reels) r.reels) (sym two.1) (paired_mounted true s p.standings p.first.reels p.second.reels paired)) in
    let mounts : PairMounts s p (Ok v) (record p { first = first'; second = second' }) = record {
      mounting = (ap refuses_mount seen, mounted_shown true s p first' second' reels (ap (λ (r : Rack). r.risks) one.1) (ap (λ (r : Rack). r.risks) two.1));
      both = refl;
      first = one;
      second = two;
    } in
    (mounts, still)
pair_mounts s p first' second' u (Err fault) paired one two =
    let (a, there) = mount_of (reel s p.first.reels) one.0 in
    let (b, x, there', seen) = mount_seen s p a paired there in
    absurd (mount_there (reel s p.second.reels) b fault there' two.0)

-- A mount of a reel that the rack doesn't have.
pub pair_refuses_mount : (s : ℕ) (p : Pair) (first' : Rack) (fault : TapeFault) → ArePaired p.standings p.first.reels p.second.reels
    → Mounting refuses_mount true s p.first (Err fault) first' → PairMounts s p (Err fault) (record p { first = first' }) × (first' ≡ p.first)
pair_refuses_mount s p first' fault paired (refused, left) =
    let (none, no_tape) = mount_none (reel s p.first.reels) fault refused in
    let (beside, seen) = none_seen s p.standings p.first.reels p.second.reels paired none in
    let is : Some NoTape ≡ Some fault = ap (λ (f : TapeFault). Some f) (sym no_tape) in
    let mounts : PairMounts s p (Err fault) (record p { first = first' }) = record {
      mounting = (ap refuses_mount seen ∙ is, ap (λ (r : Rack). shown (record p { first = r })) left);
      both = refl;
      first = (refused, left);
      second = (ap refuses_mount beside ∙ is, refl);
    } in
    (mounts, left)

-- an unmount, however it is answered, leaves the reel unmounted
unmounted_same : (s : ℕ) (xs : List Reel) (x : Reel) → reel s xs ≡ Some x → x.mounted ≡ false → with_reel s (with_mounted false) xs ≡ xs
unmounted_same s xs x is down = change-same (λ (y : Reel). s == y.serial) (with_mounted false) xs
    (λ y at.
    let both : Some y ≡ Some x = sym at ∙ is in
    let one : y ≡ x = cc in
    ap (λ (m : Bool). let r : Reel = record y { mounted = m } in r) (sym (ap (λ (r : Reel). r.mounted) one ∙ down)))

unmount_down : (x : Reel) (fault : TapeFault) → refuses_unmount (Some x) ≡ Some fault → x.mounted ≡ false
unmount_down x fault is = by x.mounted is
  where
    by : (m : Bool) → (if m then None else Some NotMounted) ≡ Some fault → m ≡ false
    by true e = absurd (cc)
    by false e = refl

unmount_leaves : (s : ℕ) (r r' : Rack) (x : Reel) (answer : Answer) → reel s r.reels ≡ Some x → Mounting refuses_unmount false s r answer r' → r' ≡ changed s (with_mounted false) r
unmount_leaves s r r' x (Ok u) there is = is.1
unmount_leaves s r r' x (Err fault) there is =
    is.1 ∙ ap (λ (rs : List Reel). let q : Rack = record r { reels = rs } in q) (sym (unmounted_same s r.reels x there (unmount_down x fault (sym (ap refuses_unmount there) ∙ is.0))))

unmount_up : (o : Option Reel) → is_mounted o ≡ true → refuses_unmount o ≡ None
unmount_up None is = absurd (cc)
unmount_up (Some x) is = let up : x.mounted ≡ true = is in rw up refl

unmount_not_up : (o : Option Reel) (x : Reel) → o ≡ Some x → is_mounted o ≡ false → refuses_unmount o ≡ Some NotMounted
unmount_not_up o x there is = let down : x.mounted ≡ false = sym (ap is_mounted there) ∙ is in ap refuses_unmount there ∙ rw down refl

told_there : (o : Option Reel) (n : ℕ) → told_of (λ (r : Reel). r.capacity) o ≡ Ok n → (x : Reel) × (o ≡ Some x)
told_there None n is = absurd (cc)
told_there (Some x) n is = (x, refl)

told_none : (o : Option Reel) (fault : TapeFault) → told_of (λ (r : Reel). r.capacity) o ≡ Err fault → (o ≡ None) × (fault ≡ NoTape)
told_none None fault is = let e : Err NoTape ≡ Err fault = is in (refl, cc)
told_none (Some x) fault is = let e : Ok x.capacity ≡ Err fault = is in absurd (cc)

pub pair_unmounts : (s n : ℕ) (p : Pair) (first' second' : Rack) (one two : Answer) → ArePaired p.standings p.first.reels p.second.reels
    → told_of (λ (r : Reel). r.capacity) (reel s p.first.reels) ≡ Ok n → is_mounted (reel s (shown p).reels) ≡ true
    → Mounting refuses_unmount false s p.first one first' → Mounting refuses_unmount false s p.second two second'
    → PairUnmounts s p (Ok tt) (record p { first = first'; second = second' }) × ArePaired p.standings first'.reels second'.reels
pair_unmounts s n p first' second' one two paired told up is is' =
    let (a, there) = told_there (reel s p.first.reels) n told in
    let (b, x, there', seen) = mount_seen s p a paired there in
    let left = unmount_leaves s p.first first' a one there is in
    let left' = unmount_leaves s p.second second' b two there' is' in
    let reels : pair_reels p.standings first'.reels second'.reels ≡ with_reel s (with_mounted false) (shown p).reels =
    ap (λ (r : Rack). pair_reels p.standings r.reels second'.reels) left
    ∙ ap (λ (r : Rack). pair_reels p.standings (with_reel s (with_mounted false) p.first.reels) r.reels) left'
    ∙ mounted_seen false s p.standings p.first.reels p.second.reels paired in
    let still : ArePaired p.standings first'.reels second'.reels =
    subst (λ (r : Rack). ArePaired p.standings r.reels second'.reels) (sym left)
    (subst (λ (r : Rack). ArePaired p.standings (with_reel s (with_mounted false) p.first.reels) r.reels) (sym left') (paired_mounted false s p.standings p.first.reels p.second.reels paired)) in
    let unmounts : PairUnmounts s p (Ok tt) (record p { first = first'; second = second' }) = record {
      mounting = (unmount_up (reel s (shown p).reels) up, mounted_shown false s p first' second' reels (ap (λ (r : Rack). r.risks) left) (ap (λ (r : Rack). r.risks) left'));
      both = refl;
      first = left;
      second = left';
    } in
    (unmounts, still)

pub pair_not_up : (s n : ℕ) (p : Pair) → ArePaired p.standings p.first.reels p.second.reels → told_of (λ (r : Reel). r.capacity) (reel s p.first.reels) ≡ Ok n
    → is_mounted (reel s (shown p).reels) ≡ false → PairUnmounts s p (Err NotMounted) p
pair_not_up s n p paired told down =
    let (a, there) = told_there (reel s p.first.reels) n told in
    let (b, x, there', seen) = mount_seen s p a paired there in
    record { mounting = (unmount_not_up (reel s (shown p).reels) x seen down, refl); both = refl; first = refl; second = refl }

pub pair_no_tape : (s : ℕ) (p : Pair) (fault : TapeFault) → ArePaired p.standings p.first.reels p.second.reels → told_of (λ (r : Reel). r.capacity) (reel s p.first.reels) ≡ Err fault
    → PairUnmounts s p (Err fault) p
pair_no_tape s p fault paired told =
    let (none, no_tape) = told_none (reel s p.first.reels) fault told in
    let (beside, seen) = none_seen s p.standings p.first.reels p.second.reels paired none in
    record { mounting = (ap refuses_unmount seen ∙ ap (λ (f : TapeFault). Some f) (sym no_tape), refl); both = refl; first = refl; second = refl }

-- the lost twins, when reels were mounted or unmounted
pub lost_mounted : (refuses : Option Reel → Option TapeFault) (is : Bool) (s : ℕ) (r r' : Rack) (answer : Answer) (ts : List Standing) → Mounting refuses is s r answer r' → lost_of r.reels ts ≡ lost_of r'.reels ts
lost_mounted refuses is s r r' (Ok u) ts mounting =
    sym (lost_same r.reels r'.reels ts (ap (λ (q : Rack). map (λ (x : Reel). x.serial) q.reels) mounting.1 ∙ labels_kept s (with_mounted is) (λ x. refl) r.reels))
lost_mounted refuses is s r r' (Err fault) ts mounting = ap (λ (q : Rack). lost_of q.reels ts) (sym mounting.1)

-- who leads
pub leads_first : (t : Standing) → leader t ≡ First → (a b : Reel) → of_leader t a b ≡ a
leads_first Level is a b = refl
leads_first (Apart k) is a b = refl
leads_first (Lost First) is a b = let never : Second ≡ First = is in absurd (cc)
leads_first (Lost Second) is a b = refl

pub leads_second : (t : Standing) → leader t ≡ Second → (a b : Reel) → of_leader t a b ≡ b
leads_second Level is a b = let never : First ≡ Second = is in absurd (cc)
leads_second (Apart k) is a b = let never : First ≡ Second = is in absurd (cc)
leads_second (Lost First) is a b = refl
leads_second (Lost Second) is a b = let never : First ≡ Second = is in absurd (cc)

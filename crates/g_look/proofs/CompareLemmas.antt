-- The texts of a version that are read and compared.
-- serves: compare_file (none, some), compare_files, compare_texts (none, some), judge_disc, tape, tape_text (read, text), text_in, CopyLemmas
use Rattle.std.proofs.Common.{◌≡◌, ◌⊎◌, inl, inr, ℕ, zero, suc, ◌+◌, ◌-◌, ◌<◌, ◌≤◌, Bool, true, false, cond, List, [], ◌∷◌, ◌++◌, length, map, min, take, drop, Option, Some, None, Result, Ok, Err, refl, sym, ◌∙◌, ap, arith, subst, All}
use Rattle.std.specs.Prelude.{◌==◌, Contains, IfNone, IfOk, IfSome, get_or}
use Rattle.std.specs.Option.{ForSome}
use Rattle.std.proofs.lemmas.List.{get_or_default, take_all, take_more}
use Rattle.std.proofs.lemmas.Bool.{cases_eq, cond-false, cond-true, eq-eqb, ne_eqb}
use Rattle.std.proofs.lemmas.List.Elements.{All-head, All-tail}
use Rattle.std.proofs.lemmas.Grind.{flat_map-append}
use Rattle.g_base.specs.Block.{blocks_for}
use Rattle.g_copy.specs.declared.copy.DiscCopy.{DiscCopy}
use Rattle.g_entry.specs.declared.file_rec.FileRec.{FileRec}
use Rattle.g_entry.specs.declared.file_rec.TapeCopy.{TapeCopy}
use Rattle.g_entry.specs.declared.user_rec.UserRec.{UserRec}
use Rattle.g_dirs.specs.declared.dirs.Dirs.{Dirs}
use Rattle.g_dirs.specs.Directory.{copy_at}
use Rattle.g_tape.specs.declared.fault.TapeFault.{TapeFault}
use Rattle.g_tape.specs.declared.fault.TapeFault.TheVariants as tape
use Rattle.g_tape.specs.Rack.{AreReels, Rack, reel, refuses_unmount}
use Rattle.g_tape.specs.Reads.{blocks_in, blocks_of, unread}
use Rattle.g_tape.specs.Reel.{Reel}
use Rattle.g_store_meaning.specs.Meaning.{joined, told_reels}
use Rattle.g_look.specs.declared.broken.Lie.{Lie}
use Rattle.g_look.specs.declared.broken.Lie.TheVariants.{Disc, Tape}
use Rattle.g_look.specs.declared.fault.LookFault.{LookFault}
use Rattle.g_look.specs.Standing.{IsSound}
use Rattle.g_look.specs.Texts.{AgreeAt, AllAgree, AreCompared, DifferAt, FileAgrees, FileDiffers, IsDiscText, IsDumpedPlace, IsSecond, IsTapeText, LiesHere, TwoDiffer, WasReadAt}
use Rattle.g_look.proofs.DiscLemmas.{copy_len, owners_there}
use Rattle.g_look.proofs.HeadLemmas.{blocks_there}
use Rattle.g_look.proofs.SeenLemmas.{told_apart}

-- A PLACE ON TAPE
pub tape_text_is : (rack : Rack) → AreReels rack.reels → (copy : TapeCopy) (len : ℕ) (items : List (List ℕ)) (text : List ℕ)
    → ForSome (blocks_of copy.serial rack) (λ bs. items ≡ take (blocks_for len) (drop copy.first bs)) → text ≡ take len (joined items) → IsTapeText (told_reels rack) copy len text
tape_text_is rack are copy len items text found is r there on blocks told low =
    is ∙ ap (λ (bs : List (List ℕ)). take len (joined bs)) (found blocks (blocks_there rack copy.serial r (told_apart rack are) there on ∙ told))

not_fault : (e : TapeFault) → (let none : Option TapeFault = None in none ≡ Some e) → ⊥
not_fault e is = cc

other_fault : Some tape.NotMounted ≡ Some tape.NoTape → ⊥
other_fault is = cc

no_blocks : (bs : List (List ℕ)) → (let none : Option (List (List ℕ)) = None in none ≡ Some bs) → ⊥
no_blocks bs is = cc

-- the reel isn't in the rack, or has no block at the place
pub tape_text_none : (rack : Rack) → AreReels rack.reels → (copy : TapeCopy) (len : ℕ) (text : List ℕ) → refuses_unmount (reel copy.serial rack.reels) ≡ Some tape.NoTape → IsTapeText (told_reels rack) copy len text
tape_text_none rack are copy len text refused r there on blocks told low =
    absurd (no_tape (reel copy.serial rack.reels) refused (blocks_there rack copy.serial r (told_apart rack are) there on ∙ told))
  where
    no_tape : (o : Option Reel) → refuses_unmount o ≡ Some tape.NoTape → blocks_in o ≡ Some blocks → ⊥
    no_tape None is at = no_blocks blocks at
    no_tape (Some q) is at = by_mounted q.mounted is
      where
        by_mounted : (b : Bool) → cond b None (Some tape.NotMounted) ≡ Some tape.NoTape → ⊥
        by_mounted true is = not_fault tape.NoTape is
        by_mounted false is = other_fault is

-- a reel that is mounted isn't refused
pub not_unmounted : {A : Type 0} (rack : Rack) (serial : ℕ) → All (λ r. r.mounted ≡ true) (told_reels rack) → refuses_unmount (reel serial rack.reels) ≡ Some tape.NotMounted → A
not_unmounted rack serial mounted refused = absurd (in_reels rack.reels mounted refused)
  where
    in_reels : (rs : List Reel) → All (λ r. r.mounted ≡ true) (map unread rs) → refuses_unmount (reel serial rs) ≡ Some tape.NotMounted → ⊥
    in_reels [] all is = other_fault (sym is)
    in_reels (q ∷ qs) all is = by_serial (cases_eq serial q.serial) (in_reels qs (All-tail (λ r. r.mounted ≡ true) (unread q) (map unread qs) all))
      where
        by_serial : (serial ≡ q.serial) ⊎ (serial ≡ q.serial → ⊥) → (refuses_unmount (reel serial qs) ≡ Some tape.NotMounted → ⊥) → ⊥
        by_serial (inl same) rest =
            let here : reel serial (q ∷ qs) ≡ Some q = cond-true (serial == q.serial) (Some q) (reel serial qs) (eq-eqb serial q.serial same) in
            let up : q.mounted ≡ true = All-head (λ r. r.mounted ≡ true) (unread q) (map unread qs) all in
            let free : refuses_unmount (Some q) ≡ None = cond-true q.mounted None (Some tape.NotMounted) up in
            not_fault tape.NotMounted (sym free ∙ ap refuses_unmount (sym here) ∙ is)
        by_serial (inr other) rest =
            rest (ap refuses_unmount (sym (cond-false (serial == q.serial) (Some q) (reel serial qs) (ne_eqb serial q.serial other))) ∙ is)

-- BLOCK BY BLOCK
pub take_min : (n : ℕ) (block : List ℕ) → length block ≡ 512 → take (min n 512) block ≡ take n block
take_min n block long = by_order (le_or n 512)
  where
    le_or : (a b : ℕ) → (a ≤ b) ⊎ (b ≤ a)
    le_or zero b = inl (omega arith)
    le_or (suc a) zero = inr (omega arith)
    le_or (suc a) (suc b) = later (le_or a b)
      where
        later : (a ≤ b) ⊎ (b ≤ a) → (suc a ≤ suc b) ⊎ (suc b ≤ suc a)
        later (inl le) = inl (omega (arith, le))
        later (inr ge) = inr (omega (arith, ge))

    by_order : (n ≤ 512) ⊎ (512 ≤ n) → take (min n 512) block ≡ take n block
    by_order (inl le) = ap (λ (m : ℕ). take m block) (omega (arith, le))
    by_order (inr ge) = take_all (min n 512) block (omega (arith, ge, long)) ∙ sym (take_all n block (omega (arith, ge, long)))

take_none : (ys : List ℕ) → take 0 ys ≡ []
take_none [] = refl
take_none (y ∷ ys) = refl

take_two : (len : ℕ) (xs ys : List ℕ) → take len (xs ++ ys) ≡ take len xs ++ take (len - length (take len xs)) ys
take_two zero [] ys = refl
take_two zero (x ∷ xs) ys = sym (take_none ys)
take_two (suc len) [] ys =
    let same : suc len ≡ suc len - 0 = omega arith in
    ap (λ (m : ℕ). take m ys) same
take_two (suc len) (x ∷ xs) ys =
    let t : List ℕ = take len xs in
    let rest : len - length t ≡ suc len - length (x ∷ t) = omega arith in
    ap (λ (zs : List ℕ). x ∷ zs) (take_two len xs ys) ∙ ap (λ (m : ℕ). x ∷ (t ++ take m ys)) rest

pub text_step : (len i : ℕ) (blocks : List (List ℕ)) (block bytes new : List ℕ) → i < length blocks → block ≡ get_or blocks i block → bytes ≡ take len (joined (take i blocks))
    → new ≡ bytes ++ take (len - length bytes) block → new ≡ take len (joined (take (i + 1) blocks))
text_step len i blocks block bytes new inside at so is =
    is ∙ ap (λ (xs : List ℕ). xs ++ take (len - length xs) block) so
    ∙ sym (take_two len (joined (take i blocks)) block)
    ∙ ap (take len) (sym (ap joined (take_more blocks i block inside ∙ ap (λ (b : List ℕ). take i blocks ++ b ∷ []) (sym at)) ∙ flat_map-append (λ (b : List ℕ). b) (take i blocks) (block ∷ [])
    ∙ ap (λ (xs : List ℕ). joined (take i blocks) ++ xs) (append_nil block)))
  where
    append_nil : (xs : List ℕ) → xs ++ [] ≡ xs
    append_nil [] = refl
    append_nil (x ∷ xs) = ap (λ (ys : List ℕ). x ∷ ys) (append_nil xs)

pub text_next : (len i : ℕ) (blocks : List (List ℕ)) (other bytes new : List ℕ) → i < length blocks → bytes ≡ take len (joined (take i blocks))
    → new ≡ bytes ++ take (len - length bytes) (get_or blocks i other) → new ≡ take len (joined (take (i + 1) blocks))
text_next len i blocks other bytes new inside so is =
    text_step len i blocks (get_or blocks i other) bytes new inside (get_or_default blocks i other (get_or blocks i other) inside) so is

-- TEXTS IN MEMORY
if_place : (P : TapeCopy → List Reel → Type 0) (old mid : List Reel) (o : Option TapeCopy) → mid ≡ old → IfSome o (λ c. P c mid) → IfSome o (λ c. P c old)
if_place P old mid o same is = subst (λ (rs : List Reel). IfSome o (λ c. P c rs)) same is

pub agree_at : (old mid : List Reel) (len : ℕ) (there : Option (List ℕ)) (first second : Option TapeCopy) (x y : List ℕ) → mid ≡ old → IfSome first (λ c. IsTapeText old c len x)
    → IfSome second (λ c. IsTapeText mid c len y) → AllAgree there first x second y → AgreeAt old len there first second
agree_at old mid len there first second x y same read_x read_y agree = record {
  x = x;
  y = y;
  first_is = read_x;
  second_is = if_place (λ c rs. IsTapeText rs c len y) old mid second same read_y;
  disc_first = agree.disc_first;
  disc_second = agree.disc_second;
  both = agree.both;
}

pub differ_at : (old mid : List Reel) (len : ℕ) (there : Option (List ℕ)) (first second : Option TapeCopy) (x y : List ℕ) → mid ≡ old → IfSome first (λ c. IsTapeText old c len x)
    → IfSome second (λ c. IsTapeText mid c len y) → (p : Lie × Lie) → TwoDiffer there first x second y p.0 p.1 → DifferAt old len there first second p.0 p.1
differ_at old mid len there first second x y same read_x read_y p differ = record {
  x = differ.s;
  y = differ.t;
  one_is = read_at p.0 differ.s differ.one_is;
  other_is = read_at p.1 differ.t differ.other_is;
  differ = differ.differ;
}
  where
    text_of_place : (o : Option TapeCopy) (copy : TapeCopy) (t : List ℕ) → o ≡ Some copy → IfSome o (λ c. IsTapeText old c len t) → IsTapeText old copy len t
    text_of_place o copy t at is = subst (λ (q : Option TapeCopy). IfSome q (λ c. IsTapeText old c len t)) at is

    read_at : (lie : Lie) (t : List ℕ) → LiesHere there first x second y lie t → WasReadAt old len there first second lie t
    read_at Disc t is = is
    read_at (Tape copy) t (inl (at, t_is)) = (inl at, subst (λ (z : List ℕ). IsTapeText old copy len z) (sym t_is) (text_of_place first copy x at read_x))
    read_at (Tape copy) t (inr (at, t_is)) =
        (inr at, subst (λ (z : List ℕ). IsTapeText old copy len z) (sym t_is) (text_of_place second copy y at (if_place (λ c rs. IsTapeText rs c len y) old mid second same read_y)))

-- FOR A FILE
module _ (held : Option (List (List ℕ))) (size : ℕ) (dirs : Dirs) (sound : IsSound size dirs) (dumped : List FileRec) (r : FileRec) (in_files : Contains dirs.files.items r) where
  compared : (there : Option (List ℕ)) (place second : Option TapeCopy) → IsDiscText held (copy_at dirs.online.items r.number) there
      → IfSome there (λ bytes. (c : DiscCopy) × (copy_at dirs.online.items r.number ≡ Some c) × (length bytes ≡ c.len)) → IsDumpedPlace dumped r.stamp place → IsSecond r.tape place second
      → AreCompared held dirs.online.items dumped r there second
  compared there place second text long named is = record { there_is = text; long = long_there there long; place = place; place_is = named; second_is = is }
    where
      long_there : (o : Option (List ℕ)) → IfSome o (λ bytes. (c : DiscCopy) × (copy_at dirs.online.items r.number ≡ Some c) × (length bytes ≡ c.len)) → IfSome o (λ bytes. length bytes ≡ r.len)
      long_there None is = tt
      long_there (Some bytes) (c, at, same) = same ∙ copy_len held dirs size sound r in_files c at

  pub file_agrees : (reels : List Reel) (there : Option (List ℕ)) (place second : Option TapeCopy) → IsDiscText held (copy_at dirs.online.items r.number) there
      → IfSome there (λ bytes. (c : DiscCopy) × (copy_at dirs.online.items r.number ≡ Some c) × (length bytes ≡ c.len)) → IsDumpedPlace dumped r.stamp place → IsSecond r.tape place second
      → AgreeAt reels r.len there r.tape second → FileAgrees held reels dirs.online.items dumped r
  file_agrees reels there place second text long named is agree = record { there = there; second = second; compared = compared there place second text long named is; agree = agree }

  pub file_differs : (reels : List Reel) (there : Option (List ℕ)) (place second : Option TapeCopy) → IsDiscText held (copy_at dirs.online.items r.number) there
      → IfSome there (λ bytes. (c : DiscCopy) × (copy_at dirs.online.items r.number ≡ Some c) × (length bytes ≡ c.len)) → IsDumpedPlace dumped r.stamp place → IsSecond r.tape place second
      → (p : Lie × Lie) → DifferAt reels r.len there r.tape second p.0 p.1 → FileDiffers held reels dirs.online.items dumped r p.0 p.1
  file_differs reels there place second text long named is p differ = record { there = there; second = second; compared = compared there place second text long named is; differ = differ }

pub owner_in : (size : ℕ) (dirs : Dirs) → IsSound size dirs → (files : List FileRec) (users : List UserRec) → files ≡ dirs.files.items → users ≡ dirs.users.items → (i : ℕ) (r : FileRec) → i < length files
    → r ≡ get_or files i r → r.owner < length users
owner_in size dirs sound files users files_are users_are i r inside at =
    subst (λ (us : List UserRec). r.owner < length us) (sym users_are)
    (subst (λ (s : FileRec). s.owner < length dirs.users.items) (sym at)
    (subst (All (λ (s : FileRec). s.owner < length dirs.users.items)) (sym files_are) (owners_there size dirs sound) i r inside))

pub owners_in : (size : ℕ) (dirs : Dirs) → IsSound size dirs → (files : List FileRec) (users : List UserRec) → files ≡ dirs.files.items → users ≡ dirs.users.items → All (λ r. r.owner < length users) files
owners_in size dirs sound files users files_are users_are =
    subst (λ (us : List UserRec). All (λ (r : FileRec). r.owner < length us) files) (sym users_are)
    (subst (All (λ (s : FileRec). s.owner < length dirs.users.items)) (sym files_are) (owners_there size dirs sound))

-- THE RESULT OF A COMPARISON
module _ (held : Option (List (List ℕ))) (size : ℕ) (dirs : Dirs) (sound : IsSound size dirs) (dumped : List FileRec) (r : FileRec) (in_files : Contains dirs.files.items r) (reels : List Reel)
    (there : Option (List ℕ)) (place second : Option TapeCopy) (online : List (ℕ × DiscCopy)) (online_is : online ≡ dirs.online.items) (text : IsDiscText held (copy_at online r.number) there)
    (long : IfSome there (λ bytes. (c : DiscCopy) × (copy_at online r.number ≡ Some c) × (length bytes ≡ c.len))) (named : IsDumpedPlace dumped r.stamp place) (is : IsSecond r.tape place second) where
  text_is : IsDiscText held (copy_at dirs.online.items r.number) there
  text_is = subst (λ (cs : List (ℕ × DiscCopy)). IsDiscText held (copy_at cs r.number) there) online_is text

  long_is : IfSome there (λ bytes. (c : DiscCopy) × (copy_at dirs.online.items r.number ≡ Some c) × (length bytes ≡ c.len))
  long_is = subst (λ (cs : List (ℕ × DiscCopy)). IfSome there (λ bytes. (c : DiscCopy) × (copy_at cs r.number ≡ Some c) × (length bytes ≡ c.len))) online_is long

  differs_some : (pair : Option (Lie × Lie)) → IfSome pair (λ p. DifferAt reels r.len there r.tape second p.0 p.1) → IfSome pair (λ p. FileDiffers held reels dirs.online.items dumped r p.0 p.1)
  differs_some None differ = tt
  differs_some (Some p) differ = file_differs held size dirs sound dumped r in_files reels there place second text_is long_is named is p differ

  agrees_none : (pair : Option (Lie × Lie)) → IfNone pair (AgreeAt reels r.len there r.tape second) → IfNone pair (FileAgrees held reels dirs.online.items dumped r)
  agrees_none None agree = file_agrees held size dirs sound dumped r in_files reels there place second text_is long_is named is agree
  agrees_none (Some p) agree = tt

  pub differs_ok : (result : Result (Option (Lie × Lie)) LookFault) → IfOk result (λ pair. IfSome pair (λ p. DifferAt reels r.len there r.tape second p.0 p.1))
      → IfOk result (λ pair. IfSome pair (λ p. FileDiffers held reels dirs.online.items dumped r p.0 p.1))
  differs_ok (Ok pair) differ = differs_some pair differ
  differs_ok (Err e) differ = tt

  pub agrees_ok : (result : Result (Option (Lie × Lie)) LookFault) → IfOk result (λ pair. IfNone pair (AgreeAt reels r.len there r.tape second))
      → IfOk result (λ pair. IfNone pair (FileAgrees held reels dirs.online.items dumped r))
  agrees_ok (Ok pair) agree = agrees_none pair agree
  agrees_ok (Err e) agree = tt

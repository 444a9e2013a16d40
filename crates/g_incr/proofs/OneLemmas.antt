-- Two dumps with the same blocks are one.
-- serves: HeaderLemmas, RecordsLemmas, crates above
use Rattle.std.proofs.Common.{◌≡◌, ◌⊎◌, ℕ, suc, ◌+◌, ◌-◌, ◌<◌, ◌≤◌, Bool, true, false, List, [], ◌∷◌, ◌++◌, length, get_or, take, drop, replicate, Some, None, refl, sym, ◌∙◌, ap, arith, slice_get, subst, inl, inr}
use Rattle.std.specs.Prelude.{◌==◌, ◌||◌, map, codes, All, IfSome, option_map, if◌then◌else◌, slice_index}
use Rattle.std.specs.List.Sorted.{IsStrictlyIncreasing}
use Rattle.std.proofs.lemmas.Bool.{both_ways, cases_eq, cases_lt, cases_order, eq-eqb, ne_eqb, or_from, or_left}
use Rattle.std.proofs.lemmas.List.{append_assoc, length-map, take_at, drop_at, same_lists}
use Rattle.std.proofs.lemmas.Option.{slice_get-map, slice_get-get_or, same_Some}
use Rattle.g_base.specs.Fields.{number, padded}
use Rattle.g_base.proofs.FieldLemmas.{same_bytes, same_number}
use Rattle.g_entry.specs.declared.format.Format.{Format}
use Rattle.g_entry.specs.declared.file_rec.FileRec.{FileRec}
use Rattle.g_entry.specs.declared.user_rec.UserRec.{UserRec}
use Rattle.g_entry.specs.FileFields.{ArePlaces, IsFile, file_block}
use Rattle.g_entry.specs.Formats.{format_number}
use Rattle.g_entry.specs.UserFields.{IsUser, user_block}
use Rattle.g_entry.proofs.OneEncoding.{file_again, same_format, user_held_again}
use Rattle.g_entry.proofs.RecordLemmas.{format_fits}
use Rattle.g_incr.specs.Layout.{Dump, IsDump, count_of, dump_blocks, header_block, header_fields, holds, mark_block, numbers_in, user_in, file_in}

-- Two lists of equal length that precede the same blocks.
pub same_front : (xs ys a b : List (List ℕ)) → length xs ≡ length ys → xs ++ a ≡ ys ++ b → (xs ≡ ys) × (a ≡ b)
same_front xs ys a b long is = (
  sym (take_at xs a (length xs) refl) ∙ ap (take (length xs)) is ∙ take_at ys b (length xs) (sym long),
  sym (drop_at xs a (length xs) refl) ∙ ap (drop (length xs)) is ∙ drop_at ys b (length xs) (sym long),
)

abbrev pub header_zeros : Dump → List ℕ
header_zeros d = replicate (512 - length (header_fields d)) 0

pub header_peeled : (d : Dump) → header_block d
    ≡ codes "G3HD" ++ (number 2 (format_number d.format) ++ (number 8 d.number ++ (number 4 d.place ++ (number 4 (count_of d)
    ++ (number 2 (length d.users) ++ (number 2 (length d.files) ++ (number 8 d.next ++ header_zeros d)))))))
unfolding header_fields padded
header_peeled d = simp append_assoc

-- The facts that a header determines.
pub record SameHeader (d e : Dump) : Type 0 where
  pub format : d.format ≡ e.format
  pub number : d.number ≡ e.number
  pub count : count_of d ≡ count_of e
  pub users : length d.users ≡ length e.users
  pub files : length d.files ≡ length e.files
  pub next : d.next ≡ e.next

pub same_header : (d e : Dump) → IsDump d → IsDump e → header_block d ≡ header_block e → SameHeader d e
same_header d e is_d is_e is =
    let a6 : List ℕ = number 8 d.next ++ header_zeros d in
    let b6 : List ℕ = number 8 e.next ++ header_zeros e in
    let a5 : List ℕ = number 2 (length d.files) ++ a6 in
    let b5 : List ℕ = number 2 (length e.files) ++ b6 in
    let a4 : List ℕ = number 2 (length d.users) ++ a5 in
    let b4 : List ℕ = number 2 (length e.users) ++ b5 in
    let a3 : List ℕ = number 4 (count_of d) ++ a4 in
    let b3 : List ℕ = number 4 (count_of e) ++ b4 in
    let a2 : List ℕ = number 4 d.place ++ a3 in
    let b2 : List ℕ = number 4 e.place ++ b3 in
    let a1 : List ℕ = number 8 d.number ++ a2 in
    let b1 : List ℕ = number 8 e.number ++ b2 in
    let a0 : List ℕ = number 2 (format_number d.format) ++ a1 in
    let b0 : List ℕ = number 2 (format_number e.format) ++ b1 in
    let number_d = is_d.number in let number_e = is_e.number in
    let place_d = is_d.place in let place_e = is_e.place in
    let count_d = is_d.count in let count_e = is_e.count in
    let users_d = is_d.users.few in let users_e = is_e.users.few in
    let files_d = is_d.files.few in let files_e = is_e.files.few in
    let next_d = is_d.last in let next_e = is_e.last in
    let fits_d = format_fits d.format in let fits_e = format_fits e.format in
    let s0 = same_bytes 4 (codes "G3HD") (codes "G3HD") a0 b0 refl refl (sym (header_peeled d) ∙ is ∙ header_peeled e) in
    let s1 = same_number 2 (format_number d.format) (format_number e.format) a1 b1 (omega arith) (omega arith) s0.1 in
    let s2 = same_number 8 d.number e.number a2 b2 (omega arith) (omega arith) s1.1 in
    let s3 = same_number 4 d.place e.place a3 b3 (omega arith) (omega arith) s2.1 in
    let s4 = same_number 4 (count_of d) (count_of e) a4 b4 (omega arith) (omega arith) s3.1 in
    let s5 = same_number 2 (length d.users) (length e.users) a5 b5 (omega arith) (omega arith) s4.1 in
    let s6 = same_number 2 (length d.files) (length e.files) a6 b6 (omega arith) (omega arith) s5.1 in
    let s7 = same_number 8 d.next e.next (header_zeros d) (header_zeros e) (omega arith) (omega arith) s6.1 in
    record { format = same_format d.format e.format s1.0; number = s2.0; count = s4.0; users = s5.0; files = s6.0; next = s7.0 }

-- users have the numbers of their places
abbrev pub IsNumbered : List UserRec → Type 0
IsNumbered users = (i : ℕ) (u : UserRec) → slice_get users i ≡ Some u → u.number ≡ i

-- USERS: equal blocks are of equal users, each with one flag
pub at_users : (format : Format) (h k : ℕ → ℕ) (us vs : List UserRec) → IsNumbered us → IsNumbered vs → All (IsUser format) us → All (IsUser format) vs → length us ≡ length vs
    → map (λ u. user_block format (h u.number) u) us ≡ map (λ u. user_block format (k u.number) u) vs
    → (i : ℕ) (d : UserRec) → i < length us → (get_or us i d ≡ get_or vs i d) × (h i ≡ k i)
at_users format h k us vs are_us are_vs all_us all_vs long is i d within =
    let u = get_or us i d in
    let v = get_or vs i d in
    let inside : i < length vs = omega arith in
    let at_u : slice_get us i ≡ Some u = slice_get-get_or us i d within in
    let at_v : slice_get vs i ≡ Some v = slice_get-get_or vs i d inside in
    let of_u : u.number ≡ i = are_us i u at_u in
    let of_v : v.number ≡ i = are_vs i v at_v in
    let block_u : List ℕ = user_block format (h u.number) u in
    let block_v : List ℕ = user_block format (k v.number) v in
    let there : Some block_u ≡ Some block_v =
    sym (slice_get-map (λ (w : UserRec). user_block format (h w.number) w) us i ∙ ap (option_map (λ (w : UserRec). user_block format (h w.number) w)) at_u)
    ∙ ap (λ (l : List (List ℕ)). slice_get l i) is
    ∙ (slice_get-map (λ (w : UserRec). user_block format (k w.number) w) vs i ∙ ap (option_map (λ (w : UserRec). user_block format (k w.number) w)) at_v) in
    let one = user_held_again format (h u.number) (k v.number) u v (all_us i d within) (all_vs i d inside) (of_u ∙ sym of_v) (same_Some block_u block_v there) in
    (one.0, ap h (sym of_u) ∙ one.1 ∙ ap k of_v)

-- FILES: on tape there are no block numbers
pub no_numbers : (format : Format) (r : FileRec) → IfSome (numbers_in r) (ArePlaces format r.len)
no_numbers format r = by_length (cases_eq r.len 0)
  where
    by_length : (r.len ≡ 0) ⊎ (r.len ≡ 0 → ⊥) → IfSome (numbers_in r) (ArePlaces format r.len)
    by_length (inl is) = subst (λ (n : ℕ). IfSome (if n == 0 then Some [] else None) (ArePlaces format n)) (sym is) (record { count = refl; each = refl })
    by_length (inr not) = subst (λ (b : Bool). IfSome (if b then Some [] else None) (ArePlaces format r.len)) (sym (ne_eqb r.len 0 not)) tt

pub same_files : (format : Format) (rs ss : List FileRec) → ((i : ℕ) (r : FileRec) → slice_get rs i ≡ Some r → r.number ≡ i) → ((i : ℕ) (r : FileRec) → slice_get ss i ≡ Some r → r.number ≡ i)
    → All IsFile rs → All IsFile ss → length rs ≡ length ss
    → map (λ r. file_block format r (numbers_in r)) rs ≡ map (λ r. file_block format r (numbers_in r)) ss → rs ≡ ss
same_files format rs ss num_r num_s all_r all_s long is = same_lists rs ss long (λ i d within.
    let r = get_or rs i d in
    let s = get_or ss i d in
    let inside : i < length ss = omega arith in
    let at_r : slice_get rs i ≡ Some r = slice_get-get_or rs i d within in
    let at_s : slice_get ss i ≡ Some s = slice_get-get_or ss i d inside in
    let block_r : List ℕ = file_block format r (numbers_in r) in
    let block_s : List ℕ = file_block format s (numbers_in s) in
    let there : Some block_r ≡ Some block_s =
    sym (slice_get-map (λ (w : FileRec). file_block format w (numbers_in w)) rs i ∙ ap (option_map (λ (w : FileRec). file_block format w (numbers_in w))) at_r)
    ∙ ap (λ (l : List (List ℕ)). slice_get l i) is
    ∙ (slice_get-map (λ (w : FileRec). file_block format w (numbers_in w)) ss i ∙ ap (option_map (λ (w : FileRec). file_block format w (numbers_in w))) at_s) in
    (file_again format r s (numbers_in r) (numbers_in s) (all_r i d within) (all_s i d inside) (no_numbers format r) (no_numbers format s) (num_r i r at_r ∙ sym (num_s i s at_s)) (same_Some block_r block_s there)).0)

-- Held users: an increasing list of numbers is determined by its members.
abbrev pub RisesFrom : ℕ → List ℕ → Type 0
RisesFrom a [] = Unit {0}
RisesFrom a (x ∷ xs) = (a ≤ x) × RisesFrom (x + 1) xs

-- The tail of a strictly increasing list, whose first number is greater than the head.
rising_tail : (x : ℕ) (xs : List ℕ) → IsStrictlyIncreasing (x ∷ xs) → IsStrictlyIncreasing xs
rising_tail x xs rising k within =
    let next : suc k + 1 ≡ suc (k + 1) = omega arith in
    subst (λ (n : ℕ). slice_index (x ∷ xs) (suc k) < slice_index (x ∷ xs) n) next (rising (suc k) (omega (arith, within)))

rises_from : (a : ℕ) (xs : List ℕ) → ((d : ℕ) → 0 < length xs → a ≤ get_or xs 0 d) → IsStrictlyIncreasing xs → RisesFrom a xs
rises_from a [] least rising = tt
rises_from a (x ∷ []) least rising = (least 0 (omega arith), tt)
rises_from a (x ∷ y ∷ ys) least rising =
    let first : x < y = rising 0 (omega arith) in
    (least 0 (omega arith), rises_from (x + 1) (y ∷ ys) (λ d within. omega arith) (rising_tail x (y ∷ ys) rising))

pub not_below : (a n : ℕ) (xs : List ℕ) → RisesFrom a xs → n < a → holds xs n ≡ false
not_below a n [] rises below = refl
not_below a n (x ∷ xs) rises below =
    let first = rises.0 in
    or_from (x == n) (holds xs n) (ne_eqb x n (λ same. omega arith)) (not_below (x + 1) n xs rises.1 (omega arith))

pub first_held : (x : ℕ) (xs : List ℕ) → holds (x ∷ xs) x ≡ true
first_held x xs = or_left (x == x) (holds xs x) (eq-eqb x x refl)

pub rest_held : (x n : ℕ) (xs : List ℕ) → x < n → holds (x ∷ xs) n ≡ holds xs n
rest_held x n xs above = ap (λ (b : Bool). b || holds xs n) (ne_eqb x n (λ same. omega arith))

same_rising : (a : ℕ) (xs ys : List ℕ) → RisesFrom a xs → RisesFrom a ys → ((n : ℕ) → a ≤ n → holds xs n ≡ holds ys n) → xs ≡ ys
same_rising a [] [] rise_x rise_y same = refl
same_rising a [] (y ∷ ys) rise_x rise_y same = let no : ⊥ = both_ways (holds (y ∷ ys) y) (sym (same y rise_y.0)) (first_held y ys) in absurd no
same_rising a (x ∷ xs) [] rise_x rise_y same = let no : ⊥ = both_ways (holds (x ∷ xs) x) (same x rise_x.0) (first_held x xs) in absurd no
same_rising a (x ∷ xs) (y ∷ ys) rise_x rise_y same =
    by_order (cases_order x y) (λ is.
    same_rising (x + 1) xs ys rise_x.1 (subst (λ (n : ℕ). RisesFrom (n + 1) ys) (sym is) rise_y.1)
    (λ n above. sym (rest_held x n xs (omega arith)) ∙ same n (let le = rise_x.0 in omega arith) ∙ rest_held y n ys (omega (arith, is))))
  where
    by_order : (x ≡ y) ⊎ ((x < y) ⊎ (y < x)) → (x ≡ y → xs ≡ ys) → x ∷ xs ≡ y ∷ ys
    by_order (inl is) rest = ap (λ (n : ℕ). n ∷ xs) is ∙ ap (λ (l : List ℕ). y ∷ l) (rest is)
    by_order (inr (inl below)) rest =
        let no : ⊥ = both_ways (holds (y ∷ ys) x) (not_below y x (y ∷ ys) (omega arith, rise_y.1) below) (sym (same x rise_x.0) ∙ first_held x xs) in absurd no
    by_order (inr (inr below)) rest =
        let no : ⊥ = both_ways (holds (x ∷ xs) y) (not_below x y (x ∷ xs) (omega arith, rise_x.1) below) (same y rise_y.0 ∙ first_held y ys) in absurd no

pub none_beyond : (m n : ℕ) (xs : List ℕ) → All (λ x. x < m) xs → m ≤ n → holds xs n ≡ false
none_beyond m n [] all le = refl
none_beyond m n (x ∷ xs) all le =
    let first : x < m = all 0 x (omega arith) in
    or_from (x == n) (holds xs n) (ne_eqb x n (λ same. omega arith)) (none_beyond m n xs (λ k d within. all (suc k) d (omega (arith, within))) le)

abbrev pub flag_of : List ℕ → ℕ → ℕ
flag_of held n = if holds held n then 1 else 0

same_flags : (a b : Bool) → (let n : ℕ = if a then 1 else 0 in let m : ℕ = if b then 1 else 0 in n ≡ m) → a ≡ b
same_flags true true is = refl
same_flags false false is = refl
same_flags true false is = let no : ⊥ = omega (arith, is) in absurd no
same_flags false true is = let no : ⊥ = omega (arith, is) in absurd no

pub same_cons : (x y : List ℕ) (a b : List (List ℕ)) → x ∷ a ≡ y ∷ b → (x ≡ y) × (a ≡ b)
same_cons x y a b is = (cc, cc)

pub nobody : UserRec
nobody = record { number = 0; user = []; superior = 0; space = 0; time = 0; money = 0 }

pub same_held : (m : ℕ) (a b : List ℕ) → IsStrictlyIncreasing a → IsStrictlyIncreasing b → All (λ n. n < m) a → All (λ n. n < m) b → ((n : ℕ) → n < m → flag_of a n ≡ flag_of b n) → a ≡ b
same_held m a b rise_a rise_b all_a all_b same =
    same_rising 0 a b (rises_from 0 a (λ d within. omega arith) rise_a) (rises_from 0 b (λ d within. omega arith) rise_b) (λ n least. by_bound n (cases_lt n m))
  where
    by_bound : (n : ℕ) → (n < m) ⊎ (m ≤ n) → holds a n ≡ holds b n
    by_bound n (inl below) = same_flags (holds a n) (holds b n) (same n below)
    by_bound n (inr past) = none_beyond m n a all_a past ∙ sym (none_beyond m n b all_b past)

-- The dump at one place of one reel is unique.
pub same_dump : (d e : Dump) → IsDump d → IsDump e → d.serial ≡ e.serial → d.place ≡ e.place → dump_blocks d ≡ dump_blocks e → d ≡ e
unfolding dump_blocks
same_dump d e is_d is_e serial place is =
    let users_d : List (List ℕ) = map (user_in d) d.users in
    let users_e : List (List ℕ) = map (user_in e) e.users in
    let files_d : List (List ℕ) = map (file_in d) d.files in
    let files_e : List (List ℕ) = map (file_in e) e.files in
    let end_d : List (List ℕ) = d.content ++ mark_block d ∷ [] in
    let end_e : List (List ℕ) = e.content ++ mark_block e ∷ [] in
    let first = same_cons (header_block d) (header_block e) (users_d ++ (files_d ++ end_d)) (users_e ++ (files_e ++ end_e)) is in
    let header = same_header d e is_d is_e first.0 in
    let format = header.format in
    let many_users = header.users in
    let many_files = header.files in
    let count = header.count in
    let users_2 = same_front users_d users_e (files_d ++ end_d) (files_e ++ end_e) (length-map d.users (user_in d) ∙ many_users ∙ sym (length-map e.users (user_in e))) first.1 in
    let files_2 = same_front files_d files_e end_d end_e (length-map d.files (file_in d) ∙ many_files ∙ sym (length-map e.files (file_in e))) users_2.1 in
    let content = same_front d.content e.content (mark_block d ∷ []) (mark_block e ∷ []) (omega arith) files_2.1 in
    let of_users : map (λ u. user_block d.format (flag_of d.held u.number) u) d.users ≡ map (λ u. user_block d.format (flag_of e.held u.number) u) e.users =
    users_2.0 ∙ ap (λ (f : Format). map (λ u. user_block f (flag_of e.held u.number) u) e.users) (sym format) in
    let of_files : map (λ r. file_block d.format r (numbers_in r)) d.files ≡ map (λ r. file_block d.format r (numbers_in r)) e.files =
    files_2.0 ∙ ap (λ (f : Format). map (λ r. file_block f r (numbers_in r)) e.files) (sym format) in
    let each_user : All (IsUser d.format) e.users = subst (λ (f : Format). All (IsUser f) e.users) (sym format) is_e.each_user in
    let at = at_users d.format (flag_of d.held) (flag_of e.held) d.users e.users is_d.users.numbered is_e.users.numbered is_d.each_user each_user many_users of_users in
    let users : d.users ≡ e.users = same_lists d.users e.users many_users (λ i default within. (at i default within).0) in
    let files : d.files ≡ e.files = same_files d.format d.files e.files is_d.numbered is_e.numbered is_d.each_file is_e.each_file many_files of_files in
    let below_e : All (λ n. n < length d.users) e.held = subst (λ (m : ℕ). All (λ n. n < m) e.held) (sym many_users) is_e.held_users in
    let held : d.held ≡ e.held = same_held (length d.users) d.held e.held is_d.held is_e.held is_d.held_users below_e (λ n below. (at n nobody below).1) in
    let x : Dump = record { format = d.format; serial = d.serial; place = d.place; number = d.number; next = d.next; users = d.users; held = d.held; files = d.files; content = d.content } in
    let y : Dump = record { format = e.format; serial = e.serial; place = e.place; number = e.number; next = e.next; users = e.users; held = e.held; files = e.files; content = e.content } in
    let numbers = header.number in
    let next = header.next in
    let contents = content.0 in
    let equal : x ≡ y = cc in equal

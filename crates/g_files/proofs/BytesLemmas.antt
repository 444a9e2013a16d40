-- Bytes that are written into others, and parts of them.
-- serves: copy (copied), write_at, write_block (torn), write_whole, BlockFileLemmas, BlockLemmas, CallLemmas, DiscLemmas, FileRackLemmas, and 6 more
use Rattle.std.proofs.Common.{◌≡◌, ℕ, ◌+◌, ◌-◌, ◌<◌, ◌≤◌, List, [], ◌++◌, length, take, drop, get_or, refl, sym, ap, ◌∙◌, inl, inr, arith, length-append, length-take, length-drop}
use Rattle.std.proofs.lemmas.List.{same_lists, get_or_past, append-nil, take-append-drop, get_or_append_left, get_or-append_right, get_or-take, get_or-drop, length-take-le, take-take, take_all}
use Rattle.std.proofs.lemmas.Bool.{cases_lt}
use Rattle.g_files.specs.Bytes.{AreBytes, part, put}

-- HOW LONG

pub length-part : (at n : ℕ) (b : List ℕ) → at + n ≤ length b → length (part at n b) ≡ n
length-part at n b within = omega (arith, within, length-take n (drop at b), length-drop at b)

pub length-put : (at : ℕ) (p b : List ℕ) → at + length p ≤ length b → length (put at p b) ≡ length b
length-put at p b within =
    omega (arith, within, length-append (take at b ++ p) (drop (at + length p) b), length-append (take at b) p, length-take at b, length-drop (at + length p) b)

-- the same if the list grows
pub length-put_any : (at : ℕ) (p b : List ℕ) → at ≤ length b → length (put at p b) ≡ at + length p + (length b - (at + length p))
length-put_any at p b within =
    omega (arith, within, length-append (take at b ++ p) (drop (at + length p) b), length-append (take at b) p, length-take at b, length-drop (at + length p) b)

pub length-put_least : (at : ℕ) (p b : List ℕ) → at ≤ length b → at + length p ≤ length (put at p b)
length-put_least at p b within =
    omega (arith, within, length-append (take at b ++ p) (drop (at + length p) b), length-append (take at b) p, length-take at b, length-drop (at + length p) b)

-- BYTE BY BYTE

front : (at : ℕ) (p b : List ℕ) → at ≤ length b → length (take at b ++ p) ≡ at + length p
front at p b within = omega (arith, within, length-append (take at b) p, length-take at b)

pub get-put_before : (at i d : ℕ) (p b : List ℕ) → at ≤ length b → i < at → get_or (put at p b) i d ≡ get_or b i d
get-put_before at i d p b within before =
    let long : i < length (take at b ++ p) = omega (arith, front at p b within, before) in
    let short : i < length (take at b) = omega (arith, length-take-le at b within, before) in
    get_or_append_left (take at b ++ p) (drop (at + length p) b) d i long ∙ get_or_append_left (take at b) p d i short ∙ get_or-take at b i d before

pub get-put_in : (at i d : ℕ) (p b : List ℕ) → at ≤ length b → at ≤ i → i < at + length p → get_or (put at p b) i d ≡ get_or p (i - at) d
get-put_in at i d p b within from below =
    let long : i < length (take at b ++ p) = omega (arith, front at p b within, below) in
    get_or_append_left (take at b ++ p) (drop (at + length p) b) d i long
    ∙ get_or-append_right (take at b) p at i d (length-take-le at b within) from

pub get-put_behind : (at i d : ℕ) (p b : List ℕ) → at ≤ length b → at + length p ≤ i → get_or (put at p b) i d ≡ get_or b i d
get-put_behind at i d p b within behind =
    let same : at + length p + (i - (at + length p)) ≡ i = omega (arith, behind) in
    get_or-append_right (take at b ++ p) (drop (at + length p) b) (at + length p) i d (front at p b within) behind
    ∙ get_or-drop (at + length p) b (i - (at + length p)) d
    ∙ ap (λ (j : ℕ). get_or b j d) same

pub get-part : (at n i d : ℕ) (b : List ℕ) → i < n → get_or (part at n b) i d ≡ get_or b (at + i) d
get-part at n i d b below = get_or-take n (drop at b) i d below ∙ get_or-drop at b i d

-- WRITING NOTHING, AND WRITING WHAT IS THERE

pub put-nil : (at : ℕ) (b : List ℕ) → put at [] b ≡ b
put-nil at b =
    let same : at + 0 ≡ at = omega arith in
    ap (λ (f : List ℕ). f ++ drop (at + 0) b) (append-nil (take at b)) ∙ ap (λ (n : ℕ). take at b ++ drop n b) same ∙ take-append-drop at b

pub put-part : (at n : ℕ) (b : List ℕ) → at + n ≤ length b → put at (part at n b) b ≡ b
put-part at n b within =
    let long = length-part at n b within in
    same_lists _ _ (length-put at (part at n b) b (omega (arith, long, within))) (λ k d h.
    elim (cases_lt k at) [
      | inl before ↦ get-put_before at k d (part at n b) b (omega (arith, within)) before
      | inr from ↦ elim (cases_lt k (at + n)) [
        | inl below ↦ get-put_in at k d (part at n b) b (omega (arith, within)) from (omega (arith, below, long))
            ∙ get-part at n (k - at) d b (omega (arith, below, from)) ∙ ap (λ (j : ℕ). get_or b j d) (omega (arith, from))
        | inr behind ↦ get-put_behind at k d (part at n b) b (omega (arith, within)) (omega (arith, behind, long))
      ]
    ])

-- TWO WRITES

pub put-put_next : (at : ℕ) (p q b : List ℕ) → at ≤ length b → put (at + length p) q (put at p b) ≡ put at (p ++ q) b
put-put_next at p q b start =
    let both = length-append p q in
    let one = length-put_any at p b start in
    let next : at + length p ≤ length (put at p b) = omega (arith, one) in
    let two = length-put_any (at + length p) q (put at p b) next in
    let all = length-put_any at (p ++ q) b start in
    same_lists _ _ (omega (arith, one, two, all, both)) (λ k d h.
    elim (cases_lt k at) [
      | inl before ↦ get-put_before (at + length p) k d q (put at p b) next (omega (arith, before)) ∙ get-put_before at k d p b start before
          ∙ sym (get-put_before at k d (p ++ q) b start before)
      | inr from ↦ elim (cases_lt k (at + length p)) [
        | inl in_p ↦ get-put_before (at + length p) k d q (put at p b) next in_p ∙ get-put_in at k d p b start from in_p
            ∙ sym (get-put_in at k d (p ++ q) b start from (omega (arith, in_p, both)) ∙ get_or_append_left p q d (k - at) (omega (arith, in_p, from)))
        | inr past ↦ elim (cases_lt k (at + length p + length q)) [
          | inl in_q ↦ get-put_in (at + length p) k d q (put at p b) next past in_q
              ∙ ap (λ (j : ℕ). get_or q j d) (omega (arith, past, from))
              ∙ sym (get-put_in at k d (p ++ q) b start from (omega (arith, in_q, both))
              ∙ get_or-append_right p q (length p) (k - at) d refl (omega (arith, past, from)))
          | inr behind ↦ get-put_behind (at + length p) k d q (put at p b) next behind ∙ get-put_behind at k d p b start (omega (arith, behind))
              ∙ sym (get-put_behind at k d (p ++ q) b start (omega (arith, behind, both)))
        ]
      ]
    ])

-- a write over a shorter one replaces it
pub put-put_over : (at : ℕ) (p left b : List ℕ) → length left ≤ length p → at + length p ≤ length b → put at p (put at left b) ≡ put at p b
put-put_over at p left b few within =
    let start : at ≤ length b = omega (arith, within) in
    let one = length-put at left b (omega (arith, within, few)) in
    let two = length-put at p (put at left b) (omega (arith, within, one)) in
    let all = length-put at p b within in
    let start' : at ≤ length (put at left b) = omega (arith, start, one) in
    same_lists _ _ (two ∙ one ∙ sym all) (λ k d h.
    elim (cases_lt k at) [
      | inl before ↦ get-put_before at k d p (put at left b) start' before ∙ get-put_before at k d left b start before
          ∙ sym (get-put_before at k d p b start before)
      | inr from ↦ elim (cases_lt k (at + length p)) [
        | inl inside ↦ get-put_in at k d p (put at left b) start' from inside ∙ sym (get-put_in at k d p b start from inside)
        | inr behind ↦ get-put_behind at k d p (put at left b) start' behind ∙ get-put_behind at k d left b start (omega (arith, behind, few))
            ∙ sym (get-put_behind at k d p b start behind)
      ]
    ])

-- PARTS AFTER A WRITE

pub part-put_in : (at n a : ℕ) (p b : List ℕ) → a + length p ≤ length b → a ≤ at → at + n ≤ a + length p → part at n (put a p b) ≡ part (at - a) n p
part-put_in at n a p b within from below =
    let whole = length-put a p b within in
    same_lists _ _ (length-part at n (put a p b) (omega (arith, within, whole, below)) ∙ sym (length-part (at - a) n p (omega (arith, from, below)))) (λ k d h.
    let here : k < n = omega (arith, h, length-part at n (put a p b) (omega (arith, within, whole, below))) in
    get-part at n k d (put a p b) here ∙ get-put_in a (at + k) d p b (omega (arith, within)) (omega (arith, from)) (omega (arith, below, here))
    ∙ ap (λ (j : ℕ). get_or p j d) (omega (arith, from)) ∙ sym (get-part (at - a) n k d p here))

pub part-put_before : (at n a : ℕ) (p b : List ℕ) → a + length p ≤ length b → at + n ≤ a → part at n (put a p b) ≡ part at n b
part-put_before at n a p b within before =
    let whole = length-put a p b within in
    let long = length-part at n (put a p b) (omega (arith, within, whole, before)) in
    same_lists _ _ (long ∙ sym (length-part at n b (omega (arith, within, before)))) (λ k d h.
    let here : k < n = omega (arith, h, long) in
    get-part at n k d (put a p b) here ∙ get-put_before a (at + k) d p b (omega (arith, within)) (omega (arith, before, here)) ∙ sym (get-part at n k d b here))

pub part-put_behind : (at n a : ℕ) (p b : List ℕ) → a + length p ≤ length b → a + length p ≤ at → at + n ≤ length b → part at n (put a p b) ≡ part at n b
part-put_behind at n a p b within behind all =
    let whole = length-put a p b within in
    let long = length-part at n (put a p b) (omega (arith, whole, all)) in
    same_lists _ _ (long ∙ sym (length-part at n b all)) (λ k d h.
    let here : k < n = omega (arith, h, long) in
    get-part at n k d (put a p b) here ∙ get-put_behind a (at + k) d p b (omega (arith, within)) (omega (arith, behind)) ∙ sym (get-part at n k d b here))

pub part-part : (i n a m : ℕ) (b : List ℕ) → i + n ≤ m → a + m ≤ length b → part i n (part a m b) ≡ part (a + i) n b
part-part i n a m b few within =
    let whole = length-part a m b within in
    let long = length-part i n (part a m b) (omega (arith, whole, few)) in
    same_lists _ _ (long ∙ sym (length-part (a + i) n b (omega (arith, within, few)))) (λ k d h.
    let here : k < n = omega (arith, h, long) in
    get-part i n k d (part a m b) here ∙ get-part a m (i + k) d b (omega (arith, few, here)) ∙ ap (λ (j : ℕ). get_or b j d) (omega arith)
    ∙ sym (get-part (a + i) n k d b here))

-- a part of a file, truncated, is a part of it
pub fresh_cut : (at m : ℕ) (x b : List ℕ) → x ≡ part at (length x) b → take m x ≡ part at (length (take m x)) b
fresh_cut at m x b fresh = elim (cases_lt (length x) m) [
  | inl more ↦ let all : take m x ≡ x = take_all m x (omega (arith, more)) in rw all fresh
  | inr few ↦
      let long : length (take m x) ≡ m = length-take-le m x few in
      rw long (ap (take m) fresh ∙ take-take m (length x) (drop at b) few)
]

-- and remains one if only later bytes of the file change
pub fresh_behind : (at a : ℕ) (x p b : List ℕ) → a + length p ≤ length b → at + length x ≤ a → x ≡ part at (length x) b → x ≡ part at (length x) (put a p b)
fresh_behind at a x p b within before fresh = fresh ∙ sym (part-put_before at (length x) a p b within before)

pub part-none : (at : ℕ) (b : List ℕ) → [] ≡ part at 0 b
part-none at b = refl

pub part_take : (i n m : ℕ) (b : List ℕ) → i + n ≤ m → m ≤ length b → part i n (take m b) ≡ part i n b
part_take i n m b few within = part-part i n 0 m b few (omega (arith, within)) ∙ ap (λ (j : ℕ). part j n b) (omega arith)

-- EACH A BYTE

pub AreBytes-nil : AreBytes []
AreBytes-nil i = omega arith

pub AreBytes-append : (p q : List ℕ) → AreBytes p → AreBytes q → AreBytes (p ++ q)
AreBytes-append p q first second i = elim (cases_lt i (length p)) [
  | inl below ↦ let same = get_or_append_left p q 0 i below in let small = first i in omega (arith, same, small)
  | inr past ↦ let same = get_or-append_right p q (length p) i 0 refl past in let small = second (i - length p) in omega (arith, same, small)
]

pub AreBytes-take : (n : ℕ) (b : List ℕ) → AreBytes b → AreBytes (take n b)
AreBytes-take n b each i = elim (cases_lt i n) [
  | inl below ↦ let same = get_or-take n b i 0 below in let small = each i in omega (arith, same, small)
  | inr past ↦ let none : get_or (take n b) i 0 ≡ 0 = get_or_past (take n b) i 0 (omega (arith, length-take n b, past)) in omega (arith, none)
]

pub AreBytes-drop : (n : ℕ) (b : List ℕ) → AreBytes b → AreBytes (drop n b)
AreBytes-drop n b each i = let same = get_or-drop n b i 0 in let small = each (n + i) in omega (arith, same, small)

pub AreBytes-part : (at n : ℕ) (b : List ℕ) → AreBytes b → AreBytes (part at n b)
AreBytes-part at n b each = AreBytes-take n (drop at b) (AreBytes-drop at b each)

pub AreBytes-put : (at : ℕ) (p b : List ℕ) → at + length p ≤ length b → AreBytes p → AreBytes b → AreBytes (put at p b)
AreBytes-put at p b within given was =
    AreBytes-append (take at b ++ p) (drop (at + length p) b) (AreBytes-append (take at b) p (AreBytes-take at b was) given)
    (AreBytes-drop (at + length p) b was)

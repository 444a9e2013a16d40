-- The transcript as one list determines its requests, whatever text follows them.
-- serves: law
use Rattle.std.proofs.Common.{◌≡◌, ◌+◌, ℕ, List, [], ◌∷◌, ◌++◌, length, append_assoc, refl, sym, ◌∙◌, ap, arith}
use Rattle.std.specs.List.{flat_map}
use Rattle.g_console.specs.Transcript.{End, Failed, Line, OnlyPrinted, Request, Transcript, Typed, printing, request_codes, typed_codes, written_of}

record Both (A B : Type 0) (a a' : A) (b b' : B) : Type 0 where
  one : a ≡ a'
  other : b ≡ b'

-- two lists of one length, with others after them
front_is : (xs ys u v : List ℕ) → length xs ≡ length ys → xs ++ u ≡ ys ++ v → Both (List ℕ) (List ℕ) xs ys u v
front_is [] [] u v same e = record { one = refl; other = e }
front_is [] (y ∷ ys) u v same e = absurd (let no : ⊥ = cc in no)
front_is (x ∷ xs) [] u v same e = absurd (let no : ⊥ = cc in no)
front_is (x ∷ xs) (y ∷ ys) u v same e =
    let head : x ≡ y = cc in
    let tail : xs ++ u ≡ ys ++ v = cc in
    let fewer : length xs ≡ length ys = cc in
    let r = front_is xs ys u v fewer tail in record { one = cc; other = r.other }

typed_is : (a b : Typed) (u v : List ℕ) → typed_codes a ++ u ≡ typed_codes b ++ v → Both Typed (List ℕ) a b u v
typed_is (Line l) (Line m) u v e =
    let long : length l ≡ length m = cc in
    let tail : l ++ u ≡ m ++ v = cc in
    let r = front_is l m u v long tail in record { one = ap (λ (t : List ℕ). Line t) r.one; other = r.other }
typed_is End End u v e = record { one = refl; other = cc }
typed_is Failed Failed u v e = record { one = refl; other = cc }
typed_is (Line l) End u v e = absurd (let no : ⊥ = cc in no)
typed_is (Line l) Failed u v e = absurd (let no : ⊥ = cc in no)
typed_is End (Line m) u v e = absurd (let no : ⊥ = cc in no)
typed_is End Failed u v e = absurd (let no : ⊥ = cc in no)
typed_is Failed (Line m) u v e = absurd (let no : ⊥ = cc in no)
typed_is Failed End u v e = absurd (let no : ⊥ = cc in no)

request_is : (a b : Request) → a.printed ≡ b.printed → a.typed ≡ b.typed → a ≡ b
request_is a b printed typed =
    ap (λ (n : ℕ). let x : Request = record { printed = n; typed = a.typed } in x) printed ∙ ap (λ (t : Typed). let x : Request = record { printed = b.printed; typed = t } in x) typed

transcript_is : (a b : Transcript) → a.requests ≡ b.requests → a.text ≡ b.text → a ≡ b
transcript_is a b requests text =
    ap (λ (xs : List Request). let r : Transcript = record { requests = xs; text = a.text } in r) requests
    ∙ ap (λ (t : List ℕ). let r : Transcript = record { requests = b.requests; text = t } in r) text

requests_are : (xs ys : List Request) (u v : List ℕ) → length xs ≡ length ys → flat_map request_codes xs ++ u ≡ flat_map request_codes ys ++ v
    → Both (List Request) (List ℕ) xs ys u v
requests_are [] [] u v same e = record { one = refl; other = e }
requests_are [] (b ∷ ys) u v same e = absurd (let no : ⊥ = cc in no)
requests_are (a ∷ xs) [] u v same e = absurd (let no : ⊥ = cc in no)
requests_are (a ∷ xs) (b ∷ ys) u v same e =
    let printed : a.printed ≡ b.printed = cc in
    let tail : (typed_codes a.typed ++ flat_map request_codes xs) ++ u ≡ (typed_codes b.typed ++ flat_map request_codes ys) ++ v = cc in
    let typed = typed_is a.typed b.typed (flat_map request_codes xs ++ u) (flat_map request_codes ys ++ v)
    (sym (append_assoc (typed_codes a.typed) (flat_map request_codes xs) u) ∙ tail ∙ append_assoc (typed_codes b.typed) (flat_map request_codes ys) v) in
    let fewer : length xs ≡ length ys = cc in
    let rest = requests_are xs ys u v fewer typed.other in
    record {
      one = ap (λ (x : Request). x ∷ xs) (request_is a b printed typed.one) ∙ ap (λ (zs : List Request). b ∷ zs) rest.one;
      other = rest.other;
    }

pub only_printed : OnlyPrinted
only_printed old new more e =
    let same : length new.requests ≡ length old.requests = cc in
    let tail : flat_map request_codes new.requests ++ new.text ≡ (flat_map request_codes old.requests ++ old.text) ++ more = cc in
    let r = requests_are new.requests old.requests new.text (old.text ++ more) same (tail ∙ append_assoc (flat_map request_codes old.requests) old.text more) in
    transcript_is new (printing more old) r.one r.other

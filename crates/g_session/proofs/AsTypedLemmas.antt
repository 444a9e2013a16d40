-- A line that is longer than a buffer of 161 bytes is replied to as its first 161 bytes are: no line of an item has more than 160.
-- serves: hear (heard)
use Rattle.std.proofs.Common.{◌≡◌, ◌≢◌, ◌⊎◌, ◌+◌, ◌-◌, ◌<◌, ◌≤◌, ◌++◌, ℕ, List, [], ◌∷◌, All, Result, Ok, Err, length, take, drop, codes, decimal, append_assoc, refl, sym, ◌∙◌, ap, subst, inl, inr, arith}
use Rattle.std.proofs.lemmas.Bool.{cases_lt}
use Rattle.std.proofs.lemmas.Fmt.{length-decimal-le}
use Rattle.std.proofs.lemmas.List.{length-append, length-take-le, take-append-drop, take_all}
use Rattle.std.proofs.Math.Seq.{take-append-add}
use Rattle.std.proofs.lemmas.List.Elements.{All-append, All-cons, All-head, All-nil, All-tail, All-weaker}
use Rattle.g_base.specs.declared.memory.NoMemory.{NoMemory}
use Rattle.g_script.specs.Script.{Bare, IsDocumentLine, IsWrittenOperator, Job, WrittenItem, WrittenOperator, behind_head}
use Rattle.g_typing.specs.Reader.{Holds, HoldsAt, Replies}
use Rattle.g_typing.specs.Typed.{BeginsDocument, CanFollow, IsQuery, IsTyped, When, first_of}
use Rattle.g_typing.specs.declared.item.ItemReader.{ItemReader}
use Rattle.g_typing.specs.declared.item.Place.{Place}
use Rattle.g_typing.specs.declared.item.Place.TheVariants as place
use Rattle.g_typing.specs.declared.item.Reply.{Reply}
use Rattle.g_typing.specs.declared.item.Reply.TheVariants as reply
use Rattle.g_typing.specs.declared.query.Query.{Query}
use Rattle.g_typing.specs.declared.query.Query.TheVariants as query

abbrev IsShort : List ℕ → Type 0
IsShort line = length line ≤ 160

in_all : (P : List ℕ → Type 0) (lines : List (List ℕ)) (line : List ℕ) (more : List (List ℕ)) → All P (lines ++ line ∷ more) → P line
in_all P [] line more all = All-head P line more all
in_all P (x ∷ lines) line more all = in_all P lines line more (All-tail P x (lines ++ line ∷ more) all)

front_all : (P : List ℕ → Type 0) (lines more : List (List ℕ)) → All P (lines ++ more) → All P lines
front_all P [] more all = All-nil P
front_all P (x ∷ lines) more all = All-cons P x lines (All-head P x (lines ++ more) all) (front_all P lines more (All-tail P x (lines ++ more) all))

-- the lines of an item are short
behind_short : (turn : ℕ) (what : WrittenOperator) → IsWrittenOperator what → All IsShort (behind_head what)
behind_short turn (Bare what) is = All-nil IsShort
behind_short turn (Job name user time money document) is =
    All-append IsShort document (codes "****" ∷ []) (All-weaker IsDocumentLine IsShort (λ l one. one.0.short) document is.document) (All-cons IsShort (codes "****") [] (omega arith) (All-nil IsShort))

typed_short : (count : ℕ) (item : WrittenItem) (when : When) (all : List (List ℕ)) → IsTyped count item when all → All IsShort all
typed_short count item when all typed =
    subst (λ (ls : List (List ℕ)). All IsShort ls) (sym typed.all)
    (All-cons IsShort typed.first (behind_head item.what) typed.short (behind_short item.turn item.what typed.is_item.1))

follows_short : (count : ℕ) (lines : List (List ℕ)) (line : List ℕ) → CanFollow count lines line → length line ≤ 160
follows_short count lines line (item, when, all, typed, (more, is)) =
    in_all IsShort lines line more (subst (λ (ls : List (List ℕ)). All IsShort ls) is (typed_short count item when all typed))

-- a document begins in the first 15 bytes of a line
cut_after : (n : ℕ) (front rest : List ℕ) → length front ≤ n → take n (front ++ rest) ≡ front ++ take (n - length front) rest
cut_after n front rest few =
    let sum : n ≡ length front + (n - length front) = omega (arith, few) in
    ap (λ (k : ℕ). take k (front ++ rest)) sum ∙ take-append-add front rest (n - length front)

begins_up : (line : List ℕ) → BeginsDocument (take 161 line) → BeginsDocument line
begins_up line (inl (rest, is)) =
    inl (rest ++ drop 161 line, sym (take-append-drop 161 line) ∙ ap (λ (l : List ℕ). l ++ drop 161 line) is ∙ append_assoc (codes "JOB ") rest (drop 161 line))
begins_up line (inr (t, rest, few, is)) =
    inr (t, rest ++ drop 161 line, few, sym (take-append-drop 161 line) ∙ ap (λ (l : List ℕ). l ++ drop 161 line) is ∙ append_assoc (decimal t) (32 ∷ (codes "JOB " ++ rest)) (drop 161 line))

begins_down : (line : List ℕ) → BeginsDocument line → BeginsDocument (take 161 line)
begins_down line (inl (rest, is)) = inl (take 157 rest, ap (λ (l : List ℕ). take 161 l) is ∙ cut_after 161 (codes "JOB ") rest (omega arith))
begins_down line (inr (t, rest, few, is)) =
    let front : List ℕ = decimal t ++ (32 ∷ codes "JOB ") in
    let digits : length (decimal t) ≤ 10 = length-decimal-le 10 t (omega arith) (omega (arith, few)) (omega (arith, few)) in
    let long : length front ≡ length (decimal t) + 5 = length-append (decimal t) (32 ∷ codes "JOB ") in
    inr (
      t,
      take (161 - length front) rest,
      few,
      ap (λ (l : List ℕ). take 161 l) (is ∙ sym (append_assoc (decimal t) (32 ∷ codes "JOB ") rest)) ∙ cut_after 161 front rest (omega (arith, digits, long))
          ∙ append_assoc (decimal t) (32 ∷ codes "JOB ") (take (161 - length front) rest),
    )

-- a question is short
asked_short : (q : Query) (line : List ℕ) → IsQuery line q → length line ≤ 160
asked_short query.State line is = let one : length line ≡ 1 = ap length is in omega (arith, one)
asked_short query.Help line is = let four : length line ≡ 4 = ap length is in omega (arith, four)
asked_short (query.Refusal n) line (few, is) =
    let digits : length (decimal n) ≤ 10 = length-decimal-le 10 n (omega arith) (omega (arith, few)) (omega (arith, few)) in
    let all : length line ≡ length (codes "HELP " ++ decimal n) = ap length is in
    let long : length (codes "HELP " ++ decimal n) ≡ length (codes "HELP ") + length (decimal n) = length-append (codes "HELP ") (decimal n) in
    let five : length (codes "HELP ") ≡ 5 = refl in omega (arith, digits, all, long, five)

-- of a long line
module _ (line : List ℕ) (long : 161 ≤ length line) where
  abbrev bytes : List ℕ
  bytes = take 161 line

  full_bytes : length bytes ≡ 161
  full_bytes = length-take-le 161 line long

  not_short : IsShort bytes → ⊥
  not_short short = let full = full_bytes in omega (arith, short, full)

  skips_as : {P Q : Type 0} (lines : List (List ℕ)) → (BeginsDocument (first_of lines bytes) × P) ⊎ ((BeginsDocument (first_of lines bytes) → ⊥) × Q)
      → (BeginsDocument (first_of lines line) × P) ⊎ ((BeginsDocument (first_of lines line) → ⊥) × Q)
  skips_as [] (inl (begins, p)) = inl (begins_up line begins, p)
  skips_as [] (inr (begins, q)) = inr ((λ is. begins (begins_down line is)), q)
  skips_as (first ∷ lines) is = is

  holds_as : (p : Place) (count : ℕ) (lines : List (List ℕ)) (r : ItemReader) → HoldsAt p count (lines ++ bytes ∷ []) r → HoldsAt p count (lines ++ line ∷ []) r
  holds_as place.Start count lines r none =
      let empty : length (lines ++ bytes ∷ []) ≡ 0 = ap length none in
      let sum : length (lines ++ bytes ∷ []) ≡ length lines + 1 = length-append lines (bytes ∷ []) in absurd (let no : ⊥ = omega (arith, empty, sum) in no)
  holds_as (place.Document n) count lines r d =
      let all : All IsShort (d.first ∷ d.document) = All-cons IsShort d.first d.document d.short (All-weaker IsDocumentLine IsShort (λ l one. one.0.short) d.document d.is_item.1.document) in
      absurd (not_short (in_all IsShort lines bytes [] (subst (λ (ls : List (List ℕ)). All IsShort ls) (sym d.lines_are) all)))
  holds_as place.Skipped count lines r all =
      All-append (λ (l : List ℕ). l ≢ codes "****") lines (line ∷ []) (front_all (λ (l : List ℕ). l ≢ codes "****") lines (bytes ∷ []) all)
      (All-cons (λ (l : List ℕ). l ≢ codes "****") line [] (λ is. let four : length line ≡ 4 = ap length is in omega (arith, four, long)) (All-nil (λ (l : List ℕ). l ≢ codes "****")))

  long_as : (was : Place) (number count : ℕ) (lines : List (List ℕ)) (result : Result Reply NoMemory) (r : ItemReader) → Replies was number count lines bytes result r → Replies was number count lines line result r
  long_as was number count lines (Ok (reply.Item next timed)) r (unskipped, whole) =
      absurd (not_short (in_all IsShort lines bytes [] (typed_short count whole.item (Rattle.g_typing.specs.Reader.when_of timed) (lines ++ bytes ∷ []) whole.typed)))
  long_as was number count lines (Ok reply.Rest) r (unskipped, none, empty, at) =
      let zero_long : length bytes ≡ 0 = ap length empty in
      let full = full_bytes in absurd (let no : ⊥ = omega (arith, zero_long, full) in no)
  long_as was number count lines (Ok (reply.Asked q)) r (unskipped, none, asks, at) =
      let few = asked_short q bytes asks in
      let full = full_bytes in absurd (let no : ⊥ = omega (arith, few, full) in no)
  long_as was number count lines (Ok reply.Refused) r (unskipped, refused) = (
    unskipped,
    record {
      begun = refused.begun;
      some = λ none empty. let zero_long : length line ≡ 0 = ap length empty in omega (arith, zero_long, long);
      unasked = λ none q asks. let few = asked_short q line asks in omega (arith, few, long);
      bad = λ follows. let short = follows_short count lines line follows in omega (arith, short, long);
      skips = skips_as lines refused.skips;
    },
  )
  long_as was number count lines (Ok reply.More) r (holds, stays) = (holds_as r.place count lines r holds, stays)
  long_as was number count lines (Ok reply.SkippedAll) r (skipped, all, is, at) =
      let four : length bytes ≡ 4 = ap length is in
      let full = full_bytes in absurd (let no : ⊥ = omega (arith, four, full) in no)
  long_as was number count lines (Err fault) r unit = tt

-- A LINE IS REPLIED TO as its first 161 bytes are
pub as_typed : (was : Place) (number count : ℕ) (lines : List (List ℕ)) (line : List ℕ) (result : Result Reply NoMemory) (r : ItemReader)
    → Replies was number count lines (take 161 line) result r → Replies was number count lines line result r
as_typed was number count lines line result r replies = by (cases_lt (length line) 161)
  where
    by : (length line < 161) ⊎ (161 ≤ length line) → Replies was number count lines line result r
    by (inl few) = subst (λ (l : List ℕ). Replies was number count lines l result r) (take_all 161 line (omega (arith, few))) replies
    by (inr long) = long_as line long was number count lines result r replies

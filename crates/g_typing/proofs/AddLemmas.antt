-- The reply to a line of a document.
-- serves: add, close
use Rattle.std.proofs.Common.{All, List, [], ◌∷◌, ◌++◌, ℕ, ◌+◌, ◌<◌, ◌≤◌, ◌≡◌, ◌≢◌, ◌⊎◌, Bool, true, false, Some, None, Result, Ok, Err, IfOk, codes, length, append_assoc, append-nil, nat_le, refl, sym, ◌∙◌, ap, subst, inl, inr, arith}
use Rattle.std.proofs.lemmas.Bool.{leb-false, leb-true}
use Rattle.std.proofs.lemmas.List.{length-append}
use Rattle.std.proofs.lemmas.Grind.{flat_map-append}
use Rattle.std.proofs.lemmas.List.Elements.{All-append, All-cons, All-nil, All-weaker, recursion_from_All}
use Rattle.std.specs.List.{AllByRecursion}
use Rattle.g_lines.specs.Documents.{IsOneLine}
use Rattle.g_lines.specs.Lines.{ended, lines_of, text_of}
use Rattle.g_script.proofs.ItemLemmas.{item_unique}
use Rattle.g_script.specs.Script.{Bare, IsDocumentLine, IsItem, IsOneItem, IsPrinted, IsWrittenOperator, Job, WrittenItem, WrittenOperator, behind_head, head_line, item_lines, timed_said, written_text}
use Rattle.g_script.specs.declared.operator.Timed.{Timed}
use Rattle.g_typing.specs.Reader.{Holds, HoldsAt, IsClosed, IsComplete, IsInDocument, IsRefused, Replies, is_skipped, when_of}
use Rattle.g_typing.specs.declared.item.ItemReader.{ItemReader}
use Rattle.g_typing.specs.declared.item.Place.{Place}
use Rattle.g_typing.specs.declared.item.Place.TheVariants as place
use Rattle.g_typing.specs.declared.item.Reply.{Reply}
use Rattle.g_typing.specs.declared.item.Reply.TheVariants as reply
use Rattle.g_base.specs.declared.memory.NoMemory.{NoMemory}
use Rattle.g_typing.specs.Typed.{BeginsDocument, CanFollow, IsTyped, IsTypedHead, When, first_of}
use Rattle.g_typing.proofs.HeadLemmas.{Heads, head_line_is, heads, job_begins, job_text, typed_head}
use Rattle.g_typing.proofs.BeginLemmas.{lines_with_end}

printed_one : (line : List ℕ) → IsPrinted line → IsOneLine line
printed_one line is = All-weaker (λ (b : ℕ). (32 ≤ b) × (b ≤ 126)) (λ (b : ℕ). b ≢ 10) (λ b within e. let least = within.0 in omega (arith, least, e)) line is.bytes

document_one : (lines : List (List ℕ)) → All IsDocumentLine lines → All IsOneLine lines
document_one lines all = All-weaker IsDocumentLine IsOneLine (λ line is. printed_one line is.0) lines all

text_more : (lines : List (List ℕ)) (line : List ℕ) → text_of (lines ++ line ∷ []) ≡ text_of lines ++ ended line
text_more lines line = flat_map-append ended lines (line ∷ []) ∙ ap (λ (t : List ℕ). text_of lines ++ t) (append-nil (ended line))

long_more : (lines : List (List ℕ)) (line : List ℕ) → length (text_of (lines ++ line ∷ [])) ≡ length (text_of lines) + (length line + 1)
long_more lines line = ap length (text_more lines line) ∙ length-append (text_of lines) (ended line) ∙ ap (λ (n : ℕ). length (text_of lines) + n) (length-append line (10 ∷ []))

long_append : (xs ys : List (List ℕ)) → length (text_of (xs ++ ys)) ≡ length (text_of xs) + length (text_of ys)
long_append xs ys = ap length (flat_map-append ended xs ys) ∙ length-append (text_of xs) (text_of ys)

-- a line before the last of some lines
record Inside (xs ys more : List (List ℕ)) (end line : List ℕ) : Type 0 where
  pub after : List (List ℕ)
  pub all : xs ≡ ys ++ line ∷ after
  pub more_is : more ≡ after ++ end ∷ []

nothing_after : (xs : List (List ℕ)) (y : List ℕ) → (let none : List (List ℕ) = [] in none ≡ xs ++ y ∷ []) → ⊥
nothing_after [] y e = cc
nothing_after (x ∷ xs) y e = cc

no_middle : (ys more : List (List ℕ)) (line end : List ℕ) → line ≢ end → end ∷ [] ≡ ys ++ line ∷ more → ⊥
no_middle [] more line end other e = other (let same : end ≡ line = cc in sym same)
no_middle (y ∷ []) more line end other e = cc
no_middle (y ∷ z ∷ ys) more line end other e = cc

inside : (xs ys more : List (List ℕ)) (end line : List ℕ) → line ≢ end → xs ++ end ∷ [] ≡ ys ++ line ∷ more → Inside xs ys more end line
inside [] ys more end line other e = absurd (no_middle ys more line end other e)
inside (x ∷ xs) [] more end line other e =
    let same : x ≡ line = cc in
    let rest : xs ++ end ∷ [] ≡ more = cc in
    record { after = xs; all = ap (λ (l : List ℕ). l ∷ xs) same; more_is = sym rest }
inside (x ∷ xs) (y ∷ ys) more end line other e =
    let same : x ≡ y = cc in
    let rest : xs ++ end ∷ [] ≡ ys ++ line ∷ more = cc in
    let i = inside xs ys more end line other rest in
    record { after = i.after; all = ap (λ (l : List ℕ). l ∷ xs) same ∙ ap (λ (ls : List (List ℕ)). y ∷ ls) i.all; more_is = i.more_is }

middle_of : (P : List ℕ → Type 0) (xs : List (List ℕ)) (line : List ℕ) (ys : List (List ℕ)) → AllByRecursion P (xs ++ line ∷ ys) → P line
middle_of P [] line ys all = all.0
middle_of P (x ∷ xs) line ys all = middle_of P xs line ys all.1

no_end : (ls : List (List ℕ)) (line : List ℕ) (more : List (List ℕ)) → (let none : List (List ℕ) = [] in none ≡ ls ++ line ∷ more) → ⊥
no_end [] line more e = cc
no_end (l ∷ ls) line more e = cc

module _ (count : ℕ) (lines : List (List ℕ)) (timed : Bool) (text : List ℕ) (d : IsInDocument count lines timed text) where
  abbrev job_with : List (List ℕ) → WrittenItem
  job_with document = record { turn = d.turn; what = Job d.name d.user d.time d.money document }

  abbrev job_head : List ℕ
  job_head = head_line (job_with d.document)

  fewer : (document : List (List ℕ)) → All IsDocumentLine document → IsItem (job_with document)
  fewer document all = (
    d.is_item.0,
    record {
      is_name = d.is_item.1.is_name;
      is_user = d.is_item.1.is_user;
      time_within = d.is_item.1.time_within;
      money_within = d.is_item.1.money_within;
      document = all;
    },
    tt,
  )

  -- the document is closed: an item
  typed_with : (document : List (List ℕ)) → All IsDocumentLine document → length (text_of (job_head ∷ document)) + 5 ≤ 16777216
      → IsTyped count (job_with document) (when_of timed) (d.first ∷ (document ++ codes "****" ∷ []))
  typed_with document all room =
      let long = long_more (job_head ∷ document) (codes "****") in record {
        is_item = fewer document all;
        first = d.first;
        head = typed_head count d.first timed d.turn (written_text (Job d.name d.user d.time d.money document)) (job_with document) d.head refl refl;
        all = refl;
        short = d.short;
        within = omega (arith, long, room);
      }

  own_room : length (text_of (job_head ∷ d.document)) + 5 ≤ 16777216
  own_room = let room = d.room in let same : length text ≡ length (text_of (job_head ∷ d.document)) = ap length d.text_is in omega (arith, room, same)

  pub end_follows : CanFollow count lines (codes "****")
  end_follows = (
    job_with d.document,
    when_of timed,
    d.first ∷ (d.document ++ codes "****" ∷ []),
    typed_with d.document d.is_item.1.document own_room,
    ([], ap (λ (ls : List (List ℕ)). ls ++ codes "****" ∷ []) (sym d.lines_are)),
  )

  -- MORE of it
  pub document_more : (line : List ℕ) → IsPrinted line → line ≢ codes "****" → length text + (length line + 1) + 5 ≤ 16777216 → IsInDocument count (lines ++ line ∷ []) timed ((text ++ line) ++ 10 ∷ [])
  document_more line printed other room =
      let long = long_more (job_head ∷ d.document) line in
      let same : length text ≡ length (text_of (job_head ∷ d.document)) = ap length d.text_is in
      let text_is : (text ++ line) ++ 10 ∷ [] ≡ text_of (job_head ∷ (d.document ++ line ∷ [])) =
      append_assoc text line (10 ∷ []) ∙ ap (λ (t : List ℕ). t ++ ended line) d.text_is ∙ sym (text_more (job_head ∷ d.document) line) in
      let length_is : length ((text ++ line) ++ 10 ∷ []) ≡ length (text_of (job_head ∷ (d.document ++ line ∷ []))) = ap length text_is in
      record {
        name = d.name;
        user = d.user;
        time = d.time;
        money = d.money;
        document = d.document ++ line ∷ [];
        turn = d.turn;
        is_item = fewer (d.document ++ line ∷ []) (All-append IsDocumentLine d.document (line ∷ []) d.is_item.1.document (All-cons IsDocumentLine line [] (printed, other) (All-nil IsDocumentLine)));
        first = d.first;
        head = d.head;
        short = d.short;
        lines_are = ap (λ (ls : List (List ℕ)). ls ++ line ∷ []) d.lines_are;
        one = d.one;
        text_is = text_is;
        room = omega (arith, room, same, long, length_is);
      }

  -- what another item with these lines is
  record Goes (line : List ℕ) (more : List (List ℕ)) : Type 0 where
    document : List (List ℕ)
    good : All IsDocumentLine document
    all : document ++ codes "****" ∷ [] ≡ d.document ++ line ∷ more
    within : length (text_of (job_head ∷ (document ++ codes "****" ∷ []))) ≤ 16777216

  goes : (line : List ℕ) (item : WrittenItem) (when : When) (all more : List (List ℕ)) → IsTyped count item when all → all ≡ lines ++ line ∷ more → Goes line more
  goes line item when all more typed is = by item.what refl
    where
      both : typed.first ∷ behind_head item.what ≡ d.first ∷ (d.document ++ line ∷ more)
      both = sym typed.all ∙ is ∙ ap (λ (ls : List (List ℕ)). ls ++ line ∷ more) d.lines_are

      same : typed.first ≡ d.first
      same = first_same typed.first d.first (behind_head item.what) (d.document ++ line ∷ more) both
        where
          first_same : (a b : List ℕ) (xs ys : List (List ℕ)) → a ∷ xs ≡ b ∷ ys → a ≡ b
          first_same a b xs ys e = cc

      behind : behind_head item.what ≡ d.document ++ line ∷ more
      behind = rest_same typed.first d.first (behind_head item.what) (d.document ++ line ∷ more) both
        where
          rest_same : (a b : List ℕ) (xs ys : List (List ℕ)) → a ∷ xs ≡ b ∷ ys → xs ≡ ys
          rest_same a b xs ys e = cc

      h : Heads item when timed d.turn (written_text (Job d.name d.user d.time d.money d.document))
      h = heads count d.first timed d.turn (written_text (Job d.name d.user d.time d.money d.document)) item when d.head typed.is_item.1
          (subst (λ (l : List ℕ). IsTypedHead count item when l) same typed.head)

      head_is : head_line item ≡ job_head
      head_is = head_line_is item d.turn (written_text (Job d.name d.user d.time d.money d.document)) h.turn_is h.asked_is

      by : (w : WrittenOperator) → item.what ≡ w → Goes line more
      by (Bare o) so = absurd (no_end d.document line more (sym (ap behind_head so) ∙ behind))
      by (Job name user time money document) so =
          let written : IsWrittenOperator (Job name user time money document) = subst IsWrittenOperator so typed.is_item.1 in record {
            document = document;
            good = written.document;
            all = sym (ap behind_head so) ∙ behind;
            within = subst (λ (ls : List (List ℕ)). length (text_of ls) ≤ 16777216) (ap (λ (l : List ℕ). l ∷ behind_head item.what) head_is ∙ ap (λ (w : WrittenOperator). job_head ∷ behind_head w) so) typed.within;
          }

  -- A BAD LINE: it isn't printed, or there is no room for it
  bad_line : (line : List ℕ) → line ≢ codes "****" → (IsPrinted line → ⊥) ⊎ (16777216 < length text + (length line + 1) + 5) → CanFollow count lines line → ⊥
  bad_line line other wrong (item, when, all, typed, (more, is)) =
      let g = goes line item when all more typed is in by g (inside g.document d.document more (codes "****") line other g.all) wrong
    where
      by : (g : Goes line more) → Inside g.document d.document more (codes "****") line → (IsPrinted line → ⊥) ⊎ (16777216 < length text + (length line + 1) + 5) → ⊥
      by g i (inl isnt) =
          isnt (middle_of IsDocumentLine d.document line i.after (recursion_from_All IsDocumentLine (d.document ++ line ∷ i.after) (subst (λ (ls : List (List ℕ)). All IsDocumentLine ls) i.all g.good))).0
      by g i (inr long) =
          let within = g.within in
          let all : length (text_of (job_head ∷ (g.document ++ codes "****" ∷ []))) ≡ length (text_of (job_head ∷ g.document)) + 5 = long_more (job_head ∷ g.document) (codes "****") in
          let inner : length (text_of (job_head ∷ g.document)) ≡ length (text_of (job_head ∷ d.document)) + length (text_of (line ∷ i.after)) =
          ap (λ (ls : List (List ℕ)). length (text_of (job_head ∷ ls))) i.all ∙ long_append (job_head ∷ d.document) (line ∷ i.after) in
          let one : length (text_of (line ∷ i.after)) ≡ length (ended line) + length (text_of i.after) = length-append (ended line) (text_of i.after) in
          let line_long : length (ended line) ≡ length line + 1 = length-append line (10 ∷ []) in
          let same : length text ≡ length (text_of (job_head ∷ d.document)) = ap length d.text_is in
          omega (arith, within, all, inner, one, line_long, same, long)

  pub some_lines : (let none : List (List ℕ) = [] in lines ≡ none) → ⊥
  some_lines e = let both : d.first ∷ d.document ≡ [] = sym d.lines_are ∙ e in cc

  pub document_refuses : (p : Place) (line : List ℕ) → p ≡ place.Skipped → line ≢ codes "****" → (IsPrinted line → ⊥) ⊎ (16777216 < length text + (length line + 1) + 5) → IsRefused count lines line p
  document_refuses p line skipped other wrong = record {
    begun = inr (codes "****", end_follows);
    some = λ none. absurd (some_lines none);
    unasked = λ none. absurd (some_lines none);
    bad = bad_line line other wrong;
    skips = inl (
      subst (λ (ls : List (List ℕ)). BeginsDocument (first_of ls line)) (sym d.lines_are)
          (job_begins count d.first timed d.turn (written_text (Job d.name d.user d.time d.money d.document)) d.head (job_text d.name d.user d.time d.money d.document)),
      skipped,
    );
  }

  -- IT IS CLOSED
  closed_lines : lines_of (text ++ codes "****\n") ≡ item_lines (job_with d.document)
  closed_lines =
      ap (λ (t : List ℕ). lines_of (t ++ ended (codes "****"))) d.text_is ∙ ap lines_of (sym (text_more (job_head ∷ d.document) (codes "****")))
      ∙ lines_with_end (job_head ∷ d.document) (All-cons IsOneLine job_head d.document d.one (document_one d.document d.is_item.1.document))

  pub document_closed : (r : ItemReader) (next : Timed) → r.text ≡ text ++ codes "****\n" → r.place ≡ place.Start → IsOneItem (lines_of (text ++ codes "****\n")) (Some next)
      → IsComplete count (lines ++ codes "****" ∷ []) next timed r
  document_closed r next text_is start (item, is, e, said) =
      let both = item_unique (job_with d.document) item [] [] d.is_item is (append-nil (item_lines (job_with d.document)) ∙ sym closed_lines ∙ e ∙ sym (append-nil (item_lines item))) in record {
        item = job_with d.document;
        typed = subst (λ (ls : List (List ℕ)). IsTyped count (job_with d.document) (when_of timed) (ls ++ codes "****" ∷ [])) (sym d.lines_are) (typed_with d.document d.is_item.1.document own_room);
        said = said ∙ ap timed_said (sym both.0);
        text = text_is ∙ ap (λ (t : List ℕ). t ++ ended (codes "****")) d.text_is ∙ sym (text_more (job_head ∷ d.document) (codes "****"));
        lines_are = ap lines_of text_is ∙ closed_lines;
        place = start;
      }

  pub document_none : IsOneItem (lines_of (text ++ codes "****\n")) None → ⊥
  document_none no_item = no_item (job_with d.document) d.is_item closed_lines

-- THE REPLY to the line that ends a document
pub closed_replies : (was : Place) (number count : ℕ) (lines : List (List ℕ)) (line : List ℕ) (result : Result Reply NoMemory) (r : ItemReader) → is_skipped was ≡ false → line ≡ codes "****"
    → IfOk result (λ answer. IsClosed count lines answer r) → Replies was number count lines line result r
closed_replies was number count lines line (Ok (reply.Item next timed)) r going is closed = (going, subst (λ (l : List ℕ). IsComplete count (lines ++ l ∷ []) next timed r) (sym is) closed)
closed_replies was number count lines line (Ok reply.Rest) r going is closed = absurd closed
closed_replies was number count lines line (Ok (reply.Asked q)) r going is closed = absurd closed
closed_replies was number count lines line (Ok reply.Refused) r going is closed = absurd closed
closed_replies was number count lines line (Ok reply.More) r going is closed = absurd closed
closed_replies was number count lines line (Ok reply.SkippedAll) r going is closed = absurd closed
closed_replies was number count lines line (Err fault) r going is closed = tt

pub holds_document : (count : ℕ) (lines : List (List ℕ)) (r : ItemReader) (k : ℕ) → r.place ≡ place.Document k → IsInDocument count lines r.timed r.text → Holds count lines r
holds_document count lines r k is d = subst (λ (p : Place). HoldsAt p count lines r) (sym is) d

pub going_on : (was : Place) (k : ℕ) → was ≡ place.Document k → is_skipped was ≡ false
going_on was k is = ap is_skipped is

pub not_more : (a b : ℕ) → (16777216 < a + (b + 1) + 5 → ⊥) → a + (b + 1) + 5 ≤ 16777216
not_more a b not = by (nat_le (a + (b + 1) + 5) 16777216) refl
  where
    by : (r : Bool) → nat_le (a + (b + 1) + 5) 16777216 ≡ r → a + (b + 1) + 5 ≤ 16777216
    by true is = leb-true (a + (b + 1) + 5) 16777216 is
    by false is = let more = leb-false (a + (b + 1) + 5) 16777216 is in absurd (not (omega (arith, more)))

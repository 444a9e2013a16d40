-- The reply to the first line of an item.
-- serves: add, begin, AddLemmas
use Rattle.std.proofs.Common.{All, List, [], ◌∷◌, ◌++◌, ℕ, ◌+◌, ◌<◌, ◌≤◌, ◌^◌, ◌≡◌, ◌≢◌, ◌⊎◌, Bool, true, false, if◌then◌else◌, Some, None, Result, Ok, Err, IfOk, ◌↔◌, codes, length, append-nil, refl, sym, ◌∙◌, ap, subst, inl, inr, arith}
use Rattle.std.specs.Fmt.{decimal}
use Rattle.std.proofs.lemmas.List.{length-append}
use Rattle.std.proofs.lemmas.List.Elements.{All-append, All-cons, All-nil}
use Rattle.g_lines.specs.Documents.{IsOneLine}
use Rattle.g_lines.specs.Lines.{lines_of, text_of}
use Rattle.g_lines.proofs.LineLemmas.{text-lines}
use Rattle.g_script.specs.Script.{Bare, IsDocumentLine, IsItem, IsOneItem, IsWrittenOperator, Job, WrittenItem, WrittenOperator, behind_head, head_line, item_lines, written_text}
use Rattle.g_script.specs.declared.operator.Timed.{Timed}
use Rattle.g_typing.specs.Reader.{IsBegun, IsComplete, IsHead, IsInDocument, IsRefused, JobText, Replies, is_skipped}
use Rattle.g_typing.specs.declared.item.ItemReader.{ItemReader}
use Rattle.g_typing.specs.declared.item.Place.{Place}
use Rattle.g_typing.specs.declared.item.Place.TheVariants as place
use Rattle.g_typing.specs.declared.item.Reply.{Reply}
use Rattle.g_typing.specs.declared.item.Reply.TheVariants as reply
use Rattle.g_base.specs.declared.memory.NoMemory.{NoMemory}
use Rattle.g_typing.specs.Typed.{BeginsDocument, CanFollow, IsTyped, IsTypedHead, IsUnasked, When}
use Rattle.g_typing.proofs.HeadLemmas.{asked_short, begins_job, head_line_is, head_short, heads, job_begins, job_only, job_text, one_asked, one_head, same_time, script_head, turn_fits, typed_head}

-- the lines of an item that consists of its first line, and of a JOB without a document
lines_one : (head : List ℕ) → IsOneLine head → lines_of (text_of (head ∷ [])) ≡ head ∷ []
lines_one head one = text-lines (head ∷ []) (All-cons IsOneLine head [] one (All-nil IsOneLine))

one_end : IsOneLine (codes "****")
one_end =
    let P : ℕ → Type 0 = λ b. b ≢ 10 in
    All-cons P 42 (42 ∷ 42 ∷ 42 ∷ []) (λ e. omega (arith, e)) (All-cons P 42 (42 ∷ 42 ∷ []) (λ e. omega (arith, e)) (All-cons P 42 (42 ∷ []) (λ e. omega (arith, e)) (All-cons P 42 [] (λ e. omega (arith, e)) (All-nil P))))

pub lines_with_end : (lines : List (List ℕ)) → All IsOneLine lines → lines_of (text_of (lines ++ codes "****" ∷ [])) ≡ lines ++ codes "****" ∷ []
lines_with_end lines all =
    text-lines (lines ++ codes "****" ∷ []) (All-append IsOneLine lines (codes "****" ∷ []) all (All-cons IsOneLine (codes "****") [] one_end (All-nil IsOneLine)))

nothing : (ls : List (List ℕ)) → ls ++ codes "****" ∷ [] ≡ [] → ⊥
nothing [] e = cc
nothing (l ∷ ls) e = cc

module _ (count : ℕ) (first : List ℕ) (timed : Bool) (turn : ℕ) (asked : List ℕ) (head : IsHead count first timed turn asked) (fits : count < 2 ^ 64) (one : IsOneLine first) where
  abbrev whole_head : List ℕ
  whole_head = script_head turn asked

  one_whole : IsOneLine whole_head
  one_whole = one_head turn asked (turn_fits count first timed turn asked head fits) (one_asked count first timed turn asked head one)

  -- what an item's first line is, where it begins these lines
  record First (item : WrittenItem) : Type 0 where
    turn_is : item.turn ≡ turn
    asked_is : written_text item.what ≡ asked

  first_is : (item : WrittenItem) (more : List (List ℕ)) → IsItem item → whole_head ∷ more ≡ item_lines item → First item
  first_is item more is e =
      let same : whole_head ≡ head_line item = cc in
      let few = is.0 in
      let s = same_time turn item.turn asked (written_text item.what) (turn_fits count first timed turn asked head fits) (omega (arith, few)) same in
      record { turn_is = sym s.time; asked_is = sym s.rest }

  behind_is : (item : WrittenItem) (more : List (List ℕ)) → whole_head ∷ more ≡ item_lines item → more ≡ behind_head item.what
  behind_is item more e = cc

  -- ONE LINE is an item
  pub one_line_done : (r : ItemReader) (next : Timed) → length first ≤ 160 → r.text ≡ text_of (whole_head ∷ []) → r.place ≡ place.Start
      → IsOneItem (lines_of (text_of (whole_head ∷ []))) (Some next) → IsComplete count (first ∷ []) next timed r
  one_line_done r next short text start (item, is, e, said) =
      let own : whole_head ∷ [] ≡ item_lines item = sym (lines_one whole_head one_whole) ∙ e in
      let f = first_is item [] is own in
      let none : behind_head item.what ≡ [] = sym (behind_is item [] own) in
      let text_is : text_of (whole_head ∷ []) ≡ text_of (item_lines item) = ap text_of own in
      let few = is.0 in
      let turn_is = f.turn_is in
      let heading = head_short turn asked (omega (arith, few, turn_is)) in
      let asking = asked_short count first timed turn asked head in
      let long : length (text_of (whole_head ∷ [])) ≡ length whole_head + 1 =
      ap length (append-nil (whole_head ++ 10 ∷ [])) ∙ length-append whole_head (10 ∷ []) in
      let all_long : length (text_of (item_lines item)) ≡ length (text_of (whole_head ∷ [])) = ap length (sym text_is) in
      record {
        item = item;
        typed = record {
          is_item = is;
          first = first;
          head = typed_head count first timed turn asked item head f.turn_is f.asked_is;
          all = ap (λ (ls : List (List ℕ)). first ∷ ls) (sym none);
          short = short;
          within = omega (arith, heading, asking, long, all_long, short);
        };
        said = said;
        text = text ∙ text_is;
        lines_are = ap lines_of text ∙ lines_one whole_head one_whole ∙ own;
        place = start;
      }

  -- an item that begins with the line has this first line
  record Begins (item : WrittenItem) (more : List (List ℕ)) : Type 0 where
    head_is : head_line item ≡ whole_head
    asked_is : written_text item.what ≡ asked
    more_is : more ≡ behind_head item.what
    short : length first ≤ 160
    is_item : IsItem item

  begins : (item : WrittenItem) (when : When) (all more : List (List ℕ)) → IsTyped count item when all → all ≡ first ∷ more → Begins item more
  begins item when all more typed is =
      let both : typed.first ∷ behind_head item.what ≡ first ∷ more = sym typed.all ∙ is in
      let same : typed.first ≡ first = cc in
      let rest : more ≡ behind_head item.what = cc in
      let h = heads count first timed turn asked item when head typed.is_item.1 (subst (λ (l : List ℕ). IsTypedHead count item when l) same typed.head) in
      record {
        head_is = head_line_is item turn asked h.turn_is h.asked_is;
        asked_is = h.asked_is;
        more_is = rest;
        short = subst (λ (l : List ℕ). length l ≤ 160) same typed.short;
        is_item = typed.is_item;
      }

  none_first : first ≢ [] → IsUnasked first → (CanFollow count [] first → ⊥) → (p : Place) → (BeginsDocument first × (p ≡ place.Skipped)) ⊎ ((BeginsDocument first → ⊥) × (p ≡ place.Start))
      → IsRefused count [] first p
  none_first some unasked bad p skips = record { begun = inl refl; some = λ e. some; unasked = λ e. unasked; bad = bad; skips = skips }

  -- ONE LINE is none
  pub one_line_refused : (p : Place) → first ≢ [] → IsUnasked first → p ≡ place.Start → (JobText asked → ⊥) → IsOneItem (lines_of (text_of (whole_head ∷ []))) None → IsRefused count [] first p
  one_line_refused p some unasked start isnt no_item =
      none_first some unasked
      (λ follow.
      let (item, when, all, typed, (more, is)) = follow in
      let b = begins item when all more typed is in
      by item b.is_item b.head_is (subst (λ (t : List ℕ). JobText t → ⊥) (sym b.asked_is) isnt))
      p (inr ((λ document. isnt (begins_job count first timed turn asked head document)), start))
    where
      by : (item : WrittenItem) → IsItem item → head_line item ≡ whole_head → (JobText (written_text item.what) → ⊥) → ⊥
      by item is same no_job = bare item.what is refl no_job
        where
          bare : (w : WrittenOperator) → IsItem item → item.what ≡ w → (JobText (written_text item.what) → ⊥) → ⊥
          bare w it what_is none = no_item item it (lines_one whole_head one_whole ∙ ap (λ (l : List ℕ). l ∷ []) (sym same) ∙ ap (λ (ls : List (List ℕ)). head_line item ∷ ls) (sym (empty w what_is none)))
            where
              empty : (v : WrittenOperator) → item.what ≡ v → (JobText (written_text item.what) → ⊥) → behind_head item.what ≡ []
              empty (Bare o) so no_job = ap behind_head so
              empty (Job name user time money lines) so no_job =
                  absurd (no_job (subst (λ (x : WrittenOperator). JobText (written_text x)) (sym so) (job_text name user time money lines)))

  -- a line that is too long
  pub too_long : (p : Place) → first ≢ [] → IsUnasked first → 160 < length first → (JobText asked × (p ≡ place.Skipped)) ⊎ ((JobText asked → ⊥) × (p ≡ place.Start)) → IsRefused count [] first p
  too_long p some unasked long skips =
      none_first some unasked
      (λ follow.
      let (item, when, all, typed, (more, is)) = follow in
      let b = begins item when all more typed is in
      let short = b.short in omega (arith, long, short)) p (by skips)
    where
      by : (JobText asked × (p ≡ place.Skipped)) ⊎ ((JobText asked → ⊥) × (p ≡ place.Start)) → (BeginsDocument first × (p ≡ place.Skipped)) ⊎ ((BeginsDocument first → ⊥) × (p ≡ place.Start))
      by (inl (job, is)) = inl (job_begins count first timed turn asked head job, is)
      by (inr (isnt, is)) = inr ((λ document. isnt (begins_job count first timed turn asked head document)), is)

  abbrev with_end : List (List ℕ)
  with_end = whole_head ∷ codes "****" ∷ []

  lines_two : lines_of (text_of with_end) ≡ with_end
  lines_two = lines_with_end (whole_head ∷ []) (All-cons IsOneLine whole_head [] one_whole (All-nil IsOneLine))

  -- A JOB LINE with no document is an item
  pub document_begun : (text : List ℕ) (next : Timed) → length first ≤ 160 → text ≡ text_of (whole_head ∷ []) → IsOneItem (lines_of (text_of with_end)) (Some next) → IsInDocument count (first ∷ []) timed text
  document_begun text next short text_is (item, is, e, said) = by item.what refl
    where
      own : with_end ≡ item_lines item
      own = sym lines_two ∙ e

      f : First item
      f = first_is item (codes "****" ∷ []) is own

      only : (lines : List (List ℕ)) → codes "****" ∷ [] ≡ lines ++ codes "****" ∷ [] → lines ≡ []
      only [] same = refl
      only (l ∷ lines) same = absurd (nothing lines (let rest : lines ++ codes "****" ∷ [] ≡ [] = cc in rest))

      none : (o : WrittenOperator) → item.what ≡ o → codes "****" ∷ [] ≡ behind_head o
      none o so = behind_is item (codes "****" ∷ []) own ∙ ap behind_head so

      by : (w : WrittenOperator) → item.what ≡ w → IsInDocument count (first ∷ []) timed text
      by (Bare o) so = absurd (let both : codes "****" ∷ [] ≡ [] = none (Bare o) so in let no : ⊥ = cc in no)
      by (Job name user time money lines) so =
          let empty : lines ≡ [] = only lines (none (Job name user time money lines) so) in
          let what_is : item.what ≡ Job name user time money [] = so ∙ ap (λ (ls : List (List ℕ)). Job name user time money ls) empty in
          let it : WrittenItem = record { turn = turn; what = Job name user time money [] } in
          let same : item ≡ it = ap (λ (n : ℕ). let i : WrittenItem = record { turn = n; what = item.what } in i) f.turn_is ∙ ap (λ (w : WrittenOperator). let i : WrittenItem = record { turn = turn; what = w } in i) what_is in
          let asked_is : written_text (Job name user time money []) ≡ asked = ap written_text (sym what_is) ∙ f.asked_is in
          let few = is.0 in
          let turn_is = f.turn_is in
          let heading = head_short turn asked (omega (arith, few, turn_is)) in
          let asking = asked_short count first timed turn asked head in
          let long : length text ≡ length whole_head + 1 = ap length text_is ∙ ap length (append-nil (whole_head ++ 10 ∷ [])) ∙ length-append whole_head (10 ∷ []) in
          record {
            name = name;
            user = user;
            time = time;
            money = money;
            document = [];
            turn = turn;
            is_item = subst IsItem same is;
            first = first;
            head = subst (λ (a : List ℕ). IsHead count first timed turn a) (sym asked_is) head;
            short = short;
            lines_are = refl;
            one = subst IsOneLine (sym (ap (λ (a : List ℕ). decimal turn ++ (32 ∷ a)) asked_is)) one_whole;
            text_is = text_is ∙ ap (λ (a : List ℕ). text_of ((decimal turn ++ (32 ∷ a)) ∷ [])) (sym asked_is);
            room = omega (arith, heading, asking, long, short);
          }

  -- or none
  pub document_refused : (p : Place) → first ≢ [] → IsUnasked first → p ≡ place.Skipped → JobText asked → IsOneItem (lines_of (text_of with_end)) None → IsRefused count [] first p
  document_refused p some unasked skipped job no_item =
      none_first some unasked
      (λ follow.
      let (item, when, all, typed, (more, is)) = follow in
      let b = begins item when all more typed is in by item b.is_item b.head_is (subst JobText (sym b.asked_is) job) item.what refl) p (inl (job_begins count first timed turn asked head job, skipped))
    where
      by : (item : WrittenItem) → IsItem item → head_line item ≡ whole_head → JobText (written_text item.what) → (w : WrittenOperator) → item.what ≡ w → ⊥
      by item is same job_is (Bare o) so = job_only item.what is.1 job_is (ap behind_head so)
      by item is same job_is (Job name user time money lines) so =
          let it : WrittenItem = record { turn = item.turn; what = Job name user time money [] } in
          let written : IsWrittenOperator (Job name user time money lines) = subst IsWrittenOperator so is.1 in
          let fewer : IsItem it = (
            is.0,
            record {
              is_name = written.is_name;
              is_user = written.is_user;
              time_within = written.time_within;
              money_within = written.money_within;
              document = All-nil IsDocumentLine;
            },
            tt,
          ) in
          no_item it fewer (lines_two ∙ ap (λ (l : List ℕ). l ∷ codes "****" ∷ []) (sym same ∙ ap (λ (w : WrittenOperator). decimal item.turn ++ (32 ∷ written_text w)) so))

  -- THE REPLY to a JOB line
  text_end : (text : List ℕ) → text ≡ text_of (whole_head ∷ []) → text ++ codes "****\n" ≡ text_of with_end
  text_end text is =
      ap (λ (t : List ℕ). t ++ codes "****\n") (is ∙ append-nil (whole_head ++ 10 ∷ [])) ∙ ap (λ (t : List ℕ). (whole_head ++ 10 ∷ []) ++ t) (sym (append-nil (codes "****\n")))

  pub begun_replies : (number : ℕ) (old new : ItemReader) (result : Result Reply NoMemory) → first ≢ [] → IsUnasked first → length first ≤ 160 → JobText asked → old.text ≡ text_of (whole_head ∷ []) → old.timed ≡ timed
      → IfOk result (λ reply. IsBegun number old reply new) → Replies place.Start number count [] first result new
  begun_replies number old new (Ok reply.More) some unasked short job text_is timed_is (is, (next, one_item)) =
      let there : IsOneItem (lines_of (text_of with_end)) (Some next) = subst (λ (t : List ℕ). IsOneItem (lines_of t) (Some next)) (text_end old.text text_is) one_item in
      let d : IsInDocument count (first ∷ []) timed old.text = document_begun old.text next short text_is there in
      let d_old : IsInDocument count (first ∷ []) old.timed old.text = subst (λ (b : Bool). IsInDocument count (first ∷ []) b old.text) (sym timed_is) d in
      subst (λ (r : ItemReader). Replies place.Start number count [] first (Ok reply.More) r) (sym is) (d_old, inr (refl, refl))
  begun_replies number old new (Ok reply.Refused) some unasked short job text_is timed_is (skipped, one_item) =
      let none : IsOneItem (lines_of (text_of with_end)) None = subst (λ (t : List ℕ). IsOneItem (lines_of t) None) (text_end old.text text_is) one_item in
      (refl, document_refused new.place some unasked skipped job none)
  begun_replies number old new (Ok (reply.Item next due)) some unasked short job text_is timed_is begun = absurd begun
  begun_replies number old new (Ok reply.Rest) some unasked short job text_is timed_is begun = absurd begun
  begun_replies number old new (Ok (reply.Asked q)) some unasked short job text_is timed_is begun = absurd begun
  begun_replies number old new (Ok reply.SkippedAll) some unasked short job text_is timed_is begun = absurd begun
  begun_replies number old new (Err fault) some unasked short job text_is timed_is begun = tt

-- a refusal
pub refused_replies : (was : Place) (number count : ℕ) (lines : List (List ℕ)) (line : List ℕ) (answer : Reply) (r : ItemReader) → answer ≡ reply.Refused → is_skipped was ≡ false
    → IsRefused count lines line r.place → Replies was number count lines line (Ok answer) r
refused_replies was number count lines line answer r is going refused = subst (λ (a : Reply). Replies was number count lines line (Ok a) r) (sym is) (going, refused)

pub skips_by : (asked : List ℕ) (r : Bool) (p : Place) → ((r ≡ true) ↔ JobText asked) → p ≡ (if r then place.Skipped else place.Start)
    → (JobText asked × (p ≡ place.Skipped)) ⊎ ((JobText asked → ⊥) × (p ≡ place.Start))
skips_by asked true p both is = inl (both.0 refl, is)
skips_by asked false p both is = inr ((λ job. let e : false ≡ true = both.1 job in let no : ⊥ = cc in no), is)

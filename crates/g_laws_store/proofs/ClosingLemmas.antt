-- The closing of a dump preserves the invariant of a store that is up.
-- serves: events_stay_up (closing), AdoptLemmas, MoveLemmas, NeedsLemmas, OpeningLemmas, OwnLemmas, PlaceLemmas, TreeLemmas, UserLemmas, and 2 more
use Rattle.std.proofs.Common.{◌≡◌, ℕ, zero, suc, ◌+◌, ◌≤◌, Bool, true, false, List, [], ◌∷◌, ◌++◌, get_or, Option, Some, sym, ◌∙◌, ap, arith, subst, inl, inr}
use Rattle.std.specs.Prelude.{◌⊎◌, ◌==◌, All, Contains, IfSome, filter, map}
use Rattle.std.specs.Option.{ForSome}
use Rattle.std.proofs.lemmas.Bool.{cases_Bool, cond-false, cond-true, eq-eqb}
use Rattle.std.proofs.lemmas.List.Elements.{All-cons, All-contains, All-head, All-map, All-nil, All-tail, All-weaker, Contains-append_right, Contains-get_or}
use Rattle.std.proofs.lemmas.Option.{slice_get-get_or}
use Rattle.g_base.specs.Block.{blocks_for}
use Rattle.g_entry.specs.declared.file_rec.FileRec.{FileRec}
use Rattle.g_entry.specs.declared.file_rec.TapeCopy.{TapeCopy}
use Rattle.g_entry.specs.declared.head.Intent.{Intent}
use Rattle.g_entry.specs.declared.user_rec.UserRec.{UserRec}
use Rattle.g_disc_contents.specs.Facts.{Pin, noted}
use Rattle.g_incr.specs.Layout.{Dump, IsDump, holds}
use Rattle.g_incr.specs.Plan.{dump_of, first_content, noted_files, noted_rec, numbered_from, waiting, waits, with_number}
use Rattle.g_shelf.specs.CompletedDumps.{all_dumps}
use Rattle.g_store_meaning.specs.Belonging.{IsPlaced, KeepsRecord}
use Rattle.g_laws_store.specs.Dumping.{ClosingStaysUp}
use Rattle.g_store_meaning.specs.Laws.{HasContent}
use Rattle.g_store_meaning.specs.Meaning.{Gathers, HasDirectory, IsContent, files_in, files_of, told_reels}
use Rattle.g_store_meaning.specs.StoreInvariant.{ArePinned, DumpFacts, IsReady, content_in, with_dump}
use Rattle.g_store_meaning.proofs.ChangeLemmas.{closing_belongs}
use Rattle.g_store_meaning.proofs.DirectoryLemmas.{closing_keeps_directories}
use Rattle.g_laws_store.proofs.StateLemmas.{with_there}
use Rattle.g_laws_store.proofs.UpOneLemmas.{in_with, reel_named}

-- LISTS: parts, and what a filter leaves
pub all_left : {A : Type 0} (P : A → Type 0) (xs ys : List A) → All P (xs ++ ys) → All P xs
all_left P [] ys all = All-nil P
all_left P (x ∷ xs) ys all = All-cons P x xs (All-head P x (xs ++ ys) all) (all_left P xs ys (All-tail P x (xs ++ ys) all))

pub all_right : {A : Type 0} (P : A → Type 0) (xs ys : List A) → All P (xs ++ ys) → All P ys
all_right P [] ys all = all
all_right P (x ∷ xs) ys all = all_right P xs ys (All-tail P x (xs ++ ys) all)

pub contains_filter : {A : Type 0} (p : A → Bool) (xs : List A) (x : A) → Contains xs x → p x ≡ true → Contains (filter p xs) x
contains_filter p [] x (i, within, is) holds = let no : ⊥ = omega (arith, within) in absurd no
contains_filter {A} p (y ∷ ys) x (zero, within, is) holds =
    subst (λ (zs : List A). Contains zs x) (sym (cond-true (p y) (y ∷ filter p ys) (filter p ys) (ap p is ∙ holds))) (0, omega arith, is)
contains_filter {A} p (y ∷ ys) x (suc i, within, is) holds = by_test (cases_Bool (p y)) (contains_filter p ys x (i, omega (arith, within), is) holds)
  where
    by_test : (p y ≡ true) ⊎ (p y ≡ false) → Contains (filter p ys) x → Contains (filter p (y ∷ ys)) x
    by_test (inl is_in) rest = subst (λ (zs : List A). Contains zs x) (sym (cond-true (p y) (y ∷ filter p ys) (filter p ys) is_in)) (Contains-append_right (y ∷ []) (filter p ys) x rest)
    by_test (inr isnt) rest = subst (λ (zs : List A). Contains zs x) (sym (cond-false (p y) (y ∷ filter p ys) (filter p ys) isnt)) rest

-- copies of records, for any numbers

abbrev pub CopyIs : (ℕ → List ℕ) → List Dump → FileRec → Type 0
CopyIs text dumps r = IfSome r.tape (λ c. IsContent dumps c (text r.stamp))

pub unnumbered_copies : (text : ℕ → List ℕ) (dumps : List Dump) (n : ℕ) (rs : List FileRec) → All (CopyIs text dumps) (numbered_from n rs) → All (CopyIs text dumps) rs
unnumbered_copies text dumps n [] all = All-nil (CopyIs text dumps)
unnumbered_copies text dumps n (r ∷ rs) all =
    All-cons (CopyIs text dumps) r rs (All-head (CopyIs text dumps) (with_number n r) (numbered_from (n + 1) rs) all)
    (unnumbered_copies text dumps (n + 1) rs (All-tail (CopyIs text dumps) (with_number n r) (numbered_from (n + 1) rs) all))

-- what is so of all that is gathered is so of the directory of each user, in the one dump that may have it
gathered_all : (P : FileRec → Type 0) (dumps : List Dump) (users : List UserRec) (files : List FileRec) (d : Dump) → Gathers dumps users files → All P files
    → (u : UserRec) → Contains users u → ((e : Dump) → HasDirectory dumps u.number e → e ≡ d) → All P (files_of u.number d.files)
gathered_all P dumps [] files d gathers all u (i, within, is) one = let no : ⊥ = omega (arith, within) in absurd no
gathered_all P dumps (v ∷ vs) files d (e, has, rest, are, more) all u (zero, within, is) one =
    let same : e ≡ d = one e (subst (λ (x : UserRec). HasDirectory dumps x.number e) is has) in
    let here : All P (files_of v.number e.files) = all_left P (files_of v.number e.files) rest (subst (All P) are all) in
    subst (λ (x : UserRec). All P (files_of x.number d.files)) is (subst (λ (x : Dump). All P (files_of v.number x.files)) same here)
gathered_all P dumps (v ∷ vs) files d (e, has, rest, are, more) all u (suc i, within, is) one =
    gathered_all P dumps vs rest d more (all_right P (files_of v.number e.files) rest (subst (All P) are all)) u (i, omega (arith, within), is) one

-- the files of a dump are those of the users whom it holds
files_all : (P : FileRec → Type 0) (d : Dump) → IsDump d → ((u : UserRec) → Contains d.users u → holds d.held u.number ≡ true → All P (files_of u.number d.files)) → All P d.files
files_all P d rules each i other within =
    let r = get_or d.files i other in
    let owner = rules.files.owners i other within in
    let nobody : UserRec = get_or d.users 0 (record { number = 0; user = []; superior = 0; space = 0; time = 0; money = 0 }) in
    let u = get_or d.users r.owner nobody in
    let number : u.number ≡ r.owner = rules.users.numbered r.owner u (slice_get-get_or d.users r.owner nobody owner) in
    let held : holds d.held u.number ≡ true = ap (holds d.held) number ∙ rules.owners i other within in
    let all = each u (Contains-get_or d.users r.owner nobody owner) held in
    All-contains P (files_of u.number d.files) r all
    (contains_filter (λ (s : FileRec). s.owner == u.number) d.files r (Contains-get_or d.files i other within) (eq-eqb r.owner u.number (sym number)))

-- PINS are the versions that wait, with the copies that are noted for them
pub record IsOf (P : FileRec → Type 0) (p : Pin) : Type 0 where
  pub rec : FileRec
  pub is : P rec
  pub stamp : rec.stamp ≡ p.stamp
  pub tape : rec.tape ≡ Some p.copy

pub pins_are : (P : FileRec → Type 0) (serial at : ℕ) (files : List FileRec) (pins : List Pin) → ArePinned serial at (waiting files) pins → All P (noted_files serial at files) → All (IsOf P) pins
pins_are P serial at [] pins are all = subst (All (IsOf P)) (sym are) (All-nil (IsOf P))
pins_are P serial at (r ∷ rs) pins are all = by_copy (cases_Bool (waits r)) (pins_are P serial (at + blocks_for r.len) rs) (pins_are P serial at rs)
  where
    by_copy : (waits r ≡ true) ⊎ (waits r ≡ false)
        → ((ps : List Pin) → ArePinned serial (at + blocks_for r.len) (waiting rs) ps → All P (noted_files serial (at + blocks_for r.len) rs) → All (IsOf P) ps)
        → ((ps : List Pin) → ArePinned serial at (waiting rs) ps → All P (noted_files serial at rs) → All (IsOf P) ps) → All (IsOf P) pins
    by_copy (inl is) gets keeps =
        let (pin, rest, same, stamp, len, copy, blocks, more) = subst (λ (ws : List FileRec). ArePinned serial at ws pins) (cond-true (waits r) (r ∷ waiting rs) (waiting rs) is) are in
        let every = subst (All P) (cond-true (waits r) (noted_rec serial at r ∷ noted_files serial (at + blocks_for r.len) rs) (r ∷ noted_files serial at rs) is) all in
        subst (All (IsOf P)) (sym same)
        (All-cons (IsOf P) pin rest
        (record { rec = noted_rec serial at r; is = All-head P (noted_rec serial at r) (noted_files serial (at + blocks_for r.len) rs) every; stamp = sym stamp; tape = ap (λ (c : TapeCopy). let o : Option TapeCopy = Some c in o) (sym copy) })
        (gets rest more (All-tail P (noted_rec serial at r) (noted_files serial (at + blocks_for r.len) rs) every)))
    by_copy (inr isnt) gets keeps =
        let were = subst (λ (ws : List FileRec). ArePinned serial at ws pins) (cond-false (waits r) (r ∷ waiting rs) (waiting rs) isnt) are in
        let every = subst (All P) (cond-false (waits r) (noted_rec serial at r ∷ noted_files serial (at + blocks_for r.len) rs) (r ∷ noted_files serial at rs) isnt) all in
        keeps pins were (All-tail P r (noted_files serial at rs) every)

-- their copies are content
pub copies_are : (text : ℕ → List ℕ) (dumps : List Dump) (pins : List Pin) → All (IsOf (CopyIs text dumps)) pins → All (HasContent text dumps) (map (λ (p : Pin). (p.stamp, p.copy)) pins)
copies_are text dumps pins all =
    All-map (HasContent text dumps) (λ (p : Pin). (p.stamp, p.copy)) pins
    (All-weaker (IsOf (CopyIs text dumps)) (λ (p : Pin). HasContent text dumps (p.stamp, p.copy))
    (λ p it.
    subst (λ (n : ℕ). IsContent dumps p.copy (text n)) it.stamp (subst (λ (o : Option TapeCopy). IfSome o (λ c. IsContent dumps c (text it.rec.stamp))) it.tape it.is)) pins all)

pub closing_stays : ClosingStaysUp
closing_stays text shelf s d content touched dump_is is told was =
    let reels = told_reels s.rack in
    let o = s.online in
    let c = o.contents in
    let made = dump_of d.plan content in
    let dumps = all_dumps (with_dump made shelf) reels in
    let ready : IsReady text shelf reels o made =
    subst
    (λ (x : Option DumpFacts).
    IfSome x (λ e. (pins : List Pin) → o.pins ≡ Some pins → ForSome (content_in pins) (λ content. IsReady text shelf reels o (dump_of e.plan content))))
    dump_is was.open_dump is.pins is.pinned content told in
    let named = reel_named d.plan.serial reels (subst (λ (x : Option Intent). IfSome x (IsPlaced shelf reels c.head.last_dump)) is.intent was.disc.intent).reel in
    let there : Contains dumps made = with_there made shelf reels named.0 named.1 named.2 in
    let low : (e : Dump) → Contains dumps e → e.number ≤ d.plan.number = λ e in_all. lower e (in_with made shelf reels e in_all) in
    let one : (e : Dump) → Contains dumps e → d.plan.number ≤ e.number → e ≡ made = λ e in_all le. newest e le (in_with made shelf reels e in_all) in
    let t = ready.rack.tree made there in
    let last : t.last ≡ made = one t.last t.greatest.there (t.greatest.greatest made there) in
    let copied : All (CopyIs text dumps) t.gathered =
    unnumbered_copies text dumps 0 t.gathered
    (All-weaker (λ (r : FileRec). KeepsRecord (text r.stamp) dumps r) (CopyIs text dumps) (λ r keeps. keeps.copy) (files_in t) (ready.rack.records t)) in
    let files : All (CopyIs text dumps) made.files =
    files_all (CopyIs text dumps) made ready.rules
    (λ u in_users held.
    gathered_all (CopyIs text dumps) dumps made.users t.gathered made (subst (λ (x : Dump). Gathers dumps x.users t.gathered) last t.gathers) copied u in_users
    (λ e has. one e has.there (has.newest made there held))) in
    let all_noted = unnumbered_copies text dumps 0 (noted_files d.plan.serial (first_content d.plan) d.plan.files) files in
    let copies = copies_are text dumps is.pins (pins_are (CopyIs text dumps) d.plan.serial (first_content d.plan) d.plan.files is.pins is.are all_noted) in
    let in_pins : All (HasContent text dumps) (noted o.pins) = subst (λ (x : Option (List Pin)). All (HasContent text dumps) (noted x)) (sym is.pinned) copies in
    let number = is.number in record {
      rack = ready.rack;
      disc = closing_belongs text (with_dump made shelf) reels c made (noted o.pins) ready.disc there is.number in_pins;
      quiet = low;
      directories = closing_keeps_directories o d.plan.number dumps (omega (arith, number)) low ready.opening;
      open_dump = tt;
    }
  where
    lower : (e : Dump) → Contains (all_dumps shelf (told_reels s.rack)) e ⊎ (dump_of d.plan content ≡ e) → e.number ≤ d.plan.number
    lower e (inl old) = let le = was.quiet e old in let number = is.number in omega (arith, le, number)
    lower e (inr same) = subst (λ (x : Dump). x.number ≤ d.plan.number) same (omega arith)

    newest : (e : Dump) → d.plan.number ≤ e.number → Contains (all_dumps shelf (told_reels s.rack)) e ⊎ (dump_of d.plan content ≡ e) → e ≡ dump_of d.plan content
    newest e le (inl old) = let less = was.quiet e old in let number = is.number in let no : ⊥ = omega (arith, le, less, number) in absurd no
    newest e le (inr same) = sym same

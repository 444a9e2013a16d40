-- What keeps a disc and a rack belonging together.
-- serves: changes_belong (version), ChangeLemmas, StayLemmas, crates above
use Rattle.std.proofs.Common.{◌≡◌, ℕ, ◌<◌, ◌≤◌, List, [], ◌∷◌, Option, Some, None, refl, sym, ◌∙◌, ap, subst, inl, inr, arith}
use Rattle.std.specs.Prelude.{◌⊎◌, Bool, true, false, All, filter, nat_lt, IfSome, if◌then◌else◌}
use Rattle.std.specs.Option.{ForSome}
use Rattle.std.proofs.lemmas.Bool.{ne_eqb, eq-eqb}
use Rattle.std.proofs.lemmas.List.Elements.{All-nil, All-cons, All-head, All-tail, All-append, All-filter}
use Rattle.g_entry.specs.declared.file_rec.FileRec.{FileRec}
use Rattle.g_entry.specs.declared.file_rec.TapeCopy.{TapeCopy}
use Rattle.g_disc_contents.specs.Contents.{Contents, File, has, offline_in, taken_off}
use Rattle.g_incr.specs.Layout.{Dump}
use Rattle.g_shelf.specs.CompletedDumps.{all_dumps}
use Rattle.g_store_meaning.specs.Meaning.{IsContent, files_in}
use Rattle.g_store_meaning.specs.Belonging.{KeepsFile, KeepsRecord}
use Rattle.g_store_meaning.specs.Laws.{IsNewVersion, NewVersionBelongs, with_text}

abbrev Below : ℕ → File → Type 0
Below n g = g.rec.stamp < n

abbrev pub Keeps : (ℕ → List ℕ) → List Dump → File → Type 0
Keeps text dumps g = KeepsFile (text g.rec.stamp) dumps g

abbrev IsBelow : ℕ → FileRec → Type 0
IsBelow n r = r.stamp < n

abbrev pub HasKept : (ℕ → List ℕ) → List Dump → FileRec → Type 0
HasKept text dumps r = KeepsRecord (text r.stamp) dumps r

-- older stamps keep their texts
older : (n m : ℕ) (bytes : List ℕ) (text : ℕ → List ℕ) → m < n → text m ≡ with_text n bytes text m
older n m bytes text less = ap (λ (b : Bool). let ts : List ℕ = if b then bytes else text m in ts) (sym (ne_eqb m n (λ e. absurd (let no : ⊥ = omega arith in no))))

newest : (n : ℕ) (bytes : List ℕ) (text : ℕ → List ℕ) → bytes ≡ with_text n bytes text n
newest n bytes text = ap (λ (b : Bool). let ts : List ℕ = if b then bytes else text n in ts) (sym (eq-eqb n n refl))

pub not_some : {A B : Type 0} (x : A) → (let none : Option A = None in none ≡ Some x) → B
not_some x e = absurd (let no : ⊥ = cc in no)

pub none_is : (bytes text : List ℕ) → (let none : Option (List ℕ) = None in none ≡ Some bytes) → bytes ≡ text
none_is bytes text e = not_some bytes e

-- what is taken off the disc keeps its record
keeps_offline : (b : Bool) (t : List ℕ) (dumps : List Dump) (g : File) → KeepsFile t dumps g → KeepsFile t dumps (if b then record g { online = false; bytes = None } else g)
keeps_offline true t dumps g k = record { rec = k.rec; bytes = λ bytes e. none_is bytes t e }
keeps_offline false t dumps g k = k

keeps_taken : (n : ℕ) (bytes numbers : List ℕ) (text : ℕ → List ℕ) (dumps : List Dump) (files : List File) → All (Below n) files
    → All (Keeps text dumps) files → All (Keeps (with_text n bytes text) dumps) (taken_off numbers files)
keeps_taken n bytes numbers text dumps [] below keep = All-nil (Keeps (with_text n bytes text) dumps)
keeps_taken n bytes numbers text dumps (g ∷ gs) below keep =
    All-cons (Keeps (with_text n bytes text) dumps) (offline_in numbers g) (taken_off numbers gs) (first (has numbers g.rec.number))
    (keeps_taken n bytes numbers text dumps gs (All-tail (Below n) g gs below) (All-tail (Keeps text dumps) g gs keep))
  where
    moved : KeepsFile (with_text n bytes text g.rec.stamp) dumps g
    moved = subst (λ (t : List ℕ). KeepsFile t dumps g) (older n g.rec.stamp bytes text (All-head (Below n) g gs below)) (All-head (Keeps text dumps) g gs keep)

    first : (b : Bool) → KeepsFile (with_text n bytes text (if b then record g { online = false; bytes = None } else g).rec.stamp) dumps (if b then record g { online = false; bytes = None } else g)
    first true = keeps_offline true (with_text n bytes text g.rec.stamp) dumps g moved
    first false = moved

keeps_records : (n : ℕ) (bytes : List ℕ) (text : ℕ → List ℕ) (dumps : List Dump) (rs : List FileRec) → All (IsBelow n) rs
    → All (HasKept text dumps) rs → All (HasKept (with_text n bytes text) dumps) rs
keeps_records n bytes text dumps [] below keep = All-nil (HasKept (with_text n bytes text) dumps)
keeps_records n bytes text dumps (r ∷ rs) below keep =
    All-cons (HasKept (with_text n bytes text) dumps) r rs
    (subst (λ (t : List ℕ). KeepsRecord t dumps r) (older n r.stamp bytes text (All-head (IsBelow n) r rs below)) (All-head (HasKept text dumps) r rs keep))
    (keeps_records n bytes text dumps rs (All-tail (IsBelow n) r rs below) (All-tail (HasKept text dumps) r rs keep))

raised : (n m : ℕ) (rs : List FileRec) → m ≤ n → All (IsBelow m) rs → All (IsBelow n) rs
raised n m [] le below = All-nil (IsBelow n)
raised n m (r ∷ rs) le below =
    let l : r.stamp < m = All-head (IsBelow m) r rs below in
    All-cons (IsBelow n) r rs (omega arith) (raised n m rs le (All-tail (IsBelow m) r rs below))

new_keeps : (c : Contents) (f : File) (bytes : List ℕ) (text : ℕ → List ℕ) (dumps : List Dump) → IsNewVersion c f bytes → KeepsFile (with_text c.head.next_stamp bytes text f.rec.stamp) dumps f
new_keeps c f bytes text dumps new =
    let is : bytes ≡ with_text c.head.next_stamp bytes text f.rec.stamp = newest c.head.next_stamp bytes text ∙ ap (with_text c.head.next_stamp bytes text) (sym new.stamp) in
    subst (λ (t : List ℕ). KeepsFile t dumps f) is (record {
      rec = record { len = new.len; copy = subst (λ (o : Option TapeCopy). IfSome o (λ c. IsContent dumps c bytes)) (sym new.tape) tt };
      bytes = told new.told;
    })
  where
    told : (f.bytes ≡ Some bytes) ⊎ (f.bytes ≡ None) → ForSome f.bytes (λ b. b ≡ bytes)
    told (inl e) b is = let same : (let some : Option (List ℕ) = Some bytes in some ≡ Some b) = sym e ∙ is in (let r : b ≡ bytes = cc in r)
    told (inr e) b is = not_some b (sym e ∙ is)

pub new_version_belongs : NewVersionBelongs
new_version_belongs text shelf reels c f bytes numbers rack disc below new =
    let n = c.head.next_stamp in
    let taken = keeps_taken n bytes numbers text (all_dumps shelf reels) c.files below disc.files in (
      record {
        apart = rack.apart;
        rising = rack.rising;
        tree = rack.tree;
        records = λ t. keeps_records n bytes text (all_dumps shelf reels) (files_in t) (raised n t.last.next (files_in t) (disc.stamps t.last t.greatest.there) t.dated) (rack.records t);
      },
      record {
        files = All-append (Keeps (with_text n bytes text) (all_dumps shelf reels)) (filter (λ g. nat_lt g.rec.number f.rec.number) (taken_off numbers c.files)) (f ∷ filter (λ g. nat_lt f.rec.number g.rec.number) (taken_off numbers c.files))
            (All-filter _ (Keeps (with_text n bytes text) (all_dumps shelf reels)) (taken_off numbers c.files) taken)
            (All-cons (Keeps (with_text n bytes text) (all_dumps shelf reels)) f _ (new_keeps c f bytes text (all_dumps shelf reels) new) (All-filter _ (Keeps (with_text n bytes text) (all_dumps shelf reels)) (taken_off numbers c.files) taken));
        numbers = disc.numbers;
        has_last = disc.has_last;
        stamps = λ d there. let le = disc.stamps d there in omega arith;
        intent = disc.intent;
      },
    )

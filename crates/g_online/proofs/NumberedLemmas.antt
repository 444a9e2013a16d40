-- A pinned version is found by its number: only the file of that number can have it.
-- serves: close_dump, is_current, unpin
use Rattle.std.proofs.Common.{◌≡◌, ◌≢◌, ◌⊎◌, ℕ, ◌<◌, ◌==◌, ◌||◌, Bool, true, false, List, [], ◌∷◌, Option, Some, None, All, AllPairs, refl, sym, ◌∙◌, ap, subst, arith, inl, inr}
use Rattle.std.proofs.lemmas.Bool.{cases_eq, cond-false, cond-true, eq-eqb, ne_eqb}
use Rattle.std.proofs.lemmas.List.Elements.{All-cons, All-head, All-tail, All-weaker}
use Rattle.g_copy.specs.declared.copy.DiscCopy.{DiscCopy}
use Rattle.g_disc.specs.Disc.{DiscState}
use Rattle.g_entry.specs.declared.file_rec.FileRec.{FileRec}
use Rattle.g_dirs.specs.Directory.{FileEntry, copy_at, entries_of}
use Rattle.g_table.specs.Files.{rec_at}
use Rattle.g_tree.proofs.ListLemmas.{pairs_first, pairs_rest}
use Rattle.g_online.specs.declared.pinned.Pinned.{Pinned}
use Rattle.g_online.specs.DumpedVersions.{HasItsNumber, is_stamp_current, pinned_in}
use Rattle.g_online.specs.Invariant.{ArePinned, IsFileOf, IsKept, IsPinned, Memory, PinsAre}

-- The records of the entries have the numbers of their versions.
numbered_recs : (p : Pinned) (files : List FileRec) (online : List (ℕ × DiscCopy)) → All (IsFileOf p) (entries_of files online) → All (HasItsNumber p) files
numbered_recs p [] online all = λ k d within. absurd (omega (arith, within))
numbered_recs p (r ∷ files) online all =
    let e : FileEntry = (r, copy_at online r.number) in
    All-cons (HasItsNumber p) r files (λ same. (All-head (IsFileOf p) e (entries_of files online) all same).3)
    (numbered_recs p files online (All-tail (IsFileOf p) e (entries_of files online) all))

numbered_in : (size next : ℕ) (files : List FileRec) (online : List (ℕ × DiscCopy)) (touched : List ℕ) (pins : Option (List Pinned)) → PinsAre pins size next (entries_of files online) touched
    → All (λ (p : Pinned). All (HasItsNumber p) files) (pinned_in pins) × AllPairs (λ (p : Pinned) (q : Pinned). p.stamp ≢ q.stamp) (pinned_in pins)
numbered_in size next files online touched None are = (λ k d within. absurd (omega (arith, within)), λ i j d less within. absurd (omega (arith, within)))
numbered_in size next files online touched (Some pins) are = (
  All-weaker (IsPinned size next (entries_of files online)) (λ (p : Pinned). All (HasItsNumber p) files) (λ p is. numbered_recs p files online is.current) pins are.each,
  are.apart,
)

-- Each pinned version is found by its number, and no two of them are the same.
pub numbered_pins : (disc : DiscState) (m : Memory) → IsKept disc m → m.live ≡ true → (files : List FileRec) (pins : List Pinned) → files ≡ m.files → pins ≡ pinned_in m.pins
    → All (λ (p : Pinned). All (HasItsNumber p) files) pins × AllPairs (λ (p : Pinned) (q : Pinned). p.stamp ≢ q.stamp) pins
numbered_pins disc m kept live files pins files_are pins_are =
    subst (λ (fs : List FileRec). All (λ (p : Pinned). All (HasItsNumber p) fs) pins × AllPairs (λ (p : Pinned) (q : Pinned). p.stamp ≢ q.stamp) pins) (sym files_are)
    (subst (λ (ps : List Pinned). All (λ (p : Pinned). All (HasItsNumber p) m.files) ps × AllPairs (λ (p : Pinned) (q : Pinned). p.stamp ≢ q.stamp) ps) (sym pins_are)
    (numbered_in disc.size m.head.next_stamp m.files m.online m.touched m.pins (kept.agreed live).pins))

-- No record has the stamp.
none_current : (files : List FileRec) (s : ℕ) → All (λ (r : FileRec). r.stamp ≢ s) files → is_stamp_current files s ≡ false
none_current [] s apart = refl
none_current (r ∷ files) s apart =
    ap (λ (b : Bool). b || is_stamp_current files s) (ne_eqb r.stamp s (All-head (λ (t : FileRec). t.stamp ≢ s) r files apart)) ∙ none_current files s (All-tail (λ (t : FileRec). t.stamp ≢ s) r files apart)

or_false : (b : Bool) → (b || false) ≡ b
or_false true = refl
or_false false = refl

-- Whether the record that was found has the stamp.
abbrev pub has_it : Option FileRec → ℕ → Bool
has_it None s = false
has_it (Some r) s = r.stamp == s

-- The test of that record is the test of all.
pub current_is : (files : List FileRec) (n s : ℕ) → AllPairs (λ (r : FileRec) (t : FileRec). r.number < t.number) files → All (λ (r : FileRec). r.stamp ≡ s → r.number ≡ n) files
    → is_stamp_current files s ≡ has_it (rec_at files n) s
current_is [] n s rising numbered = refl
current_is (r ∷ files) n s rising numbered =
    by_number (cases_eq r.number n) (current_is files n s (pairs_rest (λ (q : FileRec) (t : FileRec). q.number < t.number) r files rising) rest)
  where
    later : All (λ (t : FileRec). r.number < t.number) files
    later = pairs_first (λ (q : FileRec) (t : FileRec). q.number < t.number) r files rising

    rest : All (λ (t : FileRec). t.stamp ≡ s → t.number ≡ n) files
    rest = All-tail (λ (t : FileRec). t.stamp ≡ s → t.number ≡ n) r files numbered

    by_number : (r.number ≡ n) ⊎ (r.number ≡ n → ⊥) → is_stamp_current files s ≡ has_it (rec_at files n) s → is_stamp_current (r ∷ files) s ≡ has_it (rec_at (r ∷ files) n) s
    by_number (inl here) behind =
        ap (λ (b : Bool). (r.stamp == s) || b)
        (none_current files s (λ k d within same. let more = later k d within in let is = rest k d within same in let no : ⊥ = omega (arith, here, more, is) in no))
        ∙ or_false (r.stamp == s) ∙ ap (λ (o : Option FileRec). has_it o s) (sym (cond-true (r.number == n) (Some r) (rec_at files n) (eq-eqb r.number n here)))
    by_number (inr away) behind =
        ap (λ (b : Bool). b || is_stamp_current files s) (ne_eqb r.stamp s (λ same. away (All-head (λ (t : FileRec). t.stamp ≡ s → t.number ≡ n) r files numbered same)))
        ∙ behind
        ∙ ap (λ (o : Option FileRec). has_it o s) (sym (cond-false (r.number == n) (Some r) (rec_at files n) (ne_eqb r.number n away)))

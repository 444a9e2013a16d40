-- Changes of files, of the intent and of the last dump's number, and what a restore and a format make.
-- serves: changes_belong (closing, restore), lib, StayLemmas, crates above
use Rattle.std.proofs.Common.{◌≡◌, ℕ, ◌≤◌, List, [], ◌∷◌, Option, Some, None, length, refl, sym, ◌∙◌, ap, subst, inl, inr, arith}
use Rattle.std.specs.Prelude.{◌⊎◌, Bool, true, false, ◌==◌, not, All, Contains, map, IfSome, if◌then◌else◌}
use Rattle.std.specs.Option.{ForSome, option_map}
use Rattle.std.proofs.lemmas.Bool.{eqb-true}
use Rattle.std.proofs.lemmas.List.Elements.{All-nil, All-cons, All-contains, All-head, All-tail, All-filter}
use Rattle.g_entry.specs.declared.file_rec.FileRec.{FileRec}
use Rattle.g_entry.specs.declared.file_rec.TapeCopy.{TapeCopy}
use Rattle.g_tape.specs.Reel.{Reel}
use Rattle.g_disc_contents.specs.Contents.{Contents, File, brought, copy_of, has, offline_in, online_with, set_rec, taken_off, with_copies, with_copy, with_rec, without_file}
use Rattle.g_incr.specs.Layout.{Dump}
use Rattle.g_shelf.specs.CompletedDumps.{all_dumps}
use Rattle.g_store_meaning.specs.Meaning.{IsContent, files_in}
use Rattle.g_store_meaning.specs.Belonging.{DiscBelongs, IsIntended, KeepsFile, KeepsRecord}
use Rattle.g_store_meaning.specs.Laws.{BringsText, ClosingBelongs, FilesBelong, FormatBelongs, HasContent, IntentsBelong, RecordsAnew, RestoreBelongs, restored_file}
use Rattle.g_store_meaning.proofs.BelongLemmas.{HasKept, Keeps, none_is}

-- Only the files change.
with_other : (text : ℕ → List ℕ) (shelf : ℕ → List Dump) (reels : List Reel) (c : Contents) (files : List File) → DiscBelongs text shelf reels c
    → All (Keeps text (all_dumps shelf reels)) files → DiscBelongs text shelf reels (record c { files = files })
with_other text shelf reels c files disc keep =
    record { files = keep; numbers = disc.numbers; has_last = disc.has_last; stamps = disc.stamps; intent = disc.intent }

keeps_offline : (text : ℕ → List ℕ) (dumps : List Dump) (f : File) (b : Bool) → Keeps text dumps f → Keeps text dumps (if b then record f { online = false; bytes = None } else f)
keeps_offline text dumps f true keep = record { rec = keep.rec; bytes = λ bytes e. none_is bytes (text f.rec.stamp) e }
keeps_offline text dumps f false keep = keep

keeps_anew : (text : ℕ → List ℕ) (dumps : List Dump) (r : FileRec) (f : File) (b : Bool) → (f.rec.number == r.number) ≡ b → RecordsAnew r f → Keeps text dumps f
    → Keeps text dumps (if b then record f { rec = r } else f)
keeps_anew text dumps r f true is anew keep =
    let same = anew (eqb-true f.rec.number r.number is) in
    let texts : text f.rec.stamp ≡ text r.stamp = ap text (sym same.stamp) in
    record {
      rec = record {
        len = ap (λ (t : List ℕ). length t) (sym texts) ∙ keep.rec.len ∙ sym same.len;
        copy = subst (λ (t : List ℕ). IfSome r.tape (λ c. IsContent dumps c t)) texts
            (subst (λ (o : Option TapeCopy). IfSome o (λ c. IsContent dumps c (text f.rec.stamp))) (sym same.tape) keep.rec.copy);
      };
      bytes = λ bytes e. keep.bytes bytes e ∙ texts;
    }
keeps_anew text dumps r f false is anew keep = keep

keeps_back : (text : ℕ → List ℕ) (dumps : List Dump) (number : ℕ) (bytes : Option (List ℕ)) (f : File) (b : Bool) → (f.rec.number == number) ≡ b
    → BringsText text number bytes f → Keeps text dumps f → Keeps text dumps (if b then record f { online = true; bytes = bytes } else f)
keeps_back text dumps number bytes f true is brings keep = record { rec = keep.rec; bytes = brings (eqb-true f.rec.number number is) }
keeps_back text dumps number bytes f false is brings keep = keep

all_anew : (text : ℕ → List ℕ) (dumps : List Dump) (r : FileRec) (files : List File) → All (RecordsAnew r) files → All (Keeps text dumps) files → All (Keeps text dumps) (set_rec r files)
all_anew text dumps r [] anew keep = All-nil (Keeps text dumps)
all_anew text dumps r (f ∷ fs) anew keep =
    All-cons (Keeps text dumps) (with_rec r f) (set_rec r fs)
    (keeps_anew text dumps r f (f.rec.number == r.number) refl (All-head (RecordsAnew r) f fs anew) (All-head (Keeps text dumps) f fs keep))
    (all_anew text dumps r fs (All-tail (RecordsAnew r) f fs anew) (All-tail (Keeps text dumps) f fs keep))

all_back : (text : ℕ → List ℕ) (dumps : List Dump) (number : ℕ) (bytes : Option (List ℕ)) (files : List File) → All (BringsText text number bytes) files
    → All (Keeps text dumps) files → All (Keeps text dumps) (brought number bytes files)
all_back text dumps number bytes [] brings keep = All-nil (Keeps text dumps)
all_back text dumps number bytes (f ∷ fs) brings keep =
    All-cons (Keeps text dumps) (online_with number bytes f) (brought number bytes fs)
    (keeps_back text dumps number bytes f (f.rec.number == number) refl (All-head (BringsText text number bytes) f fs brings) (All-head (Keeps text dumps) f fs keep))
    (all_back text dumps number bytes fs (All-tail (BringsText text number bytes) f fs brings) (All-tail (Keeps text dumps) f fs keep))

all_offline : (text : ℕ → List ℕ) (dumps : List Dump) (numbers : List ℕ) (files : List File) → All (Keeps text dumps) files → All (Keeps text dumps) (taken_off numbers files)
all_offline text dumps numbers [] keep = All-nil (Keeps text dumps)
all_offline text dumps numbers (f ∷ fs) keep =
    All-cons (Keeps text dumps) (offline_in numbers f) (taken_off numbers fs)
    (keeps_offline text dumps f (has numbers f.rec.number) (All-head (Keeps text dumps) f fs keep))
    (all_offline text dumps numbers fs (All-tail (Keeps text dumps) f fs keep))

pub files_belong : FilesBelong
files_belong = record {
  erased = λ text shelf reels c number disc. with_other text shelf reels c (without_file number c.files) disc
      (All-filter (λ f. not (f.rec.number == number)) (Keeps text (all_dumps shelf reels)) c.files disc.files);
  recorded = λ text shelf reels c r anew disc. with_other text shelf reels c (set_rec r c.files) disc (all_anew text (all_dumps shelf reels) r c.files anew disc.files);
  offline = λ text shelf reels c numbers disc. with_other text shelf reels c (taken_off numbers c.files) disc (all_offline text (all_dumps shelf reels) numbers c.files disc.files);
  back = λ text shelf reels c number bytes brings disc.
      with_other text shelf reels c (brought number bytes c.files) disc (all_back text (all_dumps shelf reels) number bytes c.files brings disc.files);
  users = λ text shelf reels c users disc. record { files = disc.files; numbers = disc.numbers; has_last = disc.has_last; stamps = disc.stamps; intent = disc.intent };
}

pub intents_belong : IntentsBelong
intents_belong = record {
  intended = λ text shelf reels c i quiet placed disc.
      record { files = disc.files; numbers = λ d there. inl (quiet d there); has_last = disc.has_last; stamps = disc.stamps; intent = placed };
  dropped = λ text shelf reels c quiet disc.
      record { files = disc.files; numbers = λ d there. inl (quiet d there); has_last = disc.has_last; stamps = disc.stamps; intent = tt };
}

-- The new copy, or the previous one, has the text.
pub copy_is : (text : ℕ → List ℕ) (dumps : List Dump) (copies : List (ℕ × TapeCopy)) (stamp : ℕ) (old : Option TapeCopy) → All (HasContent text dumps) copies
    → IfSome old (λ c. IsContent dumps c (text stamp)) → IfSome (copy_of copies stamp old) (λ c. IsContent dumps c (text stamp))
copy_is text dumps [] stamp old has_content keep = keep
copy_is text dumps (c ∷ cs) stamp old has_content keep =
    by (c.0 == stamp) refl (copy_is text dumps cs stamp old (All-tail (HasContent text dumps) c cs has_content) keep)
  where
    by : (b : Bool) → (c.0 == stamp) ≡ b → IfSome (copy_of cs stamp old) (λ k. IsContent dumps k (text stamp))
        → IfSome (if b then Some c.1 else copy_of cs stamp old) (λ k. IsContent dumps k (text stamp))
    by true is rest = subst (λ (n : ℕ). IsContent dumps c.1 (text n)) (eqb-true c.0 stamp is) (All-head (HasContent text dumps) c cs has_content)
    by false is rest = rest

all_copied : (text : ℕ → List ℕ) (dumps : List Dump) (copies : List (ℕ × TapeCopy)) (files : List File) → All (HasContent text dumps) copies
    → All (Keeps text dumps) files → All (Keeps text dumps) (with_copies copies files)
all_copied text dumps copies [] has_content keep = All-nil (Keeps text dumps)
all_copied text dumps copies (f ∷ fs) has_content keep =
    let old = All-head (Keeps text dumps) f fs keep in
    All-cons (Keeps text dumps) (with_copy copies f) (with_copies copies fs)
    (record { rec = record { len = old.rec.len; copy = copy_is text dumps copies f.rec.stamp f.rec.tape has_content old.rec.copy }; bytes = old.bytes })
    (all_copied text dumps copies fs has_content (All-tail (Keeps text dumps) f fs keep))

pub closing_belongs : ClosingBelongs
closing_belongs text shelf reels c d copies disc there number has_content = record {
  files = all_copied text (all_dumps shelf reels) copies c.files has_content disc.files;
  numbers = λ e e_there. inl (below e (disc.numbers e e_there));
  has_last = λ more. (d, there, refl);
  stamps = disc.stamps;
  intent = tt;
}
  where
    below : (e : Dump) → (e.number ≤ c.head.last_dump) ⊎ IsIntended c.head.last_dump c.head.intent (all_dumps shelf reels) e → e.number ≤ d.number
    below e (inl le) = omega arith
    below e (inr is) = let at = is.number in omega arith

no_bytes : (held : Option (List (List ℕ))) (t : List ℕ) → length t ≡ 0 → ForSome (option_map (λ (blocks : List (List ℕ)). let none : List ℕ = [] in none) held) (λ bytes. bytes ≡ t)
no_bytes None t none bytes e = none_is bytes t e
no_bytes (Some blocks) [] none bytes e = let r : bytes ≡ [] = cc in r
no_bytes (Some blocks) (x ∷ xs) none bytes e = absurd (let no : ⊥ = omega arith in no)

restored_keeps : (text : ℕ → List ℕ) (dumps : List Dump) (held : Option (List (List ℕ))) (r : FileRec) (b : Bool) → (r.len == 0) ≡ b → KeepsRecord (text r.stamp) dumps r
    → KeepsFile (text r.stamp) dumps (record { rec = r; online = b; bytes = if b then option_map (λ blocks. []) held else None })
restored_keeps text dumps held r true is keep = record { rec = keep; bytes = no_bytes held (text r.stamp) (keep.len ∙ eqb-true r.len 0 is) }
restored_keeps text dumps held r false is keep = record { rec = keep; bytes = λ bytes e. none_is bytes (text r.stamp) e }

all_restored : (text : ℕ → List ℕ) (dumps : List Dump) (held : Option (List (List ℕ))) (rs : List FileRec) → All (HasKept text dumps) rs
    → All (Keeps text dumps) (map (restored_file held) rs)
all_restored text dumps held [] keep = All-nil (Keeps text dumps)
all_restored text dumps held (r ∷ rs) keep =
    All-cons (Keeps text dumps) (restored_file held r) (map (restored_file held) rs)
    (restored_keeps text dumps held r (r.len == 0) refl (All-head (HasKept text dumps) r rs keep)) (all_restored text dumps held rs (All-tail (HasKept text dumps) r rs keep))

pub restore_belongs : RestoreBelongs
restore_belongs text shelf reels held t rack = record {
  files = all_restored text (all_dumps shelf reels) held (files_in t) (rack.records t);
  numbers = λ d there. inl (t.greatest.greatest d there);
  has_last = λ more. (t.last, t.greatest.there, refl);
  stamps = λ d there. rack.rising d t.last there t.greatest.there (t.greatest.greatest d there);
  intent = tt;
}

none_in : (shelf : ℕ → List Dump) (reels : List Reel) (d : Dump) → all_dumps shelf reels ≡ [] → Contains (all_dumps shelf reels) d → ⊥
none_in shelf reels d none there =
    All-contains (λ (e : Dump). ⊥) [] d (All-nil (λ (e : Dump). ⊥)) (subst (λ (ds : List Dump). Contains ds d) none there)

pub format_belongs : FormatBelongs
format_belongs text shelf reels users next none = (
  record {
    apart = λ d e there other same. absurd (none_in shelf reels d none there);
    rising = λ d e there other le. absurd (none_in shelf reels d none there);
    tree = λ d there. absurd (none_in shelf reels d none there);
    records = λ t. absurd (none_in shelf reels t.last none t.greatest.there);
  },
  record {
    files = All-nil (Keeps text (all_dumps shelf reels));
    numbers = λ d there. absurd (none_in shelf reels d none there);
    has_last = λ more. absurd (let no : ⊥ = omega arith in no);
    stamps = λ d there. absurd (none_in shelf reels d none there);
    intent = tt;
  },
)

-- Fields that follow one another in a block.
-- serves: copy_comes (comes, left), fields_stand, lang_comes (comes, left), next_bytes_equal, rec_comes (comes, left), word_comes (comes, left), zeros_come
use Rattle.std.proofs.Common.{◌≡◌, ℕ, ◌+◌, ◌-◌, ◌≤◌, Bool, List, [], ◌∷◌, ◌++◌, length, drop, Option, Some, None, refl, ap, ◌∙◌, sym, arith, append_assoc, subst}
use Rattle.std.specs.Prelude.{◌↔◌, ◌==◌, IsTrue, true, false, replicate, if◌then◌else◌}
use Rattle.std.proofs.Math.Seq.{drop-append_seam}
use Rattle.std.proofs.lemmas.List.{append-nil, drop-drop, length-append}
use Rattle.g_base.specs.Fields.{number, padded}
use Rattle.g_base.proofs.FieldLemmas.{length-number, length-padded, same_bytes}
use Rattle.g_entry.specs.declared.format.Format.{Format}
use Rattle.g_entry.specs.declared.file_rec.FileRec.{FileRec}
use Rattle.g_entry.specs.declared.file_rec.TapeCopy.{TapeCopy}
use Rattle.g_trap.specs.TrapList.{TrapList}
use Rattle.g_entry.specs.Comparison.{Comes, back_fields, front_fields, rec_fields}
use Rattle.g_entry.specs.FileFields.{IsFile, copy_fields, file_block, file_fields, lang_field, on_tape, online_fields, pair_fields}
use Rattle.g_entry.proofs.FieldLemmas.{length-word, length-lang, length-lang_field, length-pair_fields}
use Rattle.g_entry.proofs.RecordLemmas.{file_peeled, file_zeros}

pub come_one : (bytes taken old new : List ℕ) (same : Bool) → old ≡ taken ++ new → length taken ≡ length bytes → (IsTrue same ↔ (taken ≡ bytes)) → Comes bytes old new same
come_one bytes taken old new same is long told = record {
  left = sym (ap (drop (length bytes)) is ∙ ap (λ (n : ℕ). drop n (taken ++ new)) (sym long) ∙ drop-append_seam taken new);
  long = ap length is ∙ length-append taken new ∙ ap (λ (n : ℕ). n + length new) long;
  told = (
    λ yes. is ∙ ap (λ (l : List ℕ). l ++ new) (told.0 yes),
    λ whole. told.1 (same_bytes (length bytes) taken bytes new new long refl (sym is ∙ whole)).0,
  );
}

pub comes_two : (f g old mid new : List ℕ) (a b c : Bool) → Comes f old mid a → Comes g mid new b → (IsTrue c ↔ (IsTrue a × IsTrue b)) → Comes (f ++ g) old new c
comes_two f g old mid new a b c one two are = record {
  left = two.left ∙ ap (drop (length g)) one.left ∙ drop-drop (length g) (length f) old ∙ ap (λ (n : ℕ). drop n old) (sym (length-append f g));
  long = let long_one = one.long in let long_two = two.long in let both = length-append f g in omega arith;
  told = (
    λ yes. let both = are.0 yes in one.told.0 both.0 ∙ ap (λ (l : List ℕ). f ++ l) (two.told.0 both.1) ∙ sym (append_assoc f g new),
    λ is.
        let whole : old ≡ f ++ (g ++ new) = is ∙ append_assoc f g new in
        let rest : mid ≡ g ++ new = one.left ∙ ap (drop (length f)) whole ∙ drop-append_seam f (g ++ new) in
        are.1 (one.told.1 (whole ∙ ap (λ (l : List ℕ). f ++ l) (sym rest)), two.told.1 rest),
  );
}

pub comes_as : (f g old new : List ℕ) (same : Bool) → f ≡ g → Comes f old new same → Comes g old new same
comes_as f g old new same is = subst (λ (l : List ℕ). Comes l old new same) is

pub reads_block : (f old b new : List ℕ) (same : Bool) → old ≡ b → Comes f old new same → Comes f b new same
reads_block f old b new same is = subst (λ (l : List ℕ). Comes f l new same) is

pub word_as : (w v old new : List ℕ) (same : Bool) → w ≡ v → Comes (length w ∷ padded 12 w) old new same → Comes (length v ∷ padded 12 v) old new same
word_as w v old new same is = subst (λ (l : List ℕ). Comes (length l ∷ padded 12 l) old new same) is

pub traps_as : (t : TrapList) (bits : ℕ) (old new : List ℕ) (same : Bool) → bits ≡ t.owner → t.others ≡ [] → Comes (bits ∷ 0 ∷ []) old new same → Comes (t.owner ∷ length t.others ∷ []) old new same
traps_as t bits old new same owner nobody =
    comes_as (bits ∷ 0 ∷ []) (t.owner ∷ length t.others ∷ []) old new same (ap (λ (n : ℕ). n ∷ 0 ∷ []) owner ∙ ap (λ (l : List (ℕ × ℕ)). t.owner ∷ length l ∷ []) (sym nobody))

-- THE LENGTHS
pub length-copy : (copy : Option TapeCopy) → length (copy_fields copy) ≡ 9
length-copy None = refl
length-copy (Some copy) =
    let serial = length-number 4 copy.serial in
    let first = length-number 4 copy.first in
    let both = length-append (number 4 copy.serial) (number 4 copy.first) in omega arith

field_lengths : (r : FileRec) → IsFile r → (length (padded 12 r.local) ≡ 12) × (length (number 2 r.generation) ≡ 2) × (length (lang_field r.lang) ≡ 4) × (length (number 8 r.stamp) ≡ 8)
    × (length (number 4 r.len) ≡ 4) × (length (pair_fields r.traps.others) ≡ 16) × (length (copy_fields r.tape) ≡ 9)
field_lengths r is = (
  length-padded 12 r.local (length-word r.local is.local),
  length-number 2 r.generation,
  length-lang_field r.lang (length-lang r.lang is.lang),
  length-number 8 r.stamp,
  length-number 4 r.len,
  length-pair_fields r.traps.others is.others.few,
  length-copy r.tape,
)

pub length-rec : (r : FileRec) → IsFile r → length (rec_fields r) ≡ 60
length-rec r is =
    let (l0, l1, l2, l3, l4, l5, l6) = field_lengths r is in
    let a0 = length-append (front_fields r) (back_fields r) in
    let a1 = length-append (padded 12 r.local) (number 2 r.generation ++ lang_field r.lang) in
    let a2 = length-append (number 2 r.generation) (lang_field r.lang) in
    let a3 = length-append (number 8 r.stamp) (number 4 r.len ++ (r.traps.owner ∷ length r.traps.others ∷ (pair_fields r.traps.others ++ copy_fields r.tape))) in
    let a4 = length-append (number 4 r.len) (r.traps.owner ∷ length r.traps.others ∷ (pair_fields r.traps.others ++ copy_fields r.tape)) in
    let a5 = length-append (pair_fields r.traps.others) (copy_fields r.tape) in
    omega arith

block_long : (format : Format) (r : FileRec) (online : Option (List ℕ)) → IsFile r → length (online_fields format online) ≡ 1 → length (file_fields format r online) ≡ 61
unfolding file_fields
block_long format r online is one =
    let (l0, l1, l2, l3, l4, l5, l6) = field_lengths r is in
    let q1 : List ℕ = padded 12 r.local in
    let q2 : List ℕ = q1 ++ number 2 r.generation in
    let q3 : List ℕ = q2 ++ lang_field r.lang in
    let q4 : List ℕ = q3 ++ number 8 r.stamp in
    let q5 : List ℕ = q4 ++ number 4 r.len in
    let q6 : List ℕ = q5 ++ (r.traps.owner ∷ length r.traps.others ∷ []) in
    let q7 : List ℕ = q6 ++ pair_fields r.traps.others in
    let q8 : List ℕ = q7 ++ copy_fields r.tape in
    let a0 = length-append q1 (number 2 r.generation) in
    let a1 = length-append q2 (lang_field r.lang) in
    let a2 = length-append q3 (number 8 r.stamp) in
    let a3 = length-append q4 (number 4 r.len) in
    let a4 = length-append q5 (r.traps.owner ∷ length r.traps.others ∷ []) in
    let a5 = length-append q6 (pair_fields r.traps.others) in
    let a6 = length-append q7 (copy_fields r.tape) in
    let a7 = length-append q8 (online_fields format online) in
    omega arith

one_behind : (p g l s n t c rest : List ℕ) (x y : ℕ) → ((p ++ (g ++ l)) ++ (s ++ (n ++ (x ∷ y ∷ (t ++ c))))) ++ rest ≡ p ++ (g ++ (l ++ (s ++ (n ++ (x ∷ y ∷ (t ++ (c ++ rest)))))))
one_behind p g l s n t c rest x y =
    append_assoc (p ++ (g ++ l)) (s ++ (n ++ (x ∷ y ∷ (t ++ c)))) rest
    ∙ append_assoc p (g ++ l) ((s ++ (n ++ (x ∷ y ∷ (t ++ c)))) ++ rest)
    ∙ ap (λ (z : List ℕ). p ++ z) (append_assoc g l ((s ++ (n ++ (x ∷ y ∷ (t ++ c)))) ++ rest)
    ∙ ap (λ (z : List ℕ). g ++ (l ++ z)) (append_assoc s (n ++ (x ∷ y ∷ (t ++ c))) rest
    ∙ ap (λ (z : List ℕ). s ++ z) (append_assoc n (x ∷ y ∷ (t ++ c)) rest
    ∙ ap (λ (z : List ℕ). n ++ (x ∷ y ∷ z)) (append_assoc t c rest))))

-- the whole block of a file on tape
fields_apart : (r : FileRec) (rest : List ℕ) → rec_fields r ++ rest
    ≡ 1 ∷ r.owner ∷ length r.local ∷ (padded 12 r.local ++ (number 2 r.generation ++ (lang_field r.lang ++ (number 8 r.stamp ++ (number 4 r.len ++ (r.traps.owner ∷ length r.traps.others ∷ (pair_fields r.traps.others ++ (copy_fields r.tape ++ rest))))))))
fields_apart r rest = ap (λ (l : List ℕ). 1 ∷ r.owner ∷ length r.local ∷ l)
    (one_behind (padded 12 r.local) (number 2 r.generation) (lang_field r.lang) (number 8 r.stamp) (number 4 r.len) (pair_fields r.traps.others) (copy_fields r.tape) rest r.traps.owner (length r.traps.others))

block_apart : (format : Format) (r : FileRec) (online : Option (List ℕ)) → IsFile r → length (online_fields format online) ≡ 1
    → file_block format r online ≡ rec_fields r ++ (online_fields format online ++ replicate 451 0)
block_apart format r online is one =
    let rest : List ℕ = online_fields format online ++ file_zeros format r online in
    let apart : file_block format r online ≡ rec_fields r ++ rest = file_peeled format r online ∙ sym (fields_apart r rest) in
    let long = block_long format r online is one in
    apart ∙ ap (λ (n : ℕ). rec_fields r ++ (online_fields format online ++ replicate {A = ℕ} (512 - n) 0)) long

flag_of : (format : Format) (len : ℕ) → online_fields format (if len == 0 then Some [] else None) ≡ (if len == 0 then 1 else 0) ∷ []
flag_of format len = by (len == 0)
  where
    by : (b : Bool) → online_fields format (if b then Some [] else None) ≡ (if b then 1 else 0) ∷ []
    by true = refl
    by false = refl

none_left : (l : List ℕ) → length l ≡ 0 → l ≡ []
none_left [] is = refl
none_left (x ∷ xs) is = let no : ⊥ = omega (arith, is) in absurd no

pub block_stands : (format : Format) (r : FileRec) (b new : List ℕ) (same : Bool) → IsFile r → length b ≡ 512
    → Comes (rec_fields r ++ (((if r.len == 0 then 1 else 0) ∷ []) ++ replicate 451 0)) b new same → IsTrue same ↔ (b ≡ file_block format r (on_tape r))
block_stands format r b new same is long comes =
    let flag = flag_of format r.len in
    let zeros : List ℕ = replicate 451 0 in
    let block : file_block format r (on_tape r) ≡ rec_fields r ++ (((if r.len == 0 then 1 else 0) ∷ []) ++ zeros) =
    block_apart format r (on_tape r) is (ap length flag) ∙ ap (λ (l : List ℕ). rec_fields r ++ (l ++ zeros)) flag in
    let f : List ℕ = rec_fields r ++ (((if r.len == 0 then 1 else 0) ∷ []) ++ zeros) in
    let sixty = length-rec r is in
    let whole = length-append (rec_fields r) (((if r.len == 0 then 1 else 0) ∷ []) ++ zeros) in
    let spent = comes.long in
    let last : new ≡ [] = none_left new (omega arith) in
    let end : f ++ new ≡ f = ap (λ (l : List ℕ). f ++ l) last ∙ append-nil f in
    (λ yes. comes.told.0 yes ∙ end ∙ sym block, λ here. comes.told.1 (here ∙ block ∙ sym end))

-- Two records of one block are one record.
-- serves: crates above
use Rattle.std.proofs.Common.{◌≡◌, ℕ, ◌-◌, ◌*◌, ◌<◌, true, List, [], ◌∷◌, ◌++◌, length, take, Option, Some, None, refl, ap, ◌∙◌, sym, arith, append_assoc, subst}
use Rattle.std.specs.Prelude.{replicate, IfSome, codes}
use Rattle.std.specs.List.{flat_map, list_all}
use Rattle.std.proofs.lemmas.Bool.{and_parts, ltb-true}
use Rattle.g_base.specs.Fields.{number, padded}
use Rattle.g_base.proofs.FieldLemmas.{same_byte, same_bytes, same_number, length-padded}
use Rattle.g_name.specs.Grammar.{is_word, is_lang}
use Rattle.g_trap.specs.TrapList.{TrapList, IsOthers}
use Rattle.g_entry.specs.Formats.{format_number, place_width, is_place, IsMoney}
use Rattle.g_entry.specs.UserFields.{IsUser, money_fields, user_block}
use Rattle.g_entry.specs.HeadFields.{IsHead, IsIntent, intent_fields, head_block}
use Rattle.g_entry.specs.FileFields.{IsFile, IsCopy, ArePlaces, pair_fields, lang_field, copy_fields, online_fields, file_block}
use Rattle.g_entry.specs.declared.format.Format.{Format}
use Rattle.g_entry.specs.declared.format.Format.TheVariants.{One, Two}
use Rattle.g_entry.specs.declared.head.Head.{Head}
use Rattle.g_entry.specs.declared.head.Intent.{Intent}
use Rattle.g_entry.specs.declared.file_rec.FileRec.{FileRec}
use Rattle.g_entry.specs.declared.file_rec.TapeCopy.{TapeCopy}
use Rattle.g_entry.specs.declared.user_rec.UserRec.{UserRec}
use Rattle.g_entry.proofs.FieldLemmas.{length-word, length-lang, front_again, lang_again, length-lang_field, length-pair_fields, pair_bytes, pairs_padded}
use Rattle.g_entry.proofs.RecordLemmas.{format_fits, user_zeros, user_peeled, head_zeros, head_peeled, file_zeros, file_rest, file_peeled}

-- Two words, each stored after its length.
same_word : (w v a b : List ℕ) → is_word w ≡ true → is_word v ≡ true → length w ∷ (padded 12 w ++ a) ≡ length v ∷ (padded 12 v ++ b) → (w ≡ v) × (a ≡ b)
same_word w v a b is_w is_v is =
    let long_w = length-padded 12 w (length-word w is_w) in
    let long_v = length-padded 12 v (length-word v is_v) in
    let one = same_byte (length w) (length v) (padded 12 w ++ a) (padded 12 v ++ b) is in
    let two = same_bytes 12 (padded 12 w) (padded 12 v) a b long_w long_v one.1 in
    let front_w : take (length w) (padded 12 w) ≡ w = front_again w (padded 12 w) (ap (λ (n : ℕ). padded n w) (sym long_w)) in
    let front_v : take (length v) (padded 12 v) ≡ v = front_again v (padded 12 v) (ap (λ (n : ℕ). padded n v) (sym long_v)) in
    (sym front_w ∙ ap (take (length w)) two.0 ∙ ap (λ (n : ℕ). take n (padded 12 v)) one.0 ∙ front_v, two.1)

same_lang : (l k a b : List ℕ) → is_lang l ≡ true → is_lang k ≡ true → lang_field l ++ a ≡ lang_field k ++ b → (l ≡ k) × (a ≡ b)
same_lang l k a b is_l is_k is =
    let two = same_bytes 4 (lang_field l) (lang_field k) a b (length-lang_field l (length-lang l is_l)) (length-lang_field k (length-lang k is_k)) is in
    (sym (lang_again l (lang_field l) is_l refl) ∙ lang_again k (lang_field l) is_k two.0, two.1)

-- as many pairs
same_pairs : (ps qs : List (ℕ × ℕ)) (a b : List ℕ) → length ps ≡ length qs → flat_map pair_bytes ps ++ a ≡ flat_map pair_bytes qs ++ b → ps ≡ qs
same_pairs [] [] a b long is = refl
same_pairs [] (q ∷ qs) a b long is = let no : ⊥ = omega (arith, long) in absurd no
same_pairs (p ∷ ps) [] a b long is = let no : ⊥ = omega (arith, long) in absurd no
same_pairs (p ∷ ps) (q ∷ qs) a b long is =
    let one = same_byte p.0 q.0 (p.1 ∷ (flat_map pair_bytes ps ++ a)) (q.1 ∷ (flat_map pair_bytes qs ++ b)) is in
    let two = same_byte p.1 q.1 (flat_map pair_bytes ps ++ a) (flat_map pair_bytes qs ++ b) one.1 in
    let rest = same_pairs ps qs a b (omega (arith, long)) two.1 in
    ap (λ (n : ℕ). (n, p.1) ∷ ps) one.0 ∙ ap (λ (n : ℕ). (q.0, n) ∷ ps) two.0 ∙ ap (λ (l : List (ℕ × ℕ)). q ∷ l) rest

same_traps : (t u : TrapList) (a b : List ℕ) → IsOthers t.others → IsOthers u.others
    → t.owner ∷ length t.others ∷ (pair_fields t.others ++ a) ≡ u.owner ∷ length u.others ∷ (pair_fields u.others ++ b) → (t ≡ u) × (a ≡ b)
same_traps t u a b of_t of_u is =
    let one = same_byte t.owner u.owner (length t.others ∷ (pair_fields t.others ++ a)) (length u.others ∷ (pair_fields u.others ++ b)) is in
    let two = same_byte (length t.others) (length u.others) (pair_fields t.others ++ a) (pair_fields u.others ++ b) one.1 in
    let three = same_bytes 16 (pair_fields t.others) (pair_fields u.others) a b (length-pair_fields t.others of_t.few) (length-pair_fields u.others of_u.few) two.1 in
    let others = same_pairs t.others u.others (replicate (16 - 2 * length t.others) 0) (replicate (16 - 2 * length u.others) 0) two.0 (pairs_padded t.others ∙ three.0 ∙ sym (pairs_padded u.others)) in
    let x : TrapList = record { owner = t.owner; others = t.others } in
    let y : TrapList = record { owner = u.owner; others = u.others } in
    let owner = one.0 in
    let equal : x ≡ y = cc in (equal, three.1)

same_place : (format : Format) (j k : ℕ) (a b : List ℕ) → is_place format j ≡ true → is_place format k ≡ true → number (place_width format) j ++ a ≡ number (place_width format) k ++ b → (j ≡ k) × (a ≡ b)
same_place One j k a b is_j is_k is =
    let fits_j : j < 65536 = ltb-true j 65536 is_j in
    let fits_k : k < 65536 = ltb-true k 65536 is_k in
    same_number 2 j k a b (omega arith) (omega arith) is
same_place Two j k a b is_j is_k is =
    let fits_j : j < 16777216 = ltb-true j 16777216 is_j in
    let fits_k : k < 16777216 = ltb-true k 16777216 is_k in
    same_number 3 j k a b (omega arith) (omega arith) is

-- as many block numbers
same_places : (format : Format) (js ks : List ℕ) (a b : List ℕ) → length js ≡ length ks → list_all (is_place format) js ≡ true → list_all (is_place format) ks ≡ true
    → flat_map (number (place_width format)) js ++ a ≡ flat_map (number (place_width format)) ks ++ b → js ≡ ks
same_places format [] [] a b long all_j all_k is = refl
same_places format [] (k ∷ ks) a b long all_j all_k is = let no : ⊥ = omega (arith, long) in absurd no
same_places format (j ∷ js) [] a b long all_j all_k is = let no : ⊥ = omega (arith, long) in absurd no
same_places format (j ∷ js) (k ∷ ks) a b long all_j all_k is =
    let Bytes : List ℕ → List ℕ = flat_map (number (place_width format)) in
    let from_j = and_parts (is_place format j) (list_all (is_place format) js) all_j in
    let from_k = and_parts (is_place format k) (list_all (is_place format) ks) all_k in
    let one = same_place format j k (Bytes js ++ a) (Bytes ks ++ b) from_j.0 from_k.0
    (sym (append_assoc (number (place_width format) j) (Bytes js) a) ∙ is ∙ append_assoc (number (place_width format) k) (Bytes ks) b) in
    let rest = same_places format js ks a b (omega (arith, long)) from_j.1 from_k.1 one.1 in
    ap (λ (n : ℕ). n ∷ js) one.0 ∙ ap (λ (l : List ℕ). k ∷ l) rest

same_online : (format : Format) (len : ℕ) (o p : Option (List ℕ)) (a b : List ℕ) → IfSome o (ArePlaces format len) → IfSome p (ArePlaces format len) → online_fields format o ++ a ≡ online_fields format p ++ b → o ≡ p
same_online format len None None a b of_o of_p is = refl
same_online format len None (Some ks) a b of_o of_p is = let no : ⊥ = cc in absurd no
same_online format len (Some js) None a b of_o of_p is = let no : ⊥ = cc in absurd no
same_online format len (Some js) (Some ks) a b of_o of_p is =
    let Bytes : List ℕ → List ℕ = flat_map (number (place_width format)) in
    let one = same_byte 1 1 (Bytes js ++ a) (Bytes ks ++ b) is in
    ap (λ (l : List ℕ). Some l) (same_places format js ks a b (of_o.count ∙ sym of_p.count) of_o.each of_p.each one.1)

same_copy : (c d : Option TapeCopy) (a b : List ℕ) → IfSome c IsCopy → IfSome d IsCopy → copy_fields c ++ a ≡ copy_fields d ++ b → (c ≡ d) × (a ≡ b)
same_copy None None a b of_c of_d is = (refl, (same_bytes 9 (replicate 9 0) (replicate 9 0) a b refl refl is).1)
same_copy None (Some d) a b of_c of_d is = let no : ⊥ = cc in absurd no
same_copy (Some c) None a b of_c of_d is = let no : ⊥ = cc in absurd no
same_copy (Some c) (Some d) a b of_c of_d is =
    let serial_c = of_c.serial.1 in let serial_d = of_d.serial.1 in
    let first_c = of_c.first in let first_d = of_d.first in
    let one = same_byte 1 1 (number 4 c.serial ++ (number 4 c.first ++ a)) (number 4 d.serial ++ (number 4 d.first ++ b))
    (ap (λ (l : List ℕ). 1 ∷ l) (sym (append_assoc (number 4 c.serial) (number 4 c.first) a)) ∙ is ∙ ap (λ (l : List ℕ). 1 ∷ l) (append_assoc (number 4 d.serial) (number 4 d.first) b)) in
    let two = same_number 4 c.serial d.serial (number 4 c.first ++ a) (number 4 d.first ++ b) (omega arith) (omega arith) one.1 in
    let three = same_number 4 c.first d.first a b (omega arith) (omega arith) two.1 in
    let x : TapeCopy = record { serial = c.serial; first = c.first } in
    let y : TapeCopy = record { serial = d.serial; first = d.first } in
    let serials = two.0 in let firsts = three.0 in
    let equal : x ≡ y = cc in (ap (λ (t : TapeCopy). Some t) equal, three.1)

same_money : (format : Format) (m n : ℕ) (a b : List ℕ) → IsMoney format m → IsMoney format n → money_fields format m ++ a ≡ money_fields format n ++ b → m ≡ n
same_money One m n a b of_m of_n is = of_m ∙ sym of_n
same_money Two m n a b of_m of_n is = (same_number 8 m n a b (omega (arith, of_m)) (omega (arith, of_n)) is).0

-- Users: a number and a block determine the user and, on tape, whether the dump has the user's directory.
pub user_held_again : (format : Format) (f g : ℕ) (r s : UserRec) → IsUser format r → IsUser format s → r.number ≡ s.number → user_block format f r ≡ user_block format g s → (r ≡ s) × (f ≡ g)
user_held_again format f g r s is_r is_s numbered is =
    let a6 : List ℕ = money_fields format r.money ++ user_zeros format f r in
    let b6 : List ℕ = money_fields format s.money ++ user_zeros format g s in
    let a4 : List ℕ = number 8 r.time ++ (f ∷ a6) in
    let b4 : List ℕ = number 8 s.time ++ (g ∷ b6) in
    let a3 : List ℕ = number 4 r.space ++ a4 in
    let b3 : List ℕ = number 4 s.space ++ b4 in
    let a1 : List ℕ = length r.user ∷ (padded 12 r.user ++ (r.superior ∷ a3)) in
    let b1 : List ℕ = length s.user ∷ (padded 12 s.user ++ (s.superior ∷ b3)) in
    let space_r = is_r.space in let space_s = is_s.space in
    let time_r = is_r.time in let time_s = is_s.time in
    let s0 = same_byte 1 1 a1 b1 (sym (user_peeled format f r) ∙ is ∙ user_peeled format g s) in
    let s1 = same_word r.user s.user (r.superior ∷ a3) (s.superior ∷ b3) is_r.user is_s.user s0.1 in
    let s2 = same_byte r.superior s.superior a3 b3 s1.1 in
    let s3 = same_number 4 r.space s.space a4 b4 (omega arith) (omega arith) s2.1 in
    let s4 = same_number 8 r.time s.time (f ∷ a6) (g ∷ b6) (omega arith) (omega arith) s3.1 in
    let s5 = same_byte f g a6 b6 s4.1 in
    let money = same_money format r.money s.money (user_zeros format f r) (user_zeros format g s) is_r.money is_s.money s5.1 in
    let x : UserRec = record { number = r.number; user = r.user; superior = r.superior; space = r.space; time = r.time; money = r.money } in
    let y : UserRec = record { number = s.number; user = s.user; superior = s.superior; space = s.space; time = s.time; money = s.money } in
    let user = s1.0 in let superior = s2.0 in let space = s3.0 in let time = s4.0 in
    let equal : x ≡ y = cc in (equal, s5.0)

pub user_again : (format : Format) (r s : UserRec) → IsUser format r → IsUser format s → r.number ≡ s.number → user_block format 0 r ≡ user_block format 0 s → r ≡ s
user_again format r s is_r is_s numbered is = (user_held_again format 0 0 r s is_r is_s numbered is).0

same_intent : (m n : ℕ) (c d : Option Intent) (a b : List ℕ) → IfSome c (IsIntent m) → IfSome d (IsIntent n) → intent_fields c ++ a ≡ intent_fields d ++ b → c ≡ d
same_intent m n None None a b of_c of_d is = refl
same_intent m n None (Some d) a b of_c of_d is = let no : ⊥ = cc in absurd no
same_intent m n (Some c) None a b of_c of_d is = let no : ⊥ = cc in absurd no
same_intent m n (Some c) (Some d) a b of_c of_d is =
    let serial_c = of_c.serial.1 in let serial_d = of_d.serial.1 in
    let place_c = of_c.place in let place_d = of_d.place in
    let below_c = of_c.below in let below_d = of_d.below in
    let r2 : List ℕ = number 8 c.number ++ a in
    let q2 : List ℕ = number 8 d.number ++ b in
    let r1 : List ℕ = number 4 c.place ++ r2 in
    let q1 : List ℕ = number 4 d.place ++ q2 in
    let left : intent_fields (Some c) ++ a ≡ 1 ∷ (number 4 c.serial ++ r1) = simp append_assoc in
    let right : intent_fields (Some d) ++ b ≡ 1 ∷ (number 4 d.serial ++ q1) = simp append_assoc in
    let one = same_byte 1 1 (number 4 c.serial ++ r1) (number 4 d.serial ++ q1) (sym left ∙ is ∙ right) in
    let two = same_number 4 c.serial d.serial r1 q1 (omega arith) (omega arith) one.1 in
    let three = same_number 4 c.place d.place r2 q2 (omega arith) (omega arith) two.1 in
    let four = same_number 8 c.number d.number a b (omega arith) (omega arith) three.1 in
    let x : Intent = record { serial = c.serial; place = c.place; number = c.number } in
    let y : Intent = record { serial = d.serial; place = d.place; number = d.number } in
    let serials = two.0 in let places = three.0 in let numbers = four.0 in
    let equal : x ≡ y = cc in ap (λ (i : Intent). Some i) equal

pub same_format : (f g : Format) → format_number f ≡ format_number g → f ≡ g
same_format One One is = refl
same_format One Two is = let no : ⊥ = omega (arith, is) in absurd no
same_format Two One is = let no : ⊥ = omega (arith, is) in absurd no
same_format Two Two is = refl

-- Heads: the block determines the head and the format.
pub head_again : (f g : Format) (h i : Head) → IsHead h → IsHead i → head_block f h ≡ head_block g i → (f ≡ g) × (h ≡ i)
head_again f g h i is_h is_i is =
    let a4 : List ℕ = intent_fields h.intent ++ head_zeros f h in
    let b4 : List ℕ = intent_fields i.intent ++ head_zeros g i in
    let a3 : List ℕ = number 8 h.last_dump ++ a4 in
    let b3 : List ℕ = number 8 i.last_dump ++ b4 in
    let a2 : List ℕ = number 8 h.next_stamp ++ a3 in
    let b2 : List ℕ = number 8 i.next_stamp ++ b3 in
    let a1 : List ℕ = number 2 (format_number f) ++ a2 in
    let b1 : List ℕ = number 2 (format_number g) ++ b2 in
    let stamp_h = is_h.most_stamp in let stamp_i = is_i.most_stamp in
    let last_h = is_h.last_dump in let last_i = is_i.last_dump in
    let fits_f = format_fits f in let fits_g = format_fits g in
    let s0 = same_bytes 4 (codes "G3SL") (codes "G3SL") a1 b1 refl refl (sym (head_peeled f h) ∙ is ∙ head_peeled g i) in
    let s1 = same_number 2 (format_number f) (format_number g) a2 b2 (omega arith) (omega arith) s0.1 in
    let s2 = same_number 8 h.next_stamp i.next_stamp a3 b3 (omega arith) (omega arith) s1.1 in
    let s3 = same_number 8 h.last_dump i.last_dump a4 b4 (omega arith) (omega arith) s2.1 in
    let s4 = same_intent h.last_dump i.last_dump h.intent i.intent (head_zeros f h) (head_zeros g i) is_h.intent is_i.intent s3.1 in
    let x : Head = record { next_stamp = h.next_stamp; last_dump = h.last_dump; intent = h.intent } in
    let y : Head = record { next_stamp = i.next_stamp; last_dump = i.last_dump; intent = i.intent } in
    let stamps = s2.0 in let lasts = s3.0 in
    let equal : x ≡ y = cc in (same_format f g s1.0, equal)

-- FILES: one number and one block
pub file_again : (format : Format) (r s : FileRec) (o p : Option (List ℕ)) → IsFile r → IsFile s → IfSome o (ArePlaces format r.len) → IfSome p (ArePlaces format s.len) → r.number ≡ s.number
    → file_block format r o ≡ file_block format s p → (r ≡ s) × (o ≡ p)
file_again format r s o p is_r is_s of_o of_p numbered is =
    let a9 : List ℕ = online_fields format o ++ file_zeros format r o in
    let b9 : List ℕ = online_fields format p ++ file_zeros format s p in
    let a8 : List ℕ = copy_fields r.tape ++ a9 in
    let b8 : List ℕ = copy_fields s.tape ++ b9 in
    let a7 : List ℕ = r.traps.owner ∷ length r.traps.others ∷ (pair_fields r.traps.others ++ a8) in
    let b7 : List ℕ = s.traps.owner ∷ length s.traps.others ∷ (pair_fields s.traps.others ++ b8) in
    let a6 : List ℕ = number 4 r.len ++ a7 in
    let b6 : List ℕ = number 4 s.len ++ b7 in
    let a5 : List ℕ = file_rest format r o in
    let b5 : List ℕ = file_rest format s p in
    let a4 : List ℕ = lang_field r.lang ++ a5 in
    let b4 : List ℕ = lang_field s.lang ++ b5 in
    let a3 : List ℕ = number 2 r.generation ++ a4 in
    let b3 : List ℕ = number 2 s.generation ++ b4 in
    let a2 : List ℕ = length r.local ∷ (padded 12 r.local ++ a3) in
    let b2 : List ℕ = length s.local ∷ (padded 12 s.local ++ b3) in
    let generation_r = is_r.most_generation in let generation_s = is_s.most_generation in
    let stamp_r = is_r.stamp in let stamp_s = is_s.stamp in
    let len_r = is_r.len in let len_s = is_s.len in
    let s0 = same_byte 1 1 (r.owner ∷ a2) (s.owner ∷ b2) (sym (file_peeled format r o) ∙ is ∙ file_peeled format s p) in
    let s1 = same_byte r.owner s.owner a2 b2 s0.1 in
    let s2 = same_word r.local s.local a3 b3 is_r.local is_s.local s1.1 in
    let s3 = same_number 2 r.generation s.generation a4 b4 (omega arith) (omega arith) s2.1 in
    let s4 = same_lang r.lang s.lang a5 b5 is_r.lang is_s.lang s3.1 in
    let s5 = same_number 8 r.stamp s.stamp a6 b6 (omega arith) (omega arith) s4.1 in
    let s6 = same_number 4 r.len s.len a7 b7 (omega arith) (omega arith) s5.1 in
    let s7 = same_traps r.traps s.traps a8 b8 is_r.others is_s.others s6.1 in
    let s8 = same_copy r.tape s.tape a9 b9 is_r.tape is_s.tape s7.1 in
    let s9 = same_online format s.len o p (file_zeros format r o) (file_zeros format s p) (subst (λ (n : ℕ). IfSome o (ArePlaces format n)) s6.0 of_o) of_p s8.1 in
    let x : FileRec = record { number = r.number; owner = r.owner; local = r.local; generation = r.generation; lang = r.lang; stamp = r.stamp; len = r.len; traps = r.traps; tape = r.tape } in
    let y : FileRec = record { number = s.number; owner = s.owner; local = s.local; generation = s.generation; lang = s.lang; stamp = s.stamp; len = s.len; traps = s.traps; tape = s.tape } in
    let owner = s1.0 in let local = s2.0 in let generation = s3.0 in let lang = s4.0 in let stamp = s5.0 in let len = s6.0 in let traps = s7.0 in let tape = s8.0 in
    let equal : x ≡ y = cc in (equal, s9)

-- the block of a record isn't that of an unused number
pub user_used : (format : Format) (r : UserRec) → user_block format 0 r ≡ replicate 512 0 → ⊥
user_used format r is =
    let first : 1 ∷ (length r.user ∷ (padded 12 r.user ++ (r.superior ∷ (number 4 r.space ++ (number 8 r.time ++ (0 ∷ (money_fields format r.money ++ user_zeros format 0 r))))))) ≡ 0 ∷ replicate 511 0 = sym (user_peeled format 0 r) ∙ is in
    let no : ⊥ = cc in no

pub file_used : (format : Format) (r : FileRec) (online : Option (List ℕ)) → file_block format r online ≡ replicate 512 0 → ⊥
file_used format r online is =
    let first : 1 ∷ (r.owner ∷ length r.local ∷ (padded 12 r.local ++ (number 2 r.generation ++ (lang_field r.lang ++ file_rest format r online)))) ≡ 0 ∷ replicate 511 0 = sym (file_peeled format r online) ∙ is in
    let no : ⊥ = cc in no

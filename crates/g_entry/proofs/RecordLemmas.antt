-- What a reader finds in the block of a record.
-- serves: fields_of (again), take_rec (again), ComingLemmas, OneEncoding, crates above
use Rattle.std.proofs.Common.{◌≡◌, ℕ, ◌-◌, ◌^◌, ◌<◌, ◌≤◌, true, List, ◌∷◌, ◌++◌, length, Option, Some, None, refl, ap, ◌∙◌, sym, arith, append_assoc, subst, lit<}
use Rattle.std.specs.Prelude.{Bool, false, replicate, nat_eq, IfSome, codes}
use Rattle.g_base.specs.Fields.{number, padded}
use Rattle.g_base.proofs.FieldLemmas.{same_byte, same_bytes}
use Rattle.g_name.specs.Grammar.{is_word, is_lang}
use Rattle.g_trap.specs.TrapList.{TrapList, IsOthers}
use Rattle.g_entry.specs.Formats.{format_number, IsMoney}
use Rattle.g_entry.specs.UserFields.{IsUser, held_byte, money_fields, user_fields, user_block}
use Rattle.g_entry.specs.HeadFields.{IsHead, IsIntent, intent_fields, head_fields, head_block}
use Rattle.g_entry.specs.FileFields.{IsFile, IsCopy, AreSets, ArePlaces, pair_fields, lang_field, copy_fields, online_fields, file_fields, file_block}
use Rattle.g_entry.specs.declared.format.Format.{Format}
use Rattle.g_entry.specs.declared.format.Format.TheVariants.{One, Two}
use Rattle.g_entry.specs.declared.head.Head.{Head}
use Rattle.g_entry.specs.declared.head.Intent.{Intent}
use Rattle.g_entry.specs.declared.file_rec.FileRec.{FileRec}
use Rattle.g_entry.specs.declared.file_rec.TapeCopy.{TapeCopy}
use Rattle.g_entry.specs.declared.user_rec.UserRec.{UserRec}

-- what a reader of numbers undoes
abbrev Takes : (limit width : ℕ) → List ℕ → ℕ → List ℕ → Type 0
Takes limit width before taken after = (x : ℕ) (rest : List ℕ) → x < limit → before ≡ number width x ++ rest → (taken ≡ x) × (after ≡ rest)

abbrev TakesWord : List ℕ → Option (List ℕ) → List ℕ → Type 0
TakesWord before taken after = (word rest : List ℕ) → is_word word ≡ true → before ≡ length word ∷ (padded 12 word ++ rest) → (taken ≡ Some word) × (after ≡ rest)

-- The fields of a user, in order.
abbrev pub user_zeros : Format → ℕ → UserRec → List ℕ
user_zeros format held r = replicate (512 - length (user_fields format held r)) 0

pub user_peeled : (format : Format) (held : ℕ) (r : UserRec) → user_block format held r
    ≡ 1 ∷ length r.user ∷ (padded 12 r.user ++ (r.superior ∷ (number 4 r.space ++ (number 8 r.time ++ (held ∷ (money_fields format r.money ++ user_zeros format held r))))))
unfolding user_fields padded
user_peeled format held r = simp append_assoc

-- what was taken is what the record has
pub record UserRead (r : UserRec) (held : Bool) (user : Option (List ℕ)) (superior space time money : ℕ) (flag : Bool) : Type 0 where
  pub name : user ≡ Some r.user
  pub above : superior ≡ r.superior
  pub blocks : space ≡ r.space
  pub units : time ≡ r.time
  pub pay : money ≡ r.money
  pub is_held : flag ≡ held

flag_of : (held : Bool) → nat_eq (held_byte held) 1 ≡ held
flag_of true = refl
flag_of false = refl

pub user_read : (format : Format) (r : UserRec) (flag : Bool) (b m0 m1 m2 m3 m4 m5 m6 : List ℕ) (used superior space time held money : ℕ) (user : Option (List ℕ))
    → IsUser format r → b ≡ user_block format (held_byte flag) r → m0 ≡ b → m0 ≡ used ∷ m1 → TakesWord m1 user m2 → m2 ≡ superior ∷ m3
    → Takes (2 ^ 32) 4 m3 space m4 → Takes (2 ^ 64) 8 m4 time m5 → m5 ≡ held ∷ m6
    → ((x : ℕ) (rest : List ℕ) → IsMoney format x → m6 ≡ money_fields format x ++ rest → money ≡ x)
    → UserRead r flag user superior space time money (nat_eq held 1)
user_read format r flag b m0 m1 m2 m3 m4 m5 m6 used superior space time held money user is here from t0 t1 t2 t3 t4 t5 t6 =
    let zeros = user_zeros format (held_byte flag) r in
    let r6 : List ℕ = money_fields format r.money ++ zeros in
    let r4 : List ℕ = number 8 r.time ++ (held_byte flag ∷ r6) in
    let r3 : List ℕ = number 4 r.space ++ r4 in
    let r1 : List ℕ = length r.user ∷ (padded 12 r.user ++ (r.superior ∷ r3)) in
    let in_space = is.space in
    let in_time = is.time in
    let s0 = same_byte used 1 m1 r1 (sym t0 ∙ from ∙ here ∙ user_peeled format (held_byte flag) r) in
    let s1 = t1 r.user (r.superior ∷ r3) is.user s0.1 in
    let s2 = same_byte superior r.superior m3 r3 (sym t2 ∙ s1.1) in
    let s3 = t3 r.space r4 (omega arith) s2.1 in
    let s4 = t4 r.time (held_byte flag ∷ r6) (omega arith) s3.1 in
    let s5 = same_byte held (held_byte flag) m6 r6 (sym t5 ∙ s4.1) in
    record { name = s1.0; above = s2.0; blocks = s3.0; units = s4.0; pay = t6 r.money zeros is.money s5.1; is_held = ap (λ (n : ℕ). nat_eq n 1) s5.0 ∙ flag_of flag }

-- records of the same fields are one
pub same_user : (r : UserRec) (held : Bool) (number : ℕ) (user : List ℕ) (superior space time money : ℕ) (flag : Bool) → r.number ≡ number → UserRead r held (Some user) superior space time money flag
    → (let made : UserRec × Bool = (record { number = number; user = user; superior = superior; space = space; time = time; money = money }, flag) in made ≡ (r, held))
same_user r held numbered_as user superior space time money flag numbered read =
    let made : UserRec = record { number = numbered_as; user = user; superior = superior; space = space; time = time; money = money } in
    let same : UserRec = record { number = r.number; user = r.user; superior = r.superior; space = r.space; time = r.time; money = r.money } in
    let name = read.name in let above = read.above in let blocks = read.blocks in let units = read.units in let pay = read.pay in
    let equal : made ≡ same = cc in
    let both : made ≡ r = equal in
    ap (λ (m : UserRec). (m, flag)) both ∙ ap (λ (f : Bool). (r, f)) read.is_held

pub format_fits : (format : Format) → format_number format < 2 ^ 16
format_fits One = lit< tt
format_fits Two = lit< tt

abbrev pub head_zeros : Format → Head → List ℕ
head_zeros format h = replicate (512 - length (head_fields format h)) 0

pub head_peeled : (format : Format) (h : Head) → head_block format h
    ≡ codes "G3SL" ++ (number 2 (format_number format) ++ (number 8 h.next_stamp ++ (number 8 h.last_dump ++ (intent_fields h.intent ++ head_zeros format h))))
unfolding head_fields padded
head_peeled format h = simp append_assoc

pub head_read : (format : Format) (h : Head) (b m0 m1 m2 m3 m4 letters : List ℕ) (written next last : ℕ) (intent : Option Intent)
    → IsHead h → b ≡ head_block format h → m0 ≡ b → m0 ≡ letters ++ m1 → length letters ≡ 4
    → Takes (2 ^ 16) 2 m1 written m2 → Takes (2 ^ 64) 8 m2 next m3 → Takes (2 ^ 64) 8 m3 last m4
    → ((before : ℕ) (i : Option Intent) (rest : List ℕ) → IfSome i (IsIntent before) → m4 ≡ intent_fields i ++ rest → intent ≡ i)
    → (let made : Head = record { next_stamp = next; last_dump = last; intent = intent } in made ≡ h)
head_read format h b m0 m1 m2 m3 m4 letters written next last intent is here from t0 four t1 t2 t3 t4 =
    let zeros = head_zeros format h in
    let r4 : List ℕ = intent_fields h.intent ++ zeros in
    let r3 : List ℕ = number 8 h.last_dump ++ r4 in
    let r2 : List ℕ = number 8 h.next_stamp ++ r3 in
    let r1 : List ℕ = number 2 (format_number format) ++ r2 in
    let in_stamp = is.most_stamp in
    let in_last = is.last_dump in
    let s0 = same_bytes 4 letters (codes "G3SL") m1 r1 four refl (sym t0 ∙ from ∙ here ∙ head_peeled format h) in
    let s1 = t1 (format_number format) r2 (format_fits format) s0.1 in
    let s2 = t2 h.next_stamp r3 (omega arith) s1.1 in
    let s3 = t3 h.last_dump r4 (omega arith) s2.1 in
    let s4 = t4 h.last_dump h.intent zeros is.intent s3.1 in
    let one = s2.0 in let two = s3.0 in
    let made : Head = record { next_stamp = next; last_dump = last; intent = intent } in
    let same : Head = record { next_stamp = h.next_stamp; last_dump = h.last_dump; intent = h.intent } in
    let equal : made ≡ same = cc in equal

abbrev pub file_zeros : Format → FileRec → Option (List ℕ) → List ℕ
file_zeros format r online = replicate (512 - length (file_fields format r online)) 0

-- from the stamp on
abbrev pub file_rest : Format → FileRec → Option (List ℕ) → List ℕ
file_rest format r online =
    number 8 r.stamp ++ (number 4 r.len ++ (r.traps.owner ∷ length r.traps.others ∷ (pair_fields r.traps.others ++ (copy_fields r.tape ++ (online_fields format online ++ file_zeros format r online)))))

pub file_peeled : (format : Format) (r : FileRec) (online : Option (List ℕ)) → file_block format r online
    ≡ 1 ∷ r.owner ∷ length r.local ∷ (padded 12 r.local ++ (number 2 r.generation ++ (lang_field r.lang ++ file_rest format r online)))
unfolding file_fields padded
file_peeled format r online = simp append_assoc

pub record FileRead (r : FileRec) (owner : ℕ) (local : Option (List ℕ)) (generation : ℕ) (lang : Option (List ℕ)) (stamp len : ℕ) (traps : Option TrapList) (tape : Option TapeCopy) : Type 0 where
  pub owned : owner ≡ r.owner
  pub name : local ≡ Some r.local
  pub version : generation ≡ r.generation
  pub language : lang ≡ Some r.lang
  pub made : stamp ≡ r.stamp
  pub size : len ≡ r.len
  pub trapped : traps ≡ Some r.traps
  pub copy : tape ≡ r.tape

-- the fields before the block numbers
pub rec_read : (format : Format) (r : FileRec) (places : Option (List ℕ)) (m0 m1 m2 m3 m4 m5 m6 m7 m8 m9 : List ℕ) (used owner generation stamp len : ℕ)
    (local lang : Option (List ℕ)) (traps : Option TrapList) (tape : Option TapeCopy)
    → IsFile r → m0 ≡ file_block format r places → m0 ≡ used ∷ m1 → m1 ≡ owner ∷ m2 → TakesWord m2 local m3
    → Takes (2 ^ 16) 2 m3 generation m4
    → ((l rest : List ℕ) → is_lang l ≡ true → m4 ≡ lang_field l ++ rest → (lang ≡ Some l) × (m5 ≡ rest))
    → Takes (2 ^ 64) 8 m5 stamp m6 → Takes (2 ^ 32) 4 m6 len m7
    → ((t : TrapList) (rest : List ℕ) → IsOthers t.others → AreSets t → m7 ≡ t.owner ∷ length t.others ∷ (pair_fields t.others ++ rest) → (traps ≡ Some t) × (m8 ≡ rest))
    → ((c : Option TapeCopy) (rest : List ℕ) → IfSome c IsCopy → m8 ≡ copy_fields c ++ rest → (tape ≡ c) × (m9 ≡ rest))
    → (FileRead r owner local generation lang stamp len traps tape) × (m9 ≡ online_fields format places ++ file_zeros format r places)
rec_read format r places m0 m1 m2 m3 m4 m5 m6 m7 m8 m9 used owner generation stamp len local lang traps tape is here t0 t1 t2 t3 t4 t5 t6 t7 t8 =
    let r9 : List ℕ = online_fields format places ++ file_zeros format r places in
    let r8 : List ℕ = copy_fields r.tape ++ r9 in
    let r7 : List ℕ = r.traps.owner ∷ length r.traps.others ∷ (pair_fields r.traps.others ++ r8) in
    let r6 : List ℕ = number 4 r.len ++ r7 in
    let r5 : List ℕ = file_rest format r places in
    let r4 : List ℕ = lang_field r.lang ++ r5 in
    let r3 : List ℕ = number 2 r.generation ++ r4 in
    let r2 : List ℕ = length r.local ∷ (padded 12 r.local ++ r3) in
    let in_generation = is.most_generation in
    let in_stamp = is.stamp in
    let in_len = is.len in
    let s0 = same_byte used 1 m1 (r.owner ∷ r2) (sym t0 ∙ here ∙ file_peeled format r places) in
    let s1 = same_byte owner r.owner m2 r2 (sym t1 ∙ s0.1) in
    let s2 = t2 r.local r3 is.local s1.1 in
    let s3 = t3 r.generation r4 (omega arith) s2.1 in
    let s4 = t4 r.lang r5 is.lang s3.1 in
    let s5 = t5 r.stamp r6 (omega arith) s4.1 in
    let s6 = t6 r.len r7 (omega arith) s5.1 in
    let s7 = t7 r.traps r8 is.others is.sets s6.1 in
    let s8 = t8 r.tape r9 is.tape s7.1 in
    (record { owned = s1.0; name = s2.0; version = s3.0; language = s4.0; made = s5.0; size = s6.0; trapped = s7.0; copy = s8.0 }, s8.1)

pub same_file : (r : FileRec) (number owner : ℕ) (local : List ℕ) (generation : ℕ) (lang : List ℕ) (stamp len : ℕ) (traps : TrapList) (tape : Option TapeCopy)
    → r.number ≡ number → FileRead r owner (Some local) generation (Some lang) stamp len (Some traps) tape
    → (let made : FileRec = record { number = number; owner = owner; local = local; generation = generation; lang = lang; stamp = stamp; len = len; traps = traps; tape = tape } in made ≡ r)
same_file r numbered_as owner local generation lang stamp len traps tape numbered read =
    let made : FileRec = record { number = numbered_as; owner = owner; local = local; generation = generation; lang = lang; stamp = stamp; len = len; traps = traps; tape = tape } in
    let same : FileRec = record { number = r.number; owner = r.owner; local = r.local; generation = r.generation; lang = r.lang; stamp = r.stamp; len = r.len; traps = r.traps; tape = r.tape } in
    let owned = read.owned in let name = read.name in let version = read.version in let language = read.language in let stamped = read.made in
    let size = read.size in let trapped = read.trapped in let copy = read.copy in
    let equal : made ≡ same = cc in equal

-- with the names and traps that were there
pub found_file : (r : FileRec) (owner : ℕ) (local : Option (List ℕ)) (generation : ℕ) (lang : Option (List ℕ)) (stamp len : ℕ) (traps : Option TrapList) (tape : Option TapeCopy)
    (local_is lang_is : List ℕ) (traps_are : TrapList) → local ≡ Some local_is → lang ≡ Some lang_is → traps ≡ Some traps_are
    → FileRead r owner local generation lang stamp len traps tape → FileRead r owner (Some local_is) generation (Some lang_is) stamp len (Some traps_are) tape
found_file r owner local generation lang stamp len traps tape local_is lang_is traps_are has_local has_lang has_traps read = record {
  owned = read.owned;
  name = sym has_local ∙ read.name;
  version = read.version;
  language = sym has_lang ∙ read.language;
  made = read.made;
  size = read.size;
  trapped = sym has_traps ∙ read.trapped;
  copy = read.copy;
}

-- An option that is None isn't Some.
pub not_there : {A : Type 0} (taken : Option A) (x : A) → taken ≡ None → taken ≡ Some x → ⊥
not_there taken x none some = cc

-- The record, and the block numbers after it.
pub file_whole : (format : Format) (r s : FileRec) (online places : Option (List ℕ)) (found : Option FileRec) (left zeros : List ℕ) → found ≡ Some s → found ≡ Some r
    → IsFile r → IfSome places (ArePlaces format r.len) → left ≡ online_fields format places ++ zeros
    → ((o : Option (List ℕ)) (behind : List ℕ) → s.len ≤ 65536 → IfSome o (ArePlaces format s.len) → left ≡ online_fields format o ++ behind → online ≡ o)
    → (let one : Option (FileRec × Option (List ℕ)) = Some (s, online) in let other : Option (FileRec × Option (List ℕ)) = Some (r, places) in one ≡ other)
file_whole format r s online places found left zeros has here is are behind taken =
    let same : s ≡ r = cc in
    let len : r.len ≡ s.len = sym (ap (λ (f : FileRec). f.len) same) in
    let short : s.len ≤ 65536 = subst (λ (n : ℕ). n ≤ 65536) len is.len in
    let there = taken places zeros short (subst (λ (n : ℕ). IfSome places (ArePlaces format n)) len are) behind in
    ap (λ (f : FileRec). Some (f, online)) same ∙ ap (λ (o : Option (List ℕ)). Some (r, o)) there

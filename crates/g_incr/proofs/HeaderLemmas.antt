-- Writing and reading the header and the mark of a dump.
-- serves: encode_header, encode_mark, fields_of
use Rattle.std.proofs.Common.{◌≡◌, ℕ, ◌+◌, ◌-◌, ◌^◌, ◌<◌, List, [], ◌++◌, length, replicate, refl, sym, ◌∙◌, ap, arith}
use Rattle.std.specs.Prelude.{codes}
use Rattle.std.proofs.lemmas.List.{append-nil, length-append, length-replicate}
use Rattle.g_base.specs.Fields.{number, padded}
use Rattle.g_base.proofs.FieldLemmas.{length-number, same_bytes}
use Rattle.g_entry.specs.Formats.{format_number}
use Rattle.g_entry.proofs.RecordLemmas.{format_fits}
use Rattle.g_incr.specs.declared.note.DumpNote.{DumpNote}
use Rattle.g_incr.specs.declared.note.Header.{Header}
use Rattle.g_incr.specs.Layout.{Dump, IsDump, count_of, header_block, header_fields, mark_block}
use Rattle.g_incr.specs.Notes.{IsHeaderOf, IsNoteOf}
use Rattle.g_incr.proofs.OneLemmas.{header_peeled, header_zeros}

-- A number that was written.
pub put_length : (n x : ℕ) (old new : List ℕ) → new ≡ old ++ number n x → length new ≡ length old + n
put_length n x old new is = ap length is ∙ length-append old (number n x) ∙ ap (λ k. length old + k) (length-number n x)

pub header_written : (h : Header) (w0 w1 w2 w3 w4 w5 w6 w7 w8 : List ℕ) → w0 ≡ [] → w1 ≡ w0 ++ codes "G3HD" → w2 ≡ w1 ++ number 2 (format_number h.format)
    → w3 ≡ w2 ++ number 8 h.note.number → w4 ≡ w3 ++ number 4 h.note.place → w5 ≡ w4 ++ number 4 h.note.count → w6 ≡ w5 ++ number 2 h.note.users
    → w7 ≡ w6 ++ number 2 h.note.files → w8 ≡ w7 ++ number 8 h.note.next_stamp → (d : Dump) → IsHeaderOf d h → padded 512 w8 ≡ header_block d
unfolding header_fields
header_written h w0 w1 w2 w3 w4 w5 w6 w7 w8 e0 e1 e2 e3 e4 e5 e6 e7 e8 d of =
    let first : w1 ≡ codes "G3HD" = e1 ∙ ap (λ (w : List ℕ). w ++ codes "G3HD") e0 in
    let format = of.format in
    let is_number = of.note.number in
    let is_place = of.note.place in
    let is_count = of.note.count in
    let is_users = of.note.users in
    let is_files = of.note.files in
    let is_next = of.note.next_stamp in
    let s2 : w2 ≡ codes "G3HD" ++ number 2 (format_number d.format) = cc in
    let s3 : w3 ≡ codes "G3HD" ++ number 2 (format_number d.format) ++ number 8 d.number = cc in
    let s4 : w4 ≡ codes "G3HD" ++ number 2 (format_number d.format) ++ number 8 d.number ++ number 4 d.place = cc in
    let s5 : w5 ≡ codes "G3HD" ++ number 2 (format_number d.format) ++ number 8 d.number ++ number 4 d.place ++ number 4 (count_of d) = cc in
    let s6 : w6 ≡ codes "G3HD" ++ number 2 (format_number d.format) ++ number 8 d.number ++ number 4 d.place ++ number 4 (count_of d) ++ number 2 (length d.users) = cc in
    let s7 : w7 ≡ codes "G3HD" ++ number 2 (format_number d.format) ++ number 8 d.number ++ number 4 d.place ++ number 4 (count_of d) ++ number 2 (length d.users) ++ number 2 (length d.files) = cc in
    ap (padded 512) (e8 ∙ ap (λ (w : List ℕ). w ++ number 8 h.note.next_stamp) s7
    ∙ ap (λ (n : ℕ). codes "G3HD" ++ number 2 (format_number d.format) ++ number 8 d.number ++ number 4 d.place ++ number 4 (count_of d) ++ number 2 (length d.users) ++ number 2 (length d.files) ++ number 8 n) is_next)

-- A full block needs no padding.
padded_full : (n : ℕ) (bytes : List ℕ) → length bytes ≡ n → padded n bytes ≡ bytes
unfolding padded
padded_full n bytes long = ap (λ (k : ℕ). bytes ++ replicate {A = ℕ} k 0) (let none : n - length bytes ≡ 0 = omega arith in none) ∙ append-nil bytes

padded_by : (n k : ℕ) (bytes : List ℕ) → length bytes + k ≡ n → padded n bytes ≡ bytes ++ replicate k 0
unfolding padded
padded_by n k bytes long = ap (λ (m : ℕ). bytes ++ replicate {A = ℕ} m 0) (let rest : n - length bytes ≡ k = omega arith in rest)

pub mark_written : (n : DumpNote) (w0 w1 w2 w3 w4 w5 w6 : List ℕ) → w0 ≡ [] → w1 ≡ w0 ++ codes "G3MK" → w2 ≡ w1 ++ number 8 n.number → w3 ≡ w2 ++ number 4 n.place
    → w4 ≡ w3 ++ number 4 n.count → w5 ≡ w4 ++ replicate 488 0 → w6 ≡ w5 ++ number 4 n.count → (d : Dump) → IsNoteOf d n → padded 512 w6 ≡ mark_block d
unfolding mark_block
mark_written n w0 w1 w2 w3 w4 w5 w6 e0 e1 e2 e3 e4 e5 e6 d of =
    let first : w1 ≡ codes "G3MK" = e1 ∙ ap (λ (w : List ℕ). w ++ codes "G3MK") e0 in
    let l1 : length w1 ≡ 4 = ap length first in
    let l2 = put_length 8 n.number w1 w2 e2 in
    let l3 = put_length 4 n.place w2 w3 e3 in
    let l4 = put_length 4 n.count w3 w4 e4 in
    let l5 : length w5 ≡ length w4 + 488 = ap length e5 ∙ length-append w4 (replicate 488 0) ∙ ap (λ (k : ℕ). length w4 + k) (length-replicate {A = ℕ} 488 0) in
    let l6 = put_length 4 n.count w5 w6 e6 in
    let is_number = of.number in
    let is_place = of.place in
    let is_count = of.count in
    let s2 : w2 ≡ codes "G3MK" ++ number 8 d.number = cc in
    let s3 : w3 ≡ codes "G3MK" ++ number 8 d.number ++ number 4 d.place = cc in
    let s4 : w4 ≡ codes "G3MK" ++ number 8 d.number ++ number 4 d.place ++ number 4 (count_of d) = e4 ∙ ap (λ (w : List ℕ). w ++ number 4 n.count) s3
    ∙ ap (λ (k : ℕ). codes "G3MK" ++ number 8 d.number ++ number 4 d.place ++ number 4 k) is_count in
    let s5 : w5 ≡ padded 508 w4 = e5 ∙ sym (padded_by 508 488 w4 (omega arith)) in
    padded_full 512 w6 (omega arith) ∙ e6 ∙ ap (λ (k : ℕ). w5 ++ number 4 k) is_count
    ∙ ap (λ (w : List ℕ). w ++ number 4 (count_of d)) (s5 ∙ ap (padded 508) s4)

abbrev pub Takes : (limit width : ℕ) → List ℕ → ℕ → List ℕ → Type 0
Takes limit width before taken after = (x : ℕ) (rest : List ℕ) → x < limit → before ≡ number width x ++ rest → (taken ≡ x) × (after ≡ rest)

pub header_read : (d : Dump) (b m0 m1 m2 m3 m4 m5 m6 m7 m8 letters : List ℕ) (format : ℕ) (note : DumpNote) → IsDump d → b ≡ header_block d → m0 ≡ b → m0 ≡ letters ++ m1 → length letters ≡ 4
    → Takes (2 ^ 16) 2 m1 format m2 → Takes (2 ^ 64) 8 m2 note.number m3 → Takes (2 ^ 32) 4 m3 note.place m4 → Takes (2 ^ 32) 4 m4 note.count m5
    → Takes (2 ^ 16) 2 m5 note.users m6 → Takes (2 ^ 16) 2 m6 note.files m7 → Takes (2 ^ 64) 8 m7 note.next_stamp m8
    → (format ≡ format_number d.format) × IsNoteOf d note
header_read d b m0 m1 m2 m3 m4 m5 m6 m7 m8 letters format note is here from t0 four t1 t2 t3 t4 t5 t6 t7 =
    let r7 : List ℕ = header_zeros d in
    let r6 : List ℕ = number 8 d.next ++ r7 in
    let r5 : List ℕ = number 2 (length d.files) ++ r6 in
    let r4 : List ℕ = number 2 (length d.users) ++ r5 in
    let r3 : List ℕ = number 4 (count_of d) ++ r4 in
    let r2 : List ℕ = number 4 d.place ++ r3 in
    let r1 : List ℕ = number 8 d.number ++ r2 in
    let r0 : List ℕ = number 2 (format_number d.format) ++ r1 in
    let in_number = is.number in
    let in_place = is.place in
    let in_count = is.count in
    let in_users = is.users.few in
    let in_files = is.files.few in
    let in_next = is.last in
    let s0 = same_bytes 4 letters (codes "G3HD") m1 r0 four refl (sym t0 ∙ from ∙ here ∙ header_peeled d) in
    let s1 = t1 (format_number d.format) r1 (format_fits d.format) s0.1 in
    let s2 = t2 d.number r2 (omega arith) s1.1 in
    let s3 = t3 d.place r3 (omega arith) s2.1 in
    let s4 = t4 (count_of d) r4 (omega arith) s3.1 in
    let s5 = t5 (length d.users) r5 (omega arith) s4.1 in
    let s6 = t6 (length d.files) r6 (omega arith) s5.1 in
    let s7 = t7 d.next r7 (omega arith) s6.1 in
    (s1.0, record { number = s2.0; place = s3.0; count = s4.0; users = s5.0; files = s6.0; next_stamp = s7.0 })

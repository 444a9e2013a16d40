use Rattle.std.proofs.Common.{◌++◌, Some, refl, sym, ◌∙◌}
use Rattle.std.specs.Prelude.{codes}
use Rattle.std.proofs.lemmas.Bool.Decides.{Decides-eqb}
use Rattle.std.proofs.lemmas.List.{append_cancel_left}
use Rattle.std.proofs.lemmas.Option.{same_Some}
use Rattle.std.proofs.lemmas.Slice.Eq.{strip_prefix_is}
use Rattle.g_monitor.specs.Parts.{full_text}
use Rattle.g_seal.proofs.EntryLemmas.{after_len, after_name, after_stamp, after_sum, file_right}
use Rattle.g_seal.proofs.FieldLemmas.{not_none, plain_full, rest_online}
use Rattle.g_seal.proofs.line_reader.file_of.Goals as goal

pub returns-in_err-full-clause-read : goal.returns-in_err-full-clause-read
returns-in_err-full-clause-read c = λ file entry is.
    let begins = strip_prefix_is Decides-eqb c.args.line.now (codes "FILE ") (Some c.in_ok-strip_prefix.field-0) c.in_ok-strip_prefix.ensures.cases in
    let name = c.word.ensures (full_text file.full) (after_name file) (plain_full file.full entry.full) refl (append_cancel_left (codes "FILE ") _ (full_text file.full ++ after_name file) (sym begins ∙ is ∙ file_right file)) in
    absurd (not_none _ file.full c.in_err-full.was (c.full_in.ensures.read file.full entry.full name.0))

pub returns-in_err-len-clause-read : goal.returns-in_err-len-clause-read
returns-in_err-len-clause-read c = λ file entry is.
    let begins = strip_prefix_is Decides-eqb c.args.line.now (codes "FILE ") (Some c.in_ok-strip_prefix.field-0) c.in_ok-strip_prefix.ensures.cases in
    let name = c.word.ensures (full_text file.full) (after_name file) (plain_full file.full entry.full) refl (append_cancel_left (codes "FILE ") _ (full_text file.full ++ after_name file) (sym begins ∙ is ∙ file_right file)) in
    absurd (c.in_err-len.ensures.read file.len (after_len file) entry.len refl name.1)

pub returns-in_err-stamp-clause-read : goal.returns-in_err-stamp-clause-read
returns-in_err-stamp-clause-read c = λ file entry is.
    let begins = strip_prefix_is Decides-eqb c.args.line.now (codes "FILE ") (Some c.in_ok-strip_prefix.field-0) c.in_ok-strip_prefix.ensures.cases in
    let name = c.word.ensures (full_text file.full) (after_name file) (plain_full file.full entry.full) refl (append_cancel_left (codes "FILE ") _ (full_text file.full ++ after_name file) (sym begins ∙ is ∙ file_right file)) in
    let len = c.in_ok-len.ensures.read file.len (after_len file) entry.len refl name.1 in
    absurd (c.in_err-stamp.ensures.read file.stamp (after_stamp file) entry.stamp refl len.1)

pub returns-in_err-sum-clause-read : goal.returns-in_err-sum-clause-read
returns-in_err-sum-clause-read c = λ file entry is.
    let begins = strip_prefix_is Decides-eqb c.args.line.now (codes "FILE ") (Some c.in_ok-strip_prefix.field-0) c.in_ok-strip_prefix.ensures.cases in
    let name = c.word.ensures (full_text file.full) (after_name file) (plain_full file.full entry.full) refl (append_cancel_left (codes "FILE ") _ (full_text file.full ++ after_name file) (sym begins ∙ is ∙ file_right file)) in
    let len = c.in_ok-len.ensures.read file.len (after_len file) entry.len refl name.1 in
    let stamp = c.in_ok-stamp.ensures.read file.stamp (after_stamp file) entry.stamp refl len.1 in
    absurd (c.in_err-sum.ensures.read file.sum (after_sum file) entry.sum (rest_online file.online file.tape) stamp.1)

pub returns-clause-read : goal.returns-clause-read
returns-clause-read c = λ file entry is.
    let begins = strip_prefix_is Decides-eqb c.args.line.now (codes "FILE ") (Some c.in_ok-strip_prefix.field-0) c.in_ok-strip_prefix.ensures.cases in
    let name = c.word.ensures (full_text file.full) (after_name file) (plain_full file.full entry.full) refl (append_cancel_left (codes "FILE ") _ (full_text file.full ++ after_name file) (sym begins ∙ is ∙ file_right file)) in
    let len = c.in_ok-len.ensures.read file.len (after_len file) entry.len refl name.1 in
    let stamp = c.in_ok-stamp.ensures.read file.stamp (after_stamp file) entry.stamp refl len.1 in
    let full = same_Some c.in_ok-full.full file.full (sym c.in_ok-full.was ∙ c.full_in.ensures.read file.full entry.full name.0) in
    let sum = c.in_ok-sum.ensures.read file.sum (after_sum file) entry.sum (rest_online file.online file.tape) stamp.1 in
    let places = c.online_in-online.ensures file.online file.tape sum.1 in
    let tape = c.copy_in.ensures.read file.tape entry.tape places.1 in
    λ i. Some (record { full = full i; len = len.0 i; stamp = stamp.0 i; sum = sum.0 i; online = places.0 i; tape = tape i })

use Rattle.std.proofs.Common.{ℕ, List, ◌-◌, ◌≤◌, length, take, drop, ap, subst, sym, arith}
use Rattle.std.specs.Prelude.{replicate}
use Rattle.g_entry.specs.FileFields.{lang_field}
use Rattle.g_entry.proofs.FieldLemmas.{spaces_behind, length-lang, length-lang_field}
use Rattle.g_entry.proofs.ComingLemmas.{comes_as, comes_two}
use Rattle.g_entry.proofs.compare.lang_comes.Goals as goal

pub returns-clause-comes : goal.returns-clause-comes
returns-clause-comes c =
    let lang = c.as_slice-characters.result.now in
    let spaces = replicate {A = ℕ} (4 - length lang) 32 in
    let behind = comes_as (take (4 - length lang) (drop (length lang) (replicate {A = ℕ} 4 32))) spaces c.next_bytes_equal-same.new.reader c.next_bytes_equal-behind.new.reader c.next_bytes_equal-behind.result (spaces_behind (length lang) (subst (λ (l : List ℕ). length l ≤ 4) (sym c.as_slice-characters.ensures.characters) (length-lang c.args.lang.now c.as_slice-characters.ensures.lang))) c.next_bytes_equal-behind.ensures in
    let whole = comes_two lang spaces c.args.reader.now c.next_bytes_equal-same.new.reader c.next_bytes_equal-behind.new.reader c.next_bytes_equal-same.result c.next_bytes_equal-behind.result c.both.result c.next_bytes_equal-same.ensures behind c.both.ensures in
    comes_as (lang_field lang) (lang_field c.args.lang.now) c.args.reader.now c.next_bytes_equal-behind.new.reader c.both.result (ap lang_field c.as_slice-characters.ensures.characters) whole

pub returns-clause-left : goal.returns-clause-left
returns-clause-left c =
    let whole = returns-clause-comes c in
    let long = whole.long in
    let field = length-lang_field c.args.lang.now (length-lang c.args.lang.now c.as_slice-characters.ensures.lang) in omega arith

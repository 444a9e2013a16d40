use Rattle.std.proofs.Common.{ℕ, List, [], ◌∷◌, ◌++◌, length, ap, sym, ◌∙◌, arith}
use Rattle.std.specs.Prelude.{replicate}
use Rattle.g_base.specs.Fields.{number, padded}
use Rattle.g_entry.specs.FileFields.{copy_fields, lang_field, pair_fields}
use Rattle.g_entry.specs.Comparison.{back_fields, front_fields}
use Rattle.g_entry.proofs.ComingLemmas.{comes_as, comes_two, word_as, traps_as, length-rec}
use Rattle.g_entry.proofs.compare.rec_comes.Goals as goal

pub returns-clause-comes : goal.returns-clause-comes
unfolding number padded
returns-clause-comes c =
    let r = c.args.r.now in
    let m1 = c.next_bytes_equal-used.new.reader in
    let m2 = c.word_comes-local.new.reader in
    let m3 = c.next_bytes_equal-generation.new.reader in
    let m4 = c.lang_comes-lang.new.reader in
    let m5 = c.next_bytes_equal-stamp.new.reader in
    let m6 = c.next_bytes_equal-len.new.reader in
    let m7 = c.next_bytes_equal-traps.new.reader in
    let m8 = c.zeros_come-others.new.reader in
    let m9 = c.copy_comes-copy.new.reader in
    let word = word_as c.as_slice.result.now r.local m1 m2 c.word_comes-local.result c.as_slice.ensures.characters c.word_comes-local.ensures.comes in
    let generation = comes_as c.to_be_bytes.result (number 2 r.generation) m2 m3 c.next_bytes_equal-generation.result c.to_be_bytes.ensures c.next_bytes_equal-generation.ensures in
    let stamp = comes_as c.to_be_bytes-2.result (number 8 r.stamp) m4 m5 c.next_bytes_equal-stamp.result c.to_be_bytes-2.ensures c.next_bytes_equal-stamp.ensures in
    let len = comes_as c.to_be_bytes-3.result (number 4 r.len) m5 m6 c.next_bytes_equal-len.result c.to_be_bytes-3.ensures c.next_bytes_equal-len.ensures in
    let owner = c.bits.ensures.value ∙ c.owner_modes.ensures in
    let traps = traps_as r.traps c.bits.result m6 m7 c.next_bytes_equal-traps.result owner c.requires.nobody c.next_bytes_equal-traps.ensures in
    let others = comes_as (replicate {A = ℕ} 16 0) (pair_fields r.traps.others) m7 m8 c.zeros_come-others.result (ap pair_fields (sym c.requires.nobody)) c.zeros_come-others.ensures in
    let t1 = comes_two (number 2 r.generation) (lang_field r.lang) m2 m3 m4 c.next_bytes_equal-generation.result c.lang_comes-lang.result c.both.result generation c.lang_comes-lang.ensures.comes c.both.ensures in
    let t2 = comes_two (length r.local ∷ padded 12 r.local) (number 2 r.generation ++ lang_field r.lang) m1 m2 m4 c.word_comes-local.result c.both.result c.both-2.result word t1 c.both-2.ensures in
    let front = comes_two (1 ∷ r.owner ∷ []) ((length r.local ∷ padded 12 r.local) ++ (number 2 r.generation ++ lang_field r.lang)) c.args.reader.now m1 m4 c.next_bytes_equal-used.result c.both-2.result c.both-front.result c.next_bytes_equal-used.ensures t2 c.both-front.ensures in
    let t3 = comes_two (pair_fields r.traps.others) (copy_fields r.tape) m7 m8 m9 c.zeros_come-others.result c.copy_comes-copy.result c.both-3.result others c.copy_comes-copy.ensures.comes c.both-3.ensures in
    let t4 = comes_two (r.traps.owner ∷ length r.traps.others ∷ []) (pair_fields r.traps.others ++ copy_fields r.tape) m6 m7 m9 c.next_bytes_equal-traps.result c.both-3.result c.both-4.result traps t3 c.both-4.ensures in
    let t5 = comes_two (number 4 r.len) (r.traps.owner ∷ length r.traps.others ∷ (pair_fields r.traps.others ++ copy_fields r.tape)) m5 m6 m9 c.next_bytes_equal-len.result c.both-4.result c.both-5.result len t4 c.both-5.ensures in
    let back = comes_two (number 8 r.stamp) (number 4 r.len ++ (r.traps.owner ∷ length r.traps.others ∷ (pair_fields r.traps.others ++ copy_fields r.tape))) m4 m5 m9 c.next_bytes_equal-stamp.result c.both-5.result c.both-back.result stamp t5 c.both-back.ensures in
    comes_two (front_fields r) (back_fields r) c.args.reader.now m4 m9 c.both-front.result c.both-back.result c.both-6.result front back c.both-6.ensures

pub returns-clause-left : goal.returns-clause-left
returns-clause-left c =
    let whole = returns-clause-comes c in
    let long = whole.long in
    let field = length-rec c.args.r.now c.requires.file in omega arith

use Rattle.std.proofs.Common.{ℕ, List, [], ◌∷◌, ◌++◌, ap, sym, ◌∙◌, length}
use Rattle.std.specs.Prelude.{◌==◌, replicate, if◌then◌else◌}
use Rattle.g_entry.specs.Comparison.{Comes, rec_fields}
use Rattle.g_entry.proofs.ComingLemmas.{block_stands, comes_as, comes_two, reads_block}
use Rattle.g_entry.proofs.file_block.fields_stand.Goals as goal

pub returns : goal.returns
returns c = λ format.
    let r = c.args.r.now in
    let flag = if r.len == 0 then 1 else 0 in
    let zeros = replicate {A = ℕ} 451 0 in
    let m1 = c.rec_comes-fields.new.reader in
    let m2 = c.next_bytes_equal-online.new.reader in
    let m3 = c.zeros_come-zeros.new.reader in
    let online = comes_as (c.online_flag.result ∷ []) (flag ∷ []) m1 m2 c.next_bytes_equal-online.result (ap (λ (x : ℕ). x ∷ []) c.online_flag.ensures) c.next_bytes_equal-online.ensures in
    let behind = comes_two (flag ∷ []) zeros m1 m2 m3 c.next_bytes_equal-online.result c.zeros_come-zeros.result c.both.result online c.zeros_come-zeros.ensures c.both.ensures in
    let whole = comes_two (rec_fields r) ((flag ∷ []) ++ zeros) c.new-reader.result m1 m3 c.rec_comes-fields.result c.both.result c.both-2.result c.rec_comes-fields.ensures.comes behind c.both-2.ensures in
    block_stands format r c.args.b.now m3 c.both-2.result c.requires.file c.told-b (reads_block (rec_fields r ++ ((flag ∷ []) ++ zeros)) c.new-reader.result c.args.b.now m3 c.both-2.result c.new-reader.ensures whole)

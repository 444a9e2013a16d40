use Rattle.std.proofs.Common.{◌≡◌, List, ℕ, ◌++◌, ap, ◌∙◌, arith, length}
use Rattle.std.specs.Prelude.{codes}
use Rattle.g_incr.proofs.HeaderLemmas.{header_written, put_length}
use Rattle.g_incr.proofs.header.encode_header.Goals as goal

pub put_u64-requires-2 : goal.put_u64-requires-2
put_u64-requires-2 c =
    let l0 : length c.put_bytes.new.self ≡ 4 = ap length (c.put_bytes.ensures ∙ ap (λ (w : List ℕ). w ++ codes "G3HD") c.new-writer.ensures) in
    let l1 = put_length _ _ _ _ c.put_u16.ensures in
    let l2 = put_length _ _ _ _ c.put_u64.ensures in
    let l3 = put_length _ _ _ _ c.put_u32.ensures in
    let l4 = put_length _ _ _ _ c.put_u32-2.ensures in
    let l5 = put_length _ _ _ _ c.put_u16-2.ensures in
    let l6 = put_length _ _ _ _ c.put_u16-3.ensures in
    omega arith

pub returns : goal.returns
returns c = λ d of.
    c.finish.ensures ∙ header_written c.args.h.now c.new-writer.result c.put_bytes.new.self c.put_u16.new.self c.put_u64.new.self c.put_u32.new.self c.put_u32-2.new.self c.put_u16-2.new.self c.put_u16-3.new.self c.put_u64-2.new.self
    c.new-writer.ensures c.put_bytes.ensures (rw c.number.ensures at c.put_u16.ensures) c.put_u64.ensures c.put_u32.ensures c.put_u32-2.ensures c.put_u16-2.ensures c.put_u16-3.ensures c.put_u64-2.ensures d of

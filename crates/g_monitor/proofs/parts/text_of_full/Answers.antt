use Rattle.std.proofs.Common.{List, [], ap, arith, length, ℕ, ◌+◌, ◌++◌, ◌<◌, ◌≤◌, ◌∙◌, ◌∷◌}
use Rattle.arrayvec.specs.ArrayVec.{array_vec_len}
use Rattle.std.specs.Fmt.{decimal}
use Rattle.g_monitor.proofs.NameLemmas.{full_behind}
use Rattle.g_monitor.proofs.NumberLemmas.{lang_short, word_short}
use Rattle.g_monitor.proofs.parts.text_of_full.Goals as goal

pub returns : goal.returns
returns c =
    let full = c.args.full.now in
    full_behind [] full.user full.local (decimal full.generation) full.lang
    c.push.new.self.items c.put.new.name.items c.push-2.new.self.items c.put-2.new.name.items c.push-3.new.self.items c.put_generation.new.name.items c.push-4.new.self.items c.put-3.new.name.items
    c.push-5.new.self.items
    (c.push.ensures.items ∙ ap (λ (t : List ℕ). t ++ 58 ∷ []) c.new-name.ensures)
    (c.put.ensures.items ∙ ap (λ (t : List ℕ). c.push.new.self.items ++ t) c.as_slice.ensures.characters)
    c.push-2.ensures.items
    (c.put-2.ensures.items ∙ ap (λ (t : List ℕ). c.push-2.new.self.items ++ t) c.as_slice-2.ensures.characters)
    c.push-3.ensures.items
    c.put_generation.ensures.items
    c.push-4.ensures.items
    (c.put-3.ensures.items ∙ ap (λ (t : List ℕ). c.push-4.new.self.items ++ t) c.as_slice-3.ensures.characters)
    c.push-5.ensures.items

pub push-requires-4 : goal.push-requires-4
push-requires-4 c =
    let few : array_vec_len c.put_generation.new.name < 40 = omega (
      arith,
      ap length c.new-name.ensures,
      c.push.ensures.len,
      c.put.ensures.len,
      ap length c.as_slice.ensures.characters,
      word_short c.args.full.now.user c.as_slice.ensures.word,
      c.push-2.ensures.len,
      c.put-2.ensures.len,
      ap length c.as_slice-2.ensures.characters,
      word_short c.args.full.now.local c.as_slice-2.ensures.word,
      c.push-3.ensures.len,
      c.put_generation.ensures.len,
    ) in
    (omega arith, few)

pub put-requires-3 : goal.put-requires-3
put-requires-3 c =
    omega (
      arith,
      ap length c.new-name.ensures,
      c.push.ensures.len,
      c.put.ensures.len,
      ap length c.as_slice.ensures.characters,
      word_short c.args.full.now.user c.as_slice.ensures.word,
      c.push-2.ensures.len,
      c.put-2.ensures.len,
      ap length c.as_slice-2.ensures.characters,
      word_short c.args.full.now.local c.as_slice-2.ensures.word,
      c.push-3.ensures.len,
      c.put_generation.ensures.len,
      c.push-4.ensures.len,
      ap length c.as_slice-3.ensures.characters,
      lang_short c.args.full.now.lang c.as_slice-3.ensures.lang,
    )

pub push-requires-5 : goal.push-requires-5
push-requires-5 c =
    let few : array_vec_len c.put-3.new.name < 40 = omega (
      arith,
      ap length c.new-name.ensures,
      c.push.ensures.len,
      c.put.ensures.len,
      ap length c.as_slice.ensures.characters,
      word_short c.args.full.now.user c.as_slice.ensures.word,
      c.push-2.ensures.len,
      c.put-2.ensures.len,
      ap length c.as_slice-2.ensures.characters,
      word_short c.args.full.now.local c.as_slice-2.ensures.word,
      c.push-3.ensures.len,
      c.put_generation.ensures.len,
      c.push-4.ensures.len,
      c.put-3.ensures.len,
      ap length c.as_slice-3.ensures.characters,
      lang_short c.args.full.now.lang c.as_slice-3.ensures.lang,
    ) in
    (omega arith, few)

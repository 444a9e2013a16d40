use Rattle.std.proofs.Common.{◌≡◌, ◌≤◌, ◌∙◌, ◌++◌, List, Option, Some, ap, arith, length, ℕ}
use Rattle.std.proofs.lemmas.List.{length-drop}
use Rattle.g_entry.specs.declared.file_rec.FileRec.{FileRec}
use Rattle.g_entry.specs.declared.format.Format.{Format}
use Rattle.g_entry.specs.FileFields.{IsFile, file_block, online_fields}
use Rattle.g_entry.proofs.RecordLemmas.{FileRead, rec_read, found_file, same_file, not_there, file_zeros}
use Rattle.g_entry.proofs.file_block.take_rec.Goals as goal
use Rattle.g_entry.proofs.file_block.take_rec.Goals.{After-take_copy-tape}

-- what the fields are of a file's block
read : (c : After-take_copy-tape) (format : Format) (r : FileRec) (online : Option (List ℕ)) → IsFile r → c.args.reader.now ≡ file_block format r online
    → (FileRead r c.take_u8-owner.result c.take_local-local.result c.take_u16-generation.result c.take_lang-lang.result c.take_u64-stamp.result c.take_u32-len.result
    c.take_traps-traps.result c.take_copy-tape.result) × (c.take_copy-tape.new.reader ≡ online_fields format online ++ file_zeros format r online)
read c format r online is here =
    rec_read format r online c.args.reader.now c.take_u8-used.new.self c.take_u8-owner.new.self c.take_local-local.new.reader c.take_u16-generation.new.self c.take_lang-lang.new.reader
    c.take_u64-stamp.new.self c.take_u32-len.new.self c.take_traps-traps.new.reader c.take_copy-tape.new.reader
    c.take_u8-used.result c.take_u8-owner.result c.take_u16-generation.result c.take_u64-stamp.result c.take_u32-len.result
    c.take_local-local.result c.take_lang-lang.result c.take_traps-traps.result c.take_copy-tape.result
    is here c.take_u8-used.ensures c.take_u8-owner.ensures c.take_local-local.ensures.again c.take_u16-generation.ensures.again c.take_lang-lang.ensures.again
    c.take_u64-stamp.ensures.again c.take_u32-len.ensures.again c.take_traps-traps.ensures.again c.take_copy-tape.ensures.again

-- The rest of the 512 bytes after these fields.
left : (c : After-take_copy-tape) → 385 ≤ length c.take_copy-tape.new.reader
left c =
    let all = c.requires in
    let used = ap length c.take_u8-used.ensures in
    let owner = ap length c.take_u8-owner.ensures in
    let local = c.take_local-local.ensures.left in
    let generation = ap length c.take_u16-generation.ensures.left ∙ length-drop 2 c.take_local-local.new.reader in
    let lang = c.take_lang-lang.ensures.left in
    let stamp = ap length c.take_u64-stamp.ensures.left ∙ length-drop 8 c.take_lang-lang.new.reader in
    let len = ap length c.take_u32-len.ensures.left ∙ length-drop 4 c.take_u64-stamp.new.self in
    let traps = c.take_traps-traps.ensures.left in
    let tape = c.take_copy-tape.ensures.left in
    omega (arith, all, used, owner, local, generation, lang, stamp, len, traps, tape)

pub returns-in_err-local-clause-left : goal.returns-in_err-local-clause-left
returns-in_err-local-clause-left c = left (goal.at.returns-in_err-local-clause-left c).After-take_copy-tape

pub returns-in_err-lang-clause-left : goal.returns-in_err-lang-clause-left
returns-in_err-lang-clause-left c = left (goal.at.returns-in_err-lang-clause-left c).After-take_copy-tape

pub returns-in_err-traps-clause-left : goal.returns-in_err-traps-clause-left
returns-in_err-traps-clause-left c = left (goal.at.returns-in_err-traps-clause-left c).After-take_copy-tape

pub returns-clause-left : goal.returns-clause-left
returns-clause-left c = left (goal.at.returns-clause-left c).After-take_copy-tape

pub returns-in_err-local-clause-again : goal.returns-in_err-local-clause-again
returns-in_err-local-clause-again c = λ format r online numbered is here.
    absurd (not_there c.take_local-local.result r.local c.in_err-local.was (read (goal.at.returns-in_err-local-clause-again c).After-take_copy-tape format r online is here).0.name)

pub returns-in_err-lang-clause-again : goal.returns-in_err-lang-clause-again
returns-in_err-lang-clause-again c = λ format r online numbered is here.
    absurd (not_there c.take_lang-lang.result r.lang c.in_err-lang.was (read (goal.at.returns-in_err-lang-clause-again c).After-take_copy-tape format r online is here).0.language)

pub returns-in_err-traps-clause-again : goal.returns-in_err-traps-clause-again
returns-in_err-traps-clause-again c = λ format r online numbered is here.
    absurd (not_there c.take_traps-traps.result r.traps c.in_err-traps.was (read (goal.at.returns-in_err-traps-clause-again c).After-take_copy-tape format r online is here).0.trapped)

pub returns-clause-again : goal.returns-clause-again
returns-clause-again c = λ format r online numbered is here.
    let fields = read (goal.at.returns-clause-again c).After-take_copy-tape format r online is here in
    let there = found_file r c.take_u8-owner.result c.take_local-local.result c.take_u16-generation.result c.take_lang-lang.result c.take_u64-stamp.result c.take_u32-len.result c.take_traps-traps.result c.take_copy-tape.result
    c.in_ok-local.field-0 c.in_ok-lang.field-0 c.in_ok-traps.field-0 c.in_ok-local.was c.in_ok-lang.was c.in_ok-traps.was fields.0 in
    let whole : FileRec → Option FileRec = λ found. Some found in (
      file_zeros format r online,
      ap whole (same_file r c.args.number c.take_u8-owner.result c.in_ok-local.field-0 c.take_u16-generation.result c.in_ok-lang.field-0 c.take_u64-stamp.result c.take_u32-len.result c.in_ok-traps.field-0 c.take_copy-tape.result
          numbered there),
      fields.1,
    )

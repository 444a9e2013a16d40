use Rattle.std.proofs.Common.{sym, ◌∙◌}
use Rattle.g_entry.proofs.FieldLemmas.{lang_again, space_at, no_space_at, no_space_more}
use Rattle.g_entry.proofs.take.without_spaces.Goals as goal

pub returns-then-byte-eq32 : goal.returns-then-byte-eq32
returns-then-byte-eq32 c = λ lang is here.
    sym (space_at c.args.field.now c.loop-at.at c.loop-at-test.true c.if-byte-eq32.true c.loop-at.invariant) ∙ lang_again lang c.args.field.now is here

pub loop-at-preserved : goal.loop-at-preserved
loop-at-preserved c = no_space_at c.args.field.now c.loop-at.at c.loop-at-test.true c.if-byte-eq32.false c.loop-at.invariant

pub returns : goal.returns
returns c = λ lang is here. sym (no_space_more c.args.field.now c.loop-at.at c.loop-at-test.false c.loop-at.invariant) ∙ lang_again lang c.args.field.now is here

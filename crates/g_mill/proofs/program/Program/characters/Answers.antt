use Rattle.std.proofs.Common.{length, sym, ap, ◌∙◌, arith}
use Rattle.g_mill.proofs.MachineLaws.{length-characters, characters_more}
use Rattle.g_mill.proofs.program.Program.characters.Goals as goal

pub push-requires : goal.push-requires
push-requires g c =
    let long = ap length c.loop-i.invariant ∙ length-characters c.args.self.now.words c.args.from c.loop-i.i in
    omega (arith, long)

pub loop-i-preserved : goal.loop-i-preserved
loop-i-preserved g c =
    rw (c.push.ensures.items, c.loop-i.invariant, c.byte_of.ensures.value, c.char_at.ensures.value, c.word_in-word.ensures, c.from.ensures) (sym (characters_more c.args.self.now.words c.args.from c.loop-i.i))

pub returns-clause-length : goal.returns-clause-length
returns-clause-length g c =
    let long = ap length c.loop-i.invariant ∙ length-characters c.args.self.now.words c.args.from c.loop-i.i in
    omega (arith, long)

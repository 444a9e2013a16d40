use Rattle.std.proofs.Common.{arith}
use Rattle.g_seal.proofs.EntryLemmas.{added_file, behind_file, neither, some_of, when_none}
use Rattle.g_seal.proofs.parse.add_line.Goals as goal

pub returns-in-Some-clause-entries : goal.returns-in-Some-clause-entries
returns-in-Some-clause-entries c = λ is. added_file _ _ c.in-Some.file c.push.new.self.items c.in_ok-file.field-0 is c.in-Some.is c.in_ok-file.ensures.entry c.in_ok-push.ensures.items

pub returns-then-not-is_empty-clause-unknown : goal.returns-then-not-is_empty-clause-unknown
returns-then-not-is_empty-clause-unknown c = λ no known.
    behind_file c.args.seal.now.dumps.items c.args.seal.now.files.items c.args.line.now (omega (arith, some_of c.is_empty.result _ c.is_empty.ensures c.if-not-is_empty.true, c.args.seal.now.files.ok.0)) (when_none c.in_ok-file.field-0 _ c.in_default.is c.in_ok-file.ensures.none) known

pub returns-in-None-clause-unknown : goal.returns-in-None-clause-unknown
returns-in-None-clause-unknown c = λ no known.
    neither _ c.args.line.now (when_none c.in_ok-dump.field-0 _ c.in-None.is c.in_ok-dump.ensures.none) (when_none c.in_ok-file.field-0 _ c.in_default.is c.in_ok-file.ensures.none) known

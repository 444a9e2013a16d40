use Rattle.g_files.proofs.MemoryLemmas.{some_bytes}
use Rattle.g_files.proofs.memory_file.MemoryFileRawFile.len.Goals as goal

pub returns-then-fires-clause-bytes : goal.returns-then-fires-clause-bytes
returns-then-fires-clause-bytes c = λ x is. let f = c.args.self.now in some_bytes f.bytes.items x f.each is

pub returns-clause-bytes : goal.returns-clause-bytes
returns-clause-bytes c = λ x is. let f = c.args.self.now in some_bytes f.bytes.items x f.each is

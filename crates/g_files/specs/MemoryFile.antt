-- A file in memory.
use Rattle.std.specs.Prelude.{ℕ, List}
use Rattle.g_files.specs.declared.memory_file.MemoryFile.{MemoryFile}

abbrev pub bytes_of : MemoryFile → List ℕ
bytes_of f = f.bytes.items

abbrev pub faults_of : MemoryFile → ℕ
faults_of f = f.faults

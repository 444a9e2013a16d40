-- The limits of the filestore.
use Rattle.std.specs.Prelude.{ℕ, ◌^◌}

-- The maximum number of users of a filestore.
abbrev pub max_users : ℕ
max_users = 63

-- The maximum number of files of a filestore.
abbrev pub max_files : ℕ
max_files = 1024

-- The maximum size of a file, in bytes.
abbrev pub max_file_bytes : ℕ
max_file_bytes = 65_536

-- The maximum size of a file, in blocks.
abbrev pub max_file_blocks : ℕ
max_file_blocks = 128

-- The last generation number of a name. The first is 1.
abbrev pub max_generation : ℕ
max_generation = 4095

-- The maximum number of trapped users of a file, not counting its owner.
abbrev pub max_trapped : ℕ
max_trapped = 8

-- The index of the first block of a slot that holds a file's record.
abbrev pub first_file_block : ℕ
first_file_block = 64

-- The number of blocks of a slot.
abbrev pub slot_blocks : ℕ
slot_blocks = 1088

-- The first block after the gate and the two slots.
abbrev pub first_copy_block : ℕ
first_copy_block = 2177

-- The maximum number of blocks of a disc.
abbrev pub max_disc_blocks : ℕ
max_disc_blocks = 1_048_576

-- The maximum number of reels of a rack.
abbrev pub max_reels : ℕ
max_reels = 16

-- The last serial of a reel. The first is 1.
abbrev pub max_serial : ℕ
max_serial = 999_999

-- The maximum SPACE of a user, in blocks.
abbrev pub max_space : ℕ
max_space = 65_535

-- The maximum TIME and the maximum MONEY of a user, in units of each.
abbrev pub max_balance : ℕ
max_balance = 1_000_000_000

-- The maximum TIME that a job may request, and that it may be charged at once.
abbrev pub max_allowance : ℕ
max_allowance = 1_000_000

-- The upper limit, exclusive, of version stamps and of dump numbers.
abbrev pub stamp_end : ℕ
stamp_end = 2 ^ 62

-- The maximum size of a script in bytes.
abbrev pub max_script_bytes : ℕ
max_script_bytes = 16_777_216

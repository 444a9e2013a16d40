-- The fault of a copy that a fault of the pool becomes.
use Rattle.g_blocks.specs.declared.pool.PoolFault.{PoolFault}
use Rattle.g_blocks.specs.declared.pool.PoolFault.TheVariants as pool
use Rattle.g_copy.specs.declared.fault.CopyFault.{CopyFault}
use Rattle.g_copy.specs.declared.fault.CopyFault.TheVariants.{DiscFull, NoMemory}

abbrev pub copy_fault_of : PoolFault → CopyFault
copy_fault_of (pool.DiscFull need room) = DiscFull need room
copy_fault_of pool.NoMemory = NoMemory

-- The faults of a reader of tape, as faults of a store.
use Rattle.g_plain.specs.declared.faults.StoreFault.{StoreFault}
use Rattle.g_plain.specs.declared.faults.StoreFault.TheVariants as store
use Rattle.g_incr.specs.declared.fault.ShelfFault.{ShelfFault}
use Rattle.g_incr.specs.declared.fault.ShelfFault.TheVariants as shelf

-- The fault of a store for a fault of a reader.
abbrev pub store_fault : ShelfFault → StoreFault
store_fault shelf.NoTape = store.NoTape
store_fault shelf.NotMounted = store.NotMounted
store_fault shelf.ReadFault = store.TapeReadFault
store_fault shelf.NoMemory = store.NoMemory

-- The store's fault for each fault of the filestore.
use Rattle.g_plain.specs.declared.faults.StoreFault.{StoreFault}
use Rattle.g_plain.specs.declared.faults.StoreFault.TheVariants as store
use Rattle.g_online.specs.declared.fault.OnlineFault.{OnlineFault}
use Rattle.g_online.specs.declared.fault.OnlineFault.TheVariants as online

-- Each fault of the filestore as a fault of the store: a failed read is `DiscReadFault`, the others have the same name.
abbrev pub store_fault_of : OnlineFault → StoreFault
store_fault_of (online.DiscFull need room) = store.DiscFull need room
store_fault_of online.ReadFault = store.DiscReadFault
store_fault_of online.Stopped = store.Stopped
store_fault_of online.NoFilestore = store.NoFilestore
store_fault_of online.NoMemory = store.NoMemory

-- The kind of reply that belongs to each call.
use Rattle.std.specs.Prelude.{◌≤◌, length}
use Rattle.g_plain.specs.declared.calls.StoreCall.{StoreCall}
use Rattle.g_plain.specs.declared.calls.StoreCall.TheVariants.{NewUser, Budget, Put, Append, Fetch, Erase, Rename, List as ListFiles, TrapGo, TrapStop, TrapCheck, Retrieve}
use Rattle.g_plain.specs.declared.calls.StoreReply.{StoreReply}
use Rattle.g_plain.specs.declared.calls.StoreReply.TheVariants.{Done, Made, Appended, Bytes, Erased, Renamed, Listing, Modes, Retrieved}

-- The reply has the call's kind, and the bytes that were put, appended or fetched are at most 65,536.
abbrev pub IsReplyTo : StoreCall → StoreReply → Type 0
IsReplyTo (NewUser user space time money) Done = Unit {0}
IsReplyTo (Budget user kind amount) Done = Unit {0}
IsReplyTo (Put path bytes) (Made full) = length bytes ≤ 65536
IsReplyTo (Append path bytes) (Appended full) = length bytes ≤ 65536
IsReplyTo (Fetch path mode) (Bytes full bytes) = length bytes ≤ 65536
IsReplyTo (Erase path) (Erased full) = Unit {0}
IsReplyTo (Rename path to) (Renamed full) = Unit {0}
IsReplyTo (ListFiles user) (Listing rows) = Unit {0}
IsReplyTo (TrapGo path user modes) Done = Unit {0}
IsReplyTo (TrapStop path user modes) Done = Unit {0}
IsReplyTo (TrapCheck path user) (Modes modes) = Unit {0}
IsReplyTo (Retrieve path) (Retrieved full) = Unit {0}
IsReplyTo call reply = ⊥

-- The lines of granted calls. No line here has its byte 10.
use Rattle.std.specs.Prelude.{ℕ, List, [], ◌∷◌, ◌++◌, length, map, codes}
use Rattle.std.specs.Fmt.{decimal}
use Rattle.g_plain.specs.declared.calls.StoreCall.{StoreCall}
use Rattle.g_plain.specs.declared.calls.StoreCall.TheVariants.{NewUser, Budget, List as ListFiles, TrapGo, TrapStop}
use Rattle.g_plain.specs.declared.calls.StoreReply.{StoreReply}
use Rattle.g_plain.specs.declared.calls.StoreReply.TheVariants.{Done, Made, Appended, Bytes, Erased, Renamed, Listing, Modes, Retrieved}
use Rattle.g_monitor.specs.Listing.{listed_lines, row_line}
use Rattle.g_monitor.specs.Parts.{full_text, modes_text}

-- The line of a granted call that returns nothing.
abbrev pub done_line : StoreCall → List ℕ
done_line (NewUser user space time money) = codes "NEW USER :" ++ user
done_line (Budget user kind amount) = codes "BUDGET SET"
done_line (TrapGo path user modes) = codes "TRAPS SET"
done_line (TrapStop path user modes) = codes "TRAPS SET"
done_line call = []

-- The user whose files a call lists.
abbrev pub listed_user : StoreCall → List ℕ
listed_user (ListFiles user) = user
listed_user call = []

-- The last line, which each granted call has.
abbrev pub last_line : StoreCall → StoreReply → List ℕ
last_line call Done = done_line call
last_line call (Made full) = codes "MADE " ++ full_text full
last_line call (Appended full) = codes "APPENDED " ++ full_text full
last_line call (Bytes full bytes) = codes "LISTED " ++ full_text full
last_line call (Erased full) = codes "ERASED " ++ full_text full
last_line call (Renamed full) = codes "RENAMED " ++ full_text full
last_line call (Listing rows) = ((codes "LISTED :" ++ listed_user call) ++ codes " ") ++ decimal (length rows)
last_line call (Modes modes) = codes "TRAPS " ++ modes_text modes
last_line call (Retrieved full) = codes "RETRIEVED " ++ full_text full

-- The lines of a listing, which precede the last line.
abbrev pub lines_above : StoreReply → List (List ℕ)
lines_above (Bytes full bytes) = listed_lines bytes
lines_above (Listing rows) = map row_line rows
lines_above reply = []

-- THE LINES OF A REPLY; for a Fetch they are what LISTFILE prints.
abbrev pub reply_lines : StoreCall → StoreReply → List (List ℕ)
reply_lines call reply = lines_above reply ++ last_line call reply ∷ []

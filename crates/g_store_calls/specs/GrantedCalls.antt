-- What a call is granted: it isn't refused, and this is the file that it names; and how it is answered then.
use Rattle.std.specs.Prelude.{ℕ, Bool, false, true, List, None, Result}
use Rattle.g_tape.specs.Rack.{Rack}
use Rattle.g_plain.specs.declared.calls.StoreCall.{StoreCall}
use Rattle.g_plain.specs.declared.calls.StoreCall.TheVariants.{Budget, List as ListFiles, NewUser, Put}
use Rattle.g_plain.specs.declared.calls.StoreReply.{StoreReply}
use Rattle.g_plain.specs.declared.faults.StoreFault.{StoreFault}
use Rattle.g_plain.specs.Grants.{name_in}
use Rattle.g_tree.specs.AskedRecords.{IsGranted}
use Rattle.g_tree.specs.declared.asked.Granted.{Granted}
use Rattle.g_tree.specs.Records.{ForTree}
use Rattle.g_disc_contents.specs.Contents.{recs_in}
use Rattle.g_disc_contents.specs.Facts.{OnlineFacts}
use Rattle.g_store_calls.specs.Answering.{AnswersIn, AnswersOver}
use Rattle.g_store_calls.specs.Replies.{RefusesAs}

-- The call isn't refused by users and files, and names this file.
pub record Grants (o : OnlineFacts) (who : List ℕ) (call : StoreCall) (granted : Granted) : Type 0 where
  pub allowed : RefusesAs o.contents.users (recs_in o.contents) o.contents.head.next_stamp who call None
  pub file : ForTree o.contents.users (recs_in o.contents) (λ t. IsGranted o.contents.users (recs_in o.contents) (name_in t who call) granted)

-- The call is granted to some user.
abbrev pub GrantsOne : OnlineFacts → Granted → StoreCall → Type 0
GrantsOne o granted call = (who : List ℕ) × Grants o who call granted

-- The answer for any user to whom this is granted: to a call that needs no tape, and to one that adds bytes or brings them
-- back.
abbrev pub AnswersGranted : OnlineFacts → Granted → Result StoreReply StoreFault → OnlineFacts → StoreCall → Type 0
AnswersGranted old granted answer new call = (who : List ℕ) → Grants old who call granted → AnswersIn who call old answer new

-- The same for a call that adds bytes or brings them back, on disc and rack.
abbrev pub AnswersGrantedOver : OnlineFacts → Rack → Granted → Result StoreReply StoreFault → OnlineFacts → Rack → StoreCall → Type 0
AnswersGrantedOver old rack granted answer new after call = (who : List ℕ) → Grants old who call granted → AnswersOver who call old rack answer new after

-- The calls that name no file, the one that names a file for output, and those that name one for input.
abbrev pub names_none : StoreCall → Bool
names_none (NewUser user space time money) = true
names_none (Budget user kind amount) = true
names_none (ListFiles user) = true
names_none call = false

-- The call that names a file for output.
abbrev pub names_output : StoreCall → Bool
names_output (Put path bytes) = true
names_output call = false

-- The calls that name a file for input.
abbrev pub names_input : StoreCall → Bool
names_input (NewUser user space time money) = false
names_input (Budget user kind amount) = false
names_input (ListFiles user) = false
names_input (Put path bytes) = false
names_input call = true

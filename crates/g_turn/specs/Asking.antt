-- The use of a call's answer: its lines, its bytes, and whether the command succeeded.
use Rattle.std.specs.Prelude.{Bool, Err, List, Ok, if◌then◌else◌, length, ℕ}
use Rattle.g_turn.specs.Outcomes.{done, refused, say, say_all, with_bytes}
use Rattle.g_turn.specs.State.{Work}
use Rattle.g_monitor.specs.Replies.{last_line, reply_lines}
use Rattle.g_name.specs.declared.path.Path.{Path}
use Rattle.g_plain.specs.Programs.{Answer, Asks, Call, Gives}
use Rattle.g_plain.specs.declared.calls.StoreCall.{StoreCall}
use Rattle.g_plain.specs.declared.calls.StoreCall.TheVariants as call
use Rattle.g_plain.specs.declared.calls.StoreReply.TheVariants.{Appended, Made}

-- No store gives an answer of another kind than the call's; the work is then unchanged.
module _ (room : ℕ) where
  -- The use of the answer to a verb's only call: its reply is printed, or its refusal.
  abbrev pub by_answer : StoreCall → Work → Answer → Asks Work
  by_answer asked w (Ok reply) = Gives (say_all room (reply_lines asked reply) (done w))
  by_answer asked w (Err fault) = Gives (refused room fault w)

  -- A verb of one call that has no bytes: makes the call and prints its reply.
  abbrev pub one_call : StoreCall → Work → Asks Work
  one_call asked w = Call asked (by_answer asked w)

  -- Bytes were written. The command succeeds; but at the release of a unit by DELETE or at the job's end the outcome is unchanged.
  abbrev pub put_told : Bool → Path → List ℕ → Work → Answer → Asks Work
  put_told comes_well path bytes w (Ok (Made full)) =
      Gives (say room (last_line (call.Put path bytes) (Made full)) (with_bytes (length bytes) (if comes_well then done w else w)))
  put_told comes_well path bytes w (Ok reply) = Gives w
  put_told comes_well path bytes w (Err fault) = Gives (refused room fault w)

  -- Writes bytes to a path.
  abbrev pub put : Bool → Path → List ℕ → Work → Asks Work
  put comes_well path bytes w = Call (call.Put path bytes) (put_told comes_well path bytes w)

  -- Bytes were appended to a file.
  abbrev pub append_told : Path → List ℕ → Work → Answer → Asks Work
  append_told path bytes w (Ok (Appended full)) =
      Gives (say room (last_line (call.Append path bytes) (Appended full)) (with_bytes (length bytes) (done w)))
  append_told path bytes w (Ok reply) = Gives w
  append_told path bytes w (Err fault) = Gives (refused room fault w)

  -- Appends bytes to a file.
  abbrev pub append : Path → List ℕ → Work → Asks Work
  append path bytes w = Call (call.Append path bytes) (append_told path bytes w)

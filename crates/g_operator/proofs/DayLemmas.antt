-- A DAY that is taken apart and reassembled: what was done to its parts was done to it.
-- serves: dump_line, job_line, login_line, logout_line, migrate_line, process_line, rise_line (line), shut_line, stop_disc_line (anew, line), and 3 more
use Rattle.std.proofs.Common.{◌≡◌, ℕ, List, Option, sym, subst}
use Rattle.g_script.specs.declared.operator.Operator.{Operator}
use Rattle.g_day.specs.declared.progress.Failure.{Failure}
use Rattle.g_job_table.specs.Crew.{CrewState}
use Rattle.g_day.specs.Parts.{DidLine, IsReady, Seen, seen}
use Rattle.g_day.specs.System.{SystemFacts}

pub same_line : {what : Operator} {failure : Option Failure} {old old' new new' : Seen} {before after : Option (List ℕ)} {faults faults' : ℕ} → old ≡ old' → new' ≡ new
    → DidLine what old failure new before after faults faults' → DidLine what old' failure new' before after faults faults'
same_line {what = what} {failure = failure} {old = old} {new' = new'} {before = before} {after = after} {faults = faults} {faults' = faults'} opens ends did =
    subst (λ (s : Seen). DidLine what s failure new' before after faults faults') opens
    (subst (λ (s : Seen). DidLine what old failure s before after faults faults') (sym ends) did)

-- and what is ready is so in its parts
pub ready_inside : {f : SystemFacts} {c : CrewState} {count : ℕ} {day : Seen} → seen f c count ≡ day → IsReady day.system day.crew → IsReady f c
ready_inside is ready = subst (λ (s : Seen). IsReady s.system s.crew) (sym is) ready

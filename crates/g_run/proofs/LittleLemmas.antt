-- How much there may be left to do, and that the count has room for it.
-- serves: remaining_ticks_fit, run_lines
use Rattle.std.proofs.Common.{◌≡◌, ◌+◌, ◌*◌, ◌-◌, ◌<◌, ◌≤◌, ℕ, Bool, true, false, All, List, [], ◌∷◌, length, suc, sum_by, refl, arith, if◌then◌else◌}
use Rattle.std.proofs.lemmas.List.Elements.{All-head, All-tail}
use Rattle.std.proofs.lemmas.List.Sums.{sum_by-cons}
use Rattle.g_job.specs.State.{JobState}
use Rattle.g_tape.specs.Rack.{Rack}
use Rattle.g_job_table.specs.Crew.{CrewState}
use Rattle.g_job_table.specs.Numbers.{AreJobs, IsAllowed}
use Rattle.g_day.specs.Parts.{seen}
use Rattle.g_day.specs.System.{SystemFacts, devices_in}
use Rattle.g_ticks.specs.Tick.{dump_left, left, may_step, share_in}

-- of a job
share_by : (allowance used : ℕ) (steps : Bool) → allowance ≤ 1000000 → (allowance - used) + (if steps then 1 else 0) ≤ 1000001
share_by allowance used true most = omega (arith, most)
share_by allowance used false most = omega (arith, most)

-- of jobs
shares : (rack : Rack) (jobs : List JobState) → All IsAllowed jobs → sum_by (share_in rack) jobs ≤ 1000001 * length jobs
shares rack [] are = omega arith
shares rack (j ∷ jobs) are =
    let one : share_in rack j ≤ 1000001 = share_by j.allowance j.used (may_step rack j) (All-head IsAllowed j jobs are) in
    let rest : sum_by (share_in rack) jobs ≤ 1000001 * length jobs = shares rack jobs (All-tail IsAllowed j jobs are) in
    let sum : sum_by (share_in rack) (j ∷ jobs) ≡ share_in rack j + sum_by (share_in rack) jobs = sum_by-cons (share_in rack) j jobs in
    let long : length (j ∷ jobs) ≡ suc (length jobs) = refl in
    omega (arith, one, rest, sum, long)

-- OF ALL
pub little : (f : SystemFacts) (c : CrewState) (count : ℕ) → AreJobs c.jobs c.next_job → dump_left f ≤ 4294967296 → left (seen f c count) ≤ 4358967360
little f c count are short =
    let jobs : sum_by (share_in (devices_in f).rack) c.jobs ≤ 1000001 * length c.jobs = shares (devices_in f).rack c.jobs are.allowed in
    let few : length c.jobs ≤ 64 = are.few in
    omega (arith, jobs, few, short)

-- THE COUNT HAS ROOM FOR IT after the greatest turn of a line
pub room_left : (count n : ℕ) → count ≤ 1000000000 → n ≤ 4358967360 → count + n < 18446744073709551615
room_left count n most few = omega (arith, most, few)

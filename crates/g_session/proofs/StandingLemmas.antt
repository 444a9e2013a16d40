-- Where things stand, by what is at hand and by the world.
-- serves: answer_lines, answer_query, serials_of
use Rattle.std.proofs.Common.{◌≡◌, ◌+◌, ◌<◌, ◌==◌, ◌++◌, ℕ, Bool, true, false, List, [], ◌∷◌, Option, Some, None, Result, Ok, Err, cond, get_or, length, map, slice_get, take, refl, sym, ◌∙◌, ap, subst, arith}
use Rattle.std.proofs.lemmas.List.{length-take, take_more}
use Rattle.std.proofs.lemmas.Option.{same_Some, slice_get-get_or, slice_get_within}
use Rattle.std.specs.Prelude.{IfOk, if◌then◌else◌, option_map}
use Rattle.std.specs.List.{flat_map}
use Rattle.g_base.specs.declared.memory.NoMemory.{NoMemory}
use Rattle.g_tape.specs.Rack.{AreReels, Rack, is_mounted, reel}
use Rattle.g_tape.specs.Reads.{unread}
use Rattle.g_tape.specs.Reel.{Reel}
use Rattle.g_incr.specs.Layout.{Dump}
use Rattle.g_job.specs.State.{JobState}
use Rattle.g_store_meaning.specs.Meaning.{told_reels}
use Rattle.g_store_meaning.specs.Reading.{View, open_of, row_of}
use Rattle.g_store_meaning.specs.StoreInvariant.{DumpFacts, StoreFacts}
use Rattle.g_store_model.specs.State as state
use Rattle.g_store_model.specs.State.{OpenDump, ReelRow, State}
use Rattle.g_store_calls.proofs.SeenLemmas.{seen as seen_of}
use Rattle.g_run_model.specs.Devices.{Devices}
use Rattle.g_run_model.specs.World.{World, can_step}
use Rattle.g_laws_runs.specs.BeginningAnew.{with_new_disc}
use Rattle.g_job_table.specs.Crew.{CrewState}
use Rattle.g_day.specs.BeginningAnew.{IsBlank, beside_new}
use Rattle.g_day.specs.Parts.{IsReady, Matches, Seen, seen}
use Rattle.g_day.specs.System.{Down, SameDevices, SystemFacts, Up, devices_in, labels}
use Rattle.g_ticks.specs.Tick.{may_step}
use Rattle.g_ticks.proofs.FallLemmas.{step_same}
use Rattle.g_laws_sessions.specs.Asked.{AreOwnLines, dump_line, job_line, reel_line, state_text, system_line, tick_line}
use Rattle.g_session.specs.Standing.{jobs_text, rack_serials, reels_text, seen_text, serials_in}

-- THE SERIALS of a rack never change
serials_by : (reels : List Reel) → map (λ (l : ℕ × ℕ). l.0) (labels reels) ≡ map (λ (r : Reel). r.serial) reels
serials_by [] = refl
serials_by (r ∷ rs) = ap (λ (s : List ℕ). r.serial ∷ s) (serials_by rs)

pub serials_stay : (old new : Seen) → SameDevices (devices_in old.system) (devices_in new.system) → serials_in old.system ≡ serials_in new.system
serials_stay old new same =
    sym (serials_by (devices_in old.system).rack.reels) ∙ ap (λ (ls : List (ℕ × ℕ)). map (λ (l : ℕ × ℕ). l.0) ls) (sym same.reels) ∙ serials_by (devices_in new.system).rack.reels

pub serial_next : (serials : List ℕ) (i serial : ℕ) → slice_get serials i ≡ Some serial → take (i + 1) serials ≡ take i serials ++ serial ∷ []
serial_next serials i serial is =
    let below = slice_get_within serials i serial is in
    take_more serials i 0 below ∙ ap (λ (n : ℕ). take i serials ++ n ∷ []) (same_Some (get_or serials i 0) serial (sym (slice_get-get_or serials i 0 below) ∙ is))

-- there is room for one more
pub serial_room : (rack : Rack) (i : ℕ) (items : List ℕ) → AreReels rack.reels → items ≡ take i (rack_serials rack) → i < length rack.reels → length items < 16
serial_room rack i items are is below =
    let few = are.few in
    let long : length items ≡ length (take i (rack_serials rack)) = ap length is in
    let taken = length-take i (rack_serials rack) in omega (arith, few, long, taken, below)

-- which reels are mounted
mounted_row : (shelf : ℕ → List Dump) (s : ℕ) (rs : List Reel) → state.mounted_in (state.reel_at s (map (row_of shelf) (map unread rs))) ≡ is_mounted (reel s rs)
mounted_row shelf s [] = refl
mounted_row shelf s (r ∷ rs) = by (s == r.serial) (mounted_row shelf s rs)
  where
    by : (b : Bool) → state.mounted_in (state.reel_at s (map (row_of shelf) (map unread rs))) ≡ is_mounted (reel s rs) → state.mounted_in (if b then Some (row_of shelf (unread r)) else state.reel_at s (map (row_of shelf) (map unread rs))) ≡ is_mounted (if b then Some r else reel s rs)
    by true rest = refl
    by false rest = rest

-- THE REELS
reels_by : (shelf : ℕ → List Dump) (f : ℕ → Bool) (rs : List Reel)
    → flat_map (λ (r : ReelRow). reel_line r.serial (f r.serial)) (map (row_of shelf) (map unread rs)) ≡ flat_map (λ serial. reel_line serial (f serial)) (map (λ (r : Reel). r.serial) rs)
reels_by shelf f [] = refl
reels_by shelf f (r ∷ rs) = ap (λ (t : List ℕ). reel_line r.serial (f r.serial) ++ t) (reels_by shelf f rs)

reels_as : (f g : ℕ → Bool) → ((serial : ℕ) → f serial ≡ g serial) → (serials : List ℕ) → flat_map (λ serial. reel_line serial (f serial)) serials ≡ flat_map (λ serial. reel_line serial (g serial)) serials
reels_as f g same [] = refl
reels_as f g same (s ∷ ss) = ap (λ (b : Bool). reel_line s b ++ flat_map (λ serial. reel_line serial (f serial)) ss) (same s) ∙ ap (λ (t : List ℕ). reel_line s (g s) ++ t) (reels_as f g same ss)

reels_are : (shelf : ℕ → List Dump) (rack : Rack) (u : State) (serials : List ℕ) → u.reels ≡ map (row_of shelf) (told_reels rack) → serials ≡ rack_serials rack
    → flat_map (λ (r : ReelRow). reel_line r.serial (state.is_mounted u r.serial)) u.reels ≡ reels_text rack serials
reels_are shelf rack u serials is same =
    ap (λ (rows : List ReelRow). flat_map (λ (r : ReelRow). reel_line r.serial (state.mounted_in (state.reel_at r.serial rows))) rows) is
    ∙ reels_by shelf (λ s. state.mounted_in (state.reel_at s (map (row_of shelf) (told_reels rack)))) rack.reels
    ∙ reels_as (λ s. state.mounted_in (state.reel_at s (map (row_of shelf) (told_reels rack)))) (λ s. is_mounted (reel s rack.reels)) (λ s. mounted_row shelf s rack.reels) (rack_serials rack)
    ∙ ap (λ (ss : List ℕ). reels_text rack ss) (sym same)

-- the jobs
jobs_are : (u : State) (rack : Rack) → ((serial : ℕ) → state.is_mounted u serial ≡ is_mounted (reel serial rack.reels)) → (jobs : List JobState)
    → flat_map (λ (j : JobState). job_line (can_step u j) j) jobs ≡ jobs_text rack jobs
jobs_are u rack same [] = refl
jobs_are u rack same (j ∷ jobs) =
    ap (λ (b : Bool). job_line b j ++ flat_map (λ (k : JobState). job_line (can_step u k) k) jobs) (step_same u rack same j)
    ∙ ap (λ (t : List ℕ). job_line (may_step rack j) j ++ t) (jobs_are u rack same jobs)

-- the open dump
dump_is : (f : DumpFacts → OpenDump) → ((d : DumpFacts) → (f d).number ≡ d.plan.number) → (dump : Option DumpFacts) → option_map (λ (d : OpenDump). d.number) (option_map f dump) ≡ option_map (λ d. d.plan.number) dump
dump_is f same None = refl
dump_is f same (Some d) = ap (λ (n : ℕ). let some : Option ℕ = Some n in some) (same d)

-- the five parts
abbrev parts : List ℕ → List ℕ → List ℕ → List ℕ → List ℕ → List ℕ
parts a b c d e = (((a ++ b) ++ c) ++ d) ++ e

parts_are : (a a' b b' c c' d d' e e' : List ℕ) → a ≡ a' → b ≡ b' → c ≡ c' → d ≡ d' → e ≡ e' → parts a b c d e ≡ parts a' b' c' d' e'
parts_are a a' b b' c c' d d' e e' one two three four five =
    ap (λ (x : List ℕ). parts x b c d e) one ∙ ap (λ (x : List ℕ). parts a' x c d e) two ∙ ap (λ (x : List ℕ). parts a' b' x d e) three ∙ ap (λ (x : List ℕ). parts a' b' c' x e) four
    ∙ ap (λ (x : List ℕ). parts a' b' c' d' x) five

up_stands : (s : StoreFacts) (c : CrewState) (count : ℕ) (serials : List ℕ) → s.spent ≡ false → serials ≡ rack_serials s.rack → (w : World) → Matches w (seen (Up s) c count)
    → seen_text (seen (Up s) c count) serials ≡ state_text w
up_stands s c count serials unspent same w m =
    let here = seen_of s w.store unspent m.stands.stands in
    let rows : w.store.reels ≡ map (row_of here.view.shelf) (told_reels s.rack) = ap (λ (u : State). u.reels) here.state_is in
    let mounted : (serial : ℕ) → state.is_mounted w.store serial ≡ is_mounted (reel serial s.rack.reels) =
    λ serial. ap (λ (rs : List ReelRow). state.mounted_in (state.reel_at serial rs)) rows ∙ mounted_row here.view.shelf serial s.rack.reels in
    sym (parts_are _ (system_line true) _ (reels_text s.rack serials) _ (dump_line (option_map (λ d. d.plan.number) s.dump)) _ (jobs_text s.rack c.jobs) _ (tick_line count)
    (ap (λ (u : State). system_line u.up) here.state_is)
    (reels_are here.view.shelf s.rack w.store serials rows same)
    (ap (λ (u : State). dump_line (option_map (λ (d : OpenDump). d.number) u.open_dump)) here.state_is ∙ ap dump_line (dump_is (open_of here.view s.online) (λ d. refl) s.dump))
    (ap (λ (js : List JobState). flat_map (λ (j : JobState). job_line (can_step w.store j) j) js) m.crew.jobs ∙ jobs_are w.store s.rack mounted c.jobs)
    (ap tick_line m.count))

down_stands : (d : Devices) (c : CrewState) (count : ℕ) (serials : List ℕ) → c.jobs ≡ [] → serials ≡ rack_serials d.rack → (w : World) → Matches w (seen (Down d) c count)
    → seen_text (seen (Down d) c count) serials ≡ state_text w
down_stands d c count serials none same w m =
    let reads = m.stands.1.reads in
    let rows : w.store.reels ≡ map (row_of reads.view.shelf) (told_reels d.rack) = ap (λ (u : State). u.reels) reads.state_is in
    sym (parts_are _ (system_line false) _ (reels_text d.rack serials) _ (dump_line None) _ [] _ (tick_line count)
    (ap (λ (u : State). system_line u.up) reads.state_is)
    (reels_are reads.view.shelf d.rack w.store serials rows same)
    (ap (λ (u : State). dump_line (option_map (λ (d : OpenDump). d.number) u.open_dump)) reads.state_is)
    (ap (λ (js : List JobState). flat_map (λ (j : JobState). job_line (can_step w.store j) j) js) (m.crew.jobs ∙ none))
    (ap tick_line m.count))

-- WHERE THINGS STAND
pub stands_by : (f : SystemFacts) (c : CrewState) (count : ℕ) (serials : List ℕ) → IsReady f c → serials ≡ serials_in f → (w : World) → Matches w (seen f c count)
    → seen_text (seen f c count) serials ≡ state_text w
stands_by (Up s) c count serials ready same w m = up_stands s c count serials ready.0 same w m
stands_by (Down d) c count serials ready same w m = down_stands d c count serials ready.2 same w m

-- with a new disc in place of a blank one
pub stands_beside : (f : SystemFacts) (c : CrewState) (count : ℕ) (serials : List ℕ) → IsReady f c → serials ≡ serials_in f → IsBlank f → (w : World) → Matches w (seen (beside_new f) c count)
    → seen_text (seen f c count) serials ≡ state_text w
stands_beside (Up s) c count serials ready same blank w m = absurd blank
stands_beside (Down d) c count serials ready same blank w m = down_stands (with_new_disc d) c count serials ready.2 same w m

-- the text of an explanation, or none if there was no memory for it
pub record Explains (made : Result (List ℕ) NoMemory) : Type 0 where
  pub text : List ℕ
  pub own : AreOwnLines text
  pub made_is : IfOk made (λ t. t ≡ text)

pub explains : (made : Result (List ℕ) NoMemory) → IfOk made AreOwnLines → Explains made
explains (Ok text) own = record { text = text; own = own; made_is = refl }
explains (Err fault) own = record { text = []; own = record { lines = []; one = Rattle.std.proofs.lemmas.List.Elements.All-nil Rattle.g_lines.specs.Documents.IsOneLine; all = refl }; made_is = tt }

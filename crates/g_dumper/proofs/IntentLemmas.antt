-- The commit that notes the intent of a dump, after its versions are pinned.
-- serves: open (ok, stopped), OpeningLemmas, PlanLemmas, crates above
use Rattle.std.proofs.Common.{◌≡◌, ℕ, ◌+◌, ◌^◌, ◌<◌, Bool, true, false, List, [], Option, Some, refl, sym, ◌∙◌, ap, arith, subst, inl, inr, if◌then◌else◌}
use Rattle.std.specs.Prelude.{◌⊎◌, is_some}
use Rattle.g_entry.specs.declared.head.Head.{Head}
use Rattle.g_entry.specs.declared.head.Intent.{Intent}
use Rattle.g_entry.specs.HeadFields.{IsIntent, IsSerial}
use Rattle.g_base.specs.Counts.{RoseBy}
use Rattle.g_disc_contents.specs.Commits.{Commits}
use Rattle.g_disc_contents.specs.Contents.{Contents, Holds, with_intent}
use Rattle.g_disc_contents.specs.Durable.{IsDurable}
use Rattle.g_disc_contents.specs.Facts.{IsTied, OnlineFacts, Pin}
use Rattle.g_incr.specs.Plan.{IsPlan, Plan, first_content}
use Rattle.g_online.specs.declared.change.Change.TheVariants.{SetIntent}
use Rattle.g_online.specs.AllowedChanges.{IsAllowed, KeepsRules}
use Rattle.g_online.specs.Change.{changed, unjammed}
use Rattle.g_online.specs.Outcomes.{HasChanged, HasStopped}
use Rattle.g_online.specs.Pins.{HasPinned}
use Rattle.g_online.proofs.KeepLemmas.{rules_of}
use Rattle.g_dumper.specs.Beginning.{HasOpened, StoppedAtIntent, intent_of, plan_of}

-- THE RULES of the contents, from what ties them to the disc
pub rules_here : (o : OnlineFacts) → o.live ≡ true → IsTied o → KeepsRules o.contents
rules_here o live tied = subst KeepsRules (sym (tied.contents live)) (rules_of o.disc.size o.disc.held o.layout.directory (tied.records live) (tied.rules live))

-- WHAT THE COMMIT CHANGES in the contents
pub intended : (told pinned : Bool) (i : Option Intent) (c : Contents) → changed told pinned (SetIntent i) c ≡ with_intent i c
unfolding changed
intended told true i c = refl
intended told false i c = refl

pub may_intend : (o : OnlineFacts) (i : Intent) → o.live ≡ true → IsTied o → IsIntent o.contents.head.last_dump i → IsAllowed (SetIntent (Some i)) o
may_intend o i live tied is =
    let rules = rules_here o live tied in
    let kept : KeepsRules (with_intent (Some i) o.contents) = record {
      head = record { least_stamp = rules.head.least_stamp; most_stamp = rules.head.most_stamp; last_dump = rules.head.last_dump; intent = is };
      records = rules.records;
      dated = rules.dated;
      lie = rules.lie;
    } in
    record { live = live; fits = tt; rules = subst KeepsRules (sym (intended (is_some o.disc.held) (is_some o.pins) (Some i) o.contents)) kept }

pub intends : (serial place number last : ℕ) → IsSerial serial → place < 2 ^ 32 → number ≡ last + 1 → number < 2 ^ 62
    → (let i : Intent = record { serial = serial; place = place; number = number } in IsIntent last i)
intends serial place number last named low is below = record { serial = named; place = low; number = is; below = below }

-- THE DUMP IS OPENED by it
with_pins : OnlineFacts → Option (List Pin) → OnlineFacts
with_pins o pins = record o { pins = pins; touched = [] }

pub opened_by : (plan : Plan) (old mid new : OnlineFacts) (i : Intent) → i ≡ intent_of plan → HasPinned plan.serial (first_content plan) old mid → HasChanged (SetIntent (Some i)) mid new
    → is_some new.disc.held ≡ is_some mid.disc.held → HasOpened plan old new
unfolding with_pins
opened_by plan old mid new i same pinned done told =
    let at : mid ≡ with_pins old (Some pinned.pins) = pinned.rest in
    let some : is_some mid.pins ≡ true = ap (λ (o : OnlineFacts). is_some o.pins) at in
    record {
      pinned = record {
        waiting = pinned.waiting;
        are = pinned.are;
        pins = pinned.pins;
        pinned = pinned.pinned;
        rest = ap (with_pins old) (done.pins ∙ ap (λ (o : OnlineFacts). o.pins) at);
      };
      contents = done.contents ∙ intended (is_some mid.disc.held) (is_some mid.pins) (Some i) mid.contents ∙ ap (λ (j : Intent). with_intent (Some j) mid.contents) same
          ∙ ap (λ (o : OnlineFacts). with_intent (Some (intent_of plan)) o.contents) at;
      changed_is = done.changed ∙ ap (λ (o : OnlineFacts). o.changed) at;
      touched = done.touched ∙ ap (λ (o : OnlineFacts). if is_some o.pins then o.touched else []) at;
      live = done.live;
      told = told ∙ ap (λ (o : OnlineFacts). is_some o.disc.held) at;
      blocks = done.blocks;
      commits = subst (λ (o : OnlineFacts). Commits 1 o.layout new.layout done.blocks) at done.commits;
      writes = subst (λ (o : OnlineFacts). RoseBy done.blocks o.disc.writes new.disc.writes) at (subst (λ (n : ℕ). RoseBy n mid.disc.writes new.disc.writes) (let n : 0 + done.blocks ≡ done.blocks = omega arith in n) done.writes);
      durable = λ is. done.durable (subst IsDurable (sym at) is);
    }

-- or the commit was stopped
pub stopped_by : (plan : Plan) (old mid new : OnlineFacts) (i : Intent) → i ≡ intent_of plan → HasPinned plan.serial (first_content plan) old mid → HasStopped (SetIntent (Some i)) mid new
    → is_some new.disc.held ≡ is_some mid.disc.held → StoppedAtIntent plan old new
unfolding with_pins
stopped_by plan old mid new i same pinned stopped told =
    let at : mid ≡ with_pins old (Some pinned.pins) = pinned.rest in
    record {
      live = stopped.live;
      told = told ∙ ap (λ (o : OnlineFacts). is_some o.disc.held) at;
      holds = λ blocks held. by_case blocks (stopped.holds blocks held).one;
      survives = λ is.
          let (safe, left) = stopped.survives (subst IsDurable (sym at) is) in
          (safe, λ had told_had blocks may. by_case blocks (left had (ap (λ (o : OnlineFacts). o.disc.held) at ∙ told_had) blocks may).one);
    }
  where
    by_case : (blocks : List (List ℕ)) → Holds blocks mid.contents
        ⊎ (((0 < 0) × Holds blocks (unjammed (is_some mid.pins) (SetIntent (Some i)) mid.contents)) ⊎ Holds blocks (changed true (is_some mid.pins) (SetIntent (Some i)) mid.contents))
        → Holds blocks old.contents ⊎ Holds blocks (with_intent (Some (intent_of plan)) old.contents)
    by_case blocks (inl was) = inl (subst (λ (o : OnlineFacts). Holds blocks o.contents) pinned.rest was)
    by_case blocks (inr (inl (less, off))) = absurd (omega (arith, less))
    by_case blocks (inr (inr made)) =
        inr (subst (λ (o : OnlineFacts). Holds blocks (with_intent (Some (intent_of plan)) o.contents)) pinned.rest
        (subst (λ (j : Intent). Holds blocks (with_intent (Some j) mid.contents)) same
        (subst (Holds blocks) (intended true (is_some mid.pins) (Some i) mid.contents) made)))

-- THE NUMBERS that the code uses are those of the plan
pub intent_is : (serial place : ℕ) (o : OnlineFacts) (head : Head) → head ≡ o.contents.head
    → (let i : Intent = record { serial = serial; place = place; number = head.last_dump + 1 } in i ≡ intent_of (plan_of serial place o))
intent_is serial place o head same = ap (λ (h : Head). let i : Intent = record { serial = serial; place = place; number = h.last_dump + 1 } in i) same

pub pinned_for : (serial place : ℕ) (old mid : OnlineFacts) (plan : Plan) (first : ℕ) → plan ≡ plan_of serial place old → first ≡ first_content plan → HasPinned serial first old mid
    → HasPinned serial (first_content (plan_of serial place old)) old mid
pinned_for serial place old mid plan first is at pinned = subst (λ (n : ℕ). HasPinned serial n old mid) (at ∙ ap first_content is) pinned

pub may_open : (serial place : ℕ) (old mid : OnlineFacts) (plan : Plan) (first : ℕ) (head : Head) → plan ≡ plan_of serial place old → IsPlan plan → old.live ≡ true → head ≡ old.contents.head
    → HasPinned serial first old mid → IsTied mid
    → (let i : Intent = record { serial = serial; place = place; number = head.last_dump + 1 } in IsAllowed (SetIntent (Some i)) mid)
may_open serial place old mid plan first head is rules live same pinned tied =
    let of : IsPlan (plan_of serial place old) = subst IsPlan is rules in
    let last : head.last_dump ≡ mid.contents.head.last_dump = ap (λ (h : Head). h.last_dump) same ∙ sym (ap (λ (o : OnlineFacts). o.contents.head.last_dump) pinned.rest) in
    let low : old.contents.head.last_dump + 1 < 2 ^ 62 = of.number in
    let at : head.last_dump ≡ old.contents.head.last_dump = ap (λ (h : Head). h.last_dump) same in
    let near = of.place in
    may_intend mid (record { serial = serial; place = place; number = head.last_dump + 1 }) (ap (λ (o : OnlineFacts). o.live) pinned.rest ∙ live) tied
    (intends serial place (head.last_dump + 1) mid.contents.head.last_dump of.serial (omega (arith, near)) (ap (λ (n : ℕ). n + 1) last) (omega (arith, low, at)))

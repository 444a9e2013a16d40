-- A dump that is closed leaves contents that satisfy the rules of a directory.
-- serves: write_next
use Rattle.std.proofs.Common.{◌≡◌, ℕ, ◌+◌, ◌^◌, ◌<◌, Bool, true, List, [], ◌∷◌, get_or, map, Option, None, sym, arith, subst}
use Rattle.std.specs.Prelude.{All, IfSome, is_some}
use Rattle.std.proofs.lemmas.List.Elements.{All-cons, All-map, All-nil}
use Rattle.std.proofs.lemmas.List.Sums.{sum_by-cons}
use Rattle.g_base.specs.Block.{blocks_for}
use Rattle.g_entry.specs.declared.file_rec.FileRec.{FileRec}
use Rattle.g_entry.specs.declared.file_rec.TapeCopy.{TapeCopy}
use Rattle.g_entry.specs.FileFields.{IsCopy}
use Rattle.g_entry.specs.HeadFields.{IsSerial}
use Rattle.g_tape.specs.Rack.{AreReels, Rack}
use Rattle.g_disc_contents.specs.Contents.{Contents, File, recs_in, with_copies}
use Rattle.g_disc_contents.specs.Facts.{IsPinOf, IsTied, OnlineFacts, Pin}
use Rattle.g_incr.specs.Plan.{IsPlan, blocks_of, first_content, waiting}
use Rattle.g_online.specs.AllowedChanges.{KeepsRules}
use Rattle.g_online.specs.Change.{closed}
use Rattle.g_online.proofs.KeepLemmas.{rules_of}
use Rattle.g_online.proofs.CopiedLemmas.{rules_copied}
use Rattle.g_store_meaning.specs.StoreInvariant.{ArePinned, DumpFacts, IsOpen}
use Rattle.g_laws_store.proofs.PinLemmas.{IsOtherPin, copy_apart, pairs}
use Rattle.g_dumper.proofs.OpenLemmas.{lies_low}

-- records may have the noted places
abbrev MayStand : Pin → Type 0
MayStand p = IsCopy p.copy

places_fit : (serial at : ℕ) (ws : List FileRec) (pins : List Pin) → IsSerial serial → at + blocks_of ws < 2 ^ 32 → ArePinned serial at ws pins → All MayStand pins
places_fit serial at [] pins named low are = subst (All MayStand) (sym are) (All-nil MayStand)
places_fit serial at (r ∷ rs) pins named low (pin, rest, same, stamp, len, copy, blocks, more) =
    let sum = sum_by-cons (λ (s : FileRec). blocks_for s.len) r rs in
    let here : TapeCopy = record { serial = serial; first = at } in
    let fits : IsCopy here = record { serial = named; first = omega (arith, low, sum) } in
    subst (All MayStand) (sym same)
    (All-cons MayStand pin rest (subst IsCopy (sym copy) fits) (places_fit serial (at + blocks_for r.len) rs rest named (omega (arith, low, sum)) more))

-- and no empty file gets one
abbrev IsFilledFor : FileRec → Pin → Type 0
IsFilledFor r p = (0 < p.len) × (r.stamp ≡ p.stamp → r.len ≡ p.len)

others_pinned : (r : FileRec) (pins : List Pin) → r.len ≡ 0 → All (IsFilledFor r) pins → All (IsOtherPin r.stamp) pins
others_pinned r pins none all k d inside same =
    let (filled, is) = all k d inside in
    let len = is (sym same) in
    let no : ⊥ = omega (arith, filled, len, none) in no

pins_stand : (pins : List Pin) → All MayStand pins → All (λ c. IsCopy c.1) (pairs pins)
pins_stand pins stand = All-map (λ (c : ℕ × TapeCopy). IsCopy c.1) (λ (p : Pin). (p.stamp, p.copy)) pins stand

-- with the places noted the contents satisfy the rules
rules_closed : (pins : List Pin) → All MayStand pins → (c : Contents) (last : ℕ) → last < 2 ^ 62 → All (λ r. All (IsFilledFor r) pins) (recs_in c) → KeepsRules c
    → KeepsRules (record c { head = record c.head { last_dump = last; intent = None }; files = with_copies (pairs pins) c.files })
rules_closed pins stand c last low filled rules =
    rules_copied (pairs pins) (pins_stand pins stand) c last low
    (λ k d inside none. let r = get_or (recs_in c) k d in copy_apart r.stamp pins r.tape (others_pinned r pins none (filled k d inside))) rules

-- WHAT A TIED FILESTORE KNOWS of its pins
recs_all : (P : FileRec → Type 0) (files : List File) → All (λ f. P f.rec) files → All P (map (λ (f : File). f.rec) files)
recs_all P files all = All-map P (λ (f : File). f.rec) files all

filled_by : (told : Bool) (next : ℕ) (files : List File) (pins : List Pin) → All (IsPinOf told next files) pins → All (λ r. All (IsFilledFor r) pins) (map (λ (f : File). f.rec) files)
filled_by told next files pins are =
    recs_all (λ r. All (IsFilledFor r) pins) files (λ k d inside j e within. ((are j e within).filled, (are j e within).current k d inside))

pub closing_rules : (d : DumpFacts) (o : OnlineFacts) (rack : Rack) → AreReels rack.reels → o.live ≡ true → IsTied o → IsPlan d.plan → IsOpen d o rack → KeepsRules (closed d.plan.number o)
closing_rules d o rack reels live tied plan is =
    let low = lies_low d o rack reels is in
    let rules : KeepsRules o.contents = subst KeepsRules (sym (tied.contents live)) (rules_of o.disc.size o.disc.held o.layout.directory (tied.records live) (tied.rules live)) in
    let stand = places_fit d.plan.serial (first_content d.plan) (waiting d.plan.files) is.pins plan.serial (omega (arith, low)) is.are in
    let pins_are : All (IsPinOf (is_some o.disc.held) o.contents.head.next_stamp o.contents.files) is.pins =
    subst (λ (p : Option (List Pin)). IfSome p (All (IsPinOf (is_some o.disc.held) o.contents.head.next_stamp o.contents.files))) is.pinned (tied.pinned live) in
    subst (λ (p : Option (List Pin)). KeepsRules (closed d.plan.number (record o { pins = p }))) (sym is.pinned)
    (rules_closed is.pins stand o.contents d.plan.number plan.number (filled_by (is_some o.disc.held) o.contents.head.next_stamp o.contents.files is.pins pins_are) rules)

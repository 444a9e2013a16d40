-- How PROCESS is answered, from what was prepared and from what was done.
-- serves: AnswerLemmas
use Rattle.std.proofs.Common.{◌≡◌, ℕ, ◌-◌, ◌^◌, ◌<◌, ◌==◌, Bool, true, false, List, [], ◌∷◌, map, Option, Some, None, Err, refl, sym, ◌∙◌, ap, arith, subst, inl, inr, option_map, if◌then◌else◌}
use Rattle.std.specs.Prelude.{All, Result, find, is_none, is_some, not}
use Rattle.std.specs.Option.{ForSome}
use Rattle.std.proofs.lemmas.Bool.{ne_eqb}
use Rattle.std.proofs.lemmas.List.Elements.{All-head, All-tail}
use Rattle.std.proofs.lemmas.Option.{none-some, same_Some}
use Rattle.g_disc.proofs.CallLemmas.{stands_later}
use Rattle.g_name.specs.declared.full.Full.{Full}
use Rattle.g_entry.specs.declared.file_rec.TapeCopy.{TapeCopy}
use Rattle.g_tape.specs.Rack.{Rack, reel}
use Rattle.g_tape.specs.Reads.{OnlyReads, unread}
use Rattle.g_tape.specs.Reel.{Reel}
use Rattle.g_tape.proofs.ReadLemmas.{nothing_read}
use Rattle.g_plain.specs.declared.faults.StoreFault.{StoreFault}
use Rattle.g_plain.specs.declared.faults.StoreFault.TheVariants.{CountersSpent, DiscReadFault, DumpOpen, NoCopy, NoMemory, NoTape, RackNotMounted, ReelNotFree, Stopped, TapeFull, TapeReadFault}
use Rattle.g_plain.specs.PlainStep.{first_fault}
use Rattle.g_tree.specs.Records.{full_of}
use Rattle.g_disc_contents.specs.Contents.{File}
use Rattle.g_disc_contents.specs.Facts.{IsTied, OnlineFacts}
use Rattle.g_incr.specs.Plan.{needs}
use Rattle.g_shelf.specs.LastDump.{first_unmounted}
use Rattle.g_store_model.specs.Rising.{fault_from}
use Rattle.g_store_meaning.specs.Answers.{IsStore, Told, WroteCommits}
use Rattle.g_store_meaning.specs.StoreInvariant.{StoreFacts}
use Rattle.g_dumper.specs.Invariant.{up_with}
use Rattle.g_process.specs.ProcessPlan.{IsFirstLost, IsFree, IsTaken, process_plan}
use Rattle.g_process.specs.Preparation.{IsGranted, RefusesLate}
use Rattle.g_dumper.proofs.OpeningLemmas.{refused_belongs}
use Rattle.g_incr.specs.Layout.{Dump}
use Rattle.g_process.specs.Exits.{Exits, IsReadBy, Untouched}
use Rattle.g_process.specs.Processing.{Does, IsLate, MayRefuse, Processes, Wrote, behind_process, process_refuses}
use Rattle.g_process.proofs.BecomeLemmas.{becomes_read, labels_reads, zip_becomes, zip_labels}
use Rattle.g_process.proofs.SafeLemmas.{safe_up, survive_mid}

-- THE REFUSALS without a read
abbrev pub IsEarly : StoreFault → Type 0
IsEarly NoTape = Unit {0}
IsEarly (RackNotMounted n) = Unit {0}
IsEarly CountersSpent = Unit {0}
IsEarly fault = ⊥

early_cases : (a : Bool) (u : Option ℕ) (b : Bool) (n : ℕ) (fault : StoreFault)
    → first_fault ((a, NoTape) ∷ fault_from RackNotMounted u ∷ (false, DumpOpen n) ∷ (b, CountersSpent) ∷ []) ≡ Some fault → IsEarly fault
early_cases true u b n fault is = subst IsEarly (same_Some NoTape fault is) tt
early_cases false (Some m) b n fault is = subst IsEarly (same_Some (RackNotMounted m) fault is) tt
early_cases false None true n fault is = subst IsEarly (same_Some CountersSpent fault is) tt
early_cases false None false n fault is = absurd (none-some fault is)

pub is_early : (serial : ℕ) (o : OnlineFacts) (rack : Rack) (fault : StoreFault) → process_refuses serial (up_with o rack None) ≡ Some fault → IsEarly fault
is_early serial o rack fault is = early_cases (is_none (reel serial rack.reels)) (first_unmounted rack.reels) (o.contents.head.last_dump == 2 ^ 62 - 1) 0 fault is

-- if no refusal applies
granted_cases : (a : Bool) (u : Option ℕ) (b : Bool) (n : ℕ) → a ≡ false → u ≡ None → b ≡ false
    → first_fault ((a, NoTape) ∷ fault_from RackNotMounted u ∷ (false, DumpOpen n) ∷ (b, CountersSpent) ∷ []) ≡ None
granted_cases false None false n is_there is_up unspent = refl
granted_cases true u b n is_there is_up unspent = absurd (let no : ⊥ = cc in no)
granted_cases false (Some m) b n is_there is_up unspent = absurd (let no : ⊥ = cc in no)
granted_cases false None true n is_there is_up unspent = absurd (let no : ⊥ = cc in no)

not_none : {A : Type 0} (x : Option A) → is_some x ≡ true → is_none x ≡ false
not_none None is = absurd (let no : ⊥ = cc in no)
not_none (Some x) is = refl

all_mounted : (rs : List Reel) → All (λ r. r.mounted ≡ true) rs → first_unmounted rs ≡ None
all_mounted [] all = refl
all_mounted (r ∷ rs) all = by_first r.mounted refl (All-head (λ (x : Reel). x.mounted ≡ true) r rs all) (all_mounted rs (All-tail (λ (x : Reel). x.mounted ≡ true) r rs all))
  where
    by_first : (b : Bool) → r.mounted ≡ b → b ≡ true → first_unmounted rs ≡ None → first_unmounted (r ∷ rs) ≡ None
    by_first true is up rest = ap (λ (b : Bool). option_map (λ (x : Reel). x.serial) (if not b then Some r else find (λ (x : Reel). not x.mounted) rs)) is ∙ rest
    by_first false is up rest = absurd (let no : ⊥ = cc in no)

pub none_refused : (serial : ℕ) (o : OnlineFacts) (rack : Rack) → IsGranted serial o rack → process_refuses serial (up_with o rack None) ≡ None
none_refused serial o rack granted =
    granted_cases (is_none (reel serial rack.reels)) (first_unmounted rack.reels) (o.contents.head.last_dump == 2 ^ 62 - 1) 0 (not_none (reel serial rack.reels) granted.there)
    (all_mounted rack.reels granted.mounted) (ne_eqb o.contents.head.last_dump (2 ^ 62 - 1) granted.unspent)

-- the store after a refusal that isn't a stop
behind_quiet : (fault : StoreFault) (o : OnlineFacts) (rack : Rack) → (fault ≡ Stopped → ⊥) → (let r : Result ℕ StoreFault = Err fault in behind_process r o rack) ≡ up_with o rack None
behind_quiet Stopped o rack other = absurd (other refl)
behind_quiet fault o rack other = refl

does_nothing : (serial : ℕ) (fault : StoreFault) (s t : StoreFacts) → (IsLate fault → ⊥) → (let r : Result ℕ StoreFault = Err fault in Does serial s r t)
does_nothing serial TapeReadFault s t never = absurd (never tt)
does_nothing serial DiscReadFault s t never = absurd (never tt)
does_nothing serial Stopped s t never = absurd (never tt)
does_nothing serial fault s t never = tt

leaves_all : (text : ℕ → List ℕ) (shelf : ℕ → List Dump) (serial : ℕ) (fault : StoreFault) (s t : StoreFacts) → (IsLate fault → ⊥) → Untouched s t
    → (let r : Result ℕ StoreFault = Err fault in Exits text shelf serial s r t)
leaves_all text shelf serial TapeReadFault s t never is = absurd (never tt)
leaves_all text shelf serial DiscReadFault s t never is = absurd (never tt)
leaves_all text shelf serial Stopped s t never is = absurd (never tt)
leaves_all text shelf serial fault s t never is = is

no_commit : (s t : StoreFacts) → t.online ≡ s.online → WroteCommits 0 s t
no_commit s t same = record {
  blocks = 0;
  commits = (ap (λ (o : OnlineFacts). o.layout) same, refl);
  writes = record { exactly = λ low. let is = ap (λ (o : OnlineFacts). o.disc.writes) same in omega (arith, is) };
}

wrote_nothing : (fault : StoreFault) (s t : StoreFacts) → (IsLate fault → ⊥) → t.online ≡ s.online → (let r : Result ℕ StoreFault = Err fault in Wrote s r t)
wrote_nothing TapeReadFault s t never same = absurd (never tt)
wrote_nothing DiscReadFault s t never same = absurd (never tt)
wrote_nothing Stopped s t never same = absurd (never tt)
wrote_nothing fault s t never same = no_commit s t same

pub store_up : (o : OnlineFacts) (rack : Rack) → o.live ≡ true → o.pins ≡ None → IsTied o → IsStore (up_with o rack None)
store_up o rack live pins tied = record { tied = tied; live = λ _. live; open_dump = λ _. tt; pins = λ _ _. pins }

told_after : (o : OnlineFacts) (old new : Rack) → map unread new.reels ≡ map unread old.reels → Told (up_with o old None) → Told (up_with o new None)
told_after o old new same told = record { disc = told.disc; each = record { each = subst (λ (rs : List Reel). All (λ r. is_some r.blocks ≡ true) rs) (sym same) told.each.each } }

-- a refusal that is due neither to a read nor to a write
module _ (serial : ℕ) (o : OnlineFacts) (old new : Rack) (live : o.live ≡ true) (pins : o.pins ≡ None) (tied : IsTied o) (only : OnlyReads old new) (kept : new.read_faults ≡ old.read_faults)
    (fault : StoreFault) (never : IsLate fault → ⊥) where
  abbrev before : StoreFacts
  before = up_with o old None

  abbrev answer : Result ℕ StoreFault
  answer = Err fault

  isnt : (other : StoreFault) → IsLate other → answer ≡ Err other → ⊥
  isnt other late is = never (subst IsLate (let e : other ≡ fault = cc in e) late)

  pub quiet : ((f : StoreFault) → process_refuses serial before ≡ Some f → (answer ≡ Err f) × (up_with o new None ≡ before)) → (process_refuses serial before ≡ None → MayRefuse fault)
      → ((n : ℕ) → answer ≡ Err (ReelNotFree n) → (n ≡ serial) × IsTaken serial old)
      → ((full : Full) (n : ℕ) → answer ≡ Err (NoCopy full n) → IsFree serial old × ((f : File) × (copy : TapeCopy) × (full ≡ full_of o.contents.users f.rec) × (n ≡ copy.serial) × IsFirstLost o old f copy))
      → ((need room : ℕ) → answer ≡ Err (TapeFull need room) → (need ≡ needs (process_plan serial o)) × (room < need) × ForSome (reel serial old.reels) (λ r. room ≡ r.capacity) × IsFree serial old)
      → Processes serial before answer (behind_process answer o new)
  quiet refused granted taken lost full = subst (Processes serial before answer) (sym (behind_quiet fault o new (λ is. never (subst IsLate (sym is) tt)))) (record {
    refused = refused;
    granted = granted;
    same = λ _. (refl, only);
    taken = taken;
    lost = lost;
    full = full;
    done = does_nothing serial fault before (up_with o new None) never;
    cause = record {
      size = refl;
      later = stands_later refl;
      reels = zip_labels old.reels new.reels (labels_reads old new only.reels);
      disc_arms = refl;
      tape_arms = only.arms;
      disc_read = λ is. absurd (isnt DiscReadFault tt is);
      disc_read_only = λ _. refl;
      tape_read = λ is. absurd (isnt TapeReadFault tt is);
      tape_read_only = λ _. kept;
      cut = λ is. absurd (isnt Stopped tt is);
      uncut = λ _. (refl, only.write_faults);
    };
    wrote = wrote_nothing fault before (up_with o new None) never refl;
    keeps = store_up o new live pins tied;
    told = told_after o old new only.reels;
    belongs = λ told is. refused_belongs serial o o old new live tied tied only refl refl live is;
    dumps = λ told is safe. safe_up o new (survive_mid o old new only safe);
    exit = λ told text shelf shelved up unspent. leaves_all text shelf serial fault before (up_with o new None) never (refl, only.reels);
    durable = λ unspent is. is;
    spent = (λ is. absurd (let no : ⊥ = cc in no), λ is. absurd (isnt Stopped tt is));
    dump = λ _. refl;
  })

-- all of them, whether or not they need a read
pub early_never : (fault : StoreFault) → IsEarly fault → IsLate fault → ⊥
early_never TapeReadFault early late = early
early_never DiscReadFault early late = early
early_never Stopped early late = early
early_never fault early late = late

module _ (serial : ℕ) (o : OnlineFacts) (old new : Rack) (live : o.live ≡ true) (pins : o.pins ≡ None) (tied : IsTied o) (only : OnlyReads old new) where
  abbrev was : StoreFacts
  was = up_with o old None

  early_unlike : (fault other : StoreFault) → IsEarly fault → (IsEarly other → ⊥) → (let r : Result ℕ StoreFault = Err fault in r ≡ Err other) → ⊥
  early_unlike fault other early not_early is = not_early (subst IsEarly (let e : fault ≡ other = cc in e) early)

  pub refuses_early : (fault : StoreFault) → process_refuses serial was ≡ Some fault → (let r : Result ℕ StoreFault = Err fault in Processes serial was r (behind_process r o old))
  refuses_early fault is =
      let early = is_early serial o old fault is in
      quiet serial o old old live pins tied (nothing_read old) refl fault (early_never fault early)
      (λ f other. (ap (λ (x : StoreFault). let r : Result ℕ StoreFault = Err x in r) (same_Some fault f (sym is ∙ other)), refl))
      (λ none. absurd (none-some fault (sym none ∙ is)))
      (λ n same. absurd (early_unlike fault (ReelNotFree n) early (λ no. no) same))
      (λ full n same. absurd (early_unlike fault (NoCopy full n) early (λ no. no) same))
      (λ need room same. absurd (early_unlike fault (TapeFull need room) early (λ no. no) same))

  module _ (granted : IsGranted serial o old) where
    never_refused : (answer : Result ℕ StoreFault) (s : StoreFacts) → (f : StoreFault) → process_refuses serial was ≡ Some f → (answer ≡ Err f) × (s ≡ was)
    never_refused answer s f is = absurd (none-some f (sym (none_refused serial o old granted) ∙ is))

    -- by the catalogue
    pub refuses_late : (fault : StoreFault) → RefusesLate serial o old new fault → (let r : Result ℕ StoreFault = Err fault in Processes serial was r (behind_process r o new))
    refuses_late (ReelNotFree n) (same, taken, kept) =
        quiet serial o old new live pins tied only kept (ReelNotFree n) (λ no. no) (never_refused (Err (ReelNotFree n)) (up_with o new None)) (λ _. tt)
        (λ m is. (let e : n ≡ m = cc in sym e ∙ same, taken))
        (λ full m is. absurd (let no : ⊥ = cc in no)) (λ need room is. absurd (let no : ⊥ = cc in no))
    refuses_late (NoCopy full n) (lost, free, kept) =
        quiet serial o old new live pins tied only kept (NoCopy full n) (λ no. no) (never_refused (Err (NoCopy full n)) (up_with o new None)) (λ _. tt)
        (λ m is. absurd (let no : ⊥ = cc in no))
        (λ other m is.
        let (f, copy, name, serial_is, first) = lost in
        let a : full ≡ other = cc in
        let b : n ≡ m = cc in
        (free, (f, copy, sym a ∙ name, sym b ∙ serial_is, first)))
        (λ need room is. absurd (let no : ⊥ = cc in no))
    refuses_late (TapeFull need room) (need_is, less, room_is, free, kept) =
        quiet serial o old new live pins tied only kept (TapeFull need room) (λ no. no) (never_refused (Err (TapeFull need room)) (up_with o new None)) (λ _. tt)
        (λ m is. absurd (let no : ⊥ = cc in no)) (λ full m is. absurd (let no : ⊥ = cc in no))
        (λ n r is.
        let a : need ≡ n = cc in
        let b : room ≡ r = cc in
        (sym a ∙ need_is, omega (arith, a, b, less), (λ q at. sym b ∙ room_is q at), free))
    refuses_late NoMemory kept =
        quiet serial o old new live pins tied only kept NoMemory (λ no. no) (never_refused (Err NoMemory) (up_with o new None)) (λ _. tt)
        (λ m is. absurd (let no : ⊥ = cc in no)) (λ full m is. absurd (let no : ⊥ = cc in no)) (λ n r is. absurd (let no : ⊥ = cc in no))
    refuses_late TapeReadFault rose = record {
      refused = never_refused (Err TapeReadFault) (up_with o new None);
      granted = λ _. tt;
      same = λ early. absurd (early tt);
      taken = λ n is. absurd (let no : ⊥ = cc in no);
      lost = λ full n is. absurd (let no : ⊥ = cc in no);
      full = λ need room is. absurd (let no : ⊥ = cc in no);
      done = record { contents = inl refl; changed = refl; reels = zip_becomes (λ r. r) old new (IsReadBy serial) (becomes_read old new only.reels) (λ r q there is. inr is) };
      cause = record {
        size = refl;
        later = stands_later refl;
        reels = zip_labels old.reels new.reels (labels_reads old new only.reels);
        disc_arms = refl;
        tape_arms = only.arms;
        disc_read = λ is. absurd (let no : ⊥ = cc in no);
        disc_read_only = λ _. refl;
        tape_read = λ _. rose;
        tape_read_only = λ isnt. absurd (isnt refl);
        cut = λ is. absurd (let no : ⊥ = cc in no);
        uncut = λ _. (refl, only.write_faults);
      };
      wrote = inl (no_commit was (up_with o new None) refl);
      keeps = store_up o new live pins tied;
      told = told_after o old new only.reels;
      belongs = λ told is. refused_belongs serial o o old new live tied tied only refl refl live is;
      dumps = λ told is safe. safe_up o new (survive_mid o old new only safe);
      exit = λ told text shelf shelved up unspent. inl (refl, only.reels);
      durable = λ unspent is. is;
      spent = (λ is. absurd (let no : ⊥ = cc in no), λ is. absurd (let no : ⊥ = cc in no));
      dump = λ _. refl;
    }
    refuses_late fault never = absurd never

-- How a store answers a process, from how the parts of it answer.
-- serves: process (dumps, processes, step), ProcessedStepLemmas, ProcessingLemmas
use Rattle.std.proofs.Common.{◌≡◌, ℕ, ◌-◌, ◌^◌, ◌==◌, Bool, true, false, List, [], ◌∷◌, Option, Some, None, Ok, Err, refl, sym, ◌∙◌, ap, arith, subst}
use Rattle.std.specs.Prelude.{Result, is_none, is_some}
use Rattle.std.specs.List.{AllZip}
use Rattle.std.proofs.lemmas.Option.{none-some, same_Some}
use Rattle.g_disc.proofs.CallLemmas.{stands_later}
use Rattle.g_tape.specs.Rack.{Rack, reel}
use Rattle.g_tape.specs.Reel.{Reel}
use Rattle.g_tape.proofs.ReadLemmas.{nothing_read}
use Rattle.g_plain.specs.declared.faults.StoreFault.{StoreFault}
use Rattle.g_plain.specs.declared.faults.StoreFault.TheVariants.{CountersSpent, DiscReadFault, DumpOpen, NoCopy, NoTape, RackNotMounted, ReelNotFree, Stopped, TapeFull, TapeReadFault}
use Rattle.g_plain.specs.PlainStep.{first_fault}
use Rattle.g_disc_contents.specs.Facts.{OnlineFacts}
use Rattle.g_shelf.specs.LastDump.{first_unmounted}
use Rattle.g_store_model.specs.Rising.{fault_from}
use Rattle.g_store_meaning.specs.Answers.{IsStore, WroteCommits}
use Rattle.g_store_meaning.specs.StoreInvariant.{DumpFacts, StoreFacts}
use Rattle.g_dumper.specs.Invariant.{up_with}
use Rattle.g_incr.specs.Layout.{Dump}
use Rattle.g_process.specs.Exits.{Exits}
use Rattle.g_process.specs.Processing.{Does, IsLate, Processes, Wrote, behind_process, open_number, process_refuses}
use Rattle.g_store.specs.Dumping.{is_stop_at}

-- THE REFUSALS that are known without a read
abbrev pub IsEarly : StoreFault → Type 0
IsEarly NoTape = Unit {0}
IsEarly (RackNotMounted n) = Unit {0}
IsEarly (DumpOpen n) = Unit {0}
IsEarly CountersSpent = Unit {0}
IsEarly fault = ⊥

early_cases : (a : Bool) (u : Option ℕ) (d b : Bool) (n : ℕ) (fault : StoreFault)
    → first_fault ((a, NoTape) ∷ fault_from RackNotMounted u ∷ (d, DumpOpen n) ∷ (b, CountersSpent) ∷ []) ≡ Some fault → IsEarly fault
early_cases true u d b n fault is = subst IsEarly (same_Some NoTape fault is) tt
early_cases false (Some m) d b n fault is = subst IsEarly (same_Some (RackNotMounted m) fault is) tt
early_cases false None true b n fault is = subst IsEarly (same_Some (DumpOpen n) fault is) tt
early_cases false None false true n fault is = subst IsEarly (same_Some CountersSpent fault is) tt
early_cases false None false false n fault is = absurd (none-some fault is)

pub is_early : (serial : ℕ) (s : StoreFacts) (fault : StoreFault) → process_refuses serial s ≡ Some fault → IsEarly fault
is_early serial s fault is = early_cases (is_none (reel serial s.rack.reels)) (first_unmounted s.rack.reels) (is_some s.dump) (s.online.contents.head.last_dump == 2 ^ 62 - 1) (open_number s.dump) fault is

none_open : (a : Bool) (u : Option ℕ) (d b : Bool) (n : ℕ) → first_fault ((a, NoTape) ∷ fault_from RackNotMounted u ∷ (d, DumpOpen n) ∷ (b, CountersSpent) ∷ []) ≡ None → d ≡ false
none_open true u d b n is = absurd (let no : ⊥ = cc in no)
none_open false (Some m) d b n is = absurd (let no : ⊥ = cc in no)
none_open false None true b n is = absurd (let no : ⊥ = cc in no)
none_open false None false b n is = refl

no_dump : (x : Option DumpFacts) → is_some x ≡ false → x ≡ None
no_dump None is = refl
no_dump (Some d) is = absurd (let no : ⊥ = cc in no)

-- if none applies no dump is open
pub not_open : (serial : ℕ) (s : StoreFacts) → process_refuses serial s ≡ None → s.dump ≡ None
not_open serial s is =
    no_dump s.dump (none_open (is_none (reel serial s.rack.reels)) (first_unmounted s.rack.reels) (is_some s.dump) (s.online.contents.head.last_dump == 2 ^ 62 - 1) (open_number s.dump) is)

never_late : (fault : StoreFault) → IsEarly fault → IsLate fault → ⊥
never_late TapeReadFault early late = early
never_late DiscReadFault early late = early
never_late Stopped early late = early
never_late fault early late = late

unlike : (fault other : StoreFault) → IsEarly fault → (IsEarly other → ⊥) → (let r : Result ℕ StoreFault = Err fault in r ≡ Err other) → ⊥
unlike fault other early not_early is = not_early (subst IsEarly (let e : fault ≡ other = cc in e) early)

does_nothing : (serial : ℕ) (fault : StoreFault) (s : StoreFacts) → IsEarly fault → (let r : Result ℕ StoreFault = Err fault in Does serial s r s)
does_nothing serial TapeReadFault s early = absurd early
does_nothing serial DiscReadFault s early = absurd early
does_nothing serial Stopped s early = absurd early
does_nothing serial fault s early = tt

leaves_all : (text : ℕ → List ℕ) (shelf : ℕ → List Dump) (serial : ℕ) (fault : StoreFault) (s : StoreFacts) → IsEarly fault → (let r : Result ℕ StoreFault = Err fault in Exits text shelf serial s r s)
leaves_all text shelf serial TapeReadFault s early = absurd early
leaves_all text shelf serial DiscReadFault s early = absurd early
leaves_all text shelf serial Stopped s early = absurd early
leaves_all text shelf serial fault s early = (refl, refl)

no_commit : (s : StoreFacts) → WroteCommits 0 s s
no_commit s = record { blocks = 0; commits = (refl, refl); writes = record { exactly = λ low. omega arith } }

wrote_nothing : (fault : StoreFault) (s : StoreFacts) → IsEarly fault → (let r : Result ℕ StoreFault = Err fault in Wrote s r s)
wrote_nothing TapeReadFault s early = absurd early
wrote_nothing DiscReadFault s early = absurd early
wrote_nothing Stopped s early = absurd early
wrote_nothing fault s early = no_commit s

same_reels : (rs : List Reel) → AllZip (λ (o n : Reel). (n.serial ≡ o.serial) × (n.capacity ≡ o.capacity) × (n.mounted ≡ o.mounted)) rs rs
same_reels [] = tt
same_reels (r ∷ rs) = ((refl, refl, refl), same_reels rs)

pub process_early : (serial : ℕ) (s : StoreFacts) (fault : StoreFault) → IsStore s → s.spent ≡ false → process_refuses serial s ≡ Some fault → (let r : Result ℕ StoreFault = Err fault in Processes serial s r s)
process_early serial s fault is_store running is =
    let early : IsEarly fault = is_early serial s fault is in
    let never : IsLate fault → ⊥ = never_late fault early in
    record {
      refused = λ other is_other. (ap (λ (x : StoreFault). let r : Result ℕ StoreFault = Err x in r) (same_Some fault other (sym is ∙ is_other)), refl);
      granted = λ none. absurd (none-some fault (sym none ∙ is));
      same = λ _. (refl, nothing_read s.rack);
      taken = λ n same. absurd (unlike fault (ReelNotFree n) early (λ no. no) same);
      lost = λ full n same. absurd (unlike fault (NoCopy full n) early (λ no. no) same);
      full = λ need room same. absurd (unlike fault (TapeFull need room) early (λ no. no) same);
      done = does_nothing serial fault s early;
      cause = record {
        size = refl;
        later = stands_later refl;
        reels = same_reels s.rack.reels;
        disc_arms = refl;
        tape_arms = refl;
        disc_read = λ same. absurd (unlike fault DiscReadFault early (λ no. no) same);
        disc_read_only = λ _. refl;
        tape_read = λ same. absurd (unlike fault TapeReadFault early (λ no. no) same);
        tape_read_only = λ _. refl;
        cut = λ same. absurd (unlike fault Stopped early (λ no. no) same);
        uncut = λ _. (refl, refl);
      };
      wrote = wrote_nothing fault s early;
      keeps = is_store;
      told = λ told. told;
      belongs = λ told was. was;
      dumps = λ told was safe. safe;
      exit = λ told text shelf shelved up unspent. leaves_all text shelf serial fault s early;
      durable = λ unspent is. is;
      spent = (λ spent. absurd (let no : ⊥ = cc in no), λ same. absurd (unlike fault Stopped early (λ no. no) same));
      dump = λ _. refl;
    }

-- AND WHAT THE PARTS ANSWER, the store answers
abbrev store_of : OnlineFacts → Rack → Option DumpFacts → Bool → StoreFacts
store_of o rack dump spent = record { online = o; rack = rack; dump = dump; spent = spent }

stored : (o : OnlineFacts) (rack : Rack) (dump : Option DumpFacts) (spent : Bool) → dump ≡ None → spent ≡ false → (let s : StoreFacts = record { online = o; rack = rack; dump = dump; spent = spent } in s ≡ up_with o rack None)
stored o rack dump spent none running = ap (λ (d : Option DumpFacts). store_of o rack d spent) none ∙ ap (λ (b : Bool). store_of o rack None b) running

stop_is : (fault : StoreFault) (o : OnlineFacts) (rack : Rack) → (let r : Result ℕ StoreFault = Err fault in let s : StoreFacts = record { online = o; rack = rack; dump = None; spent = is_stop_at fault } in s ≡ behind_process r o rack)
stop_is Stopped o rack = refl
stop_is fault o rack = refl

module _ (serial : ℕ) (s : StoreFacts) (o : OnlineFacts) (rack : Rack) (dump : Option DumpFacts) (spent : Bool) (view : (let v : StoreFacts = record { online = o; rack = rack; dump = dump; spent = spent } in v ≡ s))
    (running : s.spent ≡ false) (none : process_refuses serial s ≡ None) where
  pub was : s ≡ up_with o rack None
  was =
      let no_open : dump ≡ None = ap (λ (x : StoreFacts). x.dump) view ∙ not_open serial s none in
      let up_is : spent ≡ false = ap (λ (x : StoreFacts). x.spent) view ∙ running in
      sym view ∙ stored o rack dump spent no_open up_is

  pub ok_store : (o' : OnlineFacts) (rack' : Rack) → (let t : StoreFacts = record { online = o'; rack = rack'; dump = dump; spent = spent } in t ≡ up_with o' rack' None)
  ok_store o' rack' = stored o' rack' dump spent (ap (λ (x : StoreFacts). x.dump) view ∙ not_open serial s none) (ap (λ (x : StoreFacts). x.spent) view ∙ running)

  pub err_store : (o' : OnlineFacts) (rack' : Rack) (fault : StoreFault) (stop : Bool) → stop ≡ is_stop_at fault
      → (let r : Result ℕ StoreFault = Err fault in let t : StoreFacts = record { online = o'; rack = rack'; dump = dump; spent = stop } in t ≡ behind_process r o' rack')
  err_store o' rack' fault stop stop_is_so =
      ap (λ (d : Option DumpFacts). store_of o' rack' d stop) (ap (λ (x : StoreFacts). x.dump) view ∙ not_open serial s none) ∙ ap (λ (b : Bool). store_of o' rack' None b) stop_is_so ∙ stop_is fault o' rack'

  pub process_ok : (o' : OnlineFacts) (rack' : Rack) (number : ℕ) → (let r : Result ℕ StoreFault = Ok number in Processes serial (up_with o rack None) r (up_with o' rack' None))
      → (let r : Result ℕ StoreFault = Ok number in let t : StoreFacts = record { online = o'; rack = rack'; dump = dump; spent = spent } in Processes serial s r t)
  process_ok o' rack' number is =
      let no_open : dump ≡ None = ap (λ (x : StoreFacts). x.dump) view ∙ not_open serial s none in
      let up_is : spent ≡ false = ap (λ (x : StoreFacts). x.spent) view ∙ running in
      subst (λ (x : StoreFacts). let r : Result ℕ StoreFault = Ok number in let t : StoreFacts = record { online = o'; rack = rack'; dump = dump; spent = spent } in Processes serial x r t) (sym was)
      (subst (λ (t : StoreFacts). let r : Result ℕ StoreFault = Ok number in Processes serial (up_with o rack None) r t) (sym (stored o' rack' dump spent no_open up_is)) is)

  pub process_err : (o' : OnlineFacts) (rack' : Rack) (fault : StoreFault) (stop : Bool) → stop ≡ is_stop_at fault
      → (let r : Result ℕ StoreFault = Err fault in Processes serial (up_with o rack None) r (behind_process r o' rack'))
      → (let r : Result ℕ StoreFault = Err fault in let t : StoreFacts = record { online = o'; rack = rack'; dump = dump; spent = stop } in Processes serial s r t)
  process_err o' rack' fault stop stop_is_so is =
      let no_open : dump ≡ None = ap (λ (x : StoreFacts). x.dump) view ∙ not_open serial s none in
      subst (λ (x : StoreFacts). let r : Result ℕ StoreFault = Err fault in let t : StoreFacts = record { online = o'; rack = rack'; dump = dump; spent = stop } in Processes serial x r t) (sym was)
      (subst (λ (t : StoreFacts). let r : Result ℕ StoreFault = Err fault in Processes serial (up_with o rack None) r t)
      (sym (ap (λ (d : Option DumpFacts). store_of o' rack' d stop) no_open ∙ ap (λ (b : Bool). store_of o' rack' None b) stop_is_so ∙ stop_is fault o' rack')) is)

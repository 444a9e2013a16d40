-- The plan of a dump that is opened now satisfies the rules of a plan, and its versions that wait are those that are
-- pinned.
-- serves: BeginLemmas, crates above
use Rattle.std.proofs.Common.{◌≡◌, ◌≢◌, ℕ, ◌+◌, ◌-◌, ◌^◌, ◌<◌, ◌≤◌, Bool, true, List, [], ◌∷◌, get_or, length, map, Option, Some, None, refl, sym, ◌∙◌, ap, arith, subst, inl, inr}
use Rattle.std.specs.Prelude.{◌⊎◌, ◌&&◌, All, Contains, IfSome, is_none, nat_lt}
use Rattle.std.proofs.lemmas.Bool.{lt-ltb, ltb-true}
use Rattle.std.proofs.lemmas.List.Elements.{All-contains, All-head, All-tail, Contains-get_or, filter_passes}
use Rattle.std.proofs.lemmas.List.Kept.{AllPairs-filter}
use Rattle.g_base.specs.Block.{blocks_for}
use Rattle.g_entry.specs.declared.file_rec.FileRec.{FileRec}
use Rattle.g_entry.specs.declared.file_rec.TapeCopy.{TapeCopy}
use Rattle.g_entry.specs.FileFields.{IsFile}
use Rattle.g_entry.specs.HeadFields.{IsSerial}
use Rattle.g_entry.specs.Rules.{SameName}
use Rattle.g_tree.proofs.ListLemmas.{both_true}
use Rattle.g_disc_contents.specs.Contents.{File, recs_in}
use Rattle.g_disc_contents.specs.Facts.{IsPinOf, IsTied, OnlineFacts, Pin, WaitsByUser}
use Rattle.g_incr.specs.Plan.{ComesBefore, IsPlan, waiting, waits}
use Rattle.g_online.specs.Pins.{ArePinnedFrom, AreWaiting, HasPinned, IsWaiting, ComesBefore as FileBefore}
use Rattle.g_online.proofs.CloseNoteLemmas.{pairs_map}
use Rattle.g_store_meaning.specs.StoreInvariant.{ArePinned}
use Rattle.g_laws_store.proofs.ClosingLemmas.{contains_filter}
use Rattle.g_laws_store.proofs.RecordLemmas.{from_filter}
use Rattle.g_laws_store.proofs.WaitingLemmas.{from_mapped, mapped_there}
use Rattle.g_dumper.specs.Beginning.{held_of, plan_of}
use Rattle.g_dumper.proofs.HeldLemmas.{held_all, held_few, held_ordered, held_pairs, holds_there, in_held, is_held, one_order}
use Rattle.g_dumper.proofs.IntentLemmas.{rules_here}

-- THE RULES OF THE PLAN
other_stamp : (r s : FileRec) → r.stamp ≢ s.stamp → s.stamp ≢ r.stamp
other_stamp r s other same = other (sym same)

other_name : (r s : FileRec) → (SameName r s → ⊥) → SameName s r → ⊥
other_name r s other same = other (record { owner = sym same.owner; local = sym same.local; generation = sym same.generation; lang = sym same.lang })

pub plan_keeps : (serial place : ℕ) (o : OnlineFacts) → o.live ≡ true → IsTied o → IsSerial serial → place ≤ 65536 → o.contents.head.last_dump ≢ 2 ^ 62 - 1 → IsPlan (plan_of serial place o)
plan_keeps serial place o live tied named low unspent =
    let rules = rules_here o live tied in
    let rs = recs_in o.contents in
    let are = tied.changed_are live in
    let last = rules.head.last_dump in
    let files = rules.records.among_files in
    record {
      serial = named;
      place = low;
      number = omega (arith, last, unspent);
      first = rules.head.least_stamp;
      last = rules.head.most_stamp;
      users = rules.records.among_users;
      each_user = rules.records.each_user;
      held = are.rising;
      held_users = are.there;
      owners = λ k d within. holds_there o.changed (get_or (held_of o.changed rs) k d).owner
          (in_held o.changed rs (get_or (held_of o.changed rs) k d) (Contains-get_or (held_of o.changed rs) k d within)).1;
      in_order = held_ordered o.changed rs are.rising rules.records.numbers.rising;
      each_file = held_all IsFile o.changed rs rules.records.each_file;
      files = record {
        few = let few = held_few o.changed rs are.rising in let most = files.few in omega (arith, few, most);
        owners = held_all (λ r. r.owner < length o.contents.users) o.changed rs files.owners;
        trapped = held_all (λ r. All (λ pair. pair.0 < length o.contents.users) r.traps.others) o.changed rs files.trapped;
        names = held_pairs (λ r s. SameName r s → ⊥) other_name o.changed rs are.rising files.names;
        stamps = held_pairs (λ r s. r.stamp ≢ s.stamp) other_stamp o.changed rs are.rising files.stamps;
        dated = held_all (λ r. 1 ≤ r.stamp) o.changed rs files.dated;
        empty = held_all (λ r. r.len ≡ 0 → r.tape ≡ None) o.changed rs files.empty;
      };
      dated = held_all (λ r. r.stamp < o.contents.head.next_stamp) o.changed rs rules.dated;
    }

-- WHICH VERSIONS WAIT: those of the records and those of the files are the same
waits_yes : (f : File) → IsWaiting f → waits f.rec ≡ true
waits_yes f is = ap (λ (b : Bool). b && is_none f.rec.tape) (lt-ltb 0 f.rec.len is.filled) ∙ ap is_none is.none

none_is : (o : Option TapeCopy) → is_none o ≡ true → o ≡ None
none_is None is = refl
none_is (Some c) is = let no : ⊥ = cc in absurd no

yes_waits : (f : File) → waits f.rec ≡ true → IsWaiting f
yes_waits f is = record {
  filled = ltb-true 0 f.rec.len (both_true (nat_lt 0 f.rec.len) (is_none f.rec.tape) is).0;
  none = none_is f.rec.tape (both_true (nat_lt 0 f.rec.len) (is_none f.rec.tape) is).1;
}

abbrev rec_of : File → FileRec
rec_of f = f.rec

pub turns : (r s : FileRec) → ComesBefore r s → ComesBefore s r → ⊥
turns r s (inl less) (inl more) = omega (arith, less, more)
turns r s (inl less) (inr (same, more)) = omega (arith, less, same)
turns r s (inr (same, less)) (inl more) = omega (arith, same, more)
turns r s (inr (same, less)) (inr (also, more)) = omega (arith, less, more)

module _ (o : OnlineFacts) (live : o.live ≡ true) (tied : IsTied o) (ws : List File) (are : AreWaiting o.contents.files ws) where
  planned : List FileRec
  planned = waiting (held_of o.changed (recs_in o.contents))

  -- one that waits by the plan is pinned
  is_pinned : (r : FileRec) → Contains planned r → Contains (map rec_of ws) r
  unfolding planned
  is_pinned r there =
      let in_plan = (in_held o.changed (recs_in o.contents) r (from_filter waits (held_of o.changed (recs_in o.contents)) r there)).0 in
      let wait : waits r ≡ true = All-contains (λ (s : FileRec). waits s ≡ true) (waiting (held_of o.changed (recs_in o.contents))) r (filter_passes waits (held_of o.changed (recs_in o.contents))) there in
      let (f, in_files, same) = from_mapped rec_of o.contents.files r in_plan in
      let is : IsWaiting f = yes_waits f (ap waits same ∙ wait) in
      subst (Contains (map rec_of ws)) same (mapped_there rec_of ws f (are.every f in_files is))

  -- and the other way round, since it is of a changed user
  is_planned : (r : FileRec) → Contains (map rec_of ws) r → Contains planned r
  unfolding planned
  is_planned r there =
      let (f, in_ws, same) = from_mapped rec_of ws r there in
      let in_files = All-contains (Contains o.contents.files) ws f are.from in_ws in
      let wait = All-contains IsWaiting ws f are.each in_ws in
      let by_user = All-contains (WaitsByUser o.changed) o.contents.files f (tied.waits live) in_files wait.filled wait.none in
      subst (Contains (waiting (held_of o.changed (recs_in o.contents)))) same
      (contains_filter waits (held_of o.changed (recs_in o.contents)) f.rec (is_held o.changed (recs_in o.contents) f.rec (mapped_there rec_of o.contents.files f in_files) by_user) (waits_yes f wait))

  pub same_waiting : waiting (held_of o.changed (recs_in o.contents)) ≡ map rec_of ws
  unfolding planned
  same_waiting =
      one_order ComesBefore turns (waiting (held_of o.changed (recs_in o.contents))) (map rec_of ws)
      (AllPairs-filter ComesBefore waits (held_of o.changed (recs_in o.contents)) (held_ordered o.changed (recs_in o.contents) (tied.changed_are live).rising (rules_here o live tied).records.numbers.rising))
      (pairs_map ComesBefore rec_of ws are.in_order) is_pinned is_planned

-- THE PINS of the files are the pins of the plan
pins_of_plan : (told : Bool) (next : ℕ) (files : List File) (serial at : ℕ) (ws : List File) (pins : List Pin) → All (IsPinOf told next files) pins → ArePinnedFrom serial at ws pins
    → ArePinned serial at (map rec_of ws) pins
pins_of_plan told next files serial at [] pins each are = are
pins_of_plan told next files serial at (f ∷ fs) pins each (pin, rest, same, is, more) =
    let every = subst (All (IsPinOf told next files)) same each in
    let first = All-head (IsPinOf told next files) pin rest every in (
      pin,
      rest,
      same,
      is.stamp,
      is.len,
      is.copy,
      (λ blocks here. (first.blocks blocks here).0 ∙ ap blocks_for is.len),
      pins_of_plan told next files serial (at + blocks_for f.rec.len) fs rest (All-tail (IsPinOf told next files) pin rest every) more,
    )

pub plan_pinned : (o new : OnlineFacts) (serial at : ℕ) (is : HasPinned serial at o new) → o.live ≡ true → IsTied o → (pins : Option (List Pin)) → Some is.pins ≡ pins
    → (next : ℕ) (files : List File) (told : Bool) → IfSome pins (All (IsPinOf told next files)) → ArePinned serial at (waiting (held_of o.changed (recs_in o.contents))) is.pins
plan_pinned o new serial at is live tied pins same next files told each =
    subst (λ (rs : List FileRec). ArePinned serial at rs is.pins) (sym (same_waiting o live tied is.waiting is.are))
    (pins_of_plan told next files serial at is.waiting is.pins (subst (λ (p : Option (List Pin)). IfSome p (All (IsPinOf told next files))) (sym same) each) is.pinned)

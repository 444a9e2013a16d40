-- What a change of records brings about in memory is ready to be written.
-- serves: with_new_copy, AdoptLemmas, AdoptedLemmas, BringStepLemmas, BytesLemmas, CloseLemmas, CloseMarkLemmas, EraseLemmas, FileLemmas, and 8 more
use Rattle.std.proofs.Common.{◌≡◌, ◌≢◌, ℕ, Bool, true, List, ◌++◌, length, get_or, sym, ◌∙◌, ap, subst, arith, inl, length-append}
use Rattle.std.specs.Prelude.{All, AllPairs, Contains, is_some}
use Rattle.std.proofs.Math.ListN.{get_or-append}
use Rattle.g_blocks.specs.Pool.{IsInArea}
use Rattle.g_disc.specs.Disc.{DiscState}
use Rattle.g_entry.specs.declared.format.Format.TheVariants.{Two}
use Rattle.g_slots.specs.declared.side.Side.{Side}
use Rattle.g_dirs.specs.Directory.{AreCopies, AreRecords, Directory, IsDirectory, all_places}
use Rattle.g_dirs.specs.Image.{block_of}
use Rattle.g_dirs.specs.Pages.{Covers, KeepsPages, Remembered, Remembers}
use Rattle.g_dirs.specs.Rules.{numbers_of}
use Rattle.g_disc_contents.specs.Contents.{contents_of}
use Rattle.g_disc_contents.specs.Facts.{OnlineFacts}
use Rattle.g_online.specs.declared.change.Change.{Change}
use Rattle.g_online.specs.AllowedChanges.{IsAllowed, KeepsRules}
use Rattle.g_online.specs.Change.{changed as changed_to, changed_after, touched_after, need_of}
use Rattle.g_online.specs.Outcomes.{commits_of}
use Rattle.g_online.specs.Invariant.{AreNoted, IsKept, IsPooled, Memory, PinsAre, directory_in, facts_of, orphans}
use Rattle.g_online.proofs.KeepLemmas.{CopyFits, rules_kept}
use Rattle.g_online.proofs.SameLemmas.{left_part}
use Rattle.g_online.proofs.StepLemmas.{IsReady, beside_none, pins_told}

-- what the mark of block k brings about
abbrev pub CoversBut : ℕ → Remembered → Remembered → Type 0
CoversBut k old new = (side : Side) (d e : Directory) → Covers d side old → ((j : ℕ) → j ≢ k → block_of Two e j ≡ block_of Two d j) → Covers e side new

abbrev pub StillRemembers : Remembered → Remembered → Type 0
StillRemembers old new = (blocks : List (List ℕ)) → Remembers old blocks → Remembers new blocks

pub pairs_left : (xs ys : List ℕ) → AllPairs (λ j k. j ≢ k) (xs ++ ys) → AllPairs (λ j k. j ≢ k) xs
pairs_left xs ys all = λ i j d less within.
    let long = length-append xs ys in
    let first : get_or (xs ++ ys) i d ≡ get_or xs i d = get_or-append xs ys d i (omega arith) in
    let second : get_or (xs ++ ys) j d ≡ get_or xs j d = get_or-append xs ys d j (omega arith) in
    λ same. all i j d less (omega arith) (first ∙ same ∙ sym second)

pub allowed_live : (change : Change) (before : DiscState) (m : Memory) (o : OnlineFacts) → facts_of before m ≡ o → IsAllowed change o → m.live ≡ true
allowed_live change before m o is allowed = ap (λ (p : OnlineFacts). p.live) is ∙ allowed.live

pub allowed_here : (change : Change) (before : DiscState) (m : Memory) (o : OnlineFacts) → facts_of before m ≡ o → IsAllowed change o → IsAllowed change (facts_of before m)
allowed_here change before m o is allowed = subst (IsAllowed change) (sym is) allowed

-- the rules that the change requires
pub rules_then : (change : Change) (before : DiscState) (m n : Memory) (o : OnlineFacts) → facts_of before m ≡ o → IsAllowed change o
    → contents_of before.held (directory_in n) ≡ changed_to (is_some before.held) (is_some m.pins) change (contents_of before.held (directory_in m))
    → KeepsRules (contents_of before.held (directory_in n))
rules_then change before m n o is allowed contents =
    subst KeepsRules
    (sym (contents ∙ ap (λ (p : Bool). changed_to (is_some before.held) p change (contents_of before.held (directory_in m))) (sym (pins_told before.held m.pins))))
    (allowed_here change before m o is allowed).rules

pub make_ready : (change : Change) (before : DiscState) (m n : Memory) (o : OnlineFacts) → facts_of before m ≡ o → IsKept before m → IsAllowed change o → commits_of change ≡ 1 → need_of change ≡ 0
    → n.live ≡ m.live → n.side ≡ m.side → n.pins ≡ m.pins → KeepsPages m.pages n.pages → StillRemembers m.pages n.pages
    → ((s : Side) → Covers (directory_in m) s m.pages → Covers (directory_in n) s n.pages)
    → n.changed ≡ changed_after change (facts_of before m) → n.touched ≡ touched_after change (facts_of before m)
    → contents_of before.held (directory_in n) ≡ changed_to (is_some before.held) (is_some m.pins) change (contents_of before.held (directory_in m))
    → AreCopies n.files n.online → ((k : ℕ) → Contains (numbers_of n.online) k → Contains (numbers_of m.online) k) → All CopyFits (directory_in n).files → IsPooled before.size n.pins (directory_in n).files n.pool
    → AreNoted (length n.users) (directory_in n).files n.changed n.touched → PinsAre n.pins before.size n.head.next_stamp (directory_in n).files n.touched
    → IsReady change before m n
make_ready change before m n o is kept allowed commits need lives side pins pages remembers covers changed touched contents copies places fits pool noted pinned =
    let live : m.live ≡ true = allowed_live change before m o is allowed in
    let was = kept.agreed live in
    let both : AreRecords Two (directory_in n) × IsDirectory before.size (directory_in n) =
    rules_kept before.size before.held (directory_in n) kept.most (rules_then change before m n o is allowed contents) fits
    (left_part (IsInArea before.size) (all_places (directory_in n).files) (orphans n.pins (directory_in n).files) pool.area)
    (pairs_left (all_places (directory_in n).files) (orphans n.pins (directory_in n).files) pool.apart) in
    record {
      was = kept;
      lived = live;
      commits = commits;
      beside = beside_none change before m need;
      live = lives ∙ live;
      side = side;
      pages = pages;
      same_pins = pins;
      changed = changed;
      touched = touched;
      contents = contents;
      copies = copies;
      copied = λ k there. inl (places k there);
      marked = record {
        size = kept.size;
        gate = λ b told. was.stored.gate b told ∙ sym side;
        remembers = λ b told. remembers b (was.stored.remembers b told);
        covers = λ s. covers s (was.stored.covers s);
        records = both.0;
        rules = both.1;
      };
      pool = pool;
      noted = noted;
      pins = pinned;
    }

-- A user's other budget.
-- serves: budget (answers), budgeted_user
use Rattle.std.proofs.Common.{◌≡◌, ℕ, ◌<◌, ◌≤◌, Bool, true, List, [], get_or, length, Option, Some, None, is_some, refl, sym, ◌∙◌, ap, arith, inl, inr, slice_get, subst, All}
use Rattle.std.specs.Prelude.{◌⊎◌, Contains, IfSome, codes, slice_set}
use Rattle.std.specs.FinMap.{get, get-from_entries}
use Rattle.std.proofs.lemmas.Bool.{cases_eq, false≢true}
use Rattle.std.proofs.lemmas.List.{get_or-set_other, get_or-set_same, length-set}
use Rattle.std.proofs.lemmas.List.Elements.{All-contains, Contains-get_or}
use Rattle.std.proofs.lemmas.Option.{get_or_from_slice_get, slice_get-get_or, slice_get_within}
use Rattle.g_entry.specs.declared.file_rec.FileRec.{FileRec}
use Rattle.g_entry.specs.declared.format.Format.TheVariants.{Two}
use Rattle.g_entry.specs.declared.user_rec.UserRec.{UserRec}
use Rattle.g_entry.specs.Rules.{AreFiles, AreUsers, IsFirst}
use Rattle.g_entry.specs.UserFields.{IsUser}
use Rattle.g_plain.specs.declared.calls.BudgetKind.{BudgetKind}
use Rattle.g_plain.specs.declared.calls.BudgetKind.TheVariants.{Space, Time, Money}
use Rattle.g_plain.specs.declared.calls.StoreCall.TheVariants.{Budget}
use Rattle.g_plain.specs.declared.calls.StoreReply.TheVariants.{Done}
use Rattle.g_plain.specs.PlainStep.{with_budget}
use Rattle.g_plain.specs.PlainTree.{has_user, user_row}
use Rattle.g_plain.specs.Rules.{most_of}
use Rattle.g_plain.proofs.TextMaps.{text_exact, text_total}
use Rattle.g_tree.specs.AskedRecords.{zeros}
use Rattle.g_tree.specs.Records.{ForTree, IsRecords, name_of, tree_of, user_row_of, users_by_name}
use Rattle.g_tree.proofs.MapLemmas.{found_itself, found_one, keyed}
use Rattle.g_tree.proofs.NamedLemmas.{user_row_named, zeros_fit}
use Rattle.g_tree.proofs.RecordLemmas.{name_at}
use Rattle.g_disc_contents.specs.Contents.{Contents, committed, recs_in}
use Rattle.g_disc_contents.specs.Facts.{IsTied, OnlineFacts}
use Rattle.g_store_meaning.specs.Staying.{behind}
use Rattle.g_store_meaning.specs.StoreInvariant.{DumpFacts, IsUp}
use Rattle.g_store_meaning.proofs.ChangeLemmas.{files_belong}
use Rattle.g_laws_store.proofs.CallLemmas.{calls_go_by_step}
use Rattle.g_laws_store.specs.Dumping.{WereThere}
use Rattle.g_laws_store.proofs.DumpingLemmas.{events_stay_up}
use Rattle.g_online.specs.declared.change.Change.TheVariants.{SetUser}
use Rattle.g_online.specs.AllowedChanges.{IsAllowed, KeepsRules}
use Rattle.g_online.specs.Change.{changed}
use Rattle.g_migrate.proofs.MigrationLemmas.{rules_here}
use Rattle.g_store_calls.specs.ReplacedRecords.{IsBudgeted, budgeted}
use Rattle.g_store_calls.specs.Replies.{RefusesAs}
use Rattle.g_store_calls.proofs.AddLemmas.{or_false}
use Rattle.g_store_calls.proofs.MarkLemmas.{only_grow}
use Rattle.g_store_calls.proofs.RecordLemmas.{IsRecorded}
use Rattle.g_store_calls.proofs.TellLemmas.{granted_off, not_not, user_any}
use Rattle.g_online.proofs.OffRuleLemmas.{committed_rules}

-- ANOTHER RECORD of a user, of the same number, name and superior: the records satisfy their rules
module _ (users : List UserRec) (n : ℕ) (u old : UserRec) (at : slice_get users n ≡ Some old) where
  abbrev after : List UserRec
  after = slice_set users n u

  long : length after ≡ length users
  long = length-set users n u

  within : n < length users
  within = slice_get_within users n old at

  inside : (i : ℕ) → i < length after → i < length users
  inside i less = let same = long in omega (arith, less, same)

  -- what is the same of both is so everywhere
  same_of : {X : Type 0} (g : UserRec → X) → g u ≡ g old → (i : ℕ) (d : UserRec) → g (get_or after i d) ≡ g (get_or users i d)
  same_of {X} g same i d = by_case (cases_eq i n)
    where
      by_case : (i ≡ n) ⊎ (i ≡ n → ⊥) → g (get_or after i d) ≡ g (get_or users i d)
      by_case (inl here) =
          ap (λ (k : ℕ). g (get_or after k d)) here ∙ ap g (get_or-set_same users n u d within) ∙ same
          ∙ ap g (sym (get_or_from_slice_get users n old d at)) ∙ ap (λ (k : ℕ). g (get_or users k d)) (sym here)
      by_case (inr other) = ap g (get_or-set_other users n i u d other)

  by_place : (P : ℕ → UserRec → Type 0) → (P n old → P n u) → ((i : ℕ) (w : UserRec) → slice_get users i ≡ Some w → P i w) → (i : ℕ) (w : UserRec) → slice_get after i ≡ Some w → P i w
  by_place P mine all i w is = by_case (cases_eq i n)
    where
      by_case : (i ≡ n) ⊎ (i ≡ n → ⊥) → P i w
      by_case (inl here) =
          let one : u ≡ w = sym (get_or-set_same users n u w within) ∙ ap (λ (k : ℕ). get_or after k w) (sym here) ∙ get_or_from_slice_get after i w w is in
          subst (P i) one (subst (λ (k : ℕ). P k u) (sym here) (mine (all n old at)))
      by_case (inr other) =
          all i w
          (slice_get-get_or users i w (inside i (slice_get_within after i w is)) ∙ ap Some (sym (get_or-set_other users n i u w other) ∙ get_or_from_slice_get after i w w is))

  each : IsUser Two u → All (IsUser Two) users → All (IsUser Two) after
  each fits all i d less = by_case (cases_eq i n)
    where
      by_case : (i ≡ n) ⊎ (i ≡ n → ⊥) → IsUser Two (get_or after i d)
      by_case (inl here) = subst (IsUser Two) (sym (ap (λ (k : ℕ). get_or after k d) here ∙ get_or-set_same users n u d within)) fits
      by_case (inr other) = subst (IsUser Two) (sym (get_or-set_other users n i u d other)) (all i d (inside i less))

  module _ (files : List FileRec) (is : IsRecords users files) (fits : IsUser Two u) (number : u.number ≡ old.number) (named : u.user ≡ old.user) (superior : u.superior ≡ old.superior) where
    first : (name : List ℕ) (k : ℕ) → ((w : UserRec) → slice_get users k ≡ Some w → IsFirst name w) → (w : UserRec) → slice_get after k ≡ Some w → IsFirst name w
    first name k all w is_w =
        by_place (λ i x. i ≡ k → IsFirst name x)
        (λ old_is here. let o = old_is here in record { user = named ∙ o.user; superior = superior ∙ o.superior })
        (λ i x at_i here. all x (subst (λ (m : ℕ). slice_get users m ≡ Some x) here at_i)) k w is_w refl

    among : AreUsers after
    among =
        let were = is.among_users in
        let both = were.both in
        let few = were.few in
        let same = long in
        record {
          both = omega (arith, both, same);
          few = omega (arith, few, same);
          numbered = by_place (λ i w. w.number ≡ i) (λ old_is. number ∙ old_is) were.numbered;
          master = first (codes "MASTER") 0 were.master;
          macros = first (codes "MACROS") 1 were.macros;
          superiors = λ i w two at_w.
              by_place (λ k x. 2 ≤ k → x.superior < k) (λ old_is more. let less = old_is more in omega (arith, less, superior)) (λ k x at_x more. were.superiors k x more at_x) i w at_w two;
          names = λ i j d less inner same_names.
              were.names i j d less (inside j inner)
              (sym (same_of (λ (v : UserRec). v.user) named i d) ∙ same_names ∙ same_of (λ (v : UserRec). v.user) named j d);
        }

    pub records_with : IsRecords after files
    records_with = record {
      each_user = each fits is.each_user;
      among_users = among;
      each_file = is.each_file;
      numbers = is.numbers;
      among_files = subst (λ (m : ℕ). AreFiles m files) (sym long) is.among_files;
    }

  -- and each existing user existed before
  pub were_there : u.number ≡ old.number → (numbers : List ℕ) (c : Contents) → c.users ≡ users → WereThere numbers after c
  were_there number numbers c are w there none =
      let (k, less, is) = there in (
        get_or users k w,
        subst (λ (us : List UserRec). Contains us (get_or users k w)) (sym are) (Contains-get_or users k w (inside k less)),
        sym (same_of (λ (v : UserRec). v.number) number k w) ∙ ap (λ (v : UserRec). v.number) is,
      )

-- THE RECORD WITH ANOTHER BUDGET
same_number : (u : UserRec) (kind : BudgetKind) (amount : ℕ) → (budgeted u kind amount).number ≡ u.number
same_number u Space amount = refl
same_number u Time amount = refl
same_number u Money amount = refl

same_user : (u : UserRec) (kind : BudgetKind) (amount : ℕ) → (budgeted u kind amount).user ≡ u.user
same_user u Space amount = refl
same_user u Time amount = refl
same_user u Money amount = refl

same_superior : (u : UserRec) (kind : BudgetKind) (amount : ℕ) → (budgeted u kind amount).superior ≡ u.superior
same_superior u Space amount = refl
same_superior u Time amount = refl
same_superior u Money amount = refl

same_row : (users : List UserRec) (u : UserRec) (kind : BudgetKind) (amount : ℕ) → user_row_of users (budgeted u kind amount) ≡ with_budget (user_row_of users u) kind amount
same_row users u Space amount = refl
same_row users u Time amount = refl
same_row users u Money amount = refl

budget_fits : (u : UserRec) (kind : BudgetKind) (amount : ℕ) → amount ≤ most_of kind → IsUser Two u → IsUser Two (budgeted u kind amount)
budget_fits u Space amount limit is = record { user = is.user; space = limit; time = is.time; money = is.money }
budget_fits u Time amount limit is = record { user = is.user; space = is.space; time = limit; money = is.money }
budget_fits u Money amount limit is = record { user = is.user; space = is.space; time = is.time; money = limit }

-- the user of a name
user_placed : (users : List UserRec) (files : List FileRec) (u : UserRec) → IsRecords users files → Contains users u → slice_get users u.number ≡ Some u
user_placed users files u is there =
    let (k, less, same) = there in
    let here : slice_get users k ≡ Some u = slice_get-get_or users k u less ∙ ap Some same in
    subst (λ (m : ℕ). slice_get users m ≡ Some u) (sym (is.among_users.numbered k u here)) here

pub budget_made : (users : List UserRec) (files : List FileRec) (user : List ℕ) (kind : BudgetKind) (amount : ℕ) (old u : UserRec) → IsRecords users files → amount ≤ most_of kind
    → Some old ≡ get (users_by_name users) user → u ≡ budgeted old kind amount → IsBudgeted users files user kind amount u
budget_made users files user kind amount old u is limit found made =
    let (there, named) = found_one text_total text_exact (λ (w : UserRec). w.user) user users old (sym (get-from_entries text_total (keyed (λ (w : UserRec). w.user) users) user) ∙ sym found) in
    let number : u.number ≡ old.number = ap (λ (w : UserRec). w.number) made ∙ same_number old kind amount in
    record {
      old = old;
      there = there;
      named = named;
      is = made;
      rules = subst (λ (m : ℕ). IsRecords (slice_set users m u) files) (sym number)
          (records_with users old.number u old (user_placed users files old is there) files is
          (subst (IsUser Two) (sym made) (budget_fits old kind amount limit (All-contains (IsUser Two) users old is.each_user there)))
          number (ap (λ (w : UserRec). w.user) made ∙ same_user old kind amount) (ap (λ (w : UserRec). w.superior) made ∙ same_superior old kind amount));
    }

-- who is there, if the call isn't refused
pub budget_user : (users : List UserRec) (files : List FileRec) (next : ℕ) (who user : List ℕ) (kind : BudgetKind) (amount : ℕ) → RefusesAs users files next who (Budget user kind amount) None
    → ForTree users files (λ t. has_user t user ≡ true)
budget_user users files next who user kind amount granted bytes then_ =
    let t = tree_of users files zeros next in
    let off = granted_off t who (Budget user kind amount) (granted zeros (zeros_fit files)) in
    user_any users files user bytes zeros then_ next ∙ not_not (has_user t user) off.1.0

pub nobody_there : (users : List UserRec) (files : List FileRec) (user : List ℕ) (found : Option UserRec) → ForTree users files (λ t. is_some found ≡ has_user t user)
    → ForTree users files (λ t. has_user t user ≡ true) → found ≡ None → ⊥
nobody_there users files user found there has none = false≢true (sym (ap is_some none) ∙ there zeros 0 ∙ has zeros 0)

-- THE CHANGE may be made
set_is : (told pinned : Bool) (u : UserRec) (c : Contents) → changed told pinned (SetUser u) c ≡ committed pinned (record c { users = slice_set c.users u.number u })
unfolding changed
set_is told pinned u c = ap (λ (b : Bool). committed b (record c { users = slice_set c.users u.number u })) (or_false pinned)

module _ (o : OnlineFacts) (who user : List ℕ) (kind : BudgetKind) (amount : ℕ) (u : UserRec) (live : o.live ≡ true) (tied : IsTied o)
    (made : IsBudgeted o.contents.users (recs_in o.contents) user kind amount u) where
  records : IsRecords o.contents.users (recs_in o.contents)
  records = (rules_here o live tied).records

  number : u.number ≡ made.old.number
  number = ap (λ (w : UserRec). w.number) made.is ∙ same_number made.old kind amount

  named : u.user ≡ made.old.user
  named = ap (λ (w : UserRec). w.user) made.is ∙ same_user made.old kind amount

  placed : slice_get o.contents.users u.number ≡ Some made.old
  placed = ap (slice_get o.contents.users) number ∙ user_placed o.contents.users (recs_in o.contents) made.old records made.there

  there : u.number < length o.contents.users
  there = slice_get_within o.contents.users u.number made.old placed

  name_is : name_of o.contents.users u.number ≡ u.user
  name_is =
      name_at o.contents.users u.number u there
      ∙ ap (λ (w : UserRec). w.user) (get_or_from_slice_get o.contents.users u.number made.old u placed) ∙ sym named

  pub may_set_user : IsAllowed (SetUser u) o
  may_set_user =
      let was = rules_here o live tied in
      record {
        live = live;
        fits = (there, name_is);
        rules = subst KeepsRules (sym (set_is (is_some o.disc.held) (is_some o.pins) u o.contents))
            (committed_rules (is_some o.pins) (record o.contents { users = slice_set o.contents.users u.number u })
            (record { head = was.head; records = made.rules; dated = was.dated; lie = was.lie }));
      }

  -- THE CALL is the step's
  row_is : (bytes : FileRec → List ℕ) (next : ℕ) → user_row_of o.contents.users u ≡ with_budget (user_row (tree_of o.contents.users (recs_in o.contents) bytes next) user) kind amount
  row_is bytes next =
      let found : get (users_by_name o.contents.users) user ≡ Some made.old =
      ap (get (users_by_name o.contents.users)) (sym made.named)
      ∙ get-from_entries text_total (keyed (λ (w : UserRec). w.user) o.contents.users) made.old.user
      ∙ found_itself text_total text_exact (λ (w : UserRec). w.user) o.contents.users made.old records.among_users.names made.there in
      ap (user_row_of o.contents.users) made.is ∙ same_row o.contents.users made.old kind amount
      ∙ ap (λ row. with_budget row kind amount) (sym (user_row_named o.contents.users (recs_in o.contents) bytes next user (Some made.old) found))

  were : (numbers : List ℕ) → WereThere numbers (slice_set o.contents.users u.number u) o.contents
  were numbers = were_there o.contents.users u.number u made.old placed number numbers o.contents refl

  were_open : (dump : Option DumpFacts) (numbers : List ℕ) → IfSome dump (λ d. WereThere numbers (slice_set o.contents.users u.number u) o.contents)
  were_open None numbers = tt
  were_open (Some d) numbers = were numbers

  pub budgets : RefusesAs o.contents.users (recs_in o.contents) o.contents.head.next_stamp who (Budget user kind amount) None
      → IsRecorded o who (Budget user kind amount) (SetUser u) (record o.contents { users = slice_set o.contents.users u.number u }) [] Done
  budgets granted = record {
    live = live;
    records = records;
    changes = λ told pinned. set_is told pinned u o.contents;
    alone = refl;
    no_blocks = refl;
    touched = refl;
    write = refl;
    off = λ s k. refl;
    none = λ s k. refl;
    head = refl;
    granted = granted;
    replied = λ bytes long_enough. refl;
    goes = λ v reels new dump known free unjam behind.
        calls_go_by_step.budgets v reels o new dump who user kind amount u 0 known made.rules there name_is (named ∙ made.named)
        (row_is (λ r. v.text r.stamp) o.contents.head.next_stamp) free unjam behind;
    texts = λ held reels v are. are;
    up = λ text shelf s changed touched is changed_is touched_is was.
        let mine : changed ≡ s.online.changed = changed_is ∙ ap (λ (x : OnlineFacts). x.changed) (sym is) in
        let open_mine : IfSome s.dump (λ d. touched ≡ s.online.touched) = subst (λ (x : OnlineFacts). IfSome s.dump (λ d. touched ≡ x.touched)) (sym is) touched_is in
        subst (λ (x : OnlineFacts). IsUp text shelf (behind s (record x.contents { users = slice_set x.contents.users u.number u }) changed touched)) is
        (events_stay_up.users text shelf s (slice_set s.online.contents.users u.number u) changed touched (only_grow s [] changed touched mine open_mine)
        (subst (λ (x : OnlineFacts). WereThere changed (slice_set x.contents.users u.number u) x.contents) (sym is) (were changed))
        (subst (λ (x : OnlineFacts). IfSome s.dump (λ d. WereThere touched (slice_set x.contents.users u.number u) x.contents)) (sym is) (were_open s.dump touched)) was);
    belongs = λ text shelf reels was. files_belong.users text shelf reels o.contents (slice_set o.contents.users u.number u) was;
  }

-- of the records of the filestore
pub budgeted_on : (o : OnlineFacts) (us : List UserRec) (fs : List FileRec) (user : List ℕ) (kind : BudgetKind) (amount : ℕ) (u : UserRec) → us ≡ o.contents.users → fs ≡ recs_in o.contents
    → IsBudgeted us fs user kind amount u → IsBudgeted o.contents.users (recs_in o.contents) user kind amount u
budgeted_on o us fs user kind amount u users files is =
    subst (λ (rs : List FileRec). IsBudgeted o.contents.users rs user kind amount u) files (subst (λ (x : List UserRec). IsBudgeted x fs user kind amount u) users is)

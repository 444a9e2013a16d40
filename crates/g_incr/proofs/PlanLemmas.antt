-- The records of a plan's dump satisfy the rules of a dump.
-- serves: plan_gives_dump, PieceLemmas, crates above
use Rattle.std.proofs.Common.{◌≡◌, ◌≢◌, ◌⊎◌, ℕ, zero, suc, ◌+◌, ◌*◌, ◌<◌, ◌≤◌, ◌^◌, Bool, true, false, List, [], ◌∷◌, length, get_or, Option, Some, None, refl, sym, ◌∙◌, ap, arith, subst, inl, inr}
use Rattle.std.specs.Prelude.{◌==◌, ◌&&◌, nat_le, nat_lt, filter, All, IfSome, is_some, is_none}
use Rattle.std.proofs.lemmas.Bool.{and_from, and_parts, both_ways, cases_Bool, cond-false, cond-true, eq-eqb, le-leb, lt-ltb, ltb-true}
use Rattle.std.proofs.lemmas.List.Sums.{sum_by-cons}
use Rattle.std.proofs.lemmas.Option.{slice_get_within, get_or_from_slice_get}
use Rattle.g_base.specs.Block.{blocks_for}
use Rattle.g_trap.specs.TrapList.{TrapList}
use Rattle.g_entry.specs.declared.file_rec.FileRec.{FileRec}
use Rattle.g_entry.specs.declared.file_rec.TapeCopy.{TapeCopy}
use Rattle.g_entry.specs.FileFields.{IsCopy, IsFile}
use Rattle.g_entry.specs.HeadFields.{IsSerial}
use Rattle.g_entry.proofs.RuleLemmas.{file_anew}
use Rattle.g_incr.specs.Layout.{FollowOn, content_at, holds, is_between}
use Rattle.g_incr.specs.Plan.{ComesBefore, PlanGivesDump, blocks_of, content_blocks, dump_of, first_content, noted_files, noted_rec, numbered_from, waiting, waits, with_number}
use Rattle.g_incr.proofs.NumberLemmas.{number_at}

-- the copy that a version got, or the one that it had
pub record GetsCopy (serial from to : ℕ) (r s : FileRec) : Type 0 where
  pub waits : waits r ≡ true
  pub at : ℕ
  pub least : from ≤ at
  pub most : at + blocks_for r.len ≤ to
  pub tape : s.tape ≡ Some (record { serial = serial; first = at })

pub record KeepsCopy (r s : FileRec) : Type 0 where
  pub waits : waits r ≡ false
  pub tape : s.tape ≡ r.tape

-- A record of the dump and the record that it was made from: the same, with another number and place on tape.
pub record IsMade (serial from to : ℕ) (r s : FileRec) : Type 0 where
  pub same : s ≡ record r { number = s.number; tape = s.tape }
  pub copy : GetsCopy serial from to r s ⊎ KeepsCopy r s

as_made : (serial from to n : ℕ) (r : FileRec) (tape : Option TapeCopy) → (let s : FileRec = record r { number = n; tape = tape } in GetsCopy serial from to r s ⊎ KeepsCopy r s)
    → IsMade serial from to r (record r { number = n; tape = tape })
as_made serial from to n r tape copy = record { same = refl; copy = copy }

abbrev pub made : ℕ → ℕ → ℕ → List FileRec → List FileRec
made serial n at rs = numbered_from n (noted_files serial at rs)

pub made_waits : (serial n at : ℕ) (r : FileRec) (rs : List FileRec) → waits r ≡ true
    → made serial n at (r ∷ rs) ≡ with_number n (noted_rec serial at r) ∷ made serial (n + 1) (at + blocks_for r.len) rs
made_waits serial n at r rs is = ap (numbered_from n) (cond-true (waits r) (noted_rec serial at r ∷ noted_files serial (at + blocks_for r.len) rs) (r ∷ noted_files serial at rs) is)

pub made_keeps : (serial n at : ℕ) (r : FileRec) (rs : List FileRec) → waits r ≡ false → made serial n at (r ∷ rs) ≡ with_number n r ∷ made serial (n + 1) at rs
made_keeps serial n at r rs is = ap (numbered_from n) (cond-false (waits r) (noted_rec serial at r ∷ noted_files serial (at + blocks_for r.len) rs) (r ∷ noted_files serial at rs) is)

pub blocks_waits : (r : FileRec) (rs : List FileRec) → waits r ≡ true → blocks_of (waiting (r ∷ rs)) ≡ blocks_for r.len + blocks_of (waiting rs)
blocks_waits r rs is = ap blocks_of (cond-true (waits r) (r ∷ waiting rs) (waiting rs) is) ∙ sum_by-cons (λ (s : FileRec). blocks_for s.len) r (waiting rs)

pub blocks_keeps : (r : FileRec) (rs : List FileRec) → waits r ≡ false → blocks_of (waiting (r ∷ rs)) ≡ blocks_of (waiting rs)
blocks_keeps r rs is = ap blocks_of (cond-false (waits r) (r ∷ waiting rs) (waiting rs) is)

pub length-made : (serial n at : ℕ) (rs : List FileRec) → length (made serial n at rs) ≡ length rs
length-made serial n at [] = refl
length-made serial n at (r ∷ rs) = by_copy (cases_Bool (waits r)) (length-made serial (n + 1) (at + blocks_for r.len) rs) (length-made serial (n + 1) at rs)
  where
    by_copy : (waits r ≡ true) ⊎ (waits r ≡ false) → length (made serial (n + 1) (at + blocks_for r.len) rs) ≡ length rs → length (made serial (n + 1) at rs) ≡ length rs
        → length (made serial n at (r ∷ rs)) ≡ length (r ∷ rs)
    by_copy (inl is) gets keeps = ap length (made_waits serial n at r rs is) ∙ ap suc gets
    by_copy (inr is) gets keeps = ap length (made_keeps serial n at r rs is) ∙ ap suc keeps

-- each record of the dump is made of the record at its place
pub made_of : (serial n from at to : ℕ) (rs : List FileRec) → from ≤ at → at + blocks_of (waiting rs) ≤ to
    → (i : ℕ) (d : FileRec) → i < length rs → IsMade serial from to (get_or rs i d) (get_or (made serial n at rs) i d)
made_of serial n from at to [] le fits i d within = let no : ⊥ = omega (arith, within) in absurd no
made_of serial n from at to (r ∷ rs) le fits i d within =
    by_copy (cases_Bool (waits r)) i within
    (λ more. made_of serial (n + 1) from (at + blocks_for r.len) to rs (omega (arith, le)) more)
    (λ more. made_of serial (n + 1) from at to rs le more)
  where
    by_copy : (waits r ≡ true) ⊎ (waits r ≡ false) → (i : ℕ) → i < length (r ∷ rs)
        → ((at + blocks_for r.len) + blocks_of (waiting rs) ≤ to → (j : ℕ) (e : FileRec) → j < length rs → IsMade serial from to (get_or rs j e) (get_or (made serial (n + 1) (at + blocks_for r.len) rs) j e))
        → (at + blocks_of (waiting rs) ≤ to → (j : ℕ) (e : FileRec) → j < length rs → IsMade serial from to (get_or rs j e) (get_or (made serial (n + 1) at rs) j e))
        → IsMade serial from to (get_or (r ∷ rs) i d) (get_or (made serial n at (r ∷ rs)) i d)
    by_copy (inl is) zero inside gets keeps =
        let sum = blocks_waits r rs is in
        subst (λ (ss : List FileRec). IsMade serial from to r (get_or ss 0 d)) (sym (made_waits serial n at r rs is))
        (as_made serial from to n r (Some (record { serial = serial; first = at })) (inl (record { waits = is; at = at; least = le; most = omega (arith, fits, sum); tape = refl })))
    by_copy (inl is) (suc j) inside gets keeps =
        let sum = blocks_waits r rs is in
        subst (λ (ss : List FileRec). IsMade serial from to (get_or rs j d) (get_or ss (suc j) d)) (sym (made_waits serial n at r rs is)) (gets (omega (arith, fits, sum)) j d (omega (arith, inside)))
    by_copy (inr is) zero inside gets keeps =
        subst (λ (ss : List FileRec). IsMade serial from to r (get_or ss 0 d)) (sym (made_keeps serial n at r rs is))
        (as_made serial from to n r r.tape (inr (record { waits = is; tape = refl })))
    by_copy (inr is) (suc j) inside gets keeps =
        let sum = blocks_keeps r rs is in
        subst (λ (ss : List FileRec). IsMade serial from to (get_or rs j d) (get_or ss (suc j) d)) (sym (made_keeps serial n at r rs is)) (keeps (omega (arith, fits, sum)) j d (omega (arith, inside)))

-- their copies follow each other
between_own : (serial from at to : ℕ) → from ≤ at → at < to → is_between serial from to (Some (record { serial = serial; first = at })) ≡ true
between_own serial from at to le below =
    and_from (serial == serial) (nat_le from at && nat_lt at to) (eq-eqb serial serial refl) (and_from (nat_le from at) (nat_lt at to) (le-leb from at le) (lt-ltb at to below))

pub has_bytes : (r : FileRec) → waits r ≡ true → 0 < r.len
has_bytes r is = ltb-true 0 r.len (and_parts (nat_lt 0 r.len) (is_none r.tape) is).0

abbrev pub is_own : ℕ → ℕ → ℕ → FileRec → Bool
is_own serial from to r = is_between serial from to r.tape

follow : (serial n from at to : ℕ) (rs : List FileRec) → from ≤ at → at + blocks_of (waiting rs) ≡ to → All (λ r. is_own serial from to r ≡ false) rs
    → FollowOn at to (filter (is_own serial from to) (made serial n at rs))
follow serial n from at to [] le ends away = let end : at ≡ to = omega (arith, ends) in end
follow serial n from at to (r ∷ rs) le ends away =
    by_copy (cases_Bool (waits r))
    (λ more. follow serial (n + 1) from (at + blocks_for r.len) to rs (omega (arith, le)) more (λ i d within. away (suc i) d (omega (arith, within))))
    (λ more. follow serial (n + 1) from at to rs le more (λ i d within. away (suc i) d (omega (arith, within))))
  where
    by_copy : (waits r ≡ true) ⊎ (waits r ≡ false)
        → ((at + blocks_for r.len) + blocks_of (waiting rs) ≡ to → FollowOn (at + blocks_for r.len) to (filter (is_own serial from to) (made serial (n + 1) (at + blocks_for r.len) rs)))
        → (at + blocks_of (waiting rs) ≡ to → FollowOn at to (filter (is_own serial from to) (made serial (n + 1) at rs)))
        → FollowOn at to (filter (is_own serial from to) (made serial n at (r ∷ rs)))
    by_copy (inl is) gets keeps =
        let some = has_bytes r is in
        let sum = blocks_waits r rs is in
        let s = with_number n (noted_rec serial at r) in
        let rest = made serial (n + 1) (at + blocks_for r.len) rs in
        let own : is_own serial from to s ≡ true = between_own serial from at to le (omega (arith, ends, sum)) in
        subst (λ (ss : List FileRec). FollowOn at to ss)
        (sym (ap (filter (is_own serial from to)) (made_waits serial n at r rs is) ∙ cond-true (is_own serial from to s) (s ∷ filter (is_own serial from to) rest) (filter (is_own serial from to) rest) own))
        (refl, gets (omega (arith, ends, sum)))
    by_copy (inr is) gets keeps =
        let sum = blocks_keeps r rs is in
        let s = with_number n r in
        let rest = made serial (n + 1) at rs in
        let away_r : is_own serial from to s ≡ false = away 0 r (omega arith) in
        subst (λ (ss : List FileRec). FollowOn at to ss)
        (sym (ap (filter (is_own serial from to)) (made_keeps serial n at r rs is) ∙ cond-false (is_own serial from to s) (s ∷ filter (is_own serial from to) rest) (filter (is_own serial from to) rest) away_r))
        (keeps (omega (arith, ends, sum)))

-- 128 blocks a file at most
pub blocks_most : (rs : List FileRec) → All IsFile rs → blocks_of (waiting rs) ≤ 128 * length rs
blocks_most [] all = omega arith
blocks_most (r ∷ rs) all = by_copy (cases_Bool (waits r)) (blocks_most rs (λ i d within. all (suc i) d (omega (arith, within))))
  where
    by_copy : (waits r ≡ true) ⊎ (waits r ≡ false) → blocks_of (waiting rs) ≤ 128 * length rs → blocks_of (waiting (r ∷ rs)) ≤ 128 * length (r ∷ rs)
    by_copy (inl is) rest = let long = (all 0 r (omega arith)).len in let sum = blocks_waits r rs is in omega (arith, rest)
    by_copy (inr is) rest = let sum = blocks_keeps r rs is in omega (arith, rest)

copy_there : (len : ℕ) (tape : Option TapeCopy) → (nat_lt 0 len && is_none tape) ≡ false → len ≢ 0 → is_some tape ≡ true
copy_there len (Some copy) is some = refl
copy_there len None is some = let no : ⊥ = both_ways (nat_lt 0 len && true) is (and_from (nat_lt 0 len) true (lt-ltb 0 len (omega (arith, some))) refl) in absurd no

-- ONE RECORD of a dump keeps what its record keeps
module _ (serial from to : ℕ) (r s : FileRec) (beside : IsMade serial from to r s) where
  len_is : s.len ≡ r.len
  len_is = ap (λ (x : FileRec). x.len) beside.same

  pub file_keeps : IsSerial serial → to < 2 ^ 32 → IsFile r → IsFile s
  file_keeps of_serial low is = subst IsFile (sym beside.same) (file_anew s.number r.stamp r.len s.tape r is is.stamp is.len (by_copy beside.copy))
    where
      by_copy : GetsCopy serial from to r s ⊎ KeepsCopy r s → IfSome s.tape IsCopy
      by_copy (inl gets) =
          let most = gets.most in
          subst (λ (t : Option TapeCopy). IfSome t IsCopy) (sym gets.tape) (record { serial = of_serial; first = omega (arith, low) })
      by_copy (inr keeps) = subst (λ (t : Option TapeCopy). IfSome t IsCopy) (sym keeps.tape) is.tape

  copied_keeps : s.len ≢ 0 → is_some s.tape ≡ true
  copied_keeps some = by_copy beside.copy
    where
      by_copy : GetsCopy serial from to r s ⊎ KeepsCopy r s → is_some s.tape ≡ true
      by_copy (inl gets) = ap is_some gets.tape
      by_copy (inr keeps) = ap is_some keeps.tape ∙ copy_there r.len r.tape keeps.waits (λ none. some (len_is ∙ none))

  empty_keeps : (r.len ≡ 0 → r.tape ≡ None) → s.len ≡ 0 → s.tape ≡ None
  empty_keeps was none = by_copy beside.copy
    where
      by_copy : GetsCopy serial from to r s ⊎ KeepsCopy r s → s.tape ≡ None
      by_copy (inl gets) = let some = has_bytes r gets.waits in let len = len_is in let no : ⊥ = omega (arith, none) in absurd no
      by_copy (inr keeps) = keeps.tape ∙ was (sym len_is ∙ none)

owner_before : (r s : FileRec) (m n : ℕ) → m ≡ r.owner → n ≡ s.owner → ComesBefore r s → m ≤ n
owner_before r s m n is_m is_n (inl below) = omega (arith, is_m, is_n, below)
owner_before r s m n is_m is_n (inr both) = let same = both.0 in omega (arith, is_m, is_n)

pub plan_gives_dump : PlanGivesDump
plan_gives_dump p content plan away long blocks =
    let c = first_content p in
    let to = c + content_blocks p in
    let files = made p.serial 0 c p.files in
    let count = length-made p.serial 0 c p.files in
    let most = blocks_most p.files plan.each_file in
    let few = plan.files.few in
    let users = plan.users.few in
    let place = plan.place in
    let low : to < 2 ^ 32 = omega arith in
    let is : (i : ℕ) (d : FileRec) → i < length files → IsMade p.serial c to (get_or p.files i d) (get_or files i d) =
    λ i d within. made_of p.serial 0 c c to p.files (omega arith) (omega arith) i d (omega (arith, within)) in
    let at : content_at (dump_of p content) ≡ c = ap (λ (n : ℕ). p.place + 1 + length p.users + n) count in
    record {
      number = plan.number;
      first = plan.first;
      last = plan.last;
      place = omega arith;
      count = omega (arith, long);
      users = plan.users;
      each_user = plan.each_user;
      held = plan.held;
      held_users = plan.held_users;
      numbered = λ i r there. let within = slice_get_within files i r there in ap (λ (s : FileRec). s.number) (sym (get_or_from_slice_get files i r r there)) ∙ number_at 0 (noted_files p.serial c p.files) i r within ∙ (let sum : 0 + i ≡ i = omega arith in sum);
      each_file = λ i d within. file_keeps p.serial c to (get_or p.files i d) (get_or files i d) (is i d within) plan.serial low (plan.each_file i d (omega (arith, within)));
      owners = λ i d within. ap (λ (s : FileRec). holds p.held s.owner) (is i d within).same ∙ plan.owners i d (omega (arith, within));
      in_order = λ i j d before within.
          owner_before (get_or p.files i d) (get_or p.files j d) (get_or files i d).owner (get_or files j d).owner
          (ap (λ (s : FileRec). s.owner) (is i d (omega (arith, before, within))).same) (ap (λ (s : FileRec). s.owner) (is j d within).same) (plan.in_order i j d before (omega (arith, within)));
      files = record {
        few = omega arith;
        owners = λ i d within. subst (λ (n : ℕ). n < length p.users) (sym (ap (λ (s : FileRec). s.owner) (is i d within).same)) (plan.files.owners i d (omega (arith, within)));
        trapped = λ i d within. subst (λ (t : TrapList). All (λ pair. pair.0 < length p.users) t.others) (sym (ap (λ (s : FileRec). s.traps) (is i d within).same)) (plan.files.trapped i d (omega (arith, within)));
        names = λ i j d before within name.
            let one = (is i d (omega (arith, before, within))).same in
            let two = (is j d within).same in
            plan.files.names i j d before (omega (arith, within)) (record {
              owner = sym (ap (λ (s : FileRec). s.owner) one) ∙ name.owner ∙ ap (λ (s : FileRec). s.owner) two;
              local = sym (ap (λ (s : FileRec). s.local) one) ∙ name.local ∙ ap (λ (s : FileRec). s.local) two;
              generation = sym (ap (λ (s : FileRec). s.generation) one) ∙ name.generation ∙ ap (λ (s : FileRec). s.generation) two;
              lang = sym (ap (λ (s : FileRec). s.lang) one) ∙ name.lang ∙ ap (λ (s : FileRec). s.lang) two;
            });
        stamps = λ i j d before within equal.
            plan.files.stamps i j d before (omega (arith, within)) (sym (ap (λ (s : FileRec). s.stamp) (is i d (omega (arith, before, within))).same) ∙ equal ∙ ap (λ (s : FileRec). s.stamp) (is j d within).same);
        dated = λ i d within. subst (λ (n : ℕ). 1 ≤ n) (sym (ap (λ (s : FileRec). s.stamp) (is i d within).same)) (plan.files.dated i d (omega (arith, within)));
        empty = λ i d within. empty_keeps p.serial c to (get_or p.files i d) (get_or files i d) (is i d within) (plan.files.empty i d (omega (arith, within)));
      };
      dated = λ i d within. subst (λ (n : ℕ). n < p.next) (sym (ap (λ (s : FileRec). s.stamp) (is i d within).same)) (plan.dated i d (omega (arith, within)));
      copied = λ i d within. copied_keeps p.serial c to (get_or p.files i d) (get_or files i d) (is i d within);
      content = blocks;
      follow =
          subst (λ (n : ℕ). FollowOn n (n + length content) (filter (is_own p.serial n (n + length content)) files)) (sym at)
          (subst (λ (m : ℕ). FollowOn c (c + m) (filter (is_own p.serial c (c + m)) files)) (sym long) (follow p.serial 0 c c to p.files (omega arith) refl away.each));
    }

-- A change that first takes files off the disc is two changes, one after the other.
-- serves: write_filestore (causes), BringStepLemmas, NeedLemmas, NewBytesLemmas, PutStepLemmas, UnjamLemmas, WrittenLemmas, crates above
use Rattle.std.proofs.Common.{◌≡◌, ◌⊎◌, ℕ, ◌+◌, ◌<◌, ◌≤◌, Bool, true, false, List, [], ◌∷◌, length, map, filter, Option, None, Result, Ok, Err, All, refl, sym, ◌∙◌, ap, subst, arith, inl, inr, if◌then◌else◌}
use Rattle.std.specs.Prelude.{IfErr, OnErr, is_some, nat_lt}
use Rattle.std.proofs.lemmas.Bool.{cond-true, lt-ltb}
use Rattle.std.proofs.lemmas.List.{get_or-map, length-map}
use Rattle.std.proofs.lemmas.List.Elements.{All-contains, Contains-append_right}
use Rattle.g_base.specs.Counts.{RoseBy}
use Rattle.g_base.proofs.CountLemmas.{RoseBy-then}
use Rattle.g_disc.proofs.CallLemmas.{Causes-then}
use Rattle.g_entry.specs.declared.file_rec.FileRec.{FileRec}
use Rattle.g_entry.specs.declared.head.Head.{Head}
use Rattle.g_entry.specs.declared.user_rec.UserRec.{UserRec}
use Rattle.g_entry.specs.FileFields.{IsFile}
use Rattle.g_disc_contents.specs.Commits.{Commits}
use Rattle.g_disc_contents.specs.Contents.{Contents, File, Holds, taken_off, with_file}
use Rattle.g_disc_contents.specs.Facts.{Layout, OnlineFacts}
use Rattle.g_online.specs.declared.change.Change.{Change}
use Rattle.g_online.specs.declared.change.Change.TheVariants.{PutFile, Unload}
use Rattle.g_online.specs.declared.fault.OnlineFault.{OnlineFault}
use Rattle.g_online.specs.declared.fault.OnlineFault.TheVariants.{DiscFull, NoMemory, Stopped}
use Rattle.g_online.specs.AllowedChanges.{AreUnjammable, IsAllowed, KeepsRules}
use Rattle.g_online.specs.Change.{changed, need_of, takes_memory, told_bytes, touches, unjammed, unjammed_by, with_all}
use Rattle.g_online.specs.Outcomes.{AfterStop, HasChanged, IsApplied, commits_of, room_for}
use Rattle.g_online.proofs.TieLemmas.{same_told_is}
use Rattle.g_tree.specs.Records.{IsRecords}

-- which answer it was
pub stopped_is : (e : OnlineFault) → (let r : Result (Unit {0}) OnlineFault = Err e in r ≡ Err Stopped) → e ≡ Stopped
stopped_is e is = cc

pub stops_of : (r : Result (Unit {0}) OnlineFault) → OnErr r (r ≡ Err Stopped) → IfErr r (λ e. e ≡ Stopped)
stops_of (Ok u) is = tt
stops_of (Err e) is = stopped_is e is

pub not_done : (e : OnlineFault) (u : Unit {0}) → (let r : Result (Unit {0}) OnlineFault = Err e in r ≡ Ok u) → ⊥
not_done e u is = cc

pub not_stopped : (u : Unit {0}) → (let r : Result (Unit {0}) OnlineFault = Ok u in r ≡ Err Stopped) → ⊥
not_stopped u is = cc

pub not_full : (e : OnlineFault) (k n : ℕ) → e ≡ Stopped → (let r : Result (Unit {0}) OnlineFault = Err e in r ≡ Err (DiscFull k n)) → ⊥
not_full e k n stopped is = cc

pub not_memory : (e : OnlineFault) → e ≡ Stopped → (let r : Result (Unit {0}) OnlineFault = Err e in r ≡ Err NoMemory) → ⊥
not_memory e stopped is = cc

-- no file is taken off
pub taken_none : (files : List File) → taken_off [] files ≡ files
taken_none [] = refl
taken_none (f ∷ files) = ap (λ (l : List File). f ∷ l) (taken_none files)

-- THE OUTER CHANGE takes these files off, and then does what the inner one does
pub record IsTwo (unjam : List ℕ) (inner outer : Change) : Type 0 where
  pub unjams : unjammed_by outer ≡ unjam
  pub none : unjammed_by inner ≡ []
  pub need : need_of outer ≡ need_of inner
  pub touch : (c d : Contents) → touches inner d ≡ touches outer c
  pub contents : (told other pinned : Bool) (c : Contents) → changed told pinned inner (changed other pinned (Unload unjam) c) ≡ changed told pinned outer c
  pub first : (told pinned : Bool) (c : Contents) → changed told pinned (Unload unjam) c ≡ unjammed pinned outer c

none_touched : (b : Bool) (t u : List ℕ) → u ≡ (if b then t else []) → (ns : List ℕ) → (if b then with_all ns u else []) ≡ (if b then with_all ns t else [])
none_touched true t u is ns = ap (with_all ns) is
none_touched false t u is ns = refl

sum_both : (k a b : ℕ) → (0 + a) + (k + b) ≡ k + (a + b)
sum_both k a b = omega arith

two_commits : (a b : ℕ) (x y z : Layout) → Commits 1 x y a → Commits 1 y z b → Commits 2 x z (a + b)
two_commits a b x y z first second =
    let sum : a + b ≡ first.1 + b = (let p = first.5 in let q = first.4.1 in omega (arith, p, q)) in
    (first.0, first.1, b, first.3, subst (λ (l : Layout). Commits 1 l z b) first.4.0 second, sum)

module _ (unjam : List ℕ) (inner outer : Change) (two : IsTwo unjam inner outer) (some : 0 < length unjam) where
  more : 0 < length (unjammed_by outer)
  more = subst (λ (ns : List ℕ). 0 < length ns) (sym two.unjams) some

  fewer : 0 < length (unjammed_by inner) → ⊥
  fewer less = (let none = ap (λ (ns : List ℕ). length ns) two.none in let no : ⊥ = omega (arith, less, none) in no)

  commits_two : commits_of outer ≡ 2
  commits_two = cond-true (nat_lt 0 (length (unjammed_by outer))) 2 1 (lt-ltb 0 (length (unjammed_by outer)) more)

  commits_one : commits_of inner ≡ 1
  commits_one = ap (λ (ns : List ℕ). if nat_lt 0 (length ns) then 2 else 1) two.none

  module _ (o p q : OnlineFacts) (first : HasChanged (Unload unjam) o p) (told : is_some p.disc.held ≡ is_some o.disc.held) where
    behind : (b : Bool) → changed b (is_some p.pins) inner p.contents ≡ changed b (is_some o.pins) outer o.contents
    behind b =
        let step : changed b (is_some p.pins) inner p.contents ≡ changed b (is_some o.pins) inner (changed (is_some o.disc.held) (is_some o.pins) (Unload unjam) o.contents) =
        λ i. changed b (is_some (first.pins i)) inner (first.contents i) in
        step ∙ two.contents b (is_some o.disc.held) (is_some o.pins) o.contents

    touch_same : (if is_some p.pins then with_all (touches inner p.contents) p.touched else []) ≡ (if is_some o.pins then with_all (touches outer o.contents) p.touched else [])
    touch_same = λ i. if is_some (first.pins i) then with_all (two.touch o.contents p.contents i) p.touched else []

    -- DONE
    pub two_changed : HasChanged inner p q → HasChanged outer o q
    two_changed second = record {
      live = second.live;
      contents = second.contents ∙ behind (is_some p.disc.held) ∙ ap (λ (b : Bool). changed b (is_some o.pins) outer o.contents) told;
      pins = second.pins ∙ first.pins;
      changed = second.changed ∙ (λ i. with_all (two.touch o.contents p.contents i) (first.changed i));
      touched = second.touched ∙ touch_same ∙ none_touched (is_some o.pins) o.touched p.touched first.touched (touches outer o.contents);
      blocks = first.blocks + second.blocks;
      commits = subst (λ (k : ℕ). Commits k o.layout q.layout (first.blocks + second.blocks)) (sym commits_two)
          (two_commits first.blocks second.blocks o.layout p.layout q.layout first.commits
          (subst (λ (k : ℕ). Commits k p.layout q.layout second.blocks) commits_one second.commits));
      writes = subst (λ (k : ℕ). RoseBy k o.disc.writes q.disc.writes) (sum_both (need_of inner) first.blocks second.blocks ∙ ap (λ (k : ℕ). k + (first.blocks + second.blocks)) (sym two.need))
          (RoseBy-then first.writes second.writes);
      durable = λ live. second.durable (first.durable live);
    }

    -- STOPPED in the second
    pub two_after : (blocks : List (List ℕ)) → AfterStop inner p blocks → AfterStop outer o blocks
    two_after blocks stop = by_case stop.one
      where
        by_case : Holds blocks p.contents ⊎ (((0 < length (unjammed_by inner)) × Holds blocks (unjammed (is_some p.pins) inner p.contents)) ⊎ Holds blocks (changed true (is_some p.pins) inner p.contents))
            → AfterStop outer o blocks
        by_case (inl held) = record { one = inr (inl (more, subst (Holds blocks) (first.contents ∙ two.first (is_some o.disc.held) (is_some o.pins) o.contents) held)) }
        by_case (inr (inl (less, held))) = absurd (fewer less)
        by_case (inr (inr held)) = record { one = inr (inr (subst (Holds blocks) (behind true) held)) }

  -- stopped in the first
  pub first_after : (o : OnlineFacts) (blocks : List (List ℕ)) → AfterStop (Unload unjam) o blocks → AfterStop outer o blocks
  first_after o blocks stop = by_case stop.one
    where
      by_case : Holds blocks o.contents ⊎ (((0 < length (unjammed_by (Unload unjam))) × Holds blocks (unjammed (is_some o.pins) (Unload unjam) o.contents)) ⊎ Holds blocks (changed true (is_some o.pins) (Unload unjam) o.contents))
          → AfterStop outer o blocks
      by_case (inl held) = record { one = inl held }
      by_case (inr (inl (less, held))) = (let no : ⊥ = omega (arith, less) in absurd no)
      by_case (inr (inr held)) = record { one = inr (inl (more, subst (Holds blocks) (two.first true (is_some o.pins) o.contents) held)) }

  -- BOTH
  pub two_applied : (o p q : OnlineFacts) {u : Unit {0}} (r : Result (Unit {0}) OnlineFault) → IsApplied (Unload unjam) o p (Ok u) → IsApplied inner p q r → IfErr r (λ e. e ≡ Stopped)
      → (room_for outer o < need_of outer → ⊥) → IsApplied outer o q r
  two_applied o p q {u} (Ok v) first second stops room = record {
    ok = two_changed o p q first.ok first.told second.ok;
    stopped = λ no. (let never : ⊥ = cc in absurd never);
    same = tt;
    full = (λ no. (let never : ⊥ = cc in absurd never), λ less. absurd (room less));
    memory = λ none no. (let never : ⊥ = cc in never);
    causes = Causes-then (λ no. no) (not_stopped u) first.causes second.causes;
    tied = second.tied;
    told = second.told ∙ first.told;
    only = tt;
  }
  two_applied o p q {u} (Err e) first second stops room = record {
    ok = tt;
    stopped = λ at. record {
      live = (second.stopped at).live;
      holds = λ blocks told. two_after o p q first.ok first.told blocks ((second.stopped at).holds blocks told);
      survives = λ live.
          let both = (second.stopped at).survives (first.ok.durable live) in (
            both.0,
            λ a told left may.
                let from = same_told_is o.disc.held p.disc.held a (sym first.told) told in
                two_after o p q first.ok first.told left (both.1 from.0 from.1 left may),
          );
    };
    same = λ other. absurd (other stops);
    full = (λ no. absurd (not_full e (need_of outer) (room_for outer o) stops no), λ less. absurd (room less));
    memory = λ none no. not_memory e stops no;
    causes = Causes-then (λ no. no) (not_stopped u) first.causes second.causes;
    tied = second.tied;
    told = second.told ∙ first.told;
    only = inl stops;
  }

  -- only the first
  pub first_applied : (o p : OnlineFacts) (e : OnlineFault) → IsApplied (Unload unjam) o p (Err e) → e ≡ Stopped → (room_for outer o < need_of outer → ⊥) → IsApplied outer o p (Err e)
  first_applied o p e first stops room = record {
    ok = tt;
    stopped = λ at. record {
      live = (first.stopped at).live;
      holds = λ blocks told. first_after o blocks ((first.stopped at).holds blocks told);
      survives = λ live. let both = (first.stopped at).survives live in (both.0, λ a told left may. first_after o left (both.1 a told left may));
    };
    same = λ other. absurd (other stops);
    full = (λ no. absurd (not_full e (need_of outer) (room_for outer o) stops no), λ less. absurd (room less));
    memory = λ none no. not_memory e stops no;
    causes = first.causes;
    tied = first.tied;
    told = first.told;
    only = inl stops;
  }

-- A NEW VERSION
abbrev put_contents : Bool → Head → List UserRec → FileRec → Option (List ℕ) → List File → Contents
put_contents true head users rec bytes files = record { head = record head { next_stamp = head.next_stamp + 1 }; users = users; files = with_file (record { rec = rec; online = true; bytes = bytes }) files }
put_contents false head users rec bytes files = record {
  head = record head { next_stamp = head.next_stamp + 1; intent = None };
  users = users;
  files = with_file (record { rec = rec; online = true; bytes = bytes }) files;
}

put_both : (told other pinned : Bool) (rec : FileRec) (bytes unjam : List ℕ) (c : Contents) → changed told pinned (PutFile rec bytes []) (changed other pinned (Unload unjam) c) ≡ changed told pinned (PutFile rec bytes unjam) c
unfolding changed
put_both told other true rec bytes unjam c = ap (put_contents true c.head c.users rec (told_bytes told bytes)) (taken_none (taken_off unjam c.files))
put_both told other false rec bytes unjam c = ap (put_contents false c.head c.users rec (told_bytes told bytes)) (taken_none (taken_off unjam c.files))

unload_first : (told pinned : Bool) (rec : FileRec) (bytes unjam : List ℕ) (c : Contents) → changed told pinned (Unload unjam) c ≡ unjammed pinned (PutFile rec bytes unjam) c
unfolding changed
unload_first told true rec bytes unjam c = refl
unload_first told false rec bytes unjam c = refl

pub put_two : (rec : FileRec) (bytes unjam : List ℕ) → IsTwo unjam (PutFile rec bytes []) (PutFile rec bytes unjam)
put_two rec bytes unjam = record {
  unjams = refl;
  none = refl;
  need = refl;
  touch = λ c d. refl;
  contents = λ told other pinned c. put_both told other pinned rec bytes unjam c;
  first = λ told pinned c. unload_first told pinned rec bytes unjam c;
}

-- THE RECORD of a new version satisfies the rules
pub record IsNew (rec : FileRec) (users : List UserRec) : Type 0 where
  pub file : IsFile rec
  pub number : rec.number < 1024
  pub owner : rec.owner < length users
  pub few : length users ≤ 63

each_rec : (P : FileRec → Type 0) (files : List File) → All P (map (λ (f : File). f.rec) files) → All (λ (f : File). P f.rec) files
each_rec P files all k d within =
    subst P (get_or-map (λ (f : File). f.rec) files k d d.rec within) (all k d.rec (omega (arith, within, length-map files (λ (f : File). f.rec))))

one_rec : (P : FileRec → Type 0) (f : File) (files : List File) → All P (map (λ (g : File). g.rec) (with_file f files)) → P f.rec
one_rec P f files all =
    All-contains (λ (g : File). P g.rec) (with_file f files) f (each_rec P (with_file f files) all)
    (Contains-append_right (filter (λ (g : File). nat_lt g.rec.number f.rec.number) files) (f ∷ filter (λ (g : File). nat_lt f.rec.number g.rec.number) files) f (0, omega arith, refl))

new_of : (f : File) (files : List File) (users : List UserRec) → IsRecords users (map (λ (g : File). g.rec) (with_file f files)) → IsNew f.rec users
new_of f files users records = record {
  file = one_rec IsFile f files records.each_file;
  number = one_rec (λ (r : FileRec). r.number < 1024) f files records.numbers.below;
  owner = one_rec (λ (r : FileRec). r.owner < length users) f files records.among_files.owners;
  few = records.among_users.few;
}

new_in : (told pinned : Bool) (rec : FileRec) (bytes unjam : List ℕ) (c : Contents) → KeepsRules (changed told pinned (PutFile rec bytes unjam) c) → IsNew rec c.users
unfolding changed
new_in told true rec bytes unjam c kept = new_of (record { rec = rec; online = true; bytes = told_bytes told bytes }) (taken_off unjam c.files) c.users kept.records
new_in told false rec bytes unjam c kept = new_of (record { rec = rec; online = true; bytes = told_bytes told bytes }) (taken_off unjam c.files) c.users kept.records

pub is_new : (rec : FileRec) (bytes unjam : List ℕ) (o : OnlineFacts) → IsAllowed (PutFile rec bytes unjam) o → IsNew rec o.contents.users
is_new rec bytes unjam o allowed = new_in (is_some o.disc.held) (is_some o.pins) rec bytes unjam o.contents allowed.rules

-- the rest is permitted too, after the files were taken off
stamp_still : (told pinned : Bool) (unjam : List ℕ) (c : Contents) → (changed told pinned (Unload unjam) c).head.next_stamp ≡ c.head.next_stamp
unfolding changed
stamp_still told true unjam c = refl
stamp_still told false unjam c = refl

pub none_unjammed : (files : List File) → AreUnjammable files []
none_unjammed files = record { each = λ k d within. (let no : ⊥ = omega (arith, within) in absurd no); once = λ i j d less within. (let no : ⊥ = omega (arith, within) in absurd no) }

pub allowed_behind : (rec : FileRec) (bytes unjam : List ℕ) (o p : OnlineFacts) → IsAllowed (PutFile rec bytes unjam) o → HasChanged (Unload unjam) o p → is_some p.disc.held ≡ is_some o.disc.held → IsAllowed (PutFile rec bytes []) p
allowed_behind rec bytes unjam o p allowed first told =
    let step : changed (is_some p.disc.held) (is_some p.pins) (PutFile rec bytes []) p.contents
    ≡ changed (is_some o.disc.held) (is_some o.pins) (PutFile rec bytes []) (changed (is_some o.disc.held) (is_some o.pins) (Unload unjam) o.contents) =
    λ i. changed (told i) (is_some (first.pins i)) (PutFile rec bytes []) (first.contents i) in
    record {
      live = first.live;
      fits = (
        allowed.fits.0 ∙ sym (stamp_still (is_some o.disc.held) (is_some o.pins) unjam o.contents) ∙ ap (λ (d : Contents). d.head.next_stamp) (sym first.contents),
        allowed.fits.1,
        allowed.fits.2,
        none_unjammed p.contents.files,
      );
      rules = subst KeepsRules
          (sym (step ∙ put_both (is_some o.disc.held) (is_some o.disc.held) (is_some o.pins) rec bytes unjam o.contents))
          allowed.rules;
    }

-- A CHANGE WITH NEW BYTES: the outer one takes these files off before it does what the inner one does
pub record IsNeeding (unjam : List ℕ) (inner outer : Change) : Type 0 where
  pub two : IsTwo unjam inner outer
  pub same : unjam ≡ [] → inner ≡ outer
  pub takes : takes_memory outer ≡ true
  pub fits : (o : OnlineFacts) → IsAllowed outer o → AreUnjammable o.contents.files unjam
  pub behind : (o p : OnlineFacts) → IsAllowed outer o → HasChanged (Unload unjam) o p → is_some p.disc.held ≡ is_some o.disc.held → IsAllowed inner p

pub put_needing : (rec : FileRec) (bytes unjam : List ℕ) → IsNeeding unjam (PutFile rec bytes []) (PutFile rec bytes unjam)
put_needing rec bytes unjam = record {
  two = put_two rec bytes unjam;
  same = λ none. ap (PutFile rec bytes) (sym none);
  takes = refl;
  fits = λ o allowed. allowed.fits.3;
  behind = λ o p allowed first told. allowed_behind rec bytes unjam o p allowed first told;
}

-- what was done before: nothing, or those files were taken off
abbrev pub Way : List ℕ → OnlineFacts → OnlineFacts → Type 0
Way unjam o p = ((unjam ≡ []) × (o ≡ p)) ⊎ ((0 < length unjam) × (u : Unit {0}) × IsApplied (Unload unjam) o p (Ok u))

-- THE WHOLE CHANGE
pub whole_applied : (unjam : List ℕ) (inner outer : Change) → IsNeeding unjam inner outer → (o p q : OnlineFacts) (r : Result (Unit {0}) OnlineFault) → Way unjam o p → IsApplied inner p q r → IfErr r (λ e. e ≡ Stopped)
    → (room_for outer o < need_of outer → ⊥) → IsApplied outer o q r
whole_applied unjam inner outer needing o p q r (inl (none, same)) second stops room =
    subst (λ (c : Change). IsApplied c o q r) (needing.same none) (subst (λ (f : OnlineFacts). IsApplied inner f q r) (sym same) second)
whole_applied unjam inner outer needing o p q r (inr (some, u, first)) second stops room = two_applied unjam inner outer needing.two some o p q r first second stops room

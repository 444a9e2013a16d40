-- States without the first blocks of copies on tape: no answer depends on these blocks.
-- serves: AlikeLemmas, OneTextLemmas, OpenAlikeLemmas, ProcessAlikeLemmas, WorldAlikeLemmas
use Rattle.std.proofs.Common.{◌≡◌, ◌⊎◌, ◌+◌, ◌-◌, ◌<◌, ◌≤◌, ◌&&◌, ◌||◌, ℕ, Bool, true, false, not, List, [], ◌∷◌, sum_by, Option, Some, None, option_map, is_some, is_none, unwrap_or, Result, Ok, Err, MatchOption, nat_lt, if◌then◌else◌, refl, sym, ◌∙◌, ap, subst, inl, inr}
use Rattle.std.specs.Ordering.{nat_cmp}
use Rattle.std.specs.FinMap.{FinMap, entries, get, insert, remove}
use Rattle.g_base.specs.Block.{blocks_for}
use Rattle.g_entry.specs.declared.file_rec.TapeCopy.{TapeCopy}
use Rattle.g_entry.specs.declared.head.Intent.{Intent}
use Rattle.g_name.specs.declared.full.Full.{Full}
use Rattle.g_plain.specs.PlainStep.{fault_of, first_fault, plain_tree, reply_to}
use Rattle.g_plain.specs.PlainTree.{FileRow, Tree, input_name, output_name}
use Rattle.g_plain.specs.declared.calls.StoreCall.{StoreCall}
use Rattle.g_plain.specs.declared.calls.StoreCall.TheVariants as call
use Rattle.g_plain.specs.declared.calls.StoreReply.{StoreReply}
use Rattle.g_plain.specs.declared.faults.StoreFault.{StoreFault}
use Rattle.g_plain.specs.declared.faults.StoreFault.TheVariants.{DiscFull, DiscReadFault, Stopped, TapeReadFault, WaitTape}
use Rattle.g_store_model.specs.CallStep.{CallStep, IsUnjam, LeftByRefusal, Plain, Planned, after_call, brings, brings_now, changes, commits, copy_serial, down, early, held_after, is_offline, kept_intent, len_of, need, new_blocks, no_longer_kept, place_of, places_after, reel_of, room_until, stamp_of, touched_by, version_read, with_version, writes}
use Rattle.g_store_model.specs.State.{Dumped as DumpedTree, Holding, OpenDump, Place, State, blocks_of, fresh, held_blocks, is_candidate, is_mounted, is_taken, online_blocks, only_if, place_at, room, taken_blocks, taken_offline, with_online, without_all}
use Rattle.g_run_model.proofs.MappedLemmas.{get-mapped, mapped, mapped-insert, mapped-mapped, mapped-remove}

abbrev pub bare_copy : TapeCopy → TapeCopy
bare_copy c = record c { first = 0 }

abbrev pub bare_place : Place → Place
bare_place p = record p { copy = option_map bare_copy p.copy }

abbrev pub bare_places : FinMap nat_cmp Place → FinMap nat_cmp Place
bare_places m = mapped (λ k p. bare_place p) m

abbrev pub bare_copies : FinMap nat_cmp TapeCopy → FinMap nat_cmp TapeCopy
bare_copies m = mapped (λ k c. bare_copy c) m

abbrev pub bare_holding : Holding → Holding
bare_holding k = record k { places = bare_places k.places }

abbrev pub bare_dumped : DumpedTree → DumpedTree
bare_dumped d = record d { places = bare_places d.places; own = bare_copies d.own }

abbrev pub bare_open : OpenDump → OpenDump
bare_open d = record d { places = bare_places d.places; own = bare_copies d.own }

-- A STATE without the first blocks of copies
abbrev pub bare_state : State → State
bare_state s = record s { holding = option_map bare_holding s.holding; dumped = option_map bare_dumped s.dumped; open_dump = option_map bare_open s.open_dump }

pub funext : {A B : Type 0} (f g : A → B) → ((x : A) → f x ≡ g x) → f ≡ g
funext f g same = λ i x. same x i

pub place_at_bare : (m : FinMap nat_cmp Place) (stamp : ℕ) → place_at (bare_places m) stamp ≡ bare_place (place_at m stamp)
place_at_bare m stamp = ap (λ (o : Option Place). unwrap_or o (record { online = true; copy = None })) (get-mapped (λ k p. bare_place p) m stamp) ∙ by (get m stamp)
  where
    by : (o : Option Place) → unwrap_or (option_map bare_place o) (record { online = true; copy = None }) ≡ bare_place (unwrap_or o (record { online = true; copy = None }))
    by None = refl
    by (Some p) = refl

pub some_bare : {A B : Type 0} (f : A → B) (o : Option A) → is_some (option_map f o) ≡ is_some o
some_bare f None = refl
some_bare f (Some x) = refl

pub none_bare : {A B : Type 0} (f : A → B) (o : Option A) → is_none (option_map f o) ≡ is_none o
none_bare f None = refl
none_bare f (Some x) = refl

candidate_bare : (p : Place) → is_candidate (bare_place p) ≡ is_candidate p
candidate_bare p = ap (λ (b : Bool). p.online && b) (some_bare bare_copy p.copy)

candidate_at_bare : (k : Holding) (stamp : ℕ) → is_candidate (place_at (bare_holding k).places stamp) ≡ is_candidate (place_at k.places stamp)
candidate_at_bare k stamp = ap is_candidate (place_at_bare k.places stamp) ∙ candidate_bare (place_at k.places stamp)

online_bare : (k : Holding) → online_blocks (bare_holding k) ≡ online_blocks k
online_bare k = ap (λ (f : Full × FileRow → ℕ). sum_by f (entries k.tree.files))
    (funext (λ (e : Full × FileRow). only_if (place_at (bare_holding k).places e.1.stamp).online (blocks_of e.1)) (λ (e : Full × FileRow). only_if (place_at k.places e.1.stamp).online (blocks_of e.1))
    (λ e. ap (λ (p : Place). only_if p.online (blocks_of e.1)) (place_at_bare k.places e.1.stamp)))

taken_bare : (k : Holding) (until stamp : ℕ) → is_taken (bare_holding k) until stamp ≡ is_taken k until stamp
taken_bare k until stamp = ap (λ (b : Bool). nat_lt stamp until && b) (candidate_at_bare k stamp)

taken_blocks_bare : (k : Holding) (until : ℕ) → taken_blocks (bare_holding k) until ≡ taken_blocks k until
taken_blocks_bare k until = ap (λ (f : Full × FileRow → ℕ). sum_by f (entries k.tree.files))
    (funext (λ (e : Full × FileRow). only_if (is_taken (bare_holding k) until e.1.stamp) (blocks_of e.1)) (λ (e : Full × FileRow). only_if (is_taken k until e.1.stamp) (blocks_of e.1))
    (λ e. ap (λ (b : Bool). only_if b (blocks_of e.1)) (taken_bare k until e.1.stamp)))

held_bare : (d : Option OpenDump) (tree : Tree) → held_blocks (option_map bare_open d) tree ≡ held_blocks d tree
held_bare None tree = refl
held_bare (Some d) tree = refl

room_bare : (s : State) (k : Holding) → room (bare_state s) (bare_holding k) ≡ room s k
room_bare s k = ap (λ (n : ℕ). s.size - 2177 - n - held_blocks (option_map bare_open s.open_dump) k.tree) (online_bare k) ∙ ap (λ (n : ℕ). s.size - 2177 - online_blocks k - n) (held_bare s.open_dump k.tree)

pub intent_bare : (d : Option OpenDump) (i : Option Intent) → kept_intent (option_map bare_open d) i ≡ kept_intent d i
intent_bare None i = refl
intent_bare (Some d) i = refl

kept_bare : (h : Option Holding) → option_map bare_holding (option_map no_longer_kept h) ≡ option_map no_longer_kept (option_map bare_holding h)
kept_bare None = refl
kept_bare (Some k) = refl

pub down_bare : (s : State) → bare_state (down s) ≡ down (bare_state s)
down_bare s = ap (λ (h : Option Holding). let t : State = record (bare_state s) { up = false; open_dump = None; holding = h } in t) (kept_bare s.holding)

pub commits_bare : (s : State) (k : Holding) → bare_state (commits s k) ≡ commits (bare_state s) (bare_holding k)
commits_bare s k = ap (λ (i : Option Intent). let t : State = record (bare_state s) { holding = Some (record (bare_holding k) { intent = i }) } in t) (sym (intent_bare s.open_dump k.intent))

offline_by : (b : Bool) (p : Place) → bare_place (if b then record p { online = false } else p) ≡ (if b then record (bare_place p) { online = false } else bare_place p)
offline_by true p = refl
offline_by false p = refl

offline_places_bare : (until : ℕ) (k : Holding) → bare_places (taken_offline until k).places ≡ (taken_offline until (bare_holding k)).places
offline_places_bare until k = mapped-mapped bare_place (λ stamp p. if nat_lt stamp until && is_candidate p then record p { online = false } else p) (λ stamp p. if nat_lt stamp until && is_candidate p then record p { online = false } else p)
    (λ stamp p. offline_by (nat_lt stamp until && is_candidate p) p
    ∙ sym (ap (λ (b : Bool). if nat_lt stamp until && b then record (bare_place p) { online = false } else bare_place p) (candidate_bare p))) k.places

pub with_online_bare : (is : Bool) (stamp : ℕ) (m : FinMap nat_cmp Place) → bare_places (with_online is stamp m) ≡ with_online is stamp (bare_places m)
with_online_bare is stamp m = mapped-insert bare_place m stamp (record (place_at m stamp) { online = is })
    ∙ ap (λ (p : Place). insert (bare_places m) stamp (record p { online = is })) (sym (place_at_bare m stamp))

version_bare : (tree : Tree) (full : Full) (m : FinMap nat_cmp Place) → bare_places (with_version tree full m) ≡ with_version tree full (bare_places m)
version_bare tree full m = mapped-insert bare_place (remove m (stamp_of tree full)) tree.next fresh ∙ ap (λ (x : FinMap nat_cmp Place). insert x tree.next fresh) (mapped-remove bare_place m (stamp_of tree full))

places_after_bare : (tree : Tree) (who : List ℕ) (asked : StoreCall) (m : FinMap nat_cmp Place) → bare_places (places_after tree who asked m) ≡ places_after tree who asked (bare_places m)
places_after_bare tree who (call.Put path bytes) m = version_bare tree (output_name tree who path) m
places_after_bare tree who (call.Append path bytes) m = version_bare tree (input_name tree who path) m
places_after_bare tree who (call.Erase path) m = mapped-remove bare_place m (stamp_of tree (input_name tree who path))
places_after_bare tree who (call.Fetch path mode) m = with_online_bare true (stamp_of tree (input_name tree who path)) m
places_after_bare tree who (call.Retrieve path) m = with_online_bare true (stamp_of tree (input_name tree who path)) m
places_after_bare tree who asked m = refl

-- A JOB'S CALL in which no device failed
module _ (s : State) (k : Holding) (who : List ℕ) (call : StoreCall) where
  place_of_bare : (f : Option Full) → place_of (bare_state s) (bare_holding k) who call f ≡ bare_place (place_of s k who call f)
  place_of_bare None = refl
  place_of_bare (Some full) = place_at_bare k.places (stamp_of k.tree full)

  offline_bare : is_offline (bare_state s) (bare_holding k) who call ≡ is_offline s k who call
  offline_bare = ap (λ (p : Place). not p.online) (place_of_bare (version_read k.tree who call))

  serial_bare : (c : Option TapeCopy) → copy_serial (bare_state s) (bare_holding k) who call (option_map bare_copy c) ≡ copy_serial s k who call c
  serial_bare None = refl
  serial_bare (Some c) = refl

  reel_bare : reel_of (bare_state s) (bare_holding k) who call ≡ reel_of s k who call
  reel_bare = ap (λ (p : Place). copy_serial (bare_state s) (bare_holding k) who call p.copy) (place_of_bare (version_read k.tree who call)) ∙ serial_bare (place_of s k who call (version_read k.tree who call)).copy

  brings_bare : brings_now (bare_state s) (bare_holding k) who call ≡ brings_now s k who call
  brings_bare = ap (λ (b : Bool). brings call && b) offline_bare

  len_bare : (f : Option Full) → len_of (bare_state s) (bare_holding k) who call f ≡ len_of s k who call f
  len_bare None = refl
  len_bare (Some full) = refl

  need_bare : need (bare_state s) (bare_holding k) who call ≡ need s k who call
  need_bare = ap (λ (b : Bool). if b then blocks_for (len_of (bare_state s) (bare_holding k) who call (version_read k.tree who call)) else new_blocks k.tree who call) brings_bare
      ∙ ap (λ (n : ℕ). if brings_now s k who call then blocks_for n else new_blocks k.tree who call) (len_bare (version_read k.tree who call))

  room_until_bare : (until : ℕ) → room_until (bare_state s) (bare_holding k) who call until ≡ room_until s k who call until
  room_until_bare until = ap (λ (n : ℕ). n + taken_blocks (bare_holding k) until) (room_bare s k) ∙ ap (λ (n : ℕ). room s k + n) (taken_blocks_bare k until)

  unjam_bare : (until : ℕ) → IsUnjam s k who call until → IsUnjam (bare_state s) (bare_holding k) who call until
  unjam_bare until plan = record { enough = enough plan.enough; least = least }
    where
      enough : ((need s k who call ≤ room_until s k who call until) ⊎ ((stamp : ℕ) → is_candidate (place_at k.places stamp) ≡ true → stamp < until))
          → ((need (bare_state s) (bare_holding k) who call ≤ room_until (bare_state s) (bare_holding k) who call until) ⊎ ((stamp : ℕ) → is_candidate (place_at (bare_holding k).places stamp) ≡ true → stamp < until))
      enough (inl le) = inl (subst (λ (n : ℕ). n ≤ room_until (bare_state s) (bare_holding k) who call until) (sym need_bare) (subst (λ (r : ℕ). need s k who call ≤ r) (sym (room_until_bare until)) le))
      enough (inr all) = inr (λ stamp is. all stamp (sym (candidate_at_bare k stamp) ∙ is))

      least : (lower : ℕ) → lower < until → room_until (bare_state s) (bare_holding k) who call lower < need (bare_state s) (bare_holding k) who call
      least lower below = subst (λ (n : ℕ). room_until (bare_state s) (bare_holding k) who call lower < n) (sym need_bare) (subst (λ (r : ℕ). r < need s k who call) (sym (room_until_bare lower)) (plan.least lower below))

  -- the state after a call, by its places, its intent and its open dump
  abbrev with_parts : FinMap nat_cmp Place → Option Intent → Option OpenDump → State
  with_parts m i d = record (bare_state s) {
    holding = Some (record k { tree = plain_tree k.tree who call; places = m; kept = without_all (changes k.tree who call) k.kept; intent = i });
    open_dump = d;
  }

  open_bare : (d : Option OpenDump) → option_map bare_open (option_map (touched_by s k who call) d) ≡ option_map (touched_by (bare_state s) (bare_holding k) who call) (option_map bare_open d)
  open_bare None = refl
  open_bare (Some d) = refl

  parts_bare : (until : ℕ) → with_parts (bare_places (places_after k.tree who call (taken_offline until k).places)) (kept_intent s.open_dump k.intent) (option_map bare_open (option_map (touched_by s k who call) s.open_dump))
      ≡ with_parts (places_after k.tree who call (taken_offline until (bare_holding k)).places) (kept_intent (option_map bare_open s.open_dump) k.intent) (option_map (touched_by (bare_state s) (bare_holding k) who call) (option_map bare_open s.open_dump))
  parts_bare until =
      ap (λ (m : FinMap nat_cmp Place). with_parts m (kept_intent s.open_dump k.intent) (option_map bare_open (option_map (touched_by s k who call) s.open_dump)))
      (places_after_bare k.tree who call (taken_offline until k).places ∙ ap (λ (m : FinMap nat_cmp Place). places_after k.tree who call m) (offline_places_bare until k))
      ∙ ap (λ (i : Option Intent). with_parts (places_after k.tree who call (taken_offline until (bare_holding k)).places) i (option_map bare_open (option_map (touched_by s k who call) s.open_dump))) (sym (intent_bare s.open_dump k.intent))
      ∙ ap (λ (d : Option OpenDump). with_parts (places_after k.tree who call (taken_offline until (bare_holding k)).places) (kept_intent (option_map bare_open s.open_dump) k.intent) d) (open_bare s.open_dump)

  abbrev bare_after : ℕ → State
  bare_after until = with_parts (places_after k.tree who call (taken_offline until (bare_holding k)).places) (kept_intent (option_map bare_open s.open_dump) k.intent) (option_map (touched_by (bare_state s) (bare_holding k) who call) (option_map bare_open s.open_dump))

  after_bare : (until : ℕ) → bare_state (after_call s k who call until) ≡ after_call (bare_state s) (bare_holding k) who call until
  after_bare until = by (writes call || brings_now s k who call) ∙ ap (λ (b : Bool). if writes call || b then bare_after until else bare_state s) (sym brings_bare)
    where
      by : (b : Bool) → bare_state (if b then record (commits s (held_after s k who call until)) { open_dump = option_map (touched_by s k who call) s.open_dump } else s) ≡ (if b then bare_after until else bare_state s)
      by true = parts_bare until
      by false = refl

  early_bare : early (bare_state s) (bare_holding k) who call Plain ≡ early s k who call Plain
  early_bare =
      ap (λ (b : Bool). first_fault ((is_some (fault_of k.tree who call), unwrap_or (fault_of k.tree who call) Stopped) ∷ (b && not (is_mounted s (reel_of (bare_state s) (bare_holding k) who call)), WaitTape (reel_of (bare_state s) (bare_holding k) who call)) ∷ (false, TapeReadFault) ∷ [])) offline_bare
      ∙ ap (λ (r : ℕ). first_fault ((is_some (fault_of k.tree who call), unwrap_or (fault_of k.tree who call) Stopped) ∷ (is_offline s k who call && not (is_mounted s r), WaitTape r) ∷ (false, TapeReadFault) ∷ [])) reel_bare

  abbrev late_by : ℕ → ℕ → Option StoreFault
  late_by n r = first_fault ((nat_lt r n, DiscFull n r) ∷ (false, DiscReadFault) ∷ (false, Stopped) ∷ [])

  late_bare : (until : ℕ) → late_by (need (bare_state s) (bare_holding k) who call) (room_until (bare_state s) (bare_holding k) who call until) ≡ late_by (need s k who call) (room_until s k who call until)
  late_bare until =
      ap (λ (n : ℕ). late_by n (room_until (bare_state s) (bare_holding k) who call until)) need_bare
      ∙ ap (λ (r : ℕ). late_by (need s k who call) r) (room_until_bare until)

  module _ (answer : Result StoreReply StoreFault) (new : State) where
    late_moved : (until n r : ℕ) (b : Bool)
        → MatchOption (first_fault ((b, DiscFull n r) ∷ (false, DiscReadFault) ∷ (false, Stopped) ∷ [])) ((answer ≡ Ok (reply_to k.tree who call)) × (new ≡ after_call s k who call until)) (λ fault. (answer ≡ Err fault) × LeftByRefusal s k who call Plain until fault new)
        → MatchOption (first_fault ((b, DiscFull n r) ∷ (false, DiscReadFault) ∷ (false, Stopped) ∷ [])) ((answer ≡ Ok (reply_to k.tree who call)) × (bare_state new ≡ after_call (bare_state s) (bare_holding k) who call until)) (λ fault. (answer ≡ Err fault) × LeftByRefusal (bare_state s) (bare_holding k) who call Plain until fault (bare_state new))
    late_moved until n r true (err, is) = (err, ap bare_state is)
    late_moved until n r false (ok, is) = (ok, ap bare_state is ∙ after_bare until)

    planned_bare : Planned s k who call Plain answer new → Planned (bare_state s) (bare_holding k) who call Plain answer (bare_state new)
    planned_bare plan = record {
      until = plan.until;
      unjam = unjam_bare plan.until plan.unjam;
      step = subst (λ (f : Option StoreFault). MatchOption f ((answer ≡ Ok (reply_to k.tree who call)) × (bare_state new ≡ after_call (bare_state s) (bare_holding k) who call plan.until)) (λ fault. (answer ≡ Err fault) × LeftByRefusal (bare_state s) (bare_holding k) who call Plain plan.until fault (bare_state new)))
          (sym (late_bare plan.until))
          (late_moved plan.until (need s k who call) (room_until s k who call plan.until) (nat_lt (room_until s k who call plan.until) (need s k who call)) plan.step);
    }

    early_moved : (f : Option StoreFault) → MatchOption f (Planned s k who call Plain answer new) (λ fault. (answer ≡ Err fault) × (new ≡ s))
        → MatchOption f (Planned (bare_state s) (bare_holding k) who call Plain answer (bare_state new)) (λ fault. (answer ≡ Err fault) × (bare_state new ≡ bare_state s))
    early_moved None plan = planned_bare plan
    early_moved (Some f) (err, is) = (err, ap bare_state is)

    pub call_bare : CallStep s k who call Plain answer new → CallStep (bare_state s) (bare_holding k) who call Plain answer (bare_state new)
    call_bare step = subst (λ (f : Option StoreFault). MatchOption f (Planned (bare_state s) (bare_holding k) who call Plain answer (bare_state new)) (λ fault. (answer ≡ Err fault) × (bare_state new ≡ bare_state s)))
        (sym early_bare) (early_moved (early s k who call Plain) step)

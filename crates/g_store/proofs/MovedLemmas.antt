-- What happens to completed dumps when all versions are consolidated on one reel.
-- serves: ProcessingLemmas
use Rattle.std.proofs.Common.{◌≡◌, ℕ, zero, suc, ◌<◌, ◌==◌, Bool, true, false, List, [], ◌∷◌, ◌++◌, map, Result, Ok, Err, refl, sym, ◌∙◌, ap, arith, subst, inl, inr, get_or}
use Rattle.std.specs.Prelude.{◌⊎◌, ◌&&◌, ◌||◌, All, Contains, if◌then◌else◌, is_some, nat_lt, not}
use Rattle.std.specs.List.{AllZip}
use Rattle.std.specs.Option.{ForSome}
use Rattle.std.proofs.lemmas.Bool.{cases_Bool, cond-false, cond-true, eq-eqb, eqb-true}
use Rattle.std.proofs.lemmas.List.{append-nil}
use Rattle.std.proofs.lemmas.List.Elements.{All-contains, Contains-get_or, Contains-push}
use Rattle.g_tape.specs.Reads.{unread}
use Rattle.g_tape.specs.Reel.{Reel}
use Rattle.g_tape.proofs.PlaceLemmas.{reel-found}
use Rattle.g_plain.specs.declared.faults.StoreFault.{StoreFault}
use Rattle.g_plain.specs.declared.faults.StoreFault.TheVariants.{DiscReadFault, Stopped, TapeReadFault}
use Rattle.g_disc_contents.specs.Contents.{has}
use Rattle.g_incr.specs.Layout.{Dump}
use Rattle.g_shelf.specs.CompletedDumps.{AreCompleted, AreShelved, all_dumps}
use Rattle.g_shelf.proofs.OneLemmas.{completed_are_one}
use Rattle.g_store_meaning.specs.Meaning.{told_reels}
use Rattle.g_store_meaning.specs.Reading.{AllTold}
use Rattle.g_store_meaning.specs.StoreInvariant.{IsUp, StoreFacts, with_dump}
use Rattle.g_laws_store.proofs.UpOneLemmas.{on_all}
use Rattle.g_laws_store.specs.Moving.{AreKept, DumpsMove, IsReplaced}
use Rattle.g_dumper.proofs.ShelfLemmas.{told_is}
use Rattle.g_process.specs.Exits.{Exits, MayFill, StopsBefore, StopsCopies, StopsIntent, StopsMark, StopsRelease, StopsUnmarked, cleared, new_dump}
use Rattle.g_laws_store.proofs.WaitingLemmas.{mapped_there, from_mapped}
use Rattle.g_store.proofs.ProcessedRowsLemmas.{IsLabelled, below_this}
use Rattle.g_store.proofs.ProcessedStepLemmas.{all_same, unread_names, zip_names}
use Rattle.g_store.proofs.ProcessedTreeLemmas.{held_all}

has_there : (ns : List ℕ) (n : ℕ) → has ns n ≡ true → Contains ns n
has_there [] n is = absurd (let no : ⊥ = cc in no)
has_there (m ∷ ms) n is = by_first (cases_Bool (m == n)) (has_there ms n)
  where
    by_first : ((m == n) ≡ true) ⊎ ((m == n) ≡ false) → (has ms n ≡ true → Contains ms n) → Contains (m ∷ ms) n
    by_first (inl same) rest = (0, omega arith, eqb-true m n same)
    by_first (inr other) rest =
        let (i, inside, at) = rest (ap (λ (b : Bool). b || has ms n) (sym other) ∙ is) in
        (suc i, omega (arith, inside), at)

there_has : (ns : List ℕ) (n : ℕ) → Contains ns n → has ns n ≡ true
there_has [] n (i, inside, at) = absurd (let no : ⊥ = omega (arith, inside) in no)
there_has (m ∷ ms) n (zero, inside, at) = ap (λ (b : Bool). b || has ms n) (eq-eqb m n at)
there_has (m ∷ ms) n (suc i, inside, at) = or_right (m == n) (has ms n) (there_has ms n (i, omega (arith, inside), at))
  where
    or_right : (a b : Bool) → b ≡ true → (a || b) ≡ true
    or_right true b is = refl
    or_right false b is = is

module _ (text : ℕ → List ℕ) (shelf : ℕ → List Dump) (old new : StoreFacts) (shelved_as : AreShelved shelf (told_reels old.rack)) (told : AllTold old.online.disc.held (told_reels old.rack)) (up : IsUp text shelf old)
    (labels : AllZip IsLabelled old.rack.reels new.rack.reels) where
  abbrev names : List ℕ
  names = map (λ (r : Reel). r.serial) (told_reels old.rack)

  abbrev Moves : (ℕ → List Dump) → ℕ → Type 0
  Moves next n = AreKept (shelf n) (next n) ⊎ IsReplaced next (told_reels new.rack) (shelf n)

  names_new : map (λ (r : Reel). r.serial) (told_reels new.rack) ≡ names
  names_new = unread_names new.rack.reels ∙ zip_names old.rack.reels new.rack.reels labels ∙ sym (unread_names old.rack.reels)

  -- a shelf of the rack has what this one has
  one_shelf : (sh : ℕ → List Dump) → AreShelved sh (told_reels old.rack) → (n : ℕ) → Contains names n → sh n ≡ shelf n
  one_shelf sh shelved_sh n there =
      let (r, in_rack, named) = from_mapped (λ (x : Reel). x.serial) (told_reels old.rack) n there in
      let (blocks, tells) = told_is r.blocks (All-contains (λ (q : Reel). is_some q.blocks ≡ true) (told_reels old.rack) r told.each.each in_rack) in
      subst (λ (m : ℕ). sh m ≡ shelf m) named (completed_are_one r.serial blocks (sh r.serial) (shelf r.serial) (shelved_sh.each r in_rack blocks tells) (shelved_as.each r in_rack blocks tells))

  moves : (next : ℕ → List Dump) → AreShelved next (told_reels new.rack) → ((n : ℕ) → Contains names n → Moves next n) → DumpsMove old.rack new.rack
  moves next shelved_new each = record {
    move = λ sh shelved_sh. (
      pick sh,
      record {
        each = λ q there.
            subst (λ (ds : List Dump). ForSome q.blocks (λ bs. AreCompleted q.serial bs ds)) (sym (picked sh q.serial (there_has names q.serial (in_names q there)))) (shelved_new.each q there);
      },
      λ n. by_name sh shelved_sh n (cases_Bool (has names n)),
    );
  }
    where
      pick : (ℕ → List Dump) → ℕ → List Dump
      pick sh n = if has names n then next n else sh n

      picked : (sh : ℕ → List Dump) (n : ℕ) → has names n ≡ true → pick sh n ≡ next n
      picked sh n is = cond-true (has names n) (next n) (sh n) is

      in_names : (q : Reel) → Contains (told_reels new.rack) q → Contains names q.serial
      in_names q there = subst (λ (ns : List ℕ). Contains ns q.serial) names_new (mapped_there (λ (x : Reel). x.serial) (told_reels new.rack) q there)

      by_moves : (sh : ℕ → List Dump) (n : ℕ) → sh n ≡ shelf n → pick sh n ≡ next n → Moves next n → AreKept (sh n) (pick sh n) ⊎ IsReplaced (pick sh) (told_reels new.rack) (sh n)
      by_moves sh n same is (inl (more, kept)) = inl (more, is ∙ kept ∙ ap (λ (ds : List Dump). ds ++ more) (sym same))
      by_moves sh n same is (inr replaced) = inr (record {
        whole = replaced.whole;
        there = subst (λ (ds : List Dump). Contains ds replaced.whole) (sym (all_same (pick sh) next (told_reels new.rack) (λ r there. picked sh r.serial (there_has names r.serial (in_names r there))))) replaced.there;
        held = replaced.held;
        newer = subst (All (λ (d : Dump). d.number < replaced.whole.number)) (sym same) replaced.newer;
      })

      by_name : (sh : ℕ → List Dump) → AreShelved sh (told_reels old.rack) → (n : ℕ) → (has names n ≡ true) ⊎ (has names n ≡ false) → AreKept (sh n) (pick sh n) ⊎ IsReplaced (pick sh) (told_reels new.rack) (sh n)
      by_name sh shelved_sh n (inl is) = let there = has_there names n is in by_moves sh n (one_shelf sh shelved_sh n there) (picked sh n is) (each n there)
      by_name sh shelved_sh n (inr isnt) = inl ([], cond-false (has names n) (next n) (sh n) isnt ∙ sym (append-nil (sh n)))

  -- NO DUMP MORE
  pub kept_moves : AreShelved shelf (told_reels new.rack) → DumpsMove old.rack new.rack
  kept_moves shelved_new = moves shelf shelved_new (λ n there. inl ([], sym (append-nil (shelf n))))

  -- ONE MORE, and reels released up to a serial
  module _ (serial : ℕ) (may : MayFill serial old) (content : List (List ℕ)) where
    abbrev made : Dump
    made = new_dump serial old.online content

    with_more : (n : ℕ) → AreKept (shelf n) (with_dump (new_dump serial old.online content) shelf n)
    with_more n = by_serial (cases_Bool (n == serial))
      where
        by_serial : ((n == serial) ≡ true) ⊎ ((n == serial) ≡ false) → AreKept (shelf n) (with_dump (new_dump serial old.online content) shelf n)
        by_serial (inl is) = (made ∷ [], cond-true (n == serial) (shelf n ++ made ∷ []) (shelf n) is)
        by_serial (inr isnt) = ([], cond-false (n == serial) (shelf n ++ made ∷ []) (shelf n) isnt ∙ sym (append-nil (shelf n)))

    pub made_moves : AreShelved (with_dump (new_dump serial old.online content) shelf) (told_reels new.rack) → DumpsMove old.rack new.rack
    made_moves shelved_new = moves (with_dump (new_dump serial old.online content) shelf) shelved_new (λ n there. inl (with_more n))

    pub released_moves : (until : ℕ) → AreShelved (cleared serial until (with_dump (new_dump serial old.online content) shelf)) (told_reels new.rack) → DumpsMove old.rack new.rack
    released_moves until shelved_new = moves next shelved_new (λ n there. by_test n there (cases_Bool (below n)))
      where
        below : ℕ → Bool
        below n = nat_lt n until && not (n == serial)

        next : ℕ → List Dump
        next = cleared serial until (with_dump (new_dump serial old.online content) shelf)

        -- the reel of the new dump
        there_made : Contains (all_dumps next (told_reels new.rack)) made
        there_made =
            let (in_old, named) = reel-found serial old.rack.reels may.on may.reel_is in
            let in_names : Contains (map (λ (r : Reel). r.serial) (told_reels new.rack)) serial =
            subst (λ (ns : List ℕ). Contains ns serial) (sym (names_new ∙ unread_names old.rack.reels)) (subst (Contains (map (λ (r : Reel). r.serial) old.rack.reels)) named (mapped_there (λ (x : Reel). x.serial) old.rack.reels may.on in_old)) in
            let (r, in_new, is_r) = from_mapped (λ (x : Reel). x.serial) (told_reels new.rack) serial in_names in
            on_all next (told_reels new.rack) r made in_new
            (subst (λ (n : ℕ). Contains (next n) made) (sym is_r)
            (subst (λ (ds : List Dump). Contains ds made)
            (sym (cond-false (below serial) [] (with_dump made shelf serial) (below_this serial until) ∙ cond-true (serial == serial) (shelf serial ++ made ∷ []) (shelf serial) (eq-eqb serial serial refl)))
            (Contains-push (shelf serial) made)))

        older : (n : ℕ) → Contains names n → All (λ (d : Dump). d.number < made.number) (shelf n)
        older n there i d within =
            let (r, in_rack, named) = from_mapped (λ (x : Reel). x.serial) (told_reels old.rack) n there in
            let x = get_or (shelf n) i d in
            let least = up.quiet x (on_all shelf (told_reels old.rack) r x in_rack (subst (λ (m : ℕ). Contains (shelf m) x) (sym named) (Contains-get_or (shelf n) i d within))) in
            omega (arith, least)

        by_test : (n : ℕ) → Contains names n → (below n ≡ true) ⊎ (below n ≡ false) → Moves next n
        by_test n there (inl is) = inr (record { whole = made; there = there_made; held = held_all serial old.online content; newer = older n there })
        by_test n there (inr isnt) =
            let (more, kept) = with_more n in
            inl (more, cond-false (below n) [] (with_dump made shelf n) isnt ∙ kept)

  -- WHEREVER IT ENDED
  as_was : map unread new.rack.reels ≡ map unread old.rack.reels → DumpsMove old.rack new.rack
  as_was same = kept_moves (subst (AreShelved shelf) (sym same) shelved_as)

  pub exit_moves : (serial : ℕ) (answer : Result ℕ StoreFault) → Exits text shelf serial old answer new → DumpsMove old.rack new.rack
  exit_moves serial (Ok number) (number_is, (is, uncut, all)) = released_moves serial is.may is.content is.until is.shelved
  exit_moves serial (Err Stopped) (StopsIntent may either same loss) = as_was same
  exit_moves serial (Err Stopped) (StopsBefore is durable loss) = kept_moves is.shelved
  exit_moves serial (Err Stopped) (StopsUnmarked is beside durable content its loss) = kept_moves is.shelved
  exit_moves serial (Err Stopped) (StopsMark is live contents durable loss) = made_moves serial is.may is.content is.shelved
  exit_moves serial (Err Stopped) (StopsCopies is either loss) = made_moves serial is.may is.content is.shelved
  exit_moves serial (Err Stopped) (StopsRelease is durable last interrupted loss) = released_moves serial is.may is.content is.until is.shelved
  exit_moves serial (Err DiscReadFault) is = kept_moves is.shelved
  exit_moves serial (Err TapeReadFault) (inl same) = as_was same.1
  exit_moves serial (Err TapeReadFault) (inr is) = kept_moves is.shelved
  exit_moves serial (Err fault) same = as_was same.1

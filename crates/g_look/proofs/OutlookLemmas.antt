-- What a restore would lack, by the dumps in memory and by the head that was read.
-- serves: is_reached (beyond), known_is_one, lacking, last_in (head), last_known (known)
use Rattle.std.proofs.Common.{◌≡◌, ◌≢◌, ◌⊎◌, inl, inr, ℕ, ◌<◌, ◌≤◌, List, length, get_or, Option, Some, None, sym, ◌∙◌, ap, arith, subst}
use Rattle.std.specs.Prelude.{Contains, slice_get}
use Rattle.std.specs.Option.{ForSome}
use Rattle.std.proofs.lemmas.Bool.{cases_eq}
use Rattle.g_entry.specs.declared.format.Format.{Format}
use Rattle.g_entry.specs.declared.format.Format.TheVariants.{One, Two}
use Rattle.g_entry.specs.declared.head.Head.{Head}
use Rattle.g_entry.specs.HeadFields.{IsHead, head_block}
use Rattle.g_entry.proofs.OneEncoding.{head_again}
use Rattle.g_slots.specs.declared.side.Side.{Side}
use Rattle.g_slots.specs.Layout.{GateNames, current, slot}
use Rattle.g_dirs.specs.Directory.{Directory}
use Rattle.g_dirs.specs.Image.{StandsFor, block_of}
use Rattle.g_incr.specs.Layout.{Dump}
use Rattle.g_restore.specs.declared.dumps.Found.{Found}
use Rattle.g_restore.specs.KnownDumps.{AreKnown, Known, known, known_of}
use Rattle.g_look.specs.Gaps.{IsMissing, NamesMissing}
use Rattle.g_look.specs.Outlooks.{HasHead, IsBeyond, IsLacking, IsReached, KnowsOf, KnownIsOne, NamesLacking}
use Rattle.g_look.proofs.PairLemmas.{le_cases}
use Rattle.g_look.proofs.RackLemmas.{dump_of, found_of}

-- THE DUMP THAT IS LACKING
module _ (found : List Found) (last : ℕ) (dumps : List Dump) (are : AreKnown found dumps) where
  number_of : (f : Found) (d : Dump) → known f ≡ known_of d → f.dir.note.number ≡ d.number
  number_of f d same = ap (λ (k : Known). k.note.number) same

  -- a dump that the disc knows of is newer than all others
  pub lacks_last : IsBeyond found last → NamesLacking dumps last (Some last)
  lacks_last (positive, most) = (
    record {
      number = positive;
      gone = λ d in_d same. let under = below d in_d in let no : ⊥ = omega (arith, under, same) in no;
      known = inl (omega arith);
      needed = λ d in_d above all. let under = below d in_d in let no : ⊥ = omega (arith, under, above) in no;
    },
    λ m lacking. at_most m lacking.known,
  )
    where
      below : (d : Dump) → Contains dumps d → d.number < last
      below d in_d =
          let f = found_of found dumps are d in_d in
          let under = most f.one f.there in
          let same = number_of f.one d f.same in
          omega (arith, under, same)

      at_most : (m : ℕ) → (m ≤ last) ⊎ ((d : Dump) × Contains dumps d × (m < d.number)) → m ≤ last
      at_most m (inl low) = low
      at_most m (inr (d, in_d, less)) = let under = below d in_d in omega (arith, under, less)

  -- the disc knows of no newer dump than the rack has, so what is lacking is missing between the rack's dumps
  pub lacks_missing : IsReached found last → (missing : Option ℕ) → NamesMissing dumps missing → NamesLacking dumps last missing
  lacks_missing reached = by_missing
    where
      is_lacking : (n : ℕ) → IsMissing dumps n → IsLacking dumps last n
      is_lacking n is = record { number = is.number; gone = is.gone; known = inr is.later; needed = is.needed }

      later : (n : ℕ) → IsLacking dumps last n → n ≤ last → IsReached found last → (d : Dump) × Contains dumps d × (n < d.number)
      later n is low (inl zero_is) = let positive = is.number in absurd (let no : ⊥ = omega (arith, positive, low, zero_is) in no)
      later n is low (inr (f, in_f, high)) =
          let d = dump_of found dumps are f in_f in
          let same = number_of f d.dump d.same in
          (d.dump, d.there, less d.dump (is.gone d.dump d.there) (le_cases n d.dump.number (omega (arith, low, high, same))))
        where
          less : (d : Dump) → d.number ≢ n → (n < d.number) ⊎ (n ≡ d.number) → n < d.number
          less d other (inl before) = before
          less d other (inr same) = absurd (other (sym same))

      is_missing : (n : ℕ) → IsLacking dumps last n → IsMissing dumps n
      is_missing n is = record { number = is.number; gone = is.gone; later = by_known is.known; needed = is.needed }
        where
          by_known : (n ≤ last) ⊎ ((d : Dump) × Contains dumps d × (n < d.number)) → (d : Dump) × Contains dumps d × (n < d.number)
          by_known (inl low) = later n is low reached
          by_known (inr there) = there

      by_missing : (missing : Option ℕ) → NamesMissing dumps missing → NamesLacking dumps last missing
      by_missing None none = λ n lacking. none n (is_missing n lacking)
      by_missing (Some n) (is, greatest) = (is_lacking n is, λ m lacking. greatest m (is_missing m lacking))

-- none of the dumps in memory has the number or a greater one
pub is_beyond : (found : List Found) (last i : ℕ) → length found ≤ i → 0 < last → ((k : ℕ) (d : Found) → k < i → (get_or found k d).dir.note.number < last) → IsBeyond found last
is_beyond found last i all positive below = (positive, λ f (k, inside, at). subst (λ (x : Found). x.dir.note.number < last) at (below k f (omega (arith, all, inside))))

-- THE HEAD THAT WAS READ
pub knows_by_head : (held held_1 : Option (List (List ℕ))) (block : List ℕ) (side : Side) (last : ℕ) → held_1 ≡ held → GateNames side held → ForSome held_1 (λ blocks. slice_get (slot side blocks) 0 ≡ Some block)
    → ((format : Format) (h : Head) → IsHead h → block ≡ head_block format h → last ≡ h.last_dump)
    → (((format : Format) (h : Head) → IsHead h → block ≡ head_block format h → ⊥) → last ≡ 0) → ForSome held (λ blocks. KnowsOf blocks last)
knows_by_head held held_1 block side last same_held gate read by_head by_none blocks told = record {
  head = λ h has. by_head has.format h has.valid (here (head_block has.format h) has.block);
  none = λ no. by_none (λ format h valid same. no h (record { format = format; valid = valid; block = at ∙ ap Some same }));
}
  where
    at : slice_get (current blocks) 0 ≡ Some block
    at = ap (λ (s : Side). slice_get (slot s blocks) 0) (gate blocks told) ∙ read blocks (same_held ∙ told)

    here : (other : List ℕ) → slice_get (current blocks) 0 ≡ Some other → block ≡ other
    here other is = let both : Some block ≡ Some other = sym at ∙ is in cc

-- of both formats at most one has the block
pub last_two : (block : List ℕ) (i : Head) → IsHead i → block ≡ head_block Two i → (format : Format) (h : Head) → IsHead h → block ≡ head_block format h → i.last_dump ≡ h.last_dump
last_two block i valid_i at_i format h valid_h at_h = ap (λ (x : Head). x.last_dump) (head_again Two format i h valid_i valid_h (sym at_i ∙ at_h)).1

pub last_one : (block : List ℕ) (i : Head) → IsHead i → block ≡ head_block One i → (format : Format) (h : Head) → IsHead h → block ≡ head_block format h → i.last_dump ≡ h.last_dump
last_one block i valid_i at_i format h valid_h at_h = ap (λ (x : Head). x.last_dump) (head_again One format i h valid_i valid_h (sym at_i ∙ at_h)).1

pub no_head : (block : List ℕ) → ((h : Head) → IsHead h → block ≡ head_block Two h → ⊥) → ((h : Head) → IsHead h → block ≡ head_block One h → ⊥) → (format : Format) (h : Head) → IsHead h
    → block ≡ head_block format h → 0 ≡ h.last_dump
no_head block not_two not_one Two h valid at = absurd (not_two h valid at)
no_head block not_two not_one One h valid at = absurd (not_one h valid at)

-- EXACTLY ONE DUMP IS THE LAST ONE that a disc knows of
module _ (blocks : List (List ℕ)) where
  head_of : (d : Directory) → StandsFor blocks d → HasHead blocks d.head
  unfolding block_of
  head_of d stands = record { format = stands.format; valid = stands.records.head; block = stands.image.block 0 (omega arith) }

pub known_is_one : KnownIsOne
known_is_one blocks last knows = (λ other others. one other others (cases_eq other last), λ d stands. knows.head d.head (head_of blocks d stands))
  where
    one : (other : ℕ) → KnowsOf blocks other → (other ≡ last) ⊎ (other ≡ last → ⊥) → other ≡ last
    one other others (inl same) = same
    one other others (inr differ) =
        let no : (h : Head) → HasHead blocks h → ⊥ = λ h has. differ (others.head h has ∙ sym (knows.head h has)) in
        others.none no ∙ sym (knows.none no)

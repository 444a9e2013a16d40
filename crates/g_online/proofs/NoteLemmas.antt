-- One more user whose directory has changed.
-- serves: EraseLemmas, FileLemmas, PutLemmas, PutStepLemmas, UserLemmas
use Rattle.std.proofs.Common.{◌≡◌, ◌⊎◌, ℕ, ◌<◌, ◌≤◌, true, List, [], Option, Some, None, refl, arith, inl, inr, if◌then◌else◌}
use Rattle.std.specs.Prelude.{All, is_some}
use Rattle.std.proofs.lemmas.List.Elements.{All-append, All-cons, All-filter, All-weaker}
use Rattle.g_entry.specs.declared.file_rec.FileRec.{FileRec}
use Rattle.g_dirs.specs.Directory.{FileEntry}
use Rattle.g_disc_contents.specs.Contents.{has, with_number}
use Rattle.g_disc_contents.specs.Facts.{AreNumbers}
use Rattle.g_online.specs.declared.pinned.Pinned.{Pinned}
use Rattle.g_online.specs.Invariant.{AreNoted, PinsAre, WaitsFor, WaitsPinned, has_stamp, pins_of}
use Rattle.g_online.proofs.NumberLemmas.{has_more, has_with, numbers_with}

-- which users are touched then
abbrev pub touched_with : Option (List Pinned) → ℕ → List ℕ → List ℕ
touched_with pins n touched = if is_some pins then with_number n touched else touched

pub touched_then : (held : Option (List (List ℕ))) (size next n : ℕ) (files : List FileEntry) (touched : List ℕ) (pins : Option (List Pinned)) → PinsAre pins size next files touched
    → touched_with pins n touched ≡ (if is_some (pins_of held pins) then with_number n touched else [])
touched_then held size next n files touched None are = are
touched_then held size next n files touched (Some pins) are = refl

waits_more : (n : ℕ) (changed : List ℕ) (r : FileRec) → WaitsFor changed r → WaitsFor (with_number n changed) r
waits_more n changed r waits = λ filled none. has_more n changed r.owner (waits filled none)

waits_pinned : (n : ℕ) (touched : List ℕ) (pins : List Pinned) (f : FileEntry) → WaitsPinned pins touched f → WaitsPinned pins (with_number n touched) f
waits_pinned n touched pins f waits = λ filled none. still (waits filled none)
  where
    still : (has_stamp pins f.0.stamp ≡ true) ⊎ (has touched f.0.owner ≡ true) → (has_stamp pins f.0.stamp ≡ true) ⊎ (has (with_number n touched) f.0.owner ≡ true)
    still (inl pinned) = inl pinned
    still (inr touched_is) = inr (has_more n touched f.0.owner touched_is)

pub pins_then : (size next n : ℕ) (files : List FileEntry) (touched : List ℕ) (pins : Option (List Pinned)) → PinsAre pins size next files touched → PinsAre pins size next files (touched_with pins n touched)
pins_then size next n files touched None are = are
pins_then size next n files touched (Some pins) are = record {
  each = are.each;
  apart = are.apart;
  waits = All-weaker (WaitsPinned pins touched) (WaitsPinned pins (with_number n touched)) (waits_pinned n touched pins) files are.waits;
}

numbers_up : (u v : ℕ) (xs : List ℕ) → u ≤ v → AreNumbers u xs → AreNumbers v xs
numbers_up u v xs le are = record { rising = are.rising; there = All-weaker (λ n. n < u) (λ n. n < v) (λ n less. omega arith) xs are.there }

still_changed : (n : ℕ) (changed touched : List ℕ) → All (λ k. has changed k ≡ true) touched → All (λ k. has (with_number n changed) k ≡ true) touched
still_changed n changed touched all = All-weaker (λ k. has changed k ≡ true) (λ k. has (with_number n changed) k ≡ true) (λ k is. has_more n changed k is) touched all

both_changed : (n : ℕ) (changed touched : List ℕ) → All (λ k. has changed k ≡ true) touched → All (λ k. has (with_number n changed) k ≡ true) (with_number n touched)
both_changed n changed touched all =
    let still = still_changed n changed touched all in
    All-append (λ k. has (with_number n changed) k ≡ true) _ _ (All-filter _ (λ k. has (with_number n changed) k ≡ true) touched still)
    (All-cons (λ k. has (with_number n changed) k ≡ true) n _ (has_with n changed) (All-filter _ (λ k. has (with_number n changed) k ≡ true) touched still))

pub noted_then : (u v n : ℕ) (files : List FileEntry) (changed touched : List ℕ) (pins : Option (List Pinned)) → n < v → u ≤ v → AreNoted u files changed touched
    → AreNoted v files (with_number n changed) (touched_with pins n touched)
noted_then u v n files changed touched None less le noted = record {
  changed_are = numbers_with v n changed less (numbers_up u v changed le noted.changed_are);
  touched_are = numbers_up u v touched le noted.touched_are;
  touched_changed = still_changed n changed touched noted.touched_changed;
  waits = All-weaker (λ (f : FileEntry). WaitsFor changed f.0) (λ (f : FileEntry). WaitsFor (with_number n changed) f.0) (λ f. waits_more n changed f.0) files noted.waits;
}
noted_then u v n files changed touched (Some pins) less le noted = record {
  changed_are = numbers_with v n changed less (numbers_up u v changed le noted.changed_are);
  touched_are = numbers_with v n touched less (numbers_up u v touched le noted.touched_are);
  touched_changed = both_changed n changed touched noted.touched_changed;
  waits = All-weaker (λ (f : FileEntry). WaitsFor changed f.0) (λ (f : FileEntry). WaitsFor (with_number n changed) f.0) (λ f. waits_more n changed f.0) files noted.waits;
}

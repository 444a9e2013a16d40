-- What calls do to a file whose bytes aren't observable: it lists nothing that a power loss may leave.
-- serves: crates above
use Rattle.std.proofs.Common.{ℕ, List, Result, Ok, Err, OnOk, None, refl, arith, inl}
use Rattle.std.specs.Prelude.{Option}
use Rattle.std.specs.Option.{ForSome}
use Rattle.std.proofs.lemmas.Option.{none-some}
use Rattle.g_files.specs.Durability.{AreSectorsSynced, SetsLength, SyncsDurability, WritesDurability, all_durable}
use Rattle.g_files.specs.Sectors.{LeavesSectors}

none_left : (left : List (List ℕ)) → LeavesSectors all_durable.remnants left → ⊥
none_left left (m, (k, below, at), is) = absurd (omega (arith, below))

pub unseen_writes : {T E : Type 0} (at : ℕ) (from : List ℕ) (content : Option (List ℕ)) (r : Result T E) → WritesDurability at from content all_durable all_durable r
unseen_writes at from content (Ok v) = record {
  apart = λ j out was. refl;
  syncable_apart = λ j out was. refl;
  unchanged = λ there j was. refl;
  kept = λ j was. refl;
  sound = λ was j is. refl;
  sectors = λ left leaves. absurd (none_left left leaves);
  no_other = λ there left leaves. leaves;
  sized = λ was. refl;
}
unseen_writes at from content (Err e) = record {
  apart = λ j out was. refl;
  syncable_apart = λ j out was. refl;
  unchanged = λ there j was. refl;
  kept = tt;
  sound = λ was j is. refl;
  sectors = λ left leaves. absurd (none_left left leaves);
  no_other = λ there left leaves. leaves;
  sized = tt;
}

pub unseen_sets : {T E : Type 0} (n : ℕ) (before after : Option (List ℕ)) (r : Result T E) → SetsLength n before after all_durable all_durable r
unseen_sets n before after (Ok v) = record {
  durable = λ j below was. refl;
  syncable = λ j below was. refl;
  sound = λ was j is. refl;
  sectors = λ left leaves. inl leaves;
  no_other = λ was at is at' s has has' left leaves. leaves;
  sized = refl;
}
unseen_sets n before after (Err e) = record {
  durable = λ j below was. refl;
  syncable = λ j below was. refl;
  sound = λ was j is. refl;
  sectors = λ left leaves. inl leaves;
  no_other = λ was at is at' s has has' left leaves. leaves;
  sized = tt;
}

pub unseen_syncs : {T E : Type 0} (r : Result T E) → SyncsDurability all_durable all_durable r
unseen_syncs (Ok v) = record { durable = λ j was. was; kept = λ j was. was; synced = λ j is. refl; sound = λ was. was; no_other = λ left leaves. leaves; sized = λ was. was }
unseen_syncs (Err e) = record { durable = λ j was. was; kept = tt; synced = tt; sound = λ was. was; no_other = λ left leaves. leaves; sized = tt }

pub unseen_synced : {T E : Type 0} (r : Result T E) → OnOk r (ForSome None (λ bytes. AreSectorsSynced bytes all_durable all_durable))
unseen_synced (Ok v) = λ bytes at. absurd (none-some bytes at)
unseen_synced (Err e) = tt

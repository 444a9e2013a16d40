-- Blocks that a power loss leaves unchanged, and calls that write only some blocks.
-- serves: durable_discs_stay, crates above
use Rattle.std.proofs.Common.{◌≡◌, ℕ, List, Option, Ok, Err, get_or, sym, ◌∙◌, ap, subst, slice_get}
use Rattle.std.specs.Prelude.{Result, not, nat_eq, true, unwrap_or}
use Rattle.std.specs.List.{list_any}
use Rattle.std.proofs.lemmas.List.{same_lists}
use Rattle.std.proofs.lemmas.Option.{unwrap_or-slice_get}
use Rattle.g_disc.specs.Disc.{DiscState, Writes, is_durable, is_syncable}
use Rattle.g_disc.specs.Durable.{AllDurableIsUnchanged, DirtiesOnly}

-- the same block at one place, read with a default
pub get_or-same : (b c : List (List ℕ)) (k : ℕ) (d : List ℕ) → slice_get c k ≡ slice_get b k → get_or c k d ≡ get_or b k d
get_or-same b c k d same = sym (unwrap_or-slice_get c k d) ∙ ap (λ (o : Option (List ℕ)). unwrap_or o d) same ∙ unwrap_or-slice_get b k d

pub all_durable_is_unchanged : AllDurableIsUnchanged
all_durable_is_unchanged d blocks left long held none may =
    same_lists left blocks (may.size ∙ sym long)
    (λ k z within. get_or-same blocks left k z (may.durable k (ap (λ (ks : List ℕ). not (list_any (nat_eq k) ks)) none) blocks held))

-- one write of a block
pub DirtiesOnly-Writes : {T E : Type 0} (result : Result T E) (k : ℕ) (from : List ℕ) (x y : DiscState) → Writes k from x y result → DirtiesOnly (λ j. j ≡ k) x y result
DirtiesOnly-Writes (Ok t) k from x y write = record {
  durable = write.durable;
  syncable = write.syncable;
  here = λ j is. subst (λ (i : ℕ). is_syncable y i ≡ true) (sym is) write.here;
}
DirtiesOnly-Writes (Err e) k from x y write = record { durable = write.durable; syncable = tt; here = tt }

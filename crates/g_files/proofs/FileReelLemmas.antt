-- A reel in a file, by the blocks of the file that count.
-- serves: mount, push_reel (rack), read (block), secure, state (reel), unmount, write
use Rattle.std.proofs.Common.{◌≡◌, ℕ, ◌*◌, ◌<◌, ◌≤◌, List, length, Result, Ok, Err, OnOk, OnErr, Some, None, refl, sym, ap, subst, ◌∙◌, arith}
use Rattle.std.specs.Prelude.{All, Option, option_map, slice_get}
use Rattle.std.specs.Option.{ForSome}
use Rattle.std.proofs.lemmas.Option.{none-some, same_Some}
use Rattle.g_base.specs.Block.{IsBlock}
use Rattle.g_files.specs.BlockFile.{Blocks, ended, left_of}
use Rattle.g_files.specs.Bytes.{AreBytes, blocks_of, part}
use Rattle.g_files.specs.FileReel.{reel_of}
use Rattle.g_files.specs.declared.file_reel.FileReel.{FileReel}
use Rattle.g_files.specs.declared.raw.RawFile.{Ghosts}
use Rattle.g_files.proofs.BlockLemmas.{get-blocks_of, get_or-blocks_of, length-blocks_of}
use Rattle.g_files.proofs.BytesLemmas.{AreBytes-part, length-part}
use Rattle.g_tape.specs.Reel.{IsReel, Reel, Remains, Shortened, Torn, Unchanged, ending, left_by}

-- a reel with these blocks
abbrev pub with_blocks : Reel → Blocks → Reel
with_blocks r b = record { serial = r.serial; capacity = r.capacity; len = b.len; mounted = r.mounted; blocks = b.held; times_read = None }

-- the first blocks of a file of bytes that has them
are_first : (n : ℕ) (x : Option (List ℕ)) → ForSome x (λ b. 512 * n ≤ length b) → ForSome x AreBytes
    → ForSome (option_map (blocks_of n) x) (λ blocks. (length blocks ≡ n) × All IsBlock blocks)
are_first n None long bytes blocks is = absurd (none-some blocks is)
are_first n (Some b) long bytes blocks is =
    subst (λ (bs : List (List ℕ)). (length bs ≡ n) × All IsBlock bs) (same_Some (blocks_of n b) blocks is) (
      length-blocks_of n b,
      λ k d h.
          let below : k < n = omega (arith, h, length-blocks_of n b) in
          let within = long b refl in
          subst IsBlock (sym (get_or-blocks_of n k b d below)) (record {
            size = length-part (512 * k) 512 b (omega (arith, below, within));
            bytes = AreBytes-part (512 * k) 512 b (bytes b refl);
          }),
    )

-- a reel in a file is one
pub is_reel : {F : Type 0} {g : Ghosts F} (r : FileReel F g) → IsReel (reel_of r)
is_reel {F} {g} r =
    let first = are_first r.blocks.len (g.content r.blocks.file) r.blocks.long r.blocks.bytes in
    record {
      numbered = r.label.numbered;
      numbered_most = r.label.numbered_most;
      sized = r.label.sized;
      sized_most = r.label.sized_most;
      within = r.within;
      told = λ bs is. (first bs is).0;
      whole = λ bs is. (first bs is).1;
      counted = λ ts is. absurd (none-some ts is);
    }

pub block_read : (n k : ℕ) (into : List ℕ) (x : Option (List ℕ)) → k < n → ForSome x (λ b. into ≡ part (512 * k) 512 b)
    → ForSome (option_map (blocks_of n) x) (λ blocks. slice_get blocks k ≡ Some into)
block_read n k into None below is blocks some = absurd (none-some blocks some)
block_read n k into (Some b) below is blocks some =
    subst (λ bs. slice_get bs k ≡ Some into) (same_Some (blocks_of n b) blocks some) (get-blocks_of n k b below ∙ ap (λ (p : List ℕ). Some p) (sym (is b refl)))

-- a reel that was written
pub reel_done : {V E : Type 0} (k : ℕ) (block : List ℕ) (r : Reel) (old new : Blocks) (result : Result V E) → OnOk result (new ≡ ended k block old)
    → OnOk result (with_blocks r new ≡ ending k block (with_blocks r old))
reel_done k block r old new (Ok v) is = ap (with_blocks r) is
reel_done k block r old new (Err e) is = tt

left_reel : (how : Remains) (k : ℕ) (r : Reel) (b : Blocks) → with_blocks r (left_of how k b) ≡ left_by how k (with_blocks r b)
left_reel Unchanged k r b = refl
left_reel Shortened k r b = refl
left_reel (Torn block) k r b = refl

pub reel_left : {V E : Type 0} (k : ℕ) (r : Reel) (old new : Blocks) (result : Result V E) → OnErr result ((how : Remains) × (new ≡ left_of how k old))
    → OnErr result ((how : Remains) × (with_blocks r new ≡ left_by how k (with_blocks r old)))
reel_left k r old new (Ok v) left = tt
reel_left k r old new (Err e) (how, is) = (how, ap (with_blocks r) is ∙ left_reel how k r old)

-- What reads and writes of bytes do to blocks of 512 bytes.
-- serves: read, secure, size (blocks), write_block (block, torn), DurableBlocksLemmas
use Rattle.std.proofs.Common.{◌≡◌, ℕ, ◌+◌, ◌*◌, ◌<◌, ◌≤◌, List, length, replicate, Result, Ok, Err, OnErr, OnOk, Some, None, refl, sym, ap, subst, ◌∙◌, arith}
use Rattle.std.specs.Prelude.{All, Option, option_map, slice_get, slice_set}
use Rattle.std.specs.Option.{ForSome}
use Rattle.std.proofs.lemmas.Option.{none-some, same_Some}
use Rattle.g_base.specs.Block.{IsBlock, with_block}
use Rattle.g_base.specs.ToldContent.{Changes}
use Rattle.g_base.proofs.BlockLemmas.{IsBlock-zeros}
use Rattle.g_files.specs.Bytes.{AreBytes, part, put, blocks_of}
use Rattle.g_files.specs.Calls.{IsMixed, HasWrittenAll}
use Rattle.g_files.proofs.BytesLemmas.{AreBytes-part, length-part, length-put, put-part, put-put_over}
use Rattle.g_files.proofs.BlockLemmas.{get-blocks_of, get_or-blocks_of, length-blocks_of, blocks-put}
use Rattle.g_files.proofs.CallLemmas.{any_mixed, mixed_bytes}

-- n blocks, each of 512 bytes
pub are_blocks : (n : ℕ) (x : Option (List ℕ)) → ForSome x (λ b. length b ≡ 512 * n) → ForSome x AreBytes
    → ForSome (option_map (blocks_of n) x) (λ blocks. (length blocks ≡ n) × All IsBlock blocks)
are_blocks n None sized bytes blocks is = absurd (none-some blocks is)
are_blocks n (Some b) sized bytes blocks is =
    subst (λ (bs : List (List ℕ)). (length bs ≡ n) × All IsBlock bs) (same_Some (blocks_of n b) blocks is) (
      length-blocks_of n b,
      λ k d h.
          let below : k < n = omega (arith, h, length-blocks_of n b) in
          subst IsBlock (sym (get_or-blocks_of n k b d below)) (record {
            size = length-part (512 * k) 512 b (omega (arith, below, sized b refl));
            bytes = AreBytes-part (512 * k) 512 b (bytes b refl);
          }),
    )

pub same_blocks : (n m : ℕ) (x y : Option (List ℕ)) → n ≡ m → x ≡ y → option_map (blocks_of n) x ≡ option_map (blocks_of m) y
same_blocks n m x y same is = rw (same, is) refl

pub block_read : (n k : ℕ) (into : List ℕ) (x : Option (List ℕ)) → k < n → ForSome x (λ b. into ≡ part (512 * k) 512 b)
    → ForSome (option_map (blocks_of n) x) (λ blocks. slice_get blocks k ≡ Some into)
block_read n k into None below is blocks some = absurd (none-some blocks some)
block_read n k into (Some b) below is blocks some =
    subst (λ bs. slice_get bs k ≡ Some into) (same_Some (blocks_of n b) blocks some) (get-blocks_of n k b below ∙ ap (λ (p : List ℕ). Some p) (sym (is b refl)))

block_written : (E : Type 0) (n k : ℕ) (from : List ℕ) (x y : Option (List ℕ)) → k < n → length from ≡ 512 → ForSome x (λ b. length b ≡ 512 * n)
    → Changes (HasWrittenAll {E = E} (512 * k) from (Ok tt)) x y → option_map (blocks_of n) y ≡ with_block k from (option_map (blocks_of n) x)
block_written E n k from None y below size sized c = rw (c.untold refl) refl
block_written E n k from (Some b) y below size sized c =
    let t = c.told b refl in
    rw t.1 (ap (λ (bs : List (List ℕ)). Some bs) (ap (blocks_of n) t.2 ∙ blocks-put n k from b size below (sized b refl)))

-- a write of a whole block, if it succeeded
pub written_ok : {E : Type 0} (n k : ℕ) (from : List ℕ) (r : Result (Unit {0}) E) (x y : Option (List ℕ)) → k < n → length from ≡ 512
    → ForSome x (λ b. length b ≡ 512 * n)
    → Changes (HasWrittenAll (512 * k) from r) x y → OnOk r (option_map (blocks_of n) y ≡ with_block k from (option_map (blocks_of n) x))
written_ok {E = E} n k from (Ok done) x y below size sized c = block_written E n k from x y below size sized c
written_ok n k from (Err e) x y below size sized c = tt

-- A mixture within a block replaces that block by some block.
mixed_block : (n k : ℕ) (from b a : List ℕ) → k < n → length from ≤ 512 → AreBytes from → length b ≡ 512 * n → AreBytes b → IsMixed (512 * k) from b a
    → (left : List ℕ) × IsBlock left × (blocks_of n a ≡ slice_set (blocks_of n b) k left)
mixed_block n k from b a below size given whole bytes (piece, mixed, is) =
    let few : length piece ≤ 512 = omega (arith, mixed.few, size) in
    let room : 512 * k + 512 ≤ length b = omega (arith, below, whole) in
    let long : length a ≡ length b = ap length is ∙ length-put (512 * k) piece b (omega (arith, few, room)) in
    let left = part (512 * k) 512 a in
    let size' : length left ≡ 512 = length-part (512 * k) 512 a (omega (arith, room, long)) in
    let each : AreBytes a = mixed_bytes (512 * k) from b a (omega (arith, size, room)) given bytes (piece, mixed, is) in
    let over : put (512 * k) left b ≡ a =
    sym (put-put_over (512 * k) left piece b (omega (arith, few, size')) (omega (arith, room, size'))) ∙ ap (put (512 * k) left) (sym is)
    ∙ put-part (512 * k) 512 a (omega (arith, room, long)) in
    (left, record { size = size'; bytes = AreBytes-part (512 * k) 512 a each }, ap (blocks_of n) (sym over) ∙ blocks-put n k left b size' below whole)

pub block_torn : {E : Type 0} (n k : ℕ) (from : List ℕ) (r : Result (Unit {0}) E) (x y : Option (List ℕ)) → k < n → length from ≤ 512 → AreBytes from
    → ForSome x (λ b. length b ≡ 512 * n) → ForSome x AreBytes
    → Changes (HasWrittenAll (512 * k) from r) x y → (left : List ℕ) × IsBlock left ×
    (option_map (blocks_of n) y ≡ with_block k left (option_map (blocks_of n) x))
block_torn n k from r None y below size given sized bytes c = (replicate 512 0, IsBlock-zeros, rw (c.untold refl) refl)
block_torn n k from r (Some b) y below size given sized bytes c =
    let t = c.told b refl in
    let m = mixed_block n k from b t.0 below size given (sized b refl) (bytes b refl) (any_mixed (512 * k) from b t.0 r t.2) in
    (m.0, m.1, rw t.1 (ap (λ (bs : List (List ℕ)). Some bs) m.2))

-- and if it failed
pub torn_err : {E : Type 0} (n k : ℕ) (from : List ℕ) (r : Result (Unit {0}) E) (x y : Option (List ℕ)) → k < n → length from ≤ 512 → AreBytes from
    → ForSome x (λ b. length b ≡ 512 * n) → ForSome x AreBytes
    → Changes (HasWrittenAll (512 * k) from r) x y → OnErr r ((left : List ℕ) × IsBlock left ×
    (option_map (blocks_of n) y ≡ with_block k left (option_map (blocks_of n) x)))
torn_err n k from (Ok done) x y below size given sized bytes c = tt
torn_err n k from (Err e) x y below size given sized bytes c = block_torn n k from (Err e) x y below size given sized bytes c

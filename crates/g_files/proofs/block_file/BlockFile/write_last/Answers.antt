use Rattle.std.proofs.Common.{◌≡◌, ℕ, ◌*◌, sym, ap, subst, ◌∙◌, arith}
use Rattle.g_base.specs.ToldContent.{Changes}
use Rattle.g_files.specs.Front.{KeepsFront}
use Rattle.g_files.specs.BlockFile.{Blocks, blocks_seen, content_of}
use Rattle.g_files.proofs.CallLemmas.{on_ok_at}
use Rattle.g_files.proofs.BlockFileLemmas.{front_then, on_err_left, on_ok_ended}
use Rattle.g_files.specs.Risks.{Keeps, KeepsTo}
use Rattle.g_files.proofs.BlockRiskLemmas.{begun_last, begun_secured, kept_grown}
use Rattle.g_files.proofs.block_file.BlockFile.write_last.Goals as goal

pub returns-clause-done : goal.returns-clause-done
returns-clause-done g c =
    let f = c.args.self.now in
    let mid = c.make_room.new.self in
    let cut = on_ok_at c.make_room.result (sym c.is_err.ensures.value ∙ c.if-is_err.false) c.make_room.ensures.done in
    on_ok_ended c.args.k mid.len c.args.block.now (blocks_seen f) (blocks_seen mid) (blocks_seen c.append.new.self) c.append.result
    (ap (λ (b : Blocks). b.len) cut) cut c.append.ensures.done

pub returns-clause-left : goal.returns-clause-left
returns-clause-left g c =
    let f = c.args.self.now in
    let mid = c.make_room.new.self in
    let cut = on_ok_at c.make_room.result (sym c.is_err.ensures.value ∙ c.if-is_err.false) c.make_room.ensures.done in
    on_err_left c.args.k mid.len (blocks_seen f) (blocks_seen mid) (blocks_seen c.append.new.self) c.append.result
    (ap (λ (b : Blocks). b.len) cut) cut c.append.ensures.left

pub returns-clause-front : goal.returns-clause-front
returns-clause-front g c =
    let f = c.args.self.now in
    let mid = c.make_room.new.self in
    let cut = on_ok_at c.make_room.result (sym c.is_err.ensures.value ∙ c.if-is_err.false) c.make_room.ensures.done in
    let len : mid.len ≡ c.args.k = ap (λ (b : Blocks). b.len) cut in
    front_then (512 * c.args.k) (content_of f) (content_of mid) (content_of c.append.new.self) c.make_room.ensures.front
    (subst (λ (m : ℕ). Changes (KeepsFront (512 * m)) (content_of mid) (content_of c.append.new.self)) len c.append.ensures.front)

pub returns-then-is_err-clause-begun : goal.returns-then-is_err-clause-begun
returns-then-is_err-clause-begun g c =
    let f = c.args.self.now in
    let m = c.make_room.new.self in
    begun_secured f m m c.args.k (KeepsTo c.args.k f) _ (λ able. able.1) (λ left there. there) c.make_room.ensures.begun

pub returns-then-is_err-clause-secured : goal.returns-then-is_err-clause-secured
returns-then-is_err-clause-secured g c = λ is. subst (λ (n : ℕ). Keeps n c.make_room.new.self) (sym c.min-self.ensures) (c.make_room.ensures.secured is)

pub returns-clause-begun : goal.returns-clause-begun
returns-clause-begun g c =
    let f = c.args.self.now in
    let m = c.make_room.new.self in
    let ok = sym c.is_err.ensures.value ∙ c.if-is_err.false in
    let cut = on_ok_at c.make_room.result ok c.make_room.ensures.done in
    let len : m.len ≡ c.args.k = ap (λ (b : Blocks). b.len) cut in
    begun_last f m c.append.new.self c.args.k _ (KeepsTo c.args.k f) (λ able. able.1) c.requires.place len c.make_room.ensures.front c.make_room.ensures.begun
    (on_ok_at c.make_room.result ok c.make_room.ensures.orderly)
    (λ able. on_ok_at c.make_room.result ok (c.make_room.ensures.stored able.0 able.1)) c.append.ensures.least c.append.ensures.most c.append.ensures.grows

pub returns-clause-kept : goal.returns-clause-kept
returns-clause-kept g c = λ n few is.
    let m = c.make_room.new.self in
    let ok = sym c.is_err.ensures.value ∙ c.if-is_err.false in
    let cut = on_ok_at c.make_room.result ok c.make_room.ensures.done in
    let len : m.len ≡ c.args.k = ap (λ (b : Blocks). b.len) cut in
    kept_grown m c.append.new.self n (omega (arith, few, len)) c.append.ensures.least c.append.ensures.front c.append.ensures.grows (c.make_room.ensures.kept n few is)

pub returns-clause-secured : goal.returns-clause-secured
returns-clause-secured g c = λ is.
    let m = c.make_room.new.self in
    let ok = sym c.is_err.ensures.value ∙ c.if-is_err.false in
    let cut = on_ok_at c.make_room.result ok c.make_room.ensures.done in
    let len : m.len ≡ c.args.k = ap (λ (b : Blocks). b.len) cut in
    let counted = m.counted in
    let same = c.append.ensures.durable in
    subst (λ (n : ℕ). Keeps n c.append.new.self) (sym same)
    (kept_grown m c.append.new.self m.durable counted c.append.ensures.least c.append.ensures.front c.append.ensures.grows
    (subst (λ (n : ℕ). Keeps n m) (omega (arith, len, counted)) (c.make_room.ensures.secured is)))

use Rattle.std.proofs.Common.{ℕ, ◌*◌, sym, ap, subst, ◌∙◌, inl, arith}
use Rattle.g_files.specs.BlockFile.{Blocks, content_of, len_of}
use Rattle.g_files.specs.Risks.{Keeps, KeepsTo}
use Rattle.g_files.proofs.CallLemmas.{changes_before, on_ok_at}
use Rattle.g_files.proofs.BlockFileLemmas.{front_then}
use Rattle.g_files.proofs.BlockRiskLemmas.{begun_secured, cut_begins, cut_kept, cut_secured, failed_to, front_same, kept_more, more_begun, on_err_at, secured_to, stay_kept}
use Rattle.g_files.proofs.RiskLemmas.{not_orderly}
use Rattle.g_files.proofs.block_file.BlockFile.cut.Goals as goal

pub returns-then-is_err-clause-begun : goal.returns-then-is_err-clause-begun
returns-then-is_err-clause-begun g c = more_begun c.args.self.now c.secure_before.new.self c.args.k _ c.secure_before.ensures.no_more

pub returns-then-is_err-clause-kept : goal.returns-then-is_err-clause-kept
returns-then-is_err-clause-kept g c =
    stay_kept c.args.self.now c.secure_before.new.self c.args.k c.requires.place (ap (λ (b : Blocks). b.len) c.secure_before.ensures.same)
    c.secure_before.ensures.front c.secure_before.ensures.no_more

pub returns-then-is_err-clause-secured : goal.returns-then-is_err-clause-secured
returns-then-is_err-clause-secured g c =
    failed_to c.args.self.now c.secure_before.new.self c.args.k c.requires.place (ap (λ (b : Blocks). b.len) c.secure_before.ensures.same)
    c.secure_before.ensures.front c.secure_before.ensures.no_more
    (on_err_at c.secure_before.result (sym c.is_err.ensures.value ∙ c.if-is_err.true) c.secure_before.ensures.durable)

pub returns-then-is_err-clause-disorderly : goal.returns-then-is_err-clause-disorderly
returns-then-is_err-clause-disorderly g c = on_err_at c.secure_before.result (sym c.is_err.ensures.value ∙ c.if-is_err.true) c.secure_before.ensures.disorderly

pub returns-then-is_err-2-clause-front : goal.returns-then-is_err-2-clause-front
returns-then-is_err-2-clause-front g c =
    front_then (512 * c.args.k) (content_of c.args.self.now) (content_of c.secure_before.new.self) (content_of c.drop_from.new.self)
    c.secure_before.ensures.front c.drop_from.ensures.front

pub returns-then-is_err-2-clause-begun : goal.returns-then-is_err-2-clause-begun
returns-then-is_err-2-clause-begun g c =
    cut_begins c.args.self.now c.secure_before.new.self c.drop_from.new.self c.args.k c.requires.place (ap (λ (b : Blocks). b.len) c.secure_before.ensures.same)
    c.secure_before.ensures.front c.secure_before.ensures.no_more
    (λ is. on_ok_at c.secure_before.result (sym c.is_err.ensures.value ∙ c.if-is_err.false) (c.secure_before.ensures.kept is))
    c.drop_from.ensures.front c.drop_from.ensures.least c.drop_from.ensures.cuts c.drop_from.ensures.resized

pub returns-then-is_err-2-clause-kept : goal.returns-then-is_err-2-clause-kept
returns-then-is_err-2-clause-kept g c =
    cut_kept c.args.self.now c.secure_before.new.self c.drop_from.new.self c.args.k c.requires.place (ap (λ (b : Blocks). b.len) c.secure_before.ensures.same)
    c.secure_before.ensures.front c.secure_before.ensures.no_more
    (λ is. on_ok_at c.secure_before.result (sym c.is_err.ensures.value ∙ c.if-is_err.false) (c.secure_before.ensures.kept is))
    c.drop_from.ensures.front c.drop_from.ensures.least c.drop_from.ensures.cuts

pub returns-then-is_err-2-clause-secured : goal.returns-then-is_err-2-clause-secured
returns-then-is_err-2-clause-secured g c =
    cut_secured c.args.self.now c.secure_before.new.self c.drop_from.new.self c.args.k c.requires.place (ap (λ (b : Blocks). b.len) c.secure_before.ensures.same)
    c.secure_before.ensures.front c.secure_before.ensures.no_more
    (λ is. on_ok_at c.secure_before.result (sym c.is_err.ensures.value ∙ c.if-is_err.false) (c.secure_before.ensures.kept is))
    c.drop_from.ensures.front c.drop_from.ensures.least c.drop_from.ensures.cuts

pub returns-then-is_err-2-clause-disorderly : goal.returns-then-is_err-2-clause-disorderly
returns-then-is_err-2-clause-disorderly g c = not_orderly c.drop_from.new.self.reach (inl c.drop_from.ensures.reach)

pub returns-clause-front : goal.returns-clause-front
returns-clause-front g c =
    changes_before c.sync.ensures.content
    (front_then (512 * c.args.k) (content_of c.args.self.now) (content_of c.secure_before.new.self) (content_of c.drop_from.new.self)
    c.secure_before.ensures.front c.drop_from.ensures.front)

pub returns-clause-begun : goal.returns-clause-begun
returns-clause-begun g c =
    let f = c.args.self.now in
    begun_secured f c.drop_from.new.self c.sync.new.self c.args.k (KeepsTo c.args.k f) (KeepsTo c.args.k f) (λ is. is) c.sync.ensures.durable.no_more
    (cut_begins f c.secure_before.new.self c.drop_from.new.self c.args.k c.requires.place (ap (λ (b : Blocks). b.len) c.secure_before.ensures.same)
    c.secure_before.ensures.front c.secure_before.ensures.no_more
    (λ is. on_ok_at c.secure_before.result (sym c.is_err.ensures.value ∙ c.if-is_err.false) (c.secure_before.ensures.kept is))
    c.drop_from.ensures.front c.drop_from.ensures.least c.drop_from.ensures.cuts c.drop_from.ensures.resized)

pub returns-clause-kept : goal.returns-clause-kept
returns-clause-kept g c = λ n few is.
    let d = c.drop_from.new.self in
    let least = c.drop_from.ensures.least in
    kept_more d c.sync.new.self n (len_of d) (omega (arith, few, least)) (omega (arith, few, least)) c.sync.ensures.len (front_same d c.sync.new.self c.sync.ensures.content)
    c.sync.ensures.durable.no_more
    (cut_kept c.args.self.now c.secure_before.new.self d c.args.k c.requires.place (ap (λ (b : Blocks). b.len) c.secure_before.ensures.same)
    c.secure_before.ensures.front c.secure_before.ensures.no_more
    (λ is. on_ok_at c.secure_before.result (sym c.is_err.ensures.value ∙ c.if-is_err.false) (c.secure_before.ensures.kept is))
    c.drop_from.ensures.front c.drop_from.ensures.least c.drop_from.ensures.cuts n few is)

pub returns-clause-secured : goal.returns-clause-secured
returns-clause-secured g c = λ is.
    let d = c.drop_from.new.self in
    let lowered = c.drop_from.ensures.durable in
    secured_to d c.sync.new.self c.args.k c.sync.result c.drop_from.ensures.least c.sync.ensures.len (front_same d c.sync.new.self c.sync.ensures.content)
    c.sync.ensures.durable (omega (arith, lowered))
    (cut_secured c.args.self.now c.secure_before.new.self d c.args.k c.requires.place (ap (λ (b : Blocks). b.len) c.secure_before.ensures.same)
    c.secure_before.ensures.front c.secure_before.ensures.no_more
    (λ is. on_ok_at c.secure_before.result (sym c.is_err.ensures.value ∙ c.if-is_err.false) (c.secure_before.ensures.kept is))
    c.drop_from.ensures.front c.drop_from.ensures.least c.drop_from.ensures.cuts is)

pub returns-clause-stored : goal.returns-clause-stored
returns-clause-stored g c = λ is.
    let d = c.drop_from.new.self in
    let lowered = c.drop_from.ensures.durable in
    c.sync.ensures.durable.stored (subst (λ (n : ℕ). Keeps n d) (omega (arith, lowered))
    (cut_secured c.args.self.now c.secure_before.new.self d c.args.k c.requires.place (ap (λ (b : Blocks). b.len) c.secure_before.ensures.same)
    c.secure_before.ensures.front c.secure_before.ensures.no_more
    (λ is. on_ok_at c.secure_before.result (sym c.is_err.ensures.value ∙ c.if-is_err.false) (c.secure_before.ensures.kept is))
    c.drop_from.ensures.front c.drop_from.ensures.least c.drop_from.ensures.cuts is))

pub returns-clause-orderly : goal.returns-clause-orderly
returns-clause-orderly g c = c.sync.ensures.durable.orderly

pub returns-clause-disorderly : goal.returns-clause-disorderly
returns-clause-disorderly g c = c.sync.ensures.durable.disorderly

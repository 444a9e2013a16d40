use Rattle.std.proofs.Common.{◌<◌, ◌^◌, ◌∙◌, ℕ, arith, false, length, refl, subst, sym, true}
use Rattle.g_plan.proofs.PutLemmas.{item_there, put-past, put-taken, put-yes}
use Rattle.g_plan.proofs.image.Image.put.Goals as goal
use Rattle.g_plan.proofs.image.Image.put.Goals.{then-len-place-via-then-len-place, then-len-place-via-else-len-place+then-is_some}

pub returns-then-len-place : goal.returns-then-len-place
returns-then-len-place c =
    let words = c.args.self.now.words.items in
    let size = c.len.ensures in
    elim c.then-len-place.branch [
      | then-len-place-via-then-len-place w ↦
          let past = w.if-len-place.true in
          put-past c.args.self.now c.args.place c.args.word (omega (arith, past, size))
      | then-len-place-via-else-len-place+then-is_some w ↦
          let below = w.if-len-place.false in
          let within : c.args.place < length words = omega (arith, below, size) in
          put-taken c.args.self.now c.args.place c.args.word within
          (item_there words c.args.place w.index.result.now true within w.index.ensures (sym w.is_some.ensures ∙ w.if-is_some.true))
    ]

pub returns : goal.returns
returns c =
    let words = c.args.self.now.words.items in
    let size = c.len.ensures in
    let below = c.if-len-place.false in
    let within : c.args.place < length words = omega (arith, below, size) in
    put-yes c.args.self.now _ c.args.place c.args.word (subst (λ (n : ℕ). n < 2 ^ 24) c.value-bits.ensures.value c.value-bits.ensures.small) within
    (item_there words c.args.place c.index.result.now false within c.index.ensures (sym c.is_some.ensures ∙ c.if-is_some.false)) refl c.max-self.ensures

use Rattle.std.proofs.Common.{◌+◌, ◌<◌, length, drop, arith, refl, sym, ◌∙◌}
use Rattle.std.specs.Prelude.{option_copied}
use Rattle.std.proofs.lemmas.Bool.{false≢true}
use Rattle.g_dirs.proofs.CopyLemmas.{further_by, lying_all, lying_more, lying_no, lying_none, next_match}
use Rattle.g_dirs.proofs.rules.files_lie.Goals as goal

pub loop-r-init : goal.loop-r-init
loop-r-init c = lying_none c.args.files.now c.args.online.now c.requires.numbered c.requires.copies

pub returns-then-not-has_storage : goal.returns-then-not-has_storage
returns-then-not-has_storage c =
    let files = c.args.files.now in
    let online = c.args.online.now in
    let inside : c.loop-r.r-index < length files = omega arith in
    let match = next_match files online c.loop-r.rest.now c.loop-r.r-index c.r-item.result inside c.r-item.is c.loop-r.invariant in
    let step = further_by c.r-item.result (drop (c.loop-r.r-index + 1) files) c.loop-r.rest.now c.next_copy.result.0 c.next_copy.result.1.now match c.next_copy.ensures.found c.next_copy.ensures.none in (
      λ tells. absurd (false≢true tells),
      λ all. absurd (lying_no files online c.loop-r.rest.now c.loop-r.r-index c.r-item.result inside c.r-item.is c.loop-r.invariant (option_copied c.next_copy.result.0) c.next_copy.result.1.now step
          (λ lies. false≢true (sym c.if-not-has_storage.true ∙ c.has_storage.ensures.1 lies)) all),
    )

pub loop-r-preserved : goal.loop-r-preserved
loop-r-preserved c =
    let files = c.args.files.now in
    let online = c.args.online.now in
    let inside : c.loop-r.r-index < length files = omega arith in
    let match = next_match files online c.loop-r.rest.now c.loop-r.r-index c.r-item.result inside c.r-item.is c.loop-r.invariant in
    let step = further_by c.r-item.result (drop (c.loop-r.r-index + 1) files) c.loop-r.rest.now c.next_copy.result.0 c.next_copy.result.1.now match c.next_copy.ensures.found c.next_copy.ensures.none in
    lying_more files online c.loop-r.rest.now c.loop-r.r-index c.r-item.result inside c.r-item.is c.loop-r.invariant (option_copied c.next_copy.result.0) c.next_copy.result.1.now step (c.has_storage.ensures.0 c.if-not-has_storage.false)

pub returns : goal.returns
returns c =
    let all = lying_all c.args.files.now c.args.online.now c.loop-r.rest.now c.loop-r.r-index (omega arith) c.loop-r.invariant in
    (λ tells. all, λ lie. refl)

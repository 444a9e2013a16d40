use Rattle.std.proofs.Common.{List, ℕ, ◌++◌, ◌∙◌, ap, length}
use Rattle.g_entry.specs.declared.head.Head.{Head}
use Rattle.g_store_calls.proofs.AppendPartLemmas.{may_append}
use Rattle.g_store_calls.proofs.RoomyLemmas.{roomy_behind}
use Rattle.g_store_calls.proofs.appending.put_behind.Goals as goal

pub put_version-requires : goal.put_version-requires
put_version-requires g c = record {
  allowed = may_append c.args.online.now c.args.file c.args.old c.args.bytes.now c.requires.live c.requires.tied c.requires.there c.requires.long c.requires.fits c.requires.stamps
      c.extend.new.self c.next_version-rec.result c.args.plan.take c.args.plan.room _ _ c.requires.plan (c.in-Ok.ensures.ok ∙ ap (λ (b : List ℕ). c.args.old ++ b) c.as_slice.ensures)
      (ap length c.as_slice-2.ensures) (ap (λ (h : Head). h.next_stamp) c.head.ensures) c.next_version-rec.ensures;
  roomy = roomy_behind c.args.online.now c.next_version-rec.result c.args.plan.take c.args.file.len c.args.old c.args.bytes.now c.extend.new.self c.requires.roomy c.requires.long
      (c.in-Ok.ensures.ok ∙ ap (λ (b : List ℕ). c.args.old ++ b) c.as_slice.ensures);
}

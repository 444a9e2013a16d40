use Rattle.std.proofs.Common.{◌∙◌, List, ap, arith, length}
use Rattle.g_entry.specs.declared.file_rec.FileRec.{FileRec}
use Rattle.g_restore.specs.Gathering.{added}
use Rattle.g_restore.proofs.NumberLemmas.{added_few, one_added}
use Rattle.g_restore.proofs.gather.add_files.Goals as goal

pub loop-r-preserved : goal.loop-r-preserved
loop-r-preserved c =
    let few = added_few c.loop-r.files.items c.args.user c.r-item.result in
    let long = ap length c.in-Ok.ensures in
    let low = c.loop-r.invariant.low in
    record {
      items =
          c.in-Ok.ensures ∙ ap (λ (old : List FileRec). added old c.args.user c.r-item.result) c.loop-r.invariant.items
          ∙ one_added c.args.files.now.items c.args.user c.args.from.now c.loop-r.r-index c.r-item.result (omega arith) c.r-item.is;
      low = omega (arith, few, long, low);
    }

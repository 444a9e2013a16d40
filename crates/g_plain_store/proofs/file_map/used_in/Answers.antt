-- At most 1,024 files of at most 128 blocks.
use Rattle.std.proofs.Common.{◌≤◌, ap, subst, arith, length, sum_by}
use Rattle.g_name.proofs.Order.{full_total}
use Rattle.g_plain.proofs.Maps.{len-made}
use Rattle.g_plain.proofs.TextMaps.{full_exact}
use Rattle.g_plain.specs.PlainTree.{blocks_of}
use Rattle.g_plain_store.proofs.file_map.used_in.Goals as goal

pub loop-full-init : goal.loop-full-init
loop-full-init c =
    let all = c.into_iter-full-iterator.ensures.into_iter_gives.0 in
    let few : length c.args.rows.now.entries ≤ 1024 =
    subst (λ n. n ≤ 1024) (len-made full_total full_exact c.args.rows.now.entries c.into_iter-full-iterator.ensures.into_iter_gives.5) c.requires in
    (omega (arith, ap (sum_by (blocks_of c.args.user.now)) all), omega (arith, ap length all))

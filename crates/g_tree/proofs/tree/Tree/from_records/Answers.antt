-- What is remembered is that of the records.
use Rattle.std.proofs.Common.{subst, sym, ◌∙◌}
use Rattle.g_tree.specs.State.{AreIndexed, AreNewest, AreUsed, IsKept}
use Rattle.g_tree.proofs.tree.Tree.from_records.Goals as goal

pub invariant_of-result : goal.invariant_of-result
invariant_of-result c =
    let counts = c.in_ok-counts.counts in
    let entries = counts.names.entries in
    let users = c.args.users.items in
    let files = c.args.files.items in
    subst (λ fs. IsKept users fs entries counts.blocks.items) (sym (c.in_ok-files.ensures ∙ c.as_slice-3.ensures.value)) (record {
      records = c.requires;
      index = subst (λ fs. AreIndexed users fs entries) c.as_slice-2.ensures.value (subst (λ us. AreIndexed us c.as_slice-2.result.now entries) c.as_slice.ensures.value c.in_ok-counts.ensures.index);
      newest = subst (λ fs. AreNewest users fs entries) c.as_slice-2.ensures.value (subst (λ us. AreNewest us c.as_slice-2.result.now entries) c.as_slice.ensures.value c.in_ok-counts.ensures.newest);
      topped = c.in_ok-counts.ensures.topped;
      used = subst (λ fs. AreUsed fs counts.blocks.items) c.as_slice-2.ensures.value c.in_ok-counts.ensures.used;
    })

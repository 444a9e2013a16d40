-- The owner's numbers in the order of names are those of the tree's entries.
use Rattle.std.proofs.Common.{List, ap, subst, ◌∙◌}
use Rattle.g_entry.specs.declared.file_rec.FileRec.{FileRec}
use Rattle.g_tree.specs.Names.{numbers_by_name}
use Rattle.g_tree.specs.Records.{IsRecords}
use Rattle.g_tree.specs.State.{TreeState}
use Rattle.g_tree.proofs.InUserLemmas.{names_listed}
use Rattle.g_tree.proofs.RecordLemmas.{listed_is}
use Rattle.g_tree.proofs.ResultLemmas.{ok_then}
use Rattle.g_tree.proofs.tree.Tree.listing.Goals as goal

pub listing_of-requires : goal.listing_of-requires
listing_of-requires c = c.self.invariant.records.among_files.names

pub returns : goal.returns
returns c =
    ok_then c.listing_of.result
    (λ list is bytes next. is ∙ ap (λ (s : TreeState). numbers_by_name c.args.owner s.files) c.self.view_is
    ∙ names_listed c.args.self.now.users c.args.owner c.args.self.now.files
    ∙ listed_is c.args.self.now.users c.args.self.now.files bytes next c.args.owner (subst (λ s. IsRecords s.users s.files) c.self.view_is c.self.invariant.records)) c.listing_of.ensures

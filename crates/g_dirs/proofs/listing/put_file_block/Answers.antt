use Rattle.std.proofs.Common.{◌∙◌, sym, ap, subst, Option, List, ℕ}
use Rattle.std.specs.Prelude.{IfSome}
use Rattle.g_base.specs.Fields.{padded}
use Rattle.g_entry.specs.declared.format.Format.TheVariants.{Two}
use Rattle.g_entry.specs.FileFields.{ArePlaces, IsFile, file_block}
use Rattle.g_dirs.proofs.ListingLemmas.{are_places, block_of_found, block_of_missing, found-holds}
use Rattle.g_dirs.proofs.listing.put_file_block.Goals as goal

pub put_file-requires-clause-file : goal.put_file-requires-clause-file
put_file-requires-clause-file c =
    found-holds c.args.files.now c.args.online.now c.args.number c.in-Some.rec.now (sym c.in-Some.ensures) IsFile c.requires.files.limits

pub put_file-requires-clause-places : goal.put_file-requires-clause-places
put_file-requires-clause-places c =
    subst (λ (o : Option (List ℕ)). IfSome o (ArePlaces Two c.in-Some.rec.now.len)) (sym c.places_of-places.ensures)
    (are_places c.args.files.now c.args.online.now c.args.number c.in-Some.rec.now (sym c.in-Some.ensures) c.requires.files)

pub returns-in-Some : goal.returns-in-Some
returns-in-Some c =
    ap (padded 512) c.put_file.ensures ∙ ap (file_block Two c.in-Some.rec.now) c.places_of-places.ensures
    ∙ sym (block_of_found c.args.files.now c.args.online.now c.args.number c.in-Some.rec.now (sym c.in-Some.ensures))

pub returns-in-None : goal.returns-in-None
unfolding padded
returns-in-None c = ap (padded 512) c.requires.empty ∙ sym (block_of_missing c.args.files.now c.args.online.now c.args.number (sym c.in-None.ensures))

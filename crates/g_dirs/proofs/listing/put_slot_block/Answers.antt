use Rattle.g_dirs.proofs.ListingLemmas.{are_encodable}
use Rattle.g_dirs.proofs.listing.put_slot_block.Goals as goal

pub put_file_block-requires-clause-files : goal.put_file_block-requires-clause-files
put_file_block-requires-clause-files c = are_encodable c.args.head.now c.args.users.now c.args.files.now c.args.online.now c.requires.directory

use Rattle.g_laws_store.proofs.RoomLemmas.{room_is}
use Rattle.g_laws_store.proofs.room_goes_by_files.Goals as goal

pub returns : goal.returns
returns c = record { room = room_is }

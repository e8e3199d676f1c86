use Rattle.reading_laws.proofs.NameRooms.{have_room}
use Rattle.reading_laws.proofs.names.have_room.Goals as goal

pub returns : goal.returns
returns c = have_room

use Rattle.reading_laws.proofs.NameRooms.{have_room_among}
use Rattle.reading_laws.proofs.names.have_room_among.Goals as goal

pub returns : goal.returns
returns c = have_room_among

-- How deep a reading may still go where it stands, and where it goes on from there.
use Rattle.std.proofs.Common.{ℕ}
use Rattle.serde_json.specs.View.{view}
use Rattle.schema_sites.specs.Seen.{documents_at}
use Rattle.plain_reader.specs.declared.standing.Reading.{Reading}
use Rattle.plain_reader.specs.Spots.{spots_of}
use Rattle.plain_reader.specs.Keys.{keys_in}
use Rattle.plain_reader.specs.Verdicts.{room}

abbrev pub room_in : Reading → ℕ
room_in r = room (documents_at r.site.now) (spots_of r.whole) (keys_in r.progress.now) (view r.site.now.contents.now)

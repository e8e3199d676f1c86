use Rattle.std.proofs.Common.{[], ◌≡◌, ◌≤◌, ◌+◌, ◌*◌, drop}
use Rattle.serde_json.specs.View.{view, members_view}
use Rattle.schema_sites.specs.Seen.{documents_at}
use Rattle.schema_definitions.specs.AllKeys.{spots_in}
use Rattle.location_texts.specs.Locations.{location_of}
use Rattle.plain_reader.specs.Spots.{spots_of}
use Rattle.plain_reader.specs.Keys.{keys_in}
use Rattle.plain_reader.specs.Readings.{path_in}
use Rattle.plain_reader.specs.Verdicts.{room}
use Rattle.plain_reader.proofs.Rooms.{room_in}
use Rattle.plain_reader.proofs.Left.{MembersLeft, QuestionsLeft, CountLeft}
use Rattle.plain_reader.proofs.+read.Given as goal

abbrev pub decreases-read::accepts_schema : goal.decreases-read::accepts_schema
decreases-read::accepts_schema l = 12 * room_in l.reading.now + 11

abbrev pub decreases-read::accepts_members : goal.decreases-read::accepts_members
decreases-read::accepts_members l = 12 * room_in l.reading.now + 10

abbrev pub decreases-read::accepts_member : goal.decreases-read::accepts_member
decreases-read::accepts_member l = 12 * room_in l.reading.now + 9

abbrev pub decreases-read::accepts_keyword : goal.decreases-read::accepts_keyword
decreases-read::accepts_keyword l = 12 * room_in l.reading.now + 8

abbrev pub decreases-read::accepts_by_condition : goal.decreases-read::accepts_by_condition
decreases-read::accepts_by_condition l = 12 * room_in l.reading.now + 7

abbrev pub decreases-read::accepts_beside : goal.decreases-read::accepts_beside
decreases-read::accepts_beside l = 12 * room_in l.reading.now + 6

abbrev pub decreases-applied::accepts_applicator : goal.decreases-applied::accepts_applicator
decreases-applied::accepts_applicator l = 12 * room_in l.reading.now + 7

abbrev pub decreases-applied::accepts_each : goal.decreases-applied::accepts_each
decreases-applied::accepts_each l = 12 * room_in l.reading.now + 5

abbrev pub decreases-applied::count_accepted : goal.decreases-applied::count_accepted
decreases-applied::count_accepted l = 12 * room_in l.reading.now + 5

abbrev pub decreases-applied::accepts_question : goal.decreases-applied::accepts_question
decreases-applied::accepts_question l = 12 * room_in l.reading.now + 4

abbrev pub decreases-applied::accepts_part : goal.decreases-applied::accepts_part
decreases-applied::accepts_part l = 12 * room_in l.reading.now + 14

abbrev pub decreases-names::accepts_name : goal.decreases-names::accepts_name
decreases-names::accepts_name l = 12 * room_in l.reading.now + 13

abbrev pub decreases-whole::accepts_alone : goal.decreases-whole::accepts_alone
decreases-whole::accepts_alone l = 12 * room (documents_at l.site.now) (spots_in (location_of l.at.now) (view l.value.now)) [] (view l.site.now.contents.now) + 12

abbrev pub decreases-read::accepts_target : goal.decreases-read::accepts_target
decreases-read::accepts_target l = 12 * room_in l.reading.now + 3

abbrev pub invariant-read::accepts_members-loop-name : goal.invariant-read::accepts_members-loop-name
invariant-read::accepts_members-loop-name l =
    let all = members_view l.members.entries in
    let rest = members_view l.name-iterator in
    record {
      whole : members_view l.initial.name-iterator ≡ all;
      left : MembersLeft l.reading.site.now (spots_of l.reading.whole) (view l.reading.value.now) (path_in l.reading) (keys_in l.reading.progress.now) all rest;
    }

abbrev pub invariant-applied::accepts_each-loop-question : goal.invariant-applied::accepts_each-loop-question
invariant-applied::accepts_each-loop-question l =
    QuestionsLeft l.reading.site.now (spots_of l.reading.whole) (view l.reading.value.now) (path_in l.reading) (keys_in l.reading.progress.now) l.applicator l.asked (drop l.question-index l.asked)

abbrev pub invariant-applied::count_accepted-loop-answered : goal.invariant-applied::count_accepted-loop-answered
invariant-applied::count_accepted-loop-answered l =
    record {
      few : l.accepted ≤ l.answered;
      left : CountLeft l.reading.site.now (spots_of l.reading.whole) (view l.reading.value.now) (path_in l.reading) (keys_in l.reading.progress.now) l.applicator l.asked (drop l.answered l.asked) l.accepted;
    }

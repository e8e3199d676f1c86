-- JSON objects that tell why a text is no value. Their members stand in the order of their names.
use Rattle.std.specs.Prelude.{ℕ, List, Option, Some, None, codes}
use Rattle.serde_json.specs.Data.{Data, null, string, object, Members, no_members, member}
use Rattle.error_texts.specs.Fields.{count}
use Rattle.error_texts.specs.declared.unread.TextPlace.{TextPlace}

-- the reason, and that nothing is known of a value
abbrev pub reason_members : List ℕ → Members
reason_members reason = member (codes "reason") (string reason) (member (codes "valid") null no_members)

-- with the place in the text
abbrev pub placed_data : List ℕ → TextPlace → Data
placed_data reason place =
    object (member (codes "column") (count place.column) (member (codes "line") (count place.line) (reason_members reason)))

abbrev pub unread_data : List ℕ → Option TextPlace → Data
unread_data reason None = object (reason_members reason)
unread_data reason (Some place) = placed_data reason place

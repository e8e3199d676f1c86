use Rattle.std.proofs.Common.{List, ℕ, map, string_bytes}
use Rattle.serde_json.specs.View.{members_view}
use Rattle.schema_meaning.specs.Questions.{listed_members, each_member}
use Rattle.schema_engine.proofs.Pushing.{LeavesAs}
use Rattle.compiled_keywords.specs.Forms.{alone, whole_at}
use Rattle.compiled_keywords.specs.Named.{others_beside, AreKept}
use Rattle.compiled_keywords.specs.Seen.{seen_by}
use Rattle.compiled_keywords.proofs.beside.push_others_of.Given as goal

abbrev pub invariant-loop-name : goal.invariant-loop-name
invariant-loop-name l = (k : List ℕ) (ns : List (List ℕ)) → AreKept l.asked ns
    → LeavesAs (seen_by (whole_at k)) l.fn.into.items l.into.items (map alone (each_member k l.node (others_beside (map string_bytes l.names.list.items) ns (listed_members (members_view l.name-iterator)))))
    (map alone (each_member k l.node (others_beside (map string_bytes l.names.list.items) ns (listed_members (members_view l.members.entries)))))

use Rattle.std.proofs.Common.{sym, subst}
use Rattle.serde_json.specs.View.{view}
use Rattle.schema_meaning.specs.Keywords.{rule}
use Rattle.schema_engine.specs.Led.{MayAskFor}
use Rattle.schema_engine.specs.Matches.{completed}
use Rattle.schema_engine.specs.Situations.{TellsNotes}
use Rattle.schema_engine.proofs.HearsLemmas.{hears_nothing}
use Rattle.compiled_keywords.specs.Owned.{text_of}
use Rattle.compiled_keywords.specs.Shapes.{shape_of}
use Rattle.compiled_keywords.specs.declared.keyword.Keyword.{Keyword}
use Rattle.compiled_keywords.proofs.MatchLemmas.{text_asked}
use Rattle.compiled_keywords.proofs.keyword.KeywordValidate.tell_notes.Goals as goal

pub tell_pattern-requires-clause-asked : goal.tell_pattern-requires-clause-asked
tell_pattern-requires-clause-asked g c =
    let m = g.T.Matching.matches c.args.matching.now in
    let d = view c.args.situation.now.value.now in
    text_asked m (text_of c.in-Pattern.pattern) d
    (subst (λ (k : Keyword). MayAskFor m (shape_of k) d) c.in-Pattern.is c.requires.asked)

pub returns-in-Reference-clause-told : goal.returns-in-Reference-clause-told
returns-in-Reference-clause-told g c =
    let reads = completed (g.T.Matching.matches c.args.matching.now) in
    let s = c.args.situation.now in
    let o = c.args.observer.now in
    λ rest. subst (λ (k : Keyword). TellsNotes s (rule (reads rest) (view s.value.now) (shape_of k)) o o) (sym c.in-Reference.is) (hears_nothing o)

-- What a retriever of given documents answers.
use Rattle.std.specs.Prelude.{ℕ, List, Option, option_map}
use Rattle.std.specs.BTreeMap.{get}
use Rattle.std.specs.Ordering.{nat_cmp}
use Rattle.std.specs.Cmp.Lexicographic.{slice_cmp}
use Rattle.serde_json.specs.Data.{Data}
use Rattle.serde_json.specs.View.{view}
use Rattle.document_sources.specs.declared.map.MapRetriever.{MapRetriever}

abbrev pub answer_for : MapRetriever → List ℕ → Option Data
answer_for r uri = option_map (λ v. view v) (get (slice_cmp nat_cmp) r.documents uri)

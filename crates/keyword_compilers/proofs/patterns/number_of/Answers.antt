use Rattle.std.proofs.Common.{◌∙◌, bytes_eq, sym}
use Rattle.std.proofs.lemmas.List.{length-map}
use Rattle.schema_patterns.specs.Tables.{entries_of, texts_of_table}
use Rattle.keyword_compilers.proofs.Places.{place_found, place_behind}
use Rattle.keyword_compilers.proofs.patterns.number_of.Goals as goal

pub returns-in-Some : goal.returns-in-Some
returns-in-Some g c = place_found (bytes_eq c.args.text.now) (texts_of_table c.args.table.now) _ (sym c.in-Some.ensures)

pub returns-in-None : goal.returns-in-None
returns-in-None g c =
    c.len.ensures ∙ sym (length-map (entries_of c.args.table.now) (λ e. e.0)) ∙ place_behind (bytes_eq c.args.text.now) (texts_of_table c.args.table.now) (sym c.in-None.ensures)

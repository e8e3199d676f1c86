use Rattle.std.proofs.Common.{◌∙◌, ap, sym, if◌then◌else◌}
use Rattle.schema_drafts.specs.Counts.{counts}
use Rattle.schema_drafts.specs.Vocabularies.{all_of_draft, only}
use Rattle.schema_dialects.specs.Sets.{listed, without_siblings}
use Rattle.schema_dialects.proofs.Alike.{known_count}
use Rattle.schema_dialects.proofs.set.VocabularySet.required.Goals as goal

pub returns-else-self : goal.returns-else-self
returns-else-self c = λ draft beside_ref name.
    known_count c.args.self.now draft beside_ref name ∙ ap (λ b. counts (without_siblings draft (if b then all_of_draft else only (listed c.args.self.now))) beside_ref name) (sym c.if-self.false)

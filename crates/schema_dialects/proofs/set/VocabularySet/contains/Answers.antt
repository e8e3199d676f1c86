use Rattle.std.proofs.Common.{◌∙◌, ap, refl, sym, string_bytes}
use Rattle.std.specs.List.{list_any}
use Rattle.std.specs.BTreeMap.{is_at}
use Rattle.std.specs.Cmp.Lexicographic.{slice_cmp}
use Rattle.std.specs.Ordering.{nat_cmp}
use Rattle.schema_drafts.specs.Vocabularies as spec
use Rattle.schema_drafts.specs.Vocabularies.{is_same}
use Rattle.schema_dialects.specs.Named.{vocabulary_of}
use Rattle.schema_dialects.specs.Sets.{listed}
use Rattle.schema_dialects.proofs.Listed.{known_listed, custom_listed}
use Rattle.schema_dialects.proofs.set.VocabularySet.contains.Goals as goal

pub returns-in-Core : goal.returns-in-Core
returns-in-Core c =
    let s = c.args.self.now in
    known_listed spec.core s.known.core s (λ uri. refl) refl ∙ ap (λ v. list_any (is_same (vocabulary_of v)) (listed s)) (sym c.in-Core.is)

pub returns-in-Applicator : goal.returns-in-Applicator
returns-in-Applicator c =
    let s = c.args.self.now in
    known_listed spec.applicator s.known.applicator s (λ uri. refl) refl ∙ ap (λ v. list_any (is_same (vocabulary_of v)) (listed s)) (sym c.in-Applicator.is)

pub returns-in-Unevaluated : goal.returns-in-Unevaluated
returns-in-Unevaluated c =
    let s = c.args.self.now in
    known_listed spec.unevaluated s.known.unevaluated s (λ uri. refl) refl ∙ ap (λ v. list_any (is_same (vocabulary_of v)) (listed s)) (sym c.in-Unevaluated.is)

pub returns-in-Validation : goal.returns-in-Validation
returns-in-Validation c =
    let s = c.args.self.now in
    known_listed spec.validation s.known.validation s (λ uri. refl) refl ∙ ap (λ v. list_any (is_same (vocabulary_of v)) (listed s)) (sym c.in-Validation.is)

pub returns-in-Metadata : goal.returns-in-Metadata
returns-in-Metadata c =
    let s = c.args.self.now in
    known_listed spec.metadata s.known.metadata s (λ uri. refl) refl ∙ ap (λ v. list_any (is_same (vocabulary_of v)) (listed s)) (sym c.in-Metadata.is)

pub returns-in-Format : goal.returns-in-Format
returns-in-Format c =
    let s = c.args.self.now in
    known_listed spec.format s.known.format s (λ uri. refl) refl ∙ ap (λ v. list_any (is_same (vocabulary_of v)) (listed s)) (sym c.in-Format.is)

pub returns-in-FormatAnnotation : goal.returns-in-FormatAnnotation
returns-in-FormatAnnotation c =
    let s = c.args.self.now in
    known_listed spec.format_annotation s.known.format_annotation s (λ uri. refl) refl ∙ ap (λ v. list_any (is_same (vocabulary_of v)) (listed s)) (sym c.in-FormatAnnotation.is)

pub returns-in-FormatAssertion : goal.returns-in-FormatAssertion
returns-in-FormatAssertion c =
    let s = c.args.self.now in
    known_listed spec.format_assertion s.known.format_assertion s (λ uri. refl) refl ∙ ap (λ v. list_any (is_same (vocabulary_of v)) (listed s)) (sym c.in-FormatAssertion.is)

pub returns-in-Content : goal.returns-in-Content
returns-in-Content c =
    let s = c.args.self.now in
    known_listed spec.content s.known.content s (λ uri. refl) refl ∙ ap (λ v. list_any (is_same (vocabulary_of v)) (listed s)) (sym c.in-Content.is)

pub returns-in-Custom : goal.returns-in-Custom
returns-in-Custom c =
    let s = c.args.self.now in
    c.contains.ensures ∙ ap (λ u. list_any (is_at (λ k. slice_cmp nat_cmp u (string_bytes k))) s.custom.keys) c.as_str.ensures.value
    ∙ custom_listed (string_bytes c.in-Custom.uri) s ∙ ap (λ v. list_any (is_same (vocabulary_of v)) (listed s)) (sym c.in-Custom.is)

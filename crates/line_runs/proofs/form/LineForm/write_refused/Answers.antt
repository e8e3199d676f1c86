use Rattle.std.proofs.Common.{refl, string_bytes}
use Rattle.std.specs.List.{AllZip, concat}
use Rattle.schema_definitions.specs.Lines.{faults_text}
use Rattle.schema_reports.specs.Left.{errors_left}
use Rattle.schema_reports.specs.Told.{faults_of}
use Rattle.error_texts.specs.Objects.{HasObjects}
use Rattle.error_texts.specs.Sentences.{IsSentence}
use Rattle.line_runs.specs.Forms.{Tells}
use Rattle.line_runs.specs.declared.form.LineForm.TheVariants.{Pairs, Objects, Sentences}
use Rattle.line_runs.proofs.Refusing.{refused_text}
use Rattle.line_runs.proofs.Telling.{told_on, told_so, in_form}
use Rattle.line_runs.proofs.form.LineForm.write_refused.Goals as goal

pub returns-in-Pairs : goal.returns-in-Pairs
returns-in-Pairs c =
    let fs = faults_of (errors_left c.args.errors) in
    in_form (λ f. Tells f fs) _ Pairs c.write_faults.result _ _ c.in-Pairs.is
    (told_on (Tells Pairs fs) (string_bytes c.args.text.now) _ c.write_faults.result (faults_text fs) refl c.write_faults.ensures.ok)

pub returns-in-Objects : goal.returns-in-Objects
returns-in-Objects c =
    let es = errors_left c.args.errors in
    let fs = faults_of es in
    in_form (λ f. Tells f fs) _ Objects c.write_refused.result _ _ c.in-Objects.is
    (told_so (Tells Objects fs) (string_bytes c.args.text.now) _ c.write_refused.result (HasObjects es) (λ text. text)
    (λ text has. refused_text fs es text c.requires.some refl c.requires.proper has) c.write_refused.ensures.written)

pub returns-in-Sentences : goal.returns-in-Sentences
returns-in-Sentences c =
    let es = errors_left c.args.errors in
    let fs = faults_of es in
    let label = c.args.label.now in
    in_form (λ f. Tells f fs) _ Sentences c.write_sentences.result _ _ c.in-Sentences.is
    (told_so (Tells Sentences fs) (string_bytes c.args.text.now) _ c.write_sentences.result (λ lines. AllZip (IsSentence label) es lines) concat
    (λ lines zipped. (label, record { errors = es; lines = lines; told = refl; proper = c.requires.proper; zipped = zipped; is_text = refl })) c.write_sentences.ensures)

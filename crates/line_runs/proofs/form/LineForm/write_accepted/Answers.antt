use Rattle.std.proofs.Common.{[], codes, append-nil, refl, sym, subst, string_bytes}
use Rattle.schema_meaning.specs.Faults.{none}
use Rattle.error_texts.specs.Objects.{accepted_text}
use Rattle.line_runs.specs.Forms.{AreSentences, Tells}
use Rattle.line_runs.specs.declared.form.LineForm.{LineForm}
use Rattle.line_runs.specs.declared.form.LineForm.TheVariants.{Pairs, Objects}
use Rattle.line_runs.proofs.Telling.{told_on, pushed_on, in_form}
use Rattle.line_runs.proofs.form.LineForm.write_accepted.Goals as goal

pub returns-in-Pairs : goal.returns-in-Pairs
returns-in-Pairs c =
    in_form (λ f. Tells f none) _ Pairs c.push_str.result _ _ c.in-Pairs.is
    (pushed_on (Tells Pairs none) (string_bytes c.args.text.now) _ c.push_str.result (codes "[]") refl c.push_str.ensures.bytes)

pub returns-in-Objects : goal.returns-in-Objects
returns-in-Objects c =
    in_form (λ f. Tells f none) _ Objects c.write_accepted.result _ _ c.in-Objects.is
    (told_on (Tells Objects none) (string_bytes c.args.text.now) _ c.write_accepted.result accepted_text refl c.write_accepted.ensures.written)

pub returns-in-Sentences : goal.returns-in-Sentences
returns-in-Sentences c =
    let nothing : AreSentences [] none [] = record { errors = []; lines = []; told = refl; proper = refl; zipped = tt; is_text = refl } in
    ([], subst (λ (f : LineForm). Tells f none []) (sym c.in-Sentences.is) ([], nothing), sym (append-nil (string_bytes c.args.text.now)))

use Rattle.std.proofs.Common.{subst, string_bytes}
use Rattle.serde_json.specs.Data.{Data}
use Rattle.schema_reports.specs.Left.{errors_left}
use Rattle.schema_reports.specs.Phrases.{IsJsonText}
use Rattle.error_texts.proofs.ObjectLemmas.{refused_behind}
use Rattle.error_texts.proofs.objects.write_refused.Goals as goal

pub returns-clause-written : goal.returns-clause-written
returns-clause-written c =
    let (ds, zipped, is) = c.in_ok-refused_value.ensures in
    let json = subst (λ (d : Data). IsJsonText d (string_bytes c.in_ok-written.written)) is (record { exact = c.in_ok-written.ensures.text; order = c.in_ok-written.ensures.order }) in
    refused_behind (errors_left c.args.errors) ds zipped json c.push_str.result (string_bytes c.args.text.now) c.push_str.ensures.bytes c.as_str.ensures.value

use Rattle.std.proofs.Common.{string_bytes}
use Rattle.schema_dialects.specs.Dialects.{dialects_in}
use Rattle.schema_dialects.proofs.Dialects.{entries_alike, where_refused, one_known}
use Rattle.schema_dialects.proofs.meta_schemas.MetaSchemas.insert.Goals as goal

pub returns-in_err-insert-clause-unchanged : goal.returns-in_err-insert-clause-unchanged
unfolding dialects_in
returns-in_err-insert-clause-unchanged c = where_refused c.from_residual-in_err-insert.result (entries_alike c.args.self.now.by_uri c.insert.new.self c.in_err-insert.ensures.err)

pub returns-clause-put : goal.returns-clause-put
unfolding dialects_in
returns-clause-put c =
    one_known (string_bytes c.in_ok-from_str.field-0) c.args.uri.now c.args.self.now.by_uri c.insert.new.self c.args.dialect c.in_ok-from_str.ensures.ok c.in_ok-insert.ensures.updates

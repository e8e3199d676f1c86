use Rattle.schema_definitions.specs.CompileKeys.{CompileKey}
use Rattle.reading_laws.proofs.Counting.{are-fewer}
use Rattle.reading_laws.proofs.keys.keys_are_fewer.Goals as goal

pub returns : goal.returns
returns c = λ keys others distinct within. are-fewer {A = CompileKey} keys others distinct within

-- What a chain stands for as the code has it.
use Rattle.std.specs.Prelude.{◌≡◌, List, Bool, IfSome, option_map}
use Rattle.schema_definitions.specs.Bearers.{Document}
use Rattle.referencing.specs.Resolved.{base_of, scope_of, documents_in, siblings_in}
use Rattle.referencing.specs.Followed.{Stand, answer_in}
use Rattle.referencing.specs.declared.following.Chain.{Chain}

abbrev pub stand_of : Chain → Stand
stand_of c = record { base = base_of c.resolver; scope = scope_of c.resolver; last = option_map answer_in c.last }

-- both resolvers of a chain are over these documents, and read siblings alike
pub record IsOver (siblings : Bool) (documents : List Document) (c : Chain) : Type 0 where
  pub resolver : documents_in c.resolver ≡ documents
  pub reads : siblings_in c.resolver ≡ siblings
  pub last : IfSome c.last (λ r. documents_in r.resolver ≡ documents)
  pub last_reads : IfSome c.last (λ r. siblings_in r.resolver ≡ siblings)

use Rattle.std.proofs.Common.{◌≡◌}
use Rattle.referencing.specs.Built.{given_in, Adds, AsksAlike, BeginsAlike}
use Rattle.referencing.proofs.builder.RegistryBuilder.extend.Given as goal

abbrev pub invariant-loop-uri : goal.invariant-loop-uri
invariant-loop-uri g l = record {
  adds : Adds g.U.AsStr.text g.R.IntoRegistryResource.contents g.R.IntoRegistryResource.draft (given_in l.fn.self) l.yielded (given_in l.builder);
  draft : l.builder.draft ≡ l.fn.self.draft;
  retrieval : AsksAlike l.fn.self l.builder;
  beginning : BeginsAlike l.fn.self l.builder;
}

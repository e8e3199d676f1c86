use Rattle.location_texts.specs.Locations.{location_of}
use Rattle.schema_reports.proofs.PairLemmas.{ArePlaced}
use Rattle.schema_reports.proofs.path_pairs.PathPairs.absorb_names.Given as goal

abbrev pub invariant-loop-evaluation : goal.invariant-loop-evaluation
invariant-loop-evaluation l = ArePlaced (location_of l.fn.at) l.fn.self.pairs.items l.yielded l.self.pairs.items

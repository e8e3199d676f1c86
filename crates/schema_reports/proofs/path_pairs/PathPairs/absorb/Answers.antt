use Rattle.schema_reports.proofs.PairLemmas.{pairs_absorbed}
use Rattle.schema_reports.proofs.path_pairs.PathPairs.absorb.Goals as goal

pub returns : goal.returns
returns c = pairs_absorbed c.append.result c.args.self.now.pairs.items c.args.heard.items c.append.new.self.items c.append.ensures.items

use Rattle.schema_reports.specs.Pairs.{pair_bytes}
use Rattle.error_texts.proofs.Sorting.{sorted-in_order}
use Rattle.error_texts.proofs.faults.sorted.Goals as goal

pub returns : goal.returns
returns c = sorted-in_order pair_bytes c.args.pairs.items c.sort.new.self.items c.in_ok-sort.ensures.permutation c.in_ok-sort.ensures.sorted

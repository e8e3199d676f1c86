use Rattle.std.proofs.Common.{refl}
use Rattle.percent_encoding.specs.Percent.{percent_decode}
use Rattle.json_pointers.specs.Fragments.{fragment_text}
use Rattle.json_pointers.proofs.fragments.FragmentBuffer.new.Goals as goal

pub invariant_of-result : goal.invariant_of-result
unfolding percent_decode fragment_text
invariant_of-result c = rw c.new.ensures.bytes refl

pub returns : goal.returns
unfolding percent_decode
returns c = rw c.new.ensures.bytes refl

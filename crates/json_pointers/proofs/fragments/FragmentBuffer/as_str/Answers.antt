use Rattle.std.proofs.Common.{ap, ◌∙◌}
use Rattle.json_pointers.specs.Fragments.{is_fragment}
use Rattle.json_pointers.proofs.FragmentLemmas.{is_fragment-fragment_text}
use Rattle.json_pointers.proofs.fragments.FragmentBuffer.as_str.Goals as goal

pub returns-clause-fragment : goal.returns-clause-fragment
returns-clause-fragment c = ap is_fragment (c.as_str.ensures.value ∙ c.self.invariant) ∙ is_fragment-fragment_text _

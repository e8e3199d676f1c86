use Rattle.std.proofs.Common.{◌≡◌, ◌++◌, ◌+◌, ◌<◌, length, string_bytes, string_len, OnOk, OnErr, arith, subst}
use Rattle.std.specs.String.{string_capacity}
use Rattle.std.proofs.lemmas.List.Elements.{All-from_get_or}
use Rattle.percent_encoding.specs.Percent.{percent_decode}
use Rattle.percent_encoding.proofs.PercentLemmas.{IsByte}
use Rattle.json_pointers.proofs.FragmentLemmas.{kept_push, back_push, some_refused}
use Rattle.json_pointers.proofs.fragments.FragmentBuffer.push.Goals as goal

pub invariant_of-self : goal.invariant_of-self
invariant_of-self c =
    let old = string_bytes c.self.inside.text in
    let new = string_bytes c.append_to.new.out in
    let small = All-from_get_or IsByte c.args.text.now 0 (λ i within. omega (arith, c.type_inv.text i)) in
    kept_push c.append_to.result old c.args.text.now new c.self.invariant small
    (subst (λ t. OnOk c.append_to.result (new ≡ old ++ t)) c.utf8_percent_encode.ensures.text c.append_to.ensures.ok) c.append_to.ensures.err

pub returns-clause-ok : goal.returns-clause-ok
returns-clause-ok c =
    let old = string_bytes c.self.inside.text in
    let new = string_bytes c.append_to.new.out in
    let small = All-from_get_or IsByte c.args.text.now 0 (λ i within. omega (arith, c.type_inv.text i)) in
    let back = back_push c.append_to.result old c.args.text.now new c.self.invariant small
    (subst (λ t. OnOk c.append_to.result (new ≡ old ++ t)) c.utf8_percent_encode.ensures.text c.append_to.ensures.ok) in
    subst (λ v. OnOk c.append_to.result (percent_decode new ≡ v ++ c.args.text.now)) c.self.view_is back

pub returns-clause-memory : goal.returns-clause-memory
returns-clause-memory c =
    let room = string_capacity c.self.inside.text in
    let len = string_len c.self.inside.text in
    some_refused c.append_to.result room len c.args.text.now
    (subst (λ t. OnErr c.append_to.result (room < len + length t)) c.utf8_percent_encode.ensures.text c.append_to.ensures.full)
    c.self.inside.text.bytes.ok.1

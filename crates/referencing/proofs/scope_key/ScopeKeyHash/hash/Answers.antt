use Rattle.std.proofs.Common.{ap, ◌++◌}
use Rattle.std.specs.Hash as fed
use Rattle.referencing.proofs.KeyLemmas.{slice-fed}
use Rattle.referencing.proofs.scope_key.ScopeKeyHash.hash.Goals as goal

pub returns : goal.returns
returns g c =
    let k = c.args.self.now in
    let write = g.H.Hasher.write in
    fed.fed_along write c.args.state.now c.hash-2.new.state (ap (λ ws. ws ++ fed.str k.run.value) (slice-fed (λ u. u.value) fed.str k.bearers.items))
    (fed.fed_then write c.args.state.now c.hash.new.state c.hash-2.new.state (fed.slice (fed.option (λ u. fed.str u.value)) k.bearers.items) (fed.str k.run.value) c.hash.ensures c.hash-2.ensures)

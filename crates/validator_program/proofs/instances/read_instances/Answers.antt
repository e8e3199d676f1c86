use Rattle.std.proofs.Common.{arith, ◌≤◌, length}
use Rattle.validator_program.proofs.NamedFiles.{all_held}
use Rattle.validator_program.proofs.instances.read_instances.Goals as goal

pub returns : goal.returns
returns g c =
    let past : length c.args.names.now ≤ c.loop-name.name-index = omega (arith, c.loop-name-test.false) in
    all_held (g.F.SchemaFiles.held c.args.files.now) c.args.names.now c.loop-name.name-index c.loop-name.instances.items past c.loop-name.invariant

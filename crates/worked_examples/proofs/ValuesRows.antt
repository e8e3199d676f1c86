use Rattle.std.proofs.Common.{refl}
use Rattle.std.specs.List.{AllByRecursion}
use Rattle.std.specs.Str.{chars}
use Rattle.json_values.specs.Patterns.{unescaped}
use Rattle.worked_examples.specs.Values.{IsSo, IsRead, value_examples, code_point_examples, literal_examples}

pub values_hold : AllByRecursion IsSo value_examples
values_hold = (refl, (refl, (refl, (refl, (refl, (refl, (refl, (refl, (refl, (refl, (refl, (refl, (refl, (refl, (refl, tt)))))))))))))))

pub code_points_hold : AllByRecursion IsSo code_point_examples
unfolding chars
code_points_hold = (refl, (refl, (refl, (refl, (refl, (refl, (refl, (refl, (refl, (refl, (refl, (refl, tt))))))))))))

pub literals_hold : AllByRecursion IsRead literal_examples
unfolding unescaped
literals_hold = (refl, (refl, (refl, (refl, (refl, (refl, (refl, (refl, (refl, (refl, (refl, (refl, (refl, (refl, (refl, (refl, (refl, tt)))))))))))))))))

use Rattle.std.proofs.Common.{arith, ◌∙◌, ℕ, List, Bor, bytes_eq, sym, ap, refl}
use Rattle.std.specs.List.{list_any}
use Rattle.std.proofs.lemmas.List.{length-map}
use Rattle.serde_json.specs.View.{view}
use Rattle.schema_patterns.specs.Compiled.{found_by}
use Rattle.schema_patterns.specs.Tables.{texts_of_table, entries_of}
use Rattle.schema_patterns.specs.Texts.{texts_in}
use Rattle.schema_patterns.proofs.ReadLemmas.{all_read, more_read, text_at, none_past}
use Rattle.schema_patterns.proofs.matches.Matches.read.Goals.{in-Some+in_ok-add, in_default}
use Rattle.schema_patterns.proofs.matches.Matches.read.Goals as goal

pub loop-number-preserved : goal.loop-number-preserved
loop-number-preserved g c = λ finished made.
    let table = c.args.table.now in
    let n = c.loop-number.number in
    elim c.match-at.branch [
      | in-Some+in_ok-add w ↦
          let p = w.in-Some.pattern.now in
          let here = text_at (entries_of table) n p w.in-Some.compiled.now _ w.in-Some.ensures.entry refl in
          rw w.by_pattern-is (more_read finished (texts_in (view c.args.value.now)) (record { by_pattern = c.loop-number.by_pattern }) (record { by_pattern = w.add.new.by_pattern }) (texts_of_table table) n p
          (found_by g.M.PatternMatcher.finds w.in-Some.compiled.now) _ here.0 here.1 w.in_ok-add.ensures (made.each p w.in-Some.compiled.now w.in-Some.ensures.found) (λ t. ap (λ (ks : List (Bor (List ℕ))). list_any (λ k. bytes_eq t k.now) ks) w.as_slice.ensures.keys ∙ c.in_ok-texts.ensures t) (c.loop-number.invariant finished made))
      | in_default w ↦ absurd (none_past (entries_of table) n (omega (arith, c.len-number-end.ensures)) (sym w.in_default.ensures.entry))
    ]

pub returns : goal.returns
returns g c = λ finished made.
    all_read finished (texts_in (view c.args.value.now)) _ (texts_of_table c.args.table.now) c.loop-number.number
    (omega (arith, length-map (entries_of c.args.table.now) (λ e. e.0), c.len-number-end.ensures)) (c.loop-number.invariant finished made)

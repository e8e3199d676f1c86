use Rattle.std.proofs.Common.{◌≡◌, ◌∷◌, [], List, ℕ, map, sym, subst, string_bytes}
use Rattle.serde_json.specs.View.{view, members_view}
use Rattle.schema_definitions.specs.Rows.{Row, rows_of}
use Rattle.reached_sites.proofs.Walking.{own_of, row_here, context_of}
use Rattle.reached_sites.specs.Visits.{site_of}
use Rattle.compiled_graphs.specs.Read.{RowRead}
use Rattle.compiled_graphs.specs.Told.{TellsEach}
use Rattle.compiled_graphs.proofs.Told.{tells-none, tells-one, tells-both}
use Rattle.compiled_graphs.proofs.causes.push_of_members.Goals as goal

pub loop-name-init : goal.loop-name-init
loop-name-init g c =
    let v = c.args.visit.now in
    let makes = (g.P.PatternMaker.patterns c.args.maker.now).makes in
    let all = members_view c.args.members.now.entries in
    let old = c.args.causes.now.items in
    let same : c.args.members.now.entries ≡ c.into_iter-name-iterator.result = cc in
    record {
      filled = λ f. f;
      tells = λ f new t. subst (λ es. TellsEach (map (λ (r : Row). r.causes) (rows_of (context_of v makes all) (members_view es))) old new) (sym same) t;
    }

pub loop-name-preserved : goal.loop-name-preserved
loop-name-preserved g c =
    let v = c.args.visit.now in
    let makes = (g.P.PatternMaker.patterns c.args.maker.now).makes in
    let all = members_view c.args.members.now.entries in
    let k = string_bytes c.in-Some.name.now in
    let d = view c.in-Some.value.now in
    let known = c.loop-name.invariant in
    let rest = members_view c.next.new.self in
    let now = c.loop-name.causes.items in
    let next = c.push_some.new.causes.items in
    let same : c.as_str-name.result.now ≡ k = c.as_str-name.ensures.value in
    record {
      filled = λ f. c.in_ok-wrong.ensures.filled (known.filled f);
      tells = λ f new t.
          let read = subst (λ (n : List ℕ). RowRead (own_of v) (site_of v) (row_here v makes all n d) c.loop-name.found c.push_member.new.found c.in_ok-wrong.wrong) same (c.in_ok-wrong.ensures.read (known.filled f)) in
          let one = tells-one c.in_ok-wrong.wrong (row_here v makes all k d).causes now next read.tells c.in_ok-push_some.ensures in
          let more = tells-both ((row_here v makes all k d).causes ∷ []) (map (λ (r : Row). r.causes) (rows_of (context_of v makes all) rest)) now next new one t in
          known.tells f new (subst (λ es. TellsEach (map (λ (r : Row). r.causes) (rows_of (context_of v makes all) (members_view es))) now new) (sym c.in-Some.ensures.steps) more);
    }

pub returns-clause-filled : goal.returns-clause-filled
returns-clause-filled g c = c.loop-name.invariant.filled

pub returns-clause-tells : goal.returns-clause-tells
returns-clause-tells g c = λ f.
    let v = c.args.visit.now in
    let makes = (g.P.PatternMaker.patterns c.args.maker.now).makes in
    let all = members_view c.args.members.now.entries in
    let now = c.loop-name.causes.items in
    c.loop-name.invariant.tells f now
    (subst (λ es. TellsEach (map (λ (r : Row). r.causes) (rows_of (context_of v makes all) (members_view es))) now now) (sym c.in-None.ensures.steps.0) (tells-none now))

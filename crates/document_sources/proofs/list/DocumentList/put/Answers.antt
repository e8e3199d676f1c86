use Rattle.std.proofs.Common.{◌≡◌, ◌∙◌, ℕ, List, Option, rules, sym, String, Global}
use Rattle.std.proofs.Math.Logic.{∥∥₁_elim}
use Rattle.std.specs.BTreeMap.{BTreeMap, get_by_text}
use Rattle.std.specs.Coded.{codes}
use base.Stored.{Coded, Coded-set}
use Rattle.document_sources.specs.Given.{Given, position_in}
use Rattle.document_sources.specs.Listed.{givens_of}
use Rattle.document_sources.proofs.list.DocumentList.put.Goals as goal

known : (positions : BTreeMap (String Global) ℕ) (gs : List Given) (q : List ℕ) → ∥ ((u : List ℕ) → get_by_text positions u ≡ position_in gs u) ∥₁ → position_in gs q ≡ get_by_text positions q
known positions gs q placed =
    let coded : Coded (Option ℕ) = hlevel codes in
    ∥∥₁_elim placed (Coded-set coded _ _) (λ f. sym (f q))

pub replaced-requires : goal.replaced-requires
replaced-requires c = known c.args.self.positions (givens_of c.args.self) c.args.document.uri.value c.args.self.placed ∙ search rules

pub appended-requires : goal.appended-requires
appended-requires c = known c.args.self.positions (givens_of c.args.self) c.args.document.uri.value c.args.self.placed ∙ search rules

-- What `if` asks, `then` after it and `else` after these.
use Rattle.std.proofs.Common.{◌≡◌, List, [], ◌∷◌, ◌++◌, Bool, refl, sym, ap, ◌∙◌, append_assoc}
use Rattle.schema_meaning.specs.Questions.{Question}
use Rattle.schema_meaning.specs.Rules.{consequents}
use Rattle.schema_definitions.specs.Sites.{Site}

abbrev Consequents : Type 0
Consequents = List (Bool × Question Site)

both : (ts es : Consequents) → consequents (ts ++ es) ≡ consequents ts ++ consequents es
both [] es = refl
both (t ∷ ts) es = ap (λ qs. t.1 ∷ qs) (both ts es)

pub condition_asks : (q : Question Site) (ts es : Consequents) (done one two all : List (Question Site)) → one ≡ done ++ q ∷ [] → two ≡ one ++ consequents ts → all ≡ two ++ consequents es
    → all ≡ done ++ q ∷ consequents (ts ++ es)
condition_asks q ts es done one two all is-one is-two is-all =
    is-all ∙ ap (λ qs. qs ++ consequents es) is-two ∙ append_assoc one (consequents ts) (consequents es) ∙ ap (λ qs. qs ++ (consequents ts ++ consequents es)) is-one
    ∙ append_assoc done (q ∷ []) (consequents ts ++ consequents es) ∙ ap (λ qs. done ++ q ∷ qs) (sym (both ts es))

-- A walk that goes on.
use Rattle.std.proofs.Common.{◌≡◌, ◌∙◌, ◌⊎◌, ◌<◌, ◌≤◌, ◌+◌, ℕ, zero, suc, List, [], Bool, Option, None, IfSome, ap, subst, inl, inr, arith, length}
use Rattle.std.proofs.lemmas.List.{length-append}
use Rattle.schema_definitions.specs.Bearers.{Document}
use Rattle.schema_definitions.specs.Sites.{Site}
use Rattle.reached_sites.specs.Patterns.{IsFront}
use Rattle.reached_sites.specs.declared.cause.BuildCause as refused
use Rattle.compiled_graphs.specs.First.{IsFirstCause}
use Rattle.compiled_graphs.specs.Walked.{IsFromOne, MayGoOn, IsStopped, NoneWrong, StopsAt}
use Rattle.compiled_graphs.specs.declared.walk.AtCause.{AtCause}
use Rattle.compiled_graphs.specs.declared.walk.AtCause.TheVariants.{Stop, GoOn}

pub none-wrong : (a : AtCause) (ws : List ℕ) → ws ≡ [] → NoneWrong a ws
none-wrong Stop ws e = e
none-wrong GoOn ws e = tt

pub still-none : (a : AtCause) (old new : List ℕ) (cause : Option refused.BuildCause) → MayGoOn a cause → (cause ≡ None → new ≡ old) → NoneWrong a old → NoneWrong a new
still-none Stop old new cause m same h = same m ∙ h
still-none GoOn old new cause m same h = tt

pub stops-there : (a : AtCause) (cause : Option refused.BuildCause) (e : refused.BuildCause) (makes : List ℕ → Bool) (own : List Document) (roots : List Site) → IsStopped a cause e
    → IfSome cause (IsFromOne own makes roots) → StopsAt a makes own roots e
stops-there a cause e makes own roots h from = rw h.stops (subst (λ o. IfSome o (IsFromOne own makes roots)) h.is from)

pub first-there : (a : AtCause) (cause : Option refused.BuildCause) (e : refused.BuildCause) (makes : List ℕ → Bool) (own : List Document) (roots : List Site) (wrong : List ℕ) → IsStopped a cause e → NoneWrong a wrong
    → (wrong ≡ [] → IfSome cause (IsFirstCause own makes roots)) → IsFirstCause own makes roots e
first-there a cause e makes own roots wrong h none near =
    subst (λ o. IfSome o (IsFirstCause own makes roots)) h.is (near (subst (λ x. NoneWrong x wrong) h.stops none))

both-up : (a b : ℕ) → (a ≤ b) ⊎ (b < a) → (suc a ≤ suc b) ⊎ (suc b < suc a)
both-up a b (inl h) = inl (omega (arith, h))
both-up a b (inr h) = inr (omega (arith, h))

pub few-or-more : (a b : ℕ) → (a ≤ b) ⊎ (b < a)
few-or-more zero b = inl (omega arith)
few-or-more (suc a) zero = inr (omega arith)
few-or-more (suc a) (suc b) = both-up a b (few-or-more a b)

-- no more than a limit, or there is one more to fill
abbrev pub FewOrMore : ℕ → ℕ → ℕ → Type 0
FewOrMore visits nodes limit = (visits ≤ limit) ⊎ (nodes < visits)

pub few-where : (visits nodes limit : ℕ) → nodes ≤ limit → FewOrMore visits nodes limit
few-where visits nodes limit h = by (few-or-more visits limit)
  where
    by : (visits ≤ limit) ⊎ (limit < visits) → FewOrMore visits nodes limit
    by (inl f) = inl f
    by (inr m) = inr (omega (arith, h, m))

pub few-at-end : (visits nodes limit : ℕ) → FewOrMore visits nodes limit → visits ≤ nodes → visits ≤ limit
few-at-end visits nodes limit (inl f) h = f
few-at-end visits nodes limit (inr m) h = absurd (omega (arith, m, h))

pub front-length : {A : Type 0} (xs ys : List A) → IsFront xs ys → length xs ≤ length ys
front-length xs ys f =
    let all : length ys ≡ length xs + length f.behind = ap length f.is ∙ length-append xs f.behind in
    omega (arith, all)

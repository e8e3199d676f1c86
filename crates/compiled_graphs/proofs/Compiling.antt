-- All that was found, compiled one after another.
use Rattle.std.proofs.Common.{◌≡◌, ◌≤◌, ◌+◌, ℕ, suc, List, [], ◌∷◌, ◌++◌, Option, refl, sym, ap, subst, arith, length, append-nil, append_assoc}
use Rattle.std.proofs.lemmas.List.{length-append}
use Rattle.std.specs.List.{AllZip}
use Rattle.schema_sites.specs.declared.keyword.Keyword as read
use Rattle.compiled_keywords.specs.declared.keyword.Keyword.{Keyword}
use Rattle.compiled_keywords.specs.declared.keyword.Keyword.TheVariants as code
use Rattle.compiled_graphs.specs.Filled.{total, listed, IsCompiled, Compiled}
use Rattle.compiled_graphs.specs.Filled as filled
use Rattle.compiled_graphs.specs.declared.asking.Asking.{Asking}
use Rattle.compiled_graphs.specs.declared.asking.Asking.TheVariants as asking

pub total-append : (xs ys : List Asking) → total (xs ++ ys) ≡ total xs + total ys
total-append [] ys = (let same : total ([] ++ ys) ≡ total ys = refl in omega (arith, same))
total-append (asking.Never ∷ xs) ys = total-append xs ys
total-append (asking.Keyword k n ∷ xs) ys = (let rest = total-append xs ys in omega (arith, rest))

pub zip-length : {A B : Type 0} (R : A → B → Type 0) (xs : List A) (ys : List B) → AllZip R xs ys → length xs ≡ length ys
zip-length R [] [] h = refl
zip-length R [] (y ∷ ys) h = absurd h
zip-length R (x ∷ xs) [] h = absurd h
zip-length R (x ∷ xs) (y ∷ ys) h = ap suc (zip-length R xs ys h.1)

module _ (texts : List (List ℕ)) (all : List Asking) (numbers : List ℕ) where
  -- what is left, with the numbers that are left for it
  pub record IsLeft (left : List Asking) (rest : List ℕ) (done : List Keyword) : Type 0 where
    pub whole : (ks : List Keyword) → Compiled texts left rest ks → Compiled texts all numbers (done ++ ks)
    pub counts : total left ≡ length rest

  pub never-goes : (more : List Asking) (rest : List ℕ) (done : List Keyword) → IsLeft (asking.Never ∷ more) rest done → IsLeft more rest (done ++ code.Never ∷ [])
  never-goes more rest done h = record {
    whole = λ ks c. subst (λ l. Compiled texts all numbers l) (sym (append_assoc done (code.Never ∷ []) ks)) (h.whole (code.Never ∷ ks) (filled.refuses c));
    counts = h.counts;
  }

  pub keyword-goes : (k : read.Keyword) (n : ℕ) (more : List Asking) (mine behind : List ℕ) (done : List Keyword) (o : Option Keyword) → length mine ≡ n → IsCompiled texts k mine o
      → IsLeft (asking.Keyword k n ∷ more) (mine ++ behind) done → IsLeft more behind (done ++ listed o)
  keyword-goes k n more mine behind done o count compiled h = record {
    whole = λ ks c. subst (λ l. Compiled texts all numbers l) (sym (append_assoc done (listed o) ks)) (h.whole (listed o ++ ks) (filled.asks k n mine o count compiled c));
    counts = (let both = length-append mine behind in let sum = h.counts in omega (arith, both, sum, count));
  }

  -- where nothing is left, all is compiled
  pub all-done : (rest : List ℕ) (done : List Keyword) → IsLeft [] rest done → Compiled texts all numbers done
  all-done [] done h = subst (λ l. Compiled texts all numbers l) (append-nil done) (h.whole [] filled.none)
  all-done (n ∷ rest) done h = (let none = h.counts in absurd (omega (arith, none)))

pub fits-left : (more : List Asking) (rest : List ℕ) (k : read.Keyword) (n : ℕ) → total (asking.Keyword k n ∷ more) ≡ length rest → n ≤ length rest
fits-left more rest k n h = omega (arith, h)

-- A command of nine arguments, of which the first is required, has a value of that one in each parse.
use Rattle.std.proofs.Common.{◌≡◌, ◌∙◌, ◌<◌, ℕ, zero, suc, List, [], ◌∷◌, refl, sym, ap, arith, codes, bytes_eq, slice_index_or, if◌then◌else◌}
use Rattle.std.proofs.lemmas.Slice.Eq.{bytes_eq-Decides}
use Rattle.std.specs.List.{All}
use Rattle.clap.specs.Built.{AddsArg, AddsInTurn, FitsChain, TakesValue, HasDistinctIds}
use Rattle.clap.specs.declared.builder.arg.Arg.{Arg}
use Rattle.clap.specs.declared.builder.command.Command.{Command}
use Rattle.clap.proofs.CallerLemmas.{required_in_chain}
use Rattle.program_inputs.specs.Program.{HasSchema, IsEmpty}

-- the position of an argument by its id
abbrev position_of : List ℕ → ℕ
position_of id =
    if bytes_eq id (codes "schema") then 0
    else (if bytes_eq id (codes "files") then 1
    else (if bytes_eq id (codes "base") then 2
    else (if bytes_eq id (codes "draft") then 3
    else (if bytes_eq id (codes "meta") then 4
    else (if bytes_eq id (codes "ref-siblings") then 5
    else (if bytes_eq id (codes "output") then 6
    else (if bytes_eq id (codes "instance") then 7 else 8)))))))

module _ (a b c e u f o n k : Arg) where
  abbrev pub all_nine : List Arg
  all_nine = a ∷ b ∷ c ∷ e ∷ u ∷ f ∷ o ∷ n ∷ k ∷ []

  -- the ids of the nine arguments
  pub record Ids : Type 0 where
    pub first : a.id.now ≡ codes "schema"
    pub second : b.id.now ≡ codes "files"
    pub third : c.id.now ≡ codes "base"
    pub fourth : e.id.now ≡ codes "draft"
    pub fifth : u.id.now ≡ codes "meta"
    pub sixth : f.id.now ≡ codes "ref-siblings"
    pub seventh : o.id.now ≡ codes "output"
    pub eighth : n.id.now ≡ codes "instance"
    pub ninth : k.id.now ≡ codes "check"

  pub record Fit : Type 0 where
    pub first : FitsChain a
    pub second : FitsChain b
    pub third : FitsChain c
    pub fourth : FitsChain e
    pub fifth : FitsChain u
    pub sixth : FitsChain f
    pub seventh : FitsChain o
    pub eighth : FitsChain n
    pub ninth : FitsChain k

  placed : Ids → (j : ℕ) (d : Arg) → j < 9 → position_of (slice_index_or all_nine j d).id.now ≡ j
  placed i zero d l = rw i.first refl
  placed i (suc zero) d l = rw i.second refl
  placed i (suc (suc zero)) d l = rw i.third refl
  placed i (suc (suc (suc zero))) d l = rw i.fourth refl
  placed i (suc (suc (suc (suc zero)))) d l = rw i.fifth refl
  placed i (suc (suc (suc (suc (suc zero))))) d l = rw i.sixth refl
  placed i (suc (suc (suc (suc (suc (suc zero)))))) d l = rw i.seventh refl
  placed i (suc (suc (suc (suc (suc (suc (suc zero))))))) d l = rw i.eighth refl
  placed i (suc (suc (suc (suc (suc (suc (suc (suc zero)))))))) d l = rw i.ninth refl
  placed i (suc (suc (suc (suc (suc (suc (suc (suc (suc j))))))))) d l = absurd (omega arith)

  distinct : Ids → HasDistinctIds all_nine
  distinct i j m d g l r same =
      sym (placed i j g (omega arith))
      ∙ ap position_of ((bytes_eq-Decides (slice_index_or all_nine j g).id.now (slice_index_or all_nine m d).id.now).0 same)
      ∙ placed i m d (omega arith)

  fits : Fit → All FitsChain all_nine
  fits f zero d l = f.first
  fits f (suc zero) d l = f.second
  fits f (suc (suc zero)) d l = f.third
  fits f (suc (suc (suc zero))) d l = f.fourth
  fits f (suc (suc (suc (suc zero)))) d l = f.fifth
  fits f (suc (suc (suc (suc (suc zero))))) d l = f.sixth
  fits f (suc (suc (suc (suc (suc (suc zero)))))) d l = f.seventh
  fits f (suc (suc (suc (suc (suc (suc (suc zero))))))) d l = f.eighth
  fits f (suc (suc (suc (suc (suc (suc (suc (suc zero)))))))) d l = f.ninth
  fits f (suc (suc (suc (suc (suc (suc (suc (suc (suc j))))))))) d l = absurd (omega arith)

  pub has_schema : (start cmd : Command) → AddsInTurn AddsArg start all_nine cmd
      → IsEmpty start → Fit → TakesValue a → Ids → HasSchema cmd
  has_schema start cmd chain none f value ids = λ x p.
      rw (← ids.first) (required_in_chain start cmd all_nine 0 a x chain none.args none.groups none.globals none.negates (fits f) (distinct ids) (omega arith) value p)

use Rattle.std.proofs.Common.{◌≡◌, List, ℕ, Bool, true, false, not, refl, sym, Option, Some, None, Bor, option_map, is_some}
use Rattle.uri_grammar.specs.Texts.{is_none}
use Rattle.uri_grammar.specs.Parts.{Parts}
use Rattle.uri_references.specs.Dots.{remove_dots}
use Rattle.uri_references.specs.Resolution.{guarded, resolve, target_path, target_query}

pub some_kept : (o : Option (Bor (List ℕ))) (b : Bool) → b ≡ is_some o → not (is_none (option_map (λ t. t.now) o)) ≡ b
some_kept None b e = sym e
some_kept (Some x) b e = sym e

pub by_scheme : (base r : Parts) (p : List ℕ) → not (is_none r.scheme) ≡ true → p ≡ remove_dots r.path
    → guarded (record { scheme = r.scheme; authority = r.authority; path = p; query = r.query; fragment = r.fragment }) ≡ resolve base r
unfolding resolve
by_scheme base r p s e = rw (e, s) refl

pub by_authority : (base r : Parts) (p : List ℕ) → not (is_none r.scheme) ≡ false → not (is_none r.authority) ≡ true → p ≡ remove_dots r.path
    → guarded (record { scheme = base.scheme; authority = r.authority; path = p; query = r.query; fragment = r.fragment }) ≡ resolve base r
unfolding resolve
by_authority base r p s a e = rw (e, s, a) refl

pub by_path : (base r : Parts) (p : List ℕ) (q : Option (List ℕ)) → not (is_none r.scheme) ≡ false → not (is_none r.authority) ≡ false → p ≡ target_path base r → q ≡ target_query base r
    → guarded (record { scheme = base.scheme; authority = base.authority; path = p; query = q; fragment = r.fragment }) ≡ resolve base r
unfolding resolve
by_path base r p q s a e f = rw (e, f, s, a) refl

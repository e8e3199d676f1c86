-- Sections 5.4.1 and 5.4.2, and 6.2.2.
use Rattle.std.proofs.Common.{◌≡◌, List, [], ◌∷◌, ℕ, map, refl}
use Rattle.std.specs.Prelude.{codes}
use Rattle.uri_grammar.specs.Parts.{split}
use Rattle.uri_references.specs.Dots.{remove_dots}
use Rattle.uri_references.specs.Resolution.{resolve, resolved_text}
use Rattle.uri_references.specs.NormalForm.{normal, normal_text}

abbrev normal_references : List (List ℕ × List ℕ)
normal_references =
    (codes "g:h", codes "g:h") ∷
    (codes "g", codes "http://a/b/c/g") ∷
    (codes "./g", codes "http://a/b/c/g") ∷
    (codes "g/", codes "http://a/b/c/g/") ∷
    (codes "/g", codes "http://a/g") ∷
    (codes "//g", codes "http://g") ∷
    (codes "?y", codes "http://a/b/c/d;p?y") ∷
    (codes "g?y", codes "http://a/b/c/g?y") ∷
    (codes "#s", codes "http://a/b/c/d;p?q#s") ∷
    (codes "g#s", codes "http://a/b/c/g#s") ∷
    (codes "g?y#s", codes "http://a/b/c/g?y#s") ∷
    (codes ";x", codes "http://a/b/c/;x") ∷
    (codes "g;x", codes "http://a/b/c/g;x") ∷
    (codes "g;x?y#s", codes "http://a/b/c/g;x?y#s") ∷
    (codes "", codes "http://a/b/c/d;p?q") ∷
    (codes ".", codes "http://a/b/c/") ∷
    (codes "./", codes "http://a/b/c/") ∷
    (codes "..", codes "http://a/b/") ∷
    (codes "../", codes "http://a/b/") ∷
    (codes "../g", codes "http://a/b/g") ∷
    (codes "../..", codes "http://a/") ∷
    (codes "../../", codes "http://a/") ∷
    (codes "../../g", codes "http://a/g") ∷
    []

normal_examples : map (λ e. resolved_text (codes "http://a/b/c/d;p?q") e.0) normal_references ≡ map (λ e. e.1) normal_references
unfolding resolve split remove_dots
normal_examples = refl

abbrev abnormal_references : List (List ℕ × List ℕ)
abnormal_references =
    (codes "../../../g", codes "http://a/g") ∷
    (codes "../../../../g", codes "http://a/g") ∷
    (codes "/./g", codes "http://a/g") ∷
    (codes "/../g", codes "http://a/g") ∷
    (codes "g.", codes "http://a/b/c/g.") ∷
    (codes ".g", codes "http://a/b/c/.g") ∷
    (codes "g..", codes "http://a/b/c/g..") ∷
    (codes "..g", codes "http://a/b/c/..g") ∷
    (codes "./../g", codes "http://a/b/g") ∷
    (codes "./g/.", codes "http://a/b/c/g/") ∷
    (codes "g/./h", codes "http://a/b/c/g/h") ∷
    (codes "g/../h", codes "http://a/b/c/h") ∷
    (codes "g;x=1/./y", codes "http://a/b/c/g;x=1/y") ∷
    (codes "g;x=1/../y", codes "http://a/b/c/y") ∷
    (codes "g?y/./x", codes "http://a/b/c/g?y/./x") ∷
    (codes "g?y/../x", codes "http://a/b/c/g?y/../x") ∷
    (codes "g#s/./x", codes "http://a/b/c/g#s/./x") ∷
    (codes "g#s/../x", codes "http://a/b/c/g#s/../x") ∷
    (codes "http:g", codes "http:g") ∷
    []

abnormal_examples : map (λ e. resolved_text (codes "http://a/b/c/d;p?q") e.0) abnormal_references ≡ map (λ e. e.1) abnormal_references
unfolding resolve split remove_dots
abnormal_examples = refl

upward : resolved_text (codes "http://a.test/x/y?q") (codes "../z") ≡ codes "http://a.test/z"
unfolding resolve split remove_dots
upward = refl

without_a_scheme : resolved_text (codes "json-schema:///") (codes "leaf.json") ≡ codes "json-schema:///leaf.json"
unfolding resolve split remove_dots
without_a_scheme = refl

guarded_target : resolved_text (codes "a:/b") (codes "..//c") ≡ codes "a:/.//c"
unfolding resolve split remove_dots
guarded_target = refl

rootless_base : resolved_text (codes "a:b") (codes "c") ≡ codes "a:c"
unfolding resolve split remove_dots
rootless_base = refl

bare_base : resolved_text (codes "a://h") (codes "c") ≡ codes "a://h/c"
unfolding resolve split remove_dots
bare_base = refl

guard_stays : resolved_text (codes "a:/b") (codes "/.//c") ≡ codes "a:/.//c"
unfolding resolve split remove_dots
guard_stays = refl

example : normal_text (codes "example://a/b/c/%7Bfoo%7D") ≡ codes "example://a/b/c/%7Bfoo%7D"
unfolding normal split remove_dots
example = refl

example_again : normal_text (codes "eXAMPLE://a/./b/../b/%63/%7bfoo%7d") ≡ codes "example://a/b/c/%7Bfoo%7D"
unfolding normal split remove_dots
example_again = refl

case_of_host : normal_text (codes "HTTP://www.EXAMPLE.com/") ≡ codes "http://www.example.com/"
unfolding normal split remove_dots
case_of_host = refl

case_of_triplets : normal_text (codes "a:%3a") ≡ codes "a:%3A"
unfolding normal split remove_dots
case_of_triplets = refl

tilde : normal_text (codes "a:/%7Esmith") ≡ codes "a:/~smith"
unfolding normal split remove_dots
tilde = refl

all_rules : normal_text (codes "HTTP://A.Test/%7eb/./c/../d") ≡ codes "http://a.test/~b/d"
unfolding normal split remove_dots
all_rules = refl

decoded_then_lowered : normal_text (codes "a://%41%C3B") ≡ codes "a://a%C3b"
unfolding normal split remove_dots
decoded_then_lowered = refl

user_stays : normal_text (codes "a://U%73er@H:80/P") ≡ codes "a://User@h:80/P"
unfolding normal split remove_dots
user_stays = refl

address : normal_text (codes "a://[FE80::A]:1/") ≡ codes "a://[fe80::a]:1/"
unfolding normal split remove_dots
address = refl

guarded : normal_text (codes "a:/..//b") ≡ codes "a:/.//b"
unfolding normal split remove_dots
guarded = refl

guard_needed : normal_text (codes "a:/.//b") ≡ codes "a:/.//b"
unfolding normal split remove_dots
guard_needed = refl

dots_in_triplets : normal_text (codes "a:/b/%2E%2e/c") ≡ codes "a:/c"
unfolding normal split remove_dots
dots_in_triplets = refl

relative : normal_text (codes "../%7Ea") ≡ codes "../~a"
unfolding normal split remove_dots
relative = refl

empty_fragment : normal_text (codes "a:#") ≡ codes "a:#"
unfolding normal split remove_dots
empty_fragment = refl

no_second_decoding : normal_text (codes "a:%25%34%31") ≡ codes "a:%2541"
unfolding normal split remove_dots
no_second_decoding = refl

long : normal_text (codes "https://Json-Schema.Org/draft/2020-12/vocab/./applicator/%7euser/%41%42%43/aaaaaaaaaaaaaaaaaaaaaaaa/../../bbbbbbbbbbbbbbbbbbbbbbbbbbbbbbbbbbbbbbbb/x.json?query=%2f%2F#frag") ≡ codes "https://json-schema.org/draft/2020-12/vocab/applicator/~user/bbbbbbbbbbbbbbbbbbbbbbbbbbbbbbbbbbbbbbbb/x.json?query=%2F%2F#frag"
unfolding normal split remove_dots
long = refl

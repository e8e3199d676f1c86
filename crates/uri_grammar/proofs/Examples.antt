-- The definitions on examples: those of RFC 3986 (sections 1.1.2 and 3), and texts that are no references.
use Rattle.std.proofs.Common.{◌≡◌, List, ℕ, [], ◌∷◌, Bool, true, false, not, refl}
use Rattle.std.specs.Prelude.{codes, Some, None}
use Rattle.std.specs.List.{list_all}
use Rattle.uri_grammar.specs.Parts.{split}
use Rattle.uri_grammar.specs.Addresses.{is_ipv6_address}
use Rattle.uri_grammar.specs.Grammar.{is_reference, is_uri, authority_parts}

abbrev a_uri : List ℕ → Bool
a_uri text = is_uri (split text)

abbrev a_reference : List ℕ → Bool
a_reference text = is_reference (split text)

abbrev no_reference : List ℕ → Bool
no_reference text = not (is_reference (split text))

-- the picture in section 3
five-components : split (codes "foo://example.com:8042/over/there?name=ferret#nose") ≡ record { scheme = Some (codes "foo"); authority = Some (codes "example.com:8042"); path = codes "/over/there"; query = Some (codes "name=ferret"); fragment = Some (codes "nose") }
unfolding split
five-components = refl

path-alone : split (codes "urn:example:animal:ferret:nose") ≡ record { scheme = Some (codes "urn"); authority = None; path = codes "example:animal:ferret:nose"; query = None; fragment = None }
unfolding split
path-alone = refl

empty-components : split (codes "//?#") ≡ record { scheme = None; authority = Some (codes ""); path = codes ""; query = Some (codes ""); fragment = Some (codes "") }
unfolding split
empty-components = refl

-- the examples of section 1.1.2
uris : list_all a_uri (codes "ftp://ftp.is.co.za/rfc/rfc1808.txt" ∷ codes "http://www.ietf.org/rfc/rfc2396.txt" ∷ codes "ldap://[2001:db8::7]/c=GB?objectClass?one" ∷ codes "mailto:John.Doe@example.com" ∷ codes "news:comp.infosystems.www.servers.unix" ∷ codes "tel:+1-816-555-1212" ∷ codes "telnet://192.0.2.16:80/" ∷ codes "urn:oasis:names:specification:docbook:dtd:xml:4.1.2" ∷ []) ≡ true
unfolding split is_reference is_ipv6_address
uris = refl

relative : list_all a_reference (codes "" ∷ codes "#" ∷ codes "?" ∷ codes "//" ∷ codes "/" ∷ codes "a/b:c" ∷ codes "./1:2" ∷ codes "//a@b:1" ∷ codes "%7E" ∷ codes "a%2fb" ∷ codes "?a/b?c" ∷ codes "#a/b?c" ∷ []) ≡ true
unfolding split is_reference
relative = refl

not-uri : a_uri (codes "//example.com/a") ≡ false
unfolding split is_reference
not-uri = refl

bad-triplets : list_all no_reference (codes "%zz" ∷ codes "%" ∷ codes "%2" ∷ codes "a%4g" ∷ codes "#%zz" ∷ codes "?%f" ∷ codes "//%x0/" ∷ []) ≡ true
unfolding split is_reference
bad-triplets = refl

bad-characters : list_all no_reference (codes "a b" ∷ codes "a#b#c" ∷ codes "<a>" ∷ codes "a\\b" ∷ codes "[" ∷ codes "a^" ∷ (195 ∷ 188 ∷ []) ∷ (0 ∷ []) ∷ []) ≡ true
unfolding split is_reference
bad-characters = refl

bad-schemes : list_all no_reference (codes "1:2" ∷ codes "1a://b" ∷ codes ":a" ∷ codes "a_b:c" ∷ codes "a%41:c" ∷ []) ≡ true
unfolding split is_reference
bad-schemes = refl

bad-authorities : list_all no_reference (codes "//a:b" ∷ codes "//a:1:2" ∷ codes "//a@b@c" ∷ codes "//[::1" ∷ codes "//::1]" ∷ codes "//[::1]a" ∷ codes "//[::1]:a" ∷ codes "//[]" ∷ codes "//a[::1]" ∷ codes "//[::1]]" ∷ []) ≡ true
unfolding split is_reference is_ipv6_address
bad-authorities = refl

authority-of-three : authority_parts (codes "user:key@[::1]:443") ≡ record { userinfo = Some (codes "user:key"); host = codes "[::1]"; port = Some (codes "443") }
authority-of-three = refl

authority-in-brackets : authority_parts (codes "[2001:db8::7]") ≡ record { userinfo = None; host = codes "[2001:db8::7]"; port = None }
authority-in-brackets = refl

-- Addresses of RFC 4291 (section 2.2) and RFC 3986 (section 3.2.2), and texts that are none.
use Rattle.std.proofs.Common.{◌≡◌, [], ◌∷◌, true, not, refl}
use Rattle.std.specs.Prelude.{codes}
use Rattle.std.specs.List.{list_all}
use Rattle.uri_grammar.specs.Addresses.{is_ipv6_address, is_ip_future, is_dec_octet}

ipv6 : list_all is_ipv6_address (codes "2001:DB8:0:0:8:800:200C:417A" ∷ codes "FF01:0:0:0:0:0:0:101" ∷ codes "::1" ∷ codes "::" ∷ codes "2001:DB8::8:800:200C:417A" ∷ codes "0:0:0:0:0:0:13.1.68.3" ∷ codes "::FFFF:129.144.52.38" ∷ codes "1:2:3:4:5:6:7::" ∷ codes "::2:3:4:5:6:7:8" ∷ codes "1::8" ∷ codes "1:2:3:4:5::192.0.2.1" ∷ []) ≡ true
unfolding is_ipv6_address
ipv6 = refl

not-ipv6 : list_all (λ a. not (is_ipv6_address a)) (codes "" ∷ codes "1:2:3" ∷ codes "1::2::3" ∷ codes "12345::" ∷ codes "::256.0.0.1" ∷ codes "::1.2.3" ∷ codes "::01.2.3.4" ∷ codes ":::" ∷ codes ":1::2" ∷ codes "1::2:" ∷ codes "1:2:3:4:5:6:7:8:9" ∷ codes "1:2:3:4::5:6:7:8" ∷ codes "1:2:3:4:5:6:7:1.2.3.4" ∷ codes "1.2.3.4::" ∷ codes "::g" ∷ codes "1.2.3.4" ∷ []) ≡ true
unfolding is_ipv6_address
not-ipv6 = refl

future : list_all is_ip_future (codes "v1.a" ∷ codes "VF0.:" ∷ codes "v1a.fe80::a+en1" ∷ []) ≡ true
future = refl

not-future : list_all (λ a. not (is_ip_future a)) (codes "v.x" ∷ codes "v1." ∷ codes "vg.x" ∷ codes "1.x" ∷ codes "v1" ∷ codes "v1.%41" ∷ codes "v1.a/" ∷ []) ≡ true
not-future = refl

octets : list_all is_dec_octet (codes "0" ∷ codes "9" ∷ codes "10" ∷ codes "99" ∷ codes "100" ∷ codes "199" ∷ codes "200" ∷ codes "249" ∷ codes "250" ∷ codes "255" ∷ []) ≡ true
octets = refl

not-octets : list_all (λ a. not (is_dec_octet a)) (codes "" ∷ codes "00" ∷ codes "01" ∷ codes "256" ∷ codes "260" ∷ codes "300" ∷ codes "1000" ∷ codes "1a" ∷ []) ≡ true
not-octets = refl

-- What borrowed components, and the borrowed parts of an authority, stand for.
use Rattle.std.specs.Prelude.{option_map}
use Rattle.uri_grammar.specs.Parts.{Parts}
use Rattle.uri_grammar.specs.Grammar.{AuthorityParts}
use Rattle.uri_grammar.specs.declared.components.Components.{Components}
use Rattle.uri_grammar.specs.declared.grammar.Authority.{Authority}

abbrev pub parts_of : Components → Parts
parts_of c = record {
  scheme = option_map (λ t. t.now) c.scheme;
  authority = option_map (λ t. t.now) c.authority;
  path = c.path.now;
  query = option_map (λ t. t.now) c.query;
  fragment = option_map (λ t. t.now) c.fragment;
}

abbrev pub authority_parts_of : Authority → AuthorityParts
authority_parts_of a = record {
  userinfo = option_map (λ t. t.now) a.userinfo;
  host = a.host.now;
  port = option_map (λ t. t.now) a.port;
}

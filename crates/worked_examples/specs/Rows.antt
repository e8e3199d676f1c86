-- Documents, a root and an instance, with the paths of the faults that the standard gives them.
use Rattle.std.specs.Prelude.{◌≡◌, ℕ, List, [], ◌∷◌, Some, codes}
use Rattle.schema_drafts.specs.declared.draft.Draft.{Draft}
use Rattle.schema_drafts.specs.declared.draft.Draft.TheVariants.{Draft4, Draft7, Draft201909, Draft202012}
use Rattle.worked_examples.specs.DocumentTexts.{documents, line}

pub record Row : Type 0 where
  pub draft : Draft
  pub texts : List (List ℕ × List ℕ)
  pub root : List ℕ
  pub unfoldings : ℕ
  pub instance : List ℕ
  pub faults : List (List ℕ × List ℕ)

abbrev pub Holds : Row → Type 0
Holds r = line (documents r.draft r.texts) r.unfoldings r.root r.instance ≡ Some r.faults

abbrev pub references : List Row
references =
    record {
      draft = Draft202012;
      texts = (codes "http://a.test/root.json", codes "{\"$id\":\"http://a.test/root.json\",\"type\":\"array\",\"minItems\":2,\"items\":{\"$ref\":\"leaf.json\"}}") ∷ (codes "http://a.test/leaf.json", codes "{\"$id\":\"http://a.test/leaf.json\",\"type\":\"string\"}") ∷ [];
      root = codes "http://a.test/root.json";
      unfoldings = 2;
      instance = codes "[1]";
      faults = ((codes "/0", codes "/items/$ref/type") ∷ ([], codes "/minItems") ∷ []);
    }
    ∷ record {
      draft = Draft202012;
      texts = (codes "http://a.test/root.json", codes "{\"$id\":\"http://a.test/root.json\",\"type\":\"array\",\"minItems\":2,\"items\":{\"$ref\":\"leaf.json\"},\"$defs\":{\"leaf\":{\"$id\":\"http://a.test/leaf.json\",\"type\":\"string\"}}}") ∷ [];
      root = codes "http://a.test/root.json";
      unfoldings = 2;
      instance = codes "[1]";
      faults = ((codes "/0", codes "/items/$ref/type") ∷ ([], codes "/minItems") ∷ []);
    }
    ∷ record {
      draft = Draft7;
      texts = (codes "json-schema:///", codes "{\"properties\":{\"x\":{\"$ref\":\"#/definitions/s\",\"minimum\":10}},\"definitions\":{\"s\":{\"type\":\"integer\"}}}") ∷ [];
      root = [];
      unfoldings = 2;
      instance = codes "{\"x\":3}";
      faults = [];
    }
    ∷ record {
      draft = Draft202012;
      texts = (codes "json-schema:///", codes "{\"properties\":{\"x\":{\"$ref\":\"#/$defs/s\",\"minimum\":10}},\"$defs\":{\"s\":{\"type\":\"integer\"}}}") ∷ [];
      root = [];
      unfoldings = 2;
      instance = codes "{\"x\":3}";
      faults = ((codes "/x", codes "/properties/x/minimum") ∷ []);
    }
    ∷ record {
      draft = Draft202012;
      texts = (codes "json-schema:///", codes "{\"$ref\":\"#/$defs/node\",\"$defs\":{\"node\":{\"type\":\"object\",\"properties\":{\"next\":{\"$ref\":\"#/$defs/node\"},\"v\":{\"type\":\"integer\"}}}}}") ∷ [];
      root = [];
      unfoldings = 3;
      instance = codes "{\"v\":1,\"next\":{\"v\":\"x\"}}";
      faults = ((codes "/next/v", codes "/$ref/properties/next/$ref/properties/v/type") ∷ []);
    }
    ∷ record {
      draft = Draft202012;
      texts = (codes "json-schema:///", codes "{\"propertyNames\":{\"$ref\":\"#/$defs/s\"},\"$defs\":{\"s\":{\"minLength\":2}}}") ∷ [];
      root = [];
      unfoldings = 2;
      instance = codes "{\"a\":1}";
      faults = (([], codes "/propertyNames/$ref/minLength") ∷ []);
    }
    ∷ record {
      draft = Draft202012;
      texts = (codes "json-schema:///", codes "{\"properties\":{\"a/b\":{\"type\":\"string\"}}}") ∷ [];
      root = [];
      unfoldings = 2;
      instance = codes "{\"a/b\":1}";
      faults = ((codes "/a~1b", codes "/properties/a~1b/type") ∷ []);
    }
    ∷ []

abbrev pub scopes : List Row
scopes =
    record {
      draft = Draft202012;
      texts = (codes "http://a.test/list", codes "{\"$id\":\"http://a.test/list\",\"type\":\"array\",\"items\":{\"$dynamicRef\":\"#item\"},\"$defs\":{\"d\":{\"$dynamicAnchor\":\"item\"}}}") ∷ (codes "http://a.test/strings", codes "{\"$id\":\"http://a.test/strings\",\"$ref\":\"list\",\"$defs\":{\"s\":{\"$dynamicAnchor\":\"item\",\"type\":\"string\"}}}") ∷ [];
      root = codes "http://a.test/strings";
      unfoldings = 2;
      instance = codes "[\"a\",1]";
      faults = ((codes "/1", codes "/$ref/items/$dynamicRef/type") ∷ []);
    }
    ∷ record {
      draft = Draft202012;
      texts = (codes "http://a.test/list", codes "{\"$id\":\"http://a.test/list\",\"type\":\"array\",\"items\":{\"$dynamicRef\":\"#item\"},\"$defs\":{\"d\":{\"$dynamicAnchor\":\"item\"}}}") ∷ (codes "http://a.test/strings", codes "{\"$id\":\"http://a.test/strings\",\"$ref\":\"list\",\"$defs\":{\"s\":{\"$dynamicAnchor\":\"item\",\"type\":\"string\"}}}") ∷ [];
      root = codes "http://a.test/list";
      unfoldings = 2;
      instance = codes "[\"a\",1]";
      faults = [];
    }
    ∷ record {
      draft = Draft201909;
      texts = (codes "http://a.test/tree", codes "{\"$id\":\"http://a.test/tree\",\"$recursiveAnchor\":true,\"properties\":{\"c\":{\"items\":{\"$recursiveRef\":\"#\"}}}}") ∷ (codes "http://a.test/strict", codes "{\"$id\":\"http://a.test/strict\",\"$recursiveAnchor\":true,\"$ref\":\"tree\",\"required\":[\"v\"]}") ∷ [];
      root = codes "http://a.test/strict";
      unfoldings = 3;
      instance = codes "{\"v\":1,\"c\":[{}]}";
      faults = ((codes "/c/0", codes "/$ref/properties/c/items/$recursiveRef/required") ∷ []);
    }
    ∷ record {
      draft = Draft201909;
      texts = (codes "http://a.test/tree", codes "{\"$id\":\"http://a.test/tree\",\"$recursiveAnchor\":true,\"properties\":{\"c\":{\"items\":{\"$recursiveRef\":\"#\"}}}}") ∷ (codes "http://a.test/strict", codes "{\"$id\":\"http://a.test/strict\",\"$recursiveAnchor\":true,\"$ref\":\"tree\",\"required\":[\"v\"]}") ∷ [];
      root = codes "http://a.test/tree";
      unfoldings = 3;
      instance = codes "{\"v\":1,\"c\":[{}]}";
      faults = [];
    }
    ∷ record {
      draft = Draft202012;
      texts = (codes "http://a.test/list", codes "{\"$id\":\"http://a.test/list\",\"type\":\"array\",\"items\":{\"$dynamicRef\":\"#item\"},\"$defs\":{\"d\":{\"$dynamicAnchor\":\"item\"}}}") ∷ (codes "http://a.test/strings", codes "{\"$id\":\"http://a.test/strings\",\"$ref\":\"list\",\"$defs\":{\"s\":{\"$dynamicAnchor\":\"item\",\"type\":\"string\"}}}") ∷ (codes "http://a.test/both", codes "{\"properties\":{\"l\":{\"$ref\":\"list\"},\"s\":{\"$ref\":\"strings\"}}}") ∷ [];
      root = codes "http://a.test/both";
      unfoldings = 3;
      instance = codes "{\"l\":[1],\"s\":[1]}";
      faults = ((codes "/s/0", codes "/properties/s/$ref/$ref/items/$dynamicRef/type") ∷ []);
    }
    ∷ []

abbrev pub vocabularies : List Row
vocabularies =
    record {
      draft = Draft202012;
      texts = (codes "http://a.test/meta", codes "{\"$schema\":\"https://json-schema.org/draft/2020-12/schema\",\"$id\":\"http://a.test/meta\",\"$vocabulary\":{\"https://json-schema.org/draft/2020-12/vocab/core\":true,\"https://json-schema.org/draft/2020-12/vocab/applicator\":true}}") ∷ (codes "json-schema:///", codes "{\"$schema\":\"http://a.test/meta\",\"properties\":{\"a\":false},\"required\":[\"b\",\"c\"]}") ∷ [];
      root = [];
      unfoldings = 2;
      instance = codes "{}";
      faults = [];
    }
    ∷ record {
      draft = Draft202012;
      texts = (codes "http://a.test/meta", codes "{\"$schema\":\"https://json-schema.org/draft/2020-12/schema\",\"$id\":\"http://a.test/meta\",\"$vocabulary\":{\"https://json-schema.org/draft/2020-12/vocab/core\":true,\"https://json-schema.org/draft/2020-12/vocab/applicator\":true}}") ∷ (codes "json-schema:///", codes "{\"$schema\":\"http://a.test/meta\",\"properties\":{\"a\":false},\"required\":[\"b\",\"c\"]}") ∷ [];
      root = [];
      unfoldings = 2;
      instance = codes "{\"a\":1}";
      faults = ((codes "/a", codes "/properties/a") ∷ []);
    }
    ∷ record {
      draft = Draft4;
      texts = (codes "json-schema:///", codes "{\"minimum\":5,\"exclusiveMinimum\":true}") ∷ [];
      root = [];
      unfoldings = 2;
      instance = codes "5";
      faults = (([], codes "/exclusiveMinimum") ∷ []);
    }
    ∷ record {
      draft = Draft4;
      texts = (codes "json-schema:///", codes "{\"minimum\":5,\"exclusiveMinimum\":true}") ∷ [];
      root = [];
      unfoldings = 2;
      instance = codes "6";
      faults = [];
    }
    ∷ record {
      draft = Draft7;
      texts = (codes "json-schema:///", codes "{\"contains\":{\"type\":\"integer\"},\"minContains\":2,\"maxContains\":2}") ∷ [];
      root = [];
      unfoldings = 2;
      instance = codes "[1]";
      faults = [];
    }
    ∷ record {
      draft = Draft7;
      texts = (codes "json-schema:///", codes "{\"items\":[{}],\"additionalItems\":false}") ∷ [];
      root = [];
      unfoldings = 2;
      instance = codes "[1,2]";
      faults = (([], codes "/additionalItems") ∷ []);
    }
    ∷ record {
      draft = Draft202012;
      texts = (codes "json-schema:///", codes "{\"prefixItems\":[{\"type\":\"string\"}],\"items\":false}") ∷ [];
      root = [];
      unfoldings = 2;
      instance = codes "[\"a\",1]";
      faults = ((codes "/1", codes "/items") ∷ []);
    }
    ∷ []

abbrev pub neighbours : List Row
neighbours =
    record {
      draft = Draft202012;
      texts = (codes "json-schema:///", codes "{\"properties\":{\"a\":{\"type\":\"integer\"}},\"additionalProperties\":false,\"required\":[\"a\"]}") ∷ [];
      root = [];
      unfoldings = 2;
      instance = codes "{\"b\":1}";
      faults = (([], codes "/additionalProperties") ∷ ([], codes "/required") ∷ []);
    }
    ∷ record {
      draft = Draft202012;
      texts = (codes "json-schema:///", codes "{\"contains\":{\"type\":\"integer\"},\"maxContains\":1}") ∷ [];
      root = [];
      unfoldings = 2;
      instance = codes "[\"a\"]";
      faults = (([], codes "/maxContains") ∷ []);
    }
    ∷ record {
      draft = Draft202012;
      texts = (codes "json-schema:///", codes "{\"dependentRequired\":{\"a\":[\"b\",\"c\"]}}") ∷ [];
      root = [];
      unfoldings = 2;
      instance = codes "{\"a\":1}";
      faults = (([], codes "/dependentRequired") ∷ ([], codes "/dependentRequired") ∷ []);
    }
    ∷ record {
      draft = Draft202012;
      texts = (codes "json-schema:///", codes "{\"if\":{\"minimum\":0},\"then\":{\"multipleOf\":2},\"else\":{\"multipleOf\":2}}") ∷ [];
      root = [];
      unfoldings = 2;
      instance = codes "-1";
      faults = (([], codes "/else/multipleOf") ∷ []);
    }
    ∷ record {
      draft = Draft202012;
      texts = (codes "json-schema:///", codes "{\"if\":{\"minimum\":0},\"then\":{\"multipleOf\":2},\"else\":{\"multipleOf\":2}}") ∷ [];
      root = [];
      unfoldings = 2;
      instance = codes "3";
      faults = (([], codes "/then/multipleOf") ∷ []);
    }
    ∷ record {
      draft = Draft202012;
      texts = (codes "json-schema:///", codes "{\"additionalProperties\":false,\"properties\":{\"foo\":{\"type\":\"string\"}},\"patternProperties\":{\"^bar\":{\"minimum\":5},\"^spam$\":{\"maximum\":10}}}") ∷ [];
      root = [];
      unfoldings = 2;
      instance = codes "{\"bar\":4,\"spam\":11,\"foo\":3,\"faz\":1}";
      faults = (([], codes "/additionalProperties") ∷ (codes "/bar", codes "/patternProperties/^bar/minimum") ∷ (codes "/spam", codes "/patternProperties/^spam$/maximum") ∷ (codes "/foo", codes "/properties/foo/type") ∷ []);
    }
    ∷ record {
      draft = Draft202012;
      texts = (codes "json-schema:///", codes "{\"properties\":{\"a\":{\"type\":\"string\"}},\"required\":[\"a\",\"b\"]}") ∷ [];
      root = [];
      unfoldings = 2;
      instance = codes "{\"a\":1}";
      faults = ((codes "/a", codes "/properties/a/type") ∷ ([], codes "/required") ∷ []);
    }
    ∷ record {
      draft = Draft202012;
      texts = (codes "json-schema:///", codes "true") ∷ [];
      root = [];
      unfoldings = 2;
      instance = codes "{}";
      faults = [];
    }
    ∷ record {
      draft = Draft202012;
      texts = (codes "json-schema:///", codes "false") ∷ [];
      root = [];
      unfoldings = 2;
      instance = codes "{}";
      faults = (([], []) ∷ []);
    }
    ∷ []

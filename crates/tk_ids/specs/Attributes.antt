-- Which attributes an item may have.
use Rattle.std.specs.Prelude.{◌≡◌, ℕ, List, length, map, Bool, ◌&&◌, ◌==◌, nat_le}
use Rattle.std.specs.Set.{distinct_count}
use Rattle.std.specs.Str.{bytes_eq}
use Rattle.tk_ids.specs.declared.attr.AttrKind.{AttrKind}
use Rattle.tk_ids.specs.declared.attr.AttrKind.TheVariants as kind
use Rattle.tk_ids.specs.declared.attr.AttrValue.{AttrValue}
use Rattle.tk_ids.specs.declared.attr.AttrValue.TheVariants as value
use Rattle.tk_ids.specs.declared.attr.AttrSpec.{AttrSpec}
use Rattle.tk_ids.specs.declared.attr.AttrInfo.{AttrInfo}

-- what kind a value is of
abbrev pub kind_of : AttrValue → AttrKind
kind_of (value.U64 n) = kind.U64
kind_of (value.Bool b) = kind.Bool
kind_of (value.I64 n) = kind.I64

-- no name stands twice: there are as many different names as names
abbrev pub are_distinct : List (List ℕ) → Bool
are_distinct names = distinct_count bytes_eq names == length names

-- an item has at most 6 attributes, and no two of one name
abbrev pub are_attributes : List (List ℕ) → Bool
are_attributes names = nat_le (length names) 6 && are_distinct names

-- the names of attributes as their item declares them
abbrev pub spec_names : List AttrSpec → List (List ℕ)
spec_names attrs = map (λ (a : AttrSpec). a.name) attrs

-- the names of attributes as their item shows them
abbrev pub info_names : List AttrInfo → List (List ℕ)
info_names attrs = map (λ (a : AttrInfo). a.name) attrs

-- the kinds of values
abbrev pub kinds_of : List AttrValue → List AttrKind
kinds_of values = map kind_of values

-- values are as many as the attributes, and each of its attribute's kind
abbrev pub HaveKinds : List AttrInfo → List AttrValue → Type 0
HaveKinds attrs values = kinds_of values ≡ map (λ (a : AttrInfo). a.kind) attrs

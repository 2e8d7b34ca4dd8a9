-- The attributes that a command declares.
use Rattle.std.specs.Prelude.{ℕ, ◌+◌, ◌==◌, List, [], ◌∷◌, ◌++◌, take, drop, fold, position, if◌then◌else◌, true, false, codes, Option, Some, None, option_map, option_and_then}
use Rattle.std.specs.Option.{option_or}
use Rattle.std.specs.Str.{bytes_eq}
use Rattle.tk_ids.specs.Attributes.{are_attributes, spec_names}
use Rattle.tk_ids.specs.Names.{is_name}
use Rattle.tk_ids.specs.declared.attr.AttrSpec.{AttrSpec}
use Rattle.tk_ids.specs.declared.attr.AttrValue.{AttrValue}
use Rattle.tk_ids.specs.declared.attr.AttrValue.TheVariants.{U64, Bool, I64}
use Rattle.tk_script.specs.Words.{moment, signed}

-- a value is a decimal, with a sign where it is signed, or `true` or `false`
abbrev pub value_of : List ℕ → Option AttrValue
value_of word = if bytes_eq word (codes "true") then Some (Bool true) else (if bytes_eq word (codes "false") then Some (Bool false) else option_or (option_map U64 (moment word)) (option_map I64 (signed word)))

-- an attribute of this name, with the value that it has first. It has no unit
abbrev pub attr_spec : List ℕ → AttrValue → AttrSpec
attr_spec name first = record { name = name; unit = None; first = first }

-- a name and a value
abbrev pub named_value : List ℕ → List ℕ → Option AttrSpec
named_value name word = if is_name name then option_map (attr_spec name) (value_of word) else None

-- the attribute that a word declares: it is cut at its first `=`
abbrev pub attr : List ℕ → Option AttrSpec
attr word = option_and_then (λ at. named_value (take at word) (drop (at + 1) word)) (position (λ b. b == 61) word)

-- attributes, and the one that a word declares, if it declares one
abbrev pub and_word : Option (List AttrSpec) → List ℕ → Option (List AttrSpec)
and_word attrs word = option_and_then (λ a. option_map (λ more. a ++ more ∷ []) (attr word)) attrs

-- the attributes that words declare: at most 6, no two of one name
abbrev pub attrs_by : List (List ℕ) → Option (List AttrSpec)
attrs_by words = option_and_then (λ a. if are_attributes (spec_names a) then Some a else None) (fold and_word (Some []) words)

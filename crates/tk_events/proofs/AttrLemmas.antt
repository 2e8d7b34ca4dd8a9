-- What stays of attributes has their names and kinds, and there are at most six.
use Rattle.std.proofs.Common.{◌≡◌, ℕ, ◌≤◌, Bool, true, false, List, [], ◌∷◌, length, take, refl, ap, ◌∙◌, arith}
use Rattle.std.specs.Prelude.{nat_le, ◌&&◌}
use Rattle.std.proofs.lemmas.Bool.{leb-true}
use Rattle.std.proofs.lemmas.List.{length-map, length-take}
use Rattle.tk_ids.specs.declared.attr.AttrInfo.{AttrInfo}
use Rattle.tk_ids.specs.declared.attr.AttrSpec.{AttrSpec}
use Rattle.tk_ids.specs.declared.attr.AttrValue.{AttrValue}
use Rattle.tk_ids.specs.Attributes.{kind_of, HaveKinds, are_attributes, are_distinct, spec_names, info_names}
use Rattle.tk_events.specs.Items.{infos_of, first_values}

names_kept : (attrs : List AttrSpec) → info_names (infos_of attrs) ≡ spec_names attrs
names_kept [] = refl
names_kept (a ∷ attrs) = ap (λ (l : List (List ℕ)). a.name ∷ l) (names_kept attrs)

pub same_names : (attrs : List AttrSpec) (infos : List AttrInfo) → infos ≡ infos_of attrs → are_attributes (spec_names attrs) ≡ true → are_attributes (info_names infos) ≡ true
same_names attrs infos is good = ap (λ (l : List AttrInfo). are_attributes (info_names l)) is ∙ (ap (λ (l : List (List ℕ)). are_attributes l) (names_kept attrs) ∙ good)

-- the kinds of the first values are those that the infos tell
pub same_kinds : (attrs : List AttrSpec) → HaveKinds (infos_of attrs) (first_values attrs)
same_kinds [] = refl
same_kinds (a ∷ attrs) = ap (λ l. kind_of a.first ∷ l) (same_kinds attrs)

left_true : (a b : Bool) → (a && b) ≡ true → a ≡ true
left_true true b e = refl
left_true false b e = e

pub at_most_six : (attrs : List AttrSpec) → are_attributes (spec_names attrs) ≡ true → length attrs ≤ 6
at_most_six attrs good =
    let few : length (spec_names attrs) ≤ 6 = leb-true (length (spec_names attrs)) 6 (left_true (nat_le (length (spec_names attrs)) 6) (are_distinct (spec_names attrs)) good) in
    let same : length (spec_names attrs) ≡ length attrs = length-map attrs (λ (a : AttrSpec). a.name) in
    omega (arith, few, same)

taken_few : (attrs : List AttrSpec) (n : ℕ) → length (take n attrs) ≤ length attrs
taken_few attrs n = let a = length-take n attrs in omega (arith, a)

pub taken_values : (attrs items : List AttrSpec) (n : ℕ) (values : List AttrValue) → items ≡ attrs → are_attributes (spec_names items) ≡ true → values ≡ first_values (take n items) → length values ≤ 6
taken_values attrs items n values same good is =
    let a : length values ≡ length (take n items) = ap (λ (l : List AttrValue). length l) is ∙ length-map (take n items) (λ (x : AttrSpec). x.first) in
    let b = taken_few items n in
    let c = at_most_six items good in
    omega (arith, a, b, c)

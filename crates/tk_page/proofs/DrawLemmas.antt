-- What is drawn of the first item of a list, and of the others.
use Rattle.std.proofs.Common.{◌≡◌, ◌-◌, ◌≤◌, List, [], ◌∷◌, length, drop, take, get_or, arith, subst}
use Rattle.std.specs.Prelude.{flat_map}
use Rattle.std.specs.List.{zip}
use Rattle.std.proofs.lemmas.List.{take_all}
use Rattle.tk_ids.specs.declared.attr.AttrInfo.{AttrInfo}
use Rattle.tk_ids.specs.declared.attr.AttrValue.{AttrValue}
use Rattle.tk_paper.specs.Pieces.{Writes}
use Rattle.tk_paper.specs.Escaping.{PaperView}
use Rattle.tk_paper.specs.Parts.{Bit}
use Rattle.tk_paper.proofs.PutLemmas.{then}

-- the items after the first are all others
all_others : {A : Type 0} (x : A) (xs : List A) → take (length (x ∷ xs) - 1) xs ≡ xs
all_others x xs = take_all (length (x ∷ xs) - 1) xs (omega arith)

-- an attribute with its value was put, and the others with theirs
pub attrs_put : (attr : AttrInfo × AttrValue → List Bit) {a b c : PaperView} (infos : List AttrInfo) (values : List AttrValue) (x : AttrInfo) (d : AttrValue) → 1 ≤ length infos → 1 ≤ length values
    → x ≡ get_or infos 0 x → Writes a b (attr (x, get_or values 0 d)) → Writes b c (flat_map attr (zip (take (length infos - 1) (drop 1 infos)) (take (length values - 1) (drop 1 values))))
    → Writes a c (flat_map attr (zip infos values))
attrs_put attr [] values x d h k is g m = absurd (omega (arith, h))
attrs_put attr (y ∷ ys) [] x d h k is g m = absurd (omega (arith, k))
attrs_put attr {a} {b} {c} (y ∷ ys) (v ∷ vs) x d h k is g m =
    then (subst (λ z. Writes a b (attr (z, v))) is g)
    (subst (λ us. Writes b c (flat_map attr (zip ys us))) (all_others v vs) (subst (λ zs. Writes b c (flat_map attr (zip zs (take (length (v ∷ vs) - 1) vs)))) (all_others y ys) m))

use Rattle.std.proofs.Common.{◌≡◌, [], ◌∷◌, ◌++◌, List, ap, sym, ◌∙◌, map, refl, rules}
use Rattle.std.specs.Prelude.{fold}
use Rattle.std.proofs.lemmas.List.{map-append}
use Rattle.std.proofs.lemmas.List.Sums.{fold-append}
use Rattle.std.proofs.lemmas.Iterator.Adapters.{YieldsList-from_vec}
use Rattle.std.proofs.lemmas.Iterator.Consumers.{YieldsList-end}
use Rattle.tk_odd.specs.declared.finding.Found.{Found}
use Rattle.tk_odd.specs.Findings.{Placed, placed, put_in}
use Rattle.tk_odd.proofs.list.sorted.Goals as goal

-- what is made of each of these by nothing
map-same : (xs : List Found) → map (λ y. y) xs ≡ xs
map-same [] = refl
map-same (x ∷ xs) = ap (λ (ys : List Found). x ∷ ys) (map-same xs)

-- one more is put in its place
put_more : (xs : List Found) (x : Found) → fold put_in [] (map placed (xs ++ x ∷ [])) ≡ put_in (fold put_in [] (map placed xs)) (placed x)
put_more xs x = ap (fold put_in []) (map-append placed xs (x ∷ [])) ∙ fold-append put_in [] (map placed xs) (placed x ∷ [])

pub loop-found-preserved : goal.loop-found-preserved
loop-found-preserved c =
    c.in_ok-put_in.ensures
    ∙ ap (λ (xs : List Placed). put_in xs (placed c.in-Some.found)) c.loop-found.invariant
    ∙ sym (put_more c.loop-found.yielded c.in-Some.found)

pub returns : goal.returns
returns c =
    let all = c.args.all.items in
    let end = YieldsList-end (YieldsList-from_vec all (search rules) (search rules)) c.loop-found.yielded c.loop-found.found-iterator c.loop-found.yielded_by c.next.result c.next.new.self c.in-None.is c.next.ensures.steps in
    c.loop-found.invariant ∙ ap (λ (xs : List Found). fold put_in [] (map placed xs)) (sym (map-same c.loop-found.yielded) ∙ end.0)

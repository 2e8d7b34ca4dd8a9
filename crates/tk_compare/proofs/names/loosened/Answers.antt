use Rattle.std.proofs.Common.{ℕ, List, Vec, Global, ◌∷◌, [], ◌++◌, ap, sym, refl, slice_get, ◌∙◌}
use Rattle.std.specs.Option.{option_map_or}
use Rattle.tk_compare.specs.Names.{loosened, texts}
use Rattle.tk_compare.proofs.NameLemmas.{loose-append, made_all, made_more, made_next}
use Rattle.tk_compare.proofs.names.loosened.Goals as goal

pub loop-at-preserved : goal.loop-at-preserved
loop-at-preserved c =
    let own = texts c.args.own.now in
    let others = c.args.others.now in
    let f : List (Vec ℕ Global) → List (List ℕ) = λ vs. loosened own (texts vs) in
    c.in_ok-push_loose_at.ensures
    ∙ ap (λ (ts : List (List ℕ)). option_map_or (λ (v : Vec ℕ Global). ts ++ f (v ∷ [])) (slice_get others c.loop-at.at) ts) c.loop-at.invariant
    ∙ made_next f (loose-append own) others refl _ (slice_get others c.loop-at.at)
    ∙ sym (made_more f (loose-append own) others c.loop-at.at)

pub returns : goal.returns
returns c =
    let own = texts c.args.own.now in
    c.loop-at.invariant ∙ made_all (λ (vs : List (Vec ℕ Global)). loosened own (texts vs)) (loose-append own) c.args.others.now c.loop-at.at _ refl c.loop-at-test.false

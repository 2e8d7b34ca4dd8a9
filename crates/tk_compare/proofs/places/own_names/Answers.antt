use Rattle.std.proofs.Common.{ℕ, List, ◌∷◌, [], ◌++◌, ap, sym, refl, slice_get, ◌∙◌}
use Rattle.std.specs.Option.{option_map_or}
use Rattle.std.proofs.lemmas.List.{map-append}
use Rattle.tk_series.specs.Limited.{names_of}
use Rattle.tk_sites.specs.declared.sums.Sums.{Sums}
use Rattle.tk_compare.proofs.NameLemmas.{made_all, made_more, made_next}
use Rattle.tk_compare.proofs.places.own_names.Goals as goal

pub loop-at-preserved : goal.loop-at-preserved
loop-at-preserved c =
    let first = c.args.sites.now.first in
    let joins = map-append (λ (x : List ℕ × Sums). x.0) in
    c.in_ok-push_at.ensures
    ∙ ap (λ (ts : List (List ℕ)). option_map_or (λ (x : List ℕ × Sums). ts ++ x.0 ∷ []) (slice_get first c.loop-at.at) ts) c.loop-at.invariant
    ∙ made_next names_of joins first refl _ (slice_get first c.loop-at.at)
    ∙ sym (made_more names_of joins first c.loop-at.at)

pub returns : goal.returns
returns c = c.loop-at.invariant ∙ made_all names_of (map-append (λ (x : List ℕ × Sums). x.0)) c.args.sites.now.first c.loop-at.at _ c.len-at-end.ensures.len c.loop-at-test.false

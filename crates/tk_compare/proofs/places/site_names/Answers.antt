use Rattle.std.proofs.Common.{ℕ, List, ◌++◌, ap₂, sym, ◌∙◌}
use Rattle.std.proofs.lemmas.List.{map-append}
use Rattle.tk_series.specs.Limited.{names_of}
use Rattle.tk_sites.specs.declared.sums.Sums.{Sums}
use Rattle.tk_compare.specs.Compared.{rest_in}
use Rattle.tk_compare.proofs.places.site_names.Goals as goal

pub returns : goal.returns
returns c =
    let sites = c.args.sites.now in
    c.in_ok-push_rest.ensures
    ∙ ap₂ (λ (ts : List (List ℕ)) rest. ts ++ names_of (rest_in rest)) c.in_ok-list.ensures c.rest.ensures
    ∙ sym (map-append (λ (x : List ℕ × Sums). x.0) sites.first (rest_in sites.rest))

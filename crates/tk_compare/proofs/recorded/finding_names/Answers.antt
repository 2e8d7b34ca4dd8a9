use Rattle.std.proofs.Common.{ℕ, List, ◌∷◌, [], ◌++◌, ap, sym, refl, slice_get, ◌∙◌}
use Rattle.std.specs.Option.{option_map_or}
use Rattle.tk_odd.specs.declared.finding.Found.{Found}
use Rattle.tk_compare.proofs.NameLemmas.{made_all, made_more, made_next}
use Rattle.tk_compare.proofs.RecordedLemmas.{names_of_found, names-append}
use Rattle.tk_compare.proofs.recorded.finding_names.Goals as goal

pub loop-at-preserved : goal.loop-at-preserved
loop-at-preserved c =
    let list = c.args.list.now in
    c.in_ok-push_at.ensures
    ∙ ap (λ (ts : List (List ℕ)). option_map_or (λ (f : Found). ts ++ names_of_found (f ∷ [])) (slice_get list c.loop-at.at) ts) c.loop-at.invariant
    ∙ made_next names_of_found names-append list refl _ (slice_get list c.loop-at.at)
    ∙ sym (made_more names_of_found names-append list c.loop-at.at)

pub returns : goal.returns
returns c = c.loop-at.invariant ∙ made_all names_of_found names-append c.args.list.now c.loop-at.at _ refl c.loop-at-test.false

use Rattle.std.proofs.Common.{ap, refl, sym, ◌∙◌, ◌++◌, slice_get, Vec, Global, ℕ, List}
use Rattle.std.specs.Option.{option_map_or}
use Rattle.std.proofs.lemmas.Simd.{map-map}
use Rattle.tk_series.specs.Series.{series_of, with_value}
use Rattle.tk_series.proofs.SeriesLemmas.{item_more, items_all}
use Rattle.tk_compare.specs.Found.{both_seen, seen_entry}
use Rattle.tk_compare.specs.Names.{texts}
use Rattle.tk_compare.specs.declared.found.Seen.{Seen}
use Rattle.tk_compare.proofs.found.add_all.Goals as goal

pub loop-at-preserved : goal.loop-at-preserved
loop-at-preserved c = λ xs is.
    let e : Vec ℕ Global → List ℕ × Seen = λ v. seen_entry c.args.side (texts c.args.loose.now) (texts c.args.others.now) v.items in
    let own = c.args.own.now in
    let at = c.loop-at.at in
    c.in_ok-add_at.ensures
    ∙ ap (λ s. option_map_or (λ (v : Vec ℕ Global). with_value both_seen (e v).0 (e v).1 s) (slice_get own at) s) (c.loop-at.invariant xs is)
    ∙ sym (item_more both_seen e xs own at)

pub returns : goal.returns
returns c = λ xs is.
    let entry = seen_entry c.args.side (texts c.args.loose.now) (texts c.args.others.now) in
    c.loop-at.invariant xs is
    ∙ items_all both_seen (λ (v : Vec ℕ Global). entry v.items) xs c.args.own.now c.loop-at.at _ refl c.loop-at-test.false
    ∙ ap (λ ys. series_of both_seen (xs ++ ys)) (sym (map-map entry (λ (v : Vec ℕ Global). v.items) c.args.own.now))

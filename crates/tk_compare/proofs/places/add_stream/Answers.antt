use Rattle.std.proofs.Common.{ℕ, List, ◌++◌, map, ap, append_assoc, ◌∙◌}
use Rattle.tk_series.specs.Series.{series_of}
use Rattle.tk_compare.specs.Compared.{entries, held_entry}
use Rattle.tk_compare.specs.Names.{texts}
use Rattle.tk_compare.specs.Spent.{plus, spent_of, timed_of}
use Rattle.tk_compare.proofs.places.add_stream.Goals as goal

pub returns : goal.returns
returns c = λ xs is.
    let side = c.args.side in
    let own = texts c.args.own.now in
    let others = texts c.args.others.now in
    let r = c.args.stream.now in
    let loose = texts c.as_slice-loose.result.now in
    let sites = entries spent_of side loose others r.sites in
    let times = entries timed_of side loose others r.times in
    let held = map (held_entry side own loose others) r.held in
    c.in_ok-add_held.ensures ((xs ++ sites) ++ times) (c.in_ok-add_all-2.ensures (xs ++ sites) (c.in_ok-add_all.ensures xs is))
    ∙ ap (series_of plus) (append_assoc (xs ++ sites) times held ∙ append_assoc xs sites (times ++ held))
    ∙ ap
    (λ (ls : List (List ℕ)). series_of plus
    (xs ++ (entries spent_of side ls others r.sites ++ (entries timed_of side ls others r.times ++ map (held_entry side own ls others) r.held))))
    (ap texts c.as_slice-loose.ensures.value ∙ c.in_ok-loose.ensures)

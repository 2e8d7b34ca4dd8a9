use Rattle.std.proofs.Common.{◌≡◌, ℕ, Option, Some, ap, ap₂, sym, ◌∙◌, append-nil, refl, slice_get}
use Rattle.std.specs.Option.{option_map_or}
use Rattle.std.proofs.lemmas.Option.{slice_get_read}
use Rattle.tk_client.specs.declared.change.LeftTask.{LeftTask}
use Rattle.tk_sites.specs.Adding.{left_as_shown}
use Rattle.tk_series.specs.Limited.{limited, with_one}
use Rattle.tk_odd.specs.Places.{place_of}
use Rattle.tk_sites.specs.Site.{room}
use Rattle.tk_sites.specs.Sums.{left, plus}
use Rattle.tk_series.proofs.FoldLemmas.{item_more, items_all, so_far}
use Rattle.tk_sites.proofs.adding.add_left.Goals as goal

pub loop-one-init : goal.loop-one-init
loop-one-init c = λ before is. is ∙ ap (limited room plus) (sym (append-nil before))

pub loop-one-preserved : goal.loop-one-preserved
loop-one-preserved c = λ before is.
    let i = c.loop-one.one-index in
    let one : LeftTask = c.one-item.result in
    let here : slice_get c.args.tasks.now i ≡ Some one = slice_get_read c.args.tasks.now _ i one refl c.loop-one-test.true c.one-item.is in
    let s = so_far room plus left_as_shown before c.args.tasks.now i in
    c.in_ok-add_left_one.ensures
    ∙ ap (with_one plus (place_of one.task.info) (left one.task.row)) (c.loop-one.invariant before is)
    ∙ ap (λ (o : Option LeftTask). option_map_or (λ (x : LeftTask). with_one plus (left_as_shown x).0 (left_as_shown x).1 s) o s) (sym here)
    ∙ sym (item_more room plus left_as_shown before c.args.tasks.now i)

pub returns : goal.returns
returns c = λ before is.
    c.loop-one.invariant before is
    ∙ items_all room plus left_as_shown before c.args.tasks.now c.loop-one.one-index _ refl c.loop-one-test.false

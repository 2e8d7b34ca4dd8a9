use Rattle.std.proofs.Common.{◌≡◌, ℕ, zero, suc, ◌<◌, List, [], ◌∷◌, ◌++◌, map, length, take, get_or, slice_get, refl, ap, ap₂, sym, ◌∙◌, append-nil, arith, subst}
use Rattle.std.specs.Option.{option_map_or}
use Rattle.std.proofs.lemmas.List.{length-map}
use Rattle.tk_stream.specs.Tables.{TablesView, task_id, task_with}
use Rattle.tk_stream.specs.declared.tables.task.Task.{Task}
use Rattle.tk_sites.specs.Adding.{AreThere}
use Rattle.tk_series.specs.Limited.{limited, with_one}
use Rattle.tk_odd.specs.Places.{place_of}
use Rattle.tk_sites.specs.Site.{room}
use Rattle.tk_series.proofs.FoldLemmas.{item_more, items_all}
use Rattle.tk_sites.proofs.adding.add_came.Goals as goal

-- the task of an id is the one at its place
at-place : (tables : TablesView) (tasks : List Task) (i d : ℕ) → AreThere tables tasks → i < length (map task_id tasks) → task_with (get_or (map task_id tasks) i d) tables.tasks ≡ slice_get tasks i
at-place tables [] i d there lt = absurd (omega (arith, lt))
at-place tables (t ∷ tasks) zero d there lt = there.0
at-place tables (t ∷ tasks) (suc i) d there lt = at-place tables tasks i d there.1 (omega (arith, lt))

pub loop-id-init : goal.loop-id-init
loop-id-init g c = λ before tasks is ids there. is ∙ ap (limited room g.V.Added.plus) (sym (append-nil before))

pub loop-id-preserved : goal.loop-id-preserved
loop-id-preserved g c = λ before tasks is ids there.
    let i = c.loop-id.id-index in
    let id : ℕ = c.id-item.result in
    let there-now = c.args.tables.now.tasks in
    let here : task_with id there-now ≡ slice_get tasks i =
    ap (λ (n : ℕ). task_with n there-now) c.id-item.is
    ∙ ap (λ (ns : List ℕ). task_with (get_or ns i id) there-now) ids
    ∙ at-place c.args.tables.now tasks i id there (subst (λ (ns : List ℕ). i < length ns) ids c.loop-id-test.true) in
    c.in_ok-add_came_one.ensures
    ∙ ap₂ (λ o s. option_map_or (λ (t : Task). with_one g.V.Added.plus (place_of t.info) c.args.came s) o s) here (c.loop-id.invariant before tasks is ids there)
    ∙ sym (item_more room g.V.Added.plus (λ (t : Task). (place_of t.info, c.args.came)) before tasks i)

pub returns : goal.returns
returns g c = λ before tasks is ids there.
    c.loop-id.invariant before tasks is ids there
    ∙ items_all room g.V.Added.plus (λ (t : Task). (place_of t.info, c.args.came)) before tasks c.loop-id.id-index _ (ap length ids ∙ length-map tasks task_id) c.loop-id-test.false

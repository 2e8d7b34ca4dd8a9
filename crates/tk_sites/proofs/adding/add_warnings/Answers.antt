use Rattle.std.proofs.Common.{ap, ◌∙◌, ◌++◌, append-nil, sym}
use Rattle.std.specs.Option.{option_map_or}
use Rattle.std.specs.Prelude.{flat_map}
use Rattle.std.proofs.lemmas.List.{take_all}
use Rattle.tk_stream.specs.Tables.{task_with}
use Rattle.tk_series.specs.Limited.{limited, with_one}
use Rattle.tk_odd.specs.Places.{place_of}
use Rattle.tk_sites.specs.Site.{room}
use Rattle.tk_sites.specs.Sites.{warned_entries}
use Rattle.tk_sites.specs.Sums.{plus, warned}
use Rattle.tk_sites.specs.Warned.{one_warning, warned_task}
use Rattle.tk_sites.proofs.WarnLemmas.{warned_more}
use Rattle.tk_sites.proofs.adding.add_warnings.Goals as goal

pub loop-warning-init : goal.loop-warning-init
loop-warning-init c = λ before is. is ∙ ap (limited room plus) (sym (append-nil before))

pub loop-warning-preserved : goal.loop-warning-preserved
loop-warning-preserved c = λ before is.
    let tables = c.args.tables.now in
    let w = c.warning-item.result in
    c.in_ok-add_warning.ensures
    ∙ ap (λ s. option_map_or (λ t. with_one plus (place_of t.info) (warned (one_warning w)) s) (task_with (warned_task w) tables.tasks) s) (c.loop-warning.invariant before is)
    ∙ warned_more tables before c.args.warnings.now c.loop-warning.warning-index w c.loop-warning-test.true c.warning-item.is

pub returns : goal.returns
returns c = λ before is.
    c.loop-warning.invariant before is
    ∙ ap (λ ws. limited room plus (before ++ flat_map (warned_entries c.args.tables.now) ws)) (take_all c.loop-warning.warning-index c.args.warnings.now c.loop-warning-test.false)

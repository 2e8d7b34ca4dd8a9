use Rattle.std.proofs.Common.{ℕ, List, ap, ◌∙◌, slice_get, OnOk, subst, ◌≡◌}
use Rattle.std.specs.Prelude.{fold}
use Rattle.std.specs.Option.{option_map_or}
use Rattle.tk_client.specs.Candidates.{places_by}
use Rattle.tk_odd.specs.Inner.{shown}
use Rattle.tk_odd.specs.Keeping.{may_gain}
use Rattle.tk_odd.specs.Members.{Member, members_after, with_task}
use Rattle.tk_odd.proofs.RowLemmas.{others_same, skipped}
use Rattle.tk_odd.proofs.members.add_line.Goals as goal

pub returns : goal.returns
returns c = λ before leads k.
    let tables = c.args.tables.now in
    let told : List ℕ = c.args.change.now.told in
    let rows = c.args.rows.now in
    let old = shown c.args.members.now.entries in
    let may = may_gain told rows.lasting.keys in
    let step = λ (ms : List Member) (place : ℕ). option_map_or (with_task before tables ms) (slice_get tables.tasks place) ms in
    let is : fold step old c.deref.result.now ≡ members_after before tables old =
    ap (λ (ps : List ℕ). fold step old ps)
    (c.deref.ensures.value ∙ c.in_ok-places.ensures ∙ ap (λ (ns : List ℕ). places_by (may_gain ns rows.lasting.keys) 0 tables.tasks) c.told.ensures)
    ∙ skipped (with_task before tables) may tables.tasks (others_same before tables c.args.change.now leads rows k c.task_count.ensures.distinct.tasks) old in
    subst (λ (ms : List Member). OnOk c.add_places.result (shown c.add_places.new.members.entries ≡ ms)) is (c.add_places.ensures before k)

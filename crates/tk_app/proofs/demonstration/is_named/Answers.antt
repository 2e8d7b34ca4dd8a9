use Rattle.std.proofs.Common.{ap, sym, ◌∙◌, List, ℕ, Some}
use Rattle.std.specs.Prelude.{option_map}
use Rattle.std.proofs.lemmas.Option.{slice_get-map}
use Rattle.std.proofs.lemmas.Slice.Eq.{bytes_eq-Decides}
use Rattle.tk_stream.specs.declared.tables.task.Task.{Task}
use Rattle.tk_app.proofs.demonstration.is_named.Goals as goal

pub returns-in-Some : goal.returns-in-Some
returns-in-Some c same =
    let name : Task → List ℕ = λ t. t.info.name in
    slice_get-map name c.args.tables.now.tasks c.args.place ∙ ap (option_map name) (sym c.in-Some.ensures)
    ∙ ap Some (sym c.as_str.ensures.text ∙ (bytes_eq-Decides c.as_str.result.now c.args.name.now).0 (sym c.eq.ensures ∙ same))

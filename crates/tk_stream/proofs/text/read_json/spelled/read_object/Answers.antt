use Rattle.std.proofs.Common.{◌≡◌, true, Some, sym, ap, ap₂, ◌∙◌, arith}
use Rattle.json.specs.Json.{parse_map}
use Rattle.serde_json.specs.Data.{object}
use Rattle.serde_json.proofs.Views.{view-Object}
use Rattle.tk_stream.specs.Reading.{line_of}
use Rattle.tk_stream.specs.Spelled.{line_of_lists}
use Rattle.tk_stream.proofs.Keys.{line_of_own}
use Rattle.tk_stream.proofs.text.read_json.spelled.read_object.Goals as goal

pub returns-clause-read : goal.returns-clause-read
returns-clause-read c =
    let whole : c.in_ok-read_members.field-0 ≡ true = grind arith in
    let all = rw whole at c.in_ok-read_members.ensures.read in
    let own = view-Object c.read_members.new.own ∙ ap object all.3 in
    ap (parse_map (λ ms. line_of (object ms))) all.1
    ∙ ap (λ o. Some (o, c.read_members.new.reader)) (sym (line_of_own all.0) ∙ ap₂ (λ o lists. line_of_lists o lists) (sym own) (sym all.2) ∙ sym c.of_lists.ensures)

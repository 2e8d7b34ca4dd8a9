use Rattle.std.proofs.Common.{Some, ap, sym, ◌∙◌, map}
use Rattle.serde_json.specs.View.{view}
use Rattle.serde_json.specs.Find.{as_array}
use Rattle.std.specs.Prelude.{option_map}
use Rattle.tk_stream.specs.Reading.{◌>>=◌, values_of}
use Rattle.tk_stream.proofs.Values.{values_of-items_of}
use Rattle.tk_stream.proofs.text.read_json.fields.list_at.Goals as goal

pub returns : goal.returns
returns c =
    ap (λ vs. Some (map view vs)) c.as_slice.ensures.value ∙ ap Some (sym (values_of-items_of (map view c.in_ok-list.list.now.items)))
    ∙ ap (option_map values_of) c.in_ok-list.ensures ∙ ap (λ o. option_map values_of (o >>= as_array)) c.in_ok-get.ensures

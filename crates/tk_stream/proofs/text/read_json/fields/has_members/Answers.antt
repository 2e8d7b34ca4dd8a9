use Rattle.std.proofs.Common.{nat_eq, ap, sym, ◌∙◌, false}
use Rattle.std.specs.Option.{option_map_or}
use Rattle.serde_json.specs.Events.{members_len}
use Rattle.serde_json.proofs.Views.{members_len-members_view}
use Rattle.tk_stream.proofs.text.read_json.fields.has_members.Goals as goal

pub returns-in-Some : goal.returns-in-Some
returns-in-Some c =
    ap (λ n. nat_eq n c.args.count) (c.len.ensures.len ∙ sym (members_len-members_view c.in-Some.members.now.entries))
    ∙ ap (λ o. option_map_or (λ ms. nat_eq (members_len ms) c.args.count) o false) c.in-Some.ensures

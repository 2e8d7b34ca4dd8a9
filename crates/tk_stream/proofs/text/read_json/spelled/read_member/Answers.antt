use Rattle.std.proofs.Common.{◌≡◌, string_bytes, ap, ap₂, ◌∙◌, rules}
use Rattle.serde_json.specs.Data.{put}
use Rattle.serde_json.specs.View.{members_view}
use Rattle.serde_json.proofs.Views.{members_view-insert_entry}
use Rattle.tk_stream.proofs.text.read_json.spelled.read_member.Goals as goal

pub returns-clause-read : goal.returns-clause-read
returns-clause-read c =
    let d = c.in_ok-value.ensures.read in
    let v = c.in_ok-value.value in
    let own = c.args.own.now.entries in
    let copied : string_bytes c.in_ok-key.key ≡ c.args.name.now = search rules in
    (d.0, d.1, d.2, ap members_view c.in_ok-insert.ensures.entries ∙ members_view-insert_entry own c.in_ok-key.key v ∙ ap₂ (λ name x. put name x (members_view own)) copied d.3)

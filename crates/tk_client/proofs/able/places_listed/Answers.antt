use Rattle.std.proofs.Common.{◌≡◌, ◌<◌, ◌++◌, ◌∷◌, [], ◌+◌, length, take, get_or, cond, ap, ap₂, subst, sym, ◌∙◌, append-nil}
use Rattle.std.specs.Prelude.{is_ok}
use Rattle.std.specs.Option.{option_to_list}
use Rattle.tk_stream.specs.Places.{place_with}
use Rattle.tk_stream.specs.Tables.{TablesView, task_id}
use Rattle.tk_client.specs.Candidates.{places_with}
use Rattle.tk_client.proofs.AbleLemmas.{next-of}
use Rattle.tk_client.proofs.able.places_listed.Goals as goal
use Rattle.tk_client.proofs.able.places_listed.Goals.{in-Some+in_ok-push, in_default}

pub loop-id-preserved : goal.loop-id-preserved
loop-id-preserved c =
    let tasks = c.args.tables.now.tasks in
    let ids = c.args.able.now.keys in
    let i = c.loop-id.id-index in
    let keys = c.as_slice-id-items.ensures.keys in
    let lt : i < length ids = subst (λ ns. i < length ns) keys c.loop-id-test.true in
    let place : c.place.result ≡ place_with task_id (get_or ids i 0) tasks =
    c.place.ensures ∙ ap₂ (λ ns ts. place_with task_id (get_or ns i 0) ts) keys (ap (λ (v : TablesView). v.tasks) c.tables.view_is) in
    let next : places_with tasks (take i ids) ++ option_to_list (place_with task_id (get_or ids i 0) tasks) ≡ places_with tasks (take (i + 1) ids) = sym (next-of (λ id. option_to_list (place_with task_id id tasks)) ids i 0 lt) in
    elim c.match-place.branch [
      | in-Some+in_ok-push w ↦
          ap (λ (v : _). v.items) w.places-is ∙ w.push.ensures.items
          ∙ ap (λ r. cond (is_ok r) (c.loop-id.places.items ++ w.in-Some.place ∷ []) c.loop-id.places.items) w.in_ok-push.was
          ∙ ap (λ ps. ps ++ w.in-Some.place ∷ []) c.loop-id.invariant
          ∙ ap (λ o. places_with tasks (take i ids) ++ option_to_list o) (sym w.in-Some.is ∙ place)
          ∙ next
      | in_default w ↦
          ap (λ (v : _). v.items) w.places-is ∙ c.loop-id.invariant
          ∙ sym (append-nil (places_with tasks (take i ids)))
          ∙ ap (λ o. places_with tasks (take i ids) ++ option_to_list o) (sym w.in_default.is ∙ place)
          ∙ next
    ]

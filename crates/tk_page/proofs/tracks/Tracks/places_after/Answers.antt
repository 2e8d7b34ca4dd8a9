use Rattle.std.proofs.Common.{◌≡◌, ℕ, List, ap, ap₂, ◌∙◌, false, true, Bool, refl}
use Rattle.std.specs.Prelude.{◌||◌}
use Rattle.tk_client.proofs.NotedLemmas.{places-same}
use Rattle.tk_client.specs.Changes.{is_one_of}
use Rattle.tk_stream.specs.Tables.{is_among}
use Rattle.tk_stream.specs.declared.tables.task.Task.{Task}
use Rattle.tk_odd.specs.Keeping.{may_gain}
use Rattle.tk_page.proofs.tracks.Tracks.places_after.Goals as goal

nothing-more : (b : Bool) → (b || false) ≡ b
nothing-more true = refl
nothing-more false = refl

pub returns : goal.returns
returns c =
    let told : List ℕ = c.args.told.now in
    let lasting : List ℕ = c.args.self.now.lasting.keys in
    let ids : List ℕ = c.add_told.new.ids.keys in
    let these : (id : ℕ) → is_among ids id ≡ (is_among told id || is_among lasting id) = λ id.
    c.in_ok-add_told.ensures id
    ∙ ap (λ b. is_among told id || b)
    (c.in_ok-add_lasting.ensures id
    ∙ ap₂ (λ (ns ms : List ℕ). is_among ns id || is_among ms id) c.as_slice.ensures.keys c.new-ids.ensures.empty
    ∙ nothing-more (is_among lasting id)) in
    c.in_ok-places.ensures ∙ places-same (is_one_of ids) (may_gain told lasting) 0 c.args.tables.now.tasks (λ (t : Task). these t.info.id)

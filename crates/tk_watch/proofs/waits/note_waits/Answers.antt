use Rattle.std.proofs.Common.{ℕ, ◌≡◌, OnOk, List, [], ◌∷◌, ◌++◌, ap, map, subst, sym, ◌∙◌}
use Rattle.std.proofs.lemmas.List.{map-append}
use Rattle.tk_odd.specs.declared.waiting.Waiting.{Waiting}
use Rattle.tk_watch.specs.Lasts.{last_of}
use Rattle.tk_watch.specs.Waits.{waits_at}
use Rattle.tk_watch.proofs.waits.note_waits.Goals as goal

pub returns : goal.returns
returns c = λ shown is.
    subst (λ (xs : List ℕ). OnOk c.push_last.result (c.push_last.new.kept.items ≡ last_of 40 xs))
    (ap (λ (w : Waiting). map waits_at shown ++ w.count ∷ []) c.of.ensures ∙ sym (map-append waits_at shown (c.args.tables.now ∷ [])))
    (c.push_last.ensures (map waits_at shown) is)

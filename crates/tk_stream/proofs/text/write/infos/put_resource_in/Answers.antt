use Rattle.std.proofs.Common.{◌∷◌, ap, decimal}
use Rattle.tk_stream.proofs.Pieces.{taken, short_put, put_as}
use Rattle.tk_stream.proofs.InfoTexts.{taken_place, resource_text}
use Rattle.tk_stream.proofs.text.write.infos.put_resource_in.Goals as goal

pub returns : goal.returns
returns g c = put_as (ap (λ xs. 93 ∷ xs) (resource_text c.args.info.now)) (rw (← c.value.ensures.value, ← c.resource_parent.ensures)
    (short_put _ c.told-bytes c.in_ok-put_short.ensures
    (taken c.number_before-at.ensures.text
    (taken c.text_before-at-4.ensures.text
    (taken c.name_before-at-3.ensures.text
    (taken c.text_before-at-3.ensures.text
    (taken c.name_before-at-2.ensures.text
    (taken_place (decimal c.args.info.now.location.line) (decimal c.args.info.now.location.column) c.place_before-at.ensures.text
    (taken c.optional_before-at.ensures.text
    (taken c.text_before-at-2.ensures.text
    (taken c.name_before-at.ensures.text
    c.text_before-at.ensures.text)))))))))))

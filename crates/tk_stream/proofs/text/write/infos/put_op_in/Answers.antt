use Rattle.std.proofs.Common.{◌∷◌, ap}
use Rattle.tk_stream.proofs.Pieces.{taken, short_put, put_as}
use Rattle.tk_stream.proofs.InfoTexts.{op_text}
use Rattle.tk_stream.proofs.text.write.infos.put_op_in.Goals as goal

pub returns : goal.returns
returns g c = put_as (ap (λ xs. 93 ∷ xs) (op_text c.args.info.now)) (rw (← c.value.ensures.value, ← c.value-2.ensures.value, ← c.op_parent.ensures)
    (short_put _ c.told-bytes c.in_ok-put_short.ensures
    (taken c.number_before-at-2.ensures.text
    (taken c.optional_before-at.ensures.text
    (taken c.number_before-at.ensures.text
    (taken c.text_before-at-2.ensures.text
    (taken c.name_before-at.ensures.text
    c.text_before-at.ensures.text)))))))

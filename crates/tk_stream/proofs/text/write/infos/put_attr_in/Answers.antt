use Rattle.std.proofs.Common.{◌++◌, ap}
use Rattle.serde_json.specs.Written.{comma_if}
use Rattle.tk_stream.proofs.Pieces.{taken, short_put, put_as}
use Rattle.tk_stream.proofs.InfoTexts.{attr_text}
use Rattle.tk_stream.proofs.text.write.infos.put_attr_in.Goals as goal

pub returns : goal.returns
returns g c = put_as (ap (λ xs. comma_if c.args.later ++ xs) (attr_text c.args.info.now))
    (short_put _ c.told-bytes c.in_ok-put_short.ensures
    (taken c.comma_before-at.ensures.text
    (taken c.text_before-at-2.ensures.text
    (taken c.name_before-at.ensures.text
    (taken c.text_before-at.ensures.text
    (taken c.unit_before-at.ensures.text
    c.attr_kind_before-at.ensures.text))))))

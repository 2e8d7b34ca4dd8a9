use Rattle.tk_stream.proofs.Pieces.{ends_joined}
use Rattle.tk_stream.proofs.text.write.short.ends_before.Goals as goal

pub returns-clause-text : goal.returns-clause-text
returns-clause-text g c =
    ends_joined c.args.text.now c.args.bytes.now c.front_before.new.bytes c.front_before-2.new.bytes g.row.K c.args.at c.front_before.result c.front_before-2.result
    c.requires.covers.0 c.requires.covers.1 c.requires.room.0 c.front_before.ensures.place c.front_before.ensures.text c.front_before-2.ensures.text

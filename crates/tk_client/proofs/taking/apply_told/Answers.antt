use Rattle.tk_client.specs.Taking.{repeats_id, has_strange_id}
use Rattle.tk_client.specs.Applying.{told_part}
use Rattle.tk_client.proofs.LeaveLemmas.{left-answers, was-told, now-fits, nothing-found}
use Rattle.tk_client.proofs.taking.apply_told.Goals as goal

pub returns-in-Sound-clause-applied : goal.returns-in-Sound-clause-applied
returns-in-Sound-clause-applied c =
    let none = nothing-found c.in_ok-look_at.field-0 (repeats_id c.args.tables.now c.args.line.now) (has_strange_id c.args.tables.now c.args.line.now) c.in-Sound.is c.in_ok-look_at.ensures in
    left-answers c.apply_sound.result c.args.tables.now c.apply_sound.new.tables c.args.line.now c.args.leaving.now c.requires.gone none.0 none.1 c.requires.fit c.apply_sound.ensures.applied

pub returns-in-Sound-clause-told : goal.returns-in-Sound-clause-told
returns-in-Sound-clause-told c = was-told c.apply_sound.result c.apply_sound.new.tables _ c.apply_sound.ensures.applied

pub returns-in-Sound-clause-fit : goal.returns-in-Sound-clause-fit
returns-in-Sound-clause-fit c =
    now-fits c.apply_sound.result c.args.tables.now c.apply_sound.new.tables (told_part c.args.line.now) c.requires.fit c.apply_sound.ensures.applied c.apply_sound.ensures.kept

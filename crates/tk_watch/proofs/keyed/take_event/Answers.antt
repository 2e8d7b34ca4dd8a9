use Rattle.std.proofs.Common.{[], ◌∷◌, subst}
use Rattle.tk_watch.specs.Keyed.{Loses, broken, coming}
use Rattle.tk_watch.proofs.KeyLemmas.{breaks_keys}
use Rattle.tk_watch.proofs.keyed.take_event.Goals as goal

pub returns-in-Piece-clause-goes : goal.returns-in-Piece-clause-goes
returns-in-Piece-clause-goes g c = λ given left new old lost w.
    c.take_piece.ensures.goes given left new old (subst (λ e. Loses left new (coming e c.args.room.now ∷ [])) c.in-Piece.is lost) w

pub returns-in-Key-clause-goes : goal.returns-in-Key-clause-goes
returns-in-Key-clause-goes g c = λ given left new old lost w.
    c.take_key.ensures.goes given left new old _ (subst (λ e. Loses left new (coming e c.args.room.now ∷ [])) c.in-Key.is lost) w

pub returns-in-Due-clause-goes : goal.returns-in-Due-clause-goes
returns-in-Due-clause-goes g c = λ given left new old lost w.
    c.take_due.ensures given left new old (subst (λ e. Loses left new (coming e c.args.room.now ∷ [])) c.in-Due.is lost) w

pub returns-in-Broken-clause-goes : goal.returns-in-Broken-clause-goes
returns-in-Broken-clause-goes g c = λ given left new old lost w.
    breaks_keys c.args.screen.now given left c.args.session.now old (g.W.Write.contents c.args.writer.now) w new broken
    (subst (λ e. Loses left new (coming e c.args.room.now ∷ [])) c.in-Broken.is lost)

use Rattle.tk_page.proofs.cards.start_card.Goals as goal

pub returns : goal.returns
returns c = rw (c.mark_of-mark.ensures.class, c.mark_of-mark.ensures.icon, c.sign.ensures) at c.put.ensures

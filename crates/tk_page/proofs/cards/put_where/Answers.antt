use Rattle.tk_page.proofs.cards.put_where.Goals as goal

pub returns : goal.returns
returns c = rw (c.as_str.ensures.text, c.from.ensures, c.from-2.ensures, c.kind_word.ensures) at c.put.ensures

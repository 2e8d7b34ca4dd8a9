use Rattle.tk_page.proofs.boxes.open_drawing.Goals as goal

pub returns : goal.returns
returns c = rw (c.wide-wide.ensures) at c.put.ensures

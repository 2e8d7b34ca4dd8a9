use Rattle.tk_page.proofs.cards.put_no_task.Goals as goal

pub returns : goal.returns
returns c = rw c.in-Some.is (rw c.parts-recorder.ensures at c.put-2.ensures)

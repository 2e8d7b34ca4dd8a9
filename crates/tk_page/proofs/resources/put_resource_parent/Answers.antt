use Rattle.tk_page.proofs.resources.put_resource_parent.Goals as goal

pub returns-in-Some : goal.returns-in-Some
returns-in-Some c = rw c.in-Some.is (rw c.parts.ensures at c.put_whole.ensures)

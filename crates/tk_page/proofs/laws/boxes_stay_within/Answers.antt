use Rattle.tk_page.proofs.WithinLemmas.{box_within, heights_fit, part_within, parts_add}
use Rattle.tk_page.proofs.laws.boxes_stay_within.Goals as goal

pub returns-clause-strip : goal.returns-clause-strip
returns-clause-strip c = box_within

pub returns-clause-heights : goal.returns-clause-heights
returns-clause-heights c = heights_fit

pub returns-clause-picture : goal.returns-clause-picture
returns-clause-picture c = part_within

pub returns-clause-parts : goal.returns-clause-parts
returns-clause-parts c = parts_add

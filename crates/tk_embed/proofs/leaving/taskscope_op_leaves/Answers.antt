use Rattle.tk_embed.proofs.leaving.taskscope_op_leaves.Goals as goal

-- the row that the words were read as has them
pub returns-in-Some-clause-known : goal.returns-in-Some-clause-known
returns-in-Some-clause-known c leaves = (c.in-Some.row, (c.from_words.ensures c.in-Some.row).0 c.in-Some.is)

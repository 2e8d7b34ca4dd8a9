-- What a task is, as an object that is stepped by calls.
use Rattle.tk_core.specs.declared.reply.Reply.{Reply}
use Rattle.tk_core.specs.declared.task.row.TaskRow.{TaskRow}
use Rattle.tk_core.specs.declared.task.call.TaskCall.{TaskCall}
use Rattle.tk_core.specs.Fold.{number_of, row_after, reply_after}
use Rattle.tk_core.specs.Meaning.{Meaning}
use Rattle.tk_core.specs.Task.{task_kind, IsOpening, owner_may, made_may, is_last}
use Rattle.tk_core.specs.TaskWords.{words_of}

-- the words, the rows and replies, and the roles of a task
abbrev pub task_meaning : Meaning TaskRow TaskCall (Reply TaskRow)
task_meaning = record {
  words = words_of;
  IsOpening = IsOpening;
  row_after = row_after task_kind;
  reply_after = reply_after task_kind;
  number = number_of;
  owner_may = owner_may;
  made_may = made_may;
  is_last = is_last;
}

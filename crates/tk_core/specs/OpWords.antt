-- The sixteen words of an async operation's row. Inner: no crate above cites it.
use Rattle.std.specs.Prelude.{ℕ, ◌+◌, Bool, true, ◌&&◌, if◌then◌else◌, List, [], ◌∷◌, Option, Some, None, is_some}
use Rattle.tk_ids.specs.Ids.{is_id}
use Rattle.tk_core.specs.Words.{number_of_bits, word_of}
use Rattle.tk_core.specs.AttrWords.{attr_flags, attr_words, fit_words}
use Rattle.tk_core.specs.declared.op.row.OpRow.{OpRow}

-- whether the task of a row, if it has one, is named by an id
abbrev pub names_task : Option ℕ → Bool
names_task None = true
names_task (Some id) = is_id id

-- the word of a task is its id, which is never 0; without a task it is 0
abbrev pub task_word : Option ℕ → ℕ
task_word task = word_of task

-- bits 0 to 4: which moments are present, polling
abbrev pub bits_of : OpRow → List Bool
bits_of row = is_some row.dropped ∷ is_some row.first_poll ∷ is_some row.last_started ∷ is_some row.last_ended ∷ row.polling ∷ []

-- the flags: these bits, then the attributes' bits
abbrev pub flags_of : OpRow → ℕ
flags_of row = number_of_bits (bits_of row) + attr_flags row.attrs

-- the words, which are sixteen where there are at most six attributes. A row with a task that no id names, or with a value that no word keeps, has none
unfoldable pub words_of : OpRow → List ℕ
words_of row = if names_task row.task && fit_words row.attrs then
    flags_of row ∷ row.created ∷ word_of row.dropped ∷ row.polls
    ∷ word_of row.first_poll ∷ word_of row.last_started ∷ word_of row.last_ended ∷ row.busy
    ∷ row.handles ∷ task_word row.task ∷ attr_words row.attrs
    else []

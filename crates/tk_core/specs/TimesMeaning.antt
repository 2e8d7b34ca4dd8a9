-- What a histogram of times is, as an object that is stepped by calls.
use Rattle.tk_core.specs.declared.reply.Reply.{Reply}
use Rattle.tk_core.specs.declared.times.row.TimesRow.{TimesRow}
use Rattle.tk_core.specs.declared.times.call.TimesCall.{TimesCall}
use Rattle.tk_core.specs.Fold.{number_of, row_after, reply_after}
use Rattle.tk_core.specs.Meaning.{Meaning}
use Rattle.tk_core.specs.Times.{times_kind, IsOpening, owner_may, made_may, is_last}
use Rattle.tk_core.specs.TimesWords.{words_of}

-- the words, the rows and replies, and the roles of a histogram
abbrev pub times_meaning : Meaning TimesRow TimesCall (Reply TimesRow)
times_meaning = record {
  words = words_of;
  IsOpening = IsOpening;
  row_after = row_after times_kind;
  reply_after = reply_after times_kind;
  number = number_of;
  owner_may = owner_may;
  made_may = made_may;
  is_last = is_last;
}

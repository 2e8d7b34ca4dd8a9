-- What an async operation is, as an object that is stepped by calls.
use Rattle.tk_core.specs.declared.reply.Reply.{Reply}
use Rattle.tk_core.specs.declared.op.row.OpRow.{OpRow}
use Rattle.tk_core.specs.declared.op.call.OpCall.{OpCall}
use Rattle.tk_core.specs.Fold.{number_of, row_after, reply_after}
use Rattle.tk_core.specs.Meaning.{Meaning}
use Rattle.tk_core.specs.Op.{op_kind, IsOpening, owner_may, made_may, is_last}
use Rattle.tk_core.specs.OpWords.{words_of}

-- the words, the rows and replies, and the roles of an async operation
abbrev pub op_meaning : Meaning OpRow OpCall (Reply OpRow)
op_meaning = record {
  words = words_of;
  IsOpening = IsOpening;
  row_after = row_after op_kind;
  reply_after = reply_after op_kind;
  number = number_of;
  owner_may = owner_may;
  made_may = made_may;
  is_last = is_last;
}

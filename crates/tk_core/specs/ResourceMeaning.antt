-- What a resource is, as an object that is stepped by calls.
use Rattle.tk_core.specs.declared.reply.Reply.{Reply}
use Rattle.tk_core.specs.declared.resource.row.ResourceRow.{ResourceRow}
use Rattle.tk_core.specs.declared.resource.call.ResourceCall.{ResourceCall}
use Rattle.tk_core.specs.Fold.{number_of, row_after, reply_after}
use Rattle.tk_core.specs.Meaning.{Meaning}
use Rattle.tk_core.specs.Resource.{resource_kind, IsOpening, owner_may, made_may, is_last}
use Rattle.tk_core.specs.ResourceWords.{words_of}

-- the words, the rows and replies, and the roles of a resource
abbrev pub resource_meaning : Meaning ResourceRow ResourceCall (Reply ResourceRow)
resource_meaning = record {
  words = words_of;
  IsOpening = IsOpening;
  row_after = row_after resource_kind;
  reply_after = reply_after resource_kind;
  number = number_of;
  owner_may = owner_may;
  made_may = made_may;
  is_last = is_last;
}

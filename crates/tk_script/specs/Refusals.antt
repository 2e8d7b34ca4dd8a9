-- The names by which a script stops.
use Rattle.std.specs.Prelude.{ℕ, List, codes}
use Rattle.tk_core.specs.declared.reply.Refusal.{Refusal}
use Rattle.tk_core.specs.declared.reply.Refusal.TheVariants as refusals
use Rattle.tk_script.specs.declared.stop.Stop.{Stop}
use Rattle.tk_script.specs.declared.stop.Stop.TheVariants.{BadCommand, TooManyPolls, NoSuchItem, Call, OffersSpent, Clock, NumbersSpent, Memory, WriteFault, NoThread, Stopped}

-- the name of a refused call
abbrev pub name_of : Refusal → List ℕ
name_of refusals.AlreadyPolling = codes "AlreadyPolling"
name_of refusals.NotPolling = codes "NotPolling"
name_of refusals.Closed = codes "Closed"
name_of refusals.HandlesSpent = codes "HandlesSpent"
name_of refusals.NoAttribute = codes "NoAttribute"
name_of refusals.WrongKind = codes "WrongKind"
name_of refusals.OutOfRange = codes "OutOfRange"
name_of refusals.Memory = codes "Memory"

-- the name by which a script stops
abbrev pub stop_name : Stop → List ℕ
stop_name BadCommand = codes "BadCommand"
stop_name TooManyPolls = codes "TooManyPolls"
stop_name NoSuchItem = codes "NoSuchItem"
stop_name (Call refusal) = name_of refusal
stop_name OffersSpent = codes "OffersSpent"
stop_name Clock = codes "Clock"
stop_name NumbersSpent = codes "NumbersSpent"
stop_name Memory = codes "Memory"
stop_name WriteFault = codes "WriteFault"
stop_name NoThread = codes "NoThread"
stop_name Stopped = codes "Stopped"

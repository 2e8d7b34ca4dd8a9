-- What a line that was written is.
use Rattle.std.specs.Prelude.{◌≡◌, ◌≤◌, ◌<◌, ℕ, Bool, true, false, List, ◌++◌, length, map, take, drop}
use Rattle.tk_stream.specs.Lines.{LineView, line_between, snapshot_of, told_times, with_times}
use Rattle.tk_stream.specs.Retention.{line_pruned, prune}
use Rattle.tk_stream.specs.Spelling.{sent_text}
use Rattle.tk_stream.specs.Tables.{TablesView}
use Rattle.tk_stream.specs.Times.{TaskTimes}
use Rattle.tk_embed.specs.declared.entries.Head.{Head}
use Rattle.tk_embed.specs.declared.entries.Answer.{Answer}
use Rattle.tk_embed.specs.declared.entries.TimesEntry.{TimesEntry}
use Rattle.tk_embed.specs.Entries.{Given, told_of, AreTables, times_entry_shown}
use Rattle.tk_embed.specs.Faults.{told_count}

-- the snapshot line of the tables of all entries, as they are
abbrev pub IsSnapshotFor : Head → Given → LineView → Type 0
IsSnapshotFor head given line = (new : TablesView) × AreTables true head given new × (line ≡ snapshot_of new head.seq)

-- the line that leads from the tables of the entries that were told, as they were told, to the tables of all entries, as they are
abbrev pub IsChangeFor : Head → Given → LineView → Type 0
IsChangeFor head given line = (old new : TablesView) × AreTables false head (told_of head given) old × AreTables true head given new
    × (line ≡ line_between old new head.seq)

-- the one or the other
abbrev pub IsLine : Bool → Head → Given → LineView → Type 0
IsLine true head given line = IsSnapshotFor head given line
IsLine false head given line = IsChangeFor head given line

-- the text of the line that a head and entries ask for
abbrev pub IsLineFor : Head → Given → List ℕ → Type 0
IsLineFor head given text = (line : LineView) × IsLine head.snapshot head given line × (text ≡ sent_text line)

-- the histograms that a line tells: of those that were told the ones that are others now, and all others
abbrev pub times_between : ℕ → List TimesEntry → List TaskTimes
times_between told times = told_times (map (times_entry_shown false) (take told times)) (map (times_entry_shown true) times)

-- the text of that line, as one that tells histograms too
abbrev pub IsTimedLineFor : Head → Given → ℕ → List TimesEntry → List ℕ → Type 0
IsTimedLineFor head given told times text = (line : LineView) × IsLine head.snapshot head given line
    × (text ≡ sent_text (with_times (times_between (told_count head told) times) line))

-- the text of the line of version 2 that says which of the entries leave, where the line before told them as they are: those that were
-- closed at least `retention` nanoseconds before the moment
abbrev pub IsGoneFor : Head → ℕ → Given → List ℕ → Type 0
IsGoneFor head retention given text = (told : TablesView) × AreTables true head given told
    × (text ≡ sent_text (line_pruned told (prune (record told { now = head.moment }) told head.moment retention) head.seq))

-- the text stands at the front of what was given for it, and the rest is as it was
abbrev pub IsFront : List ℕ → List ℕ → List ℕ → Type 0
IsFront text old new = new ≡ text ++ drop (length text) old

-- the answer of a status of a text of so many bytes
abbrev pub text_answer : ℕ → ℕ → Answer
text_answer status len = record { status = status; reason = 0; place = 0; len = len }

-- the text was written where it fits, and otherwise nothing was
abbrev pub IsWritten : List ℕ → List ℕ → List ℕ → Answer → Type 0
IsWritten text old new answer =
    (length text ≤ length old → (answer ≡ text_answer 0 (length text)) × IsFront text old new)
    × (length old < length text → (answer ≡ text_answer 1 (length text)) × (new ≡ old))

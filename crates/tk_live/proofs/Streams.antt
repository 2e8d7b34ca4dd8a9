-- Streams with one line more.
use Rattle.std.proofs.Common.{◌≡◌, ℕ, ◌+◌, List, [], ◌∷◌, ◌++◌, refl, ap, ◌∙◌}
use Rattle.std.proofs.lemmas.Grind.{flat_map-append}
use Rattle.tk_stream.specs.Spelling.{sent_text}
use Rattle.tk_stream.specs.Tables.{TablesView, empty_tables}
use Rattle.tk_stream.specs.Streams.{Sending, MaySend, GoesOn, lines_sent, bytes_sent, tables_sent, last_sent}
use Rattle.tk_live.specs.Ran.{written_by}
use Rattle.tk_live.specs.Runs.{bytes_after}

pub lines_append : (t : TablesView) (ss more : List Sending) → lines_sent t (ss ++ more) ≡ lines_sent t ss ++ lines_sent (tables_sent t ss) more
lines_append t [] more = refl
lines_append t (s ∷ ss) more = ap (λ l. Rattle.tk_stream.specs.Streams.line_sent t s ∷ l) (lines_append s.tables ss more)

pub tables_push : (t : TablesView) (ss : List Sending) (s : Sending) → tables_sent t (ss ++ s ∷ []) ≡ s.tables
tables_push t [] s = refl
tables_push t (r ∷ rs) s = tables_push r.tables rs s

pub last_push : (n : ℕ) (ss : List Sending) (s : Sending) → last_sent n (ss ++ s ∷ []) ≡ s.seq
last_push n [] s = refl
last_push n (r ∷ rs) s = last_push r.seq rs s

-- a line that may be sent goes on
pub goes_push : (t : TablesView) (n : ℕ) (ss : List Sending) (s : Sending) → GoesOn t n ss → s.seq ≡ last_sent n ss + 1 → MaySend (tables_sent t ss) s → GoesOn t n (ss ++ s ∷ [])
goes_push t n [] s on seq may = (seq, may, tt)
goes_push t n (r ∷ rs) s on seq may = (on.0, on.1, goes_push r.tables r.seq rs s on.2 seq may)

-- the bytes of more lines stand after those of the lines before
pub written_append : (sent more : List Sending) → written_by (sent ++ more) ≡ written_by sent ++ bytes_after sent more
written_append sent more = ap bytes_sent (lines_append empty_tables sent more) ∙ flat_map-append sent_text (lines_sent empty_tables sent) (lines_sent (tables_sent empty_tables sent) more)

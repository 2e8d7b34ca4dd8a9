use Rattle.std.proofs.Common.{◌≡◌, ◌≤◌, length}
use Rattle.json.specs.Json.{parse_map}
use Rattle.tk_json.specs.Values.{items_read}
use Rattle.tk_stream.specs.Reading.{each_of, values_of}
use Rattle.tk_stream.proofs.Lists.{with_front}
use Rattle.tk_stream.proofs.text.read_json.listed.read_items.Given as goal

abbrev pub invariant-items : goal.invariant-items
invariant-items g l = record {
  same : parse_map (λ ds. each_of g.T.Shaped.shape (values_of ds)) (items_read l.depth l.initial.reader)
      ≡ parse_map (λ ds. with_front l.found.items (each_of g.T.Shaped.shape (values_of ds))) (items_read l.depth l.reader);
  fewer : length l.reader ≤ length l.initial.reader;
}

abbrev pub decreases-items : goal.decreases-items
decreases-items g l = length l.reader

use Rattle.std.proofs.Common.{◌≡◌, drop}
use Rattle.serde_json.specs.View.{view}
use Rattle.tk_stream.specs.Reading.{each_of}
use Rattle.tk_stream.proofs.Lists.{with_front}
use Rattle.tk_stream.proofs.text.read_json.shaped.list_of.Given as goal

abbrev pub invariant-loop-value : goal.invariant-loop-value
invariant-loop-value g l =
    with_front l.list.items (each_of (λ v. g.T.Shaped.shape (view v)) (drop l.value-index l.values)) ≡ each_of (λ v. g.T.Shaped.shape (view v)) l.values

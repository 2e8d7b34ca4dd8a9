use Rattle.std.proofs.Common.{◌≡◌, ◌+◌, ◌∷◌, [], ◌++◌, arith, length, length-append}
use Rattle.tk_metrics.proofs.leavers.Leavers.note.Goals as goal

pub returns : goal.returns
returns c = λ by shown timed few is same f.
    let n = c.in_ok-note_left.ensures.notes by shown timed is same f.notes in
    let more : length (shown ++ c.args.tables.now ∷ []) ≡ length shown + 1 = length-append shown (c.args.tables.now ∷ []) in
    record {
      notes = record { told = n.told; keys = n.keys; held = n.held; times = n.times; resources = n.resources; counts = n.counts; latest = n.latest };
      lines = omega (arith, c.saturating_add-self.ensures, c.in_ok-note_left.ensures.lines, f.lines, few, more);
    }

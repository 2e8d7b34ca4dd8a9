use Rattle.json.specs.Print.{escape_byte}
use Rattle.tk_stream.proofs.Pieces.{both, before, nothing_before, short_both, short_put, taken, closes, line_split}
use Rattle.tk_stream.proofs.line.Line.put.Goals as goal

pub returns : goal.returns
unfolding escape_byte
returns c = rw (line_split c.args.self.now, ← c.version.ensures, ← c.self.view_is, ← c.as_slice.ensures.value, ← c.as_slice-2.ensures.value, ← c.as_slice-3.ensures.value, ← c.as_slice-4.ensures.value, ← c.as_slice-5.ensures.value, ← c.as_slice-6.ensures.value, ← c.as_slice-7.ensures.value)
    (both c.in_ok-put_dropped.ensures
    (both c.in_ok-put_gone.ensures
    (closes c.in_ok-put_open.ensures
    (closes c.in_ok-put_open-2.ensures
    (closes c.in_ok-put_open-3.ensures
    (short_both c.in_ok-put_short.ensures (before c.number_before-at.ensures.text (before c.text_before-at.ensures.text (nothing_before _ c.put_open-3.array_long)))
    (closes c.in_ok-put_items.ensures
    (closes c.in_ok-put_open-4.ensures
    (closes c.in_ok-put_open-5.ensures
    (short_both c.in_ok-put_short-2.ensures (before c.number_before-at-2.ensures.text (before c.flag_before-at.ensures.text (before c.text_before-at-2.ensures.text (nothing_before _ c.put_open-5.array_long))))
    (closes c.in_ok-put_items-2.ensures
    (both c.in_ok-put_text.ensures
    (both c.in_ok-put_times.ensures
    (short_put _ c.put_times.array_long c.in_ok-put_short-3.ensures (taken c.number_before-at-3.ensures.text c.text_before-at-3.ensures.text)))))))))))))))

use Rattle.std.proofs.Common.{◌≡◌, ◌+◌, length, take, drop, ap, ◌∙◌, rules}
use Rattle.std.proofs.lemmas.List.{with_items_is, places}
use Rattle.tk_until.proofs.Holding.{resized, cut_back, read-len}
use Rattle.tk_until.proofs.held.read_more.Goals as goal

pub returns-in-Ok-clause-read : goal.returns-in-Ok-clause-read
returns-in-Ok-clause-read g c =
    let old = c.args.bytes.now.items in
    let len = c.len-len.result in
    let now = c.read_at.new.bytes in
    let n = c.in-Ok.n in
    let long : length old ≡ len = search (rules, places) in (
      take n (drop len now),
      c.truncate.ensures.items ∙ ap (take (len + n)) (with_items_is c.resize.new.self now (search (rules, places)))
          ∙ cut_back old c.as_mut_slice.result.now now len n (ap (take len) c.as_mut_slice.ensures.value ∙ resized old c.resize.new.self.items _ len 65536 long c.in_ok-resize.ensures.items) c.in-Ok.ensures.front,
      c.in-Ok.ensures.read,
      read-len now len n c.in-Ok.ensures.fits,
    )

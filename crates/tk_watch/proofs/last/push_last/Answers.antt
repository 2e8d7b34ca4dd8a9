use Rattle.std.proofs.Common.{◌≤◌, ◌<◌, [], ◌∷◌, ◌++◌, ap, drop, length, ◌∙◌, arith}
use Rattle.tk_watch.specs.Lasts.{last_of}
use Rattle.tk_watch.proofs.LastLemmas.{last_fits, last_full}
use Rattle.tk_watch.proofs.last.push_last.Goals as goal

pub returns-then-len-room : goal.returns-then-len-room
returns-then-len-room g c = λ items is.
    let pushed = c.in_ok-push.ensures.items ∙ ap (λ xs. xs ++ c.args.item ∷ []) is in
    let len = c.len.ensures in
    let few = c.if-len-room.true in
    let long = ap length pushed in
    let fits : length (last_of c.args.room items ++ c.args.item ∷ []) ≤ c.args.room = omega (arith, len, few, long) in
    pushed ∙ last_fits c.args.room items c.args.item fits

pub returns : goal.returns
returns g c = λ items is.
    let pushed = c.in_ok-push.ensures.items ∙ ap (λ xs. xs ++ c.args.item ∷ []) is in
    let len = c.len.ensures in
    let many = c.if-len-room.false in
    let long = ap length pushed in
    let full : c.args.room < length (last_of c.args.room items ++ c.args.item ∷ []) = omega (arith, len, many, long) in
    c.remove.ensures.items ∙ ap (drop 1) pushed ∙ last_full c.args.room items c.args.item full

use Rattle.std.proofs.Common.{◌≡◌, List, ℕ, ◌++◌, ap, ◌∙◌, sym, append_assoc, subst}
use Rattle.std.specs.Io.KnownBytes.{Appends}
use Rattle.std.proofs.KnownBytes.{Appends-trans}
use Rattle.tk_stream.proofs.sent.send.Goals as goal

pub loop-rest-preserved : goal.loop-rest-preserved
loop-rest-preserved g c =
    let sent : List ℕ = c.loop-rest.invariant.0 in
    let front : List ℕ = c.split_at.result.0.now in
    let whole : c.args.bytes.now ≡ (sent ++ front) ++ c.split_at.result.1.now =
    c.loop-rest.invariant.1 ∙ ap (λ xs. sent ++ xs) c.split_at.ensures.by_index.0 ∙ sym (append_assoc sent front c.split_at.result.1.now) in
    let step : Appends (g.W.Write.contents c.loop-rest.writer) (g.W.Write.contents c.write.new.self) front =
    subst (λ xs. Appends (g.W.Write.contents c.loop-rest.writer) (g.W.Write.contents c.write.new.self) xs) (sym c.split_at.ensures.front) c.in-Ok.ensures.bytes in
    (sent ++ front, whole, Appends-trans _ _ _ sent front c.loop-rest.invariant.2 step)

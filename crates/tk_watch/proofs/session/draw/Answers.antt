use Rattle.std.proofs.Common.{◌≡◌, ◌∙◌, List, ℕ, subst}
use Rattle.std.specs.Io.KnownBytes.{Appends}
use Rattle.tk_stream.specs.Sent.{IsCut}
use Rattle.tk_watch.specs.Keyed.{text_of}
use Rattle.tk_watch.proofs.session.draw.Goals as goal

pub returns-in-Ok-send : goal.returns-in-Ok-send
returns-in-Ok-send g c = λ st s.
    let text_is : c.as_slice.result.now ≡ text_of c.args.screen.now st = c.as_slice.ensures.value ∙ c.in-Ok.ensures st s in
    subst (λ (t : List ℕ). Appends (g.W.Write.contents c.args.writer.now) (g.W.Write.contents c.send.new.writer) t) text_is c.in-Ok-send.ensures

pub returns : goal.returns
returns g c = λ st s.
    let text_is : c.as_slice.result.now ≡ text_of c.args.screen.now st = c.as_slice.ensures.value ∙ c.in-Ok.ensures st s in
    let sent = c.in-Err.ensures in
    (sent.0, subst (λ (t : List ℕ). IsCut t sent.0) text_is sent.1, sent.2)

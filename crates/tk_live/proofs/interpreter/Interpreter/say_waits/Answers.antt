use Rattle.std.proofs.Common.{◌≡◌, [], false, refl, sym, ◌∙◌}
use Rattle.tk_live.proofs.Settings.{waits_told}
use Rattle.tk_live.proofs.interpreter.Interpreter.say_waits.Goals as goal

pub returns : goal.returns
returns c line settings k kept sent stands =
    let first : k.begun ≡ false = sym stands.begun ∙ c.if-self.false in
    let once : k.waits_said ≡ false = sym stands.waits_said ∙ c.if-self-2.false in
    (rw (first, once) refl, [], waits_told c.args.self.now settings k kept sent stands)

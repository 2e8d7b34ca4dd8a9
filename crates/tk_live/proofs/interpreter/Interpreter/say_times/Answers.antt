use Rattle.std.proofs.Common.{◌≡◌, [], false, refl, sym, ◌∙◌}
use Rattle.tk_live.proofs.Settings.{times_told}
use Rattle.tk_live.proofs.interpreter.Interpreter.say_times.Goals as goal

pub returns : goal.returns
returns c line settings k kept sent stands =
    let first : k.begun ≡ false = sym stands.begun ∙ c.if-self.false in
    let once : k.times_said ≡ false = sym stands.times_said ∙ c.if-self-2.false in
    (rw (first, once) refl, [], times_told c.args.self.now settings k kept sent stands)

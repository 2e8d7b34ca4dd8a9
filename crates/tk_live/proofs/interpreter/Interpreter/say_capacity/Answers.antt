use Rattle.std.proofs.Common.{◌≡◌, [], false, refl, sym, ◌∙◌}
use Rattle.tk_live.proofs.Settings.{capacity_told}
use Rattle.tk_live.proofs.interpreter.Interpreter.say_capacity.Goals as goal

pub returns : goal.returns
returns c line n settings k kept sent stands =
    let first : k.begun ≡ false = sym stands.begun ∙ c.if-self.false in
    let once : k.capacity_said ≡ false = sym stands.capacity_said ∙ c.if-self-2.false in
    (rw (first, once) refl, [], capacity_told c.args.self.now settings k kept sent stands)

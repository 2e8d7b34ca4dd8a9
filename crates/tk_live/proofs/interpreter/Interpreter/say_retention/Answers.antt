use Rattle.std.proofs.Common.{◌≡◌, [], false, refl, sym, ◌∙◌}
use Rattle.tk_live.proofs.Settings.{retention_told}
use Rattle.tk_live.proofs.interpreter.Interpreter.say_retention.Goals as goal

pub returns : goal.returns
returns c line n settings k kept sent stands =
    let first : k.begun ≡ false = sym stands.begun ∙ c.if-self.false in
    let once : k.retention_said ≡ false = sym stands.retention_said ∙ c.if-self-2.false in
    (rw (first, once) refl, [], retention_told c.args.self.now settings k kept sent stands)

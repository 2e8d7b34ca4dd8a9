use Rattle.std.proofs.Common.{refl}
use Rattle.tk_script.specs.Commands.{last_line, lines_of}
use Rattle.tk_live.proofs.Whole.{writes}
use Rattle.tk_live.proofs.script.run.Goals as goal

pub returns : goal.returns
returns g c =
    let d = c.run_lines in
    (d.ensures.0, writes (g.G.Gate.answers c.args.gate.now) (last_line c.args.script.now) (lines_of c.args.script.now) d.result d.ensures.0 d.ensures.1, d.ensures.2)

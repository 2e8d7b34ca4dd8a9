use Rattle.std.proofs.Common.{◌≡◌, true, false, Some, None, sym, ap, ◌∙◌}
use Rattle.std.specs.Prelude.{option_map}
use Rattle.tk_script.specs.Commands.{view, said, block_said, block_line, is_skipped}
use Rattle.tk_script.specs.Pieces.{pieces_at}
use Rattle.tk_live.proofs.Blocks.{open_some, open_none, said_came, block_came, skipped_came, refused, declared_takes, lacked, bad_came, line_is_block, line_is_said}
use Rattle.tk_live.proofs.script.run_line.Goals as goal

pub returns-then-is_skipped : goal.returns-then-is_skipped
returns-then-is_skipped g c settings k kept sent stands was =
    let skips : is_skipped c.args.line.now ≡ true = sym c.if-is_skipped.ensures in
    rw skips (skipped_came (g.G.Gate.answers c.args.gate.now) c.args.number settings k kept sent c.args.interpreter.now c.args.block.now (g.W.Write.contents c.args.writer.now) stands was)

pub returns-in-Some : goal.returns-in-Some
returns-in-Some g c settings k kept sent stands was =
    let counts : is_skipped c.args.line.now ≡ false = sym c.if-is_skipped.ensures in
    let is : block_said c.args.line.now ≡ Some (block_line c.in-Some.said) = sym c.block_said.ensures ∙ ap (option_map block_line) c.in-Some.is in
    let d = c.run_block_line in
    rw (line_is_block c.args.line.now (block_line c.in-Some.said) counts is) (block_came (g.G.Gate.answers c.args.gate.now) c.args.number settings k kept sent c.in-Some.said d.new.interpreter d.new.block d.result (g.W.Write.contents c.args.writer.now)
    (d.ensures c.args.number settings k kept sent stands was))

pub returns-then-is_some : goal.returns-then-is_some
returns-then-is_some g c settings k kept sent stands was =
    let counts : is_skipped c.args.line.now ≡ false = sym c.if-is_skipped.ensures in
    let none : block_said c.args.line.now ≡ None = sym c.block_said.ensures ∙ ap (option_map block_line) c.in_default.is in
    let there = open_some c.args.block.now k was c.if-is_some.ensures in
    rw (line_is_said c.args.line.now counts none) (refused (g.G.Gate.answers c.args.gate.now) c.args.number settings k kept sent c.args.interpreter.now c.args.block.now (g.W.Write.contents c.args.writer.now) there.0 (said c.args.line.now) there.1 stands)

pub returns-in_default-command_of : goal.returns-in_default-command_of
returns-in_default-command_of g c settings k kept sent stands was =
    let counts : is_skipped c.args.line.now ≡ false = sym c.if-is_skipped.ensures in
    let none : block_said c.args.line.now ≡ None = sym c.block_said.ensures ∙ ap (option_map block_line) c.in_default.is in
    let closed = open_none c.args.block.now k was c.if-is_some.ensures in
    rw (line_is_said c.args.line.now counts none) (lacked (g.G.Gate.answers c.args.gate.now) c.args.number settings k kept sent c.args.interpreter.now c.args.block.now (g.W.Write.contents c.args.writer.now) (said c.args.line.now)
    (λ s told. declared_takes (pieces_at 32 c.args.line.now) s c.in_default-command_of.ensures.memory told) closed stands)

pub returns-in-Some-said : goal.returns-in-Some-said
returns-in-Some-said g c settings k kept sent stands was =
    let counts : is_skipped c.args.line.now ≡ false = sym c.if-is_skipped.ensures in
    let none : block_said c.args.line.now ≡ None = sym c.block_said.ensures ∙ ap (option_map block_line) c.in_default.is in
    let closed = open_none c.args.block.now k was c.if-is_some.ensures in
    let told : said c.args.line.now ≡ Some (view c.in-Some-said.command) = sym c.in-Ok.ensures.said ∙ ap (option_map view) c.in-Some-said.is in
    rw (line_is_said c.args.line.now counts none, told) (said_came (g.G.Gate.answers c.args.gate.now) c.args.number settings k kept sent (view c.in-Some-said.command) c.run.new.self c.args.block.now c.run.result
    (g.W.Write.contents c.args.writer.now) (g.W.Write.contents c.run.new.writer) closed was (c.run.ensures settings k kept sent stands))

pub returns-in-None : goal.returns-in-None
returns-in-None g c settings k kept sent stands was =
    let counts : is_skipped c.args.line.now ≡ false = sym c.if-is_skipped.ensures in
    let none : block_said c.args.line.now ≡ None = sym c.block_said.ensures ∙ ap (option_map block_line) c.in_default.is in
    let closed = open_none c.args.block.now k was c.if-is_some.ensures in
    let told : said c.args.line.now ≡ None = sym c.in-Ok.ensures.said ∙ ap (option_map view) c.in-None.is in
    rw (line_is_said c.args.line.now counts none, told) (bad_came (g.G.Gate.answers c.args.gate.now) c.args.number settings k kept sent c.args.interpreter.now c.args.block.now (g.W.Write.contents c.args.writer.now) closed stands)

use Rattle.std.proofs.Common.{◌≡◌, ◌++◌, ap, subst, ◌∙◌}
use Rattle.tk_stream.specs.Ranges.{IsLine}
use Rattle.tk_stream.specs.Reading.{line_of_text}
use Rattle.tk_stream.specs.Spelling.{line_text, is_one_line}
use Rattle.tk_stream.proofs.Decoded.{text_reads}
use Rattle.tk_stream.proofs.NoEnds.{text_is_one_line}
use Rattle.tk_stream.proofs.line.Line.write.Goals as goal

pub returns : goal.returns
returns c =
    let text : c.put.new.out.items ≡ line_text c.args.self.now =
    c.in_ok-put.ensures.is ∙ ap (λ xs. xs ++ line_text c.args.self.now) c.in_ok-out.ensures.items in
    record {
      text = text;
      one_line = ap is_one_line text ∙ text_is_one_line c.args.self.now;
      memory = tt;
      reads_back = ap line_of_text text ∙ text_reads c.args.self.now (subst IsLine c.self.view_is c.self.invariant);
    }

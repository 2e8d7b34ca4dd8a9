use Rattle.std.proofs.Common.{◌/◌, ◌%◌, take, ap, arith}
use Rattle.tk_core.proofs.AttrParts.{six_by_bits}
use Rattle.tk_core.proofs.attr_values.AttrValues.from_words.Goals as goal

pub returns : goal.returns
returns c = rw (c.first_of.ensures, c.kind_of_bits.ensures, c.kind_of_bits-2.ensures, c.kind_of_bits-3.ensures, c.kind_of_bits-4.ensures, c.kind_of_bits-5.ensures, c.kind_of_bits-6.ensures) (ap (λ vs. take (c.args.flags / 256 % 8) vs) (six_by_bits c.args.words.now 0 _ _ _ _ _ _ _ _ _ _ _ _ (omega arith)))

use Rattle.std.proofs.Common.{ℕ, ◌≤◌, ◌<◌, ◌^◌, length, decimal, arith}
use Rattle.std.proofs.lemmas.Fmt.{length-decimal-le}
use Rattle.tk_stream.proofs.text.write.short.number_before.Goals as goal

few_digits : (n : ℕ) → n < 2 ^ 64 → length (decimal n) ≤ 20
few_digits n fits = length-decimal-le 20 n (omega arith) (omega arith) fits

pub write_digits-start-requires : goal.write_digits-start-requires
write_digits-start-requires g c = omega (arith, few_digits c.args.n c.ranges.n.fits)

pub text_before-requires : goal.text_before-requires
text_before-requires g c = omega (arith, few_digits c.args.n c.ranges.n.fits)

pub returns-clause-place : goal.returns-clause-place
returns-clause-place g c = omega (arith, few_digits c.args.n c.ranges.n.fits)
